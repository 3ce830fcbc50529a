-- Where errors go (https://nginx.org/en/docs/http/ngx_http_core_module.html#error_page), beside what the meaning makes of it.
use Rattle.std.specs.Prelude.{◌≡◌, ℕ, ◌==◌, ◌&&◌, ◌||◌, nat_lt, Bool, not, List, Option, None, Some, is_some}
use Rattle.std.specs.List.{list_any}
use Rattle.acts.specs.Vars.{Vars}
use Rattle.target_text.specs.ngx_variables.declared.request.Main.{Main}
use Rattle.target_text.specs.ngx_variables.declared.request.Request.{Request}
use Rattle.target_text.specs.ngx_variables.Texts.{value_text}
use Rattle.site_whole.specs.site_model.declared.values.Shown.{Shown}
use Rattle.site_whole.specs.site_views.Values.{PageRule, PageTarget}
use Rattle.site_whole.specs.site_views.Values.PageTarget.{AtPath, AtLocation, AtUrl}
use Rattle.site_whole.specs.Whole.{shown_seen}
use Rattle.request_meaning.specs.Serving.{Asked, Standing}
use Rattle.request_meaning.specs.Cuts.{Target, or_none}
use Rattle.request_meaning.specs.Answering.{page, moved}
use Rattle.request_meaning.specs.Errors.{Next, page_asked, page_named, closing, url_code}
use Rattle.request_meaning.specs.Errors.Next.{Answered, Changed}
use Rattle.target_text.specs.Settled.{fit, target_text}
use Rattle.error_pages.specs.declared.page.PageStep.{PageStep}
use Rattle.error_pages.specs.declared.page.PageStep.TheVariants.{Inside, Named, Url}

-- ---- when there is no page

abbrev pub names_code : ℕ → PageRule → Bool
names_code code r = list_any (λ c. c == code) r.codes

-- while a change is left, and once for each request unless `recursive_error_pages` is on
abbrev pub applies : (left : ℕ) → (used recursive : Bool) → Bool
applies left used recursive = not (left == 0) && (recursive || not used)

-- No change is left; an error was handled, and pages aren't recursive; the code is below 400; or no rule names it.
abbrev pub has_no_page : List PageRule → (code left : ℕ) → (used recursive : Bool) → Bool
has_no_page rules code left used recursive =
    (left == 0) || (used && not recursive) || (nat_lt code 400 || not (list_any (names_code code) rules))

-- ---- what an error comes to

-- an error of this request
pub record IsErrorOf (main : Main) (request : Request) (a : Asked) (s : Standing) : Type 0 where
  pub of_main : a.main ≡ main
  pub of_request : s.request ≡ request

-- an error of this request in a level with these rules, with or without an error that was handled before
pub record IsFor (main : Main) (request : Request) (rules : List PageRule) (used recursive : Bool) (a : Asked) (s : Standing) : Type 0 where
  pub error : IsErrorOf main request a s
  pub by_rules : s.values.pages ≡ rules
  pub is_used : is_some a.error ≡ used
  pub is_recursive : s.values.recursive ≡ recursive

-- what the phases go on with: the built-in page, where there is none of its own
abbrev pub page_next : Asked → Standing → (code : ℕ) → Option PageStep → Next
page_next a s code None = Answered (page a s code)
page_next a s code (Some (Inside path args shown)) = Changed s (page_asked a s code (shown_seen shown) path args)
page_next a s code (Some (Named name shown)) = Changed s (page_named a s code (shown_seen shown) name)
page_next a s code (Some (Url moved_by to)) = Answered (moved (closing a code) s moved_by (Some to))

-- a text that is too long is an error that is answered by the built-in page
abbrev pub too_long_next : Asked → Standing → (code : ℕ) → Next
too_long_next a s code = Answered (page (closing a code) s 500)

-- ---- steps of the two kinds of texts

abbrev pub IsInside : Option Target → Shown → PageStep → Type 0
IsInside None shown step = ⊥
IsInside (Some t) shown step = step ≡ Inside t.path (or_none t.args) shown

abbrev pub IsAway : Option (List ℕ) → Shown → PageStep → Type 0
IsAway None shown step = ⊥
IsAway (Some to) shown step = step ≡ Url (url_code (shown_seen shown)) to

-- ---- when a text is too long

-- the text of the page's path with its arguments, or of its address, has more than 16384 bytes
abbrev pub IsTooLong : Main → Request → Vars → PageTarget → Type 0
IsTooLong main request vars (AtPath text) = target_text main request vars text ≡ None
IsTooLong main request vars (AtLocation name) = ⊥
IsTooLong main request vars (AtUrl text) = fit (value_text main request vars text) ≡ None

-- a rule applies, whose text is so
abbrev pub IsTooLongBy : Main → Request → Vars → Option PageRule → Type 0
IsTooLongBy main request vars None = ⊥
IsTooLongBy main request vars (Some rule) = IsTooLong main request vars rule.target
