-- How deep subrequests nest, and which sites ask for none.
use Rattle.std.proofs.Common.{◌≡◌, ℕ, zero, suc, Bool, true, false, List, [], ◌∷◌, None, Some, is_some, refl, ap}
use Rattle.acts.specs.Vars.{Vars}
use Rattle.addition_filter.specs.filter_api.Members.{others_of}
use Rattle.file_path.specs.ngx_variables.declared.request.Main.{Main}
use Rattle.file_path.specs.ngx_variables.declared.request.Request.{Request}
use Rattle.file_path.specs.ngx_variables.declared.request.Role.{Role}
use Rattle.file_path.specs.ngx_variables.declared.request.Role.TheVariants as role
use Rattle.site_views.specs.Values.{Values}
use Rattle.site_views.specs.Rewrites.{Program}
use Rattle.site_views.specs.Rewrites.Directive.{Set, If, Rewrite, Return, Stop}
use Rattle.site_views.specs.Views.{LevelView}
use Rattle.request_meaning.specs.Serving.{World, Child, Standing, is_main_role}
use Rattle.request_meaning.specs.Serving.From.{Start}
use Rattle.request_meaning.specs.Answering.{facts_of}
use Rattle.request_meaning.specs.Access.{auth_child}
use Rattle.request_meaning.specs.Bodies.{filtered_marks}
use Rattle.request_meaning.specs.Documents.{begun}
use Rattle.request_meaning.specs.Replies.{served, script, main_script, outside, child_asked, most_changes, most_depth}
use Rattle.request_meaning.specs.Laws.{AsksOnly, anything, no_child, MayAsk, SubrequestsNest, AllBlocks, LevelHas, IsAlone, MakesText, AloneAsksNone}
use Rattle.request_meaning.proofs.Asks.{Only, only_done, only_bind}
use Rattle.request_meaning.proofs.AsksPhases.{only_rounds}
use Rattle.request_meaning.proofs.AsksDocuments.{only_body, only_text}
use Rattle.request_meaning.proofs.Levels.{search_has, named_has}

-- ---- any site

abbrev AnyValues : Values → Type 0
AnyValues values = Unit {0}

any_blocks : (program : Program) → AllBlocks AnyValues program
any_blocks [] = tt
any_blocks (Set name text ∷ program) = (tt, any_blocks program)
any_blocks (If test negated block None ∷ program) = (tt, any_blocks program)
any_blocks (If test negated block (Some values) ∷ program) = (tt, any_blocks program)
any_blocks (Rewrite pattern to is_url flag ∷ program) = (tt, any_blocks program)
any_blocks (Return code text ∷ program) = (tt, any_blocks program)
any_blocks (Stop ∷ program) = (tt, any_blocks program)

any_level : (level : LevelView) → LevelHas AnyValues level
any_level level = (tt, any_blocks level.program)

content_may : (left n : ℕ) → left ≡ suc n → (c : Child) → c.role ≡ role.Content → MayAsk left c
content_may zero n e c r = cc
content_may (suc left) n e c r = ap is_main_role r

-- where a level is left the request may be any; where none is left it is no main request, so it asks for no auth subrequest
abbrev MayBe : (left : ℕ) → Role → Type 0
MayBe zero r = is_main_role r ≡ false
MayBe (suc left) r = Unit {0}

auth_may : (left : ℕ) (main : Main) (path : List ℕ) (r : Role) (v : Values) → MayBe left r → AnyValues v → is_main_role r ≡ true → v.auth ≡ Some path → MayAsk left (auth_child main path)
auth_may zero main path r v m a is e = cc (m, is)
auth_may (suc left) main path r v m a is e = refl

nests : (w : World) (left : ℕ) (ssi : Vars) (main : Main) (request : Request) (inside : Bool) → MayBe left request.role →
    Only (MayAsk left) anything (served w left ssi (record { main = main; request = request; from = Start; inside = inside; error = None; closes = false }))
unfolding served begun
nests w left ssi main request inside m =
    only_bind
    (only_rounds w left (MayAsk left) (MayBe left) AnyValues (auth_may left) (any_level w.server.level) (λ path f e. any_level f.level) (λ name l e. any_level l)
    (λ s answer status kind bytes ssi v. only_body w (MayAsk left) left (content_may left) (begun answer.main answer.request answer.values left ssi) (filtered_marks w (facts_of s status kind) bytes) refl)
    most_changes (record { main = main; request = request; from = Start; inside = inside; error = None; closes = false }) (m, tt))
    (λ p hp. only_bind (hp ssi) (λ a _. only_done _ tt))

nests_main : (w : World) (main : Main) (request : Request) → AsksOnly (MayAsk most_depth) anything (main_script w main request)
unfolding main_script
nests_main w main request = (nests w most_depth [] main request false tt).asks

child_may : (left : ℕ) (c : Child) → is_main_role c.role ≡ false → MayBe left c.role
child_may zero c h = h
child_may (suc left) c h = tt

nests_child : (w : World) (left : ℕ) (c : Child) → is_main_role c.role ≡ false → AsksOnly (MayAsk left) anything (script w left c)
unfolding script
nests_child w left c h = (nests w left c.ssi c.main (child_asked c).request true (child_may left c h)).asks

pub nest : SubrequestsNest
nest = record { main = nests_main; child = nests_child }

-- ---- sites without auth subrequests, includes and additions

abbrev AnyRole : Role → Type 0
AnyRole r = Unit {0}

no_auth : (main : Main) (path : List ℕ) (r : Role) (v : Values) → AnyRole r → IsAlone v → is_main_role r ≡ true → v.auth ≡ Some path → no_child (auth_child main path)
no_auth main path r v a h is e = cc (h.auth, e)

text_of_facts : (w : World) → MakesText w → (s : Standing) (status : ℕ) (kind bytes : List ℕ) → IsAlone s.values → others_of (filtered_marks w (facts_of s status kind) bytes) ≡ []
unfolding facts_of
text_of_facts w text s status kind bytes h = text (facts_of s status kind) bytes h.ssi (ap is_some h.before) (ap is_some h.after)

pub alone : AloneAsksNone
unfolding main_script served
alone w levels text main request =
    (only_bind
    (only_rounds w most_depth no_child AnyRole IsAlone no_auth levels.own (search_has IsAlone w.finds w.server.locations levels.locations) (named_has IsAlone w.server levels.named)
    (λ s answer status kind bytes ssi h.
    only_text w no_child (begun answer.main answer.request answer.values most_depth ssi) (filtered_marks w (facts_of s status kind) bytes) (text_of_facts w text s status kind bytes h))
    most_changes (outside main request) (tt, tt))
    (λ p hp. only_bind (hp []) (λ a _. only_done _ tt))).asks
