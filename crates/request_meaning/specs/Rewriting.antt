-- Rewrite programs, run over whole lists of directives (https://nginx.org/en/docs/http/ngx_http_rewrite_module.html).
use Rattle.std.specs.Prelude.{ℕ, zero, suc, ◌==◌, ◌||◌, Bool, true, false, not, List, [], ◌∷◌, bytes_eq, Option, None, Some, if◌then◌else◌}
use Rattle.acts.specs.Act.{Done, Stat, ◌>>=◌, ◌>>◌}
use Rattle.file_tree.specs.Tree.{Item, AFile, AFolder, ALocked, Nothing}
use Rattle.file_path.specs.ngx_variables.declared.request.Main.{Main}
use Rattle.file_path.specs.ngx_variables.declared.request.Request.{Request}
use Rattle.file_path.specs.ngx_variables.declared.request.FileRoot.TheVariants.{Whole}
use Rattle.file_path.specs.ngx_variables.Grammar.{begins_with}
use Rattle.file_path.specs.ngx_variables.Acts.{value}
use Rattle.file_path.specs.Located.{Located, located}
use Rattle.file_path.specs.Located.Located.{TooLong, NotThere, At}
use Rattle.site_views.specs.Pattern.{Span, groups_in}
use Rattle.site_views.specs.Values.{Values, Text}
use Rattle.site_views.specs.Rewrites.{FileTest, Test, Flag, Directive, Program}
use Rattle.site_views.specs.Rewrites.FileTest.{IsFile, IsFolder, IsThere}
use Rattle.site_views.specs.Rewrites.Test.{IsSet, Equals, Matches, OnFile}
use Rattle.site_views.specs.Rewrites.Flag.{NoFlag, Last, Break, Redirect, Permanent}
use Rattle.site_views.specs.Rewrites.Directive.{Set, If, Rewrite, Return, Stop}
use Rattle.request_meaning.specs.Serving.{World, Serving, Standing, puts}
use Rattle.request_meaning.specs.Cuts.{Target, target, fit_value, ends_in_question, rewritten_args, with_args}

-- ---- conditions

-- a file that may not be read counts as a file
abbrev pub passes : FileTest → Item → Bool
passes IsFile (AFile bytes date) = true
passes IsFile AFolder = false
passes IsFile ALocked = true
passes IsFile Nothing = false
passes IsFolder (AFile bytes date) = false
passes IsFolder AFolder = true
passes IsFolder ALocked = false
passes IsFolder Nothing = false
passes IsThere (AFile bytes date) = true
passes IsThere AFolder = true
passes IsThere ALocked = true
passes IsThere Nothing = false

-- what a condition says: whether it holds, and the groups of a match; or a text of it was too long
pub data Tested : Type 0 where
  Says : (holds : Bool) → (groups : Option (List (List ℕ))) → Tested
  Unfit : Tested

abbrev pub says : Bool → Tested
says holds = Says holds None

-- a variable's text is false where it is empty or `0`
abbrev pub is_true : List ℕ → Bool
is_true [] = false
is_true (b ∷ text) = not (bytes_eq (b ∷ text) (48 ∷ []))

abbrev pub equals : List ℕ → Option (List ℕ) → Tested
equals left None = Unfit
equals left (Some right) = says (bytes_eq left right)

abbrev pub matching : List ℕ → Option (List Span) → Tested
matching left None = says false
matching left (Some spans) = Says true (Some (groups_in left spans))

-- no file is sought at a path where none can be
unfoldable pub asked_at : FileTest → Located → Serving Tested
asked_at test TooLong = Done Unfit
asked_at test NotThere = Done (says (passes test Nothing))
asked_at test (At path) = Stat path (λ item. Done (says (passes test item)))

abbrev pub test_at : FileTest → Main → Option (List ℕ) → Serving Tested
test_at test main None = Done Unfit
test_at test main (Some text) = asked_at test (located (Whole []) text [] main.folder)

unfoldable pub tested : World → Main → Request → Test → Serving Tested
tested w main request (IsSet variable) = do
  text ← value main request (variable ∷ [])
  Done (says (is_true text))
tested w main request (Equals variable text) = do
  left ← value main request (variable ∷ [])
  right ← fit_value main request text
  Done (equals left right)
tested w main request (Matches variable pattern) = do
  left ← value main request (variable ∷ [])
  Done (matching left (w.finds pattern left))
tested w main request (OnFile test path) = do
  text ← fit_value main request path
  test_at test main text

-- ---- directives

-- as far as a program has come: where the request is, and whether a location is to be sought after it
pub record Passed : Type 0 where
  pub at : Standing
  pub seeks : Bool

-- what a program comes to
pub data Ran : Type 0 where
  -- it came to its end
  Ends : Passed → Ran
  -- `return` answers this status, with a text or without one
  Returns : Standing → (code : ℕ) → (text : Option (List ℕ)) → Ran
  -- it answers a redirect
  Redirects : Standing → (code : ℕ) → (to : Option (List ℕ)) → Ran
  -- `return 444` closes the connection
  Drops : Standing → Ran
  -- a text was too long or no path; `first` where that was a `set` of the run that begins the program
  Breaks : Standing → (first : Bool) → Ran

-- what a directive does: the program goes on past this many more directives, or ends
pub data Step : Type 0 where
  Goes : (skip : ℕ) → Passed → Step
  Stops : Ran → Step

abbrev pub with_groups : Option (List (List ℕ)) → Request → Request
with_groups None request = request
with_groups (Some groups) request = record request { groups = groups }

abbrev pub matched : Option (List (List ℕ)) → Passed → Passed
matched groups p = record p { at = record (p.at) { request = with_groups groups p.at.request } }

-- a request in a level: its files are where the level says
abbrev pub in_level : Values → Standing → Standing
in_level values s = record { request = record (s.request) { place = Some values.place }; values = values; inside = s.inside }

abbrev pub in_block : Option Values → Passed → Passed
in_block None p = p
in_block (Some values) p = record p { at = in_level values p.at }

abbrev pub set_step : (first : Bool) → List ℕ → Passed → Option (List ℕ) → Serving Step
set_step first name p None = Done (Stops (Breaks p.at first))
set_step first name p (Some text) = do
  puts name text
  Done (Goes 0 p)

-- a true `if` goes into its block, and in a location into its level; a false one goes on after it
abbrev pub if_step : (negated : Bool) → (block : ℕ) → Option Values → Passed → Tested → Step
if_step negated block values p Unfit = Stops (Breaks p.at false)
if_step negated block values p (Says holds groups) =
    if (if negated then not holds else holds)
    then Goes 0 (in_block values (matched groups p))
    else Goes block (matched groups p)

-- 301, 302, 303, 307 and 308
abbrev pub is_redirect : ℕ → Bool
is_redirect code = (code == 301) || (code == 302) || (code == 303) || (code == 307) || (code == 308)

abbrev pub return_step : ℕ → Passed → Option (List ℕ) → Step
return_step code p text =
    if code == 444 then Stops (Drops p.at)
    else (if is_redirect code then Stops (Redirects p.at code text) else Stops (Returns p.at code text))

abbrev pub some_text : Option (List ℕ) → Option (Option (List ℕ))
some_text None = None
some_text (Some text) = Some (Some text)

unfoldable pub return_text : Main → Request → Option Text → Serving (Option (Option (List ℕ)))
return_text main request None = Done (Some None)
return_text main request (Some text) = do
  bytes ← fit_value main request text
  Done (some_text bytes)

abbrev pub returned : ℕ → Passed → Option (Option (List ℕ)) → Step
returned code p None = Stops (Breaks p.at false)
returned code p (Some text) = return_step code p text

-- a redirect to a whole address
abbrev pub rewrite_moves : Passed → (code : ℕ) → List ℕ → List ℕ → Step
rewrite_moves p code path args = Stops (Redirects p.at code (Some (with_args path args)))

-- another path, which isn't made normal again
abbrev pub changed : Passed → List ℕ → List ℕ → (seeks : Bool) → Passed
changed p path args seeks = record { at = record (p.at) { request = record (p.at.request) { path = path; args = args }; inside = true }; seeks = seeks }

abbrev pub rewrite_goes : Flag → Passed → List ℕ → List ℕ → Step
rewrite_goes NoFlag p path args = Goes 0 (changed p path args true)
rewrite_goes Last p path args = Stops (Ends (changed p path args true))
rewrite_goes Break p path args = Stops (Ends (changed p path args false))
rewrite_goes Redirect p path args = rewrite_moves p 302 path args
rewrite_goes Permanent p path args = rewrite_moves p 301 path args

abbrev pub is_moved : (is_url : Bool) → Flag → Bool
is_moved is_url NoFlag = is_url
is_moved is_url Last = is_url
is_moved is_url Break = is_url
is_moved is_url Redirect = true
is_moved is_url Permanent = true

abbrev pub move_code : Flag → ℕ
move_code Permanent = 301
move_code Redirect = 302
move_code NoFlag = 302
move_code Last = 302
move_code Break = 302

-- a path of the site begins with `/`
abbrev pub rewrite_by : (is_url : Bool) → Flag → Passed → List ℕ → List ℕ → Step
rewrite_by is_url flag p path args =
    if is_moved is_url flag then rewrite_moves p (move_code flag) path args
    else (if begins_with 47 path then rewrite_goes flag p path args else Stops (Breaks p.at false))

abbrev pub rewrite_to : Text → (is_url : Bool) → Flag → Passed → Option Target → Step
rewrite_to to is_url flag p None = Stops (Breaks p.at false)
rewrite_to to is_url flag p (Some t) = rewrite_by is_url flag p t.path (rewritten_args p.at.request.args t.args (ends_in_question to))

-- a `rewrite` is tried on the path; where it matches, its groups are set and its text is evaluated
unfoldable pub rewrite_step : Main → Text → (is_url : Bool) → Flag → Passed → Option (List Span) → Serving Step
rewrite_step main to is_url flag p None = Done (Goes 0 p)
rewrite_step main to is_url flag p (Some spans) = do
  let now = matched (Some (groups_in p.at.request.path spans)) p
  t ← target main now.at.request to
  Done (rewrite_to to is_url flag now t)

unfoldable pub step : World → Main → (first : Bool) → Passed → Directive → Serving Step
step w main first p (Set name text) = do
  bytes ← fit_value main p.at.request text
  set_step first name p bytes
step w main first p (If test negated block values) = do
  told ← tested w main p.at.request test
  Done (if_step negated block values p told)
step w main first p (Rewrite pattern to is_url flag) = rewrite_step main to is_url flag p (w.finds pattern p.at.request.path)
step w main first p (Return code text) = do
  bytes ← return_text main p.at.request text
  Done (returned code p bytes)
step w main first p Stop = Done (Stops (Ends (record p { seeks = false })))

-- the run of `set`s that begins a program
abbrev pub stays_first : Bool → Directive → Bool
stays_first first (Set name text) = first
stays_first first (If test negated block values) = false
stays_first first (Rewrite pattern to is_url flag) = false
stays_first first (Return code text) = false
stays_first first Stop = false

abbrev pub on : Step → (ℕ → Passed → Serving Ran) → Serving Ran
on (Goes skip p) k = k skip p
on (Stops ran) k = Done ran

-- What a program comes to, past this many of its directives.
unfoldable pub rewritten : World → Main → (first : Bool) → (skip : ℕ) → Program → Passed → Serving Ran
rewritten w main first skip [] p = Done (Ends p)
rewritten w main first (suc skip) (d ∷ program) p = rewritten w main false skip program p
rewritten w main first zero (d ∷ program) p = do
  s ← step w main first p d
  on s (λ skip q. rewritten w main (stays_first first d) skip program q)

-- a program is run where the request is
abbrev pub begins_at : Standing → Passed
begins_at s = record { at = s; seeks = false }

unfoldable pub program_run : World → Main → Program → Standing → Serving Ran
program_run w main program s = rewritten w main true 0 program (begins_at s)
