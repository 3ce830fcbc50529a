-- How the acts of single directives settle.
use Rattle.std.proofs.Common.{◌≡◌, ℕ, Bool, true, false, List, [], ◌∷◌, Option, Some, None, option_map, refl, sym, ◌∙◌, ap}
use Rattle.acts.specs.Vars.{Vars}
use Rattle.acts.specs.Act.{Act, Done, Stat, ◌>>=◌, settled, settled_then}
use Rattle.acts.proofs.ActLaws.{settles_in_turn}
use Rattle.file_tree.specs.Tree.{Item, Nothing}
use Rattle.request_meaning.specs.file_path.Located.{Located, located}
use Rattle.request_meaning.specs.file_path.Located.Located.{TooLong, NotThere, At}
use Rattle.ngx_pattern.specs.Pattern as of_set
use Rattle.ngx_variables.specs.declared.request.Main.{Main}
use Rattle.ngx_variables.specs.declared.request.Request.{Request}
use Rattle.ngx_variables.specs.declared.request.FileRoot.TheVariants.{Whole}
use Rattle.ngx_variables.specs.Texts.{value_text}
use Rattle.ngx_variables.specs.Acts.{value}
use Rattle.rewrite_code.proofs.Values.{settles_behind_value}
use Rattle.site_whole.specs.site_model.declared.program.Test.{Test as CodeTest}
use Rattle.site_whole.specs.site_model.declared.program.Test.TheVariants as tests
use Rattle.site_whole.specs.site_views.Pattern.{Pattern, Span, groups_in}
use Rattle.site_whole.specs.site_views.Values.{Values, Text}
use Rattle.site_whole.specs.site_views.Rewrites.{FileTest, Test, Flag}
use Rattle.site_whole.specs.site_views.Rewrites.FileTest.{IsFile, IsFolder, IsThere}
use Rattle.site_whole.specs.site_views.Rewrites.Test.{OnFile}
use Rattle.site_whole.specs.site_views.Rewrites.Directive.{Set, If, Rewrite, Return, Stop}
use Rattle.site_whole.specs.Whole.{test_seen, file_test_seen, pattern_at}
use Rattle.request_meaning.specs.Serving.{World, Serving, Child, Reply}
use Rattle.request_meaning.specs.Cuts.{Target, cut, fit_value, fitting, some_value, target}
use Rattle.request_meaning.specs.Rewriting.{Passed, Ran, Step, Tested, says, is_true, equals, matching, passes, asked_at, test_at, tested, set_step, if_step, return_text, some_text, returned, matched, rewrite_to, rewrite_step, step}
use Rattle.request_meaning.specs.Rewriting.Ran.{Ends}
use Rattle.request_meaning.specs.Rewriting.Step.{Goes, Stops}
use Rattle.pattern_search.specs.Found.{patterns_seen, found}
use Rattle.rewrite_code.specs.Found.{finding}
use Rattle.rewrite_code.specs.Texts.{fitted, fit_of, cut_text, target_of}
use Rattle.rewrite_code.specs.Runs.{test_passes}
use Rattle.rewrite_code.specs.Conditions.{Checked, Knows, Asks, looks_at, looks, left_text, variable_of, checked_text, checked, checked_act}
use Rattle.rewrite_code.specs.Moves.{set_made, return_fit, rewrite_made, if_made}

-- what follows an act that settles as a value, and one that settles at a question
pub behind : {A B : Type 0} (m : Serving A) (k : A → Serving B) (a : A) (vars now : Vars) → settled m vars ≡ (Done a, now) → settled (m >>= k) vars ≡ settled (k a) now
unfolding settled_then
behind m k a vars now e = settles_in_turn m k vars ∙ ap (λ s. settled_then s.0 s.1 k) e

pub behind_stat : {A B : Type 0} (m : Serving A) (k : A → Serving B) (path : List ℕ) (f : Item → Serving A) (vars now : Vars) → settled m vars ≡ (Stat path f, now) → settled (m >>= k) vars ≡ (Stat path (λ item. f item >>= k), now)
unfolding settled_then ◌>>=◌
behind_stat m k path f vars now e = settles_in_turn m k vars ∙ ap (λ s. settled_then s.0 s.1 k) e

module _ (main : Main) (vars : Vars) where
  fit_settles : (request : Request) (text : Text) → settled (fit_value main request text) vars ≡ (Done (fit_of main request vars text), vars)
  unfolding settled fit_value fit_of
  fit_settles request text = settles_behind_value {C = Child} {R = Reply} main request vars text (λ bytes. Done (fitted bytes))

  some_settles : (request : Request) (text : Option Text) → settled (some_value main request text) vars ≡ (Done (option_map (value_text main request vars) text), vars)
  unfolding settled some_value
  some_settles request None = refl
  some_settles request (Some text) = settles_behind_value {C = Child} {R = Reply} main request vars text (λ bytes. Done (Some bytes))

  target_settles : (request : Request) (text : Text) → settled (target main request text) vars ≡ (Done (target_of main request vars text), vars)
  unfolding settled target target_of
  target_settles request text =
      let path = value_text main request vars (cut text).path in
      settles_behind_value {C = Child} {R = Reply} main request vars (cut text).path (λ path. some_value main request (cut text).args >>= λ args. Done (fitting path args))
      ∙ behind (some_value main request (cut text).args) (λ args. Done (fitting path args)) (option_map (value_text main request vars) (cut text).args) vars vars (some_settles request (cut text).args)

  set_made_settles : (first : Bool) (name : List ℕ) (p : Passed) (o : Option (List ℕ)) → settled (set_step first name p o) vars ≡ (Done (set_made first name p vars o).0, (set_made first name p vars o).1)
  unfolding settled ◌>>=◌
  set_made_settles first name p None = refl
  set_made_settles first name p (Some text) = refl

  pub set_settles : (w : World) (first : Bool) (p : Passed) (name : List ℕ) (text : Text) (r : Step) (now : Vars) → set_made first name p vars (fit_of main p.at.request vars text) ≡ (r, now) → settled (step w main first p (Set name text)) vars ≡ (Done r, now)
  unfolding step
  set_settles w first p name text r now e =
      behind (fit_value main p.at.request text) (λ bytes. set_step first name p bytes) (fit_of main p.at.request vars text) vars vars (fit_settles p.at.request text)
      ∙ (set_made_settles first name p (fit_of main p.at.request vars text)
      ∙ ap (λ both. (Done both.0, both.1)) e)

  text_settles : (request : Request) (text : Option Text) → settled (return_text main request text) vars ≡ (Done (return_fit main request vars text), vars)
  unfolding settled return_text
  text_settles request None = refl
  text_settles request (Some text) = behind (fit_value main request text) (λ bytes. Done (some_text bytes)) (fit_of main request vars text) vars vars (fit_settles request text)

  pub return_settles : (w : World) (first : Bool) (p : Passed) (code : ℕ) (text : Option Text) → settled (step w main first p (Return code text)) vars ≡ (Done (returned code p (return_fit main p.at.request vars text)), vars)
  unfolding settled step
  return_settles w first p code text = behind (return_text main p.at.request text) (λ bytes. Done (returned code p bytes)) (return_fit main p.at.request vars text) vars vars (text_settles p.at.request text)

  moved_settles : (to : Text) (is_url : Bool) (flag : Flag) (p : Passed) (o : Option (List Span)) → settled (rewrite_step main to is_url flag p o) vars ≡ (Done (rewrite_made main vars to is_url flag p (option_map (groups_in p.at.request.path) o)), vars)
  unfolding settled rewrite_step
  moved_settles to is_url flag p None = refl
  moved_settles to is_url flag p (Some spans) =
      let now = matched (Some (groups_in p.at.request.path spans)) p in
      behind (target main now.at.request to) (λ t. Done (rewrite_to to is_url flag now t)) (target_of main now.at.request vars to) vars vars (target_settles now.at.request to)

  pub rewrite_settles : (w : World) (first : Bool) (p : Passed) (pattern : Pattern) (to : Text) (is_url : Bool) (flag : Flag) → settled (step (finding w) main first p (Rewrite pattern to is_url flag)) vars ≡ (Done (rewrite_made main vars to is_url flag p (option_map (groups_in p.at.request.path) (found pattern p.at.request.path))), vars)
  unfolding step
  rewrite_settles w first p pattern to is_url flag = moved_settles to is_url flag p (found pattern p.at.request.path)

  nowhere : (test : FileTest) → passes test Nothing ≡ false
  nowhere IsFile = refl
  nowhere IsFolder = refl
  nowhere IsThere = refl

  asked_settles : (test : FileTest) (text : Text) (l : Located) → settled (asked_at test l) vars ≡ (checked_act (OnFile test text) (looks_at l), vars)
  unfolding settled asked_at
  asked_settles test text TooLong = refl
  asked_settles test text NotThere = ap (λ b. (Done (says b), vars)) (nowhere test)
  asked_settles test text (At path) = refl

  at_settles : (test : FileTest) (text : Text) (o : Option (List ℕ)) → settled (test_at test main o) vars ≡ (checked_act (OnFile test text) (looks main o), vars)
  unfolding settled
  at_settles test text None = refl
  at_settles test text (Some bytes) = asked_settles test text (located (Whole []) bytes [] main.folder)

  tested_settles : (w : World) (patterns : List of_set.Pattern) (request : Request) (test : CodeTest) → settled (tested (finding w) main request (test_seen (patterns_seen patterns) test)) vars ≡ (checked_act (test_seen (patterns_seen patterns) test) (checked patterns main request vars test), vars)
  unfolding settled tested checked_text
  tested_settles w patterns request (tests.IsSet variable) = settles_behind_value {C = Child} {R = Reply} main request vars (variable ∷ []) (λ text. Done (says (is_true text)))
  tested_settles w patterns request (tests.Equals variable text) =
      let left = value_text main request vars (variable ∷ []) in
      settles_behind_value {C = Child} {R = Reply} main request vars (variable ∷ []) (λ left. fit_value main request text >>= λ right. Done (equals left right))
      ∙ behind (fit_value main request text) (λ right. Done (equals left right)) (fit_of main request vars text) vars vars (fit_settles request text)
  tested_settles w patterns request (tests.Matches variable pattern) = settles_behind_value {C = Child} {R = Reply} main request vars (variable ∷ []) (λ left. Done (matching left (found (pattern_at (patterns_seen patterns) pattern) left)))
  tested_settles w patterns request (tests.OnFile test path) =
      behind (fit_value main request path) (λ text. test_at (file_test_seen test) main text) (fit_of main request vars path) vars vars (fit_settles request path)
      ∙ at_settles (file_test_seen test) path (fit_of main request vars path)

  decided : (m : Serving Tested) (test : Test) (negated : Bool) (block : ℕ) (values : Option Values) (p : Passed) (c : Checked) → settled m vars ≡ (checked_act test c, vars) → settled (m >>= λ told. Done (if_step negated block values p told)) vars ≡ (if_made test negated block values p c, vars)
  unfolding settled ◌>>=◌
  decided m test negated block values p (Knows t) e = behind m (λ told. Done (if_step negated block values p told)) t vars vars e
  decided m test negated block values p (Asks path) e = behind_stat m (λ told. Done (if_step negated block values p told)) path (λ item. Done (says (test_passes test item))) vars vars e

  pub if_settles : (w : World) (first : Bool) (p : Passed) (patterns : List of_set.Pattern) (test : CodeTest) (negated : Bool) (block : ℕ) (values : Option Values) →
      settled (step (finding w) main first p (If (test_seen (patterns_seen patterns) test) negated block values)) vars ≡ (if_made (test_seen (patterns_seen patterns) test) negated block values p (checked patterns main p.at.request vars test), vars)
  unfolding step
  if_settles w first p patterns test negated block values =
      decided (tested (finding w) main p.at.request (test_seen (patterns_seen patterns) test)) (test_seen (patterns_seen patterns) test) negated block values p (checked patterns main p.at.request vars test) (tested_settles w patterns p.at.request test)

  pub stop_settles : (w : World) (first : Bool) (p : Passed) → settled (step w main first p Stop) vars ≡ (Done (Stops (Ends (record p { seeks = false }))), vars)
  unfolding step settled
  stop_settles w first p = refl
