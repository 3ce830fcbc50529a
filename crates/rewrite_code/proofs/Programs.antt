-- A program worked off directive by directive.
use Rattle.std.proofs.Common.{◌≡◌, ℕ, zero, suc, ◌+◌, ◌<◌, ◌≤◌, ◌&&◌, ◌==◌, Bool, true, false, List, [], ◌∷◌, length, map, drop, get_or, Option, Some, IfSome, refl, sym, ◌∙◌, ap, subst, arith}
use Rattle.std.proofs.lemmas.Bool.{ne_eqb}
use Rattle.std.proofs.lemmas.List.{drop_all, length-map}
use mathlib.Core.Path.{fun_ext}
use Rattle.acts.specs.Vars.{Vars}
use Rattle.acts.specs.Act.{Act, Done, Stat, ◌>>=◌, settled}
use Rattle.file_tree.specs.Tree.{Item}
use Rattle.ngx_variables.specs.declared.request.Main.{Main}
use Rattle.site_whole.specs.site_views.Rewrites.{Directive, Program}
use Rattle.site_whole.specs.site_views.Rewrites.Directive.{Set, If, Rewrite, Return, Stop}
use Rattle.request_meaning.specs.Serving.{World, Serving}
use Rattle.request_meaning.specs.Rewriting.{Passed, Ran, Step, on, step, stays_first, rewritten}
use Rattle.request_meaning.specs.Rewriting.Ran.{Ends}
use Rattle.request_meaning.specs.Rewriting.Step.{Goes, Stops}
use Rattle.ngx_pattern.specs.Pattern.{Pattern as SetPattern}
use Rattle.site_whole.specs.site_model.declared.site.Site.{Site}
use Rattle.site_whole.specs.site_model.declared.program.RewriteStep.{RewriteStep}
use Rattle.site_whole.specs.Whole.{step_seen}
use Rattle.rewrite_code.specs.declared.place.Progress.{Progress}
use Rattle.rewrite_code.specs.declared.place.Ending.{Ending}
use Rattle.rewrite_code.specs.declared.place.Ending.TheVariants.{End}
use Rattle.rewrite_code.specs.declared.place.RunStep.TheVariants.{Ended, Test as AtTest}
use Rattle.rewrite_code.specs.declared.program.Next.TheVariants.{At, Answered}
use Rattle.rewrite_code.specs.declared.step.Move.{Move}
use Rattle.rewrite_code.specs.declared.step.Move.TheVariants as moves
use Rattle.pattern_search.specs.Found.{patterns_seen}
use Rattle.rewrite_code.specs.Places.{progress_seen, ran_of}
use Rattle.rewrite_code.specs.Runs.{told_step, resumed, program_of}
use Rattle.rewrite_code.specs.Moves.{move_seen}
use Rattle.rewrite_code.specs.Steps.{ahead, next_made}
use Rattle.rewrite_code.proofs.Acts.{behind, behind_stat}

-- the directive at a place of a program, and those after it
at_place : {A B : Type 0} (f : A → B) (xs : List A) (at : ℕ) (x : A) → at < length xs → x ≡ get_or xs at x → drop at (map f xs) ≡ f x ∷ drop (at + 1) (map f xs)
at_place f [] at x h is = absurd (omega arith)
at_place f (y ∷ xs) zero x h is = ap (λ z. f z ∷ map f xs) (sym is)
at_place f (y ∷ xs) (suc at) x h is =
    let less : at < length xs = omega (arith, h) in
    let next : suc (at + 1) ≡ suc at + 1 = omega arith in
    at_place f xs at x less is ∙ ap (λ n. f x ∷ drop n (f y ∷ map f xs)) next

dropped_twice : {A : Type 0} (n m : ℕ) (xs : List A) → drop m (drop n xs) ≡ drop (n + m) xs
dropped_twice zero m xs = ap (λ k. drop k xs) (let e : m ≡ zero + m = omega arith in e)
dropped_twice (suc n) m [] = none_left m ∙ ap (λ k. drop k []) (let e : suc (n + m) ≡ suc n + m = omega arith in e)
  where
    none_left : {A : Type 0} (m : ℕ) → drop m [] ≡ drop {A = A} (suc (n + m)) []
    none_left zero = refl
    none_left (suc m) = refl
dropped_twice (suc n) m (x ∷ xs) = dropped_twice n m xs ∙ ap (λ k. drop k (x ∷ xs)) (let e : suc (n + m) ≡ suc n + m = omega arith in e)

pub onward : {P N X : Type 0} (F : P → N → X) (G : P → X) (p q : P) (n m : N) (x : X) → p ≡ q → n ≡ m → F p n ≡ G p → G q ≡ x → F q m ≡ x
onward F G p q n m x e f a b = ap (λ r. F r m) (sym e) ∙ (ap (F p) (sym f) ∙ (a ∙ (ap G e ∙ b)))

-- what holds of the item that is there
pub of_some : {A : Type 0} (P : A → Type 0) (o : Option A) (a : A) → o ≡ Some a → IfSome o P → P a
of_some P o a e h = subst (λ x. IfSome x P) e h

module _ (w : World) (main : Main) where
  passed_over : (skip : ℕ) (program : Program) (p : Passed) → rewritten w main false skip program p ≡ rewritten w main false 0 (drop skip program) p
  unfolding rewritten
  passed_over zero program p = refl
  passed_over (suc skip) [] p = refl
  passed_over (suc skip) (d ∷ program) p = passed_over skip program p

  over : (first : Bool) (skip : ℕ) (program : Program) (p : Passed) → rewritten w main first (suc skip) program p ≡ rewritten w main false 0 (drop (suc skip) program) p
  unfolding rewritten
  over first skip [] p = refl
  over first skip (d ∷ program) p = passed_over skip program p

  gone_on : (first : Bool) (skip : ℕ) (program : Program) (p : Passed) → rewritten w main first skip program p ≡ rewritten w main ((skip == 0) && first) 0 (drop skip program) p
  gone_on first zero program p = refl
  gone_on first (suc skip) program p =
      let later : (suc skip == 0) ≡ false = ne_eqb (suc skip) 0 (λ e. omega (arith, e)) in
      over first skip program p ∙ ap (λ b. rewritten w main (b && first) 0 (drop (suc skip) program) p) (sym later)

  -- it goes on after a directive, past some
  goes : (first : Bool) (d : Directive) (later : Program) (p q : Passed) (skip : ℕ) (vars now : Vars) → settled (step w main first p d) vars ≡ (Done (Goes skip q), now) → settled (rewritten w main first 0 (d ∷ later) p) vars ≡ settled (rewritten w main ((skip == 0) && stays_first first d) 0 (drop skip later) q) now
  unfolding rewritten
  goes first d later p q skip vars now e =
      behind (step w main first p d) (λ s. on s (λ skip q. rewritten w main (stays_first first d) skip later q)) (Goes skip q) vars now e
      ∙ ap (λ m. settled m now) (gone_on (stays_first first d) skip later q)

  -- it ends with it
  stops : (first : Bool) (d : Directive) (later : Program) (p : Passed) (ran : Ran) (vars now : Vars) → settled (step w main first p d) vars ≡ (Done (Stops ran), now) → settled (rewritten w main first 0 (d ∷ later) p) vars ≡ (Done ran, now)
  unfolding rewritten settled
  stops first d later p ran vars now e = behind (step w main first p d) (λ s. on s (λ skip q. rewritten w main (stays_first first d) skip later q)) (Stops ran) vars now e

  told_same : (first : Bool) (d : Directive) (later : Program) (p : Passed) (item : Item) → on (told_step d p item) (λ skip q. rewritten w main (stays_first first d) skip later q) ≡ resumed w main (d ∷ later) p item
  unfolding resumed
  told_same first (Set name text) later p item = refl
  told_same first (If test negated block values) later p item = refl
  told_same first (Rewrite pattern to is_url flag) later p item = refl
  told_same first (Return code text) later p item = refl
  told_same first Stop later p item = refl

  -- it waits at it
  waits : (first : Bool) (d : Directive) (later : Program) (p q : Passed) (path : List ℕ) (vars now : Vars) → settled (step w main first p d) vars ≡ (Stat path (λ item. Done (told_step d q item)), now) → settled (rewritten w main first 0 (d ∷ later) p) vars ≡ (Stat path (λ item. resumed w main (d ∷ later) q item), now)
  unfolding rewritten ◌>>=◌
  waits first d later p q path vars now e =
      behind_stat (step w main first p d) (λ s. on s (λ skip q. rewritten w main (stays_first first d) skip later q)) path (λ item. Done (told_step d q item)) vars now e
      ∙ ap (λ f. (Stat path f, now)) (fun_ext (λ item. told_same first d later q item))

  nothing_left : (first : Bool) (p : Passed) (vars : Vars) → settled (rewritten w main first 0 [] p) vars ≡ (Done (Ends p), vars)
  unfolding rewritten settled
  nothing_left first p vars = refl

-- a program of a site at a place
module _ (w : World) (main : Main) (ps : List SetPattern) (site : Site) (program : List RewriteStep) (at : ℕ) (x : RewriteStep) (there : at < length program) (is : x ≡ get_or program at x) where
  here : drop at (map (step_seen (patterns_seen ps) site) program) ≡ step_seen (patterns_seen ps) site x ∷ drop (at + 1) (map (step_seen (patterns_seen ps) site) program)
  here = at_place (step_seen (patterns_seen ps) site) program at x there is

  pub moved_at : (first : Bool) (p q : Progress) (move : Move) (vars now : Vars) →
      settled (step w main first (progress_seen site p) (step_seen (patterns_seen ps) site x)) vars ≡ (Done (move_seen site q move), now) →
      ahead w main site (program_of ps site program) q now (next_made (stays_first first (step_seen (patterns_seen ps) site x)) at move) ≡ ahead w main site (program_of ps site program) p vars (At at first)
  moved_at first p q (moves.On skip) vars now e =
      let d = step_seen (patterns_seen ps) site x in
      let whole = map (step_seen (patterns_seen ps) site) program in
      sym (ap (λ t. settled (rewritten w main first 0 t (progress_seen site p)) vars) here
      ∙ (goes w main first d (drop (at + 1) whole) (progress_seen site p) (progress_seen site q) skip vars now e
      ∙ ap (λ t. settled (rewritten w main ((skip == 0) && stays_first first d) 0 t (progress_seen site q)) now) (dropped_twice (at + 1) skip whole)))
  moved_at first p q (moves.Stop ending) vars now e =
      let d = step_seen (patterns_seen ps) site x in
      let whole = map (step_seen (patterns_seen ps) site) program in
      sym (ap (λ t. settled (rewritten w main first 0 t (progress_seen site p)) vars) here
      ∙ stops w main first d (drop (at + 1) whole) (progress_seen site p) (ran_of site q ending) vars now e)

  pub waits_at : (first : Bool) (p q : Progress) (path : List ℕ) (vars now : Vars) →
      settled (step w main first (progress_seen site p) (step_seen (patterns_seen ps) site x)) vars ≡ (Stat path (λ item. Done (told_step (step_seen (patterns_seen ps) site x) (progress_seen site q) item)), now) →
      ahead w main site (program_of ps site program) q now (Answered (AtTest path at)) ≡ ahead w main site (program_of ps site program) p vars (At at first)
  waits_at first p q path vars now e =
      let d = step_seen (patterns_seen ps) site x in
      let whole = map (step_seen (patterns_seen ps) site) program in
      sym (ap (λ t. settled (rewritten w main first 0 t (progress_seen site p)) vars) here
      ∙ (waits w main first d (drop (at + 1) whole) (progress_seen site p) (progress_seen site q) path vars now e
      ∙ ap (λ t. (Stat path (λ item. resumed w main t (progress_seen site q) item), now)) (sym here)))

  told_goes : (d : Directive) (later : Program) (p q : Passed) (skip : ℕ) (item : Item) → told_step d p item ≡ Goes skip q → resumed w main (d ∷ later) p item ≡ rewritten w main false 0 (drop skip later) q
  unfolding resumed
  told_goes d later p q skip item e = ap (λ s. on s (λ skip q. rewritten w main false skip later q)) e ∙ (gone_on w main false skip later q ∙ ap (λ b. rewritten w main b 0 (drop skip later) q) (never (skip == 0)))
    where
      never : (b : Bool) → (b && false) ≡ false
      never true = refl
      never false = refl

  told_stops : (d : Directive) (later : Program) (p : Passed) (ran : Ran) (item : Item) → told_step d p item ≡ Stops ran → resumed w main (d ∷ later) p item ≡ Done ran
  unfolding resumed
  told_stops d later p ran item e = ap (λ s. on s (λ skip q. rewritten w main false skip later q)) e

  -- a directive that was told goes on, or ends the program
  pub resumes_on : (p q : Progress) (skip : ℕ) (vars : Vars) (item : Item) → told_step (step_seen (patterns_seen ps) site x) (progress_seen site p) item ≡ move_seen site q (moves.On skip) →
      settled (resumed w main (drop at (program_of ps site program)) (progress_seen site p) item) vars ≡ settled (rewritten w main false 0 (drop (at + 1 + skip) (program_of ps site program)) (progress_seen site q)) vars
  resumes_on p q skip vars item e =
      let d = step_seen (patterns_seen ps) site x in
      let whole = map (step_seen (patterns_seen ps) site) program in
      ap (λ t. settled (resumed w main t (progress_seen site p) item) vars) here
      ∙ (ap (λ m. settled m vars) (told_goes d (drop (at + 1) whole) (progress_seen site p) (progress_seen site q) skip item e)
      ∙ ap (λ t. settled (rewritten w main false 0 t (progress_seen site q)) vars) (dropped_twice (at + 1) skip whole))

  pub resumes_over : (p q : Progress) (ending : Ending) (vars : Vars) (item : Item) → told_step (step_seen (patterns_seen ps) site x) (progress_seen site p) item ≡ move_seen site q (moves.Stop ending) →
      settled (resumed w main (drop at (program_of ps site program)) (progress_seen site p) item) vars ≡ (Done (ran_of site q ending), vars)
  unfolding settled
  resumes_over p q ending vars item e =
      let d = step_seen (patterns_seen ps) site x in
      let whole = map (step_seen (patterns_seen ps) site) program in
      ap (λ t. settled (resumed w main t (progress_seen site p) item) vars) here
      ∙ ap (λ m. settled m vars) (told_stops d (drop (at + 1) whole) (progress_seen site p) (ran_of site q ending) item e)

-- past its end nothing is left
module _ (w : World) (main : Main) (ps : List SetPattern) (site : Site) (program : List RewriteStep) (at : ℕ) (past : length program ≤ at) (p : Progress) (vars : Vars) where
  empty : drop at (map (step_seen (patterns_seen ps) site) program) ≡ []
  empty = drop_all at (map (step_seen (patterns_seen ps) site) program) (omega (arith, past, length-map program (step_seen (patterns_seen ps) site)))

  pub over_at : (first : Bool) → ahead w main site (program_of ps site program) p vars (Answered (Ended End)) ≡ ahead w main site (program_of ps site program) p vars (At at first)
  over_at first = sym (ap (λ t. settled (rewritten w main first 0 t (progress_seen site p)) vars) empty ∙ nothing_left w main first (progress_seen site p) vars)

  pub resumes_nowhere : (item : Item) → settled (resumed w main (drop at (program_of ps site program)) (progress_seen site p) item) vars ≡ (Done (Ends (progress_seen site p)), vars)
  unfolding settled resumed
  resumes_nowhere item = ap (λ t. settled (resumed w main t (progress_seen site p) item) vars) empty
