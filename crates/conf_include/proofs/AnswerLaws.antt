-- Stops of calls, one after another.
use Rattle.std.proofs.Common.{◌≡◌, ℕ, List, [], ◌∷◌, length, Ok, refl, ap, sym, ◌∙◌, arith}
use Rattle.conf_text.specs.declared.directive.Directive.{Directive}
use Rattle.conf_include.specs.declared.stop.Stop.{Stop}
use Rattle.conf_include.specs.declared.stop.Stop.TheVariants as stop
use Rattle.conf_include.specs.Expansion.{Tally, Faulty, Expansion, ◌>>=◌, put_all}
use Rattle.conf_include.specs.Steps.{StopsAs, onto}
use Rattle.conf_include.proofs.PutLaws.{all_go, all_stop, all_done}

-- a stop passes through what would follow
pub stop_bind : {Y Z : Type 0} (e : Stop) (o : Faulty Y) (f : Y → Faulty Z) (ps : List (List ℕ)) → StopsAs e o ps → StopsAs e (o >>= f) ps
stop_bind (stop.Fault fault) o f ps h = ap (λ r. r >>= f) h
stop_bind (stop.Failed fault) o f ps h = tt
stop_bind stop.OutOfMemory o f ps h = tt

-- the same stop of an equal outcome
pub stop_same : {Y : Type 0} (e : Stop) (o p : Faulty Y) (ps : List (List ℕ)) → p ≡ o → StopsAs e o ps → StopsAs e p ps
stop_same (stop.Fault fault) o p ps is h = is ∙ h
stop_same (stop.Failed fault) o p ps is h = tt
stop_same stop.OutOfMemory o p ps is h = tt

-- a stop after directives
pub stop_onto : (e : Stop) (lines : List Directive) (depth : ℕ) (o : Expansion) (ps : List (List ℕ)) → StopsAs e o ps → StopsAs e (onto lines depth o) ps
stop_onto (stop.Fault fault) lines depth o ps h = ap (onto lines depth) h
stop_onto (stop.Failed fault) lines depth o ps h = tt
stop_onto stop.OutOfMemory lines depth o ps h = tt

-- one of several items stops
pub stop_all : {A : Type 0} (put : A → Tally → Expansion) (x : A) (xs : List A) (e : Stop) (lines : List Directive) (depth : ℕ) (t : Tally) (ps : List (List ℕ)) → StopsAs e (onto lines depth (put x t)) ps → StopsAs e (onto lines depth (put_all put (x ∷ xs) t)) ps
stop_all put x xs (stop.Fault fault) lines depth t ps h = all_stop put x xs lines depth t (fault, ps) h
stop_all put x xs (stop.Failed fault) lines depth t ps h = tt
stop_all put x xs stop.OutOfMemory lines depth t ps h = tt

-- What is left of several items, at one of them, and at their end.

pub run_stop : {A : Type 0} (put : A → Tally → Expansion) (all start left rest : List A) (x : A) (e : Stop) (before lines : List Directive) (depth : ℕ) (t₀ t : Tally) (ps : List (List ℕ))
    → left ≡ x ∷ rest → onto lines depth (put_all put left t) ≡ onto before depth (put_all put start t₀) → start ≡ all
    → StopsAs e (onto lines depth (put x t)) ps → StopsAs e (onto before depth (put_all put all t₀)) ps
run_stop put all start left rest x e before lines depth t₀ t ps next same from h =
    stop_same e (onto lines depth (put_all put (x ∷ rest) t)) (onto before depth (put_all put all t₀)) ps
    (sym (ap (λ l. onto lines depth (put_all put l t)) (sym next) ∙ same ∙ ap (λ l. onto before depth (put_all put l t₀)) from))
    (stop_all put x rest e lines depth t ps h)

pub run_go : {A : Type 0} (put : A → Tally → Expansion) (left rest : List A) (x : A) (lines now : List Directive) (depth : ℕ) (t u : Tally) (first : Expansion)
    → left ≡ x ∷ rest → onto lines depth (put_all put left t) ≡ first → onto lines depth (put x t) ≡ Ok (now, u) → onto now depth (put_all put rest u) ≡ first
run_go put left rest x lines now depth t u first next same h =
    sym (all_go put x rest lines now depth t u h) ∙ ap (λ l. onto lines depth (put_all put l t)) (sym next) ∙ same

pub run_done : {A : Type 0} (put : A → Tally → Expansion) (all start left : List A) (before lines : List Directive) (depth : ℕ) (t₀ t : Tally)
    → left ≡ [] → onto lines depth (put_all put left t) ≡ onto before depth (put_all put start t₀) → start ≡ all → onto before depth (put_all put all t₀) ≡ Ok (lines, t)
run_done put all start left before lines depth t₀ t none same from =
    ap (λ l. onto before depth (put_all put l t₀)) (sym from) ∙ sym same ∙ ap (λ l. onto lines depth (put_all put l t)) none ∙ all_done put lines depth t

pub nothing_left : {A : Type 0} (l : List A) → length l ≡ 0 → l ≡ []
nothing_left [] h = refl
nothing_left (x ∷ xs) h = absurd (omega arith)
