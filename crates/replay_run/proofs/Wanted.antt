-- The wants that a core lists are what it shows of its connections.
use Rattle.std.proofs.Common.{◌≡◌, ◌≢◌, ℕ, eqb, arith, Bool, true, false, cond, List, [], ◌∷◌, Option, None, Some, refl, sym, ap, ◌∙◌, subst}
use Rattle.std.proofs.lemmas.List.Elements.{All-nil, All-cons, All-head, All-tail, All-append, All-map, All-contains_itself}
use Rattle.std.proofs.lemmas.Bool.Decides.{nat_tests}
use Rattle.std.specs.List.{All}
use Rattle.ngx_outside.specs.Views.{ConnView, Job, no_bytes, ask_in}
use Rattle.ngx_outside.specs.Wants.{wants_at, read_want}
use Rattle.ngx_outside.specs.declared.event.Want.{Want}
use Rattle.ngx_outside.specs.declared.event.Want.TheVariants as want
use Rattle.replay_run.specs.Scene.{Lane, is_served, first_served, IsWanted}

-- each node of the jobs has a job
asked_more : (x : Job) (jobs : List Job) (n : ℕ) → ask_in jobs n ≢ None → ask_in (x ∷ jobs) n ≢ None
asked_more x jobs n some = case (eqb x.node n)
  where
    case : (t : Bool) → cond t (Some x.ask) (ask_in jobs n) ≢ None
    case true = λ e. cc
    case false = some

asked_first : (x : Job) (jobs : List Job) → ask_in (x ∷ jobs) x.node ≢ None
asked_first x jobs = λ e. let t : eqb x.node x.node ≡ true = grind (arith, nat_tests) in let f : Some x.ask ≡ None = sym (ap (λ b. cond b (Some x.ask) (ask_in jobs x.node)) t) ∙ e in cc

all_asked : (jobs : List Job) → All (λ (j : Job). ask_in jobs j.node ≢ None) jobs
all_asked [] = All-nil (λ (j : Job). ask_in [] j.node ≢ None)
all_asked (x ∷ jobs) = All-cons (λ (j : Job). ask_in (x ∷ jobs) j.node ≢ None) x jobs (asked_first x jobs) (All-weaken jobs (all_asked jobs))
  where
    All-weaken : (js : List Job) → All (λ (j : Job). ask_in jobs j.node ≢ None) js → All (λ (j : Job). ask_in (x ∷ jobs) j.node ≢ None) js
    All-weaken [] h = All-nil (λ (j : Job). ask_in (x ∷ jobs) j.node ≢ None)
    All-weaken (y ∷ js) h = All-cons (λ (j : Job). ask_in (x ∷ jobs) j.node ≢ None) y js (asked_more x jobs y.node (All-head (λ (j : Job). ask_in jobs j.node ≢ None) y js h)) (All-weaken js (All-tail (λ (j : Job). ask_in jobs j.node ≢ None) y js h))

wanted_at : (view : ℕ → ConnView) (c : ℕ) → All (IsWanted view) (wants_at c (view c))
unfolding wants_at
wanted_at view c =
    All-append (IsWanted view) _ _
    (All-append (IsWanted view) _ _
    (All-append (IsWanted view) _ _
    (All-append (IsWanted view) _ _ (reads (view c).room refl)
    (All-map (IsWanted view) (λ node. want.Run c node) (view c).ready (All-contains_itself (view c).ready)))
    (All-map (IsWanted view) (λ (j : Job). want.Job c j.node) (view c).jobs (all_asked (view c).jobs)))
    (writes (no_bytes (view c).pending) refl))
    (closes (view c).shut)
  where
    reads : (room : Option ℕ) → (view c).room ≡ room → All (IsWanted view) (read_want c room)
    reads None e = All-nil (IsWanted view)
    reads (Some room) e = All-cons (IsWanted view) (want.Read c room) [] e (All-nil (IsWanted view))

    writes : (t : Bool) → no_bytes (view c).pending ≡ t → All (IsWanted view) (cond t [] (want.Write c ∷ []))
    writes true e = All-nil (IsWanted view)
    writes false e = All-cons (IsWanted view) (want.Write c) [] e (All-nil (IsWanted view))

    closes : (t : Bool) → All (IsWanted view) (cond t (want.Close c ∷ []) [])
    closes true = All-cons (IsWanted view) (want.Close c) [] tt (All-nil (IsWanted view))
    closes false = All-nil (IsWanted view)

-- what holds of all wants holds of the first that can be served
first_all : (P : Want → Type 0) (lanes : ℕ → Lane) (wants : List Want) (w : Want) → All P wants → first_served lanes wants ≡ Some w → P w
first_all P lanes [] w all e = cc
first_all P lanes (x ∷ wants) w all e = case (is_served lanes x) e (λ f. first_all P lanes wants w (All-tail P x wants all) f)
  where
    case : (t : Bool) → cond t (Some x) (first_served lanes wants) ≡ Some w → (first_served lanes wants ≡ Some w → P w) → P w
    case true e later = subst P (let f : x ≡ w = cc in f) (All-head P x wants all)
    case false e later = later e

pub served_wanted : (view : ℕ → ConnView) (c : ℕ) (lanes : ℕ → Lane) (w : Want) → first_served lanes (wants_at c (view c)) ≡ Some w → IsWanted view w
served_wanted view c lanes w f = first_all (IsWanted view) lanes (wants_at c (view c)) w (wanted_at view c) f

pub served_is : (lanes : ℕ → Lane) (wants : List Want) (w : Want) → first_served lanes wants ≡ Some w → is_served lanes w ≡ true
served_is lanes [] w e = cc
served_is lanes (x ∷ wants) w e = case (is_served lanes x) refl e (served_is lanes wants w)
  where
    case : (t : Bool) → is_served lanes x ≡ t → cond t (Some x) (first_served lanes wants) ≡ Some w → (first_served lanes wants ≡ Some w → is_served lanes w ≡ true) → is_served lanes w ≡ true
    case true h e later = ap (is_served lanes) (let f : w ≡ x = cc in f) ∙ h
    case false h e later = later e
