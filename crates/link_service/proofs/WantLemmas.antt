-- The wants of a connection are what the core shows of it.
use Rattle.std.proofs.Common.{◌≡◌, ◌≢◌, ℕ, Bool, true, false, cond, eqb, List, [], ◌∷◌, map, Option, None, Some, refl, ap, ◌∙◌, subst}
use Rattle.std.proofs.lemmas.Bool.Decides.{nat_tests}
use Rattle.std.proofs.Common.{arith}
use Rattle.std.proofs.lemmas.List.Elements.{All-nil, All-cons, All-head, All-tail, All-append, All-contains, All-contains_itself}
use Rattle.std.specs.List.{All, Contains}
use Rattle.file_tree.specs.declared.job.Ask.{Ask}
use Rattle.ngx_outside.specs.Views.{ConnView, Job, no_bytes, ask_in}
use Rattle.ngx_outside.specs.Wants.{wants_at, read_want, doable, first_doable}
use Rattle.ngx_outside.specs.declared.event.Want.{Want}
use Rattle.ngx_outside.specs.declared.event.Want.TheVariants as want
use Rattle.link_service.specs.Rests.{IsWanted}

-- each job that waits has what it asks
asks : (jobs : List Job) → All (λ (j : Job). ask_in jobs j.node ≢ None) jobs
asks [] = All-nil (λ (j : Job). ask_in [] j.node ≢ None)
asks (job ∷ jobs) = All-cons (λ (j : Job). ask_in (job ∷ jobs) j.node ≢ None) job jobs (here (eqb job.node job.node) (grind (arith, nat_tests))) (later jobs (asks jobs))
  where
    here : (t : Bool) → t ≡ true → cond t (Some job.ask) (ask_in jobs job.node) ≢ None
    here true e f = cc
    here false e f = cc

    other : (t : Bool) (o : Option Ask) → o ≢ None → cond t (Some job.ask) o ≢ None
    other true o h f = cc
    other false o h f = h f

    later : (js : List Job) → All (λ (j : Job). ask_in jobs j.node ≢ None) js → All (λ (j : Job). ask_in (job ∷ jobs) j.node ≢ None) js
    later [] all = All-nil (λ (j : Job). ask_in (job ∷ jobs) j.node ≢ None)
    later (j ∷ js) all =
        All-cons (λ (k : Job). ask_in (job ∷ jobs) k.node ≢ None) j js (other (eqb job.node j.node) (ask_in jobs j.node) (All-head (λ (k : Job). ask_in jobs k.node ≢ None) j js all)) (later js (All-tail (λ (k : Job). ask_in jobs k.node ≢ None) j js all))

pub wanted_at : (c : ℕ) (v : ConnView) → All (IsWanted v c) (wants_at c v)
unfolding wants_at
wanted_at c v =
    All-append (IsWanted v c) _ _
    (All-append (IsWanted v c) _ _
    (All-append (IsWanted v c) _ _
    (All-append (IsWanted v c) _ _ (reads v.room refl)
    (runs v.ready (All-contains_itself v.ready)))
    (jobs v.jobs (asks v.jobs)))
    (writes (no_bytes v.pending) refl))
    (closes v.shut refl)
  where
    reads : (room : Option ℕ) → v.room ≡ room → All (IsWanted v c) (read_want c room)
    reads None e = All-nil (IsWanted v c)
    reads (Some room) e = All-cons (IsWanted v c) (want.Read c room) [] (refl, e) (All-nil (IsWanted v c))

    runs : (nodes : List ℕ) → All (Contains v.ready) nodes → All (IsWanted v c) (map (λ node. want.Run c node) nodes)
    runs [] all = All-nil (IsWanted v c)
    runs (n ∷ nodes) all = All-cons (IsWanted v c) (want.Run c n) (map (λ node. want.Run c node) nodes) (refl, All-head (Contains v.ready) n nodes all) (runs nodes (All-tail (Contains v.ready) n nodes all))

    jobs : (js : List Job) → All (λ (j : Job). ask_in v.jobs j.node ≢ None) js → All (IsWanted v c) (map (λ (j : Job). want.Job c j.node) js)
    jobs [] all = All-nil (IsWanted v c)
    jobs (j ∷ js) all = All-cons (IsWanted v c) (want.Job c j.node) (map (λ (k : Job). want.Job c k.node) js) (refl, All-head (λ (k : Job). ask_in v.jobs k.node ≢ None) j js all) (jobs js (All-tail (λ (k : Job). ask_in v.jobs k.node ≢ None) j js all))

    writes : (t : Bool) → no_bytes v.pending ≡ t → All (IsWanted v c) (cond t [] (want.Write c ∷ []))
    writes true e = All-nil (IsWanted v c)
    writes false e = All-cons (IsWanted v c) (want.Write c) [] (refl, e) (All-nil (IsWanted v c))

    closes : (t : Bool) → v.shut ≡ t → All (IsWanted v c) (cond t (want.Close c ∷ []) [])
    closes true e = All-cons (IsWanted v c) (want.Close c) [] (refl, e) (All-nil (IsWanted v c))
    closes false e = All-nil (IsWanted v c)

pub is_wanted : (c : ℕ) (v : ConnView) (w : Want) → Contains (wants_at c v) w → IsWanted v c w
is_wanted c v w h = All-contains (IsWanted v c) (wants_at c v) w (wanted_at c v) h

-- the first want that can be served is one of them, and can be
pub first_there : (due full : Bool) (wants : List Want) (w : Want) → first_doable due full wants ≡ Some w → Contains wants w
unfolding first_doable
first_there due full [] w e = cc
first_there due full (x ∷ wants) w e = case (doable due full x) e (first_there due full wants w)
  where
    case : (t : Bool) → cond t (Some x) (first_doable due full wants) ≡ Some w → (first_doable due full wants ≡ Some w → Contains wants w) → Contains (x ∷ wants) w
    case true e later = subst (Contains (x ∷ wants)) (let f : x ≡ w = cc in f) (All-head (Contains (x ∷ wants)) x wants (All-contains_itself (x ∷ wants)))
    case false e later = All-contains (Contains (x ∷ wants)) wants w (All-tail (Contains (x ∷ wants)) x wants (All-contains_itself (x ∷ wants))) (later e)

pub first_can : (due full : Bool) (wants : List Want) (w : Want) → first_doable due full wants ≡ Some w → doable due full w ≡ true
unfolding first_doable
first_can due full [] w e = cc
first_can due full (x ∷ wants) w e = case (doable due full x) refl e (first_can due full wants w)
  where
    case : (t : Bool) → doable due full x ≡ t → cond t (Some x) (first_doable due full wants) ≡ Some w → (first_doable due full wants ≡ Some w → doable due full w ≡ true) → doable due full w ≡ true
    case true h e later = ap (doable due full) (let f : w ≡ x = cc in f) ∙ h
    case false h e later = later e

-- where there is no first one, none can
pub none_can : (due full : Bool) (wants : List Want) → first_doable due full wants ≡ None → All (λ w. doable due full w ≡ false) wants
unfolding first_doable
none_can due full [] e = All-nil (λ w. doable due full w ≡ false)
none_can due full (x ∷ wants) e = case (doable due full x) refl e (none_can due full wants)
  where
    case : (t : Bool) → doable due full x ≡ t → cond t (Some x) (first_doable due full wants) ≡ None → (first_doable due full wants ≡ None → All (λ w. doable due full w ≡ false) wants) → All (λ w. doable due full w ≡ false) (x ∷ wants)
    case true h e later = cc
    case false h e later = All-cons (λ w. doable due full w ≡ false) x wants h (later e)
