-- What a connection keeps ends in a tail.
use Rattle.std.proofs.Common.{◌≡◌, ◌≤◌, ℕ, true, List, [], ◌++◌, length, take, drop, Option, None, Some, refl, sym, ap, ◌∙◌, subst, append-nil, append_assoc, ◌⊎◌, ⊎_elim, inl, inr, arith}
use Rattle.std.proofs.lemmas.List.{length-take-le, take-append-drop, take_all}
use Rattle.std.proofs.Math.Logic.{∥∥₁_map}
use Rattle.std.specs.Prelude.{is_some}
use Rattle.response_flow.specs.declared.flight.Flight.{Flight}
use Rattle.response_flow.specs.declared.flight.Flight.TheVariants.{Alone, Asking, Page}
use Rattle.response_flow.specs.Flights.{EndsChunk, HasTail, ShowsWhole, TailFits, pending_of, shown_kept}
use Rattle.http_connection.specs.Tails.{KeepsTail, LeftOf, PendsWhole}

-- what isn't in chunks has none
pub plain_tail : (out : List ℕ) → HasTail 0 out
plain_tail out = (None, record { front = out; block = None; kind = refl; few = omega arith; ends = sym (append-nil out); size = refl })

pub no_tail : (tail : ℕ) (out : List ℕ) → tail ≡ 0 → HasTail tail out
no_tail tail out e = subst (λ n. HasTail n out) (sym e) (plain_tail out)

-- before anything came
pub fresh_tail : (out : List ℕ) → KeepsTail None 0 out
fresh_tail out = ∣ ([], plain_tail out) ∣₁

-- after a run
pub fits_tail : (was is : Option Flight) (tail : ℕ) (out : List ℕ) → TailFits was is tail out → KeepsTail is tail out
fits_tail None None tail out e = ∣ ([], e) ∣₁
fits_tail (Some (Alone flow)) None tail out e = ∣ ([], e) ∣₁
fits_tail (Some (Asking f)) None tail out e = ∣ ([], e) ∣₁
fits_tail (Some (Page p)) None tail out e = ∣ ([], (p.pages.value.outgoing.block, e)) ∣₁
fits_tail was (Some flight) tail out e = e

-- what was written went before what is kept
went : (gone out out' : List ℕ) (count : ℕ) → out' ≡ drop count out → gone ++ out ≡ (gone ++ take count out) ++ out'
went gone out out' count e =
    ap (λ l. gone ++ l) (sym (take-append-drop count out) ∙ ap (λ l. take count out ++ l) (sym e)) ∙ sym (append_assoc gone (take count out) out')

pub wrote_tail : (flight flight' : Option Flight) (tail count : ℕ) (out out' : List ℕ) → is_some flight' ≡ is_some flight → (flight ≡ None → out' ≡ drop count out) → KeepsTail flight tail out → KeepsTail flight' tail out'
wrote_tail None None tail count out out' kind used kept =
    ∥∥₁_map kept (λ (k : LeftOf tail out). (k.0 ++ take count out, subst (HasTail tail) (went k.0 out out' count (used refl)) k.1))
wrote_tail None (Some flight) tail count out out' kind used kept = cc
wrote_tail (Some flight) None tail count out out' kind used kept = cc
wrote_tail (Some flight) (Some flight') tail count out out' kind used kept = kept

-- a response that is still in flight
pub flying_tail : (flight flight' : Option Flight) (tail : ℕ) (out out' : List ℕ) → is_some flight ≡ true → is_some flight' ≡ true → KeepsTail flight tail out → KeepsTail flight' tail out'
flying_tail None flight' tail out out' some flies kept = cc
flying_tail (Some flight) None tail out out' some flies kept = cc
flying_tail (Some flight) (Some flight') tail out out' some flies kept = kept

-- a connection that is stopped
dropped_tail : (flight : Option Flight) (tail : ℕ) (out : List ℕ) → KeepsTail flight tail out → KeepsTail None tail []
dropped_tail None tail out kept =
    ∥∥₁_map kept (λ (k : LeftOf tail out). (k.0 ++ out, subst (HasTail tail) (sym (append-nil (k.0 ++ out))) k.1))
dropped_tail (Some flight) tail out kept = ∣ ([], no_tail tail [] kept) ∣₁

pub stopped_tail : (flight flight' : Option Flight) (tail : ℕ) (out out' : List ℕ) → flight' ≡ None → out' ≡ [] → KeepsTail flight tail out → KeepsTail flight' tail out'
stopped_tail flight flight' tail out out' none empty kept =
    subst (λ f. KeepsTail f tail out') (sym none) (subst (λ l. KeepsTail None tail l) (sym empty) (dropped_tail flight tail out kept))

-- what is pending is all that is kept, or ends where a chunk ends
pends : (n tail : ℕ) (out : List ℕ) → (n ≡ length out) ⊎ EndsChunk n tail (length out) → (take n out ≡ out) ⊎ EndsChunk (length (take n out)) tail (length out)
pends n tail out =
    ⊎_elim
    (λ all. inl (take_all n out (omega (arith, all))))
    (λ (e : EndsChunk n tail (length out)).
    let within : n ≤ length out = (let a = e.after in omega (arith, a)) in
    inr (subst (λ m. EndsChunk m tail (length out)) (sym (length-take-le n out within)) e))

pub pends_whole : (law : ShowsWhole) (flight : Option Flight) (tail : ℕ) (out : List ℕ) → flight ≡ None → KeepsTail flight tail out → ∥ PendsWhole tail out (pending_of flight out tail) ∥₁
pends_whole law (Some flight) tail out none kept = cc
pends_whole law None tail out none kept =
    ∥∥₁_map kept (λ (k : LeftOf tail out). record {
      gone = k.0;
      before = k.1.0;
      ends = k.1.1;
      whole = λ is. pends (shown_kept tail (length out)) tail out (law.ends k.1.0 tail k.0 out is k.1.1);
    })
