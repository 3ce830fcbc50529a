-- The laws of bodies in pieces: what stays, that a short one can be ended, and that two takes are one.
use Rattle.std.proofs.Common.{◌≡◌, ℕ, zero, suc, ◌+◌, List, [], ◌∷◌, ◌++◌, length, drop, sym, refl, ap, ◌∙◌, subst, arith, cond}
use Rattle.std.proofs.lemmas.List.{append_assoc, drop_all, drop_at, drop-drop, length-append}
use Rattle.std.proofs.lemmas.Bool.{ne_eqb}
use Rattle.body_frame.specs.Outcome.{BodyOutcome, Whole, Short, Broken, behind, step_of, used_of}
use Rattle.body_frame.specs.declared.step.BodyStep.{BodyStep}
use Rattle.body_frame.specs.declared.place.Position.{Position}
use Rattle.body_frame.specs.declared.place.Position.TheVariants.{Plain, SizeStart, Size, Blanks, Extension, SizeLineFeed, Data, DataLineFeed, Trailers, Trailer, TrailerLineFeed, LastLineFeed, Failed}
use Rattle.body_frame.specs.declared.state.BodyState.{BodyState}
use Rattle.body_frame.specs.Position.{place_after, stops_at, rest_at}
use Rattle.body_frame.specs.State.{rest_body, Takes}
use Rattle.body_frame.specs.Laws.{BodiesStay, BodiesGoOn, TakesCompose}
use Rattle.body_frame.proofs.RunLemmas.{behind-behind, rest_at-one, whole_within, whole_stays, broken_stays, place_behind, short_goes_on, after_data, after_plain, stops_plain}

pub stay : BodiesStay
unfolding rest_body
stay = record {
  within = λ s text n e. whole_within s.place text n e;
  whole = λ s text more n e. whole_stays s.place text more n e;
  broken = λ s text more e. broken_stays s.place text more e;
}

-- some bytes end the body, and all of them are used
abbrev Finish : Position → Type 0
Finish p = (more : List ℕ) × (rest_at p more ≡ Whole (length more))

finish_one : (p : Position) (b : ℕ) → stops_at p ≡ Short → Finish (place_after p b) → Finish p
finish_one p b short f =
    let count : 1 + length f.0 ≡ suc (length f.0) = omega arith in
    (b ∷ f.0, rest_at-one p b f.0 short ∙ ap (behind 1) f.1 ∙ ap Whole count)

finish_trailers : (n : ℕ) → Finish (Trailers n)
unfolding rest_at
finish_trailers n = (13 ∷ 10 ∷ [], refl)

finish_start : Finish SizeStart
unfolding rest_at
finish_start = (48 ∷ 13 ∷ 10 ∷ 13 ∷ 10 ∷ [], refl)

finish_data : (n : ℕ) → Finish (Data n)
finish_data zero = finish_one (Data 0) 13 refl (finish_one DataLineFeed 10 refl finish_start)
finish_data (suc n) = finish_one (Data (suc n)) 0 refl (subst Finish (sym (after_data n 0)) (finish_data n))

finish_plain : (n : ℕ) → Finish (Plain n)
unfolding rest_at
finish_plain zero = ([], refl)
finish_plain (suc n) = finish_one (Plain (suc n)) 0 (stops_plain n) (subst Finish (sym (after_plain n 0)) (finish_plain n))

finish_line : (size : ℕ) → Finish (SizeLineFeed size)
finish_line zero = finish_one (SizeLineFeed 0) 10 refl (finish_trailers 0)
finish_line (suc n) =
    let next : place_after (SizeLineFeed (suc n)) 10 ≡ Data (suc n) = ap (λ t. cond t (Trailers 0) (Data (suc n))) (ne_eqb (suc n) 0 (omega arith)) in
    finish_one (SizeLineFeed (suc n)) 10 refl (subst Finish (sym next) (finish_data (suc n)))

finish : (p : Position) → stops_at p ≡ Short → Finish p
finish (Plain n) short = finish_plain n
finish SizeStart short = finish_start
finish (Size s l) short = finish_one (Size s l) 13 refl (finish_line s)
finish (Blanks s l) short = finish_one (Blanks s l) 59 refl (finish_one (Extension s l) 13 refl (finish_line s))
finish (Extension s l) short = finish_one (Extension s l) 13 refl (finish_line s)
finish (SizeLineFeed s) short = finish_line s
finish (Data n) short = finish_data n
finish DataLineFeed short = finish_one DataLineFeed 10 refl finish_start
finish (Trailers n) short = finish_trailers n
finish (Trailer n) short = finish_one (Trailer n) 13 refl (finish_one (TrailerLineFeed n) 10 refl (finish_trailers n))
finish (TrailerLineFeed n) short = finish_one (TrailerLineFeed n) 10 refl (finish_trailers n)
finish LastLineFeed short = finish_one LastLineFeed 10 refl (finish_plain 0)
finish Failed short = cc

pub short_finishes : (p : Position) (text : List ℕ) → rest_at p text ≡ Short → (more : List ℕ) × (rest_at p (text ++ more) ≡ Whole (length (text ++ more)))
short_finishes p text e =
    let on = short_goes_on p text e in
    let f = finish (place_behind p text) on.stops in
    (f.0, on.rest f.0 ∙ ap (behind (length text)) f.1 ∙ ap Whole (sym (length-append text f.0)))

pub go_on : BodiesGoOn
unfolding rest_body
go_on = λ s text e. short_finishes s.place text e

step_of-behind : (m : ℕ) (o : BodyOutcome) → step_of (behind m o) ≡ step_of o
step_of-behind m (Whole n) = refl
step_of-behind m Short = refl
step_of-behind m Broken = refl

used_of-behind : (first second : List ℕ) (o : BodyOutcome) → used_of (behind (length first) o) (first ++ second) ≡ length first + used_of o second
used_of-behind first second (Whole n) = refl
used_of-behind first second Short = length-append first second
used_of-behind first second Broken = length-append first second

whole_behind : (m j : ℕ) (o : BodyOutcome) → behind m o ≡ Whole j → (i : ℕ) × (o ≡ Whole i)
whole_behind m j (Whole i) e = (i, refl)
whole_behind m j Short e = cc
whole_behind m j Broken e = cc

broken_behind : (m : ℕ) (o : BodyOutcome) → behind m o ≡ Broken → o ≡ Broken
broken_behind m (Whole i) e = cc
broken_behind m Short e = cc
broken_behind m Broken e = refl

module _ (old middle new : BodyState) (first second : List ℕ) (m n : ℕ) (p q : BodyStep) (one : Takes old first m p middle) (two : Takes middle second n q new) where
  abbrev Both : Type 0
  Both = Takes old (first ++ second) (m + n) q new

  compose_whole : (k : ℕ) → rest_body old first ≡ Whole k → Both
  compose_whole k e =
      let used : m ≡ k = one.used ∙ ap (λ o. used_of o first) e in
      let still : (more : List ℕ) → rest_body old (first ++ more) ≡ Whole k = λ more. stay.whole old first more k e in
      let over : rest_body middle second ≡ Whole 0 = one.ended k e second in
      let none : n ≡ 0 = two.used ∙ ap (λ o. used_of o second) over in
      let sum : k ≡ m + n + 0 = omega arith in
      let both : k ≡ m + n = omega arith in
      record {
        used = sym both ∙ ap (λ o. used_of o (first ++ second)) (sym (still second));
        step = two.step ∙ ap step_of over ∙ ap step_of (sym (still second));
        rest = λ more. ap (rest_body old) (append_assoc first second more) ∙ still (second ++ more) ∙ ap Whole sum ∙ ap (behind (m + n)) (sym (two.ended 0 over (drop (m + n) (first ++ second) ++ more)));
        ended = λ j f more. two.ended 0 over more;
        broken = λ f. let g : Whole k ≡ Broken = sym (still second) ∙ f in cc;
      }

  compose_broken : rest_body old first ≡ Broken → Both
  compose_broken e =
      let used : m ≡ length first = one.used ∙ ap (λ o. used_of o first) e in
      let still : (more : List ℕ) → rest_body old (first ++ more) ≡ Broken = λ more. stay.broken old first more e in
      let over : rest_body middle second ≡ Broken = one.broken e second in
      let all : n ≡ length second = two.used ∙ ap (λ o. used_of o second) over in
      let both : m + n ≡ length (first ++ second) = omega (arith, length-append first second) in
      record {
        used = both ∙ ap (λ o. used_of o (first ++ second)) (sym (still second));
        step = two.step ∙ ap step_of over ∙ ap step_of (sym (still second));
        rest = λ more. ap (rest_body old) (append_assoc first second more) ∙ still (second ++ more) ∙ ap (behind (m + n)) (sym (two.broken over (drop (m + n) (first ++ second) ++ more)));
        ended = λ j f more. let g : Broken ≡ Whole j = sym (still second) ∙ f in cc;
        broken = λ f more. two.broken over more;
      }

  compose_short : rest_body old first ≡ Short → Both
  compose_short e =
      let all : m ≡ length first = one.used ∙ ap (λ o. used_of o first) e in
      let nothing : drop m first ≡ [] = drop_all m first (omega arith) in
      let on : (more : List ℕ) → rest_body old (first ++ more) ≡ behind m (rest_body middle more) =
      λ more. one.rest more ∙ ap (λ t. behind m (rest_body middle (t ++ more))) nothing in
      let left : drop n second ≡ drop (m + n) (first ++ second) = ap (drop n) (sym (drop_at first second m (sym all))) ∙ drop-drop n m (first ++ second) in
      let o = rest_body middle second in
      record {
        used = ap (λ k. m + k) two.used ∙ ap (λ k. k + used_of o second) all ∙ sym (used_of-behind first second o) ∙ ap (λ k. used_of (behind k o) (first ++ second)) (sym all) ∙ ap (λ x. used_of x (first ++ second)) (sym (on second));
        step = two.step ∙ sym (step_of-behind m o) ∙ ap step_of (sym (on second));
        rest = λ more. ap (rest_body old) (append_assoc first second more) ∙ on (second ++ more) ∙ ap (behind m) (two.rest more) ∙ behind-behind m n _ ∙ ap (λ t. behind (m + n) (rest_body new (t ++ more))) left;
        ended = λ j f more. let w = whole_behind m j o (sym (on second) ∙ f) in two.ended w.0 w.1 more;
        broken = λ f more. two.broken (broken_behind m o (sym (on second) ∙ f)) more;
      }

  compose_by : (o : BodyOutcome) → rest_body old first ≡ o → Both
  compose_by (Whole k) e = compose_whole k e
  compose_by Short e = compose_short e
  compose_by Broken e = compose_broken e

pub compose : TakesCompose
compose old middle new first second m n p q one two = compose_by old middle new first second m n p q one two (rest_body old first) refl
