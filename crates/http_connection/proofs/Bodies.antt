-- Bodies that are dropped from the front of bytes.
use Rattle.std.proofs.Common.{◌≡◌, ℕ, ◌+◌, ◌≤◌, Bool, true, false, List, [], ◌++◌, length, drop, Option, None, Some, refl, sym, ap, ◌∙◌, subst, arith, length-drop}
use Rattle.std.proofs.lemmas.List.{append-nil, drop_all, drop-drop, drop-append-le}
use Rattle.body_frame.specs.Outcome.{BodyOutcome, Whole, Short, Broken, behind, step_of, used_of}
use Rattle.body_frame.specs.State.{rest_body, body_of, IsBegun, Takes}
use Rattle.http_types.specs.declared.words.BodyKind.{BodyKind}
use Rattle.body_frame.specs.declared.state.BodyState.{BodyState}
use Rattle.body_frame.specs.declared.step.BodyStep.{BodyStep}
use Rattle.body_frame.specs.declared.step.BodyStep.TheVariants as steps
use Rattle.http_connection.specs.Steps.{Drops, rest_of}
use Rattle.answers_meaning.specs.Answers.{Answer, after_body}

-- what is dropped at twice is dropped at once
drop_twice : (m n : ℕ) (xs : List ℕ) → drop n (drop m xs) ≡ drop (m + n) xs
drop_twice m n xs = drop-drop n m xs

-- dropping a front that is there, and then more
drop_front : (m n : ℕ) (bytes more : List ℕ) → m ≤ length bytes → drop (m + n) (bytes ++ more) ≡ drop n (drop m bytes ++ more)
drop_front m n bytes more h = sym (drop_twice m n (bytes ++ more)) ∙ ap (drop n) (drop-append-le m bytes more h)

-- what is answered after a body, whose front was taken
behind_front : (m : ℕ) (bytes more : List ℕ) (o : BodyOutcome) (g : List ℕ → List Answer) → m ≤ length bytes →
    after_body (behind m o) (λ n. g (drop n (bytes ++ more))) ≡ after_body o (λ n. g (drop n (drop m bytes ++ more)))
behind_front m bytes more (Whole n) g h = ap g (drop_front m n bytes more h)
behind_front m bytes more Short g h = refl
behind_front m bytes more Broken g h = refl

-- what is answered to the bytes that a body took some of
after_take : (old new : BodyState) (bytes : List ℕ) (count : ℕ) (told : BodyStep) → Takes old bytes count told new → count ≤ length bytes → (g : List ℕ → List Answer) (more : List ℕ) →
    after_body (rest_body old (bytes ++ more)) (λ n. g (drop n (bytes ++ more))) ≡ after_body (rest_body new (drop count bytes ++ more)) (λ n. g (drop n (drop count bytes ++ more)))
after_take old new bytes count told t h g more =
    ap (λ o. after_body o (λ n. g (drop n (bytes ++ more)))) (t.rest more) ∙ behind_front count bytes more (rest_body new (drop count bytes ++ more)) g h

shorter_by : (count : ℕ) (bytes : List ℕ) → length (drop count bytes) ≤ length bytes
shorter_by count bytes = let e = length-drop count bytes in omega (arith, e)

-- a body that ended
pub ended_drops : (old new : BodyState) (bytes : List ℕ) (count : ℕ) (told : BodyStep) (n : ℕ) → Takes old bytes count told new → count ≤ length bytes → rest_body old bytes ≡ Whole n →
    Drops (rest_body old) bytes None (drop count bytes) false
ended_drops old new bytes count told n t h e = record {
  rest = λ g more. after_take old new bytes count told t h g more ∙ ap (λ o. after_body o (λ k. g (drop k (drop count bytes ++ more)))) (t.ended n e (drop count bytes ++ more));
  drained = λ h. cc;
  unended = λ h. cc;
  shorter = shorter_by count bytes;
}

-- one that is broken
pub broken_drops : (old new : BodyState) (bytes : List ℕ) (count : ℕ) (told : BodyStep) → Takes old bytes count told new → count ≤ length bytes → rest_body old bytes ≡ Broken →
    Drops (rest_body old) bytes None (drop count bytes) true
broken_drops old new bytes count told t h e = record {
  rest = λ g more. after_take old new bytes count told t h g more ∙ ap (λ o. after_body o (λ k. g (drop k (drop count bytes ++ more)))) (t.broken e (drop count bytes ++ more));
  drained = λ h. cc;
  unended = λ h. cc;
  shorter = shorter_by count bytes;
}

short_behind : (m : ℕ) (o : BodyOutcome) → Short ≡ behind m o → o ≡ Short
short_behind m (Whole n) e = cc
short_behind m Short e = refl
short_behind m Broken e = cc

-- one that goes on
pub more_drops : (old new : BodyState) (bytes : List ℕ) (count : ℕ) (told : BodyStep) → Takes old bytes count told new → count ≤ length bytes → rest_body old bytes ≡ Short →
    Drops (rest_body old) bytes (Some new) (drop count bytes) false
more_drops old new bytes count told t h e = record {
  rest = λ g more. after_take old new bytes count told t h g more;
  drained = λ s. all;
  unended = λ s.
      short_behind count (rest_body new [])
      (sym e ∙ ap (rest_body old) (sym (append-nil bytes)) ∙ t.rest [] ∙ ap (λ l. behind count (rest_body new (l ++ []))) all);
  shorter = shorter_by count bytes;
}
  where
    all : drop count bytes ≡ []
    all =
        let u : count ≡ length bytes = t.used ∙ ap (λ o. used_of o bytes) e in
        drop_all count bytes (omega (arith, u))

-- none is left
pub none_drops : (bytes : List ℕ) → Drops (rest_of None) bytes None (drop 0 bytes) false
none_drops bytes = record {
  rest = λ g more. refl;
  drained = λ h. cc;
  unended = λ h. cc;
  shorter = omega arith;
}

-- the same, where another says the same of each text
pub drops_from : (f g : List ℕ → BodyOutcome) (input : List ℕ) (body : Option BodyState) (buffered : List ℕ) (broken : Bool) → ((text : List ℕ) → g text ≡ f text) → Drops f input body buffered broken → Drops g input body buffered broken
drops_from f g input body buffered broken same d = record {
  rest = λ h more. ap (λ o. after_body o (λ n. h (drop n (input ++ more)))) (same (input ++ more)) ∙ d.rest h more;
  drained = d.drained;
  unended = d.unended;
  shorter = d.shorter;
}

outcome_ended : (o : BodyOutcome) → steps.Ended ≡ step_of o → (n : ℕ) × (o ≡ Whole n)
outcome_ended (Whole n) e = (n, refl)
outcome_ended Short e = cc
outcome_ended Broken e = cc

outcome_more : (o : BodyOutcome) → steps.More ≡ step_of o → o ≡ Short
outcome_more (Whole n) e = cc
outcome_more Short e = refl
outcome_more Broken e = cc

outcome_broken : (o : BodyOutcome) → steps.Broken ≡ step_of o → o ≡ Broken
outcome_broken (Whole n) e = cc
outcome_broken Short e = cc
outcome_broken Broken e = refl

pub ends_taken : (old new : BodyState) (bytes : List ℕ) (count : ℕ) (told : BodyStep) → Takes old bytes count told new → count ≤ length bytes → told ≡ steps.Ended → Drops (rest_body old) bytes None (drop count bytes) false
ends_taken old new bytes count told t h e = let o = outcome_ended (rest_body old bytes) (sym e ∙ t.step) in ended_drops old new bytes count told o.0 t h o.1

pub goes_on_taken : (old new : BodyState) (bytes : List ℕ) (count : ℕ) (told : BodyStep) → Takes old bytes count told new → count ≤ length bytes → told ≡ steps.More → Drops (rest_body old) bytes (Some new) (drop count bytes) false
goes_on_taken old new bytes count told t h e = more_drops old new bytes count told t h (outcome_more (rest_body old bytes) (sym e ∙ t.step))

pub breaks_taken : (old new : BodyState) (bytes : List ℕ) (count : ℕ) (told : BodyStep) → Takes old bytes count told new → count ≤ length bytes → told ≡ steps.Broken → Drops (rest_body old) bytes None (drop count bytes) true
breaks_taken old new bytes count told t h e = broken_drops old new bytes count told t h (outcome_broken (rest_body old bytes) (sym e ∙ t.step))

-- the body after a head, in what is buffered
pub head_drops : (kind : BodyKind) (state : BodyState) (lent buffered buffered' : List ℕ) (size used : ℕ) (body : Option BodyState) (broken : Bool) → IsBegun kind state → lent ≡ drop size buffered → buffered' ≡ drop (size + used) buffered → Drops (rest_body state) lent body (drop used lent) broken →
    Drops (body_of kind) (drop size buffered) body buffered' broken
head_drops kind state lent buffered buffered' size used body broken begun e f d =
    subst (λ h. Drops (body_of kind) (drop size buffered) body h broken) (ap (drop used) e ∙ drop_twice size used buffered ∙ sym f)
    (subst (λ l. Drops (body_of kind) l body (drop used lent) broken) e (drops_from (rest_body state) (body_of kind) lent body (drop used lent) broken (λ text. sym (begun text)) d))
