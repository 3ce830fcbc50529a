-- What the machine says of a text is what the grammar says of it.
use Rattle.std.proofs.Common.{◌≡◌, ℕ, ◌+◌, ◌-◌, List, [], ◌∷◌, ◌++◌, length, take, drop, sym, refl, ap, ◌∙◌, subst, arith}
use Rattle.std.proofs.lemmas.List.{append-nil, take-append-drop, length-take-le, take_all, nil_from_length}
use Rattle.http_types.specs.declared.words.BodyKind.{BodyKind}
use Rattle.http_types.specs.declared.words.BodyKind.TheVariants.{Empty, Length, Chunked}
use Rattle.body_frame.specs.Outcome.{BodyOutcome, Whole, Short, Broken, behind}
use Rattle.body_frame.specs.Grammar.{IsBody, Decides}
use Rattle.body_frame.specs.declared.place.Position.{Position}
use Rattle.body_frame.specs.declared.place.Position.TheVariants as at
use Rattle.body_frame.specs.Position.{place_after, stops_at, rest_at}
use Rattle.body_frame.specs.State.{first_place, body_of}
use Rattle.body_frame.specs.Laws.{BodiesAreTheGrammars}
use Rattle.body_frame.proofs.RunLemmas.{rest_at-nil, rest_at-one, rest_at_whole, skips_plain, whole_within, whole_stays, broken_stays, place_behind, short_goes_on}
use Rattle.body_frame.proofs.LawLemmas.{short_finishes}
use Rattle.body_frame.proofs.GrammarComplete.{reads_whole, reads_body}
use Rattle.body_frame.proofs.GrammarSound.{body_from_rest, length_from_rest}

-- one body after another can't be told by a body's end
not_whole_yet : (p : Position) (text : List ℕ) → stops_at p ≡ Short → rest_at p text ≡ Whole 0 → ⊥
not_whole_yet p [] short whole = let f : Short ≡ Whole 0 = sym (rest_at-nil p ∙ short) ∙ whole in cc
not_whole_yet p (b ∷ text) short whole = by (rest_at (place_after p b) text) (sym (rest_at-one p b text short) ∙ whole)
  where
    by : (o : BodyOutcome) → behind 1 o ≡ Whole 0 → ⊥
    by (Whole n) e = let g : 1 + n ≡ 0 = cc in omega arith
    by Short e = cc
    by Broken e = cc

whole_zero : (n : ℕ) (o : BodyOutcome) → behind n o ≡ Whole n → o ≡ Whole 0
whole_zero n (Whole k) e =
    let g : n + k ≡ n = cc in
    let none : k ≡ 0 = omega arith in
    ap Whole none
whole_zero n Short e = cc
whole_zero n Broken e = cc

-- the bytes of a whole body alone are whole
module _ (p : Position) (front rest : List ℕ) (whole : rest_at p (front ++ rest) ≡ Whole (length front)) where
  front_by : (o : BodyOutcome) → rest_at p front ≡ o → o ≡ Whole (length front)
  front_by (Whole k) e = sym (whole_stays p front rest k e) ∙ whole
  front_by Short e =
      let on = short_goes_on p front e in
      absurd (not_whole_yet (place_behind p front) rest on.stops (whole_zero (length front) _ (sym (on.rest rest) ∙ whole)))
  front_by Broken e =
      let f : Broken ≡ Whole (length front) = sym (broken_stays p front rest e) ∙ whole in
      cc

whole_front : (p : Position) (text : List ℕ) (n : ℕ) → rest_at p text ≡ Whole n → rest_at p (take n text) ≡ Whole n
whole_front p text n whole =
    let len : length (take n text) ≡ n = length-take-le n text (whole_within p text n whole) in
    let f : rest_at p (take n text ++ drop n text) ≡ Whole (length (take n text)) = ap (rest_at p) (take-append-drop n text) ∙ whole ∙ ap Whole (sym len) in
    front_by p (take n text) (drop n text) f (rest_at p (take n text)) refl ∙ ap Whole len

plain_whole : (n : ℕ) (text more : List ℕ) → length text ≡ n → rest_at (at.Plain n) (text ++ more) ≡ Whole (length text)
plain_whole n text more len =
    let over : n - n ≡ 0 = omega arith in
    let sum : n + 0 ≡ length text = omega arith in
    skips_plain n n text (omega arith) (omega arith) more
    ∙ ap (λ k. behind n (rest_at (at.Plain k) (drop n text ++ more))) over
    ∙ ap (behind n) (rest_at_whole (at.Plain 0) (drop n text ++ more) 0 refl)
    ∙ ap Whole sum

-- each body is read, whatever follows
complete : (kind : BodyKind) (text more : List ℕ) → IsBody kind text → rest_at (first_place kind) (text ++ more) ≡ Whole (length text)
complete Empty text more is = plain_whole 0 text more (ap length is)
complete (Length n) text more is = plain_whole n text more is
complete Chunked text more is =
    ap (λ t. rest_at at.SizeStart (t ++ more)) is.2 ∙ reads_whole at.SizeStart _ more (reads_body is.0 is.1) ∙ ap (λ t. Whole (length t)) (sym is.2)

-- and nothing else is
sound : (kind : BodyKind) (text : List ℕ) → rest_at (first_place kind) text ≡ Whole (length text) → IsBody kind text
sound Empty text whole = nil_from_length text (length_from_rest 0 text whole)
sound (Length n) text whole = length_from_rest n text whole
sound Chunked text whole = body_from_rest text whole

module _ (kind : BodyKind) (text : List ℕ) where
  abbrev p : Position
  p = first_place kind

  forward : (o : BodyOutcome) → rest_at p text ≡ o → Decides kind text o
  forward (Whole n) e =
      let within = whole_within p text n e in
      let len : n ≡ length (take n text) = sym (length-take-le n text within) in
      (within, sound kind (take n text) (whole_front p text n e ∙ ap Whole len))
  forward Short e =
      let finish = short_finishes p text e in
      let none : (n : ℕ) → ¬ (IsBody kind (take n text)) = λ n is.
      let f : Short ≡ Whole (length (take n text)) = sym e ∙ ap (rest_at p) (sym (take-append-drop n text)) ∙ complete kind (take n text) (drop n text) is in cc in
      (none, (finish.0, sound kind (text ++ finish.0) finish.1))
  forward Broken e = λ n more is.
      let whole = text ++ more in
      let f : Broken ≡ Whole (length (take n whole)) = sym (broken_stays p text more e) ∙ ap (rest_at p) (sym (take-append-drop n whole)) ∙ complete kind (take n whole) (drop n whole) is in
      cc

  back_short : (o : BodyOutcome) → rest_at p text ≡ o → Decides kind text Short → o ≡ Short
  back_short (Whole k) e d = absurd (d.0 k (forward (Whole k) e).1)
  back_short Short e d = refl
  back_short Broken e d =
      let more = d.1.0 in
      let f : Broken ≡ Whole (length (text ++ more)) = sym (broken_stays p text more e) ∙ ap (rest_at p) (sym (append-nil (text ++ more))) ∙ complete kind (text ++ more) [] d.1.1 in
      cc

  back_broken : (o : BodyOutcome) → rest_at p text ≡ o → Decides kind text Broken → o ≡ Broken
  back_broken (Whole k) e d =
      let is : IsBody kind (take k (text ++ [])) = subst (λ t. IsBody kind (take k t)) (sym (append-nil text)) (forward (Whole k) e).1 in
      absurd (d k [] is)
  back_broken Short e d =
      let s = (forward Short e).1 in
      let whole = text ++ s.0 in
      let is : IsBody kind (take (length whole) whole) = subst (IsBody kind) (sym (take_all (length whole) whole (omega arith))) s.1 in
      absurd (d (length whole) s.0 is)
  back_broken Broken e d = refl

  backward : (o : BodyOutcome) → Decides kind text o → rest_at p text ≡ o
  backward (Whole n) d =
      ap (rest_at p) (sym (take-append-drop n text)) ∙ complete kind (take n text) (drop n text) d.1 ∙ ap Whole (length-take-le n text d.0)
  backward Short d = back_short (rest_at p text) refl d
  backward Broken d = back_broken (rest_at p text) refl d

pub grammar : BodiesAreTheGrammars
unfolding body_of
grammar kind text outcome = (forward kind text outcome, backward kind text outcome)
