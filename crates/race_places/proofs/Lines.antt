-- Lines added one after another.
use Rattle.std.proofs.Common.{◌≡◌, ℕ, ◌+◌, Bool, true, false, List, [], ◌∷◌, ◌++◌, length, drop, map, refl, ap, sym, ◌∙◌, append_assoc, arith, if◌then◌else◌}
use Rattle.std.proofs.lemmas.List.{append-nil}
use Rattle.source_lines.specs.declared.line.Line.{Line}
use Rattle.race_places.specs.Places.{lines_of, keep_if, over_both}

-- the first of a list, and the first of its lines
here_by : (b : Bool) (line : Line) (later : List Line) → keep_if b (line ∷ []) ++ later ≡ (if b then line ∷ later else later)
here_by true line later = refl
here_by false line later = refl

module _ {X A : Type 0} (test : A → Bool) (seen : X → A) (xs : List X) (i : ℕ) where
  pub lines_more : (x : X) (left rest : List Line) (line : Line) (b : Bool) (old new whole : List Line)
      → drop i xs ≡ x ∷ drop (i + 1) xs → left ≡ line ∷ rest → b ≡ test (seen x) → new ≡ old ++ keep_if b (line ∷ [])
      → old ++ lines_of test (map seen (drop i xs)) left ≡ whole → new ++ lines_of test (map seen (drop (i + 1) xs)) rest ≡ whole
  lines_more x left rest line b old new whole at is t n w =
      let later = lines_of test (map seen (drop (i + 1) xs)) rest in
      ap (λ l. l ++ later) n
      ∙ append_assoc old (keep_if b (line ∷ [])) later
      ∙ ap (λ l. old ++ l) (here_by b line later ∙ ap (λ b. if b then line ∷ later else later) t)
      ∙ ap (λ l. old ++ lines_of test (map seen (x ∷ drop (i + 1) xs)) l) (sym is)
      ∙ ap (λ l. old ++ lines_of test (map seen l) left) (sym at)
      ∙ w

  none_left : (items : List A) → lines_of test items [] ≡ []
  none_left [] = refl
  none_left (a ∷ items) = refl

  -- no line is left
  pub lines_short : (left old whole : List Line) → length left ≡ 0 → old ++ lines_of test (map seen (drop i xs)) left ≡ whole → old ≡ whole
  lines_short [] old whole is w = sym (append-nil old) ∙ ap (λ l. old ++ l) (sym (none_left (map seen (drop i xs)))) ∙ w
  lines_short (l ∷ ls) old whole is w = absurd (omega (arith, is))

  -- nothing is left that has a line
  pub lines_over : (left old whole : List Line) → drop i xs ≡ [] → old ++ lines_of test (map seen (drop i xs)) left ≡ whole → old ≡ whole
  lines_over left old whole over w =
      sym (append-nil old) ∙ ap (λ l. old ++ lines_of test (map seen l) left) (sym over) ∙ w

-- ---- pair by pair

module _ {X Y A B : Type 0} (f : A → B → List Line) (seen : X → A) (given : Y → B) (xs : List X) (i : ℕ) where
  pub both_more : (x : X) (left rest : List Y) (y : Y) (old new whole : List Line) → drop i xs ≡ x ∷ drop (i + 1) xs → left ≡ y ∷ rest → new ≡ old ++ f (seen x) (given y)
      → old ++ over_both f (map seen (drop i xs)) (map given left) ≡ whole → new ++ over_both f (map seen (drop (i + 1) xs)) (map given rest) ≡ whole
  unfolding over_both
  both_more x left rest y old new whole at is n w =
      let later = over_both f (map seen (drop (i + 1) xs)) (map given rest) in
      ap (λ l. l ++ later) n
      ∙ append_assoc old (f (seen x) (given y)) later
      ∙ ap (λ l. old ++ over_both f (map seen (x ∷ drop (i + 1) xs)) (map given l)) (sym is)
      ∙ ap (λ l. old ++ over_both f (map seen l) (map given left)) (sym at)
      ∙ w

  none_with : (items : List A) → over_both f items [] ≡ []
  unfolding over_both
  none_with [] = refl
  none_with (a ∷ items) = refl

  -- nothing is left of the second list
  pub both_short : (left : List Y) (old whole : List Line) → length left ≡ 0 → old ++ over_both f (map seen (drop i xs)) (map given left) ≡ whole → old ≡ whole
  both_short [] old whole is w = sym (append-nil old) ∙ ap (λ l. old ++ l) (sym (none_with (map seen (drop i xs)))) ∙ w
  both_short (l ∷ ls) old whole is w = absurd (omega (arith, is))

  -- nothing is left of the first
  pub both_over : (left : List Y) (old whole : List Line) → drop i xs ≡ [] → old ++ over_both f (map seen (drop i xs)) (map given left) ≡ whole → old ≡ whole
  unfolding over_both
  both_over left old whole over w = sym (append-nil old) ∙ ap (λ l. old ++ over_both f (map seen l) (map given left)) (sym over) ∙ w
