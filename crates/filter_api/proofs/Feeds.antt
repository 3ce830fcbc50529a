use Rattle.std.proofs.Common.{◌≡◌, List, [], ◌∷◌, ◌++◌, refl, sym, ap, ◌∙◌, append_assoc, append-nil}
use Rattle.ssi_text.specs.declared.part.Part.{Part}
use Rattle.filter_api.specs.declared.facts.FilterState.{FilterState}
use Rattle.ssi_text.specs.Marks.{Mark, part_marks, marks}
use Rattle.filter_api.specs.Members.{Machine, feeds}

pub feeds_state-append : (m : Machine) (s : FilterState) (ps qs : List Mark) → (feeds m s (ps ++ qs)).0 ≡ (feeds m (feeds m s ps).0 qs).0
feeds_state-append m s [] qs = refl
feeds_state-append m s (p ∷ ps) qs = feeds_state-append m (m.step s p).0 ps qs

pub feeds_out-append : (m : Machine) (s : FilterState) (ps qs : List Mark) → (feeds m s (ps ++ qs)).1 ≡ (feeds m s ps).1 ++ (feeds m (feeds m s ps).0 qs).1
feeds_out-append m s [] qs = refl
feeds_out-append m s (p ∷ ps) qs = ap (λ x. (m.step s p).1 ++ x) (feeds_out-append m (m.step s p).0 ps qs) ∙ sym (append_assoc (m.step s p).1 (feeds m (m.step s p).0 ps).1 _)

pub feeds_state-push : (m : Machine) (s : FilterState) (ps : List Mark) (p : Mark) → (feeds m s (ps ++ p ∷ [])).0 ≡ (m.step (feeds m s ps).0 p).0
feeds_state-push m s ps p = feeds_state-append m s ps (p ∷ [])

pub feeds_out-push : (m : Machine) (s : FilterState) (ps : List Mark) (p : Mark) → (feeds m s (ps ++ p ∷ [])).1 ≡ (feeds m s ps).1 ++ (m.step (feeds m s ps).0 p).1
feeds_out-push m s ps p = feeds_out-append m s ps (p ∷ []) ∙ ap (λ x. (feeds m s ps).1 ++ x) (append-nil (m.step (feeds m s ps).0 p).1)

pub marks-append : (xs ys : List Part) → marks (xs ++ ys) ≡ marks xs ++ marks ys
marks-append [] ys = refl
marks-append (x ∷ xs) ys = ap (λ z. part_marks x ++ z) (marks-append xs ys) ∙ sym (append_assoc (part_marks x) (marks xs) (marks ys))

pub marks-push : (xs : List Part) (p : Part) → marks (xs ++ p ∷ []) ≡ marks xs ++ part_marks p
marks-push xs p = marks-append xs (p ∷ []) ∙ ap (λ z. marks xs ++ z) (append-nil (part_marks p))

pub feeds_turn : (m : Machine) (s t t' : FilterState) (ys : List Part) (p : Part) (o o' o0 : List Mark) → t ≡ (feeds m s (marks ys)).0 → o ≡ o0 ++ (feeds m s (marks ys)).1 → t' ≡ (feeds m t (part_marks p)).0 → o' ≡ o ++ (feeds m t (part_marks p)).1 → (t' ≡ (feeds m s (marks (ys ++ p ∷ []))).0) × (o' ≡ o0 ++ (feeds m s (marks (ys ++ p ∷ []))).1)
feeds_turn m s t t' ys p o o' o0 ht ho ht' ho' =
    let e : marks (ys ++ p ∷ []) ≡ marks ys ++ part_marks p = marks-push ys p in (
      ht' ∙ ap (λ x. (feeds m x (part_marks p)).0) ht ∙ sym (feeds_state-append m s (marks ys) (part_marks p)) ∙ ap (λ z. (feeds m s z).0) (sym e),
      ho' ∙ ap (λ x. x ++ (feeds m t (part_marks p)).1) ho ∙ append_assoc o0 (feeds m s (marks ys)).1 (feeds m t (part_marks p)).1 ∙ ap (λ x. o0 ++ ((feeds m s (marks ys)).1 ++ (feeds m x (part_marks p)).1)) ht ∙ ap (λ x. o0 ++ x) (sym (feeds_out-append m s (marks ys) (part_marks p)) ∙ ap (λ z. (feeds m s z).1) (sym e)),
    )
