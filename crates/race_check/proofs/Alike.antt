-- Texts piece by piece.
use Rattle.std.proofs.Common.{◌≡◌, ℕ, suc, ◌+◌, ◌<◌, ◌≤◌, ◌&&◌, Bool, true, false, List, [], ◌∷◌, length, drop, get_or, refl, ap, sym, ◌∙◌}
use Rattle.ngx_variables.specs.declared.value.Piece.{Piece}
use Rattle.race_meaning.specs.Named.{same_piece, same_text}
use Rattle.race_check.proofs.Lists.{next_at, all_over}

pub differ : (a b : List Piece) → ((length a ≡ length b) → ⊥) → same_text a b ≡ false
unfolding same_text
differ [] [] h = absurd (h refl)
differ [] (y ∷ b) h = refl
differ (x ∷ a) [] h = refl
differ (x ∷ a) (y ∷ b) h = ap (λ s. same_piece x y && s) (differ a b (λ e. h (ap suc e))) ∙ and_false (same_piece x y)
  where
    and_false : (b : Bool) → (b && false) ≡ false
    and_false true = refl
    and_false false = refl

module _ (a b : List Piece) (i : ℕ) where
  both_step : (x y : Piece) → i < length a → i < length b → x ≡ get_or a i x → y ≡ get_or b i y →
      same_text (drop i a) (drop i b) ≡ (same_piece x y && same_text (drop (i + 1) a) (drop (i + 1) b))
  unfolding same_text
  both_step x y h g e f = ap (λ l. same_text l (drop i b)) (next_at a i x h e) ∙ ap (λ l. same_text (x ∷ drop (i + 1) a) l) (next_at b i y g f)

  pub alike_more : (x y : Piece) → i < length a → i < length b → x ≡ get_or a i x → y ≡ get_or b i y → same_piece x y ≡ true →
      same_text (drop i a) (drop i b) ≡ same_text a b → same_text (drop (i + 1) a) (drop (i + 1) b) ≡ same_text a b
  alike_more x y h g e f same inv = ap (λ p. p && same_text (drop (i + 1) a) (drop (i + 1) b)) (sym same) ∙ sym (both_step x y h g e f) ∙ inv

  pub alike_not : (x y : Piece) → i < length a → i < length b → x ≡ get_or a i x → y ≡ get_or b i y → same_piece x y ≡ false →
      same_text (drop i a) (drop i b) ≡ same_text a b → false ≡ same_text a b
  alike_not x y h g e f same inv = ap (λ p. p && same_text (drop (i + 1) a) (drop (i + 1) b)) (sym same) ∙ sym (both_step x y h g e f) ∙ inv

  pub alike_end : length a ≤ i → length b ≤ i → same_text (drop i a) (drop i b) ≡ same_text a b → true ≡ same_text a b
  unfolding same_text
  alike_end h g inv = ap (λ l. same_text l []) (sym (all_over a i h)) ∙ ap (λ l. same_text (drop i a) l) (sym (all_over b i g)) ∙ inv
