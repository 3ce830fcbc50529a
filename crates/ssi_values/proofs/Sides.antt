-- A condition divided at its first `=`.
use Rattle.std.proofs.Common.{◌≡◌, ℕ, ◌+◌, nat_lt, true, false, cond, List, [], ◌∷◌, length, take, drop, Some, None, refl, sym, ◌∙◌, ap, arith}
use Rattle.std.specs.List.{list_any, position, position_or_len, before_first, after_first}
use Rattle.std.proofs.lemmas.Bool.{cond-true, cond-false}
use Rattle.ngx_variables.specs.Pairs.{trimmed}
use Rattle.request_meaning.specs.Documents.{is_equals, is_full}
use Rattle.ssi_values.specs.Known.{Known, filled_text, sides_truth, truth_of}

any_at : (text : List ℕ) → list_any is_equals text ≡ nat_lt (position_or_len is_equals text) (length text)
any_at [] = refl
any_at (b ∷ text) = grind (arith, any_at text)

module _ (k : Known) (text : List ℕ) where
  divided : list_any is_equals text ≡ true → truth_of k text ≡ sides_truth k (before_first is_equals text) (after_first is_equals text)
  unfolding truth_of
  divided e = cond-true (list_any is_equals text) (sides_truth k (before_first is_equals text) (after_first is_equals text)) (is_full (filled_text k (trimmed text))) e

  undivided : list_any is_equals text ≡ false → truth_of k text ≡ is_full (filled_text k (trimmed text))
  unfolding truth_of
  undivided e = cond-false (list_any is_equals text) (sides_truth k (before_first is_equals text) (after_first is_equals text)) (is_full (filled_text k (trimmed text))) e

  at_place : (at : ℕ) → nat_lt (position_or_len is_equals text) (length text) ≡ true → at ≡ position_or_len is_equals text → truth_of k text ≡ sides_truth k (take at text) (drop (at + 1) text)
  at_place at within here = divided (any_at text ∙ within) ∙ ap (λ n. sides_truth k (take n text) (drop (n + 1) text)) (sym here)

  pub sides_at : (at : ℕ) → Some at ≡ position is_equals text → truth_of k text ≡ sides_truth k (take at text) (drop (at + 1) text)
  sides_at at e =
      elim (nat_lt (position_or_len is_equals text) (length text)) as (λ b. nat_lt (position_or_len is_equals text) (length text) ≡ b → Some at ≡ cond b (Some (position_or_len is_equals text)) None → truth_of k text ≡ sides_truth k (take at text) (drop (at + 1) text)) [
        | true ↦ λ t same. at_place at t (cc)
        | false ↦ λ f same. absurd (cc)
      ] refl e

  pub no_sides : None ≡ position is_equals text → truth_of k text ≡ is_full (filled_text k (trimmed text))
  no_sides e =
      elim (nat_lt (position_or_len is_equals text) (length text)) as (λ b. nat_lt (position_or_len is_equals text) (length text) ≡ b → None ≡ cond b (Some (position_or_len is_equals text)) None → truth_of k text ≡ is_full (filled_text k (trimmed text))) [
        | true ↦ λ t none. absurd (cc)
        | false ↦ λ f none. undivided (any_at text ∙ f)
      ] refl e
