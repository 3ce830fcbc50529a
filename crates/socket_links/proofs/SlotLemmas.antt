-- Slots without links.
use Rattle.std.proofs.Common.{◌≡◌, ℕ, ◌/◌, ◌%◌, ◌<◌, ◌≤◌, ◌⊎◌, inl, inr, false, List, length, get_or, Option, None, ap, ◌∙◌, arith}
use Rattle.std.specs.Prelude.{nat_lt}
use Rattle.std.specs.List.{All}
use Rattle.std.proofs.lemmas.Bool.{cases_lt}
use Rattle.std.proofs.lemmas.Bool.Decides.{nat_tests}
use Rattle.std.proofs.lemmas.List.{get_or_past}
use Rattle.std.proofs.lemmas.List.Elements.{All-get_or}
use Rattle.socket_links.specs.declared.slots.Link.{Link}
use Rattle.socket_links.specs.Slots.{is_at, open_in, used_in}

-- empty slots have no link
pub none_open : (links : List (Option Link)) → All (λ (o : Option Link). o ≡ None) links → (id : ℕ) → open_in links id ≡ false
none_open links all id = ap (λ o. is_at o id) (none_at links (id % 1024) all)
  where
    none_at : (xs : List (Option Link)) (k : ℕ) → All (λ (o : Option Link). o ≡ None) xs → get_or xs k None ≡ None
    none_at xs k all = by_place (cases_lt k (length xs))
      where
        by_place : (k < length xs) ⊎ (length xs ≤ k) → get_or xs k None ≡ None
        by_place (inl h) = All-get_or (λ (o : Option Link). o ≡ None) xs k None h all
        by_place (inr h) = get_or_past xs k None h

-- slots that had no link
pub none_used : (counts : List ℕ) → All (λ (n : ℕ). n ≡ 0) counts → (id : ℕ) → used_in counts id ≡ false
none_used counts all id = ap (λ k. nat_lt (id / 1024) k) (none_at counts (id % 1024) all) ∙ below (id / 1024)
  where
    none_at : (xs : List ℕ) (k : ℕ) → All (λ (n : ℕ). n ≡ 0) xs → get_or xs k 0 ≡ 0
    none_at xs k all = by_place (cases_lt k (length xs))
      where
        by_place : (k < length xs) ⊎ (length xs ≤ k) → get_or xs k 0 ≡ 0
        by_place (inl h) = All-get_or (λ (n : ℕ). n ≡ 0) xs k 0 h all
        by_place (inr h) = get_or_past xs k 0 h

    below : (k : ℕ) → nat_lt k 0 ≡ false
    below k = grind (arith, nat_tests)
