-- A set after a name was added.
use Rattle.std.proofs.Common.{◌≡◌, ℕ, ◌||◌, Bool, true, false, not, List, ◌∷◌, bytes_eq, ap, sym, ◌∙◌, subst}
use Rattle.std.specs.Bool.{MatchBool}
use Rattle.std.specs.List.{list_any}
use Rattle.std.specs.List.Sorted.{IsPermutation}
use Rattle.std.specs.Cmp.Lexicographic.{nat_list_eq_equiv}
use Rattle.std.proofs.lemmas.List.Sorted.{list_any-IsPermutation}

module _ {K : Type 0} (bytes : K → List ℕ) (key : K) (old new : List K) where
  pub key_added : (name : List ℕ) (added : Bool) → bytes key ≡ name → list_any (λ k. bytes_eq name (bytes k)) old ≡ false →
      added ≡ not (list_any (λ k. bytes_eq (bytes key) (bytes k)) old) → MatchBool added (IsPermutation (key ∷ old) new) (new ≡ old) →
      (other : List ℕ) → list_any (λ k. bytes_eq other (bytes k)) new ≡ (bytes_eq name other || list_any (λ k. bytes_eq other (bytes k)) old)
  key_added name added same absent is put other =
      let fresh : added ≡ true = is ∙ ap (λ n. not (list_any (λ k. bytes_eq n (bytes k)) old)) same ∙ ap not absent in
      let moved : IsPermutation (key ∷ old) new = subst (λ b. MatchBool b (IsPermutation (key ∷ old) new) (new ≡ old)) fresh put in
      sym (list_any-IsPermutation (λ k. bytes_eq other (bytes k)) (key ∷ old) new moved)
      ∙ ap (λ b. b || list_any (λ k. bytes_eq other (bytes k)) old) (nat_list_eq_equiv.symm other (bytes key) ∙ ap (λ n. bytes_eq n other) same)
