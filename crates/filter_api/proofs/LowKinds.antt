use Rattle.std.proofs.Common.{◌≡◌, ℕ, ◌+◌, ◌<◌, ◌≤◌, Bool, true, false, ◌||◌, nat_lt, List, map, length, get_or, drop, sym, ap, ◌∙◌}
use Rattle.std.proofs.lemmas.List.{length-map, drop_all}
use Rattle.std.proofs.lemmas.Bool.{le-ltb, lt-ltb}
use Rattle.std.specs.List.{list_any}
use Rattle.filter_api.proofs.Turns.{rest_at, map_at}

any_at : {X : Type 0} (f : X → ℕ) (xs : List X) (i : ℕ) (x : X) → i < length xs → x ≡ get_or xs i x → list_any (λ k. nat_lt k 3) (drop i (map f xs)) ≡ nat_lt (f x) 3 || list_any (λ k. nat_lt k 3) (drop (i + 1) (map f xs))
any_at f xs i x h e = ap (λ z. list_any (λ k. nat_lt k 3) z) (rest_at (map f xs) i (f x) (rw length-map h) (map_at f xs i x h e))

pub any_here : {X : Type 0} (f : X → ℕ) (xs : List X) (i : ℕ) (x : X) (b : Bool) → i < length xs → x ≡ get_or xs i x → f x < 3 → list_any (λ k. nat_lt k 3) (drop i (map f xs)) ≡ b → true ≡ b
any_here f xs i x b h e low inv = ap (λ z. z || list_any (λ k. nat_lt k 3) (drop (i + 1) (map f xs))) (sym (lt-ltb (f x) 3 low)) ∙ sym (any_at f xs i x h e) ∙ inv

pub any_later : {X : Type 0} (f : X → ℕ) (xs : List X) (i : ℕ) (x : X) (b : Bool) → i < length xs → x ≡ get_or xs i x → 3 ≤ f x → list_any (λ k. nat_lt k 3) (drop i (map f xs)) ≡ b → list_any (λ k. nat_lt k 3) (drop (i + 1) (map f xs)) ≡ b
any_later f xs i x b h e high inv = ap (λ z. z || list_any (λ k. nat_lt k 3) (drop (i + 1) (map f xs))) (sym (le-ltb (f x) 3 high)) ∙ sym (any_at f xs i x h e) ∙ inv

pub any_no_more : {X : Type 0} (f : X → ℕ) (xs : List X) (i : ℕ) (b : Bool) → length xs ≤ i → list_any (λ k. nat_lt k 3) (drop i (map f xs)) ≡ b → false ≡ b
any_no_more f xs i b h inv = ap (λ z. list_any (λ k. nat_lt k 3) z) (sym (drop_all i (map f xs) (rw length-map h))) ∙ inv
