-- The last byte of a path.
use Rattle.std.proofs.Common.{◌≡◌, ℕ, ◌-◌, ◌≤◌, nat_eq, suc, List, [], ◌∷◌, length, get_or, refl, ap, ◌∙◌, arith}
use Rattle.request_meaning.specs.Contents.{ends_in_slash}

pub last_slash : (path : List ℕ) → 1 ≤ length path → nat_eq (get_or path (length path - 1) 0) 47 ≡ ends_in_slash path
last_slash [] h = absurd (omega (arith, h))
last_slash (b ∷ []) h = refl
last_slash (b ∷ c ∷ path) h =
    let e : length (b ∷ c ∷ path) - 1 ≡ suc (length (c ∷ path) - 1) = omega arith in
    ap (λ k. nat_eq (get_or (b ∷ c ∷ path) k 0) 47) e ∙ last_slash (c ∷ path) (omega arith)
