-- The moments that a clock has told, call by call.
use Rattle.std.proofs.Common.{◌≡◌, ℕ, suc, ◌+◌, List, [], ◌∷◌, ◌++◌, length, min, refl, sym, ap, ◌∙◌, arith}
use Rattle.memory_outside.specs.Moments.{moments_told, moment_at}

told_suc : (moments : List ℕ) (calls : ℕ) → moments_told moments (suc calls) ≡ moments_told moments calls ++ moment_at moments calls ∷ []
unfolding moments_told
told_suc moments calls = refl

-- one call more
pub told_more : (moments slice : List ℕ) (calls new at len moment : ℕ) → slice ≡ moments → len ≡ length moments → new ≡ calls + 1 → at ≡ min calls len →
    ((call : ℕ) → at ≡ min call (length slice) → moment ≡ moment_at slice call) → moments_told moments new ≡ moments_told moments calls ++ moment ∷ []
told_more moments slice calls new at len moment s l n a h =
    ap (moments_told moments) (let e : new ≡ suc calls = omega arith in e) ∙ told_suc moments calls
    ∙ ap (λ m. moments_told moments calls ++ m ∷ []) (ap (λ x. moment_at x calls) (sym s) ∙ sym (h calls (a ∙ ap (λ k. min calls k) (l ∙ ap length (sym s)))))
