-- A text whose last part is cut.
use Rattle.std.proofs.Common.{◌≡◌, ℕ, ◌+◌, ◌-◌, ◌≤◌, true, false, List, ◌++◌, length, take, drop, slice_get, cond, sym, ◌∙◌, ap, arith}
use Rattle.std.proofs.Math.Seq.{take-length, take-append-add}
use Rattle.std.proofs.lemmas.List.{length-take-le, take-append-drop}
use Rattle.ngx_variables.specs.Paths.{is_slash, without_last_slash}

-- a text without its last slash is its front
front_of : (bs : List ℕ) → take (length (without_last_slash bs)) bs ≡ without_last_slash bs
unfolding without_last_slash
front_of bs = elim (is_slash (slice_get bs (length bs - 1))) as (λ t. take (length (cond t (take (length bs - 1) bs) bs)) bs ≡ cond t (take (length bs - 1) bs) bs) [
  | true ↦ ap (λ n. take n bs) (length-take-le (length bs - 1) bs (omega arith))
  | false ↦ take-length bs
]

behind_front : (front behind whole : List ℕ) (at size : ℕ) → at ≡ length front → whole ≡ front ++ behind → take (at + size) whole ≡ front ++ take size behind
behind_front front behind whole at size e is =
    ap (λ n. take (n + size) whole) e ∙ (ap (λ w. take (length front + size) w) is ∙ take-append-add front behind size)

pub cut_from : (at size : ℕ) (out kept : List ℕ) → at ≤ length out → kept ≡ without_last_slash (drop at out) → size ≡ length kept → take (at + size) out ≡ take at out ++ without_last_slash (drop at out)
cut_from at size out kept within is long =
    behind_front (take at out) (drop at out) out at size (sym (length-take-le at out within)) (sym (take-append-drop at out))
    ∙ ap (λ rest. take at out ++ rest) (ap (λ n. take n (drop at out)) (long ∙ ap length is) ∙ front_of (drop at out))
