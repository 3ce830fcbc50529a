-- How long the chunks of a body are, and so how many bytes of a body are in those that were written.
use Rattle.std.proofs.Common.{◌≡◌, ℕ, zero, suc, ◌+◌, ◌-◌, ◌*◌, ◌<◌, ◌≤◌, List, [], ◌++◌, length, take, drop, ◌∷◌, refl, ap, ◌∙◌, subst, ⊎_elim, arith}
use Rattle.std.proofs.lemmas.Bool.{cases_lt}
use Rattle.std.proofs.lemmas.List.{length-append, length-drop, length-take-le, take-append-drop, nil_from_length}
use Rattle.chunk_out.specs.Chunks.{hex, line_end, chunk, framed}
use Rattle.chunk_out.proofs.SizeLemmas.{Digits, One, Two, Three, Four, digits_are, block_digits}
use Rattle.chunk_out.proofs.BlockLemmas.{framed-nil, framed-block, framed-rest}

hex_some : (n : ℕ) → Digits n → 1 ≤ length (hex n)
hex_some n (One a x e) = omega (arith, ap length e)
hex_some n (Two a b x y e) = omega (arith, ap length e)
hex_some n (Three a b c x y z e) = omega (arith, ap length e)
hex_some n (Four e) = omega (arith, ap length e)

hex_few : (n : ℕ) → Digits n → length (hex n) ≤ 4
hex_few n (One a x e) = omega (arith, ap length e)
hex_few n (Two a b x y e) = omega (arith, ap length e)
hex_few n (Three a b c x y z e) = omega (arith, ap length e)
hex_few n (Four e) = omega (arith, ap length e)

length-chunk : (bytes : List ℕ) (h : ℕ) → length (hex (length bytes)) ≡ h → length (chunk bytes) ≡ h + length bytes + 4
unfolding chunk
length-chunk bytes h e =
    omega (arith, e, length-append (hex (length bytes)) (line_end ++ (bytes ++ line_end)), length-append line_end (bytes ++ line_end), length-append bytes line_end)

length-block : (block : List ℕ) → length block ≡ 4096 → length (chunk block) ≡ 4104
length-block block whole = omega (arith, whole, length-chunk block 4 (ap (λ n. length (hex n)) whole ∙ ap length block_digits))

-- The chunks of a body have 4104 bytes for each block and 5 for the last chunk, and where some bytes are left for no whole
-- block, theirs and 5 to 8 more.
pub data Sized (bytes : List ℕ) : Type 0 where
  Blocks : (q : ℕ) → length bytes ≡ 4096 * q → length (framed bytes) ≡ 4104 * q + 5 → Sized bytes
  Left : (q r h : ℕ) → length bytes ≡ 4096 * q + r → 0 < r → r < 4096 → 1 ≤ h → h ≤ 4 → length (framed bytes) ≡ 4104 * q + r + h + 9 → Sized bytes

framed_length : (block more : List ℕ) → length block ≡ 4096 → length (framed (block ++ more)) ≡ 4104 + length (framed more)
framed_length block more whole =
    omega (arith, ap length (framed-block block more whole), length-append (chunk block) (framed more), length-block block whole)

sized_block : (block more : List ℕ) → length block ≡ 4096 → Sized more → Sized (block ++ more)
sized_block block more whole (Blocks q e f) =
    Blocks (q + 1) (omega (arith, e, whole, length-append block more)) (omega (arith, f, framed_length block more whole))
sized_block block more whole (Left q r h e s l a b f) =
    Left (q + 1) r h (omega (arith, e, whole, length-append block more)) s l a b (omega (arith, f, framed_length block more whole))

sized_none : (bytes : List ℕ) → length bytes ≡ 0 → Sized bytes
sized_none bytes none =
    Blocks 0 (omega (arith, none)) (omega (arith, ap length (ap framed (nil_from_length bytes none) ∙ framed-nil)))

sized_rest : (bytes : List ℕ) → 0 < length bytes → length bytes < 4096 → Sized bytes
sized_rest bytes some small =
    let ds = digits_are (length bytes) (omega (arith, small)) in
    let h = length (hex (length bytes)) in
    Left 0 (length bytes) h (omega arith) some small (hex_some (length bytes) ds) (hex_few (length bytes) ds)
    (omega (arith, ap length (framed-rest bytes some small), length-append (chunk bytes) (48 ∷ 13 ∷ 10 ∷ 13 ∷ 10 ∷ []), length-chunk bytes h refl))

sized_within : (k : ℕ) (bytes : List ℕ) → length bytes < 4096 * k → Sized bytes
sized_within zero bytes low = absurd (omega arith)
sized_within (suc k) bytes low =
    ⊎_elim
    (λ small. ⊎_elim (λ some. sized_rest bytes some small) (λ none. sized_none bytes (omega (arith, none))) (cases_lt 0 (length bytes)))
    (λ most.
    let left : length (drop 4096 bytes) ≡ length bytes - 4096 = length-drop 4096 bytes in
    subst Sized (take-append-drop 4096 bytes) (sized_block (take 4096 bytes) (drop 4096 bytes) (length-take-le 4096 bytes most) (sized_within k (drop 4096 bytes) (omega (arith, left, most, low)))))
    (cases_lt (length bytes) 4096)

pub sized : (bytes : List ℕ) → Sized bytes
sized bytes = sized_within (length bytes + 1) bytes (omega arith)

-- of as many bytes as some blocks have
even_size : (bytes : List ℕ) (a : ℕ) → length bytes ≡ 4096 * a → Sized bytes → length (framed bytes) ≡ 4104 * a + 5
even_size bytes a is (Blocks q e f) = omega (arith, is, e, f)
even_size bytes a is (Left q r h e s l x y f) = absurd (omega (arith, is, e, s, l))

-- of one byte more
odd_size : (bytes : List ℕ) (a : ℕ) → length bytes ≡ 4096 * a + 1 → Sized bytes → 4104 * a + 11 ≤ length (framed bytes)
odd_size bytes a is (Blocks q e f) = absurd (omega (arith, is, e))
odd_size bytes a is (Left q r h e s l x y f) = omega (arith, is, e, s, l, x, f)

-- where one byte more takes six, the bytes are those of some blocks
jump : (one two : List ℕ) → Sized one → Sized two → length two ≡ length one + 1 → length (framed one) + 6 ≤ length (framed two) → 512 * length (framed one) ≡ 513 * length one + 2560
jump one two (Blocks q e f) t next more = omega (arith, e, f)
jump one two (Left q r h e s l x y f) (Blocks p d g) next more = absurd (omega (arith, e, f, s, l, x, y, d, g, next, more))
jump one two (Left q r h e s l x y f) (Left p u k d v w a b g) next more = absurd (omega (arith, e, f, s, l, x, y, d, g, v, w, a, b, next, more))

-- what was written of a body, of which any may follow, is chunks of whole blocks
pub weighed : (a w : ℕ) (one two first second : List ℕ)
    → length one ≡ 4096 * a → length two ≡ 4096 * a + 1 → length second ≡ length first + 1
    → length (framed one) ≡ w + length (framed first) → length (framed two) ≡ w + length (framed second)
    → 512 * w + 513 * length first ≡ 513 * length one
weighed a w one two first second even odd next same more =
    let low = even_size one a even (sized one) in
    let high = odd_size two a odd (sized two) in
    let whole = jump first second (sized first) (sized second) next (omega (arith, low, high, same, more)) in
    omega (arith, low, whole, even, same)
