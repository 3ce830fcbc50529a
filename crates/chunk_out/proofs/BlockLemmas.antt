-- The blocks of a body, one by one.
use Rattle.std.proofs.Common.{◌≡◌, ℕ, zero, suc, ◌+◌, ◌-◌, ◌<◌, ◌≤◌, List, [], ◌∷◌, ◌++◌, length, take, drop, sym, refl, ap, ◌∙◌, arith}
use Rattle.std.specs.Prelude.{flat_map}
use Rattle.std.proofs.lemmas.List.{append_assoc, length-drop, length-append, take_at, drop_at, take_all, drop_all}
use Rattle.chunk_out.specs.Chunks.{block_size, blocks_within, blocks, chunk, last_chunk, framed, hex}
use Rattle.chunk_out.proofs.SizeLemmas.{block_digits}

pub block_size-is : block_size ≡ 4096
unfolding block_size
block_size-is = refl

-- enough blocks are all blocks
enough : (m n : ℕ) (bytes : List ℕ) → length bytes ≤ m → length bytes ≤ n → blocks_within m bytes ≡ blocks_within n bytes
unfolding blocks_within
enough zero zero [] low high = refl
enough zero (suc n) [] low high = refl
enough (suc m) zero [] low high = refl
enough (suc m) (suc n) [] low high = refl
enough zero n (b ∷ bytes) low high = absurd (omega arith)
enough (suc m) zero (b ∷ bytes) low high = absurd (omega arith)
enough (suc m) (suc n) (b ∷ bytes) low high =
    let left : length (drop block_size (b ∷ bytes)) ≡ suc (length bytes) - block_size = length-drop block_size (b ∷ bytes) in
    ap (λ bs. take block_size (b ∷ bytes) ∷ bs) (enough m n (drop block_size (b ∷ bytes)) (omega (arith, left, block_size-is)) (omega (arith, left, block_size-is)))

pub blocks-some : (bytes : List ℕ) → 0 < length bytes → blocks bytes ≡ take block_size bytes ∷ blocks (drop block_size bytes)
unfolding blocks_within
blocks-some [] some = absurd (omega arith)
blocks-some (b ∷ bytes) some =
    let left : length (drop block_size (b ∷ bytes)) ≡ suc (length bytes) - block_size = length-drop block_size (b ∷ bytes) in
    ap (λ bs. take block_size (b ∷ bytes) ∷ bs) (enough (length bytes) (length (drop block_size (b ∷ bytes))) (drop block_size (b ∷ bytes)) (omega (arith, left, block_size-is)) (omega arith))

pub framed-nil : framed [] ≡ last_chunk
unfolding framed blocks_within
framed-nil = refl

framed-some : (bytes : List ℕ) → 0 < length bytes → framed bytes ≡ chunk (take block_size bytes) ++ framed (drop block_size bytes)
unfolding framed
framed-some bytes some =
    ap (λ bs. flat_map chunk bs ++ last_chunk) (blocks-some bytes some) ∙ append_assoc (chunk (take block_size bytes)) (flat_map chunk (blocks (drop block_size bytes))) last_chunk

-- a whole block in front is a chunk
pub framed-block : (block more : List ℕ) → length block ≡ 4096 → framed (block ++ more) ≡ chunk block ++ framed more
framed-block block more whole =
    let size : length block ≡ block_size = whole ∙ sym block_size-is in
    let some : 0 < length (block ++ more) = omega (arith, whole, length-append block more) in
    framed-some (block ++ more) some ∙ (λ i. chunk (take_at block more block_size size i) ++ framed (drop_at block more block_size size i))

-- a block that isn't whole is the last but for the end
pub framed-rest : (rest : List ℕ) → 0 < length rest → length rest < 4096 → framed rest ≡ chunk rest ++ last_chunk
framed-rest rest some small =
    let low : length rest ≤ block_size = omega (arith, small, block_size-is) in
    framed-some rest some ∙ (λ i. chunk (take_all block_size rest low i) ++ framed (drop_all block_size rest low i)) ∙ ap (λ t. chunk rest ++ t) framed-nil

-- what the writes of a whole block add
pub block_text : (out front back a b c d : List ℕ) → a ≡ out ++ (49 ∷ 48 ∷ 48 ∷ 48 ∷ 13 ∷ 10 ∷ []) → b ≡ a ++ front → c ≡ b ++ back → d ≡ c ++ (13 ∷ 10 ∷ []) → length front + length back ≡ 4096 → d ≡ out ++ chunk (front ++ back)
unfolding chunk
block_text out front back a b c d e f g h whole =
    let size : length (front ++ back) ≡ 4096 = length-append front back ∙ whole in
    let digits : hex (length (front ++ back)) ≡ 49 ∷ 48 ∷ 48 ∷ 48 ∷ [] = ap hex size ∙ block_digits in
    let text : (((out ++ (49 ∷ 48 ∷ 48 ∷ 48 ∷ 13 ∷ 10 ∷ [])) ++ front) ++ back) ++ (13 ∷ 10 ∷ []) ≡ out ++ ((49 ∷ 48 ∷ 48 ∷ 48 ∷ []) ++ ((13 ∷ 10 ∷ []) ++ ((front ++ back) ++ (13 ∷ 10 ∷ [])))) = simp append_assoc in
    h ∙ ap (λ t. t ++ (13 ∷ 10 ∷ [])) (g ∙ ap (λ t. t ++ back) (f ∙ ap (λ t. t ++ front) e)) ∙ text ∙ ap (λ t. out ++ (t ++ ((13 ∷ 10 ∷ []) ++ ((front ++ back) ++ (13 ∷ 10 ∷ []))))) (sym digits)

-- and those of a block that isn't whole
pub rest_text : (out rest a b c d : List ℕ) (n : ℕ) → a ≡ out ++ hex n → b ≡ a ++ (13 ∷ 10 ∷ []) → c ≡ b ++ rest → d ≡ c ++ (13 ∷ 10 ∷ []) → n ≡ length rest → d ≡ out ++ chunk rest
unfolding chunk
rest_text out rest a b c d n e f g h is =
    let text : (((out ++ hex n) ++ (13 ∷ 10 ∷ [])) ++ rest) ++ (13 ∷ 10 ∷ []) ≡ out ++ (hex n ++ ((13 ∷ 10 ∷ []) ++ (rest ++ (13 ∷ 10 ∷ [])))) = simp append_assoc in
    h ∙ ap (λ t. t ++ (13 ∷ 10 ∷ [])) (g ∙ ap (λ t. t ++ rest) (f ∙ ap (λ t. t ++ (13 ∷ 10 ∷ [])) e)) ∙ text ∙ ap (λ k. out ++ (hex k ++ ((13 ∷ 10 ∷ []) ++ (rest ++ (13 ∷ 10 ∷ []))))) is

pub end_none : (out held a : List ℕ) → a ≡ out ++ last_chunk → held ≡ [] → a ≡ out ++ framed held
end_none out held a e none = e ∙ ap (λ t. out ++ t) (sym (ap framed none ∙ framed-nil))

pub end_some : (out held a b : List ℕ) → a ≡ out ++ chunk held → b ≡ a ++ last_chunk → 0 < length held → length held < 4096 → b ≡ out ++ framed held
end_some out held a b e f some small =
    f ∙ ap (λ t. t ++ last_chunk) e ∙ append_assoc out (chunk held) last_chunk ∙ ap (λ t. out ++ t) (sym (framed-rest held some small))
