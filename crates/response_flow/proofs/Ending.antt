-- How long the tail of a body in chunks is, and where chunks end before it.
use Rattle.std.proofs.Common.{◌≡◌, ℕ, ◌+◌, ◌-◌, ◌/◌, ◌<◌, ◌≤◌, true, List, [], ◌∷◌, ◌++◌, length, Option, None, Some, ap, ◌∙◌, append-nil, ⊎_elim, ◌⊎◌, inl, inr, arith}
use Rattle.std.proofs.lemmas.Bool.{cases_lt}
use Rattle.std.proofs.lemmas.List.{length-append, nil_from_length}
use Rattle.std.specs.Prelude.{is_some}
use Rattle.chunk_out.specs.Chunks.{block_size, chunk, framed, hex, line_end}
use Rattle.chunk_out.proofs.SizeLemmas.{block_digits, one_digit, three_digits, two_digits}
use Rattle.chunk_out.proofs.BlockLemmas.{block_size-is, framed-nil, framed-rest}
use Rattle.outgoing.specs.Leaving.{framed_as, waiting}
use Rattle.response_flow.specs.Flights.{EndsChunk, ShowsWhole, shown_kept}
use Rattle.response_flow.proofs.Showing.{Shown, shown_is}
use Rattle.response_flow.proofs.Showing.Shown.{Chunks, Plain, Whole}

hex_few : (n : ℕ) → n < 4096 → length (hex n) ≤ 3
hex_few n l = ⊎_elim
    (λ small. omega (arith, ap length (one_digit n small)))
    (λ low. ⊎_elim
    (λ small. omega (arith, ap length (two_digits n low small)))
    (λ mid. omega (arith, ap length (three_digits n mid l)))
    (cases_lt n 256))
    (cases_lt n 16)

chunk_length : (bytes : List ℕ) → length (chunk bytes) ≡ length (hex (length bytes)) + length bytes + 4
unfolding chunk
chunk_length bytes =
    omega (arith, length-append (hex (length bytes)) (line_end ++ (bytes ++ line_end)), length-append line_end (bytes ++ line_end), length-append bytes line_end)

block_length : (block : List ℕ) → length block ≡ block_size → length (chunk block) ≡ 4104
block_length block whole =
    let full : length block ≡ 4096 = whole ∙ block_size-is in
    omega (arith, full, chunk_length block, ap (λ n. length (hex n)) full ∙ ap length block_digits)

-- the length of a tail
pub record Brief (size : ℕ) : Type 0 where
  pub some : 1 ≤ size
  pub few : size ≤ 4107

tail_brief : (block : List ℕ) → length block < 4096 → Brief (length (framed block))
tail_brief block l = ⊎_elim
    (λ some.
    let size = ap length (framed-rest block some l) in
    let all = length-append (chunk block) (48 ∷ 13 ∷ 10 ∷ 13 ∷ 10 ∷ []) in
    let one = chunk_length block in
    let hexed = hex_few (length block) l in
    record { some = omega (arith, size, all); few = omega (arith, size, all, one, hexed, l) })
    (λ none.
    let size = ap length (ap framed (nil_from_length block (omega (arith, none))) ∙ framed-nil) in
    record { some = omega (arith, size); few = omega (arith, size) })
    (cases_lt 0 (length block))

brief_of : (block : Option (List ℕ)) (tail : ℕ) → is_some block ≡ true → waiting block < 4096 → tail ≡ length (framed_as block []) → Brief tail
brief_of None tail is few size = cc
brief_of (Some block) tail is few size =
    let same = size ∙ ap (λ b. length (framed b)) (append-nil block) in
    let brief = tail_brief block few in
    record { some = omega (arith, same, brief.some); few = omega (arith, same, brief.few) }

ends_by : (tail size : ℕ) → Brief tail → Shown tail size → (shown_kept tail size ≡ size) ⊎ EndsChunk (shown_kept tail size) tail size
ends_by tail size brief (Plain e s) = absurd (omega (arith, e, brief.some))
ends_by tail size brief (Whole h s) = inl (omega (arith, s, h, brief.few))
ends_by tail size brief (Chunks h s) = inr (record { chunks = (size - tail - 65536 + 4103) / 4104; after = omega (arith, h, s) })

pub shows_whole : ShowsWhole
shows_whole = record {
  ends = λ before tail gone out is e. ends_by tail (length out) (brief_of e.block tail (e.kind ∙ is) e.few e.size) (shown_is tail (length out));
  blocks = block_length;
}
