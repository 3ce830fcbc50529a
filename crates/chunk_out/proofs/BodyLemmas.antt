-- The chunks are a body of the grammar.
use Rattle.std.proofs.Common.{◌≡◌, ℕ, ◌-◌, ◌<◌, ◌≤◌, min, true, false, ◌^◌, zero, suc, None, List, [], ◌∷◌, ◌++◌, length, take, drop, map, sym, refl, ap, ◌∙◌, subst, arith, lit<}
use Rattle.std.specs.Prelude.{flat_map, All, IsTrue}
use Rattle.std.specs.List.{AllByRecursion}
use Rattle.std.specs.Char.{is_ascii_hexdigit}
use Rattle.std.specs.Str.Parse.{IsNumeral, digits_value}
use Rattle.std.proofs.lemmas.Fmt.{digits_is_IsNumeral}
use Rattle.std.proofs.lemmas.Bool.{agree_below_at}
use Rattle.std.proofs.lemmas.List.{append-nil, length-take, length-drop, length-append, take-append-drop, take_at}
use Rattle.http_types.specs.declared.words.BodyKind.TheVariants.{Chunked}
use Rattle.body_frame.specs.Outcome.{Whole}
use Rattle.body_frame.specs.Grammar.{SizeLine, IsSizeLine, Chunk, print_chunk, IsChunk, ChunkedBody, print_body, IsChunkedBody}
use Rattle.body_frame.specs.Laws.{BodiesAreTheGrammars}
use Rattle.httparse.specs.Grammar.{ChunkLine, IsChunkLine, print_chunk_line}
use Rattle.chunk_out.specs.Chunks.{block_size, blocks_within, blocks, hex, line_end, chunk, last_chunk, framed}
use Rattle.chunk_out.specs.Laws.{ChunksAreABody, SizesAreChunkLines}
use Rattle.chunk_out.proofs.SizeLemmas.{glyph, Digits, One, Two, Three, Four, digits_are}
use Rattle.chunk_out.proofs.BlockLemmas.{block_size-is}

hex_length : (n : ℕ) → Digits n → length (hex n) ≤ 4
hex_length n (One a x e) = omega (arith, ap length e)
hex_length n (Two a b x y e) = omega (arith, ap length e)
hex_length n (Three a b c x y z e) = omega (arith, ap length e)
hex_length n (Four e) = omega (arith, ap length e)

abbrev size_line : ℕ → SizeLine
size_line n = record { digits = hex n; extension = None }

abbrev chunk_of : List ℕ → Chunk
chunk_of b = record { line = size_line (length b); bytes = b }

numeral : (n : ℕ) → n ≤ 4096 → IsNumeral 16 (hex n) × (digits_value 16 (hex n) ≡ n)
numeral n most =
    let pow : 4096 < 16 ^ 64 = lit< tt in
    digits_is_IsNumeral 16 false (omega arith) (omega arith) n (omega (arith, pow))

is_size_line : (n : ℕ) → n ≤ 4096 → IsSizeLine (size_line n)
is_size_line n most =
    let read = numeral n most in
    let short = hex_length n (digits_are n most) in
    let line : length (hex n ++ []) ≡ length (hex n) = ap length (append-nil (hex n)) in
    record {
      has_digit = read.0.0;
      hexadecimal = read.0.1;
      fits = omega (arith, read.1);
      extension = tt;
      within_limit = omega (arith, line, short);
    }

is_chunk : (b : List ℕ) → 0 < length b → length b ≤ 4096 → IsChunk (chunk_of b)
is_chunk b some most = record { line = is_size_line (length b) most; sized = (numeral (length b) most).1; not_empty = some }

all_chunks : (m : ℕ) (bytes : List ℕ) → AllByRecursion IsChunk (map chunk_of (blocks_within m bytes))
unfolding blocks_within
all_chunks zero bytes = tt
all_chunks (suc m) [] = tt
all_chunks (suc m) (b ∷ bytes) =
    let len : length (take block_size (b ∷ bytes)) ≡ min block_size (suc (length bytes)) = length-take block_size (b ∷ bytes) in
    (is_chunk (take block_size (b ∷ bytes)) (omega (arith, len, block_size-is)) (omega (arith, len, block_size-is)), all_chunks m (drop block_size (b ∷ bytes)))

chunk_text : (b : List ℕ) → print_chunk (chunk_of b) ≡ chunk b
unfolding chunk
chunk_text b = ap (λ t. t ++ (line_end ++ (b ++ line_end))) (append-nil (hex (length b)))

chunks_text : (bs : List (List ℕ)) → flat_map print_chunk (map chunk_of bs) ≡ flat_map chunk bs
chunks_text [] = refl
chunks_text (b ∷ bs) = λ i. chunk_text b i ++ chunks_text bs i

carried : (m : ℕ) (bytes : List ℕ) → length bytes ≤ m → flat_map (λ (c : Chunk). c.bytes) (map chunk_of (blocks_within m bytes)) ≡ bytes
unfolding blocks_within
carried zero [] low = refl
carried zero (b ∷ bytes) low = absurd (omega arith)
carried (suc m) [] low = refl
carried (suc m) (b ∷ bytes) low =
    let left : length (drop block_size (b ∷ bytes)) ≡ suc (length bytes) - block_size = length-drop block_size (b ∷ bytes) in
    ap (λ t. take block_size (b ∷ bytes) ++ t) (carried m (drop block_size (b ∷ bytes)) (omega (arith, left, block_size-is))) ∙ take-append-drop block_size (b ∷ bytes)

abbrev body_of_blocks : List (List ℕ) → ChunkedBody
body_of_blocks bs = record { chunks = map chunk_of bs; last = record { digits = 48 ∷ []; extension = None }; trailers = [] }

body_text : (bytes : List ℕ) → framed bytes ≡ print_body (body_of_blocks (blocks bytes))
unfolding framed
body_text bytes = ap (λ t. t ++ last_chunk) (sym (chunks_text (blocks bytes)))

is_body : (bytes : List ℕ) → IsChunkedBody (body_of_blocks (blocks bytes))
is_body bytes = record {
  chunks = all_chunks (length bytes) bytes;
  last = record { has_digit = omega arith; hexadecimal = (omega arith, tt); fits = lit< tt; extension = tt; within_limit = omega arith };
  ends = refl;
  trailers = tt;
  within_limit = omega arith;
}

pub carries : BodiesAreTheGrammars → ChunksAreABody
carries law bytes =
    let text = framed bytes in
    let body = body_of_blocks (blocks bytes) in
    record {
      body = body;
      well_formed = is_body bytes;
      spelled = body_text bytes;
      carried = carried (length bytes) bytes (omega arith);
      found = λ more.
          let within : length text ≤ length (text ++ more) = omega (arith, length-append text more) in
          let front : take (length text) (text ++ more) ≡ print_body body = take_at text more (length text) refl ∙ body_text bytes in
          (law Chunked (text ++ more) (Whole (length text))).1 (within, (body, is_body bytes, front));
    }

-- each digit is one of the grammar
digit_is : (d : ℕ) → d < 16 → is_ascii_hexdigit (glyph d) ≡ true
digit_is d small = agree_below_at (λ k. is_ascii_hexdigit (glyph k)) (λ k. true) 16 d refl small

abbrev Hex : List ℕ → Type 0
Hex ds = All (λ b. IsTrue (is_ascii_hexdigit b)) ds

hex_none : Hex []
hex_none k d within = absurd (omega arith)

hex_cons : (x : ℕ) (ds : List ℕ) → is_ascii_hexdigit x ≡ true → Hex ds → Hex (x ∷ ds)
hex_cons x ds is all zero d within = is
hex_cons x ds is all (suc k) d within = all k d (omega arith)

hex_digits : (n : ℕ) → Digits n → Hex (hex n)
hex_digits n (One a x e) = subst Hex (sym e) (hex_cons _ [] (digit_is a x) hex_none)
hex_digits n (Two a b x y e) = subst Hex (sym e) (hex_cons (glyph a) (glyph b ∷ []) (digit_is a x) (hex_cons (glyph b) [] (digit_is b y) hex_none))
hex_digits n (Three a b c x y z e) = subst Hex (sym e) (hex_cons (glyph a) (glyph b ∷ glyph c ∷ []) (digit_is a x) (hex_cons (glyph b) (glyph c ∷ []) (digit_is b y) (hex_cons (glyph c) [] (digit_is c z) hex_none)))
hex_digits n (Four e) = subst Hex (sym e) (hex_cons 49 (48 ∷ 48 ∷ 48 ∷ []) refl (hex_cons 48 (48 ∷ 48 ∷ []) refl (hex_cons 48 (48 ∷ []) refl (hex_cons 48 [] refl hex_none))))

pub chunk_lines : SizesAreChunkLines
unfolding print_chunk_line
chunk_lines n most =
    let line : ChunkLine = record { digits = hex n; pad = []; extension = None } in
    let read = numeral n most in
    let ds = digits_are n most in
    let ok : IsChunkLine line = record { digits = (read.0.0, omega (arith, hex_length n ds), hex_digits n ds); pad = λ k d within. absurd (omega arith); extension = tt } in
    (line, ok, ap (λ t. t ++ line_end) (append-nil (hex n ++ []) ∙ append-nil (hex n)), read.1)
