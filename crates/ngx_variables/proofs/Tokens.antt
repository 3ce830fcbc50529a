-- How the reading of a text goes on after a run of literal bytes, and after a variable.
use Rattle.std.proofs.Common.{◌≡◌, ℕ, zero, suc, ◌+◌, ◌<◌, Bool, true, false, cond, not, List, [], ◌∷◌, ◌++◌, length, take, drop, get_or, ◌≢◌, eqb, Result, Ok, Err, refl, sym, ◌∙◌, ap, arith, append_assoc}
use Rattle.std.proofs.lemmas.List.{append-nil}
use Rattle.std.proofs.lemmas.Bool.{cond-true, cond-false, ne_eqb}
use Rattle.std.specs.List.{position_or_len}
use Rattle.ngx_variables.specs.declared.value.Piece.{Piece}
use Rattle.ngx_variables.specs.declared.value.Piece.TheVariants.{Literal}
use Rattle.ngx_variables.specs.declared.fault.ValueFault.{ValueFault}
use Rattle.ngx_variables.specs.declared.fault.ValueFault.TheVariants.{BadName, Unclosed, OutOfMemory}
use Rattle.ngx_variables.specs.declared.compile.Reference.{Reference}
use Rattle.ngx_variables.specs.Grammar.{Bytes, Tokens, reference_at, with_byte, with_name, with_reference, name_in, tokens_behind, lowercase, piece_named, pieces_of, compiled, with_pieces, IsFaultOf}

abbrev pub is_dollar : ℕ → Bool
is_dollar b = eqb b 36

abbrev with_bytes : List ℕ → Tokens → Tokens
with_bytes bytes (Ok tokens) = Ok (Bytes bytes ∷ tokens)
with_bytes bytes (Err fault) = Err fault

skipped : (size : ℕ) (bs : List ℕ) → tokens_behind size bs ≡ tokens_behind 0 (drop size bs)
unfolding tokens_behind
skipped zero bs = refl
skipped (suc size) [] = refl
skipped (suc size) (b ∷ bs) = skipped size bs

-- a byte before a variable begins a run of its own
before_reference : (b : ℕ) (bs : List ℕ) (r : Result Reference ValueFault) (later : ℕ → Tokens) → with_byte b (with_reference bs r later) ≡ with_bytes (b ∷ []) (with_reference bs r later)
before_reference b bs (Err fault) later = refl
before_reference b bs (Ok r) later = at (later r.size)
  where
    at : (rest : Tokens) → with_byte b (with_name (name_in bs r) rest) ≡ with_bytes (b ∷ []) (with_name (name_in bs r) rest)
    at (Ok tokens) = refl
    at (Err fault) = refl

byte_more : (b : ℕ) (bytes : List ℕ) (rest : Tokens) → with_byte b (with_bytes bytes rest) ≡ with_bytes (b ∷ bytes) rest
byte_more b bytes (Ok tokens) = refl
byte_more b bytes (Err fault) = refl

one_more : (n : ℕ) → 1 + n ≡ suc n
one_more n = omega arith

-- a byte, and the run after it
run : (b : ℕ) (bs : List ℕ) → with_byte b (tokens_behind 0 bs) ≡ with_bytes (b ∷ take (position_or_len is_dollar bs) bs) (tokens_behind 0 (drop (position_or_len is_dollar bs) bs))
unfolding tokens_behind
run b [] = refl
run b (c ∷ cs) =
    elim (eqb c 36) as (λ v. eqb c 36 ≡ v → with_byte b (tokens_behind 0 (c ∷ cs)) ≡ with_bytes (b ∷ take (cond (not v) (1 + position_or_len is_dollar cs) 0) (c ∷ cs)) (tokens_behind 0 (drop (cond (not v) (1 + position_or_len is_dollar cs) 0) (c ∷ cs)))) [
      | true ↦ λ e.
          let here = cond-true (eqb c 36) (with_reference cs (reference_at cs) (λ size. tokens_behind size cs)) (with_byte c (tokens_behind 0 cs)) e in
          ap (λ t. with_byte b t) here ∙ (before_reference b cs (reference_at cs) (λ size. tokens_behind size cs) ∙ ap (λ t. with_bytes (b ∷ []) t) (sym here))
      | false ↦ λ e.
          let there = cond-false (eqb c 36) (with_reference cs (reference_at cs) (λ size. tokens_behind size cs)) (with_byte c (tokens_behind 0 cs)) e in
          ap (λ t. with_byte b t) (there ∙ run c cs)
          ∙ (byte_more b (c ∷ take (position_or_len is_dollar cs) cs) (tokens_behind 0 (drop (position_or_len is_dollar cs) cs))
          ∙ ap (λ n. with_bytes (b ∷ take n (c ∷ cs)) (tokens_behind 0 (drop n (c ∷ cs)))) (sym (one_more (position_or_len is_dollar cs))))
    ] refl

pieces_of_bytes : (bytes : List ℕ) (rest : Tokens) → pieces_of (with_bytes bytes rest) ≡ with_pieces (Literal bytes ∷ []) (pieces_of rest)
pieces_of_bytes bytes (Ok tokens) = refl
pieces_of_bytes bytes (Err fault) = refl

pieces_of_name : (name : List ℕ) (rest : Tokens) → pieces_of (with_name name rest) ≡ with_pieces (piece_named (lowercase name) ∷ []) (pieces_of rest)
pieces_of_name name (Ok tokens) = refl
pieces_of_name name (Err fault) = refl

-- a run of literal bytes is a piece
literal_at : (b : ℕ) (bs : List ℕ) (n : ℕ) → eqb b 36 ≡ false → n ≡ position_or_len is_dollar (b ∷ bs) → compiled (b ∷ bs) ≡ with_pieces (Literal (take n (b ∷ bs)) ∷ []) (compiled (drop n (b ∷ bs)))
unfolding compiled tokens_behind
literal_at b bs n e is =
    let there = cond-false (eqb b 36) (with_reference bs (reference_at bs) (λ size. tokens_behind size bs)) (with_byte b (tokens_behind 0 bs)) e in
    let size : n ≡ suc (position_or_len is_dollar bs) = is ∙ (ap (λ v. cond (not v) (1 + position_or_len is_dollar bs) 0) e ∙ one_more (position_or_len is_dollar bs)) in
    ap pieces_of (there ∙ run b bs)
    ∙ (pieces_of_bytes (b ∷ take (position_or_len is_dollar bs) bs) (tokens_behind 0 (drop (position_or_len is_dollar bs) bs))
    ∙ ap (λ k. with_pieces (Literal (take k (b ∷ bs)) ∷ []) (pieces_of (tokens_behind 0 (drop k (b ∷ bs))))) (sym size))

pub literal_read : (bs : List ℕ) (n : ℕ) → 0 < length bs → get_or bs 0 0 ≢ 36 → n ≡ position_or_len is_dollar bs → compiled bs ≡ with_pieces (Literal (take n bs) ∷ []) (compiled (drop n bs))
literal_read [] n h other is = absurd (omega arith)
literal_read (b ∷ bs) n h other is = literal_at b bs n (ne_eqb b 36 other) is

pub literal_size : (bs : List ℕ) (n : ℕ) → 0 < length bs → get_or bs 0 0 ≢ 36 → n ≡ position_or_len is_dollar bs → 0 < n
literal_size [] n h other is = absurd (omega arith)
literal_size (b ∷ bs) n h other is =
    let size : n ≡ 1 + position_or_len is_dollar bs = is ∙ ap (λ v. cond (not v) (1 + position_or_len is_dollar bs) 0) (ne_eqb b 36 other) in
    omega arith

-- a text that begins with a `$`
pub dollar_first : (bs : List ℕ) → 0 < length bs → get_or bs 0 0 ≡ 36 → bs ≡ 36 ∷ drop 1 bs
dollar_first [] h e = absurd (omega arith)
dollar_first (b ∷ bs) h e = ap (λ c. c ∷ bs) e

-- a variable is a piece
pub variable_read : (bs : List ℕ) (r : Reference) → reference_at bs ≡ Ok r → compiled (36 ∷ bs) ≡ with_pieces (piece_named (lowercase (name_in bs r)) ∷ []) (compiled (drop r.size bs))
unfolding compiled tokens_behind
variable_read bs r e =
    ap (λ t. pieces_of (with_reference bs t (λ size. tokens_behind size bs))) e
    ∙ (pieces_of_name (name_in bs r) (tokens_behind r.size bs) ∙ ap (λ t. with_pieces (piece_named (lowercase (name_in bs r)) ∷ []) (pieces_of t)) (skipped r.size bs))

-- or a fault
pub fault_read : (bs : List ℕ) (fault : ValueFault) → reference_at bs ≡ Err fault → compiled (36 ∷ bs) ≡ Err fault
unfolding compiled tokens_behind
fault_read bs fault e = ap (λ t. pieces_of (with_reference bs t (λ size. tokens_behind size bs))) e

pub one_piece_more : (ps : List Piece) (p : Piece) (rest : Result (List Piece) ValueFault) → with_pieces (ps ++ p ∷ []) rest ≡ with_pieces ps (with_pieces (p ∷ []) rest)
one_piece_more ps p (Ok qs) = ap Ok (append_assoc ps (p ∷ []) qs)
one_piece_more ps p (Err fault) = refl

-- the loop's step
pub step : (ps : List Piece) (p : Piece) (text rest behind : List ℕ) → with_pieces ps (compiled rest) ≡ compiled text → compiled rest ≡ with_pieces (p ∷ []) (compiled behind) → with_pieces (ps ++ p ∷ []) (compiled behind) ≡ compiled text
step ps p text rest behind so_far one = one_piece_more ps p (compiled behind) ∙ (ap (with_pieces ps) (sym one) ∙ so_far)

pub fault_step : (ps : List Piece) (text rest : List ℕ) (fault : ValueFault) → with_pieces ps (compiled rest) ≡ compiled text → IsFaultOf rest fault → IsFaultOf text fault
fault_step ps text rest BadName so_far one = sym so_far ∙ ap (with_pieces ps) one
fault_step ps text rest Unclosed so_far one = sym so_far ∙ ap (with_pieces ps) one
fault_step ps text rest OutOfMemory so_far one = tt

pub fault_at : (bs : List ℕ) (fault : ValueFault) → reference_at bs ≡ Err fault → IsFaultOf (36 ∷ bs) fault
fault_at bs BadName e = fault_read bs BadName e
fault_at bs Unclosed e = fault_read bs Unclosed e
fault_at bs OutOfMemory e = tt

pub all_read : (ps : List Piece) (text rest : List ℕ) → with_pieces ps (compiled rest) ≡ compiled text → length rest ≡ 0 → compiled text ≡ Ok ps
unfolding compiled tokens_behind
all_read ps text [] so_far none = sym so_far ∙ ap Ok (append-nil ps)
all_read ps text (b ∷ rest) so_far none = absurd (omega arith)
