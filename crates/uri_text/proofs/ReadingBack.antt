-- A normal path, written with escapes, is read back.
use Rattle.std.proofs.Common.{◌≡◌, ℕ, ◌+◌, ◌*◌, ◌/◌, ◌%◌, ◌<◌, Bool, true, false, ◌==◌, cond, List, [], ◌∷◌, ◌++◌, None, Some, Ok, length, take, drop, All, refl, sym, ap, ◌∙◌, arith}
use Rattle.std.specs.List.{position_or_len, before_first, after_first}
use Rattle.std.specs.Char.{digit_value}
use Rattle.std.specs.Fmt.{digit_glyph}
use Rattle.std.proofs.lemmas.Bool.{cond-true, cond-false, cond_both, and_from, eqb-true, ne_eqb, lt-ltb, not_from_false, both_ways}
use Rattle.std.proofs.lemmas.Bool.Decides.{nat_tests}
use Rattle.std.proofs.lemmas.List.{take_all, drop_all}
use Rattle.std.proofs.lemmas.List.Elements.{All-nil, All-cons, All-head, All-tail, All-append, All-weaker}
use Rattle.percent_encoding.specs.Percent.{percent_encode_byte}
use Rattle.percent_encoding.proofs.PercentLemmas.{IsEscapeByte, All-percent_encode_byte}
use Rattle.uri_text.specs.Target.{Decoded, with_byte, decoded, segments, strip_slash, path_and_query, path_from, path_of, with_args, normal_of}
use Rattle.uri_text.specs.Escape.{needs_escape, escape_byte, escape_of}
use Rattle.uri_text.specs.Laws.{are_normal, is_normal_behind, is_normal}
use Rattle.uri_text.proofs.Decoding.{read_byte, decoded-nil, front-plain, front-escape}
use Rattle.uri_text.proofs.NormalPaths.{text_of-segments, path_from-normal}
use Rattle.uri_text.proofs.Targets.{normal-some, behind_root-slash}

-- ---- no mark is left

abbrev IsPlain : ℕ → Type 0
IsPlain b = (b ≡ 35 → ⊥) × (b ≡ 63 → ⊥)

plain-kept : (b : ℕ) → needs_escape b ≡ false → IsPlain b
plain-kept b is = (λ e. both_ways (needs_escape b) is (ap needs_escape e), λ e. both_ways (needs_escape b) is (ap needs_escape e))

plain-escape : (b : ℕ) → IsEscapeByte b → IsPlain b
plain-escape b is = (λ e. grind arith, λ e. grind arith)

All-escape_of : (path : List ℕ) → All IsPlain (escape_of path)
unfolding escape_of
All-escape_of [] = All-nil IsPlain
All-escape_of (b ∷ path) = All-append IsPlain (escape_byte b) (escape_of path)
    (cond_both (needs_escape b) (percent_encode_byte b) (b ∷ []) (All IsPlain)
    (λ _. All-weaker IsEscapeByte IsPlain plain-escape (percent_encode_byte b) (All-percent_encode_byte b))
    (λ is. All-cons IsPlain b [] (plain-kept b is) (All-nil IsPlain)))
    (All-escape_of path)

no_mark : (mark : ℕ) (xs : List ℕ) → All (λ b. b ≡ mark → ⊥) xs → position_or_len (λ b. b == mark) xs ≡ length xs
no_mark mark [] none = refl
no_mark mark (b ∷ xs) none =
    let rest = no_mark mark xs (All-tail (λ c. c ≡ mark → ⊥) b xs none) in
    cond-true _ _ _ (not_from_false _ (ne_eqb b mark (All-head (λ c. c ≡ mark → ⊥) b xs none))) ∙ omega (arith, rest)

path_and_query-plain : (text : List ℕ) → All IsPlain text → path_and_query text ≡ (text, [])
unfolding path_and_query
path_and_query-plain text plain =
    let hash : before_first (λ b. b == 35) text ≡ text = ap (λ n. take n text) (no_mark 35 text (All-weaker IsPlain (λ b. b ≡ 35 → ⊥) (λ b p. p.0) text plain)) ∙ take_all (length text) text (omega arith) in
    let at : position_or_len (λ b. b == 63) text ≡ length text = no_mark 63 text (All-weaker IsPlain (λ b. b ≡ 63 → ⊥) (λ b p. p.1) text plain) in
    let path : before_first (λ b. b == 63) text ≡ text = ap (λ n. take n text) at ∙ take_all (length text) text (omega arith) in
    let query : after_first (λ b. b == 63) text ≡ [] = ap (λ n. drop (n + 1) text) at ∙ drop_all (length text + 1) text (omega arith) in
    ap (λ t. (before_first (λ b. b == 63) t, after_first (λ b. b == 63) t)) hash ∙ (λ i. (path i, query i))

-- ---- each byte is read back

abbrev pub IsTextByte : ℕ → Type 0
IsTextByte b = (0 < b) × (b < 256)

digit_value-digit_glyph : (d : ℕ) → d < 16 → digit_value (digit_glyph true d) ≡ d
digit_value-digit_glyph d small = grind (arith, nat_tests)

read_byte-escape : (b : ℕ) → b < 256 → read_byte (digit_glyph true (b / 16 % 16)) (digit_glyph true (b % 16)) ≡ Some b
read_byte-escape b small =
    let high = digit_value-digit_glyph (b / 16 % 16) (omega arith) in
    let low = digit_value-digit_glyph (b % 16) (omega arith) in
    let value : digit_value (digit_glyph true (b / 16 % 16)) * 16 + digit_value (digit_glyph true (b % 16)) ≡ b = rw (high, low) (omega arith) in
    cond-true _ _ _ (and_from _ _ (lt-ltb (digit_value (digit_glyph true (b / 16 % 16))) 16 (rw high (omega arith))) (lt-ltb (digit_value (digit_glyph true (b % 16))) 16 (rw low (omega arith)))) ∙ ap Some value

decoded-escaped : (b : ℕ) (rest : List ℕ) → IsTextByte b → decoded (percent_encode_byte b ++ rest) ≡ with_byte b (decoded rest)
unfolding percent_encode_byte
decoded-escaped b rest is = (front-escape 37 _ _ b rest _ refl refl (read_byte-escape b is.1) (λ e. omega (arith, e, is.0))).0

decoded-escape_byte : (b : ℕ) (rest : List ℕ) → IsTextByte b → decoded (escape_byte b ++ rest) ≡ with_byte b (decoded rest)
decoded-escape_byte b rest is =
    cond_both (needs_escape b) (percent_encode_byte b) (b ∷ []) (λ t. decoded (t ++ rest) ≡ with_byte b (decoded rest))
    (λ _. decoded-escaped b rest is)
    (λ kept. (front-plain b rest (b ∷ rest) refl (λ e. both_ways (needs_escape b) kept (ap needs_escape e))).0)

abbrev whole : List ℕ → Decoded
whole bytes = record { bytes = bytes; fault = None }

decoded-escape_of : (path : List ℕ) → All IsTextByte path → decoded (escape_of path) ≡ whole path
unfolding escape_of
decoded-escape_of [] is = decoded-nil
decoded-escape_of (b ∷ path) is =
    decoded-escape_byte b (escape_of path) (All-head IsTextByte b path is) ∙ ap (with_byte b) (decoded-escape_of path (All-tail IsTextByte b path is))

-- ---- the whole

path_of-whole : (merge : Bool) (text bytes : List ℕ) → decoded text ≡ whole bytes → path_of merge text ≡ path_from merge [] (segments bytes) None
unfolding path_of
path_of-whole merge text bytes is = ap (λ (d : Decoded). path_from merge [] (segments d.bytes) d.fault) is

path_of-escape_of : (merge : Bool) (text : List ℕ) → are_normal merge (segments text) ≡ true → All IsTextByte text → path_of merge (escape_of text) ≡ Ok (47 ∷ text)
path_of-escape_of merge text is bytes =
    path_of-whole merge (escape_of text) text (decoded-escape_of text bytes) ∙ path_from-normal merge (segments text) is ∙ ap (λ t. Ok (47 ∷ t)) (sym (text_of-segments text))

escape_of-slash : (b : ℕ) (text : List ℕ) → b ≡ 47 → strip_slash (escape_of (b ∷ text)) ≡ Some (escape_of text)
unfolding escape_of
escape_of-slash b text is = ap (λ c. strip_slash (escape_byte c ++ escape_of text)) is

read_back-behind : (merge : Bool) (b : ℕ) (text : List ℕ) → b ≡ 47 → are_normal merge (segments text) ≡ true → All IsTextByte text → normal_of (escape_of (b ∷ text)) merge ≡ Ok (b ∷ text, [])
read_back-behind merge b text slash is bytes =
    normal-some (escape_of (b ∷ text)) merge (escape_of text) (escape_of text) [] (behind_root-slash _ _ (escape_of-slash b text slash)) (path_and_query-plain (escape_of text) (All-escape_of text))
    ∙ ap (with_args []) (path_of-escape_of merge text is bytes) ∙ ap (λ c. Ok (c ∷ text, [])) (sym slash)

normal-parts : (merge : Bool) (b : ℕ) (text : List ℕ) → is_normal merge (b ∷ text) ≡ true → (b ≡ 47) × (are_normal merge (segments text) ≡ true)
unfolding is_normal
normal-parts merge b text is = elim (b == 47) as (λ t. ((b == 47) ≡ t) → is_normal_behind merge (cond t (Some text) None) ≡ true → (b ≡ 47) × (are_normal merge (segments text) ≡ true)) [
  | true ↦ λ e normal. (eqb-true b 47 e, normal)
  | false ↦ λ e normal. cc
] refl is

no_path : (merge : Bool) → is_normal merge [] ≡ true → ⊥
unfolding is_normal
no_path merge is = cc

pub normal_of-escape_of : (path : List ℕ) (merge : Bool) → is_normal merge path ≡ true → All IsTextByte path → normal_of (escape_of path) merge ≡ Ok (path, [])
normal_of-escape_of [] merge is bytes = absurd (no_path merge is)
normal_of-escape_of (b ∷ text) merge is bytes =
    let parts = normal-parts merge b text is in
    read_back-behind merge b text parts.0 parts.1 (All-tail IsTextByte b text bytes)

-- a path that needs no escape

byte-kept : (b : ℕ) → needs_escape b ≡ false → IsTextByte b
byte-kept b is = grind (arith, nat_tests)

escape_of-kept : (path : List ℕ) → All (λ b. needs_escape b ≡ false) path → escape_of path ≡ path
unfolding escape_of
escape_of-kept [] kept = refl
escape_of-kept (b ∷ path) kept =
    ap (λ t. t ++ escape_of path) (cond-false _ _ _ (All-head (λ c. needs_escape c ≡ false) b path kept)) ∙ ap (λ t. b ∷ t) (escape_of-kept path (All-tail (λ c. needs_escape c ≡ false) b path kept))

pub normal_of-kept : (path : List ℕ) (merge : Bool) → is_normal merge path ≡ true → All (λ b. needs_escape b ≡ false) path → normal_of path merge ≡ Ok (path, [])
normal_of-kept path merge is kept =
    ap (λ t. normal_of t merge) (sym (escape_of-kept path kept)) ∙ normal_of-escape_of path merge is (All-weaker (λ b. needs_escape b ≡ false) IsTextByte byte-kept path kept)
