-- A head is whole, and is read back.
use Rattle.std.proofs.Common.{◌≡◌, ℕ, ◌+◌, ◌/◌, ◌%◌, ◌^◌, ◌<◌, ◌≤◌, Bool, true, nat_lt, List, [], ◌∷◌, ◌++◌, length, map, codes, IsTrue, append_assoc, length-append, refl, ap, ◌∙◌, arith}
use Rattle.std.specs.Fmt.{decimal}
use Rattle.std.specs.Char.{is_ascii_digit}
use Rattle.std.specs.List.{flat_map, list_all, All}
use Rattle.std.proofs.lemmas.Bool.{and_parts}
use Rattle.std.proofs.lemmas.Bool.Decides.{nat_tests}
use Rattle.std.proofs.lemmas.List.Folds.{list_all-append}
use Rattle.std.proofs.lemmas.List.Sums.{AllPass-from_list_all}
use Rattle.std.proofs.lemmas.List.Elements.{All-cons, All-nil}
use Rattle.std.proofs.lemmas.Fmt.{decimal_by_steps, decimal_is_IsNumeral, decimal_step, decimal_digit}
use Rattle.httparse.specs.Grammar.{Field, IsField, ResponseHead, IsResponseHead, ReadsResponse, is_value_byte, is_token_byte, IsToken, print_field, print_response, print_section}
use Rattle.httparse.specs.Grammar.{crlf as crlf_end}
use Rattle.httparse.specs.Grammar as Grammar
use Rattle.resp_head.specs.declared.head.ReplyHead.{ReplyHead}
use Rattle.resp_head.specs.Phrases.{phrase_of}
use Rattle.resp_head.specs.Head.{HeadField, crlf, field_line, field_lines, status_line, fields_of, head_with, head_of}
use Rattle.resp_head.specs.Laws.{FitsTypes, is_line_byte, is_line, HeadIsWhole, read_field, response_of, HeadReadsBack}
use Rattle.resp_head.proofs.SafeLemmas.{IsValue, value_append, decimal_is_value, phrase_is_value, is_safe, AreSafe, fields_safe}

-- ---- whole heads

abbrev IsLineText : List ℕ → Type 0
IsLineText bytes = list_all is_line_byte bytes ≡ true

value_byte_in_line : (b : ℕ) → is_value_byte b ≡ true → is_line_byte b ≡ true
value_byte_in_line b e = grind (arith, nat_tests)

value_in_line : (bs : List ℕ) → IsValue bs → IsLineText bs
value_in_line [] e = refl
value_in_line (b ∷ bs) e =
    let parts = and_parts (is_value_byte b) (list_all is_value_byte bs) e in
    rw (value_byte_in_line b parts.0, value_in_line bs parts.1) refl

-- what a field's line holds before its end
field_text : HeadField → List ℕ
field_text f = f.0 ++ codes ": " ++ f.1

status_text : ℕ → List ℕ
status_text status = codes "HTTP/1.1 " ++ decimal status ++ 32 ∷ phrase_of status

field_line_is : (f : HeadField) → field_line f ≡ field_text f ++ crlf
unfolding field_line field_text
field_line_is f = refl

status_line_is : (status : ℕ) → status_line status ≡ status_text status ++ crlf
unfolding status_line status_text
status_line_is status = refl

line_from : (line : List ℕ) → 0 < length line → IsValue line → is_line line ≡ true
line_from line h v = rw (value_in_line line v) (grind (arith, nat_tests))

record SafeParts (f : HeadField) : Type 0 where
  some : 0 < length f.0
  token : list_all is_token_byte f.0 ≡ true
  name : IsValue f.0
  value : IsValue f.1

is_below : (a b : ℕ) → nat_lt a b ≡ true → a < b
is_below a b e = grind (arith, nat_tests)

safe_parts : (f : HeadField) → is_safe f ≡ true → SafeParts f
safe_parts f e =
    let a = and_parts _ _ e in
    let b = and_parts _ _ a.0 in
    let c = and_parts _ _ b.0 in
    record { some = is_below 0 (length f.0) c.0; token = c.1; name = b.1; value = a.1 }

field_is_line : (f : HeadField) → SafeParts f → is_line (field_text f) ≡ true
unfolding field_text
field_is_line f h =
    line_from (f.0 ++ codes ": " ++ f.1) (rw (length-append (f.0 ++ codes ": ") f.1, length-append f.0 (codes ": ")) (omega (arith, h.some)))
    (value_append (f.0 ++ codes ": ") f.1 (value_append f.0 (codes ": ") h.name refl) h.value)

status_is_line : (status : ℕ) → status < 2 ^ 64 → is_line (status_text status) ≡ true
unfolding status_text
status_is_line status h =
    line_from (codes "HTTP/1.1 " ++ decimal status ++ 32 ∷ phrase_of status) (omega arith)
    (value_append (codes "HTTP/1.1 " ++ decimal status) (32 ∷ phrase_of status) (value_append (codes "HTTP/1.1 ") (decimal status) refl (decimal_is_value status h)) (rw (phrase_is_value status) refl))

fields_are_lines : (fields : List HeadField) → AreSafe fields → list_all is_line (map field_text fields) ≡ true
fields_are_lines [] e = refl
fields_are_lines (f ∷ fs) e =
    let parts = and_parts (is_safe f) (list_all is_safe fs) e in
    rw (field_is_line f (safe_parts f parts.0), fields_are_lines fs parts.1) refl

abbrev with_end : List ℕ → List ℕ
with_end line = line ++ crlf

lines_are_fields : (fields : List HeadField) → flat_map with_end (map field_text fields) ≡ field_lines fields
unfolding field_lines
lines_are_fields [] = refl
lines_are_fields (f ∷ fs) = rw (field_line_is f, lines_are_fields fs) refl

head_lines : ReplyHead → List (List ℕ)
head_lines r = status_text r.status ∷ map field_text (fields_of r)

head_lines_pass : (r : ReplyHead) → FitsTypes r → list_all is_line (head_lines r) ≡ true
unfolding head_lines
head_lines_pass r fits =
    rw (status_is_line r.status (omega (arith, fits.status)), fields_are_lines (fields_of r) (fields_safe r fits)) refl

head_lines_are : (r : ReplyHead) → head_of r ≡ flat_map with_end (head_lines r) ++ crlf
unfolding head_of head_with fields_of head_lines
head_lines_are r = rw (status_line_is r.status, lines_are_fields (fields_of r)) refl

pub head_is_whole : HeadIsWhole
head_is_whole r fits = (head_lines r, head_lines_pass r fits, head_lines_are r)

-- ---- what httparse reads

to_all : (test : ℕ → Bool) (xs : List ℕ) → list_all test xs ≡ true → All (λ b. IsTrue (test b)) xs
to_all test xs e = AllPass-from_list_all test xs e

field_printed : (f : HeadField) → print_field (read_field f) ≡ field_line f
unfolding read_field field_line crlf
field_printed f = rw (append_assoc f.0 (codes ": ") f.1) refl

fields_printed : (fields : List HeadField) → flat_map print_field (map read_field fields) ≡ field_lines fields
unfolding field_lines
fields_printed [] = refl
fields_printed (f ∷ fs) = rw (field_printed f, fields_printed fs) refl

section_printed : (fields : List HeadField) → print_section (map read_field fields) crlf_end ≡ field_lines fields ++ crlf
unfolding crlf
section_printed fields = rw (fields_printed fields) refl

head_printed : (r : ReplyHead) → head_of r ≡ print_response (response_of r)
unfolding head_of head_with fields_of response_of print_response status_line crlf
head_printed r =
    rw (section_printed (fields_of r)) (append_assoc (codes "HTTP/1.1 " ++ decimal r.status ++ 32 ∷ phrase_of r.status ++ (13 ∷ 10 ∷ [])) (field_lines (fields_of r)) (13 ∷ 10 ∷ []))

digits_are : (n : ℕ) → n < 2 ^ 64 → list_all is_ascii_digit (decimal n) ≡ true
digits_are n h =
    decimal_by_steps (λ n ds. list_all is_ascii_digit ds ≡ true) one (λ n ds low so_far. list_all-append is_ascii_digit ds ((48 + n % 10) ∷ []) ∙ rw (so_far, one (n % 10) (omega arith)) refl) n h
  where
    one : (n : ℕ) → n < 10 → list_all is_ascii_digit ((48 + n) ∷ []) ≡ true
    one n h = grind (arith, nat_tests)

three_digits : (n : ℕ) → 100 ≤ n → n < 1000 → length (decimal n) ≡ 3
three_digits n low high =
    let a = decimal_step n (omega arith) (omega arith) in
    let b = decimal_step (n / 10) (omega arith) (omega arith) in
    let c = decimal_digit (n / 10 / 10) (omega arith) in
    rw (a, b, c) refl

field_read : (f : HeadField) → SafeParts f → IsField (read_field f)
unfolding read_field
field_read f h = record {
  name = (h.some, to_all is_token_byte f.0 h.token);
  raw = to_all is_value_byte (32 ∷ f.1) (rw h.value refl);
}

fields_read : (fields : List HeadField) → AreSafe fields → All IsField (map read_field fields)
fields_read [] e = All-nil IsField
fields_read (f ∷ fs) e =
    let parts = and_parts (is_safe f) (list_all is_safe fs) e in
    All-cons IsField (read_field f) (map read_field fs) (field_read f (safe_parts f parts.0)) (fields_read fs parts.1)

head_valid : (r : ReplyHead) → FitsTypes r → 100 ≤ r.status → r.status < 1000 → IsResponseHead (response_of r)
unfolding response_of
head_valid r fits low high = record {
  minor = omega arith;
  digits = (three_digits r.status low high, to_all is_ascii_digit (decimal r.status) (digits_are r.status (omega arith)));
  reason = to_all is_value_byte (phrase_of r.status) (phrase_is_value r.status);
  fields = fields_read (fields_of r) (fields_safe r fits);
}

code_read : (r : ReplyHead) → r.status < 1000 → Grammar.status_code (response_of r) ≡ r.status
unfolding response_of
code_read r h = (decimal_is_IsNumeral r.status (omega arith)).1

pub head_reads_back : HeadReadsBack
head_reads_back r fits low high =
    (λ rest. (head_valid r fits low high, ap (λ (v : List ℕ). v ++ rest) (head_printed r)), code_read r high)
