-- Each field of a head has a name and a value that fields may have.
use Rattle.std.proofs.Common.{◌≡◌, ℕ, zero, suc, ◌+◌, ◌/◌, ◌%◌, ◌^◌, ◌<◌, Bool, true, false, ◌&&◌, cond, nat_lt, nat_eq, List, [], ◌∷◌, ◌++◌, length, get_or, codes, Option, Some, None, IfSome, refl, ◌∙◌, arith}
use Rattle.std.specs.Fmt.{decimal}
use Rattle.std.specs.List.{list_all}
use Rattle.std.proofs.lemmas.Bool.{and_parts}
use Rattle.std.proofs.lemmas.Bool.Decides.{nat_tests}
use Rattle.std.proofs.lemmas.List.Folds.{list_all-append}
use Rattle.std.proofs.lemmas.Fmt.{decimal_by_steps}
use Rattle.httparse.specs.Grammar.{is_value_byte, is_token_byte}
use Rattle.http_moment.specs.Moment.{is_visible as is_date_byte, date_of}
use Rattle.http_moment.proofs.VisibleLemmas.{date_is_visible}
use Rattle.resp_head.specs.declared.head.ReplyHead.{ReplyHead}
use Rattle.resp_head.specs.Phrases.{phrases, phrase_in, phrase_of}
use Rattle.resp_head.specs.Values.{value_byte, value_text, is_visible, hex_digit, escape, location_byte, location_text}
use Rattle.resp_head.specs.Head.{HeadField, server_field, date_field, type_field, length_field, modified_field, location_field, chunked_field, connection_field, optional, is_bodiless, type_fields, length_fields, modified_fields, location_fields, transfer_fields, fields_with, fields_of}
use Rattle.resp_head.specs.Laws.{FitsTypes}
use Rattle.resp_head.proofs.ValueLemmas.{value_text_cons, value_text_nil, location_text_cons, location_text_nil}

-- the bytes are those of a value
abbrev pub IsValue : List ℕ → Type 0
IsValue bytes = list_all is_value_byte bytes ≡ true

pub value_append : (a b : List ℕ) → IsValue a → IsValue b → IsValue (a ++ b)
value_append a b x y = list_all-append is_value_byte a b ∙ rw (x, y) refl

-- ---- values

value_byte_is : (b : ℕ) → is_value_byte (value_byte b) ≡ true
unfolding value_byte
value_byte_is b =
    elim (is_value_byte b) as (λ t. is_value_byte b ≡ t → is_value_byte (cond t b 32) ≡ true) [
      | true ↦ λ e. e
      | false ↦ λ e. refl
    ] refl

value_text_is : (bytes : List ℕ) → IsValue (value_text bytes)
value_text_is [] = rw value_text_nil refl
value_text_is (b ∷ bs) = rw (value_text_cons b bs, value_byte_is b, value_text_is bs) refl

visible_is_value : (b : ℕ) → is_visible b ≡ true → is_value_byte b ≡ true
visible_is_value b e = grind (arith, nat_tests)

date_byte_is_value : (b : ℕ) → is_date_byte b ≡ true → is_value_byte b ≡ true
date_byte_is_value b e = grind (arith, nat_tests)

date_bytes_are : (bs : List ℕ) → list_all is_date_byte bs ≡ true → IsValue bs
date_bytes_are [] e = refl
date_bytes_are (b ∷ bs) e =
    let parts = and_parts (is_date_byte b) (list_all is_date_byte bs) e in
    rw (date_byte_is_value b parts.0, date_bytes_are bs parts.1) refl

date_is_value : (secs : ℕ) → IsValue (date_of secs)
date_is_value secs = date_bytes_are (date_of secs) (date_is_visible secs).0

one_of : (xs : List ℕ) (i d : ℕ) → IsValue xs → is_value_byte d ≡ true → is_value_byte (get_or xs i d) ≡ true
one_of [] i d e h = h
one_of (x ∷ xs) zero d e h = (and_parts (is_value_byte x) (list_all is_value_byte xs) e).0
one_of (x ∷ xs) (suc i) d e h = one_of xs i d (and_parts (is_value_byte x) (list_all is_value_byte xs) e).1 h

hex_digit_is : (n : ℕ) → is_value_byte (hex_digit n) ≡ true
unfolding hex_digit
hex_digit_is n = one_of (codes "0123456789ABCDEF") n 48 refl refl

escape_is : (b : ℕ) → IsValue (escape b)
unfolding escape
escape_is b = rw (hex_digit_is (b / 16), hex_digit_is (b % 16)) refl

location_byte_is : (b : ℕ) → IsValue (location_byte b)
unfolding location_byte
location_byte_is b =
    elim (is_visible b) as (λ t. is_visible b ≡ t → IsValue (cond t (b ∷ []) (escape b))) [
      | true ↦ λ e. rw (visible_is_value b e) refl
      | false ↦ λ e. escape_is b
    ] refl

location_text_is : (bytes : List ℕ) → IsValue (location_text bytes)
location_text_is [] = rw location_text_nil refl
location_text_is (b ∷ bs) = rw (location_text_cons b bs) (value_append (location_byte b) (location_text bs) (location_byte_is b) (location_text_is bs))

one_digit : (n : ℕ) → n < 10 → IsValue ((48 + n) ∷ [])
one_digit n h = grind (arith, nat_tests)

pub decimal_is_value : (n : ℕ) → n < 2 ^ 64 → IsValue (decimal n)
decimal_is_value n h =
    decimal_by_steps (λ n ds. IsValue ds) one_digit (λ n ds low so_far. value_append ds ((48 + n % 10) ∷ []) so_far (one_digit (n % 10) (omega arith))) n h

phrase_in_is : (table : List (ℕ × List ℕ)) (status : ℕ) → list_all (λ e. list_all is_value_byte e.1) table ≡ true → IsValue (phrase_in table status)
unfolding phrase_in
phrase_in_is [] status e = refl
phrase_in_is (entry ∷ more) status e =
    let parts = and_parts (list_all is_value_byte entry.1) (list_all (λ (f : ℕ × List ℕ). list_all is_value_byte f.1) more) e in
    elim (nat_eq status entry.0) as (λ t. IsValue (cond t entry.1 (phrase_in more status))) [
      | true ↦ parts.0
      | false ↦ phrase_in_is more status parts.1
    ]

pub phrase_is_value : (status : ℕ) → IsValue (phrase_of status)
unfolding phrase_of phrases
phrase_is_value status = phrase_in_is phrases status refl

-- ---- fields

-- the name is a token, and the value is one
abbrev pub is_safe : HeadField → Bool
is_safe f = nat_lt 0 (length f.0) && list_all is_token_byte f.0 && list_all is_value_byte f.0 && list_all is_value_byte f.1

abbrev pub AreSafe : List HeadField → Type 0
AreSafe fields = list_all is_safe fields ≡ true

safe_append : (a b : List HeadField) → AreSafe a → AreSafe b → AreSafe (a ++ b)
safe_append a b x y = list_all-append is_safe a b ∙ rw (x, y) refl

server_safe : is_safe server_field ≡ true
unfolding server_field is_token_byte
server_safe = refl

date_safe : (date : List ℕ) → IsValue date → is_safe (date_field date) ≡ true
unfolding date_field is_token_byte
date_safe date h = rw h refl

type_safe : (kind : List ℕ) → is_safe (type_field kind) ≡ true
unfolding type_field is_token_byte
type_safe kind = rw (value_text_is kind) refl

length_safe : (n : ℕ) → n < 2 ^ 64 → is_safe (length_field n) ≡ true
unfolding length_field is_token_byte
length_safe n h = rw (decimal_is_value n h) refl

modified_safe : (secs : ℕ) → is_safe (modified_field secs) ≡ true
unfolding modified_field is_token_byte
modified_safe secs = rw (date_is_value secs) refl

location_safe : (to : List ℕ) → is_safe (location_field to) ≡ true
unfolding location_field is_token_byte
location_safe to = rw (location_text_is to) refl

chunked_safe : is_safe chunked_field ≡ true
unfolding chunked_field is_token_byte
chunked_safe = refl

connection_safe : (keep : Bool) → is_safe (connection_field keep) ≡ true
unfolding connection_field is_token_byte
connection_safe true = refl
connection_safe false = refl

one_safe : (f : HeadField) → is_safe f ≡ true → AreSafe (f ∷ [])
one_safe f h = rw h refl

choice_safe : (t : Bool) (a b : List HeadField) → AreSafe a → AreSafe b → AreSafe (cond t a b)
choice_safe true a b x y = x
choice_safe false a b x y = y

optional_type : (o : Option (List ℕ)) → AreSafe (optional type_field o)
unfolding optional
optional_type None = refl
optional_type (Some kind) = one_safe (type_field kind) (type_safe kind)

optional_length : (o : Option ℕ) → IfSome o (λ n. n < 2 ^ 64) → AreSafe (optional length_field o)
unfolding optional
optional_length None h = refl
optional_length (Some n) h = one_safe (length_field n) (length_safe n h)

optional_modified : (o : Option ℕ) → AreSafe (optional modified_field o)
unfolding optional
optional_modified None = refl
optional_modified (Some secs) = one_safe (modified_field secs) (modified_safe secs)

optional_location : (o : Option (List ℕ)) → AreSafe (optional location_field o)
unfolding optional
optional_location None = refl
optional_location (Some to) = one_safe (location_field to) (location_safe to)

types_safe : (r : ReplyHead) → AreSafe (type_fields r)
unfolding type_fields
types_safe r = choice_safe (is_bodiless r.status) [] (optional type_field r.kind) refl (optional_type r.kind)

lengths_safe : (r : ReplyHead) → FitsTypes r → AreSafe (length_fields r)
unfolding length_fields
lengths_safe r fits = choice_safe (is_bodiless r.status) [] (optional length_field r.length) refl (optional_length r.length fits.length)

modifieds_safe : (r : ReplyHead) → AreSafe (modified_fields r)
unfolding modified_fields
modifieds_safe r = optional_modified r.modified

locations_safe : (r : ReplyHead) → AreSafe (location_fields r)
unfolding location_fields
locations_safe r = optional_location r.location

transfers_safe : (r : ReplyHead) → AreSafe (transfer_fields r)
unfolding transfer_fields
transfers_safe r = choice_safe _ (chunked_field ∷ []) [] (one_safe chunked_field chunked_safe) refl

start_safe : (date : List ℕ) → IsValue date → AreSafe (server_field ∷ date_field date ∷ [])
start_safe date h = rw (server_safe, date_safe date h) refl

all_safe : (a b c d e f g : List HeadField) → AreSafe a → AreSafe b → AreSafe c → AreSafe d → AreSafe e → AreSafe f → AreSafe g → AreSafe (a ++ b ++ c ++ d ++ e ++ f ++ g)
all_safe a b c d e f g ha hb hc hd he hf hg =
    safe_append (a ++ b ++ c ++ d ++ e ++ f) g (safe_append (a ++ b ++ c ++ d ++ e) f (safe_append (a ++ b ++ c ++ d) e (safe_append (a ++ b ++ c) d (safe_append (a ++ b) c (safe_append a b ha hb) hc) hd) he) hf) hg

fields_with_safe : (date : List ℕ) (r : ReplyHead) → IsValue date → FitsTypes r → AreSafe (fields_with date r)
unfolding fields_with
fields_with_safe date r h fits =
    all_safe (server_field ∷ date_field date ∷ []) (type_fields r) (length_fields r) (modified_fields r) (location_fields r) (transfer_fields r) (connection_field r.keep ∷ [])
    (start_safe date h) (types_safe r) (lengths_safe r fits) (modifieds_safe r) (locations_safe r) (transfers_safe r)
    (one_safe (connection_field r.keep) (connection_safe r.keep))

pub fields_safe : (r : ReplyHead) → FitsTypes r → AreSafe (fields_of r)
unfolding fields_of
fields_safe r fits = fields_with_safe (date_of r.moment) r (date_is_value r.moment) fits
