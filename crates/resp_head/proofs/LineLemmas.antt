-- What is appended piece by piece is a whole line.
use Rattle.std.proofs.Common.{◌≡◌, ℕ, true, false, List, [], ◌∷◌, ◌++◌, append_assoc, append-nil, codes, ap}
use Rattle.http_moment.specs.Moment.{date_of}
use Rattle.std.proofs.lemmas.Grind.{flat_map-append}
use Rattle.resp_head.specs.declared.head.ReplyHead.{ReplyHead}
use Rattle.resp_head.specs.Head.{HeadField, field_line, field_lines, server_field, date_field, type_field, connection_field, crlf, type_fields, length_fields, modified_fields, location_fields, transfer_fields, fields_with, rest_lines, head_with, head_of}
use Rattle.resp_head.specs.Front.{front_lines}
use Rattle.resp_head.specs.Values.{value_text}

pub start_lines : (out a b c date : List ℕ) → a ≡ out ++ codes "Server: nginx\r\nDate: " → b ≡ a ++ date → c ≡ b ++ codes "\r\n" → c ≡ out ++ field_line server_field ++ field_line (date_field date)
unfolding field_line server_field date_field crlf
start_lines out a b c date e f g = rw (g, f, e) (simp append_assoc)

pub type_line : (out a b c kind : List ℕ) → a ≡ out ++ codes "Content-Type: " → b ≡ a ++ value_text kind → c ≡ b ++ codes "\r\n" → c ≡ out ++ field_line (type_field kind)
unfolding field_line type_field crlf
type_line out a b c kind e f g = rw (g, f, e) (simp append_assoc)

pub keep_line : (out a : List ℕ) → a ≡ out ++ codes "Connection: keep-alive\r\n\r\n" → a ≡ out ++ field_line (connection_field true) ++ crlf
unfolding field_line connection_field crlf
keep_line out a e = rw e (simp append_assoc)

pub close_line : (out a : List ℕ) → a ≡ out ++ codes "Connection: close\r\n\r\n" → a ≡ out ++ field_line (connection_field false) ++ crlf
unfolding field_line connection_field crlf
close_line out a e = rw e (simp append_assoc)

pub lines_append : (xs ys : List HeadField) → field_lines (xs ++ ys) ≡ field_lines xs ++ field_lines ys
unfolding field_lines
lines_append xs ys = flat_map-append field_line xs ys

lines_one : (f : HeadField) → field_lines (f ∷ []) ≡ field_line f
unfolding field_lines
lines_one f = append-nil (field_line f)

lines_two : (f g : HeadField) → field_lines (f ∷ g ∷ []) ≡ field_line f ++ field_line g
unfolding field_lines
lines_two f g = ap (λ (v : List ℕ). field_line f ++ v) (append-nil (field_line g))

-- the lines of a head's fields, in their order
lines_with : (date : List ℕ) (r : ReplyHead) → field_lines (fields_with date r) ≡ field_line server_field ++ field_line (date_field date) ++ field_lines (type_fields r) ++ field_lines (length_fields r) ++ field_lines (modified_fields r) ++ field_lines (location_fields r) ++ field_lines (transfer_fields r) ++ field_line (connection_field r.keep)
unfolding fields_with
lines_with date r = simp (lines_append, lines_one, lines_two)

-- all after Date, line by line
pub rest_is : (r : ReplyHead) (a b c d e f g : List ℕ) → b ≡ a ++ field_lines (type_fields r) → c ≡ b ++ field_lines (length_fields r) → d ≡ c ++ field_lines (modified_fields r) → e ≡ d ++ field_lines (location_fields r) → f ≡ e ++ field_lines (transfer_fields r) → g ≡ f ++ field_line (connection_field r.keep) ++ crlf → g ≡ a ++ rest_lines r
unfolding rest_lines
rest_is r a b c d e f g hb hc hd he hf hg = rw (hg, hf, he, hd, hc, hb) (simp append_assoc)

-- a front, and all after it
pub whole_is : (date : List ℕ) (r : ReplyHead) (out a g : List ℕ) → date ≡ date_of r.moment → a ≡ out ++ front_lines r.status date → g ≡ a ++ rest_lines r → g ≡ out ++ head_of r
unfolding head_of head_with rest_lines
whole_is date r out a g ed ea eg = rw (eg, ea, ed, lines_with (date_of r.moment) r) (simp append_assoc)
