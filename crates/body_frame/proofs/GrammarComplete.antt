-- The machine reads every body of the grammar, up to its end.
use Rattle.std.proofs.Common.{◌≡◌, ℕ, suc, ◌+◌, ◌-◌, ◌*◌, ◌^◌, ◌<◌, ◌≤◌, true, false, List, [], ◌∷◌, ◌++◌, length, drop, Option, Some, None, sym, refl, ap, ◌∙◌, subst, arith, cond, eqb}
use Rattle.std.specs.Prelude.{flat_map}
use Rattle.std.specs.List.{list_all, AllByRecursion}
use Rattle.std.specs.Char.{digit_value}
use Rattle.std.specs.Str.Parse.{digits_value_after, AllDigits}
use Rattle.std.proofs.lemmas.List.{append_assoc, drop_all, length-append}
use Rattle.std.proofs.lemmas.Bool.{and_parts, ne_eqb, eq-eqb}
use Rattle.std.proofs.lemmas.Bool.Decides.{nat_tests}
use Rattle.body_frame.specs.Outcome.{Whole, Short, behind}
use Rattle.body_frame.specs.Grammar.{line_end, is_blank, is_text, Extension, print_extension, IsExtension, SizeLine, print_size_line, size_of, IsSizeLine, Chunk, print_chunk, IsChunk, IsTrailer, print_trailers, ChunkedBody, print_body, IsChunkedBody}
use Rattle.body_frame.specs.declared.place.Position.{Position}
use Rattle.body_frame.specs.declared.place.Position.TheVariants as at
use Rattle.body_frame.specs.Position.{place_after, stops_at, rest_at}
use Rattle.body_frame.proofs.RunLemmas.{behind-zero, behind-behind, rest_at-one, rest_at_whole, skips_data}

-- a text leads from one place to the other
pub record Reads (p : Position) (text : List ℕ) (q : Position) : Type 0 where
  pub rest : (more : List ℕ) → rest_at p (text ++ more) ≡ behind (length text) (rest_at q more)

pub reads_none : (p : Position) → Reads p [] p
reads_none p = record { rest = λ more. sym (behind-zero (rest_at p more)) }

pub reads_to : (p q r : Position) (text : List ℕ) → q ≡ r → Reads p text q → Reads p text r
reads_to p q r text e h = subst (Reads p text) e h

pub reads_as : (p q : Position) (s t : List ℕ) → s ≡ t → Reads p t q → Reads p s q
reads_as p q s t e h = subst (λ x. Reads p x q) (sym e) h

-- one byte, and the place that it leads to
pub reads_cons : (p q r : Position) (b : ℕ) (text : List ℕ) → stops_at p ≡ Short → place_after p b ≡ q → Reads q text r → Reads p (b ∷ text) r
reads_cons p q r b text short next h =
    let count : 1 + length text ≡ suc (length text) = omega arith in
    record {
      rest = λ more. rest_at-one p b (text ++ more) short ∙ ap (λ x. behind 1 (rest_at x (text ++ more))) next ∙ ap (behind 1) (h.rest more) ∙ behind-behind 1 (length text) _ ∙ ap (λ n. behind n (rest_at r more)) count;
    }

pub reads_append : (p q r : Position) (s t : List ℕ) → Reads p s q → Reads q t r → Reads p (s ++ t) r
reads_append p q r s t f g = record {
  rest = λ more. ap (rest_at p) (append_assoc s t more) ∙ f.rest (t ++ more) ∙ ap (behind (length s)) (g.rest more) ∙ behind-behind (length s) (length t) _ ∙ ap (λ n. behind n (rest_at r more)) (sym (length-append s t));
}

digits_grow : (ds : List ℕ) (n : ℕ) → n ≤ digits_value_after 16 n ds
digits_grow [] n = omega arith
digits_grow (d ∷ ds) n = omega (arith, digits_grow ds (n * 16 + digit_value d))

step_digit : (size line b : ℕ) → digit_value b < 16 → size * 16 + digit_value b < 2 ^ 63 → line < 4096 → place_after (at.Size size line) b ≡ at.Size (size * 16 + digit_value b) (line + 1)
step_digit size line b hex fits room = grind (arith, nat_tests)

reads_digits : (ds : List ℕ) (size line : ℕ) → AllDigits 16 ds → digits_value_after 16 size ds < 2 ^ 63 → line + length ds ≤ 4096 → Reads (at.Size size line) ds (at.Size (digits_value_after 16 size ds) (line + length ds))
reads_digits [] size line hex fits room =
    let same : line ≡ line + 0 = omega arith in
    reads_to _ _ _ [] (ap (at.Size size) same) (reads_none (at.Size size line))
reads_digits (d ∷ ds) size line hex fits room =
    let grows = digits_grow ds (size * 16 + digit_value d) in
    let same : line + 1 + length ds ≡ line + suc (length ds) = omega arith in
    reads_cons _ _ _ d ds refl (step_digit size line d hex.0 (omega arith) (omega arith))
    (reads_to _ _ _ ds (ap (at.Size (digits_value_after 16 (size * 16 + digit_value d) ds)) same) (reads_digits ds (size * 16 + digit_value d) (line + 1) hex.1 fits (omega arith)))

step_blank : (size line b : ℕ) → is_blank b ≡ true → line < 4096 → place_after (at.Blanks size line) b ≡ at.Blanks size (line + 1)
step_blank size line b blank room = grind (arith, nat_tests)

step_first_blank : (size line b : ℕ) → is_blank b ≡ true → line < 4095 → place_after (at.Size size line) b ≡ at.Blanks size (line + 2)
step_first_blank size line b blank room = grind (arith, nat_tests)

reads_blanks : (bs : List ℕ) (size line : ℕ) → list_all is_blank bs ≡ true → line + length bs ≤ 4096 → Reads (at.Blanks size line) bs (at.Blanks size (line + length bs))
reads_blanks [] size line ok room =
    let same : line ≡ line + 0 = omega arith in
    reads_to _ _ _ [] (ap (at.Blanks size) same) (reads_none (at.Blanks size line))
reads_blanks (b ∷ bs) size line ok room =
    let parts = and_parts (is_blank b) (list_all is_blank bs) ok in
    let same : line + 1 + length bs ≡ line + suc (length bs) = omega arith in
    reads_cons _ _ _ b bs refl (step_blank size line b parts.0 (omega arith))
    (reads_to _ _ _ bs (ap (at.Blanks size) same) (reads_blanks bs size (line + 1) parts.1 (omega arith)))

step_text : (size line b : ℕ) → is_text b ≡ true → line < 4096 → place_after (at.Extension size line) b ≡ at.Extension size (line + 1)
step_text size line b text room = grind (arith, nat_tests)

reads_text : (text : List ℕ) (size line : ℕ) → list_all is_text text ≡ true → line + length text ≤ 4096 → Reads (at.Extension size line) text (at.Extension size (line + length text))
reads_text [] size line ok room =
    let same : line ≡ line + 0 = omega arith in
    reads_to _ _ _ [] (ap (at.Extension size) same) (reads_none (at.Extension size line))
reads_text (b ∷ text) size line ok room =
    let parts = and_parts (is_text b) (list_all is_text text) ok in
    let same : line + 1 + length text ≡ line + suc (length text) = omega arith in
    reads_cons _ _ _ b text refl (step_text size line b parts.0 (omega arith))
    (reads_to _ _ _ text (ap (at.Extension size) same) (reads_text text size (line + 1) parts.1 (omega arith)))

-- the place after a size's line
abbrev pub after_line : ℕ → Position
after_line size = cond (eqb size 0) (at.Trailers 0) (at.Data size)

reads_line_feed : (size : ℕ) → Reads (at.SizeLineFeed size) (10 ∷ []) (after_line size)
reads_line_feed size = reads_cons _ _ _ 10 [] refl refl (reads_none (after_line size))

-- a text after `;`, and the line's end
reads_text_end : (text : List ℕ) (size line : ℕ) → list_all is_text text ≡ true → line + length text ≤ 4096 → Reads (at.Extension size line) (text ++ line_end) (after_line size)
reads_text_end text size line ok room =
    reads_append _ _ _ text line_end (reads_text text size line ok room) (reads_cons (at.Extension size (line + length text)) _ _ 13 (10 ∷ []) refl refl (reads_line_feed size))

step_semicolon : (size line : ℕ) → line < 4096 → place_after (at.Size size line) 59 ≡ at.Extension size (line + 1)
step_semicolon size line room = grind (arith, nat_tests)

reads_extension : (blanks text : List ℕ) (size line : ℕ) → list_all is_blank blanks ≡ true → list_all is_text text ≡ true → line + (length blanks + suc (length text)) ≤ 4096 → Reads (at.Size size line) (blanks ++ (59 ∷ (text ++ line_end))) (after_line size)
reads_extension [] text size line blank ok room =
    reads_cons _ _ _ 59 (text ++ line_end) refl (step_semicolon size line (omega arith)) (reads_text_end text size (line + 1) ok (omega arith))
reads_extension (b ∷ blanks) text size line blank ok room =
    let parts = and_parts (is_blank b) (list_all is_blank blanks) blank in
    reads_cons _ _ _ b _ refl (step_first_blank size line b parts.0 (omega arith))
    (reads_append _ _ _ blanks (59 ∷ (text ++ line_end)) (reads_blanks blanks size (line + 2) parts.1 (omega arith))
    (reads_cons (at.Blanks size (line + 2 + length blanks)) (at.Extension size (line + 2 + length blanks)) _ 59 (text ++ line_end) refl refl (reads_text_end text size (line + 2 + length blanks) ok (omega arith))))

-- what follows the digits
reads_line_end : (e : Option Extension) (size line : ℕ) → IsExtension e → line + length (print_extension e) ≤ 4096 → Reads (at.Size size line) (print_extension e ++ line_end) (after_line size)
reads_line_end None size line ok room = reads_cons (at.Size size line) _ _ 13 (10 ∷ []) refl refl (reads_line_feed size)
reads_line_end (Some e) size line ok room =
    let count : length (e.blanks ++ 59 ∷ e.text) ≡ length e.blanks + suc (length e.text) = length-append e.blanks (59 ∷ e.text) in
    reads_as _ _ _ _ (append_assoc e.blanks (59 ∷ e.text) line_end) (reads_extension e.blanks e.text size line ok.0 ok.1 (omega (arith, count)))

step_first_digit : (b : ℕ) → digit_value b < 16 → place_after at.SizeStart b ≡ at.Size (0 * 16 + digit_value b) 1
step_first_digit b hex = grind (arith, nat_tests)

reads_first_digits : (ds : List ℕ) → 0 < length ds → AllDigits 16 ds → digits_value_after 16 0 ds < 2 ^ 63 → length ds ≤ 4096 → Reads at.SizeStart ds (at.Size (digits_value_after 16 0 ds) (length ds))
reads_first_digits [] some hex fits room = absurd (omega arith)
reads_first_digits (d ∷ ds) some hex fits room =
    let same : 1 + length ds ≡ suc (length ds) = omega arith in
    reads_cons _ _ _ d ds refl (step_first_digit d hex.0)
    (reads_to _ _ _ ds (ap (at.Size (digits_value_after 16 (0 * 16 + digit_value d) ds)) same) (reads_digits ds (0 * 16 + digit_value d) 1 hex.1 fits (omega arith)))

pub reads_size_line : (l : SizeLine) → IsSizeLine l → Reads at.SizeStart (print_size_line l ++ line_end) (after_line (size_of l))
reads_size_line l ok =
    let count : length (print_size_line l) ≡ length l.digits + length (print_extension l.extension) = length-append l.digits (print_extension l.extension) in
    let limit = ok.within_limit in
    reads_as _ _ _ _ (append_assoc l.digits (print_extension l.extension) line_end)
    (reads_append _ _ _ l.digits (print_extension l.extension ++ line_end)
    (reads_first_digits l.digits ok.has_digit ok.hexadecimal ok.fits (omega (arith, count, limit)))
    (reads_line_end l.extension (size_of l) (length l.digits) ok.extension (omega (arith, count, limit))))

reads_data : (bytes : List ℕ) (n : ℕ) → n ≡ length bytes → Reads (at.Data n) bytes (at.Data 0)
reads_data bytes n sized =
    let nothing : drop n bytes ≡ [] = drop_all n bytes (omega arith) in
    let over : n - n ≡ 0 = omega arith in
    record {
      rest = λ more. skips_data n n bytes (omega arith) (omega arith) more ∙ (λ i. behind (sized i) (rest_at (at.Data (over i)) (nothing i ++ more)));
    }

reads_chunk : (c : Chunk) → IsChunk c → Reads at.SizeStart (print_chunk c) at.SizeStart
reads_chunk c ok =
    let size = size_of c.line in
    let some : eqb size 0 ≡ false = ne_eqb size 0 (omega (arith, ok.sized, ok.not_empty)) in
    let next : after_line size ≡ at.Data size = ap (λ t. cond t (at.Trailers 0) (at.Data size)) some in
    let crlf : Reads (at.Data 0) line_end at.SizeStart = reads_cons _ at.DataLineFeed _ 13 (10 ∷ []) refl refl (reads_cons _ at.SizeStart _ 10 [] refl refl (reads_none at.SizeStart)) in
    reads_as _ _ _ _ (sym (append_assoc (print_size_line c.line) line_end (c.bytes ++ line_end)))
    (reads_append _ _ _ (print_size_line c.line ++ line_end) (c.bytes ++ line_end)
    (reads_to _ _ _ _ next (reads_size_line c.line ok.line))
    (reads_append _ _ _ c.bytes line_end (reads_data c.bytes size ok.sized) crlf))

reads_chunks : (cs : List Chunk) → AllByRecursion IsChunk cs → Reads at.SizeStart (flat_map print_chunk cs) at.SizeStart
reads_chunks [] ok = reads_none at.SizeStart
reads_chunks (c ∷ cs) ok = reads_append _ _ _ (print_chunk c) (flat_map print_chunk cs) (reads_chunk c ok.0) (reads_chunks cs ok.1)

step_trailer : (n b : ℕ) → is_text b ≡ true → n < 8192 → place_after (at.Trailer n) b ≡ at.Trailer (n + 1)
step_trailer n b text room = grind (arith, nat_tests)

step_first_trailer : (n b : ℕ) → is_text b ≡ true → n + 3 ≤ 8192 → place_after (at.Trailers n) b ≡ at.Trailer (n + 3)
step_first_trailer n b text room = grind (arith, nat_tests)

reads_trailer_text : (text : List ℕ) (n : ℕ) → list_all is_text text ≡ true → n + length text ≤ 8192 → Reads (at.Trailer n) text (at.Trailer (n + length text))
reads_trailer_text [] n ok room =
    let same : n ≡ n + 0 = omega arith in
    reads_to _ _ _ [] (ap at.Trailer same) (reads_none (at.Trailer n))
reads_trailer_text (b ∷ text) n ok room =
    let parts = and_parts (is_text b) (list_all is_text text) ok in
    let same : n + 1 + length text ≡ n + suc (length text) = omega arith in
    reads_cons _ _ _ b text refl (step_trailer n b parts.0 (omega arith))
    (reads_to _ _ _ text (ap at.Trailer same) (reads_trailer_text text (n + 1) parts.1 (omega arith)))

reads_trailer : (line : List ℕ) (n : ℕ) → IsTrailer line → n + length (line ++ line_end) ≤ 8192 → Reads (at.Trailers n) (line ++ line_end) (at.Trailers (n + length (line ++ line_end)))
reads_trailer [] n ok room = absurd (omega (arith, ok.0))
reads_trailer (b ∷ line) n ok room =
    let parts = and_parts (is_text b) (list_all is_text line) ok.1 in
    let count : length (line ++ line_end) ≡ length line + 2 = length-append line line_end in
    let same : n + 3 + length line ≡ n + suc (length (line ++ line_end)) = omega (arith, count) in
    let at_end = n + 3 + length line in
    reads_cons _ _ _ b (line ++ line_end) refl (step_first_trailer n b parts.0 (omega (arith, count)))
    (reads_append _ _ _ line line_end (reads_trailer_text line (n + 3) parts.1 (omega (arith, count)))
    (reads_to _ _ _ _ (ap at.Trailers same)
    (reads_cons (at.Trailer at_end) (at.TrailerLineFeed at_end) _ 13 (10 ∷ []) refl refl (reads_cons (at.TrailerLineFeed at_end) (at.Trailers at_end) _ 10 [] refl refl (reads_none (at.Trailers at_end))))))

reads_trailers : (lines : List (List ℕ)) (n : ℕ) → AllByRecursion IsTrailer lines → n + length (print_trailers lines) ≤ 8192 → Reads (at.Trailers n) (print_trailers lines) (at.Trailers (n + length (print_trailers lines)))
reads_trailers [] n ok room =
    let same : n ≡ n + 0 = omega arith in
    reads_to _ _ _ [] (ap at.Trailers same) (reads_none (at.Trailers n))
reads_trailers (line ∷ lines) n ok room =
    let one = line ++ line_end in
    let count : length (one ++ print_trailers lines) ≡ length one + length (print_trailers lines) = length-append one (print_trailers lines) in
    let same : n + length one + length (print_trailers lines) ≡ n + length (one ++ print_trailers lines) = omega (arith, count) in
    reads_append _ _ _ one (print_trailers lines) (reads_trailer line n ok.0 (omega (arith, count)))
    (reads_to _ _ _ _ (ap at.Trailers same) (reads_trailers lines (n + length one) ok.1 (omega (arith, count))))

pub reads_body : (b : ChunkedBody) → IsChunkedBody b → Reads at.SizeStart (print_body b) (at.Plain 0)
reads_body b ok =
    let count = length (print_trailers b.trailers) in
    let limit = ok.within_limit in
    let next : after_line (size_of b.last) ≡ at.Trailers 0 = ap (λ t. cond t (at.Trailers 0) (at.Data (size_of b.last))) (eq-eqb (size_of b.last) 0 ok.ends) in
    let crlf : Reads (at.Trailers (0 + count)) line_end (at.Plain 0) = reads_cons (at.Trailers (0 + count)) at.LastLineFeed _ 13 (10 ∷ []) refl refl (reads_cons at.LastLineFeed (at.Plain 0) _ 10 [] refl refl (reads_none (at.Plain 0))) in
    reads_append _ _ _ (flat_map print_chunk b.chunks) _ (reads_chunks b.chunks ok.chunks)
    (reads_as _ _ _ _ (sym (append_assoc (print_size_line b.last) line_end (print_trailers b.trailers ++ line_end)))
    (reads_append _ _ _ (print_size_line b.last ++ line_end) (print_trailers b.trailers ++ line_end)
    (reads_to _ _ _ _ next (reads_size_line b.last ok.last))
    (reads_append _ _ _ (print_trailers b.trailers) line_end (reads_trailers b.trailers 0 ok.trailers (omega (arith, limit))) crlf)))

-- a text that leads to the end is the body, whatever follows
pub reads_whole : (p : Position) (text more : List ℕ) → Reads p text (at.Plain 0) → rest_at p (text ++ more) ≡ Whole (length text)
reads_whole p text more h =
    let sum : length text + 0 ≡ length text = omega arith in
    h.rest more ∙ ap (behind (length text)) (rest_at_whole (at.Plain 0) more 0 refl) ∙ ap Whole sum
