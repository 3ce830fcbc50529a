-- The machine reads nothing else: a text that it reads to the end is a body of the grammar.
use Rattle.std.proofs.Common.{◌≡◌, ℕ, zero, suc, ◌+◌, ◌-◌, ◌*◌, ◌^◌, ◌<◌, ◌≤◌, ◌⊎◌, Bool, true, false, ◌||◌, List, [], ◌∷◌, ◌++◌, length, Option, Some, None, sym, refl, ap, ◌∙◌, subst, inl, inr, ⊎_elim, arith, cond, eqb}
use Rattle.std.specs.List.{list_all, AllByRecursion}
use Rattle.std.specs.Char.{digit_value}
use Rattle.std.specs.Str.Parse.{digits_value_after, AllDigits}
use Rattle.std.proofs.lemmas.List.{append_assoc, length-append}
use Rattle.std.proofs.lemmas.Bool.{and_parts, and_from, or_parts, not_from_false, eqb-true, eqb-false, ltb-true, ltb-false, leb-false}
use Rattle.body_frame.specs.Outcome.{BodyOutcome, Whole, Short, Broken, behind}
use Rattle.body_frame.specs.Grammar.{line_end, is_blank, is_text, Extension, print_extension, IsExtension, SizeLine, print_size_line, size_of, IsSizeLine, Chunk, IsChunk, IsTrailer, print_trailers, ChunkedBody, print_body, IsChunkedBody}
use Rattle.body_frame.specs.declared.place.Position.{Position}
use Rattle.body_frame.specs.declared.place.Position.TheVariants as at
use Rattle.body_frame.specs.Position.{expected, after_digits, in_size, in_blanks, in_extension, in_trailer, place_after, stops_at, goes_on, rest_at}
use Rattle.body_frame.proofs.RunLemmas.{rest_at-nil, rest_at-cons, whole_within, stops_plain}

-- the input is a chunked body
abbrev pub HasBody : List ℕ → Type 0
HasBody input = (b : ChunkedBody) × IsChunkedBody b × (input ≡ print_body b)

-- this many bytes of data, CR LF and the rest of a body
record DataThen (size : ℕ) (input : List ℕ) : Type 0 where
  bytes : List ℕ
  after : List ℕ
  sized : size ≡ length bytes
  input_is : input ≡ bytes ++ (line_end ++ after)
  body : HasBody after

-- trailer lines and the empty line, after this many bytes of them
record TrailersThen (n : ℕ) (input : List ℕ) : Type 0 where
  lines : List (List ℕ)
  each : AllByRecursion IsTrailer lines
  fits : n ≤ 8192 → n + length (print_trailers lines) ≤ 8192
  input_is : input ≡ print_trailers lines ++ line_end

-- the rest of a trailer line, and what follows it
record TrailerThen (n : ℕ) (input : List ℕ) : Type 0 where
  text : List ℕ
  after : List ℕ
  is_all_text : list_all is_text text ≡ true
  fits : n ≤ 8192 → n + length text ≤ 8192
  input_is : input ≡ text ++ (line_end ++ after)
  then : TrailersThen (n + length text) after

-- what follows a size's line
abbrev AfterLine : ℕ → List ℕ → Type 0
AfterLine size input = ((size ≡ 0) × TrailersThen 0 input) ⊎ ((0 < size) × DataThen size input)

-- what follows a `;`
record TextThen (size line : ℕ) (input : List ℕ) : Type 0 where
  text : List ℕ
  after : List ℕ
  is_all_text : list_all is_text text ≡ true
  fits : line ≤ 4096 → line + length text ≤ 4096
  input_is : input ≡ text ++ (line_end ++ after)
  then : AfterLine size after

-- what follows a blank
record BlanksThen (size line : ℕ) (input : List ℕ) : Type 0 where
  blanks : List ℕ
  text : List ℕ
  after : List ℕ
  is_all_blank : list_all is_blank blanks ≡ true
  is_all_text : list_all is_text text ≡ true
  fits : line ≤ 4096 → line + (length blanks + length text) ≤ 4096
  input_is : input ≡ blanks ++ (59 ∷ (text ++ (line_end ++ after)))
  then : AfterLine size after

-- what follows some digits
record DigitsThen (size line : ℕ) (input : List ℕ) : Type 0 where
  digits : List ℕ
  extension : Option Extension
  after : List ℕ
  hexadecimal : AllDigits 16 digits
  small : size < 2 ^ 63 → digits_value_after 16 size digits < 2 ^ 63
  is_extension : IsExtension extension
  fits : line ≤ 4096 → line + (length digits + length (print_extension extension)) ≤ 4096
  input_is : input ≡ digits ++ (print_extension extension ++ (line_end ++ after))
  then : AfterLine (digits_value_after 16 size digits) after

-- the part of the grammar that is left at each place
abbrev Left : Position → List ℕ → Type 0
Left (at.Plain n) input = length input ≡ n
Left at.SizeStart input = HasBody input
Left (at.Size size line) input = DigitsThen size line input
Left (at.Blanks size line) input = BlanksThen size line input
Left (at.Extension size line) input = TextThen size line input
Left (at.SizeLineFeed size) input = (after : List ℕ) × (input ≡ 10 ∷ after) × AfterLine size after
Left (at.Data n) input = DataThen n input
Left at.DataLineFeed input = (after : List ℕ) × (input ≡ 10 ∷ after) × HasBody after
Left (at.Trailers n) input = TrailersThen n input
Left (at.Trailer n) input = TrailerThen n input
Left (at.TrailerLineFeed n) input = (after : List ℕ) × (input ≡ 10 ∷ after) × TrailersThen n after
Left at.LastLineFeed input = input ≡ 10 ∷ []
Left at.Failed input = ⊥

-- the two cases of a test that chose a value
chosen : {X : Type 0} (P : X → Type 0) (t : Bool) (x y : X) → P (cond t x y) → ((t ≡ true) × P x) ⊎ ((t ≡ false) × P y)
chosen P true x y h = inl (refl, h)
chosen P false x y h = inr (refl, h)

module _ (b : ℕ) (bs : List ℕ) where
  abbrev Next : Position → Type 0
  Next p = Left p bs

  back_expected : (wanted : ℕ) (next : Position) → Next (expected b wanted next) → (b ≡ wanted) × Next next
  back_expected wanted next h =
      ⊎_elim (λ w. (eqb-true b wanted w.0, w.1)) (λ w. absurd w.1) (chosen Next _ next at.Failed h)

  back_text_end : (size line : ℕ) → b ≡ 13 → Next (at.SizeLineFeed size) → TextThen size line (b ∷ bs)
  back_text_end size line is t = record {
    text = [];
    after = t.0;
    is_all_text = refl;
    fits = λ low. omega arith;
    input_is = λ i. is i ∷ t.1 i;
    then = t.2;
  }

  back_text : (size line : ℕ) → is_text b ≡ true → line < 4096 → TextThen size (line + 1) bs → TextThen size line (b ∷ bs)
  back_text size line ok room t = record {
    text = b ∷ t.text;
    after = t.after;
    is_all_text = and_from _ _ ok t.is_all_text;
    fits = λ low. omega (arith, t.fits (omega arith));
    input_is = ap (λ l. b ∷ l) t.input_is;
    then = t.then;
  }

  -- a byte that is neither CR nor LF
  text_byte : (t : Bool) → eqb b 13 ≡ false → (eqb b 10 || t) ≡ false → (is_text b ≡ true) × (t ≡ false)
  text_byte t cr lf =
      let parts = or_parts _ t lf in
      let neither : (eqb b 13 || eqb b 10) ≡ false = ap (λ x. x || eqb b 10) cr ∙ parts.0 in
      (not_from_false _ neither, parts.1)

  back_extension : (size line : ℕ) → Next (in_extension size line b) → TextThen size line (b ∷ bs)
  back_extension size line h =
      ⊎_elim (λ w. back_text_end size line (eqb-true b 13 w.0) w.1)
      (λ w. ⊎_elim (λ v. absurd v.1)
      (λ v. let ok = text_byte _ w.0 v.0 in back_text size line ok.0 (leb-false 4096 line ok.1) v.1)
      (chosen Next _ at.Failed (at.Extension size (line + 1)) w.1))
      (chosen Next _ (at.SizeLineFeed size) _ h)

  back_semicolon : (size line : ℕ) → b ≡ 59 → TextThen size line bs → BlanksThen size line (b ∷ bs)
  back_semicolon size line is t = record {
    blanks = [];
    text = t.text;
    after = t.after;
    is_all_blank = refl;
    is_all_text = t.is_all_text;
    fits = λ low. omega (arith, t.fits low);
    input_is = λ i. is i ∷ t.input_is i;
    then = t.then;
  }

  back_blank : (size line : ℕ) → is_blank b ≡ true → line < 4096 → BlanksThen size (line + 1) bs → BlanksThen size line (b ∷ bs)
  back_blank size line blank room t = record {
    blanks = b ∷ t.blanks;
    text = t.text;
    after = t.after;
    is_all_blank = and_from _ _ blank t.is_all_blank;
    is_all_text = t.is_all_text;
    fits = λ low. omega (arith, t.fits (omega arith));
    input_is = ap (λ l. b ∷ l) t.input_is;
    then = t.then;
  }

  back_blanks : (size line : ℕ) → Next (in_blanks size line b) → BlanksThen size line (b ∷ bs)
  back_blanks size line h =
      ⊎_elim (λ w. back_semicolon size line (eqb-true b 59 w.0) w.1)
      (λ w. ⊎_elim (λ v. let ok = and_parts _ _ v.0 in back_blank size line ok.0 (ltb-true line 4096 ok.1) v.1)
      (λ v. absurd v.1)
      (chosen Next _ (at.Blanks size (line + 1)) at.Failed w.1))
      (chosen Next _ (at.Extension size line) _ h)

  -- no more digits: the line's end, an extension, or blanks and an extension
  back_plain_end : (size line : ℕ) → b ≡ 13 → Next (at.SizeLineFeed size) → DigitsThen size line (b ∷ bs)
  back_plain_end size line is t = record {
    digits = [];
    extension = None;
    after = t.0;
    hexadecimal = tt;
    small = λ s. s;
    is_extension = tt;
    fits = λ low. omega arith;
    input_is = λ i. is i ∷ t.1 i;
    then = t.2;
  }

  back_first_semicolon : (size line : ℕ) → b ≡ 59 → line < 4096 → TextThen size (line + 1) bs → DigitsThen size line (b ∷ bs)
  back_first_semicolon size line is room t = record {
    digits = [];
    extension = Some (record { blanks = []; text = t.text });
    after = t.after;
    hexadecimal = tt;
    small = λ s. s;
    is_extension = (refl, t.is_all_text);
    fits = λ low. omega (arith, t.fits (omega arith));
    input_is = λ i. is i ∷ t.input_is i;
    then = t.then;
  }

  back_first_blank : (size line : ℕ) → is_blank b ≡ true → line < 4095 → BlanksThen size (line + 2) bs → DigitsThen size line (b ∷ bs)
  back_first_blank size line blank room t =
      let e : Extension = record { blanks = b ∷ t.blanks; text = t.text } in
      let count : length (t.blanks ++ 59 ∷ t.text) ≡ length t.blanks + suc (length t.text) = length-append t.blanks (59 ∷ t.text) in
      let regrouped : t.blanks ++ (59 ∷ (t.text ++ (line_end ++ t.after))) ≡ (t.blanks ++ 59 ∷ t.text) ++ (line_end ++ t.after) = sym (append_assoc t.blanks (59 ∷ t.text) (line_end ++ t.after)) in
      record {
        digits = [];
        extension = Some e;
        after = t.after;
        hexadecimal = tt;
        small = λ s. s;
        is_extension = (and_from _ _ blank t.is_all_blank, t.is_all_text);
        fits = λ low. omega (arith, t.fits (omega arith), count);
        input_is = ap (λ l. b ∷ l) (t.input_is ∙ regrouped);
        then = t.then;
      }

  back_after_digits : (size line : ℕ) → Next (after_digits size line b) → DigitsThen size line (b ∷ bs)
  back_after_digits size line h =
      ⊎_elim (λ w. back_plain_end size line (eqb-true b 13 w.0) w.1)
      (λ w. ⊎_elim (λ v. let ok = and_parts _ _ v.0 in back_first_semicolon size line (eqb-true b 59 ok.0) (ltb-true line 4096 ok.1) v.1)
      (λ v. ⊎_elim (λ u. let ok = and_parts _ _ u.0 in back_first_blank size line ok.0 (ltb-true line 4095 ok.1) u.1)
      (λ u. absurd u.1)
      (chosen Next _ (at.Blanks size (line + 2)) at.Failed v.1))
      (chosen Next _ (at.Extension size (line + 1)) _ w.1))
      (chosen Next _ (at.SizeLineFeed size) _ h)

  back_digit : (size line : ℕ) → digit_value b < 16 → size * 16 + digit_value b < 2 ^ 63 → line < 4096 → DigitsThen (size * 16 + digit_value b) (line + 1) bs → DigitsThen size line (b ∷ bs)
  back_digit size line hex fits room t = record {
    digits = b ∷ t.digits;
    extension = t.extension;
    after = t.after;
    hexadecimal = (hex, t.hexadecimal);
    small = λ _. t.small fits;
    is_extension = t.is_extension;
    fits = λ low. omega (arith, t.fits (omega arith));
    input_is = ap (λ l. b ∷ l) t.input_is;
    then = t.then;
  }

  back_size : (size line : ℕ) → Next (in_size size line b) → DigitsThen size line (b ∷ bs)
  back_size size line h =
      ⊎_elim
      (λ w. ⊎_elim (λ v. let ok = and_parts _ _ v.0 in back_digit size line (ltb-true _ 16 w.0) (ltb-true _ _ ok.0) (ltb-true line 4096 ok.1) v.1)
      (λ v. absurd v.1)
      (chosen Next _ (at.Size (size * 16 + digit_value b) (line + 1)) at.Failed w.1))
      (λ w. back_after_digits size line w.1)
      (chosen Next _ _ (after_digits size line b) h)

  back_line_feed : (size : ℕ) → Next (place_after (at.SizeLineFeed size) b) → Left (at.SizeLineFeed size) (b ∷ bs)
  back_line_feed size h =
      let t = back_expected 10 _ h in
      let then : AfterLine size bs = ⊎_elim
      (λ w. inl (eqb-true size 0 w.0, w.1))
      (λ w. let some : 0 < size = omega (arith, eqb-false size 0 w.0) in inr (some, w.1))
      (chosen Next _ (at.Trailers 0) (at.Data size) t.1) in
      (bs, ap (λ x. x ∷ bs) t.0, then)

  back_data_end : b ≡ 13 → Next at.DataLineFeed → DataThen 0 (b ∷ bs)
  back_data_end is t = record { bytes = []; after = t.0; sized = refl; input_is = λ i. is i ∷ t.1 i; body = t.2 }

  back_data : (n : ℕ) → Next (place_after (at.Data n) b) → DataThen n (b ∷ bs)
  back_data n h =
      ⊎_elim
      (λ w. let t = back_expected 13 at.DataLineFeed w.1 in subst (λ k. DataThen k (b ∷ bs)) (sym (eqb-true n 0 w.0)) (back_data_end t.0 t.1))
      (λ w. record { bytes = b ∷ w.1.bytes; after = w.1.after; sized = omega (arith, eqb-false n 0 w.0, w.1.sized); input_is = ap (λ l. b ∷ l) w.1.input_is; body = w.1.body })
      (chosen Next _ _ (at.Data (n - 1)) h)

  back_trailer_byte : (n : ℕ) → is_text b ≡ true → n + 1 ≤ 8192 → TrailerThen (n + 1) bs → TrailerThen n (b ∷ bs)
  back_trailer_byte n ok room t =
      let same : n + 1 + length t.text ≡ n + suc (length t.text) = omega arith in
      record {
        text = b ∷ t.text;
        after = t.after;
        is_all_text = and_from _ _ ok t.is_all_text;
        fits = λ low. omega (arith, t.fits (omega arith));
        input_is = ap (λ l. b ∷ l) t.input_is;
        then = subst (λ k. TrailersThen k t.after) same t.then;
      }

  back_trailer_end : (n : ℕ) → b ≡ 13 → Next (at.TrailerLineFeed n) → TrailerThen n (b ∷ bs)
  back_trailer_end n is t =
      let same : n ≡ n + 0 = omega arith in
      record {
        text = [];
        after = t.0;
        is_all_text = refl;
        fits = λ low. omega arith;
        input_is = λ i. is i ∷ t.1 i;
        then = subst (λ k. TrailersThen k t.0) same t.2;
      }

  back_trailer : (n : ℕ) → Next (in_trailer n 1 (at.TrailerLineFeed n) b) → TrailerThen n (b ∷ bs)
  back_trailer n h =
      ⊎_elim (λ w. back_trailer_end n (eqb-true b 13 w.0) w.1)
      (λ w. ⊎_elim (λ v. absurd v.1)
      (λ v. let ok = text_byte _ w.0 v.0 in back_trailer_byte n ok.0 (ltb-false 8192 (n + 1) ok.1) v.1)
      (chosen Next _ at.Failed (at.Trailer (n + 1)) w.1))
      (chosen Next _ (at.TrailerLineFeed n) _ h)

  back_last : (n : ℕ) → b ≡ 13 → bs ≡ 10 ∷ [] → TrailersThen n (b ∷ bs)
  back_last n is t = record { lines = []; each = tt; fits = λ low. omega arith; input_is = λ i. is i ∷ t i }

  back_first_trailer : (n : ℕ) → is_text b ≡ true → n + 3 ≤ 8192 → TrailerThen (n + 3) bs → TrailersThen n (b ∷ bs)
  back_first_trailer n ok room t =
      let line = b ∷ t.text in
      let u = t.then in
      let some : 0 < length line = omega arith in
      let one : length (line ++ line_end) ≡ length line + 2 = length-append line line_end in
      let count : length (print_trailers (line ∷ u.lines)) ≡ length (line ++ line_end) + length (print_trailers u.lines) = length-append (line ++ line_end) (print_trailers u.lines) in
      let limit : n ≤ 8192 → n + length (print_trailers (line ∷ u.lines)) ≤ 8192 = λ low. omega (arith, u.fits (t.fits room), one, count) in
      let regrouped : t.text ++ (line_end ++ (print_trailers u.lines ++ line_end)) ≡ ((t.text ++ line_end) ++ print_trailers u.lines) ++ line_end = simp append_assoc in
      record {
        lines = line ∷ u.lines;
        each = ((some, and_from _ _ ok t.is_all_text), u.each);
        fits = limit;
        input_is = ap (λ l. b ∷ l) (t.input_is ∙ ap (λ l. t.text ++ (line_end ++ l)) u.input_is ∙ regrouped);
      }

  back_trailers : (n : ℕ) → Next (in_trailer n 3 at.LastLineFeed b) → TrailersThen n (b ∷ bs)
  back_trailers n h =
      ⊎_elim (λ w. back_last n (eqb-true b 13 w.0) w.1)
      (λ w. ⊎_elim (λ v. absurd v.1)
      (λ v. let ok = text_byte _ w.0 v.0 in back_first_trailer n ok.0 (ltb-false 8192 (n + 3) ok.1) v.1)
      (chosen Next _ at.Failed (at.Trailer (n + 3)) w.1))
      (chosen Next _ at.LastLineFeed _ h)

-- a size's line of zero, and the trailer lines
last_only : (l : SizeLine) (input after : List ℕ) → IsSizeLine l → input ≡ print_size_line l ++ (line_end ++ after) → size_of l ≡ 0 → TrailersThen 0 after → HasBody input
last_only l input after ok input_is none t =
    let limit : length (print_trailers t.lines) ≤ 8192 = omega (arith, t.fits (omega arith)) in (
      record { chunks = []; last = l; trailers = t.lines },
      record { chunks = tt; last = ok; ends = none; trailers = t.each; within_limit = limit },
      input_is ∙ ap (λ x. print_size_line l ++ (line_end ++ x)) t.input_is,
    )

-- a size's line, its data and the rest of a body
one_more : (l : SizeLine) (input after : List ℕ) → IsSizeLine l → input ≡ print_size_line l ++ (line_end ++ after) → 0 < size_of l → DataThen (size_of l) after → HasBody input
one_more l input after ok input_is some t =
    let c : Chunk = record { line = l; bytes = t.bytes } in
    let b = t.body.0 in
    let rest = t.body.1 in
    let whole : IsChunk c = record { line = ok; sized = t.sized; not_empty = omega (arith, t.sized) } in
    let regrouped : print_size_line l ++ (line_end ++ (t.bytes ++ (line_end ++ print_body b))) ≡ print_body (record { chunks = c ∷ b.chunks; last = b.last; trailers = b.trailers }) = simp append_assoc in (
      record { chunks = c ∷ b.chunks; last = b.last; trailers = b.trailers },
      record { chunks = (whole, rest.chunks); last = rest.last; ends = rest.ends; trailers = rest.trailers; within_limit = rest.within_limit },
      input_is ∙ ap (λ x. print_size_line l ++ (line_end ++ x)) (t.input_is ∙ ap (λ x. t.bytes ++ (line_end ++ x)) t.body.2) ∙ regrouped,
    )

back_first_digit : (b : ℕ) (bs : List ℕ) → digit_value b < 16 → DigitsThen (0 * 16 + digit_value b) 1 bs → HasBody (b ∷ bs)
back_first_digit b bs hex t =
    let l : SizeLine = record { digits = b ∷ t.digits; extension = t.extension } in
    let count : length (print_size_line l) ≡ suc (length t.digits) + length (print_extension t.extension) = length-append (b ∷ t.digits) (print_extension t.extension) in
    let limit : length (print_size_line l) ≤ 4096 = omega (arith, count, t.fits (omega arith)) in
    let some : 0 < length (b ∷ t.digits) = omega arith in
    let ok : IsSizeLine l = record { has_digit = some; hexadecimal = (hex, t.hexadecimal); fits = t.small (omega arith); extension = t.is_extension; within_limit = limit } in
    let input_is : b ∷ bs ≡ print_size_line l ++ (line_end ++ t.after) = ap (λ x. b ∷ x) (t.input_is ∙ sym (append_assoc t.digits (print_extension t.extension) (line_end ++ t.after))) in
    ⊎_elim (λ w. last_only l _ t.after ok input_is w.0 w.1) (λ w. one_more l _ t.after ok input_is w.0 w.1) t.then

back_start : (b : ℕ) (bs : List ℕ) → Left (place_after at.SizeStart b) bs → HasBody (b ∷ bs)
back_start b bs h =
    let same : digit_value b ≡ 0 * 16 + digit_value b = omega arith in
    ⊎_elim
    (λ w. back_first_digit b bs (ltb-true _ 16 w.0) (subst (λ n. DigitsThen n 1 bs) same w.1))
    (λ w. absurd w.1)
    (chosen (Next b bs) _ (at.Size (digit_value b) 1) at.Failed h)

-- one byte back, at each place
back : (p : Position) (b : ℕ) (bs : List ℕ) → stops_at p ≡ Short → Left (place_after p b) bs → Left p (b ∷ bs)
back (at.Plain zero) b bs short h = let g : Whole 0 ≡ Short = short in cc
back (at.Plain (suc n)) b bs short h = omega (arith, h)
back at.SizeStart b bs short h = back_start b bs h
back (at.Size size line) b bs short h = back_size b bs size line h
back (at.Blanks size line) b bs short h = back_blanks b bs size line h
back (at.Extension size line) b bs short h = back_extension b bs size line h
back (at.SizeLineFeed size) b bs short h = back_line_feed b bs size h
back (at.Data n) b bs short h = back_data b bs n h
back at.DataLineFeed b bs short h =
    let t = back_expected b bs 10 at.SizeStart h in
    (bs, ap (λ x. x ∷ bs) t.0, t.1)
back (at.Trailers n) b bs short h = back_trailers b bs n h
back (at.Trailer n) b bs short h = back_trailer b bs n h
back (at.TrailerLineFeed n) b bs short h =
    let t = back_expected b bs 10 (at.Trailers n) h in
    (bs, ap (λ x. x ∷ bs) t.0, t.1)
back at.LastLineFeed b bs short h =
    let t = back_expected b bs 10 (at.Plain 0) h in
    last t.0 bs t.1
  where
    last : b ≡ 10 → (rest : List ℕ) → length rest ≡ 0 → b ∷ rest ≡ 10 ∷ []
    last is [] none = ap (λ x. x ∷ []) is
    last is (c ∷ rest) none = absurd (omega arith)
back at.Failed b bs short h = cc

-- a place where no byte is wanted
at_end : (p : Position) → stops_at p ≡ Whole 0 → Left p []
at_end (at.Plain zero) e = refl
at_end (at.Plain (suc n)) e = let g : Short ≡ Whole 0 = sym (stops_plain n) ∙ e in cc
at_end at.SizeStart e = cc
at_end (at.Size size line) e = cc
at_end (at.Blanks size line) e = cc
at_end (at.Extension size line) e = cc
at_end (at.SizeLineFeed size) e = cc
at_end (at.Data n) e = cc
at_end at.DataLineFeed e = cc
at_end (at.Trailers n) e = cc
at_end (at.Trailer n) e = cc
at_end (at.TrailerLineFeed n) e = cc
at_end at.LastLineFeed e = cc
at_end at.Failed e = cc

whole_behind_one : (n : ℕ) (o : BodyOutcome) → behind 1 o ≡ Whole (suc n) → o ≡ Whole n
whole_behind_one n (Whole k) e =
    let g : 1 + k ≡ suc n = cc in
    let same : k ≡ n = omega arith in
    ap Whole same
whole_behind_one n Short e = cc
whole_behind_one n Broken e = cc

accepts_by : (o : BodyOutcome) (p : Position) (b : ℕ) (bs : List ℕ) → stops_at p ≡ o → (rest_at (place_after p b) bs ≡ Whole (length bs) → Left (place_after p b) bs) → rest_at p (b ∷ bs) ≡ Whole (suc (length bs)) → Left p (b ∷ bs)
accepts_by (Whole n) p b bs e later whole =
    let none : n ≤ 0 = whole_within p [] n (rest_at-nil p ∙ e) in
    let f : Whole n ≡ Whole (suc (length bs)) = sym (ap (λ o. goes_on o (rest_at (place_after p b) bs)) e) ∙ sym (rest_at-cons p b bs) ∙ whole in
    let g : n ≡ suc (length bs) = cc in
    absurd (omega arith)
accepts_by Short p b bs e later whole =
    let f : behind 1 (rest_at (place_after p b) bs) ≡ Whole (suc (length bs)) = sym (ap (λ o. goes_on o (rest_at (place_after p b) bs)) e) ∙ sym (rest_at-cons p b bs) ∙ whole in
    back p b bs e (later (whole_behind_one (length bs) _ f))
accepts_by Broken p b bs e later whole =
    let f : Broken ≡ Whole (suc (length bs)) = sym (ap (λ o. goes_on o (rest_at (place_after p b) bs)) e) ∙ sym (rest_at-cons p b bs) ∙ whole in
    cc

accepts : (input : List ℕ) (p : Position) → rest_at p input ≡ Whole (length input) → Left p input
accepts [] p whole = at_end p (sym (rest_at-nil p) ∙ whole)
accepts (b ∷ bs) p whole = accepts_by (stops_at p) p b bs refl (accepts bs (place_after p b)) whole

-- a chunked body
pub body_from_rest : (input : List ℕ) → rest_at at.SizeStart input ≡ Whole (length input) → HasBody input
body_from_rest input whole = accepts input at.SizeStart whole

-- a body of a known length
pub length_from_rest : (n : ℕ) (input : List ℕ) → rest_at (at.Plain n) input ≡ Whole (length input) → length input ≡ n
length_from_rest n input whole = accepts input (at.Plain n) whole
