-- Beginnings of heads that have more fields than a head may have.
use Rattle.std.proofs.Common.{◌≡◌, ℕ, suc, ◌+◌, ◌<◌, ◌≤◌, Bool, true, false, not, ◌||◌, cond, eqb, List, [], ◌∷◌, ◌++◌, length, Option, Some, None, refl, sym, ap, ◌∙◌, subst, arith, length-append}
use Rattle.std.specs.List.{list_any}
use Rattle.httparse.specs.Grammar.{LineEnd, lf, Field, RequestHead}
use Rattle.httparse.specs.Spans.{RequestExceeds, RequestOverflows}
use Rattle.req_head.specs.Lines.{Line, is_empty, with_first_byte, lines, whole_lines, after_empty}
use Rattle.req_head.specs.Reading.{Reading, Whole, Wrong, Short, RequestLine, request_line, field_line, Section, if_field, read_section, if_line, with_blank, read_request}
use Rattle.req_head.proofs.LineLemmas.{lines-nil, lines-cons, lines-append, lines-whole_lines}
use Rattle.req_head.proofs.HeadLemmas.{read_section-nil, read_section-cons, read_request-nil, read_request-cons, request-found}

-- ---- the lines after the empty ones

after_empty-nil : after_empty [] ≡ []
unfolding after_empty
after_empty-nil = refl

pub after_empty-cons : (l : Line) (ls : List Line) → after_empty (l ∷ ls) ≡ cond (is_empty l.text) (after_empty ls) (l ∷ ls)
unfolding after_empty
after_empty-cons l ls = refl

more_left_at : (t : Bool) (l : Line) (ls more : List Line) → length (after_empty ls) ≤ length (after_empty (ls ++ more))
    → length (cond t (after_empty ls) (l ∷ ls)) ≤ length (cond t (after_empty (ls ++ more)) (l ∷ (ls ++ more)))
more_left_at true l ls more h = h
more_left_at false l ls more h = omega (arith, length-append ls more)

pub more_left : (ls more : List Line) → length (after_empty ls) ≤ length (after_empty (ls ++ more))
more_left [] more = omega (arith, ap length after_empty-nil)
more_left (l ∷ ls) more =
    let at = more_left_at (is_empty l.text) l ls more (more_left ls more) in
    omega (arith, at, ap length (after_empty-cons l ls), ap length (after_empty-cons l (ls ++ more)))

left_fits_at : (t : Bool) (l : Line) (ls : List Line) → length (after_empty ls) ≤ length ls → length (cond t (after_empty ls) (l ∷ ls)) ≤ suc (length ls)
left_fits_at true l ls h = omega (arith, h)
left_fits_at false l ls h = omega arith

left_fits : (ls : List Line) → length (after_empty ls) ≤ length ls
left_fits [] = omega (arith, ap length after_empty-nil)
left_fits (l ∷ ls) = omega (arith, ap length (after_empty-cons l ls), left_fits_at (is_empty l.text) l ls (left_fits ls))

few_more_at : (t : Bool) (l : Line) (ls more : List Line) → length (after_empty (ls ++ more)) ≤ length (after_empty ls) + length more
    → length (cond t (after_empty (ls ++ more)) (l ∷ (ls ++ more))) ≤ length (cond t (after_empty ls) (l ∷ ls)) + length more
few_more_at true l ls more h = h
few_more_at false l ls more h = omega (arith, length-append ls more)

few_more : (ls more : List Line) → length (after_empty (ls ++ more)) ≤ length (after_empty ls) + length more
few_more [] more = omega (arith, left_fits more, ap length after_empty-nil)
few_more (l ∷ ls) more =
    let at = few_more_at (is_empty l.text) l ls more (few_more ls more) in
    omega (arith, at, ap length (after_empty-cons l ls), ap length (after_empty-cons l (ls ++ more)))

some_left_at : (t : Bool) (l : Line) (ls : List Line) → (0 < length (after_empty ls) → list_any (λ k. not (is_empty k.text)) ls ≡ true) → 0 < length (cond t (after_empty ls) (l ∷ ls))
    → (not t || list_any (λ k. not (is_empty k.text)) ls) ≡ true
some_left_at true l ls rest h = rest h
some_left_at false l ls rest h = refl

-- then some line isn't empty
pub some_left : (ls : List Line) → 0 < length (after_empty ls) → list_any (λ k. not (is_empty k.text)) ls ≡ true
some_left [] h = absurd (omega (arith, h, ap length after_empty-nil))
some_left (l ∷ ls) h = some_left_at (is_empty l.text) l ls (some_left ls) (omega (arith, h, ap length (after_empty-cons l ls)))

-- ---- how many lines bytes have

line_more : (t : Bool) (b : ℕ) (ls : List Line) → length (cond t (record { text = []; end = lf } ∷ ls) (with_first_byte b ls)) ≡ cond t 1 0 + length ls
line_more true b ls = omega arith
line_more false b [] = refl
line_more false b (l ∷ ls) = omega arith

pub length-lines-cons : (b : ℕ) (bytes : List ℕ) → length (lines (b ∷ bytes)) ≡ cond (eqb b 10) 1 0 + length (lines bytes)
length-lines-cons b bytes = ap length (lines-cons b bytes) ∙ line_more (eqb b 10) b (lines bytes)

length-lines-end : (xs : List ℕ) → length (lines (xs ++ 10 ∷ [])) ≡ length (lines xs) + 1
length-lines-end [] = omega (arith, length-lines-cons 10 [], ap length lines-nil)
length-lines-end (x ∷ xs) = omega (arith, length-lines-cons x (xs ++ 10 ∷ []), length-lines-cons x xs, length-lines-end xs)

-- ---- a whole head has a line for each field, and two more

abbrev SectionCounts : ℕ → Reading Section → Type 0
SectionCounts n (Whole s) = length s.0 + 1 ≤ n
SectionCounts n Wrong = Unit {0}
SectionCounts n Short = Unit {0}

counts_field : (o : Option Field) (n : ℕ) (r : Reading Section) → SectionCounts n r → SectionCounts (suc n) (if_field o r)
counts_field None n r h = tt
counts_field (Some f) n (Whole s) h = omega (arith, h)
counts_field (Some f) n Wrong h = tt
counts_field (Some f) n Short h = tt

section_counts_at : (t : Bool) (l : Line) (n : ℕ) (r : Reading Section) → SectionCounts n r → SectionCounts (suc n) (cond t (Whole ([], l.end)) (if_field (field_line l) r))
section_counts_at true l n r h = omega arith
section_counts_at false l n r h = counts_field (field_line l) n r h

section_counts : (ls : List Line) → SectionCounts (length ls) (read_section ls)
section_counts [] = subst (SectionCounts 0) (sym read_section-nil) tt
section_counts (l ∷ ls) =
    subst (SectionCounts (suc (length ls))) (sym (read_section-cons l ls)) (section_counts_at (is_empty l.text) l (length ls) (read_section ls) (section_counts ls))

abbrev RequestCounts : ℕ → Reading RequestHead → Type 0
RequestCounts n (Whole h) = length h.fields + 2 ≤ n
RequestCounts n Wrong = Unit {0}
RequestCounts n Short = Unit {0}

counts_blank : (end : LineEnd) (n : ℕ) (r : Reading RequestHead) → RequestCounts n r → RequestCounts n (with_blank end r)
counts_blank end n (Whole h) c = c
counts_blank end n Wrong c = tt
counts_blank end n Short c = tt

counts_line : (o : Option RequestLine) (end : LineEnd) (n : ℕ) (r : Reading Section) → SectionCounts n r → RequestCounts (suc n) (if_line o end r)
counts_line None end n r c = tt
counts_line (Some line) end n (Whole s) c = omega (arith, c)
counts_line (Some line) end n Wrong c = tt
counts_line (Some line) end n Short c = tt

request_counts_at : (t : Bool) (l : Line) (ls : List Line) → RequestCounts (length (after_empty ls)) (read_request ls)
    → RequestCounts (length (cond t (after_empty ls) (l ∷ ls))) (cond t (with_blank l.end (read_request ls)) (if_line (request_line l.text) l.end (read_section ls)))
request_counts_at true l ls c = counts_blank l.end (length (after_empty ls)) (read_request ls) c
request_counts_at false l ls c = counts_line (request_line l.text) l.end (length ls) (read_section ls) (section_counts ls)

request_counts : (ls : List Line) → RequestCounts (length (after_empty ls)) (read_request ls)
request_counts [] = subst (RequestCounts (length (after_empty []))) (sym read_request-nil) tt
request_counts (l ∷ ls) =
    subst (λ z. RequestCounts (length z) (read_request (l ∷ ls))) (sym (after_empty-cons l ls))
    (subst (RequestCounts (length (cond (is_empty l.text) (after_empty ls) (l ∷ ls)))) (sym (read_request-cons l ls)) (request_counts_at (is_empty l.text) l ls (request_counts ls)))

-- ---- a head that came to its end later has a field for each line before, but one

abbrev SectionGrows : ℕ → Reading Section → Reading Section → Type 0
SectionGrows n (Whole a) s = Unit {0}
SectionGrows n Wrong s = Unit {0}
SectionGrows n Short (Whole s) = n ≤ length s.0
SectionGrows n Short Wrong = Unit {0}
SectionGrows n Short Short = Unit {0}

grows_field : (o : Option Field) (n : ℕ) (r s : Reading Section) → SectionGrows n r s → SectionGrows (suc n) (if_field o r) (if_field o s)
grows_field None n r s h = tt
grows_field (Some f) n (Whole a) s h = tt
grows_field (Some f) n Wrong s h = tt
grows_field (Some f) n Short (Whole s) h = omega (arith, h)
grows_field (Some f) n Short Wrong h = tt
grows_field (Some f) n Short Short h = tt

section_grows_at : (t : Bool) (end : LineEnd) (o : Option Field) (n : ℕ) (r s : Reading Section) → SectionGrows n r s
    → SectionGrows (suc n) (cond t (Whole ([], end)) (if_field o r)) (cond t (Whole ([], end)) (if_field o s))
section_grows_at true end o n r s h = tt
section_grows_at false end o n r s h = grows_field o n r s h

none_grown : (s : Reading Section) → SectionGrows 0 Short s
none_grown (Whole s) = omega arith
none_grown Wrong = tt
none_grown Short = tt

section_grows_along : (n : ℕ) (r q s t : Reading Section) → r ≡ q → s ≡ t → SectionGrows n q t → SectionGrows n r s
section_grows_along n r q s t e f h = subst (λ z. SectionGrows n z s) (sym e) (subst (λ z. SectionGrows n q z) (sym f) h)

section_grows : (ls more : List Line) → SectionGrows (length ls) (read_section ls) (read_section (ls ++ more))
section_grows [] more = subst (λ z. SectionGrows 0 z (read_section more)) (sym read_section-nil) (none_grown (read_section more))
section_grows (l ∷ ls) more =
    section_grows_along (suc (length ls)) (read_section (l ∷ ls)) _ (read_section (l ∷ (ls ++ more))) _ (read_section-cons l ls) (read_section-cons l (ls ++ more))
    (section_grows_at (is_empty l.text) l.end (field_line l) (length ls) (read_section ls) (read_section (ls ++ more)) (section_grows ls more))

abbrev pub RequestGrows : ℕ → Reading RequestHead → Reading RequestHead → Type 0
RequestGrows n (Whole a) s = Unit {0}
RequestGrows n Wrong s = Unit {0}
RequestGrows n Short (Whole h) = n ≤ length h.fields + 1
RequestGrows n Short Wrong = Unit {0}
RequestGrows n Short Short = Unit {0}

grows_blank : (end : LineEnd) (n : ℕ) (r s : Reading RequestHead) → RequestGrows n r s → RequestGrows n (with_blank end r) (with_blank end s)
grows_blank end n (Whole a) s h = tt
grows_blank end n Wrong s h = tt
grows_blank end n Short (Whole s) h = h
grows_blank end n Short Wrong h = tt
grows_blank end n Short Short h = tt

grows_line : (o : Option RequestLine) (end : LineEnd) (n : ℕ) (r s : Reading Section) → SectionGrows n r s → RequestGrows (suc n) (if_line o end r) (if_line o end s)
grows_line None end n r s h = tt
grows_line (Some line) end n (Whole a) s h = tt
grows_line (Some line) end n Wrong s h = tt
grows_line (Some line) end n Short (Whole s) h = omega (arith, h)
grows_line (Some line) end n Short Wrong h = tt
grows_line (Some line) end n Short Short h = tt

request_grows_at : (t : Bool) (l : Line) (ls more : List Line) → RequestGrows (length (after_empty ls)) (read_request ls) (read_request (ls ++ more))
    → RequestGrows (length (cond t (after_empty ls) (l ∷ ls))) (cond t (with_blank l.end (read_request ls)) (if_line (request_line l.text) l.end (read_section ls)))
    (cond t (with_blank l.end (read_request (ls ++ more))) (if_line (request_line l.text) l.end (read_section (ls ++ more))))
request_grows_at true l ls more h = grows_blank l.end (length (after_empty ls)) (read_request ls) (read_request (ls ++ more)) h
request_grows_at false l ls more h = grows_line (request_line l.text) l.end (length ls) (read_section ls) (read_section (ls ++ more)) (section_grows ls more)

no_request_grown : (n : ℕ) (s : Reading RequestHead) → n ≡ 0 → RequestGrows n Short s
no_request_grown n (Whole s) e = omega (arith, e)
no_request_grown n Wrong e = tt
no_request_grown n Short e = tt

pub request_grows : (ls more : List Line) → RequestGrows (length (after_empty ls)) (read_request ls) (read_request (ls ++ more))
request_grows [] more =
    subst (λ z. RequestGrows (length (after_empty [])) z (read_request more)) (sym read_request-nil) (no_request_grown (length (after_empty [])) (read_request more) (ap length after_empty-nil))
request_grows (l ∷ ls) more =
    subst (λ z. RequestGrows (length z) (read_request (l ∷ ls)) (read_request (l ∷ (ls ++ more)))) (sym (after_empty-cons l ls))
    (subst (λ z. RequestGrows (length (cond (is_empty l.text) (after_empty ls) (l ∷ ls))) z (read_request (l ∷ (ls ++ more)))) (sym (read_request-cons l ls))
    (subst (λ z. RequestGrows (length (cond (is_empty l.text) (after_empty ls) (l ∷ ls))) (cond (is_empty l.text) (with_blank l.end (read_request ls)) (if_line (request_line l.text) l.end (read_section ls))) z)
    (sym (read_request-cons l (ls ++ more))) (request_grows_at (is_empty l.text) l ls more (request_grows ls more))))

-- ---- too many fields

-- each head that begins with such lines has more than 64 fields
pub overflows : (bytes : List ℕ) → read_request (lines bytes) ≡ Short → 65 < length (after_empty (lines bytes)) → RequestOverflows 64 (whole_lines bytes)
overflows bytes e many more h rest reads =
    let f = lines-append (whole_lines bytes) more in
    let same : lines (whole_lines bytes ++ more) ≡ lines bytes ++ f.0 = f.1 ∙ ap (λ z. z ++ f.0) (lines-whole_lines bytes) in
    let found : read_request (lines bytes ++ f.0) ≡ Whole h = ap read_request (sym same) ∙ request-found (whole_lines bytes ++ more) h rest reads in
    let n = length (after_empty (lines bytes)) in
    let grows : RequestGrows n Short (Whole h) = subst (λ z. RequestGrows n Short z) found (subst (λ z. RequestGrows n z (read_request (lines bytes ++ f.0))) e (request_grows (lines bytes) f.0)) in
    omega (arith, grows, many)

-- where the parser found a field too many there are that many lines
pub exceeds_many : (text : List ℕ) → RequestExceeds 64 text → 65 < length (after_empty (lines text))
exceeds_many text over =
    let front = over.0 in
    let rest = over.1 in
    let h = over.3 in
    let found : read_request (lines (front ++ 10 ∷ [])) ≡ Whole h = request-found (front ++ 10 ∷ []) h [] over.4 in
    let all = lines (front ++ 10 ∷ []) in
    let counts : RequestCounts (length (after_empty all)) (Whole h) = subst (RequestCounts (length (after_empty all))) found (request_counts all) in
    let one = lines-append front (10 ∷ []) in
    let last : length all ≡ length (lines front) + length one.0 = ap length one.1 ∙ length-append (lines front) one.0 in
    let most : length (after_empty all) ≤ length (after_empty (lines front)) + length one.0 = subst (λ z. length (after_empty z) ≤ length (after_empty (lines front)) + length one.0) (sym one.1) (few_more (lines front) one.0) in
    let more = lines-append front rest in
    let least : length (after_empty (lines front)) ≤ length (after_empty (lines text)) =
    subst (λ z. length (after_empty (lines front)) ≤ length (after_empty z)) (sym (ap lines over.2 ∙ more.1)) (more_left (lines front) more.0) in
    omega (arith, counts, last, most, least, length-lines-end front, over.5)
