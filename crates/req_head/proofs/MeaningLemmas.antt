-- What reading lines answers is what the grammar says.
use Rattle.std.proofs.Common.{◌≡◌, ℕ, ◌-◌, ◌≤◌, Bool, true, false, cond, List, [], ◌∷◌, ◌++◌, length, Option, Some, None, refl, sym, ap, ◌∙◌, subst, arith, append_assoc, append-nil}
use Rattle.std.specs.Prelude.{IsUtf8}
use Rattle.std.specs.List.{flat_map, list_all, AllByRecursion}
use Rattle.std.proofs.lemmas.List.Elements.{All-from_recursion}
use Rattle.httparse.specs.Grammar.{LineEnd, lf, print_end, print_blank, Field, IsField, print_field, RequestHead, IsRequestHead, print_request, ReadsRequest, HasNoRequest, NeverHasRequest, is_token_byte, is_uri_byte}
use Rattle.req_head.specs.Lines.{Line, print_line, is_empty, lines, whole_lines, after_empty}
use Rattle.req_head.specs.Reading.{Reading, Whole, Wrong, Short, RequestLine, request_line, field_line, Section, with_field, if_field, read_section, with_line, if_line, with_blank, read_request}
use Rattle.req_head.proofs.LineLemmas.{lines-front, lines-append, lines-whole_lines, whole_lines-is}
use Rattle.req_head.proofs.PartLemmas.{all_pass, IsLine, line_text, LineIs, request_line-is, field_text, FieldIs, field_line-is}
use Rattle.req_head.proofs.HeadLemmas.{read_section-nil, read_section-cons, read_request-nil, read_request-cons, Stays, request-stays, line_of, head_with, print_request-is, request-found}
use Rattle.req_head.proofs.LongLemmas.{after_empty-cons}

-- ---- sections

abbrev SectionIs : List Line → Reading Section → Type 0
SectionIs ls (Whole s) = AllByRecursion IsField s.0 × ((more : List Line) × (flat_map print_line ls ≡ flat_map print_field s.0 ++ (print_end s.1 ++ flat_map print_line more)))
SectionIs ls Wrong = Unit {0}
SectionIs ls Short = (fs : List Field) × AllByRecursion IsField fs × (flat_map print_line ls ≡ flat_map print_field fs) × (length fs ≤ length ls)

-- a line that is a field's has its bytes
field_printed : (l : Line) (f : Field) → l.text ≡ field_text f → l.end ≡ f.end → print_line l ≡ print_field f
field_printed l f t e = ap (λ z. z ++ print_end l.end) t ∙ ap (λ z. field_text f ++ print_end z) e

more_fields : (l : Line) (ls : List Line) (f : Field) (r : Reading Section) → FieldIs l (Some f) → SectionIs ls r → SectionIs (l ∷ ls) (with_field f r)
more_fields l ls f (Whole s) is h =
    ((is.0, h.0), (h.1.0, ap (λ z. z ++ flat_map print_line ls) (field_printed l f is.1 is.2) ∙ ap (λ z. print_field f ++ z) h.1.1 ∙ sym (append_assoc (print_field f) (flat_map print_field s.0) (print_end s.1 ++ flat_map print_line h.1.0))))
more_fields l ls f Wrong is h = tt
more_fields l ls f Short is h = (f ∷ h.0, (is.0, h.1), ap (λ z. z ++ flat_map print_line ls) (field_printed l f is.1 is.2) ∙ ap (λ z. print_field f ++ z) h.2, omega (arith, h.3))

maybe_field : (l : Line) (ls : List Line) (o : Option Field) (r : Reading Section) → FieldIs l o → SectionIs ls r → SectionIs (l ∷ ls) (if_field o r)
maybe_field l ls None r is h = tt
maybe_field l ls (Some f) r is h = more_fields l ls f r is h

-- an empty line has the bytes of its end
empty_printed : (l : Line) → is_empty l.text ≡ true → print_line l ≡ print_end l.end
empty_printed l e = empty_at l.text l.end e
  where
    empty_at : (text : List ℕ) (end : LineEnd) → is_empty text ≡ true → text ++ print_end end ≡ print_end end
    empty_at [] end e = refl
    empty_at (b ∷ text) end e = cc

section_step : (t : Bool) (l : Line) (ls : List Line) (r : Reading Section) → is_empty l.text ≡ t → SectionIs ls r
    → SectionIs (l ∷ ls) (cond t (Whole ([], l.end)) (if_field (field_line l) r))
section_step true l ls r e h = (tt, (ls, ap (λ z. z ++ flat_map print_line ls) (empty_printed l e)))
section_step false l ls r e h = maybe_field l ls (field_line l) r (field_line-is l) h

section-is : (ls : List Line) → SectionIs ls (read_section ls)
section-is [] = subst (SectionIs []) (sym read_section-nil) ([], tt, refl, omega arith)
section-is (l ∷ ls) =
    subst (SectionIs (l ∷ ls)) (sym (read_section-cons l ls)) (section_step (is_empty l.text) l ls (read_section ls) refl (section-is ls))

-- ---- heads

abbrev RequestIs : List Line → Reading RequestHead → Type 0
RequestIs ls (Whole h) = IsRequestHead h × ((more : List Line) × (flat_map print_line ls ≡ print_request h ++ flat_map print_line more))
RequestIs ls Wrong = Unit {0}
RequestIs ls Short =
    (more : List ℕ) × (h : RequestHead) × IsRequestHead h × (flat_map print_line ls ++ more ≡ print_request h) × (length h.fields ≤ length (after_empty ls) - 1)

head_from : (line : RequestLine) (end : LineEnd) (s : Section) → IsLine line → AllByRecursion IsField s.0 → IsRequestHead (head_with [] line end s)
head_from line end s is all = record { method = is.method; target = is.target; target_text = is.target_text; minor = is.minor; fields = All-from_recursion IsField s.0 all }

-- the bytes of a line and of what comes after it
line_printed : (l : Line) (ls : List Line) (line : RequestLine) (tail : List ℕ) → l.text ≡ line_text line → flat_map print_line ls ≡ tail
    → flat_map print_line (l ∷ ls) ≡ line_text line ++ (print_end l.end ++ tail)
line_printed l ls line tail t e =
    ap (λ z. (z ++ print_end l.end) ++ flat_map print_line ls) t ∙ ap (λ z. (line_text line ++ print_end l.end) ++ z) e ∙ append_assoc (line_text line) (print_end l.end) tail

with_section : (l : Line) (ls : List Line) (line : RequestLine) (r : Reading Section) → is_empty l.text ≡ false → LineIs l.text (Some line) → SectionIs ls r → RequestIs (l ∷ ls) (with_line line l.end r)
with_section l ls line (Whole s) some is h =
    let head = head_with [] line l.end s in
    let rest = flat_map print_line h.1.0 in
    (head_from line l.end s is.0 h.0, (h.1.0, line_printed l ls line (flat_map print_field s.0 ++ (print_end s.1 ++ rest)) is.1 h.1.1 ∙ sym (print_request-is head rest)))
with_section l ls line Wrong some is h = tt
with_section l ls line Short some is h =
    let fs = h.0 in
    let head = head_with [] line l.end (fs, lf) in
    let end : List ℕ = print_end lf in
    let e : flat_map print_line (l ∷ ls) ++ end ≡ print_request head ++ [] =
    ap (λ z. z ++ end) (line_printed l ls line (flat_map print_field fs) is.1 h.2)
    ∙ append_assoc (line_text line) (print_end l.end ++ flat_map print_field fs) end
    ∙ ap (λ z. line_text line ++ z) (append_assoc (print_end l.end) (flat_map print_field fs) end)
    ∙ sym (print_request-is head []) in
    let left : length (after_empty (l ∷ ls)) ≡ length (l ∷ ls) = ap length (after_empty-cons l ls ∙ ap (λ t. cond t (after_empty ls) (l ∷ ls)) some) in
    (end, head, head_from line l.end (fs, lf) is.0 h.1, e ∙ append-nil (print_request head), omega (arith, h.3, left))

maybe_line : (l : Line) (ls : List Line) (o : Option RequestLine) (r : Reading Section) → is_empty l.text ≡ false → LineIs l.text o → SectionIs ls r → RequestIs (l ∷ ls) (if_line o l.end r)
maybe_line l ls None r some is h = tt
maybe_line l ls (Some line) r some is h = with_section l ls line r some is h

-- a head with one more empty line before it
abbrev before_head : LineEnd → RequestHead → RequestHead
before_head end h = record h { blank = end ∷ h.blank }

before_head-printed : (end : LineEnd) (h : RequestHead) (rest : List ℕ) → print_request (before_head end h) ++ rest ≡ print_end end ++ (print_request h ++ rest)
before_head-printed end h rest =
    print_request-is (before_head end h) rest
    ∙ append_assoc (print_end end) (print_blank h.blank) (line_text (line_of h) ++ (print_end h.line_end ++ (flat_map print_field h.fields ++ (print_end h.last ++ rest))))
    ∙ ap (λ z. print_end end ++ z) (sym (print_request-is h rest))

before_head-is : (end : LineEnd) (h : RequestHead) → IsRequestHead h → IsRequestHead (before_head end h)
before_head-is end h is = record { method = is.method; target = is.target; target_text = is.target_text; minor = is.minor; fields = is.fields }

blank_step : (l : Line) (ls : List Line) (r : Reading RequestHead) → is_empty l.text ≡ true → RequestIs ls r → RequestIs (l ∷ ls) (with_blank l.end r)
blank_step l ls (Whole h) e is =
    (before_head-is l.end h is.0, (is.1.0, ap (λ z. z ++ flat_map print_line ls) (empty_printed l e) ∙ ap (λ z. print_end l.end ++ z) is.1.1 ∙ sym (before_head-printed l.end h (flat_map print_line is.1.0))))
blank_step l ls Wrong e is = tt
blank_step l ls Short e is =
    let more = is.0 in
    let h = is.1 in
    let q : flat_map print_line (l ∷ ls) ++ more ≡ print_request (before_head l.end h) ++ [] =
    ap (λ z. (z ++ flat_map print_line ls) ++ more) (empty_printed l e)
    ∙ append_assoc (print_end l.end) (flat_map print_line ls) more
    ∙ ap (λ z. print_end l.end ++ z) (is.3 ∙ sym (append-nil (print_request h)))
    ∙ sym (before_head-printed l.end h []) in
    let left : after_empty (l ∷ ls) ≡ after_empty ls = after_empty-cons l ls ∙ ap (λ t. cond t (after_empty ls) (l ∷ ls)) e in
    (more, before_head l.end h, before_head-is l.end h is.2, q ∙ append-nil (print_request (before_head l.end h)), omega (arith, is.4, ap length left))

request_step : (t : Bool) (l : Line) (ls : List Line) (p : Reading RequestHead) (r : Reading Section) → is_empty l.text ≡ t → RequestIs ls p → SectionIs ls r
    → RequestIs (l ∷ ls) (cond t (with_blank l.end p) (if_line (request_line l.text) l.end r))
request_step true l ls p r e x y = blank_step l ls p e x
request_step false l ls p r e x y = maybe_line l ls (request_line l.text) r e (request_line-is l.text) y

-- a shortest head
letter : list_all is_token_byte (65 ∷ []) ≡ true
unfolding is_token_byte
letter = refl

slash_text : IsUtf8 (47 ∷ [])
unfolding lib.Utf8.encode
slash_text = (47 ∷ [], (refl, refl))

abbrev shortest : RequestHead
shortest = record { blank = []; method = 65 ∷ []; target = 47 ∷ []; minor = 0; line_end = lf; fields = []; last = lf }

shortest-is : IsRequestHead shortest
shortest-is = record {
  method = (omega arith, all_pass is_token_byte (65 ∷ []) letter);
  target = (omega arith, all_pass is_uri_byte (47 ∷ []) refl);
  target_text = slash_text;
  minor = omega arith;
  fields = All-from_recursion IsField [] tt;
}

request-is : (ls : List Line) → RequestIs ls (read_request ls)
request-is [] = subst (RequestIs []) (sym read_request-nil) (print_request shortest, shortest, shortest-is, refl, omega arith)
request-is (l ∷ ls) =
    subst (RequestIs (l ∷ ls)) (sym (read_request-cons l ls))
    (request_step (is_empty l.text) l ls (read_request ls) (read_section ls) refl (request-is ls) (section-is ls))

-- ---- what bytes mean

-- a head is a prefix of the bytes; or no bytes can follow those up to the last LF that make a prefix a head; or some can, and
-- no prefix is a head yet
abbrev pub Means : List ℕ → Reading RequestHead → Type 0
Means bytes (Whole h) = (rest : List ℕ) × ReadsRequest bytes h rest
Means bytes Wrong = HasNoRequest bytes × NeverHasRequest (whole_lines bytes)
Means bytes Short = HasNoRequest bytes × ((more : List ℕ) × (h : RequestHead) × ReadsRequest (whole_lines bytes ++ more) h [] × (length h.fields ≤ length (after_empty (lines bytes)) - 1))

no_head : (bytes : List ℕ) (r : Reading RequestHead) → read_request (lines bytes) ≡ r → ((h : RequestHead) → r ≡ Whole h → ⊥) → HasNoRequest bytes
no_head bytes r e other h rest reads = other h (sym e ∙ request-found bytes h rest reads)

wrong_stays : (bytes more : List ℕ) → read_request (lines bytes) ≡ Wrong → read_request (lines (whole_lines bytes ++ more)) ≡ Wrong
wrong_stays bytes more e =
    let f = lines-append (whole_lines bytes) more in
    let same : lines (whole_lines bytes ++ more) ≡ lines bytes ++ f.0 = f.1 ∙ ap (λ z. z ++ f.0) (lines-whole_lines bytes) in
    ap read_request same ∙ subst (λ z. Stays z (read_request (lines bytes ++ f.0))) e (request-stays (lines bytes) f.0)

never_head : (bytes : List ℕ) → read_request (lines bytes) ≡ Wrong → NeverHasRequest (whole_lines bytes)
never_head bytes e more = no_head (whole_lines bytes ++ more) Wrong (wrong_stays bytes more e) (λ h q. cc)

meaning_at : (r : Reading RequestHead) (bytes : List ℕ) → read_request (lines bytes) ≡ r → RequestIs (lines bytes) r → Means bytes r
meaning_at (Whole h) bytes e is =
    let f = lines-front bytes in
    let rest = flat_map print_line is.1.0 in
    (rest ++ f.0, (is.0, f.1 ∙ ap (λ z. z ++ f.0) is.1.1 ∙ append_assoc (print_request h) rest f.0))
meaning_at Wrong bytes e is = (no_head bytes Wrong e (λ h q. cc), never_head bytes e)
meaning_at Short bytes e is =
    let more = is.0 in
    let h = is.1 in
    (no_head bytes Short e (λ h q. cc), (more, h, (is.2, ap (λ z. z ++ more) (whole_lines-is bytes) ∙ is.3 ∙ sym (append-nil (print_request h))), is.4))

pub meaning : (bytes : List ℕ) → Means bytes (read_request (lines bytes))
meaning bytes = meaning_at (read_request (lines bytes)) bytes refl (request-is (lines bytes))
