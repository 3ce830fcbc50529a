-- Reading lines: it finds each head of the grammar, finds nothing else, and what it found stays.
use Rattle.std.proofs.Common.{◌≡◌, ℕ, zero, suc, ◌≤◌, Bool, true, false, cond, List, [], ◌∷◌, ◌++◌, Option, Some, None, refl, sym, ap, ◌∙◌, subst, arith, append_assoc}
use Rattle.std.specs.List.{flat_map, list_all, AllByRecursion}
use Rattle.std.proofs.lemmas.List.Elements.{recursion_from_All}
use Rattle.httparse.specs.Grammar.{LineEnd, print_end, print_blank, print_version, Field, IsField, print_field, RequestHead, IsRequestHead, print_request, ReadsRequest, is_token_byte, is_uri_byte, is_value_byte}
use Rattle.httparse.proofs.GrammarLemmas.{cons-append}
use Rattle.req_head.specs.Lines.{Line, is_empty, lines}
use Rattle.req_head.specs.Reading.{Reading, Whole, Wrong, Short, RequestLine, request_line, field_line, Section, with_field, if_field, read_section, with_line, if_line, with_blank, read_request}
use Rattle.req_head.proofs.LineLemmas.{is_inner, lines-line}
use Rattle.req_head.proofs.PartLemmas.{passes, token_inner, target_inner, value_inner, both_inner, IsLine, line_text, request_line-found, field_text, field_line-found}

-- ---- one line more

pub read_section-nil : read_section [] ≡ Short
unfolding read_section
read_section-nil = refl

pub read_section-cons : (l : Line) (ls : List Line) → read_section (l ∷ ls) ≡ cond (is_empty l.text) (Whole ([], l.end)) (if_field (field_line l) (read_section ls))
unfolding read_section
read_section-cons l ls = refl

pub read_request-nil : read_request [] ≡ Short
unfolding read_request
read_request-nil = refl

pub read_request-cons : (l : Line) (ls : List Line) → read_request (l ∷ ls) ≡ cond (is_empty l.text) (with_blank l.end (read_request ls)) (if_line (request_line l.text) l.end (read_section ls))
unfolding read_request
read_request-cons l ls = refl

-- ---- what is found stays

-- what more lines leave as it is
abbrev pub Stays : {A : Type 0} → Reading A → Reading A → Type 0
Stays (Whole a) r = r ≡ Whole a
Stays Wrong r = r ≡ Wrong
Stays Short r = Unit {0}

with_field-stays : (f : Field) (r s : Reading Section) → Stays r s → Stays (with_field f r) (with_field f s)
with_field-stays f (Whole a) s h = ap (with_field f) h
with_field-stays f Wrong s h = ap (with_field f) h
with_field-stays f Short s h = tt

if_field-stays : (o : Option Field) (r s : Reading Section) → Stays r s → Stays (if_field o r) (if_field o s)
if_field-stays None r s h = refl
if_field-stays (Some f) r s h = with_field-stays f r s h

section_at : (t : Bool) (end : LineEnd) (o : Option Field) (r s : Reading Section) → Stays r s
    → Stays (cond t (Whole ([], end)) (if_field o r)) (cond t (Whole ([], end)) (if_field o s))
section_at true end o r s h = refl
section_at false end o r s h = if_field-stays o r s h

stays_along : {A : Type 0} (r q s t : Reading A) → r ≡ q → s ≡ t → Stays q t → Stays r s
stays_along r q s t e f h = subst (λ z. Stays z s) (sym e) (subst (λ z. Stays q z) (sym f) h)

pub section-stays : (ls more : List Line) → Stays (read_section ls) (read_section (ls ++ more))
section-stays [] more = subst (λ z. Stays z (read_section more)) (sym read_section-nil) tt
section-stays (l ∷ ls) more =
    stays_along _ _ _ _ (read_section-cons l ls) (read_section-cons l (ls ++ more))
    (section_at (is_empty l.text) l.end (field_line l) (read_section ls) (read_section (ls ++ more)) (section-stays ls more))

with_line-stays : (line : RequestLine) (end : LineEnd) (r s : Reading Section) → Stays r s → Stays (with_line line end r) (with_line line end s)
with_line-stays line end (Whole a) s h = ap (with_line line end) h
with_line-stays line end Wrong s h = ap (with_line line end) h
with_line-stays line end Short s h = tt

if_line-stays : (o : Option RequestLine) (end : LineEnd) (r s : Reading Section) → Stays r s → Stays (if_line o end r) (if_line o end s)
if_line-stays None end r s h = refl
if_line-stays (Some line) end r s h = with_line-stays line end r s h

with_blank-stays : (end : LineEnd) (r s : Reading RequestHead) → Stays r s → Stays (with_blank end r) (with_blank end s)
with_blank-stays end (Whole h) s e = ap (with_blank end) e
with_blank-stays end Wrong s e = ap (with_blank end) e
with_blank-stays end Short s e = tt

request_at : (t : Bool) (end : LineEnd) (o : Option RequestLine) (p q : Reading RequestHead) (r s : Reading Section) → Stays p q → Stays r s
    → Stays (cond t (with_blank end p) (if_line o end r)) (cond t (with_blank end q) (if_line o end s))
request_at true end o p q r s x y = with_blank-stays end p q x
request_at false end o p q r s x y = if_line-stays o end r s y

pub request-stays : (ls more : List Line) → Stays (read_request ls) (read_request (ls ++ more))
request-stays [] more = subst (λ z. Stays z (read_request more)) (sym read_request-nil) tt
request-stays (l ∷ ls) more =
    stays_along _ _ _ _ (read_request-cons l ls) (read_request-cons l (ls ++ more))
    (request_at (is_empty l.text) l.end (request_line l.text) (read_request ls) (read_request (ls ++ more)) (read_section ls) (read_section (ls ++ more)) (request-stays ls more) (section-stays ls more))

-- ---- each section is found

-- a line that is read and not empty
not_empty_field : (f : Field) → IsField f → is_empty (field_text f) ≡ false
not_empty_field f is = some f.name f.raw
  where
    some : (name raw : List ℕ) → is_empty (name ++ 58 ∷ raw) ≡ false
    some [] raw = refl
    some (b ∷ name) raw = refl

field_inner : (f : Field) → IsField f → list_all is_inner (field_text f) ≡ true
field_inner f is =
    both_inner f.name (58 ∷ f.raw) (token_inner f.name (passes is_token_byte f.name is.name.1)) (value_inner f.raw (passes is_value_byte f.raw is.raw))

pub section-found : (fs : List Field) (last : LineEnd) (rest : List ℕ) → AllByRecursion IsField fs
    → read_section (lines (flat_map print_field fs ++ (print_end last ++ rest))) ≡ Whole (fs, last)
section-found [] last rest all = ap read_section (lines-line [] last rest refl) ∙ read_section-cons (record { text = []; end = last }) (lines rest)
section-found (f ∷ fs) last rest all =
    let behind = flat_map print_field fs ++ (print_end last ++ rest) in
    let l : Line = record { text = field_text f; end = f.end } in
    let group : (print_field f ++ flat_map print_field fs) ++ (print_end last ++ rest) ≡ field_text f ++ (print_end f.end ++ behind) =
    append_assoc (print_field f) (flat_map print_field fs) (print_end last ++ rest) ∙ append_assoc (field_text f) (print_end f.end) behind in
    ap (λ z. read_section (lines z)) group
    ∙ ap read_section (lines-line (field_text f) f.end behind (field_inner f all.0))
    ∙ read_section-cons l (lines behind)
    ∙ ap (λ t. cond t (Whole ([], f.end)) (if_field (field_line l) (read_section (lines behind)))) (not_empty_field f all.0)
    ∙ ap (λ o. if_field o (read_section (lines behind))) (field_line-found f all.0)
    ∙ ap (with_field f) (section-found fs last rest all.1)

-- ---- and each head

line_inner : (line : RequestLine) → IsLine line → list_all is_inner (line_text line) ≡ true
line_inner line is =
    both_inner line.method (32 ∷ (line.target ++ 32 ∷ print_version line.minor)) (token_inner line.method (passes is_token_byte line.method is.method.1))
    (both_inner line.target (32 ∷ print_version line.minor) (target_inner line.target (passes is_uri_byte line.target is.target.1)) (version_inner line.minor is.minor))
  where
    version_inner : (minor : ℕ) → minor ≤ 1 → list_all is_inner (print_version minor) ≡ true
    version_inner zero h = refl
    version_inner (suc zero) h = refl
    version_inner (suc (suc n)) h = absurd (omega arith)

not_empty_line : (line : RequestLine) → IsLine line → is_empty (line_text line) ≡ false
not_empty_line line is = some line.method (line.target ++ 32 ∷ print_version line.minor)
  where
    some : (method rest : List ℕ) → is_empty (method ++ 32 ∷ rest) ≡ false
    some [] rest = refl
    some (b ∷ method) rest = refl

-- the line of a head
abbrev pub line_of : RequestHead → RequestLine
line_of h = record { method = h.method; target = h.target; minor = h.minor }

line_of-is : (h : RequestHead) → IsRequestHead h → IsLine (line_of h)
line_of-is h is = record { method = is.method; target = is.target; target_text = is.target_text; minor = is.minor }

abbrev pub head_text : List LineEnd → RequestLine → LineEnd → List Field → LineEnd → List ℕ → List ℕ
head_text blank line end fields last rest = print_blank blank ++ (line_text line ++ (print_end end ++ (flat_map print_field fields ++ (print_end last ++ rest))))

pub print_request-is : (h : RequestHead) (rest : List ℕ) → print_request h ++ rest ≡ head_text h.blank (line_of h) h.line_end h.fields h.last rest
unfolding print_request
print_request-is h rest =
    regroup (print_blank h.blank) h.method h.target (print_version h.minor) (print_end h.line_end) (flat_map print_field h.fields) (print_end h.last) rest
  where
    regroup : (a b c d e f g r : List ℕ)
        → (a ++ b ++ 32 ∷ c ++ 32 ∷ d ++ e ++ (f ++ g)) ++ r ≡ a ++ ((b ++ 32 ∷ (c ++ 32 ∷ d)) ++ (e ++ (f ++ (g ++ r))))
    regroup a b c d e f g r = simp (append_assoc, cons-append)

abbrev pub head_with : List LineEnd → RequestLine → LineEnd → Section → RequestHead
head_with blank line end s = record { blank = blank; method = line.method; target = line.target; minor = line.minor; line_end = end; fields = s.0; last = s.1 }

text-found : (blank : List LineEnd) (line : RequestLine) (end : LineEnd) (fs : List Field) (last : LineEnd) (rest : List ℕ) → IsLine line → AllByRecursion IsField fs
    → read_request (lines (head_text blank line end fs last rest)) ≡ Whole (head_with blank line end (fs, last))
text-found [] line end fs last rest is all =
    let behind = flat_map print_field fs ++ (print_end last ++ rest) in
    let l : Line = record { text = line_text line; end = end } in
    ap read_request (lines-line (line_text line) end behind (line_inner line is))
    ∙ read_request-cons l (lines behind)
    ∙ ap (λ t. cond t (with_blank end (read_request (lines behind))) (if_line (request_line (line_text line)) end (read_section (lines behind)))) (not_empty_line line is)
    ∙ ap (λ o. if_line o end (read_section (lines behind))) (request_line-found line is)
    ∙ ap (with_line line end) (section-found fs last rest all)
text-found (e ∷ blank) line end fs last rest is all =
    let behind = head_text blank line end fs last rest in
    let l : Line = record { text = []; end = e } in
    ap (λ z. read_request (lines z)) (append_assoc (print_end e) (print_blank blank) (line_text line ++ (print_end end ++ (flat_map print_field fs ++ (print_end last ++ rest)))))
    ∙ ap read_request (lines-line [] e behind refl)
    ∙ read_request-cons l (lines behind)
    ∙ ap (with_blank e) (text-found blank line end fs last rest is all)

pub request-found : (bytes : List ℕ) (h : RequestHead) (rest : List ℕ) → ReadsRequest bytes h rest → read_request (lines bytes) ≡ Whole h
request-found bytes h rest r =
    ap (λ z. read_request (lines z)) (r.1 ∙ print_request-is h rest)
    ∙ text-found h.blank (line_of h) h.line_end h.fields h.last rest (line_of-is h r.0) (recursion_from_All IsField h.fields r.0.fields)
