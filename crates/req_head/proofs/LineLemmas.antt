-- How lines are cut and printed.
use Rattle.std.proofs.Common.{◌≡◌, ℕ, Bool, true, false, not, ◌&&◌, cond, eqb, List, [], ◌∷◌, ◌++◌, refl, sym, ap, ◌∙◌, arith}
use Rattle.std.specs.List.{flat_map, list_all}
use Rattle.std.proofs.lemmas.Bool.{and_parts}
use Rattle.std.proofs.lemmas.Bool.Decides.{nat_tests}
use Rattle.httparse.specs.Grammar.{LineEnd, crlf, lf, print_end}
use Rattle.req_head.specs.Lines.{Line, print_line, is_empty, is_lf, with_byte, with_first_byte, lines, whole_lines}

-- ---- one byte more

pub lines-nil : lines [] ≡ []
unfolding lines
lines-nil = refl

pub lines-cons : (b : ℕ) (bytes : List ℕ) → lines (b ∷ bytes) ≡ cond (eqb b 10) (record { text = []; end = lf } ∷ lines bytes) (with_first_byte b (lines bytes))
unfolding lines
lines-cons b bytes = refl

lines-cons_lf : (bytes : List ℕ) → lines (10 ∷ bytes) ≡ record { text = []; end = lf } ∷ lines bytes
unfolding lines
lines-cons_lf bytes = refl

lines-cons_at : (t : Bool) (b : ℕ) (bytes : List ℕ) → eqb b 10 ≡ t → lines (b ∷ bytes) ≡ cond t (record { text = []; end = lf } ∷ lines bytes) (with_first_byte b (lines bytes))
lines-cons_at t b bytes e = lines-cons b bytes ∙ ap (λ z. cond z (record { text = []; end = lf } ∷ lines bytes) (with_first_byte b (lines bytes))) e

-- ---- a line that is written out

-- a byte that neither ends a line nor begins its end
abbrev pub is_inner : ℕ → Bool
is_inner b = not (eqb b 10) && not (eqb b 13)

inner_no_lf : (b : ℕ) → is_inner b ≡ true → eqb b 10 ≡ false
inner_no_lf b h = grind (arith, nat_tests)

inner_no_cr : (b : ℕ) → is_inner b ≡ true → eqb b 13 ≡ false
inner_no_cr b h = grind (arith, nat_tests)

with_byte-inner : (b : ℕ) (text : List ℕ) (e : LineEnd) → eqb b 13 ≡ false → with_byte b (record { text = text; end = e }) ≡ record { text = b ∷ text; end = e }
with_byte-inner b text e h = ap (λ z. cond (z && (is_empty text && is_lf e)) (let l : Line = record { text = []; end = crlf } in l) (record { text = b ∷ text; end = e })) h

lines-end : (e : LineEnd) (rest : List ℕ) → lines (print_end e ++ rest) ≡ record { text = []; end = e } ∷ lines rest
lines-end lf rest = lines-cons_lf rest
lines-end crlf rest = lines-cons 13 (10 ∷ rest) ∙ ap (λ z. with_first_byte 13 z) (lines-cons_lf rest)

pub lines-line : (text : List ℕ) (e : LineEnd) (rest : List ℕ) → list_all is_inner text ≡ true → lines (text ++ (print_end e ++ rest)) ≡ record { text = text; end = e } ∷ lines rest
lines-line [] e rest h = lines-end e rest
lines-line (b ∷ text) e rest h =
    let p = and_parts (is_inner b) (list_all is_inner text) h in
    lines-cons_at false b (text ++ (print_end e ++ rest)) (inner_no_lf b p.0)
    ∙ ap (λ z. with_first_byte b z) (lines-line text e rest p.1)
    ∙ ap (λ z. z ∷ lines rest) (with_byte-inner b text e (inner_no_cr b p.0))

-- ---- the bytes of lines

byte_joins_at : (x y : Bool) (b : ℕ) (text : List ℕ) (e : LineEnd) → eqb b 13 ≡ x → (is_empty text && is_lf e) ≡ y
    → print_line (cond (x && y) (record { text = []; end = crlf }) (record { text = b ∷ text; end = e })) ≡ b ∷ (text ++ print_end e)
byte_joins_at true true b [] lf ex ey = let q : b ≡ 13 = grind (arith, nat_tests) in ap (λ z. z ∷ 10 ∷ []) (sym q)
byte_joins_at true true b [] crlf ex ey = cc
byte_joins_at true true b (t ∷ text) e ex ey = cc
byte_joins_at true false b text e ex ey = refl
byte_joins_at false y b text e ex ey = refl

byte_joins : (b : ℕ) (l : Line) → print_line (with_byte b l) ≡ b ∷ print_line l
byte_joins b l = byte_joins_at (eqb b 13) (is_empty l.text && is_lf l.end) b l.text l.end refl refl

pub print-with_byte : (b : ℕ) (l : Line) (ls : List Line) → flat_map print_line (with_first_byte b (l ∷ ls)) ≡ b ∷ flat_map print_line (l ∷ ls)
print-with_byte b l ls = ap (λ z. z ++ flat_map print_line ls) (byte_joins b l)

front_at : (t : Bool) (b : ℕ) (bytes tail : List ℕ) (ls : List Line) → eqb b 10 ≡ t → bytes ≡ flat_map print_line ls ++ tail
    → (rest : List ℕ) × (b ∷ bytes ≡ flat_map print_line (cond t (record { text = []; end = lf } ∷ ls) (with_first_byte b ls)) ++ rest)
front_at true b bytes tail ls e h = (tail, let q : b ≡ 10 = grind (arith, nat_tests) in ap (λ z. z ∷ bytes) q ∙ ap (λ z. 10 ∷ z) h)
front_at false b bytes tail [] e h = (b ∷ bytes, refl)
front_at false b bytes tail (l ∷ ls) e h = (tail, ap (λ z. b ∷ z) h ∙ sym (ap (λ z. z ++ tail) (print-with_byte b l ls)))

-- the lines are at the front
pub lines-front : (bytes : List ℕ) → (rest : List ℕ) × (bytes ≡ flat_map print_line (lines bytes) ++ rest)
lines-front [] = ([], sym (ap (λ z. flat_map print_line z ++ []) lines-nil))
lines-front (b ∷ bytes) =
    let f = lines-front bytes in
    let g = front_at (eqb b 10) b bytes f.0 (lines bytes) refl f.1 in
    (g.0, g.1 ∙ sym (ap (λ z. flat_map print_line z ++ g.0) (lines-cons b bytes)))

again_at : (t : Bool) (b : ℕ) (ls : List Line) → eqb b 10 ≡ t → lines (flat_map print_line ls) ≡ ls
    → lines (flat_map print_line (cond t (record { text = []; end = lf } ∷ ls) (with_first_byte b ls))) ≡ cond t (record { text = []; end = lf } ∷ ls) (with_first_byte b ls)
again_at true b ls e h = lines-cons_lf (flat_map print_line ls) ∙ ap (λ z. record { text = []; end = lf } ∷ z) h
again_at false b [] e h = h
again_at false b (l ∷ ls) e h =
    ap lines (print-with_byte b l ls) ∙ lines-cons_at false b (flat_map print_line (l ∷ ls)) e ∙ ap (λ z. with_first_byte b z) h

pub lines_again : (bytes : List ℕ) → lines (flat_map print_line (lines bytes)) ≡ lines bytes
lines_again [] = ap (λ z. lines (flat_map print_line z)) lines-nil
lines_again (b ∷ bytes) =
    let e = lines-cons b bytes in
    ap (λ z. lines (flat_map print_line z)) e ∙ again_at (eqb b 10) b (lines bytes) refl (lines_again bytes) ∙ sym e

-- ---- more bytes

more_at : (t : Bool) (b : ℕ) (old new : List Line) (more : List Line) → new ≡ old ++ more
    → (ls : List Line) × (cond t (record { text = []; end = lf } ∷ new) (with_first_byte b new) ≡ cond t (record { text = []; end = lf } ∷ old) (with_first_byte b old) ++ ls)
more_at true b old new more e = (more, ap (λ z. record { text = []; end = lf } ∷ z) e)
more_at false b [] new more e = (with_first_byte b new, refl)
more_at false b (l ∷ old) new more e = (more, ap (λ z. with_first_byte b z) e)

pub lines-append : (xs ys : List ℕ) → (ls : List Line) × (lines (xs ++ ys) ≡ lines xs ++ ls)
lines-append [] ys = (lines ys, sym (ap (λ z. z ++ lines ys) lines-nil))
lines-append (x ∷ xs) ys =
    let f = lines-append xs ys in
    let g = more_at (eqb x 10) x (lines xs) (lines (xs ++ ys)) f.0 f.1 in
    (g.0, lines-cons x (xs ++ ys) ∙ g.1 ∙ sym (ap (λ z. z ++ g.0) (lines-cons x xs)))

-- ---- up to the last LF

-- no byte is an LF
abbrev pub is_no_lf : ℕ → Bool
is_no_lf b = not (eqb b 10)

no_lf : (b : ℕ) → is_no_lf b ≡ true → eqb b 10 ≡ false
no_lf b h = grind (arith, nat_tests)

pub lines-none : (bytes : List ℕ) → list_all is_no_lf bytes ≡ true → lines bytes ≡ []
lines-none [] h = lines-nil
lines-none (b ∷ bytes) h =
    let p = and_parts (is_no_lf b) (list_all is_no_lf bytes) h in
    lines-cons_at false b bytes (no_lf b p.0) ∙ ap (λ z. with_first_byte b z) (lines-none bytes p.1)

-- bytes after which no line ends leave the lines as they are
pub lines-append_none : (xs ys : List ℕ) → list_all is_no_lf ys ≡ true → lines (xs ++ ys) ≡ lines xs
lines-append_none [] ys h = lines-none ys h ∙ sym lines-nil
lines-append_none (x ∷ xs) ys h =
    lines-cons x (xs ++ ys)
    ∙ ap (λ z. cond (eqb x 10) (record { text = []; end = lf } ∷ z) (with_first_byte x z)) (lines-append_none xs ys h)
    ∙ sym (lines-cons x xs)

through_at : (t : Bool) (b : ℕ) (bytes : List ℕ) (l : Line) (ls : List Line) → eqb b 10 ≡ t → flat_map print_line (l ∷ ls) ≡ bytes
    → (k : Line) × (ks : List Line) × (cond t (record { text = []; end = lf } ∷ l ∷ ls) (with_first_byte b (l ∷ ls)) ≡ k ∷ ks) × (flat_map print_line (k ∷ ks) ≡ b ∷ bytes)
through_at true b bytes l ls e h = (record { text = []; end = lf }, l ∷ ls, refl, ap (λ z. 10 ∷ z) h ∙ (let q : b ≡ 10 = grind (arith, nat_tests) in ap (λ z. z ∷ bytes) (sym q)))
through_at false b bytes l ls e h = (with_byte b l, ls, refl, print-with_byte b l ls ∙ ap (λ z. b ∷ z) h)

-- bytes that end in an LF are their lines
through : (xs : List ℕ) → (k : Line) × (ks : List Line) × (lines (xs ++ 10 ∷ []) ≡ k ∷ ks) × (flat_map print_line (k ∷ ks) ≡ xs ++ 10 ∷ [])
through [] = (record { text = []; end = lf }, [], lines-cons_lf [] ∙ ap (λ z. record { text = []; end = lf } ∷ z) lines-nil, refl)
through (x ∷ xs) =
    let f = through xs in
    let g = through_at (eqb x 10) x (xs ++ 10 ∷ []) f.0 f.1 refl f.3 in
    (g.0, g.1, lines-cons x (xs ++ 10 ∷ []) ∙ ap (λ z. cond (eqb x 10) (record { text = []; end = lf } ∷ z) (with_first_byte x z)) f.2 ∙ g.2, g.3)

pub whole_lines-through : (xs ys : List ℕ) → list_all is_no_lf ys ≡ true → whole_lines ((xs ++ 10 ∷ []) ++ ys) ≡ xs ++ 10 ∷ []
unfolding whole_lines
whole_lines-through xs ys h =
    let f = through xs in
    ap (λ z. flat_map print_line z) (lines-append_none (xs ++ 10 ∷ []) ys h ∙ f.2) ∙ f.3

pub whole_lines-none : (ys : List ℕ) → list_all is_no_lf ys ≡ true → whole_lines ys ≡ []
unfolding whole_lines
whole_lines-none ys h = ap (λ z. flat_map print_line z) (lines-none ys h)

pub whole_lines-is : (bytes : List ℕ) → whole_lines bytes ≡ flat_map print_line (lines bytes)
unfolding whole_lines
whole_lines-is bytes = refl

pub lines-whole_lines : (bytes : List ℕ) → lines (whole_lines bytes) ≡ lines bytes
lines-whole_lines bytes = ap lines (whole_lines-is bytes) ∙ lines_again bytes
