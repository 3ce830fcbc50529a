-- What single functions rest on.
use Rattle.std.proofs.Common.{◌≡◌, ℕ, zero, suc, ◌+◌, ◌-◌, ◌*◌, ◌^◌, ◌<◌, ◌≤◌, ◌⊎◌, inl, inr, min, Bool, true, false, not, ◌&&◌, ◌||◌, cond, eqb, leb, List, [], ◌∷◌, ◌++◌, length, take, drop, get_or, ltb, Option, Some, None, refl, sym, ap, ◌∙◌, subst, arith, append-nil, length-drop, lit<}
use Rattle.std.specs.List.{list_all, list_any}
use Rattle.std.proofs.lemmas.List.{take_all, take_more, drop_all, drop_more, take-append-drop, get_or-drop}
use Rattle.memchr.specs.Find.{Nowhere, NoneAfter, Passes, is_byte}
use Rattle.std.proofs.lemmas.Bool.{and_parts, and_from, cases_lt, not-true, true≢false, leb-true, lt-ltb}
use Rattle.std.proofs.Math.Nat.{pow-suc, pow-le-pow_right}
use Rattle.std.proofs.lemmas.Int.Digits.{digits_value_more}
use Rattle.std.proofs.lemmas.Bool.Decides.{nat_tests}
use Rattle.req_head.specs.Lines.{whole_lines}
use Rattle.std.specs.Str.Parse.{digits_value}
use Rattle.std.specs.Char.{digit_value}
use Rattle.std.proofs.lemmas.List.Sums.{AllPass-from_list_all}
use Rattle.http_header.specs.FieldValue.{FieldValue}
use Rattle.http_header.specs.HeaderMap.{Entries, get_all}
use Rattle.std.specs.Prelude.{codes}
use Rattle.req_head.specs.Rules.{is_digit, host_is_bad, coding_is_other, is_there, length_is_bad, fault_of}
use Rattle.uri_text.specs.Target.{normal_of}
use Rattle.std.specs.Result.{is_ok}
use Rattle.req_head.specs.Host.{is_no_mark, without_port}
use Rattle.req_head.specs.Options.{with_first, elements, is_option, lists_option}
use Rattle.req_head.specs.Reading.{cut_at}
use Rattle.req_head.specs.Step.{looked, head_step}
use Rattle.req_head.specs.declared.head.HeadStep.TheVariants.{More, Bad}
use Rattle.httparse.specs.Grammar.{RequestHead, ReadsRequest}
use Rattle.httparse.specs.Spans.{RequestExceeds, RequestOverflows}
use Rattle.req_head.specs.Lines.{lines, after_empty}
use Rattle.req_head.specs.Reading.{Reading, Whole, Wrong, Short, read_request}
use Rattle.req_head.specs.FirstLine.{asks_head}
use Rattle.req_head.specs.Heads.{fault_in, fault_with}
use Rattle.req_head.specs.Step.{tested, step_of}
use Rattle.req_head.specs.declared.head.HeadStep.{HeadStep}
use Rattle.req_head.proofs.StepLemmas.{waits-still}
use Rattle.req_head.proofs.PartLemmas.{one_cut, cut-found}
use Rattle.req_head.proofs.LineLemmas.{is_no_lf, lines-nil, lines-whole_lines, whole_lines-through, whole_lines-none}
use Rattle.req_head.proofs.LongLemmas.{exceeds_many, length-lines-cons}
use Rattle.req_head.proofs.MeaningLemmas.{Means, meaning}

-- ---- the bytes that are looked at

least : (xs : List ℕ) (k n : ℕ) → ((length xs < n) ⊎ (n ≤ length xs)) → k ≡ min (length xs) n → take k xs ≡ take n xs
least xs k n (inl short) e = take_all k xs (omega arith) ∙ sym (take_all n xs (omega arith))
least xs k n (inr long) e = ap (λ z. take z xs) (let q : k ≡ n = omega arith in q)

pub take_least : (xs : List ℕ) (k : ℕ) → k ≡ min (length xs) 8192 → take k xs ≡ looked xs
unfolding looked
take_least xs k e = least xs k 8192 (cases_lt (length xs) 8192) e

-- ---- the last line feed

pub end_here : (xs : List ℕ) (i : ℕ) → i < length xs → get_or xs i 0 ≡ 10 → list_all is_no_lf (drop (i + 1) xs) ≡ true → take (i + 1) xs ≡ whole_lines xs
end_here xs i h lf none =
    let e : take (i + 1) xs ≡ take i xs ++ 10 ∷ [] = take_more xs i 0 h ∙ ap (λ b. take i xs ++ b ∷ []) lf in
    let whole : xs ≡ (take i xs ++ 10 ∷ []) ++ drop (i + 1) xs = sym (take-append-drop (i + 1) xs) ∙ ap (λ z. z ++ drop (i + 1) xs) e in
    e ∙ sym (ap whole_lines whole ∙ whole_lines-through (take i xs) (drop (i + 1) xs) none)

-- no line feed is among bytes of which none passes
none_passes : (xs : List ℕ) → ((k : ℕ) → k < length xs → get_or xs k 0 ≡ 10 → ⊥) → list_all is_no_lf xs ≡ true
none_passes [] h = refl
none_passes (x ∷ xs) h = both (eqb x 10) refl (none_passes xs (λ k lt. h (suc k) (omega (arith, lt))))
  where
    both : (t : Bool) → eqb x 10 ≡ t → list_all is_no_lf xs ≡ true → (not t && list_all is_no_lf xs) ≡ true
    both true e rest = absurd (h 0 (omega arith) (grind (arith, nat_tests)))
    both false e rest = rest

after_passes : (xs : List ℕ) (n : ℕ) → Nowhere (Passes (is_byte 10) xs) n (length xs) → list_all is_no_lf (drop n xs) ≡ true
after_passes xs n none =
    none_passes (drop n xs) (λ k lt e.
    let size : length (drop n xs) ≡ length xs - n = length-drop n xs in
    let at : n + k < length xs = omega (arith, lt, size) in
    none (n + k) (omega arith) at (let q : get_or xs (n + k) 0 ≡ 10 = sym (get_or-drop n xs k 0) ∙ e in grind (arith, nat_tests)))

pub end_after : (xs : List ℕ) (i : ℕ) → NoneAfter (Passes (is_byte 10) xs) 0 (length xs) i → Passes (is_byte 10) xs i → take (i + 1) xs ≡ whole_lines xs
end_after xs i n p = end_here xs i n.high (let q : eqb (get_or xs i 0) 10 ≡ true = p in grind (arith, nat_tests)) (after_passes xs (i + 1) n.after)

pub end_nowhere_after : (xs : List ℕ) → Nowhere (Passes (is_byte 10) xs) 0 (length xs) → [] ≡ whole_lines xs
end_nowhere_after xs none = sym (whole_lines-none xs (after_passes xs 0 none))

-- one more byte at the front of the rest
pub front_passes : (p : ℕ → Bool) (xs : List ℕ) (i : ℕ) → i < length xs → p (get_or xs i 0) ≡ true → list_all p (drop (i + 1) xs) ≡ true → list_all p (drop i xs) ≡ true
front_passes p xs i h here rest = ap (list_all p) (drop_more xs i 0 h) ∙ and_from (p (get_or xs i 0)) (list_all p (drop (i + 1) xs)) here rest

-- ---- bytes after which no line ends

none_ends : (bytes : List ℕ) → list_any (λ b. eqb b 10) bytes ≡ false → list_all is_no_lf bytes ≡ true
none_ends [] h = refl
none_ends (b ∷ bytes) h =
    let p = or_parts (eqb b 10) (list_any (λ b. eqb b 10) bytes) h in
    and_from (is_no_lf b) (list_all is_no_lf bytes) (ap not p.0) (none_ends bytes p.1)
  where
    or_parts : (x y : Bool) → (x || y) ≡ false → (x ≡ false) × (y ≡ false)
    or_parts true y e = absurd (true≢false e)
    or_parts false y e = (refl, e)

pub waits : (bytes : List ℕ) (known : ℕ) → list_any (λ b. eqb b 10) (drop known bytes) ≡ false → length bytes < 8192 → head_step (take known bytes) ≡ More → head_step bytes ≡ More
waits bytes known none short before =
    let e = take-append-drop known bytes in
    ap head_step (sym e)
    ∙ waits-still (take known bytes) (drop known bytes) (none_ends (drop known bytes) none) (omega (arith, ap length e)) before

pub waits_behind : (bytes : List ℕ) (known : ℕ) (rest : List ℕ) → rest ≡ drop known bytes → list_any (λ b. eqb b 10) rest ≡ false → length bytes < 8192 → head_step (take known bytes) ≡ More → head_step bytes ≡ More
waits_behind bytes known rest e none short before = waits bytes known (ap (list_any (λ b. eqb b 10)) (sym e) ∙ none) short before

-- ---- ports

no_port : (bytes : List ℕ) → list_all is_no_mark bytes ≡ true → without_port bytes ≡ bytes
unfolding without_port
no_port [] h = refl
no_port (b ∷ bytes) h =
    let p = and_parts (is_no_mark b) (list_all is_no_mark bytes) h in
    let q : eqb b 58 ≡ false = not-true (eqb b 58) (and_parts (not (eqb b 58)) (not (eqb b 93)) p.0).0 in
    ap (λ t. cond (t && list_all is_no_mark bytes) [] (b ∷ without_port bytes)) q ∙ ap (λ z. b ∷ z) (no_port bytes p.1)

marked : (a : List ℕ) (m : ℕ) (b : List ℕ) → is_no_mark m ≡ false → list_all is_no_mark (a ++ m ∷ b) ≡ false
marked [] m b h = ap (λ t. t && list_all is_no_mark b) h
marked (x ∷ a) m b h = ap (λ t. is_no_mark x && t) (marked a m b h) ∙ and_false (is_no_mark x)
  where
    and_false : (t : Bool) → (t && false) ≡ false
    and_false true = refl
    and_false false = refl

before_mark : (x : ℕ) (a : List ℕ) (m : ℕ) (b : List ℕ) → is_no_mark m ≡ false → without_port (x ∷ (a ++ m ∷ b)) ≡ x ∷ without_port (a ++ m ∷ b)
unfolding without_port
before_mark x a m b h = ap (λ t. cond (eqb x 58 && t) [] (x ∷ without_port (a ++ m ∷ b))) (marked a m b h) ∙ ap (λ t. cond t [] (x ∷ without_port (a ++ m ∷ b))) (and_false (eqb x 58))
  where
    and_false : (t : Bool) → (t && false) ≡ false
    and_false true = refl
    and_false false = refl

port_here : (b : List ℕ) → list_all is_no_mark b ≡ true → without_port (58 ∷ b) ≡ []
unfolding without_port
port_here b h = ap (λ t. cond t [] (58 ∷ without_port b)) h

bracket_here : (b : List ℕ) → without_port (93 ∷ b) ≡ 93 ∷ without_port b
unfolding without_port
bracket_here b = refl

port_at : (a b : List ℕ) → list_all is_no_mark b ≡ true → without_port (a ++ 58 ∷ b) ≡ a
port_at [] b h = port_here b h
port_at (x ∷ a) b h = before_mark x a 58 b refl ∙ ap (λ z. x ∷ z) (port_at a b h)

no_port_at : (a b : List ℕ) → list_all is_no_mark b ≡ true → without_port (a ++ 93 ∷ b) ≡ a ++ 93 ∷ b
no_port_at [] b h = bracket_here b ∙ ap (λ z. 93 ∷ z) (no_port b h)
no_port_at (x ∷ a) b h = before_mark x a 93 b refl ∙ ap (λ z. x ∷ z) (no_port_at a b h)

-- a list at one of its bytes
parts_at : (xs : List ℕ) (i m : ℕ) → i < length xs → get_or xs i 0 ≡ m → xs ≡ take i xs ++ m ∷ drop (i + 1) xs
parts_at xs i m h e = sym (take-append-drop i xs) ∙ ap (λ z. take i xs ++ z) (drop_more xs i 0 h ∙ ap (λ z. z ∷ drop (i + 1) xs) e)

pub port_begins : (xs : List ℕ) (i : ℕ) → i < length xs → get_or xs i 0 ≡ 58 → list_all is_no_mark (drop (i + 1) xs) ≡ true → take i xs ≡ without_port xs
port_begins xs i h e none = sym (ap without_port (parts_at xs i 58 h e) ∙ port_at (take i xs) (drop (i + 1) xs) none)

pub port_none : (xs : List ℕ) (i : ℕ) → i < length xs → get_or xs i 0 ≡ 93 → list_all is_no_mark (drop (i + 1) xs) ≡ true → xs ≡ without_port xs
port_none xs i h e none =
    let p = parts_at xs i 93 h e in
    p ∙ sym (ap without_port p ∙ no_port_at (take i xs) (drop (i + 1) xs) none)

pub port_nowhere : (xs : List ℕ) → list_all is_no_mark xs ≡ true → xs ≡ without_port xs
port_nowhere xs h = sym (no_port xs h)

abbrev PortAt : List ℕ → ℕ → Type 0
PortAt xs n = list_all is_no_mark (drop n xs) ≡ true → (get_or xs (n - 1) 0 ≡ 58 → take (n - 1) xs ≡ without_port xs) × (get_or xs (n - 1) 0 ≡ 93 → xs ≡ without_port xs)

port_from : (xs : List ℕ) (n : ℕ) → 0 < n → n ≤ length xs → PortAt xs n
port_from xs zero h l = absurd (omega arith)
port_from xs (suc n) h l = λ none.
    let e : suc n ≡ n + 1 = omega arith in
    let m : suc n - 1 ≡ n = omega arith in
    let rest : list_all is_no_mark (drop (n + 1) xs) ≡ true = ap (λ z. list_all is_no_mark (drop z xs)) (sym e) ∙ none in (
      (λ q. ap (λ z. take z xs) m ∙ port_begins xs n (omega arith) (ap (λ z. get_or xs z 0) (sym m) ∙ q) rest),
      (λ q. port_none xs n (omega arith) (ap (λ z. get_or xs z 0) (sym m) ∙ q) rest),
    )

pub port_before : (xs : List ℕ) (n : ℕ) → 0 < n → n ≤ length xs → list_all is_no_mark (drop n xs) ≡ true → get_or xs (n - 1) 0 ≡ 58 → take (n - 1) xs ≡ without_port xs
port_before xs n h l none q = (port_from xs n h l none).0 q

-- all bytes, as they are taken
all_taken : (xs : List ℕ) → take (length xs) xs ≡ xs
all_taken xs = take_all (length xs) xs (omega arith)

pub bracket_before : (xs : List ℕ) (n : ℕ) → 0 < n → n ≤ length xs → list_all is_no_mark (drop n xs) ≡ true → get_or xs (n - 1) 0 ≡ 93 → take (length xs) xs ≡ without_port xs
bracket_before xs n h l none q = all_taken xs ∙ (port_from xs n h l none).1 q

pub no_mark_before : (xs : List ℕ) (n : ℕ) → n ≤ 0 → list_all is_no_mark (drop n xs) ≡ true → take (length xs) xs ≡ without_port xs
no_mark_before xs n h none = let e : n ≡ 0 = omega arith in all_taken xs ∙ port_nowhere xs (ap (λ z. list_all is_no_mark (drop z xs)) (sym e) ∙ none)

-- ---- parts between commas

none_cut : (c : ℕ) (xs : List ℕ) → list_all (λ b. not (eqb b c)) xs ≡ true → cut_at c xs ≡ None
none_cut c [] h = refl
none_cut c (x ∷ xs) h =
    let p = and_parts (not (eqb x c)) (list_all (λ b. not (eqb b c)) xs) h in
    ap (λ t. one_cut t x xs (cut_at c xs)) (not-true (eqb x c) p.0) ∙ ap (one_cut false x xs) (none_cut c xs p.1)

pub cut_none : (xs : List ℕ) (i : ℕ) → length xs ≤ i → list_all (λ b. not (eqb b 44)) (take i xs) ≡ true → cut_at 44 xs ≡ None
cut_none xs i h all = none_cut 44 xs (sym (ap (list_all (λ b. not (eqb b 44))) (take_all i xs h)) ∙ all)

pub cut_here : (xs : List ℕ) (i : ℕ) → i < length xs → get_or xs i 0 ≡ 44 → list_all (λ b. not (eqb b 44)) (take i xs) ≡ true → cut_at 44 xs ≡ Some (take i xs, drop (i + 1) xs)
cut_here xs i h e all = ap (cut_at 44) (parts_at xs i 44 h e) ∙ cut-found 44 (take i xs) (drop (i + 1) xs) all

pub behind_is : (xs : List ℕ) (i : ℕ) (rest : List ℕ) → rest ≡ drop (i + 1) xs → cut_at 44 xs ≡ Some (take i xs, drop (i + 1) xs) → cut_at 44 xs ≡ Some (take i xs, rest)
behind_is xs i rest e h = h ∙ ap (λ z. Some (take i xs, z)) (sym e)

abbrev parts : List ℕ → Option (List ℕ × List ℕ) → List (List ℕ)
parts xs None = xs ∷ []
parts xs (Some p) = p.0 ∷ elements p.1

elements_at : (t : Bool) (x : ℕ) (xs : List ℕ) (o : Option (List ℕ × List ℕ)) → eqb x 44 ≡ t → elements xs ≡ parts xs o
    → cond t ([] ∷ elements xs) (with_first x (elements xs)) ≡ parts (x ∷ xs) (one_cut t x xs o)
elements_at true x xs o e h = refl
elements_at false x xs None e h = ap (with_first x) h
elements_at false x xs (Some p) e h = ap (with_first x) h

elements-cons : (x : ℕ) (xs : List ℕ) → elements (x ∷ xs) ≡ cond (eqb x 44) ([] ∷ elements xs) (with_first x (elements xs))
unfolding elements
elements-cons x xs = refl

elements-nil : elements [] ≡ [] ∷ []
unfolding elements
elements-nil = refl

elements-is : (xs : List ℕ) → elements xs ≡ parts xs (cut_at 44 xs)
elements-is [] = elements-nil
elements-is (x ∷ xs) = elements-cons x xs ∙ elements_at (eqb x 44) x xs (cut_at 44 xs) refl (elements-is xs)

pub lists_last : (word xs : List ℕ) → cut_at 44 xs ≡ None → lists_option word xs ≡ is_option word xs
unfolding lists_option
lists_last word xs e = ap (list_any (is_option word)) (elements-is xs ∙ ap (parts xs) e) ∙ or_false (is_option word xs)
  where
    or_false : (t : Bool) → (t || false) ≡ t
    or_false true = refl
    or_false false = refl

pub lists_more : (word xs : List ℕ) (p : List ℕ × List ℕ) → cut_at 44 xs ≡ Some p → lists_option word xs ≡ (is_option word p.0 || lists_option word p.1)
unfolding lists_option
lists_more word xs p e = ap (list_any (is_option word)) (elements-is xs ∙ ap (parts xs) e)

-- ---- numbers

digit_at : (xs : List ℕ) (i : ℕ) → i < length xs → list_all is_digit xs ≡ true → is_digit (get_or xs i 0) ≡ true
digit_at xs i h all = (AllPass-from_list_all is_digit xs all) i 0 h

digit_range : (d : ℕ) → is_digit d ≡ true → (48 ≤ d) × (d ≤ 57)
digit_range d h =
    let p = and_parts (leb 48 d) (leb d 57) h in
    (leb-true 48 d p.0, leb-true d 57 p.1)

pub digit_bounds : (xs : List ℕ) (i : ℕ) → i < length xs → list_all is_digit xs ≡ true → (48 ≤ get_or xs i 0) × (get_or xs i 0 ≤ 57)
digit_bounds xs i h all = digit_range (get_or xs i 0) (digit_at xs i h all)

power_more : (i : ℕ) → 10 ^ (i + 1) ≡ 10 ^ i * 10
power_more i = ap (λ z. 10 ^ z) (let e : i + 1 ≡ suc i = omega arith in e) ∙ pow-suc 10 i

pub number_fits : (number i digit : ℕ) → number < 10 ^ i → digit ≤ 9 → number * 10 + digit < 10 ^ (i + 1)
number_fits number i digit h d = omega (arith, power_more i)

pub power_fits : (i : ℕ) → i < 19 → 10 ^ (i + 1) < 2 ^ 64
power_fits i h =
    let most : 10 ^ (i + 1) ≤ 10 ^ 19 = pow-le-pow_right {n = 10} (lit< tt) {i = i + 1} {j = 19} (omega arith) in
    lt_from_le most (lit< tt)
  where
    lt_from_le : {a b c : ℕ} → a ≤ b → b < c → a < c
    lt_from_le x y = omega arith

digit_value-is : (d : ℕ) → 48 ≤ d → d ≤ 57 → digit_value d ≡ d - 48
digit_value-is d low high = grind (arith, nat_tests)

pub number_more : (xs : List ℕ) (i number digit : ℕ) → i < length xs → list_all is_digit xs ≡ true → number ≡ digits_value 10 (take i xs) → digit ≡ get_or xs i 0 - 48
    → number * 10 + digit ≡ digits_value 10 (take (i + 1) xs)
number_more xs i number digit h all n d =
    let b = digit_bounds xs i h all in
    let e = digit_value-is (get_or xs i 0) b.0 b.1 in
    omega (arith, digits_value_more 10 xs i h, e, n, d)

-- ---- a long head

pub overflow_refused : (seen text : List ℕ) (r : Reading RequestHead) (step : HeadStep) → text ≡ whole_lines seen → read_request (lines text) ≡ r → RequestOverflows 64 text → RequestExceeds 64 text
    → step ≡ Bad 400 (asks_head seen) → step ≡ step_of seen r
overflow_refused seen text (Whole h) step et er over many e =
    let is : Means text (Whole h) = subst (Means text) er (meaning text) in
    let more : 64 < length h.fields = over [] h is.0 (subst (λ z. ReadsRequest z h is.0) (sym (append-nil text)) is.1) in
    e ∙ sym (ap (λ t. cond t (Bad 400 (asks_head seen)) (tested (asks_head seen) h (fault_in h))) (lt-ltb 64 (length h.fields) more))
overflow_refused seen text Wrong step et er over many e = e
overflow_refused seen text Short step et er over many e =
    let in_time = ltb (length seen) 8192 in
    let left : 65 < length (after_empty (lines seen)) = subst (λ z. 65 < length (after_empty z)) (ap lines et ∙ lines-whole_lines seen) (exceeds_many text many) in
    e ∙ sym (ap (λ t. cond (in_time && not t) More (Bad 400 (asks_head seen))) (lt-ltb 65 (length (after_empty (lines seen))) left) ∙ ap (λ t. cond t More (Bad 400 (asks_head seen))) (no_more in_time))
  where
    no_more : (t : Bool) → (t && false) ≡ false
    no_more true = refl
    no_more false = refl

-- ---- how many lines are counted

pub one_counted : (bytes : List ℕ) (i count count' all : ℕ) → i < length bytes → count + length (lines (drop i bytes)) ≡ all → count' ≡ count + cond (eqb (get_or bytes i 0) 10) 1 0
    → count' + length (lines (drop (i + 1) bytes)) ≡ all
one_counted bytes i count count' all h e en =
    omega (arith, e, en, ap (λ z. length (lines z)) (drop_more bytes i 0 h), length-lines-cons (get_or bytes i 0) (drop (i + 1) bytes))

pub all_counted : (bytes : List ℕ) (i count all : ℕ) → length bytes ≤ i → count + length (lines (drop i bytes)) ≡ all → count ≡ all
all_counted bytes i count all h e = omega (arith, e, ap (λ z. length (lines z)) (drop_all i bytes h), ap length lines-nil)

-- ---- a head whose tests pass

length_good : (h t l m : Bool) (a : Option ℕ) → cond h (Some 400) (cond t (Some 400) (cond l (Some 501) (cond m (Some 400) a))) ≡ None → m ≡ false
length_good true t l m a e = absurd (let no : ⊥ = cc in no)
length_good false true l m a e = absurd (let no : ⊥ = cc in no)
length_good false false true m a e = absurd (let no : ⊥ = cc in no)
length_good false false false true a e = absurd (let no : ⊥ = cc in no)
length_good false false false false a e = refl

pub passes_length : (minor : ℕ) (target : List ℕ) (fields : Entries FieldValue) → fault_with minor target fields ≡ None → length_is_bad (get_all fields (codes "content-length")) ≡ false
unfolding fault_with fault_of
passes_length minor target fields e =
    let hosts = get_all fields (codes "host") in
    let codings = get_all fields (codes "transfer-encoding") in
    let lengths = get_all fields (codes "content-length") in
    length_good (host_is_bad minor hosts) (is_there codings && (eqb minor 0 || is_there lengths)) (coding_is_other codings) (length_is_bad lengths) (cond (not (is_ok (normal_of target true))) (Some 400) None) e
