-- The laws of what bytes decide.
use Rattle.std.proofs.Common.{◌≡◌, ℕ, zero, suc, ◌<◌, ◌≤◌, ◌⊎◌, inl, inr, Bool, true, false, not, ◌&&◌, ◌||◌, cond, eqb, ltb, List, [], ◌∷◌, ◌++◌, length, take, Option, Some, None, refl, sym, ap, ◌∙◌, subst, arith, length-append}
use Rattle.std.specs.Prelude.{codes}
use Rattle.std.specs.List.{list_all, list_any}
use Rattle.std.proofs.lemmas.List.{take_all, take-append-le, length-take-le, length-take}
use Rattle.std.proofs.lemmas.Bool.{and_parts, and_from, cases_lt, ltb-true, ltb-false, lt-ltb, eqb-true, false≢true, true≢false}
use Rattle.httparse.specs.Grammar.{LineEnd, crlf, lf, print_end, RequestHead, print_request, ReadsRequest}
use Rattle.req_head.specs.Lines.{Line, is_empty, with_first_byte, lines, after_empty}
use Rattle.req_head.specs.Reading.{Reading, Whole, Wrong, Short, with_blank, if_line, request_line, read_request, read_section}
use Rattle.req_head.specs.FirstLine.{begins_with, asks_head}
use Rattle.req_head.specs.Heads.{fault_in}
use Rattle.req_head.specs.Step.{looked, tested, have_too_many, step_of, head_step}
use Rattle.req_head.specs.Laws.{HeadStays, RefusalStays, SizeFits, FullDecides, IsWhole, Says, GrammarDecides}
use Rattle.req_head.specs.declared.head.HeadStep.{HeadStep}
use Rattle.req_head.specs.declared.head.HeadStep.TheVariants.{More, Head, Bad}
use Rattle.req_head.proofs.LineLemmas.{lines-nil, lines-cons, lines-append, lines-none, lines-append_none, is_no_lf}
use Rattle.req_head.proofs.HeadLemmas.{read_request-nil, read_request-cons, Stays, request-stays}
use Rattle.req_head.proofs.LongLemmas.{more_left, some_left, RequestGrows, request_grows, overflows}
use Rattle.req_head.proofs.MeaningLemmas.{Means, meaning}

-- ---- the bytes that are looked at

looked-is : (bytes : List ℕ) → looked bytes ≡ take 8192 bytes
unfolding looked
looked-is bytes = refl

looked-all : (bytes : List ℕ) → length bytes < 8192 → looked bytes ≡ bytes
looked-all bytes short = looked-is bytes ∙ take_all 8192 bytes (omega arith)

looked-full : (bytes more : List ℕ) → 8192 ≤ length bytes → looked (bytes ++ more) ≡ looked bytes
looked-full bytes more full = looked-is (bytes ++ more) ∙ take-append-le 8192 bytes more full ∙ sym (looked-is bytes)

length-looked : (bytes : List ℕ) → 8192 ≤ length bytes → length (looked bytes) ≡ 8192
length-looked bytes full = ap length (looked-is bytes) ∙ length-take-le 8192 bytes full

looked-fits : (bytes : List ℕ) → (length (looked bytes) ≤ length bytes) × (length (looked bytes) ≤ 8192)
looked-fits bytes =
    let e = ap length (looked-is bytes) ∙ length-take 8192 bytes in
    (omega (arith, e), omega (arith, e))

take_behind : (n : ℕ) (bytes more : List ℕ) → length bytes ≤ n → (rest : List ℕ) × (take n (bytes ++ more) ≡ bytes ++ rest)
take_behind n [] more h = (take n more, refl)
take_behind zero (b ∷ bytes) more h = absurd (omega arith)
take_behind (suc n) (b ∷ bytes) more h =
    let f = take_behind n bytes more (omega arith) in
    (f.0, ap (λ z. b ∷ z) f.1)

looked-short : (bytes more : List ℕ) → length bytes < 8192 → (rest : List ℕ) × (looked (bytes ++ more) ≡ bytes ++ rest)
looked-short bytes more short =
    let f = take_behind 8192 bytes more (omega arith) in
    (f.0, looked-is (bytes ++ more) ∙ f.1)

head_step-is : (bytes : List ℕ) → head_step bytes ≡ step_of (looked bytes) (read_request (lines (looked bytes)))
unfolding head_step
head_step-is bytes = refl

-- ---- whether a refusal is one without a body

asks_head-cons : (b : ℕ) (bytes : List ℕ) → asks_head (b ∷ bytes) ≡ cond (eqb b 10) (asks_head bytes) (cond (eqb b 13 && begins_with (10 ∷ []) bytes) (asks_head bytes) (begins_with (codes "HEAD ") (b ∷ bytes)))
unfolding asks_head
asks_head-cons b bytes = refl

-- a line that isn't empty
abbrev is_some : Line → Bool
is_some l = not (is_empty l.text)

abbrev has_some : List Line → Bool
has_some ls = list_any is_some ls

-- a text with a line feed begins with the same, whatever follows
begins_at : (t : Bool) (p b : ℕ) (ps bytes more : List ℕ) → eqb b p ≡ t → (eqb b p ≡ true → begins_with ps (bytes ++ more) ≡ begins_with ps bytes)
    → (t && begins_with ps (bytes ++ more)) ≡ (t && begins_with ps bytes)
begins_at true p b ps bytes more e h = h e
begins_at false p b ps bytes more e h = refl

has_lf_behind : (p b : ℕ) (bytes : List ℕ) → is_no_lf p ≡ true → eqb b p ≡ true → list_all is_no_lf (b ∷ bytes) ≡ false → list_all is_no_lf bytes ≡ false
has_lf_behind p b bytes other e h =
    let q : is_no_lf b ≡ true = ap is_no_lf (eqb-true b p e) ∙ other in
    sym (ap (λ t. t && list_all is_no_lf bytes) q) ∙ h

begins_with-stays : (ps bytes more : List ℕ) → list_all is_no_lf ps ≡ true → list_all is_no_lf bytes ≡ false → begins_with ps (bytes ++ more) ≡ begins_with ps bytes
begins_with-stays [] bytes more others h = refl
begins_with-stays (p ∷ ps) [] more others h = absurd (true≢false h)
begins_with-stays (p ∷ ps) (b ∷ bytes) more others h =
    let o = and_parts (is_no_lf p) (list_all is_no_lf ps) others in
    begins_at (eqb b p) p b ps bytes more refl (λ e. begins_with-stays ps bytes more o.1 (has_lf_behind p b bytes o.0 e h))

-- a text with lines has a line feed
has_lf : (t : Bool) (bytes : List ℕ) (l : Line) (ls : List Line) → list_all is_no_lf bytes ≡ t → lines bytes ≡ l ∷ ls → t ≡ false
has_lf true bytes l ls e h = absurd (nil_or_cons (sym (lines-none bytes e) ∙ h))
  where
    nil_or_cons : [] ≡ l ∷ ls → ⊥
    nil_or_cons q = cc
has_lf false bytes l ls e h = refl

-- a byte before an empty line that is its whole end
starts_lf : (bytes : List ℕ) → begins_with (10 ∷ []) bytes ≡ true → (rest : List ℕ) × (bytes ≡ 10 ∷ rest)
starts_lf [] e = absurd (false≢true e)
starts_lf (b ∷ bytes) e = (bytes, ap (λ z. z ∷ bytes) (eqb-true b 10 (and_parts (eqb b 10) true e).0))

some_behind_cr : (bytes : List ℕ) → begins_with (10 ∷ []) bytes ≡ true → has_some (with_first_byte 13 (lines bytes)) ≡ has_some (lines bytes)
some_behind_cr bytes e =
    let f = starts_lf bytes e in
    let g : lines bytes ≡ record { text = []; end = lf } ∷ lines f.0 = ap lines f.1 ∙ lines-cons 10 f.0 in
    ap (λ z. has_some (with_first_byte 13 z)) g ∙ sym (ap has_some g)

abbrev SameAsk : List ℕ → List ℕ → Type 0
SameAsk bytes more = asks_head (bytes ++ more) ≡ asks_head bytes

ask_first : (ls : List Line) (b : ℕ) (bytes more : List ℕ) → lines bytes ≡ ls → has_some (with_first_byte b ls) ≡ true → eqb b 10 ≡ false → (eqb b 13 && begins_with (10 ∷ []) bytes) ≡ false
    → SameAsk (b ∷ bytes) more
ask_first [] b bytes more e h lf_no cr_no = absurd (false≢true h)
ask_first (l ∷ ls) b bytes more e h lf_no cr_no =
    let some_lf : list_all is_no_lf bytes ≡ false = has_lf (list_all is_no_lf bytes) bytes l ls refl e in
    let all_lf : list_all is_no_lf (b ∷ bytes) ≡ false = ap (λ t. not t && list_all is_no_lf bytes) lf_no ∙ some_lf in
    let same : begins_with (10 ∷ []) (bytes ++ more) ≡ begins_with (10 ∷ []) bytes = starts-stays bytes more some_lf in
    asks_head-cons b (bytes ++ more)
    ∙ ap (λ t. cond t (asks_head (bytes ++ more)) (cond (eqb b 13 && begins_with (10 ∷ []) (bytes ++ more)) (asks_head (bytes ++ more)) (begins_with (codes "HEAD ") (b ∷ (bytes ++ more))))) lf_no
    ∙ ap (λ t. cond t (asks_head (bytes ++ more)) (begins_with (codes "HEAD ") (b ∷ (bytes ++ more)))) (ap (λ t. eqb b 13 && t) same ∙ cr_no)
    ∙ begins_with-stays (codes "HEAD ") (b ∷ bytes) more refl all_lf
    ∙ sym (ap (λ t. cond t (asks_head bytes) (begins_with (codes "HEAD ") (b ∷ bytes))) cr_no)
    ∙ sym (ap (λ t. cond t (asks_head bytes) (cond (eqb b 13 && begins_with (10 ∷ []) bytes) (asks_head bytes) (begins_with (codes "HEAD ") (b ∷ bytes)))) lf_no)
    ∙ sym (asks_head-cons b bytes)
  where
    starts-stays : (bs ms : List ℕ) → list_all is_no_lf bs ≡ false → begins_with (10 ∷ []) (bs ++ ms) ≡ begins_with (10 ∷ []) bs
    starts-stays [] ms h = absurd (true≢false h)
    starts-stays (c ∷ bs) ms h = refl

ask_cr : (t : Bool) (b : ℕ) (bytes more : List ℕ) → (eqb b 13 && begins_with (10 ∷ []) bytes) ≡ t → has_some (with_first_byte b (lines bytes)) ≡ true → eqb b 10 ≡ false
    → (has_some (lines bytes) ≡ true → SameAsk bytes more) → SameAsk (b ∷ bytes) more
ask_cr true b bytes more e h lf_no same =
    let p = and_parts (eqb b 13) (begins_with (10 ∷ []) bytes) e in
    let f = starts_lf bytes p.1 in
    let more_too : begins_with (10 ∷ []) (bytes ++ more) ≡ true = ap (λ z. begins_with (10 ∷ []) (z ++ more)) f.1 in
    let inside : has_some (lines bytes) ≡ true = sym (some_behind_cr bytes p.1) ∙ ap (λ z. has_some (with_first_byte z (lines bytes))) (sym (eqb-true b 13 p.0)) ∙ h in
    asks_head-cons b (bytes ++ more)
    ∙ ap (λ t. cond t (asks_head (bytes ++ more)) (cond (eqb b 13 && begins_with (10 ∷ []) (bytes ++ more)) (asks_head (bytes ++ more)) (begins_with (codes "HEAD ") (b ∷ (bytes ++ more))))) lf_no
    ∙ ap (λ t. cond t (asks_head (bytes ++ more)) (begins_with (codes "HEAD ") (b ∷ (bytes ++ more)))) (and_from (eqb b 13) (begins_with (10 ∷ []) (bytes ++ more)) p.0 more_too)
    ∙ same inside
    ∙ sym (ap (λ t. cond t (asks_head bytes) (begins_with (codes "HEAD ") (b ∷ bytes))) e)
    ∙ sym (ap (λ t. cond t (asks_head bytes) (cond (eqb b 13 && begins_with (10 ∷ []) bytes) (asks_head bytes) (begins_with (codes "HEAD ") (b ∷ bytes)))) lf_no)
    ∙ sym (asks_head-cons b bytes)
ask_cr false b bytes more e h lf_no same = ask_first (lines bytes) b bytes more refl h lf_no e

ask_at : (t : Bool) (b : ℕ) (bytes more : List ℕ) → eqb b 10 ≡ t → has_some (cond t (record { text = []; end = lf } ∷ lines bytes) (with_first_byte b (lines bytes))) ≡ true
    → (has_some (lines bytes) ≡ true → SameAsk bytes more) → SameAsk (b ∷ bytes) more
ask_at true b bytes more e h same =
    asks_head-cons b (bytes ++ more)
    ∙ ap (λ t. cond t (asks_head (bytes ++ more)) (cond (eqb b 13 && begins_with (10 ∷ []) (bytes ++ more)) (asks_head (bytes ++ more)) (begins_with (codes "HEAD ") (b ∷ (bytes ++ more))))) e
    ∙ same h
    ∙ sym (ap (λ t. cond t (asks_head bytes) (cond (eqb b 13 && begins_with (10 ∷ []) bytes) (asks_head bytes) (begins_with (codes "HEAD ") (b ∷ bytes)))) e)
    ∙ sym (asks_head-cons b bytes)
ask_at false b bytes more e h same = ask_cr (eqb b 13 && begins_with (10 ∷ []) bytes) b bytes more refl h e same

-- once a line that isn't empty has ended, its beginning is known
asks_head-stays : (bytes more : List ℕ) → has_some (lines bytes) ≡ true → SameAsk bytes more
asks_head-stays [] more h = absurd (false≢true (sym (ap has_some lines-nil) ∙ h))
asks_head-stays (b ∷ bytes) more h =
    ask_at (eqb b 10) b bytes more refl (sym (ap has_some (lines-cons b bytes)) ∙ h) (asks_head-stays bytes more)

-- empty lines alone are too short for a head
blank_at : (t : Bool) (l : Line) (ls : List Line) → is_empty l.text ≡ t → (not t || has_some ls) ≡ false → (has_some ls ≡ false → read_request ls ≡ Short) → read_request (l ∷ ls) ≡ Short
blank_at true l ls e h rest =
    read_request-cons l ls
    ∙ ap (λ t. cond t (with_blank l.end (read_request ls)) (if_line (request_line l.text) l.end (read_section ls))) e
    ∙ ap (with_blank l.end) (rest h)
blank_at false l ls e h rest = absurd (true≢false h)

short_if_blank : (ls : List Line) → has_some ls ≡ false → read_request ls ≡ Short
short_if_blank [] h = read_request-nil
short_if_blank (l ∷ ls) h = blank_at (is_empty l.text) l ls refl h (short_if_blank ls)

-- lines that say something aren't all empty
some_if_decided : (t : Bool) (ls : List Line) (r : Reading RequestHead) → has_some ls ≡ t → read_request ls ≡ r → (r ≡ Short → ⊥) → has_some ls ≡ true
some_if_decided true ls r e h decided = e
some_if_decided false ls r e h decided = absurd (decided (sym h ∙ short_if_blank ls e))

-- ---- what is decided stays decided

abbrev StepStays : HeadStep → HeadStep → Type 0
StepStays More s = Unit {0}
StepStays (Head head size) s = s ≡ Head head size
StepStays (Bad code no_body) s = s ≡ Bad code no_body

same_step : (s t : HeadStep) → t ≡ s → StepStays s t
same_step More t e = tt
same_step (Head head size) t e = e
same_step (Bad code no_body) t e = e

abbrev by_ask : Bool → Reading RequestHead → HeadStep
by_ask ask (Whole h) = cond (ltb 64 (length h.fields)) (Bad 400 ask) (tested ask h (fault_in h))
by_ask ask Wrong = Bad 400 ask
by_ask ask Short = More

no_more : (t : Bool) → (t && false) ≡ false
no_more true = refl
no_more false = refl

-- where a head has too many fields already it has so later, and then no more bytes are awaited
long_stays : (s : Reading RequestHead) (bytes more : List ℕ) → 65 < length (after_empty (lines bytes)) → RequestGrows (length (after_empty (lines bytes))) Short s
    → length (after_empty (lines bytes)) ≤ length (after_empty (lines (bytes ++ more))) → step_of (bytes ++ more) s ≡ Bad 400 (asks_head (bytes ++ more))
long_stays (Whole h) bytes more many grows left =
    let ask = asks_head (bytes ++ more) in
    ap (λ t. cond t (Bad 400 ask) (tested ask h (fault_in h))) (lt-ltb 64 (length h.fields) (omega (arith, many, grows)))
long_stays Wrong bytes more many grows left = refl
long_stays Short bytes more many grows left =
    let ask = asks_head (bytes ++ more) in
    let in_time = ltb (length (bytes ++ more)) 8192 in
    ap (λ t. cond (in_time && not t) More (Bad 400 ask)) (lt-ltb 65 (length (after_empty (lines (bytes ++ more)))) (omega (arith, many, left)))
    ∙ ap (λ t. cond t More (Bad 400 ask)) (no_more in_time)

waits_at : (t u : Bool) (bytes more : List ℕ) (s : Reading RequestHead) → ltb (length bytes) 8192 ≡ t → have_too_many (lines bytes) ≡ u → length bytes < 8192
    → RequestGrows (length (after_empty (lines bytes))) Short s → length (after_empty (lines bytes)) ≤ length (after_empty (lines (bytes ++ more)))
    → StepStays (cond (t && not u) More (Bad 400 (asks_head bytes))) (step_of (bytes ++ more) s)
waits_at true true bytes more s e many short grows left =
    let many : 65 < length (after_empty (lines bytes)) = ltb-true 65 (length (after_empty (lines bytes))) many in
    long_stays s bytes more many grows left ∙ ap (Bad 400) (asks_head-stays bytes more (some_left (lines bytes) (omega (arith, many))))
waits_at true false bytes more s e many short grows left = tt
waits_at false u bytes more s e many short grows left = absurd (omega (arith, ltb-false (length bytes) 8192 e, short))

step-stays : (bytes more : List ℕ) (r s : Reading RequestHead) → length bytes < 8192 → read_request (lines bytes) ≡ r → Stays r s
    → RequestGrows (length (after_empty (lines bytes))) r s → length (after_empty (lines bytes)) ≤ length (after_empty (lines (bytes ++ more)))
    → StepStays (step_of bytes r) (step_of (bytes ++ more) s)
step-stays bytes more (Whole h) s short e stays grows left =
    let ask = asks_head-stays bytes more (some_if_decided (has_some (lines bytes)) (lines bytes) (Whole h) refl e (λ q. cc)) in
    same_step (step_of bytes (Whole h)) (step_of (bytes ++ more) s) (ap (step_of (bytes ++ more)) stays ∙ ap (λ a. by_ask a (Whole h)) ask)
step-stays bytes more Wrong s short e stays grows left =
    let ask = asks_head-stays bytes more (some_if_decided (has_some (lines bytes)) (lines bytes) Wrong refl e (λ q. cc)) in
    ap (step_of (bytes ++ more)) stays ∙ ap (λ a. by_ask a Wrong) ask
step-stays bytes more Short s short e stays grows left = waits_at (ltb (length bytes) 8192) (have_too_many (lines bytes)) bytes more s refl refl short grows left

stays_short : (bytes rest : List ℕ) → length bytes < 8192 → StepStays (step_of bytes (read_request (lines bytes))) (step_of (bytes ++ rest) (read_request (lines (bytes ++ rest))))
stays_short bytes rest short =
    let f = lines-append bytes rest in
    let s : Stays (read_request (lines bytes)) (read_request (lines (bytes ++ rest))) = subst (λ z. Stays (read_request (lines bytes)) (read_request z)) (sym f.1) (request-stays (lines bytes) f.0) in
    let n = length (after_empty (lines bytes)) in
    let grows : RequestGrows n (read_request (lines bytes)) (read_request (lines (bytes ++ rest))) =
    subst (λ z. RequestGrows n (read_request (lines bytes)) (read_request z)) (sym f.1) (request_grows (lines bytes) f.0) in
    let left : n ≤ length (after_empty (lines (bytes ++ rest))) = subst (λ z. n ≤ length (after_empty z)) (sym f.1) (more_left (lines bytes) f.0) in
    step-stays bytes rest (read_request (lines bytes)) (read_request (lines (bytes ++ rest))) short refl s grows left

decided : (bytes more : List ℕ) → (length bytes < 8192) ⊎ (8192 ≤ length bytes) → StepStays (head_step bytes) (head_step (bytes ++ more))
decided bytes more (inl short) =
    let g = looked-short bytes more short in
    let a : head_step bytes ≡ step_of bytes (read_request (lines bytes)) = head_step-is bytes ∙ ap (λ z. step_of z (read_request (lines z))) (looked-all bytes short) in
    let b : head_step (bytes ++ more) ≡ step_of (bytes ++ g.0) (read_request (lines (bytes ++ g.0))) = head_step-is (bytes ++ more) ∙ ap (λ z. step_of z (read_request (lines z))) g.1 in
    subst (λ z. StepStays z (head_step (bytes ++ more))) (sym a) (subst (λ z. StepStays (step_of bytes (read_request (lines bytes))) z) (sym b) (stays_short bytes g.0 short))
decided bytes more (inr full) =
    same_step (head_step bytes) (head_step (bytes ++ more)) (head_step-is (bytes ++ more) ∙ ap (λ z. step_of z (read_request (lines z))) (looked-full bytes more full) ∙ sym (head_step-is bytes))

stays : (bytes more : List ℕ) → StepStays (head_step bytes) (head_step (bytes ++ more))
stays bytes more = decided bytes more (cases_lt (length bytes) 8192)

pub head-stays : HeadStays
head-stays bytes more head size e = subst (λ z. StepStays z (head_step (bytes ++ more))) e (stays bytes more)

pub refusal-stays : RefusalStays
refusal-stays bytes more code no_body e = subst (λ z. StepStays z (head_step (bytes ++ more))) e (stays bytes more)

-- ---- what the grammar says

says_tested : (o : Option ℕ) (bytes : List ℕ) (h : RequestHead) (rest : List ℕ) → fault_in h ≡ o → ReadsRequest bytes h rest → length h.fields ≤ 64 → Says bytes (tested (asks_head bytes) h o)
says_tested None bytes h rest e reads few = record { h = h; rest = rest; reads = reads; few = few; passes = e; head_is = refl; size_is = refl }
says_tested (Some code) bytes h rest e reads few = (inr (inl (h, rest, reads, few, e)), refl)

says_whole : (t : Bool) (bytes : List ℕ) (h : RequestHead) (rest : List ℕ) → ltb 64 (length h.fields) ≡ t → ReadsRequest bytes h rest
    → Says bytes (cond t (Bad 400 (asks_head bytes)) (tested (asks_head bytes) h (fault_in h)))
says_whole true bytes h rest e reads = (inl (h, rest, reads, ltb-true 64 (length h.fields) e, refl), refl)
says_whole false bytes h rest e reads = says_tested (fault_in h) bytes h rest refl reads (ltb-false 64 (length h.fields) e)

says_short : (t u : Bool) (bytes : List ℕ) → ltb (length bytes) 8192 ≡ t → have_too_many (lines bytes) ≡ u → read_request (lines bytes) ≡ Short → Means bytes Short
    → Says bytes (cond (t && not u) More (Bad 400 (asks_head bytes)))
says_short true true bytes e many r m = (inr (inr (inr (inr (m.0, overflows bytes r (ltb-true 65 (length (after_empty (lines bytes))) many), refl)))), refl)
says_short true false bytes e few r m =
    (m.0, (λ over. omega (arith, over m.1.0 m.1.1 [] m.1.2, m.1.3, ltb-false 65 (length (after_empty (lines bytes))) few)), ltb-true (length bytes) 8192 e)
says_short false u bytes e many r m = (inr (inr (inr (inl (m.0, ltb-false (length bytes) 8192 e, refl)))), refl)

says_at : (r : Reading RequestHead) (bytes : List ℕ) → read_request (lines bytes) ≡ r → Means bytes r → Says bytes (step_of bytes r)
says_at (Whole h) bytes e m = says_whole (ltb 64 (length h.fields)) bytes h m.0 refl m.1
says_at Wrong bytes e m = (inr (inr (inl (m.0, m.1, refl))), refl)
says_at Short bytes e m = says_short (ltb (length bytes) 8192) (have_too_many (lines bytes)) bytes refl refl e m

pub grammar-decides : GrammarDecides
grammar-decides bytes =
    subst (Says (looked bytes)) (sym (head_step-is bytes)) (says_at (read_request (lines (looked bytes))) (looked bytes) refl (meaning (looked bytes)))

-- ---- sizes

head_some : (h : RequestHead) → 0 < length (print_request h)
unfolding print_request
head_some h = last_some h.last _ _
  where
    last_some : (e : LineEnd) (a b : List ℕ) → 0 < length (a ++ (b ++ print_end e))
    last_some crlf a b = omega (arith, length-append a (b ++ 13 ∷ 10 ∷ []), length-append b (13 ∷ 10 ∷ []))
    last_some lf a b = omega (arith, length-append a (b ++ 10 ∷ []), length-append b (10 ∷ []))

pub size-fits : SizeFits
size-fits bytes head size e =
    let w : IsWhole (looked bytes) head size = subst (Says (looked bytes)) e (grammar-decides bytes) in
    let fits = looked-fits bytes in
    let l = ap length w.reads.1 in
    let some = head_some w.h in
    let is = w.size_is in
    (omega (arith, some, is), omega (arith, is, l, fits.0, length-append (print_request w.h) w.rest), omega (arith, is, l, fits.1, length-append (print_request w.h) w.rest))

pub full-decides : FullDecides
full-decides bytes full e =
    let w : Says (looked bytes) More = subst (Says (looked bytes)) e (grammar-decides bytes) in
    omega (arith, w.2, length-looked bytes full)

-- ---- bytes after which no line ends

not_tested : (o : Option ℕ) (ask : Bool) (h : RequestHead) → tested ask h o ≡ More → ⊥
not_tested None ask h e = cc
not_tested (Some code) ask h e = cc

not_whole : (t : Bool) (ask : Bool) (h : RequestHead) (o : Option ℕ) → cond t (Bad 400 ask) (tested ask h o) ≡ More → ⊥
not_whole true ask h o e = cc
not_whole false ask h o e = not_tested o ask h e

short_if_more : (r : Reading RequestHead) (bytes : List ℕ) → step_of bytes r ≡ More → r ≡ Short
short_if_more (Whole h) bytes e = absurd (not_whole (ltb 64 (length h.fields)) (asks_head bytes) h (fault_in h) e)
short_if_more Wrong bytes e = absurd (let no : ⊥ = cc in no)
short_if_more Short bytes e = refl

few_at : (t : Bool) (ask : Bool) → cond t More (Bad 400 ask) ≡ More → t ≡ true
few_at true ask e = refl
few_at false ask e = absurd (let no : ⊥ = cc in no)

pub waits-still : (xs ys : List ℕ) → list_all is_no_lf ys ≡ true → length (xs ++ ys) < 8192 → head_step xs ≡ More → head_step (xs ++ ys) ≡ More
waits-still xs ys none short e =
    let before : length xs < 8192 = omega (arith, length-append xs ys) in
    let a : step_of xs (read_request (lines xs)) ≡ More = sym (ap (λ z. step_of z (read_request (lines z))) (looked-all xs before)) ∙ sym (head_step-is xs) ∙ e in
    let was : read_request (lines xs) ≡ Short = short_if_more (read_request (lines xs)) xs a in
    let r : read_request (lines (xs ++ ys)) ≡ Short = ap read_request (lines-append_none xs ys none) ∙ was in
    let few = and_parts (ltb (length xs) 8192) (not (have_too_many (lines xs))) (few_at (ltb (length xs) 8192 && not (have_too_many (lines xs))) (asks_head xs) (ap (step_of xs) (sym was) ∙ a)) in
    let few_too : not (have_too_many (lines (xs ++ ys))) ≡ true = ap (λ z. not (have_too_many z)) (lines-append_none xs ys none) ∙ few.1 in
    head_step-is (xs ++ ys) ∙ ap (λ z. step_of z (read_request (lines z))) (looked-all (xs ++ ys) short) ∙ ap (step_of (xs ++ ys)) r
    ∙ ap (λ t. cond t More (Bad 400 (asks_head (xs ++ ys)))) (and_from (ltb (length (xs ++ ys)) 8192) (not (have_too_many (lines (xs ++ ys)))) (lt-ltb (length (xs ++ ys)) 8192 short) few_too)
