-- Sums of bytes, a term at a time, as loops read them.
use Rattle.std.proofs.Common.{◌≡◌, ℕ, zero, suc, ◌+◌, ◌-◌, ◌*◌, ◌^◌, ◌<◌, ◌≤◌, min, List, [], ◌∷◌, ◌++◌, length, take, drop, get_or, option_map, Result, Ok, Err, refl, sym, ap, ◌∙◌, append_assoc, append-nil, drop-cons, arith, length-append, add-one, take-append-drop}
use Rattle.std.proofs.Math.Nat.{suc-mul, mul-le-mul_right, zero-mul, zero-add, suc-add}
use Rattle.std.proofs.Math.Seq.{take-append_seam, drop-append_seam}
use Rattle.std.proofs.Math.ListN.{drop_of_length-le}
use Rattle.replay_words.specs.declared.faults.FaultKind.{FaultKind}
use Rattle.replay_words.specs.declared.faults.LineError.{LineError}
use Rattle.replay_words.specs.declared.faults.LineError.TheVariants as lines
use Rattle.replay_words.specs.declared.sums.TermWords.{TermWords}
use Rattle.replay_words.specs.declared.sums.CountedWord.{CountedWord}
use Rattle.replay_words.specs.Faults.{◌>>=◌, LineFails}
use Rattle.replay_words.specs.Escapes.{unescaped, onto, measured}
use Rattle.replay_words.specs.Sums.{Term, Counted, count_of, counts_of, repeated, sum_bytes}
use Rattle.replay_words.specs.Steps.{term_view, term_views, counted_view, counted_views, with_counted, times_text, capped}

abbrev ok : {A : Type 0} → A → Result A FaultKind
ok x = Ok x

ok_value : {A : Type 0} {x y : A} → ok x ≡ ok y → x ≡ y
ok_value h = cc

ok_number : {x y : ℕ} → ok x ≡ ok y → x ≡ y
ok_number h = cc

err_ok : {A : Type 0} {x : A} {kind : FaultKind} → Err kind ≡ Ok x → ⊥
err_ok h = cc

ok_err : {A : Type 0} {x : A} {kind : FaultKind} → Ok x ≡ Err kind → ⊥
ok_err h = cc

joined : (old text new : List ℕ) (r : Result (List ℕ) FaultKind) → old ++ text ≡ new → onto old (r >>= λ others. Ok (text ++ others)) ≡ onto new r
joined old text new (Ok others) h = ap Ok (sym (append_assoc old text others) ∙ ap (λ bs. bs ++ others) h)
joined old text new (Err kind) h = refl

-- the numbers of terms

counted_regroup : (front : List Counted) (c : Counted) (r : Result (List Counted) FaultKind) → with_counted front (r >>= λ others. Ok (c ∷ others)) ≡ with_counted (front ++ c ∷ []) r
counted_regroup front c (Ok ts) = ap Ok (sym (append_assoc front (c ∷ []) ts))
counted_regroup front c (Err kind) = refl

counted_step : (t : Term) (ts : List Term) (n : ℕ) → count_of t.times ≡ Ok n → counts_of (t ∷ ts) ≡ (counts_of ts >>= λ others. Ok (record { word = t.word; count = n } ∷ others))
unfolding counts_of
counted_step t ts n h = ap (λ r. r >>= λ count. counts_of ts >>= λ others. Ok (record { word = t.word; count = count } ∷ others)) h

counted_fault : (t : Term) (ts : List Term) (kind : FaultKind) → count_of t.times ≡ Err kind → counts_of (t ∷ ts) ≡ Err kind
unfolding counts_of
counted_fault t ts kind h = ap (λ r. r >>= λ count. counts_of ts >>= λ others. Ok (record { word = t.word; count = count } ∷ others)) h

pub counts_go_on : (front : List Counted) (ts : List TermWords) (i : ℕ) (d : TermWords) (n : ℕ) (total : Result (List Counted) FaultKind) → i < length ts → count_of (option_map (λ w. w.now) (get_or ts i d).times) ≡ Ok n
    → with_counted front (counts_of (term_views (drop i ts))) ≡ total → with_counted (front ++ record { word = (get_or ts i d).word.now; count = n } ∷ []) (counts_of (term_views (drop (i + 1) ts))) ≡ total
counts_go_on front ts i d n total lt h so_far =
    let step = counted_step (term_view (get_or ts i d)) (term_views (drop (suc i) ts)) n h in
    rw add-one (sym (counted_regroup front _ _) ∙ ap (with_counted front) (sym step) ∙ ap (λ xs. with_counted front (counts_of (term_views xs))) (sym (drop-cons ts i d lt)) ∙ so_far)

pub counts_fail : (e : LineError) (front : List Counted) (ts : List TermWords) (i : ℕ) (d : TermWords) (total : Result (List Counted) FaultKind) → i < length ts → LineFails e (count_of (option_map (λ w. w.now) (get_or ts i d).times))
    → with_counted front (counts_of (term_views (drop i ts))) ≡ total → LineFails e total
counts_fail lines.OutOfMemory front ts i d total lt h so_far = tt
counts_fail (lines.Fault kind) front ts i d total lt h so_far =
    sym so_far ∙ ap (λ xs. with_counted front (counts_of (term_views xs))) (drop-cons ts i d lt)
    ∙ ap (with_counted front) (counted_fault (term_view (get_or ts i d)) (term_views (drop (suc i) ts)) kind h)

pub counts_none : counts_of [] ≡ Ok []
unfolding counts_of
counts_none = refl

pub counts_end : (front : List Counted) (ts : List TermWords) (i : ℕ) (total : Result (List Counted) FaultKind) → length ts ≤ i → with_counted front (counts_of (term_views (drop i ts))) ≡ total → total ≡ Ok front
counts_end front ts i total le so_far =
    sym so_far ∙ ap (λ xs. with_counted front (counts_of (term_views xs))) (drop_of_length-le ts le) ∙ ap (with_counted front) counts_none ∙ ap Ok (append-nil front)

-- a text this many times

pub repeated-add : (m n : ℕ) (text : List ℕ) → repeated (m + n) text ≡ repeated m text ++ repeated n text
repeated-add zero n text = ap (λ k. repeated k text) (zero-add n)
repeated-add (suc m) n text = ap (λ k. repeated k text) (suc-add m n) ∙ (ap (λ bs. text ++ bs) (repeated-add m n text) ∙ sym (append_assoc text (repeated m text) (repeated n text)))

pub length-repeated : (n : ℕ) (text : List ℕ) → length (repeated n text) ≡ n * length text
length-repeated zero text = sym (zero-mul (length text))
length-repeated (suc n) text = length-append text (repeated n text) ∙ ap (λ k. length text + k) (length-repeated n text) ∙ (let e : n * length text + length text ≡ length text + n * length text = omega arith in sym e) ∙ sym (suc-mul n (length text))

repeated-one : (text : List ℕ) → repeated 1 text ≡ text
repeated-one text = append-nil text

-- the first copies, copied again
take_repeated : (m n : ℕ) (text : List ℕ) → take (m * length text) (repeated (m + n) text) ≡ repeated m text
take_repeated m n text =
    ap (take (m * length text)) (repeated-add m n text)
    ∙ ap (λ k. take k (repeated m text ++ repeated n text)) (sym (length-repeated m text))
    ∙ take-append_seam (repeated m text) (repeated n text)

pub copied : (front bytes text now : List ℕ) (start len more done all : ℕ) → length front ≡ start → length text ≡ len → more ≤ done → bytes ≡ front ++ repeated done text
    → now ≡ bytes ++ take ((start + more * len) - start) (drop start bytes) → all ≡ done + more → now ≡ front ++ repeated all text
copied front bytes text now start len more done all at width le is grown sum =
    let tail : drop start bytes ≡ repeated done text = ap (drop start) is ∙ ap (λ k. drop k (front ++ repeated done text)) (sym at) ∙ drop-append_seam front (repeated done text) in
    let rest : done ≡ more + (done - more) = omega arith in
    let size : (start + more * len) - start ≡ more * length text = ap (λ k. (start + more * k) - start) (sym width) ∙ (let e : (start + more * length text) - start ≡ more * length text = omega arith in e) in
    let part : take ((start + more * len) - start) (drop start bytes) ≡ repeated more text =
    ap (λ k. take k (drop start bytes)) size ∙ ap (take (more * length text)) (tail ∙ ap (λ k. repeated k text) rest) ∙ take_repeated more (done - more) text in
    grown ∙ ap (λ bs. bytes ++ bs) part ∙ ap (λ bs. bs ++ repeated more text) is ∙ append_assoc front (repeated done text) (repeated more text)
    ∙ ap (λ bs. front ++ bs) (sym (repeated-add done more text)) ∙ ap (λ k. front ++ repeated k text) (sym sum)

-- the copies are within the bytes
pub copies_within : (front bytes text : List ℕ) (start len more done : ℕ) → length front ≡ start → length text ≡ len → more ≤ done → bytes ≡ front ++ repeated done text → start + more * len ≤ length bytes
copies_within front bytes text start len more done at width le is =
    let size : length bytes ≡ length front + done * len = ap length is ∙ length-append front (repeated done text) ∙ ap (λ k. length front + k) (length-repeated done text ∙ ap (λ k. done * k) width) in
    omega (arith, mul-le-mul_right len le)

pub copies_begin : (bytes : List ℕ) (start : ℕ) → bytes ≡ take start bytes ++ repeated 1 (drop start bytes)
copies_begin bytes start = sym (ap (λ bs. take start bytes ++ bs) (repeated-one (drop start bytes)) ∙ take-append-drop start bytes)

counted_len : (n old new : ℕ) (text : List ℕ) (r : Result (List ℕ) FaultKind) → new ≡ min (old + min (n * length text) (2 ^ 64 - 1)) (2 ^ 64 - 1) → capped old (r >>= λ others. Ok (repeated n text ++ others)) ≡ capped new r
counted_len n old new text (Ok others) h =
    let size : length (repeated n text ++ others) ≡ n * length text + length others = length-append (repeated n text) others ∙ ap (λ k. k + length others) (length-repeated n text) in
    ap Ok (omega arith)
counted_len n old new text (Err kind) h = refl

-- a term after other bytes

pub term_put : (n : ℕ) (old text bytes new : List ℕ) (r : Result (List ℕ) FaultKind) → onto old r ≡ Ok bytes → new ≡ take (length old) bytes ++ repeated n (drop (length old) bytes) → onto old (times_text n r) ≡ Ok new
term_put n old text bytes new (Ok t) h k =
    let is : bytes ≡ old ++ t = sym (ok_value h) in
    let front : take (length old) bytes ≡ old = ap (take (length old)) is ∙ take-append_seam old t in
    let back : drop (length old) bytes ≡ t = ap (drop (length old)) is ∙ drop-append_seam old t in
    ap Ok (sym (k ∙ (λ i. front i ++ repeated n (back i))))
term_put n old text bytes new (Err kind) h k = absurd (err_ok h)

pub term_fails : (e : LineError) (n : ℕ) (old : List ℕ) (r : Result (List ℕ) FaultKind) → LineFails e (onto old r) → LineFails e (onto old (times_text n r))
term_fails lines.OutOfMemory n old r h = tt
term_fails (lines.Fault kind) n old (Ok t) h = absurd (ok_err h)
term_fails (lines.Fault kind) n old (Err k) h = h

-- the sum, a term at a time

bytes_step : (c : Counted) (cs : List Counted) (old new : List ℕ) (r : Result (List ℕ) FaultKind) → onto old (times_text c.count r) ≡ Ok new
    → onto old (r >>= λ text. sum_bytes cs >>= λ others. Ok (repeated c.count text ++ others)) ≡ onto new (sum_bytes cs)
bytes_step c cs old new (Ok text) h = joined old (repeated c.count text) new (sum_bytes cs) (ok_value h)
bytes_step c cs old new (Err kind) h = absurd (err_ok h)

pub bytes_go_on : (old new : List ℕ) (ts : List CountedWord) (i : ℕ) (d : CountedWord) (total : Result (List ℕ) FaultKind) → i < length ts → onto old (times_text (get_or ts i d).count (unescaped (get_or ts i d).word.now)) ≡ Ok new
    → onto old (sum_bytes (counted_views (drop i ts))) ≡ total → onto new (sum_bytes (counted_views (drop (i + 1) ts))) ≡ total
unfolding sum_bytes
bytes_go_on old new ts i d total lt h so_far =
    rw add-one (sym (bytes_step (counted_view (get_or ts i d)) (counted_views (drop (suc i) ts)) old new (unescaped (get_or ts i d).word.now) h)
    ∙ ap (λ xs. onto old (sum_bytes (counted_views xs))) (sym (drop-cons ts i d lt)) ∙ so_far)

bytes_fault : (c : Counted) (cs : List Counted) (old : List ℕ) (kind : FaultKind) (r : Result (List ℕ) FaultKind) → onto old (times_text c.count r) ≡ Err kind
    → onto old (r >>= λ text. sum_bytes cs >>= λ others. Ok (repeated c.count text ++ others)) ≡ Err kind
bytes_fault c cs old kind (Ok text) h = absurd (ok_err h)
bytes_fault c cs old kind (Err k) h = h

pub bytes_fail : (e : LineError) (old : List ℕ) (ts : List CountedWord) (i : ℕ) (d : CountedWord) (total : Result (List ℕ) FaultKind) → i < length ts → LineFails e (onto old (times_text (get_or ts i d).count (unescaped (get_or ts i d).word.now)))
    → onto old (sum_bytes (counted_views (drop i ts))) ≡ total → LineFails e total
unfolding sum_bytes
bytes_fail lines.OutOfMemory old ts i d total lt h so_far = tt
bytes_fail (lines.Fault kind) old ts i d total lt h so_far =
    sym so_far ∙ ap (λ xs. onto old (sum_bytes (counted_views xs))) (drop-cons ts i d lt)
    ∙ bytes_fault (counted_view (get_or ts i d)) (counted_views (drop (suc i) ts)) old kind (unescaped (get_or ts i d).word.now) h

bytes_none : sum_bytes [] ≡ Ok []
unfolding sum_bytes
bytes_none = refl

pub bytes_end : (old : List ℕ) (ts : List CountedWord) (i : ℕ) (total : Result (List ℕ) FaultKind) → length ts ≤ i → onto old (sum_bytes (counted_views (drop i ts))) ≡ total → total ≡ Ok old
bytes_end old ts i total le so_far =
    sym so_far ∙ ap (λ xs. onto old (sum_bytes (counted_views xs))) (drop_of_length-le ts le) ∙ ap (onto old) bytes_none ∙ ap Ok (append-nil old)

-- the length of the sum, a term at a time

len_step : (c : Counted) (cs : List Counted) (old new len : ℕ) (r : Result (List ℕ) FaultKind) → measured 0 r ≡ Ok len → new ≡ min (old + min (c.count * len) (2 ^ 64 - 1)) (2 ^ 64 - 1)
    → capped old (r >>= λ text. sum_bytes cs >>= λ others. Ok (repeated c.count text ++ others)) ≡ capped new (sum_bytes cs)
len_step c cs old new len (Ok text) h k = counted_len c.count old new text (sum_bytes cs) (k ∙ ap (λ n. min (old + min (c.count * n) (2 ^ 64 - 1)) (2 ^ 64 - 1)) (let e : len ≡ length text = omega (arith, ok_number h) in e))
len_step c cs old new len (Err kind) h k = absurd (err_ok h)

pub len_go_on : (old new len : ℕ) (ts : List CountedWord) (i : ℕ) (d : CountedWord) (total : Result ℕ FaultKind) → i < length ts → measured 0 (unescaped (get_or ts i d).word.now) ≡ Ok len
    → new ≡ min (old + min ((get_or ts i d).count * len) (2 ^ 64 - 1)) (2 ^ 64 - 1)
    → capped old (sum_bytes (counted_views (drop i ts))) ≡ total → capped new (sum_bytes (counted_views (drop (i + 1) ts))) ≡ total
unfolding sum_bytes
len_go_on old new len ts i d total lt h k so_far =
    rw add-one (sym (len_step (counted_view (get_or ts i d)) (counted_views (drop (suc i) ts)) old new len (unescaped (get_or ts i d).word.now) h k)
    ∙ ap (λ xs. capped old (sum_bytes (counted_views xs))) (sym (drop-cons ts i d lt)) ∙ so_far)

len_fault : (c : Counted) (cs : List Counted) (old : ℕ) (kind : FaultKind) (r : Result (List ℕ) FaultKind) → measured 0 r ≡ Err kind
    → capped old (r >>= λ text. sum_bytes cs >>= λ others. Ok (repeated c.count text ++ others)) ≡ Err kind
len_fault c cs old kind (Ok text) h = absurd (ok_err h)
len_fault c cs old kind (Err k) h = h

pub len_fail : (e : LineError) (old : ℕ) (ts : List CountedWord) (i : ℕ) (d : CountedWord) (total : Result ℕ FaultKind) → i < length ts → LineFails e (measured 0 (unescaped (get_or ts i d).word.now))
    → capped old (sum_bytes (counted_views (drop i ts))) ≡ total → LineFails e total
unfolding sum_bytes
len_fail lines.OutOfMemory old ts i d total lt h so_far = tt
len_fail (lines.Fault kind) old ts i d total lt h so_far =
    sym so_far ∙ ap (λ xs. capped old (sum_bytes (counted_views xs))) (drop-cons ts i d lt)
    ∙ len_fault (counted_view (get_or ts i d)) (counted_views (drop (suc i) ts)) old kind (unescaped (get_or ts i d).word.now) h

pub len_end : (old : ℕ) (ts : List CountedWord) (i : ℕ) (total : Result ℕ FaultKind) → length ts ≤ i → old ≤ 2 ^ 64 - 1 → capped old (sum_bytes (counted_views (drop i ts))) ≡ total → total ≡ Ok old
len_end old ts i total le fits so_far =
    sym so_far ∙ ap (λ xs. capped old (sum_bytes (counted_views xs))) (drop_of_length-le ts le) ∙ ap (capped old) bytes_none ∙ ap Ok (omega arith)
