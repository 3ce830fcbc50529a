-- A word up to its first `%` stands for itself.
use Rattle.std.proofs.Common.{◌≡◌, ℕ, suc, ◌+◌, ◌*◌, ◌<◌, ◌≤◌, Bool, true, false, cond, eqb, not, ◌&&◌, List, [], ◌∷◌, ◌++◌, length, take, drop, Result, Ok, Err, refl, ap, sym, ◌∙◌, arith, append_assoc, add-one, subst, get_or, length-append}
use Rattle.std.proofs.lemmas.List.{length-take-le}
use Rattle.std.specs.List.{position_or_len}
use Rattle.std.specs.Char.{digit_value}
use Rattle.replay_words.specs.declared.faults.FaultKind.{FaultKind}
use Rattle.replay_words.specs.declared.faults.FaultKind.TheVariants.{Escape}
use Rattle.replay_words.specs.Escapes.{is_hex, unescaped, behind_percent, onto, with_byte, measured}

-- how many bytes come before the first `%`
abbrev before : List ℕ → ℕ
before bs = position_or_len (λ b. eqb b 37) bs

pub onto-onto : (a b : List ℕ) (r : Result (List ℕ) FaultKind) → onto a (onto b r) ≡ onto (a ++ b) r
onto-onto a b (Ok bs) = ap Ok (sym (append_assoc a b bs))
onto-onto a b (Err kind) = refl

with_byte-onto : (b : ℕ) (bs : List ℕ) (r : Result (List ℕ) FaultKind) → with_byte b (onto bs r) ≡ onto (b ∷ bs) r
with_byte-onto b bs (Ok x) = refl
with_byte-onto b bs (Err kind) = refl

onto-nil : (r : Result (List ℕ) FaultKind) → onto [] r ≡ r
onto-nil (Ok x) = refl
onto-nil (Err kind) = refl

pub onto-with_byte : (front : List ℕ) (b : ℕ) (r : Result (List ℕ) FaultKind) → onto front (with_byte b r) ≡ onto (front ++ b ∷ []) r
onto-with_byte front b (Ok x) = ap Ok (sym (append_assoc front (b ∷ []) x))
onto-with_byte front b (Err kind) = refl

whole_by : (b : ℕ) (bs : List ℕ) (t : Bool) → cond (not t) (1 + before bs) 0 ≡ suc (length bs) → (before bs ≡ length bs → unescaped bs ≡ Ok bs) → cond t (behind_percent bs) (with_byte b (unescaped bs)) ≡ Ok (b ∷ bs)
whole_by b bs true e ih = absurd (omega arith)
whole_by b bs false e ih = ap (with_byte b) (ih (omega arith))

-- without a `%` a word stands for itself
pub unescaped_whole : (bs : List ℕ) → before bs ≡ length bs → unescaped bs ≡ Ok bs
unfolding unescaped
unescaped_whole [] e = refl
unescaped_whole (b ∷ bs) e = whole_by b bs (eqb b 37) e (unescaped_whole bs)

cut_by : (b : ℕ) (bs : List ℕ) (t : Bool) → cond (not t) (1 + before bs) 0 < suc (length bs) → (before bs < length bs → unescaped bs ≡ onto (take (before bs) bs) (behind_percent (drop (suc (before bs)) bs))) → cond t (behind_percent bs) (with_byte b (unescaped bs)) ≡ onto (take (cond (not t) (1 + before bs) 0) (b ∷ bs)) (behind_percent (drop (suc (cond (not t) (1 + before bs) 0)) (b ∷ bs)))
cut_by b bs true h ih = sym (onto-nil _)
cut_by b bs false h ih =
    let e : 1 + before bs ≡ suc (before bs) = omega arith in
    rw e (ap (with_byte b) (ih (omega arith)) ∙ with_byte-onto b _ _)

-- what comes before the first `%` stands for itself
pub unescaped_cut : (bs : List ℕ) → before bs < length bs → unescaped bs ≡ onto (take (before bs) bs) (behind_percent (drop (suc (before bs)) bs))
unfolding unescaped
unescaped_cut [] h = absurd (omega arith)
unescaped_cut (b ∷ bs) h = cut_by b bs (eqb b 37) h (unescaped_cut bs)

pub unescaped_cut_at : (bs : List ℕ) (at : ℕ) → at ≡ before bs → at < length bs → unescaped bs ≡ onto (take at bs) (behind_percent (drop (at + 1) bs))
unescaped_cut_at bs at e h =
    let P : ℕ → Type 0 = λ n. n < length bs → unescaped bs ≡ onto (take n bs) (behind_percent (drop (n + 1) bs)) in
    subst P (sym e) (λ k. rw add-one (unescaped_cut bs k)) h

-- the digits after a `%`
pub behind_short : (bs : List ℕ) → length bs < 2 → behind_percent bs ≡ Err Escape
unfolding behind_percent
behind_short [] h = refl
behind_short (a ∷ []) h = refl
behind_short (a ∷ b ∷ bs) h = absurd (omega arith)

pub behind_pair : (bs : List ℕ) → 2 ≤ length bs → behind_percent bs ≡ cond (is_hex (get_or bs 0 0) && is_hex (get_or bs 1 0)) (with_byte (16 * digit_value (get_or bs 0 0) + digit_value (get_or bs 1 0)) (unescaped (drop 2 bs))) (Err Escape)
unfolding behind_percent
behind_pair [] h = absurd (omega arith)
behind_pair (a ∷ []) h = absurd (omega arith)
behind_pair (a ∷ b ∷ bs) h = refl

measured-onto : (n : ℕ) (front : List ℕ) (r : Result (List ℕ) FaultKind) → measured n (onto front r) ≡ measured (n + length front) r
measured-onto n front (Ok bs) = ap Ok (omega (arith, length-append front bs))
measured-onto n front (Err kind) = refl

measured-with_byte : (n b : ℕ) (r : Result (List ℕ) FaultKind) → measured n (with_byte b r) ≡ measured (n + 1) r
measured-with_byte n b (Ok bs) = ap Ok (omega arith)
measured-with_byte n b (Err kind) = refl

pub measured_whole : (n at m : ℕ) (bs : List ℕ) → at ≡ before bs → at ≡ length bs → m ≡ n + at → measured n (unescaped bs) ≡ Ok m
measured_whole n at m bs e h k = ap (measured n) (unescaped_whole bs (sym e ∙ h)) ∙ ap Ok (omega arith)

pub measured_fault : (n at : ℕ) (bs : List ℕ) → at ≡ before bs → at < length bs → behind_percent (drop (at + 1) bs) ≡ Err Escape → measured n (unescaped bs) ≡ Err Escape
measured_fault n at bs e h f = ap (measured n) (unescaped_cut_at bs at e h ∙ ap (onto (take at bs)) f)

pub measured_cut : (n at m b : ℕ) (bs rest : List ℕ) → at ≡ before bs → at < length bs → behind_percent (drop (at + 1) bs) ≡ with_byte b (unescaped rest) → m ≡ n + at + 1 → measured m (unescaped rest) ≡ measured n (unescaped bs)
measured_cut n at m b bs rest e h f k =
    let front : length (take at bs) ≡ at = length-take-le at bs (omega arith) in
    let sum : m ≡ (n + length (take at bs)) + 1 = omega arith in
    ap (λ k. measured k (unescaped rest)) sum
    ∙ sym (measured-with_byte (n + length (take at bs)) b (unescaped rest))
    ∙ ap (measured (n + length (take at bs))) (sym f)
    ∙ sym (measured-onto n (take at bs) _)
    ∙ sym (ap (measured n) (unescaped_cut_at bs at e h))
