-- What comes after the last `.` of the last segment, found from the end back.
use Rattle.std.proofs.Common.{◌≡◌, ℕ, zero, suc, ◌+◌, ◌-◌, ◌<◌, ◌≤◌, Bool, true, false, not, cond, List, Some, None, length, get_or, take, drop, ◌⊎◌, inl, inr, sym, ap, ◌∙◌, arith}
use Rattle.std.specs.List.{after_last, list_any, suffix_len}
use Rattle.std.proofs.lemmas.List.{get_or_default, get_or-drop, drop-drop, length-drop, take_all}
use Rattle.std.proofs.lemmas.List.Sums.{suffix_len_is, suffix_len-take_yes}
use Rattle.std.proofs.lemmas.List.Folds.{list_any_at, list_any_none}
use Rattle.std.proofs.lemmas.Bool.{cases_eq, ne_eqb, not_from_true, not_from_false}
use Rattle.file_type.specs.Extension.{is_byte, last_segment, extension_of_segment, extension}

-- no byte from n on is this one
abbrev pub NoneFrom : ℕ → List ℕ → ℕ → Type 0
NoneFrom byte text n = (k : ℕ) → n ≤ k → k < length text → is_byte byte (get_or text k 0) ≡ false

-- one more byte that isn't this one
none_from_before : (byte : ℕ) (text : List ℕ) (n : ℕ) → is_byte byte (get_or text n 0) ≡ false → NoneFrom byte text (n + 1) → NoneFrom byte text n
none_from_before byte text n here none k low high = by (cases_eq k n)
  where
    by : (k ≡ n) ⊎ (k ≡ n → ⊥) → is_byte byte (get_or text k 0) ≡ false
    by (inl is) = ap (λ j. is_byte byte (get_or text j 0)) is ∙ here
    by (inr other) = none k (omega (arith, other, low)) high

-- what comes after the last such byte, which is before n
after_last_at : (byte : ℕ) (text : List ℕ) (n : ℕ) → n ≤ length text → NoneFrom byte text n → (0 < n → is_byte byte (get_or text (n - 1) 0) ≡ true) → after_last (is_byte byte) text ≡ drop n text
after_last_at byte text n within none last =
    let len : suffix_len (λ x. not (is_byte byte x)) text ≡ length text - n =
    suffix_len_is (λ x. not (is_byte byte x)) text n 0 within (λ k low high. not_from_false _ (none k low high)) (λ some. not_from_true _ (last some)) in
    let same : length text - suffix_len (λ x. not (is_byte byte x)) text ≡ n = omega (arith, len, within) in
    ap (λ k. drop k text) same

has_none : (byte : ℕ) (text : List ℕ) → NoneFrom byte text 0 → list_any (is_byte byte) text ≡ false
has_none byte text none = list_any_none (is_byte byte) text (λ k d within. ap (is_byte byte) (get_or_default text k d 0 within) ∙ none k (omega arith) within)

-- the bytes from n on that pass are among the last that do
suffix_from : (p : ℕ → Bool) (text : List ℕ) (n more : ℕ) → n + more ≤ length text → ((k : ℕ) → n ≤ k → k < n + more → p (get_or text k 0) ≡ true) → suffix_len p (take (n + more) text) ≡ more + suffix_len p (take n text)
suffix_from p text n zero within passes =
    let on : n + zero ≡ n = omega arith in
    let none : zero + suffix_len p (take n text) ≡ suffix_len p (take n text) = omega arith in
    ap (λ k. suffix_len p (take k text)) on ∙ sym none
suffix_from p text n (suc more) within passes =
    let back : n + suc more - 1 ≡ n + more = omega arith in
    suffix_len-take_yes p text (n + suc more) 0 (omega arith) within (passes (n + suc more - 1) (omega arith) (omega arith))
    ∙ ap (λ k. 1 + suffix_len p (take k text)) back
    ∙ (let rest = suffix_from p text n more (omega (arith, within)) (λ k low high. passes k low (omega (arith, high))) in omega (arith, rest))

-- the bytes from n on belong to the last segment, so it begins before n
segment_begins : (byte : ℕ) (text : List ℕ) (n : ℕ) → n ≤ length text → NoneFrom byte text n → length text - suffix_len (λ x. not (is_byte byte x)) text ≤ n
segment_begins byte text n within none =
    let p : ℕ → Bool = λ x. not (is_byte byte x) in
    let all : n + (length text - n) ≡ length text = omega (arith, within) in
    let long = suffix_from p text n (length text - n) (omega (arith, within)) (λ k low high. not_from_false _ (none k low (omega (arith, high, within)))) in
    let whole : suffix_len p (take (n + (length text - n)) text) ≡ suffix_len p text = ap (λ k. suffix_len p (take k text)) all ∙ ap (suffix_len p) (take_all (length text) text (omega arith)) in
    omega (arith, long, whole, within)

module _ (path : List ℕ) (n : ℕ) (within : n ≤ length path) (dots : NoneFrom 46 path n) (slashes : NoneFrom 47 path n) where
  -- a `.` before n, and after it neither a `.` nor a `/`
  pub extension_at : 0 < n → get_or path (n - 1) 0 ≡ 46 → extension path ≡ Some (drop n path)
  extension_at some dot =
      let back : n - 1 + 1 ≡ n = omega (arith, some) in
      let other : is_byte 47 (get_or path (n - 1) 0) ≡ false = ap (is_byte 47) dot in
      let before : NoneFrom 47 path (n - 1) = none_from_before 47 path (n - 1) other (λ k low high. slashes k (omega (arith, low, some)) high) in
      let s = length path - suffix_len (λ x. not (is_byte 47 x)) path in
      let begins : s ≤ n - 1 = segment_begins 47 path (n - 1) (omega (arith, within)) before in
      let segment : List ℕ = drop s path in
      let long : length segment ≡ length path - s = length-drop s path in
      let after : NoneFrom 46 segment (n - s) = λ k low high. ap (is_byte 46) (get_or-drop s path k 0) ∙ dots (s + k) (omega (arith, low, begins)) (omega (arith, high, long)) in
      let on : s + (n - s - 1) ≡ n - 1 = omega (arith, begins, some) in
      let here : is_byte 46 (get_or segment (n - s - 1) 0) ≡ true = ap (is_byte 46) (get_or-drop s path (n - s - 1) 0 ∙ ap (λ j. get_or path j 0) on ∙ dot) in
      let has : list_any (is_byte 46) segment ≡ true = list_any_at (is_byte 46) segment (n - s - 1) 0 (omega (arith, long, begins, some, within)) here in
      let rest : after_last (is_byte 46) segment ≡ drop (n - s) segment = after_last_at 46 segment (n - s) (omega (arith, long, within, begins)) after (λ more. here) in
      let whole : s + (n - s) ≡ n = omega (arith, begins, some) in
      ap (λ b. cond b (Some (after_last (is_byte 46) segment)) None) has
      ∙ ap Some (rest ∙ drop-drop (n - s) s path ∙ ap (λ j. drop j path) whole)

  -- neither a `.` nor a `/` from n on, where the last segment begins
  pub extension_none : (0 < n → get_or path (n - 1) 0 ≡ 47) → extension path ≡ None
  extension_none slash =
      let segment : last_segment path ≡ drop n path = after_last_at 47 path n within slashes (λ some. ap (is_byte 47) (slash some)) in
      let long : length (drop n path) ≡ length path - n = length-drop n path in
      let none : list_any (is_byte 46) (drop n path) ≡ false = has_none 46 (drop n path) (λ k low high. ap (is_byte 46) (get_or-drop n path k 0) ∙ dots (n + k) (omega arith) (omega (arith, high, long))) in
      ap extension_of_segment segment
      ∙ ap (λ b. cond b (Some (after_last (is_byte 46) (drop n path))) None) none

-- a byte more that is neither a `.` nor a `/`
pub more : (path : List ℕ) (n : ℕ) → 0 < n → (get_or path (n - 1) 0 ≡ 46 → ⊥) → (get_or path (n - 1) 0 ≡ 47 → ⊥) → NoneFrom 46 path n → NoneFrom 47 path n → NoneFrom 46 path (n - 1) × NoneFrom 47 path (n - 1)
more path n some dot slash dots slashes = (
  none_from_before 46 path (n - 1) (ne_eqb _ 46 dot) (λ k low high. dots k (omega (arith, low, some)) high),
  none_from_before 47 path (n - 1) (ne_eqb _ 47 slash) (λ k low high. slashes k (omega (arith, low, some)) high),
)
