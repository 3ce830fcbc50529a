-- Texts cut at their first space, and without the spaces at their end.
use Rattle.std.proofs.Common.{◌≡◌, ℕ, suc, ◌+◌, ◌-◌, ◌<◌, ◌≤◌, true, false, List, [], ◌∷◌, ◌++◌, length, take, drop, get_or, length-drop, refl, sym, ◌∙◌, ap, arith}
use Rattle.std.specs.List.{before_first, after_first, position_or_len}
use Rattle.std.proofs.Math.ListN.{drop_of_length-le}
use Rattle.std.proofs.lemmas.List.{take_all}
use Rattle.std.proofs.lemmas.Bool.{cond-true, cond-false, false_from_ne_true}
use Rattle.std.proofs.lemmas.List.Sums.{position_or_len_is}
use Rattle.memchr.specs.Find.{NoneBefore, Nowhere, Passes, is_byte}
use Rattle.rewrite_compile.specs.Words.{is_space, kept_back, trim_back}

module _ (text : List ℕ) where
  pub at_space : (at : ℕ) → NoneBefore (Passes (is_byte 32) text) 0 (length text) at → Passes (is_byte 32) text at → position_or_len is_space text ≡ at
  at_space at none here =
      let within : at < length text = none.high in
      position_or_len_is is_space text at 0 (omega arith) (λ k low. false_from_ne_true _ (none.before k (omega arith) low)) (λ _. here)

  pub no_space : Nowhere (Passes (is_byte 32) text) 0 (length text) → position_or_len is_space text ≡ length text
  no_space none = position_or_len_is is_space text (length text) 0 (omega arith) (λ k low. false_from_ne_true _ (none k (omega arith) low)) (λ h. absurd (omega (arith, h)))

  pub before_at : (at : ℕ) → position_or_len is_space text ≡ at → take at text ≡ before_first is_space text
  before_at at e = ap (λ n. take n text) (sym e)

  pub before_all : position_or_len is_space text ≡ length text → text ≡ before_first is_space text
  before_all e = sym (take_all (position_or_len is_space text) text (omega (arith, e)))

  pub after_at : (at : ℕ) → at < length text → position_or_len is_space text ≡ at → take (length text - (at + 1)) (drop (at + 1) text) ≡ after_first is_space text
  after_at at h e =
      let long : length (drop (at + 1) text) ≤ length text - (at + 1) = omega (arith, length-drop (at + 1) text) in
      take_all (length text - (at + 1)) (drop (at + 1) text) long ∙ ap (λ n. drop (n + 1) text) (sym e)

  pub after_none : position_or_len is_space text ≡ length text → [] ≡ after_first is_space text
  after_none e = sym (drop_of_length-le text (omega (arith, e)))

-- ---- spaces at the end

pub trim_space : (bs : List ℕ) (b : ℕ) → is_space b ≡ true → trim_back (bs ++ b ∷ []) ≡ trim_back bs
unfolding trim_back
trim_space [] b e = cond-true (is_space b) [] (b ∷ []) e
trim_space (c ∷ bs) b e = ap (kept_back c) (trim_space bs b e)

kept_full : (c b : ℕ) (bs : List ℕ) → kept_back c (bs ++ b ∷ []) ≡ c ∷ (bs ++ b ∷ [])
kept_full c b [] = refl
kept_full c b (d ∷ bs) = refl

pub trim_none : (bs : List ℕ) (b : ℕ) → is_space b ≡ false → trim_back (bs ++ b ∷ []) ≡ bs ++ b ∷ []
unfolding trim_back
trim_none [] b e = cond-false (is_space b) [] (b ∷ []) e
trim_none (c ∷ bs) b e = ap (kept_back c) (trim_none bs b e) ∙ kept_full c b bs

last_split : (xs : List ℕ) → 0 < length xs → xs ≡ take (length xs - 1) xs ++ get_or xs (length xs - 1) 0 ∷ []
last_split [] h = absurd (omega (arith, h))
last_split (x ∷ []) h = refl
last_split (x ∷ y ∷ xs) h =
    let e : length (x ∷ y ∷ xs) - 1 ≡ suc (length (y ∷ xs) - 1) = omega arith in
    ap (λ l. x ∷ l) (last_split (y ∷ xs) (omega arith)) ∙ sym (ap (λ n. take n (x ∷ y ∷ xs) ++ get_or (x ∷ y ∷ xs) n 0 ∷ []) e)

not_space : (b : ℕ) → (b ≡ 32 → ⊥) → is_space b ≡ false
not_space b h = grind (arith, h)

a_space : (b : ℕ) → b ≡ 32 → is_space b ≡ true
a_space b h = grind (arith, h)

pub other_end : (xs text : List ℕ) → 0 < length xs → (get_or xs (length xs - 1) 0 ≡ 32 → ⊥) → trim_back xs ≡ trim_back text → xs ≡ trim_back text
other_end xs text h other e =
    last_split xs h
    ∙ sym (trim_none (take (length xs - 1) xs) (get_or xs (length xs - 1) 0) (not_space (get_or xs (length xs - 1) 0) other))
    ∙ ap trim_back (sym (last_split xs h))
    ∙ e

pub space_end : (xs text : List ℕ) → 0 < length xs → get_or xs (length xs - 1) 0 ≡ 32 → trim_back xs ≡ trim_back text → trim_back (take (length xs - 1) xs) ≡ trim_back text
space_end xs text h space e =
    sym (trim_space (take (length xs - 1) xs) (get_or xs (length xs - 1) 0) (a_space (get_or xs (length xs - 1) 0) space))
    ∙ ap trim_back (sym (last_split xs h))
    ∙ e

pub nothing_left : (xs text : List ℕ) → length xs < 1 → trim_back xs ≡ trim_back text → xs ≡ trim_back text
unfolding trim_back
nothing_left [] text h e = e
nothing_left (x ∷ xs) text h e = absurd (omega (arith, h))
