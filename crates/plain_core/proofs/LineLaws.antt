-- Laws of lines and of their answers.
use Rattle.std.proofs.Common.{◌≡◌, ◌≢◌, ℕ, suc, ◌+◌, ◌<◌, true, false, cond, eqb, List, [], ◌∷◌, ◌++◌, length, drop, get_or, refl, sym, ap, ◌∙◌, arith, drop-cons}
use Rattle.std.proofs.lemmas.Bool.Decides.{nat_tests}
use Rattle.std.proofs.lemmas.List.{append-nil}
use Rattle.ngx_outside.specs.Views.{Start}
use Rattle.plain_core.specs.Lines.{has_line, after_line, requests}

test_yes : (a b : ℕ) → a ≡ b → eqb a b ≡ true
test_yes a b e = grind (arith, nat_tests)

test_no : (a b : ℕ) → a ≢ b → eqb a b ≡ false
test_no a b e = grind (arith, nat_tests)

ends_here : (b : ℕ) (bytes : List ℕ) → b ≡ 10 → has_line (b ∷ bytes) ≡ true
unfolding has_line
ends_here b bytes e = ap (λ t. cond t true (has_line bytes)) (test_yes b 10 e)

behind_here : (b : ℕ) (bytes : List ℕ) → b ≡ 10 → after_line (b ∷ bytes) ≡ bytes
unfolding after_line
behind_here b bytes e = ap (λ t. cond t bytes (after_line bytes)) (test_yes b 10 e)

ends_later : (b : ℕ) (bytes : List ℕ) → b ≢ 10 → has_line (b ∷ bytes) ≡ has_line bytes
unfolding has_line
ends_later b bytes e = ap (λ t. cond t true (has_line bytes)) (test_no b 10 e)

behind_later : (b : ℕ) (bytes : List ℕ) → b ≢ 10 → after_line (b ∷ bytes) ≡ after_line bytes
unfolding after_line
behind_later b bytes e = ap (λ t. cond t bytes (after_line bytes)) (test_no b 10 e)

none_within : has_line [] ≡ false
unfolding has_line
none_within = refl

-- as the line is sought
pub record Sought (bytes : List ℕ) (i : ℕ) : Type 0 where
  pub ends : has_line (drop i bytes) ≡ has_line bytes
  pub behind : after_line (drop i bytes) ≡ after_line bytes

pub sought_first : (bytes : List ℕ) → Sought bytes 0
sought_first bytes = record { ends = refl; behind = refl }

here : (bytes : List ℕ) (i : ℕ) → i < length bytes → drop i bytes ≡ get_or bytes i 0 ∷ drop (i + 1) bytes
here bytes i h = drop-cons bytes i 0 h ∙ ap (λ k. get_or bytes i 0 ∷ drop k bytes) (let e : suc i ≡ i + 1 = omega arith in e)

pub sought_next : (bytes : List ℕ) (i : ℕ) → i < length bytes → get_or bytes i 0 ≢ 10 → Sought bytes i → Sought bytes (i + 1)
sought_next bytes i h n s = record {
  ends = sym (ends_later (get_or bytes i 0) (drop (i + 1) bytes) n) ∙ sym (ap has_line (here bytes i h)) ∙ s.ends;
  behind = sym (behind_later (get_or bytes i 0) (drop (i + 1) bytes) n) ∙ sym (ap after_line (here bytes i h)) ∙ s.behind;
}

pub sought_end : (bytes : List ℕ) (i : ℕ) → drop i bytes ≡ [] → Sought bytes i → has_line bytes ≡ false
sought_end bytes i e s = sym s.ends ∙ ap has_line e ∙ none_within

pub found_ends : (bytes : List ℕ) (i : ℕ) → i < length bytes → get_or bytes i 0 ≡ 10 → Sought bytes i → has_line bytes ≡ true
found_ends bytes i h e s = sym s.ends ∙ ap has_line (here bytes i h) ∙ ends_here (get_or bytes i 0) (drop (i + 1) bytes) e

pub found_behind : (bytes : List ℕ) (i : ℕ) → i < length bytes → get_or bytes i 0 ≡ 10 → Sought bytes i → drop (i + 1) bytes ≡ after_line bytes
found_behind bytes i h e s = sym (sym s.behind ∙ ap after_line (here bytes i h) ∙ behind_here (get_or bytes i 0) (drop (i + 1) bytes) e)

-- a line that is there stays there as more arrives
pub has_line-append : (xs ys : List ℕ) → has_line xs ≡ true → has_line (xs ++ ys) ≡ true
unfolding has_line
has_line-append [] ys h = cc
has_line-append (b ∷ xs) ys h =
    elim (eqb b 10) as (λ t. cond t true (has_line xs) ≡ true → cond t true (has_line (xs ++ ys)) ≡ true) [
      | true ↦ (λ e. refl)
      | false ↦ (λ e. has_line-append xs ys e)
    ] h

pub after_line-append : (xs ys : List ℕ) → has_line xs ≡ true → after_line (xs ++ ys) ≡ after_line xs ++ ys
unfolding has_line after_line
after_line-append [] ys h = cc
after_line-append (b ∷ xs) ys h =
    elim (eqb b 10) as (λ t. cond t true (has_line xs) ≡ true → cond t (xs ++ ys) (after_line (xs ++ ys)) ≡ cond t xs (after_line xs) ++ ys) [
      | true ↦ (λ e. refl)
      | false ↦ (λ e. after_line-append xs ys e)
    ] h

-- the first line is a request that starts now
pub requests-line : (input more : List ℕ) (now : Start) (later : List Start) → has_line input ≡ true →
    requests (input ++ more) (now ∷ later) ≡ now ∷ requests (after_line input ++ more) later
unfolding requests
requests-line input more now later h =
    ap (λ t. cond t (now ∷ requests (after_line (input ++ more)) later) []) (has_line-append input more h)
    ∙ ap (λ rest. now ∷ requests rest later) (after_line-append input more h)

-- without a line there is none
pub requests-none : (input : List ℕ) (later : List Start) → has_line input ≡ false → requests (input ++ []) later ≡ []
unfolding requests
requests-none input [] h = refl
requests-none input (now ∷ later) h =
    ap (λ t. cond t (now ∷ requests (after_line (input ++ [])) later) []) (ap has_line (append-nil input) ∙ h)
