-- How many bytes are shown once a response is over.
use Rattle.std.proofs.Common.{◌≡◌, ℕ, ◌+◌, ◌-◌, ◌*◌, ◌/◌, ◌<◌, ◌≤◌, min, Bool, true, false, ◌||◌, cond, refl, sym, ap, ◌∙◌, ⊎_elim, arith}
use Rattle.std.proofs.lemmas.Bool.{cases_lt}
use Rattle.std.specs.Prelude.{◌==◌, nat_le}
use Rattle.std.proofs.lemmas.Bool.Decides.{nat_tests}
use Rattle.request_flow.specs.Flows.{shown_most}
use Rattle.response_flow.specs.Flights.{ShowsMost, shown_kept}

abbrev shown_by : Bool → (tail size : ℕ) → ℕ
shown_by all tail size = cond all (min size 65536) (size - tail - 4104 * ((size - tail - 65536 + 4103) / 4104))

by_test : (tail size : ℕ) → shown_by (tail == 0 || nat_le (size - tail + 4107) 65536) tail size ≡ shown_kept tail size
unfolding shown_kept shown_most
by_test tail size = refl

-- of a body that isn't in chunks
pub plain_shown : (tail size : ℕ) → tail ≡ 0 → min size 65536 ≡ shown_kept tail size
plain_shown tail size e =
    let none : (tail == 0) ≡ true = grind (arith, nat_tests) in
    sym (ap (λ b. shown_by (b || nat_le (size - tail + 4107) 65536) tail size) none) ∙ by_test tail size

-- where the tail fits
pub tail_shown : (tail size : ℕ) → size - tail ≤ 61429 → min size 65536 ≡ shown_kept tail size
tail_shown tail size h =
    let fits : nat_le (size - tail + 4107) 65536 ≡ true = grind (arith, nat_tests) in
    sym (any (tail == 0)) ∙ (ap (λ b. shown_by (tail == 0 || b) tail size) (sym fits) ∙ by_test tail size)
  where
    any : (b : Bool) → shown_by (b || true) tail size ≡ min size 65536
    any true = refl
    any false = refl

-- where it doesn't
pub chunks_shown : (tail size shown : ℕ) → 0 < tail → 61429 < size - tail → shown ≡ size - tail - 4104 * ((size - tail - 65536 + 4103) / 4104) → shown ≡ shown_kept tail size
chunks_shown tail size shown some h is =
    let part : (tail == 0) ≡ false = grind (arith, nat_tests) in
    let full : nat_le (size - tail + 4107) 65536 ≡ false = grind (arith, nat_tests) in
    is ∙ (sym (ap (λ b. shown_by (b || nat_le (size - tail + 4107) 65536) tail size) part ∙ ap (λ b. shown_by b tail size) full) ∙ by_test tail size)

-- which of these it is
pub data Shown (tail size : ℕ) : Type 0 where
  Plain : tail ≡ 0 → min size 65536 ≡ shown_kept tail size → Shown tail size
  Whole : size - tail ≤ 61429 → min size 65536 ≡ shown_kept tail size → Shown tail size
  Chunks : 61429 < size - tail → shown_kept tail size ≡ size - tail - 4104 * ((size - tail - 65536 + 4103) / 4104) → Shown tail size

pub shown_is : (tail size : ℕ) → Shown tail size
shown_is tail size = ⊎_elim
    (λ some. ⊎_elim
    (λ full. Chunks full (sym (chunks_shown tail size _ some full refl)))
    (λ fits. Whole fits (tail_shown tail size fits))
    (cases_lt 61429 (size - tail)))
    (λ none. let e : tail ≡ 0 = omega (arith, none) in Plain e (plain_shown tail size e))
    (cases_lt 0 tail)

few : (tail size : ℕ) → Shown tail size → shown_kept tail size ≤ 65536
few tail size (Plain e s) = omega (arith, s)
few tail size (Whole h s) = omega (arith, s)
few tail size (Chunks h s) = omega (arith, s, h)

most : (tail size chunks : ℕ) → Shown tail size → size - tail - 4104 * chunks ≤ 65536 → size - tail - 4104 * chunks ≤ shown_kept tail size
most tail size chunks (Plain e s) fits = omega (arith, s, fits)
most tail size chunks (Whole h s) fits = omega (arith, s, fits)
most tail size chunks (Chunks h s) fits = omega (arith, s, h, fits)

stays : (tail size count : ℕ) → Shown tail size → Shown tail (size - count) → count ≤ shown_kept tail size → shown_kept tail size ≤ count + shown_kept tail (size - count)
stays tail size count (Plain e s) (Plain f t) h = omega (arith, s, t, h)
stays tail size count (Plain e s) (Whole f t) h = omega (arith, s, t, h)
stays tail size count (Plain e s) (Chunks f t) h = omega (arith, s, sym (plain_shown tail (size - count) e), h)
stays tail size count (Whole e s) (Plain f t) h = omega (arith, s, t, h)
stays tail size count (Whole e s) (Whole f t) h = omega (arith, s, t, h)
stays tail size count (Whole e s) (Chunks f t) h = absurd (omega (arith, e, f))
stays tail size count (Chunks e s) (Plain f t) h = omega (arith, e, s, t, h)
stays tail size count (Chunks e s) (Whole f t) h = omega (arith, e, s, t, h)
stays tail size count (Chunks e s) (Chunks f t) h = omega (arith, e, s, f, t, h)

pub shows_most : (tail size : ℕ) → ShowsMost tail size
unfolding shown_most
shows_most tail size = record {
  few = few tail size (shown_is tail size);
  most = λ chunks. most tail size chunks (shown_is tail size);
  stays = λ count. stays tail size count (shown_is tail size) (shown_is tail (size - count));
}
