-- A search by halves takes no more steps than the length has binary digits.
use Rattle.std.proofs.Common.{◌≡◌, ℕ, ◌+◌, ◌*◌, ◌^◌, ◌<◌, ◌≤◌, sym, ap, ◌∙◌, subst, arith, add-one}
use Rattle.std.proofs.Math.Nat.{pow-succ', mul-le-mul_left}
use Rattle.location_match.specs.Prefixes.{IsHalved}

-- after some halvings of a count, what is left is as small as they make it
pub record IsHalving (count left before now : ℕ) : Type 0 where
  pub halvings : ℕ
  pub few : 2 ^ halvings ≤ 2 * count + 1
  pub small : 2 ^ halvings * left ≤ count
  pub taken : now ≡ before + halvings

pub halving-start : (count before : ℕ) → IsHalving count count before before
halving-start count before = record { halvings = 0; few = omega arith; small = omega arith; taken = omega arith }

doubled : (t : ℕ) → 2 ^ (t + 1) ≡ 2 * 2 ^ t
doubled t = ap (λ n. 2 ^ n) (add-one t) ∙ pow-succ' 2 t

pub halving-step : (count left rest before now next : ℕ) → 0 < left → 2 * rest ≤ left → next ≡ now + 1 →
    IsHalving count left before now → IsHalving count rest before next
halving-step count left rest before now next some half one h =
    let e = doubled h.halvings in
    let more : 2 ^ h.halvings * (2 * rest) ≤ 2 ^ h.halvings * left = mul-le-mul_left (2 ^ h.halvings) half in
    let least : 2 ^ h.halvings * 1 ≤ 2 ^ h.halvings * left = mul-le-mul_left (2 ^ h.halvings) (omega arith) in
    record {
      halvings = h.halvings + 1;
      few = omega (arith, e, least, h.small);
      small = subst (λ n. n * rest ≤ count) (sym e) (grind (arith, more, h.small));
      taken = omega (arith, h.taken, one);
    }

pub halving-end : (count left before now : ℕ) → IsHalving count left before now → IsHalved count before now
halving-end count left before now h = record { halvings = h.halvings; few = h.few; taken = h.taken }
