use Rattle.std.proofs.Common.{◌≡◌, ℕ, zero, suc, ◌*◌, ◌^◌, ◌<◌, ◌≤◌, nat_le, false, Option, None, Some, cond, refl, ap, arith, sym}
use Rattle.std.proofs.Math.Nat.{mul-suc}
use Rattle.std.proofs.lemmas.Bool.Decides.{nat_tests}
use Rattle.std.specs.Option.{ForSome}
use Rattle.text_words.specs.Digits.{value_behind}
use Rattle.conf_values.specs.Numbers.{in_units}
use Rattle.conf_values.proofs.number.in_units.Goals as goal

too_much : (most n : ℕ) → most < 2 ^ 64 → 2 ^ 64 ≤ n → nat_le n most ≡ false
too_much most n m h = grind (arith, nat_tests)

past : (count unit : ℕ) → 0 < unit → 2 ^ 64 ≤ count → 2 ^ 64 ≤ count * unit
past count zero p h = absurd (omega arith)
past count (suc unit) p h = omega (arith, mul-suc count unit)

unit_past : (most count : ℕ) (unit : Option ℕ) → most < 2 ^ 64 → ForSome unit (λ unit. 0 < unit) → 2 ^ 64 ≤ count → None ≡ in_units most count unit
unit_past most count None m p h = refl
unit_past most count (Some unit) m p h =
    sym (ap (λ t. cond t (Some (count * unit)) None) (too_much most (count * unit) m (past count unit (p unit refl) h)))

pub returns-in_default-value_of-clause-value : goal.returns-in_default-value_of-clause-value
returns-in_default-value_of-clause-value c =
    unit_past c.args.most (value_behind 0 c.args.digits.now) c.args.unit (omega arith) c.requires c.in_default-value_of.ensures
