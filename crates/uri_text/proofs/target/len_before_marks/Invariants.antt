use Rattle.std.proofs.Common.{◌≡◌, ◌+◌, drop}
use Rattle.std.specs.Prelude.{◌==◌, ◌||◌}
use Rattle.std.specs.List.{position_or_len}
use Rattle.uri_text.proofs.target.len_before_marks.Given as goal

abbrev pub invariant-loop-i : goal.invariant-loop-i
invariant-loop-i l = position_or_len (λ b. (b == 35) || (b == 63)) l.text ≡ l.i + position_or_len (λ b. (b == 35) || (b == 63)) (drop l.i l.text)
