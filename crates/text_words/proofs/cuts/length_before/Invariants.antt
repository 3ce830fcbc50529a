use Rattle.std.proofs.Common.{◌≡◌, ◌+◌, ◌==◌, drop}
use Rattle.std.specs.List.{position_or_len}
use Rattle.text_words.proofs.cuts.length_before.Given as goal

-- the byte is not before i
abbrev pub invariant-loop-i : goal.invariant-loop-i
invariant-loop-i l =
    l.i + position_or_len (λ b. b == l.byte) (drop l.i l.bytes) ≡ position_or_len (λ b. b == l.byte) l.bytes
