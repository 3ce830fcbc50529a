use Rattle.std.proofs.Common.{◌≡◌, ◌+◌, drop}
use Rattle.std.specs.List.{prefix_len}
use Rattle.uri_text.specs.Target.{is_host_byte}
use Rattle.uri_text.proofs.target.host_len.Given as goal

abbrev pub invariant-loop-i : goal.invariant-loop-i
invariant-loop-i l = prefix_len is_host_byte l.text ≡ l.i + prefix_len is_host_byte (drop l.i l.text)
