use Rattle.std.proofs.Common.{◌≡◌, ◌++◌, take}
use Rattle.uri_text.specs.Escape.{escape_of}
use Rattle.uri_text.proofs.escape.append_escapes.Given as goal

abbrev pub invariant-loop-byte : goal.invariant-loop-byte
invariant-loop-byte l = l.out ≡ l.initial.out ++ escape_of (take l.byte-index l.path)
