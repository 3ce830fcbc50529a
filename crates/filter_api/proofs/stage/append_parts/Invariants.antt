use Rattle.std.proofs.Common.{◌≡◌, ◌++◌}
use Rattle.ssi_text.specs.Marks.{marks}
use Rattle.filter_api.proofs.stage.append_parts.Given as goal

abbrev pub invariant-loop-part : goal.invariant-loop-part
invariant-loop-part l = marks l.out.items ≡ marks l.initial.out.items ++ marks l.yielded
