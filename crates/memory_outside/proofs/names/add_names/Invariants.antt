use Rattle.std.proofs.Common.{◌≡◌, length, drop}
use Rattle.memory_outside.specs.Stored.{item_in}
use Rattle.memory_outside.specs.Names.{Adding}
use Rattle.memory_outside.proofs.names.add_names.Given as goal

abbrev pub invariant-loop-entry : goal.invariant-loop-entry
invariant-loop-entry l = record {
  start : l.start ≡ length l.fn.out;
  adding : Adding (item_in l.items l.of) l.folder (drop l.entry-index l.items) l.fn.out l.out;
}
