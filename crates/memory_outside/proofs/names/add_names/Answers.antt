use Rattle.memory_outside.specs.Stored.{item_in}
use Rattle.memory_outside.proofs.Children.{adding_begins, adding_steps, adding_is_over}
use Rattle.memory_outside.proofs.names.add_names.Goals as goal

pub loop-entry-init : goal.loop-entry-init
loop-entry-init c = record { start = c.len-start.ensures; adding = adding_begins c.args.items.now c.args.of c.args.folder.now c.args.out.now }

pub loop-entry-preserved : goal.loop-entry-preserved
loop-entry-preserved c = record {
  start = c.loop-entry.invariant.start;
  adding =
      adding_steps (item_in c.args.items.now c.args.of) c.args.folder.now c.args.items.now c.loop-entry.entry-index c.entry-item.result c.len-start.result
      c.args.out.now c.loop-entry.out c.add_name.new.out c.loop-entry-test.true c.entry-item.is c.loop-entry.invariant.start c.loop-entry.invariant.adding
      c.in_ok-add_name.ensures;
}

pub returns : goal.returns
returns c =
    adding_is_over (item_in c.args.items.now c.args.of) c.args.folder.now c.args.items.now c.loop-entry.entry-index c.args.out.now c.loop-entry.out
    c.loop-entry-test.false c.loop-entry.invariant.adding
