use Rattle.std.proofs.Common.{drop, arith}
use Rattle.site_views.specs.Values.{IndexName}
use Rattle.site_whole.specs.Whole.{index_seen}
use Rattle.race_meaning.specs.Reads.{in_text}
use Rattle.race_check.proofs.Lists.{all_over}
use Rattle.race_check.proofs.Notes.{left_mapped}
use Rattle.race_check.proofs.values.note_names.Goals as goal

pub returns : goal.returns
returns c = left_mapped c.args.settled.now c.loop-name.exposed c.args.exposed.now (drop c.loop-name.name-index c.args.names.now) c.args.names.now (all_over c.args.names.now c.loop-name.name-index (omega arith)) (λ n (i : IndexName). in_text n i.text) index_seen c.loop-name.invariant
