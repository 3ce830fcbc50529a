use Rattle.std.proofs.Common.{ℕ, List, drop, arith}
use Rattle.site_views.specs.Values.{Text}
use Rattle.site_whole.specs.Whole.{auth_set_seen}
use Rattle.race_meaning.specs.Reads.{in_text}
use Rattle.race_check.proofs.Lists.{all_over}
use Rattle.race_check.proofs.Notes.{left_mapped}
use Rattle.race_check.proofs.values.note_auth_texts.Goals as goal

pub returns : goal.returns
returns c = left_mapped c.args.settled.now c.loop-set.exposed c.args.exposed.now (drop c.loop-set.set-index c.args.sets.now) c.args.sets.now (all_over c.args.sets.now c.loop-set.set-index (omega arith)) (λ n (s : List ℕ × Text). in_text n s.1) auth_set_seen c.loop-set.invariant
