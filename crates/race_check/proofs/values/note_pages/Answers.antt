use Rattle.std.proofs.Common.{drop, arith}
use Rattle.site_views.specs.Values.{PageRule}
use Rattle.site_whole.specs.Whole.{page_seen}
use Rattle.race_meaning.specs.Reads.{in_target}
use Rattle.race_check.proofs.Lists.{all_over}
use Rattle.race_check.proofs.Notes.{left_mapped}
use Rattle.race_check.proofs.values.note_pages.Goals as goal

pub returns : goal.returns
returns c = left_mapped c.args.settled.now c.loop-rule.exposed c.args.exposed.now (drop c.loop-rule.rule-index c.args.rules.now) c.args.rules.now (all_over c.args.rules.now c.loop-rule.rule-index (omega arith)) (λ n (r : PageRule). in_target n r.target) page_seen c.loop-rule.invariant
