use Rattle.uri_text.proofs.Cutting.{long_run}
use Rattle.uri_text.proofs.segment.kind_with_run.Goals as goal

pub returns-in_default : goal.returns-in_default
returns-in_default c = long_run c.args.kind c.args.run.now c.in_default.len_at_least
