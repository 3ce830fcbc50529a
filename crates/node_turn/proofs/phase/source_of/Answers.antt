use Rattle.std.proofs.Common.{◌∙◌, sym}
use Rattle.node_turn.proofs.Phased as phased
use Rattle.node_turn.proofs.phase.source_of.Goals as goal

pub returns : goal.returns
returns c = λ text. phased.all_known c.args.known c.args.len text (sym c.is_empty.ensures ∙ c.if-is_empty.false) (sym c.len.ensures ∙ c.if-len.false)
