use Rattle.ssi_text.proofs.Onward.{some-command, begun-read}
use Rattle.ssi_text.proofs.scan.begun.Goals as goal

pub returns-in-Some : goal.returns-in-Some
returns-in-Some c = begun-read c.args.bytes.now c.behind_opening.result.now c.in-Some.part c.in-Some.n c.behind_opening.ensures.value (some-command c.in_ok-part.field-0 c.in-Some.part c.in-Some.n c.behind_opening.result.now c.in_ok-part.ensures c.in-Some.is)
