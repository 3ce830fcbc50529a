use Rattle.std.proofs.Common.{sym, ◌∙◌}
use Rattle.ssi_text.proofs.Steps.{begins-length, front-is-plain, front-is-open, front-is-begun}
use Rattle.ssi_text.specs.Split.{opening}
use Rattle.ssi_text.proofs.scan.front_of.Goals as goal

pub begun-requires : goal.begun-requires
begun-requires c = begins-length opening c.args.bytes.now (sym c.in-Yes.ensures)

pub returns-in-No : goal.returns-in-No
returns-in-No c = front-is-plain c.args.bytes.now c.in-No.ensures

pub returns-in-Maybe : goal.returns-in-Maybe
returns-in-Maybe c = front-is-open c.args.bytes.now c.in-Maybe.ensures

pub returns-in_ok-found-in-Yes : goal.returns-in_ok-found-in-Yes
returns-in_ok-found-in-Yes c = c.in_ok-found-in-Yes.ensures ∙ front-is-begun c.args.bytes.now c.in-Yes.ensures
