use Rattle.std.proofs.Common.{sym, ◌∙◌, arith}
use Rattle.server_choice.specs.Names.{number_of}
use Rattle.server_choice.proofs.Stars.{longest-ending}
use Rattle.server_choice.proofs.longest.longest_ending.Goals as goal

pub returns-in-Some : goal.returns-in-Some
returns-in-Some c =
    longest-ending c.args.host.now (number_of c.args.endings.now) c.loop-at.at c.in-Some.number (omega (arith, c.loop-at.auto.at)) c.loop-at-test.true
    c.loop-at.invariant (sym c.ending_at.ensures ∙ c.in-Some.is)
