use Rattle.server_choice.specs.Names.{number_of}
use Rattle.server_choice.proofs.Stars.{NoneBefore}
use Rattle.server_choice.proofs.longest.longest_ending.Given as goal

abbrev pub invariant-loop-at : goal.invariant-loop-at
invariant-loop-at l = NoneBefore l.host (number_of l.endings) l.at
