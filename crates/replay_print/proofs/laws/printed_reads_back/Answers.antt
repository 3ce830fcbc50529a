use Rattle.replay_print.proofs.PrintedScripts.{script_read}
use Rattle.replay_print.proofs.laws.printed_reads_back.Goals as goal

pub returns : goal.returns
returns c = script_read
