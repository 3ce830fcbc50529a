use Rattle.std.proofs.Common.{◌≡◌, drop}
use Rattle.std.specs.List.{list_all}
use Rattle.ssi_exec.specs.Named.{word_seen, fits}
use Rattle.ssi_exec.proofs.words.all_fit.Given as goal

abbrev pub invariant-loop-p : goal.invariant-loop-p
invariant-loop-p l = list_all (fits l.most (word_seen l.word)) (drop l.p-index l.ps) ≡ list_all (fits l.most (word_seen l.word)) l.ps
