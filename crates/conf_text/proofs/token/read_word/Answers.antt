use Rattle.std.proofs.Common.{sym, ◌∙◌}
use Rattle.conf_text.proofs.TokenLaws.{reads-quoted, reads-plain}
use Rattle.conf_text.proofs.token.read_word.Goals as goal

pub returns-in_ok-fault : goal.returns-in_ok-fault
returns-in_ok-fault c = reads-quoted _ _ _ _ _ _ _ _ c.requires.here (sym c.begins_quoted.ensures ∙ c.if-begins_quoted.true) c.in_ok-fault.ensures

pub returns-in_ok-fault-2 : goal.returns-in_ok-fault-2
returns-in_ok-fault-2 c = reads-plain _ _ _ _ _ _ _ _ c.requires.here (sym c.begins_quoted.ensures ∙ c.if-begins_quoted.false) c.in_ok-fault-2.ensures
