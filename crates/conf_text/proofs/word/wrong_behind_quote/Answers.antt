use Rattle.std.proofs.Common.{sym, ◌∙◌}
use Rattle.conf_text.proofs.WordLaws.{closed-nothing, closed-right, closed-wrong}
use Rattle.conf_text.proofs.word.wrong_behind_quote.Goals as goal

pub returns-in-None : goal.returns-in-None
returns-in-None c = λ line. closed-nothing line _ c.in-None.ensures

pub returns-then-follows_quote : goal.returns-then-follows_quote
returns-then-follows_quote c = λ line. closed-right line _ _ _ c.in-Some.ensures (sym c.follows_quote.ensures ∙ c.if-follows_quote.true)

pub returns-else-follows_quote : goal.returns-else-follows_quote
returns-else-follows_quote c = λ line. closed-wrong line _ _ _ c.in-Some.ensures (sym c.follows_quote.ensures ∙ c.if-follows_quote.false)
