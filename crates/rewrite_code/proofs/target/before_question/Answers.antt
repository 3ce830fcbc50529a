use Rattle.std.proofs.Common.{◌≡◌, Some, ◌∙◌, ap}
use Rattle.rewrite_code.proofs.Cuts.{question_at, question_nowhere}
use Rattle.rewrite_code.proofs.target.before_question.Goals as goal

pub front-requires : goal.front-requires
front-requires c = (question_at c.args.bytes.now c.in-Some.at c.in-Some.ensures).0

pub returns-in-Some : goal.returns-in-Some
returns-in-Some c = ap Some c.front.ensures ∙ (question_at c.args.bytes.now c.in-Some.at c.in-Some.ensures).1

pub returns-in-None : goal.returns-in-None
returns-in-None c = question_nowhere c.args.bytes.now c.in-None.ensures
