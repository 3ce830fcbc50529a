use Rattle.rewrite_compile.proofs.Spaces.{at_space, no_space, before_at, before_all}
use Rattle.rewrite_compile.proofs.words.first_word.Goals as goal

pub returns-in-Some : goal.returns-in-Some
returns-in-Some c = before_at c.args.text.now c.in-Some.at (at_space c.args.text.now c.in-Some.at c.in-Some.ensures.0 c.in-Some.ensures.1)

pub returns-in-None : goal.returns-in-None
returns-in-None c = before_all c.args.text.now (no_space c.args.text.now c.in-None.ensures)
