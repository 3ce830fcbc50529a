use Rattle.rewrite_compile.proofs.Spaces.{at_space, no_space, after_at, after_none}
use Rattle.rewrite_compile.proofs.words.after_word.Goals as goal

pub returns-in-Some : goal.returns-in-Some
returns-in-Some c = after_at c.args.text.now c.in-Some.at c.in-Some.ensures.0.high (at_space c.args.text.now c.in-Some.at c.in-Some.ensures.0 c.in-Some.ensures.1)

pub returns-in-None : goal.returns-in-None
returns-in-None c = after_none c.args.text.now (no_space c.args.text.now c.in-None.ensures)
