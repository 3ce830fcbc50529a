use Rattle.std.proofs.Common.{Some, ap, sym, ◌∙◌}
use Rattle.conf_lists.proofs.WordLaws.{last-none, last-is, front-is}
use Rattle.conf_lists.proofs.words.ended.Goals as goal

pub returns-in-None-clause-last : goal.returns-in-None-clause-last
returns-in-None-clause-last c = sym (last-none c.args.words.now c.in-None.ensures.cases)

pub returns-in-Some-clause-last : goal.returns-in-Some-clause-last
returns-in-Some-clause-last c =
    ap Some c.as_slice.ensures ∙ sym (last-is c.args.words.now _ _ c.in-Some.ensures.cases.0)

pub returns-in-Some-clause-front : goal.returns-in-Some-clause-front
returns-in-Some-clause-front c = sym (front-is c.args.words.now _ _ c.in-Some.ensures.cases.0)
