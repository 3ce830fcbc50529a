use Rattle.std.proofs.Common.{arith, rules, sym, ◌∙◌}
use Rattle.race_places.specs.Places.{list_at}
use Rattle.conf_races.proofs.GrowLaws.{grows_none, grows_one, own_there, outer_there}
use Rattle.conf_races.proofs.outer.own_or.Goals as goal

pub returns-then-is_empty-clause-grows : goal.returns-then-is_empty-clause-grows
returns-then-is_empty-clause-grows c = grows_none c.args.lists.now.items

pub returns-then-is_empty-clause-lines : goal.returns-then-is_empty-clause-lines
returns-then-is_empty-clause-lines c = λ later g. outer_there c.args.own.items (list_at later c.args.outer) c.args.own.len (omega (arith, c.args.own.ok.0)) (sym c.is_empty.ensures ∙ c.if-is_empty.true)

pub returns-clause-grows : goal.returns-clause-grows
returns-clause-grows c = grows_one c.args.lists.now.items c.push.new.self.items _ c.in_ok-push.ensures.items

pub returns-clause-lines : goal.returns-clause-lines
returns-clause-lines c = λ later g. own_there c.args.lists.now.items c.push.new.self.items later c.args.own.items _ c.args.outer _ c.args.own.len (search rules) c.in_ok-push.ensures.items c.new.ensures (omega (arith, c.args.own.ok.0)) (sym c.is_empty.ensures ∙ c.if-is_empty.false) g
