use Rattle.std.proofs.Common.{sym, subst, arith}
use Rattle.family_nodes.specs.Marks.{AreMarked, IsMarked}
use Rattle.family_nodes.proofs.Marks as marks
use Rattle.family_nodes.proofs.Sets as sets
use Rattle.family_nodes.proofs.nodes.Nodes.mark.Goals as goal

pub invariant_of-self : goal.invariant_of-self
invariant_of-self c =
    let s = c.self.inside in
    let at = c.args.at in
    let there = sets.there_some s.all.items at c.index.result.now (omega (arith, c.if-at-len.true, c.len.ensures, s.all.ok.0)) c.index.ensures in
    subst (λ ms. AreMarked ms s.all.items) (sym c.set_mark.ensures)
    (marks.marked s.marks.items s.all.items at c.mark_of-mark.result (subst (IsMarked c.mark_of-mark.result at) (sym there) c.mark_of-mark.ensures) c.self.invariant)
