use Rattle.std.proofs.Common.{ℕ, List, set, sym, subst}
use Rattle.family_nodes.specs.Marks.{AreMarked}
use Rattle.family_nodes.proofs.Marks as marks
use Rattle.family_nodes.proofs.nodes.Nodes.node_mut.Goals as goal

pub invariant_of-self-lent : goal.invariant_of-self-lent
invariant_of-self-lent c = λ w.
    let s = c.self.inside in
    subst (λ ms. AreMarked ms (set s.all.items c.args.at w)) (sym {A = List ℕ} c.set_mark.ensures) (marks.cleared s.marks.items s.all.items c.args.at w c.self.invariant)
