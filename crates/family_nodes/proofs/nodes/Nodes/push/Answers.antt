use Rattle.std.proofs.Common.{[], ◌∷◌, ◌++◌, sym, subst}
use Rattle.family_nodes.specs.Marks.{AreMarked}
use Rattle.family_nodes.proofs.Marks as marks
use Rattle.family_nodes.proofs.nodes.Nodes.push.Goals as goal

pub invariant_of-self-2 : goal.invariant_of-self-2
invariant_of-self-2 c =
    let s = c.self.inside in
    let n = c.args.node in
    subst (AreMarked c.push.new.self.items) (sym c.push_reserved.ensures.items)
    (subst (λ all. AreMarked c.push.new.self.items (all ++ n ∷ [])) (sym c.in_ok-reserve.ensures.items)
    (subst (λ ms. AreMarked ms (s.all.items ++ n ∷ [])) (sym c.in_ok-push.ensures.items)
    (marks.more_marks s.marks.items (s.all.items ++ n ∷ []) (marks.more_nodes s.marks.items s.all.items n c.self.invariant))))
