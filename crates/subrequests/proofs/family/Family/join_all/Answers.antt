use Rattle.std.proofs.Common.{◌≡◌, ◌+◌, ◌++◌, ◌∷◌, [], get_or, take, refl, sym, subst, ◌∙◌, arith}
use Rattle.std.proofs.lemmas.List.{take_more}
use Rattle.node_seats.specs.Joining.{Joins}
use Rattle.node_seats.specs.Joining.Joins.{None_more}
use Rattle.subrequests.proofs.Joins as joining
use Rattle.subrequests.proofs.Returns as returning
use Rattle.subrequests.proofs.family.Family.join_all.Goals as goal

pub loop-id-init : goal.loop-id-init
loop-id-init c = (None_more, (λ whole. whole), refl, refl, refl)

pub loop-id-preserved : goal.loop-id-preserved
loop-id-preserved c =
    let f = c.args.self.now in
    let mid = c.loop-id.self in
    let end = c.join_inner.new.self in
    let all = c.args.numbers.now in
    let i = c.loop-id.id-index in
    let so = c.loop-id.invariant in
    let is = c.in_ok-join_inner.ensures in
    let front : take (i + 1) all ≡ take i all ++ get_or all i 0 ∷ [] = take_more all i 0 (omega (arith, c.loop-id-test.true)) in (
      subst (λ ids. Joins c.args.at ids f.order f.nodes end.order end.nodes) (sym front)
          (joining.joins_more c.args.at (get_or all i 0) (take i all) f.order mid.order end.order f.nodes mid.nodes end.nodes so.0 is.joins),
      (λ whole. is.whole (so.1 whole)),
      is.others.0 ∙ so.2,
      is.others.1 ∙ so.3,
      is.others.2 ∙ so.4,
    )

pub returns-clause-joins : goal.returns-clause-joins
returns-clause-joins c =
    let f = c.args.self.now in
    let end = c.loop-id.self in
    let all = c.args.numbers.now in
    subst (λ ids. Joins c.args.at ids f.order f.nodes end.order end.nodes) (returning.taken_all c.loop-id.id-index all (omega (arith, c.loop-id-test.false))) c.loop-id.invariant.0
