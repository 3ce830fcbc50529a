use Rattle.std.proofs.Common.{sym, ap, ◌∙◌, ◌≤◌, ◌≡◌, suc, length, arith}
use Rattle.conf_text.proofs.TokenLaws.{comment-none, comment-ends, comment-on}
use Rattle.conf_text.proofs.token.pass_comment.Goals as goal

pub returns-then-first-eq10-clause-same : goal.returns-then-first-eq10-clause-same
returns-then-first-eq10-clause-same c = sym c.loop-first.invariant.same ∙ comment-ends _ _ _ _ c.in-Some.ensures c.if-first-eq10.true

pub loop-first-preserved : goal.loop-first-preserved
loop-first-preserved c =
    let n : length c.loop-first.place.rest.now ≡ suc (length c.in-Some.after.now) = ap length c.in-Some.ensures in
    let w : length c.loop-first.place.rest.now ≤ length c.args.place.now.rest.now = c.loop-first.invariant.within in
    record {
      same = sym (comment-on _ _ _ _ c.in-Some.ensures c.if-first-eq10.false) ∙ c.loop-first.invariant.same;
      within = omega arith;
      line_same = c.loop-first.invariant.line_same;
    }

pub returns-clause-same : goal.returns-clause-same
returns-clause-same c = sym c.loop-first.invariant.same ∙ comment-none _ _ c.in_default.ensures
