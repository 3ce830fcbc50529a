use Rattle.std.proofs.Common.{arith, map, refl, ap, ◌∙◌, subst}
use Rattle.std.proofs.lemmas.Result.{err_from_is_err_and}
use Rattle.ngx_pattern.specs.Makers.{Rose}
use Rattle.conf_check.proofs.CheckLaws.{standing-begin, standing-end, standing-fail, standing-flawed, standing-inner, standing-more, reads-alone, reads-weaker}
use Rattle.conf_check.proofs.levels.+check_level.Goals as goal

pub loop-branch-init : goal.loop-branch-init
loop-branch-init g t c = record {
  standing = standing-begin _ _ _ _ _ _ _ (ap (map (λ n. n.now)) c.new-before.ensures.names) c.new-before.ensures.addrs c.new-before.ensures.locations;
  shorter = omega arith;
  spared = refl;
}

pub returns-in_err-wrong-clause-reads : goal.returns-in_err-wrong-clause-reads
returns-in_err-wrong-clause-reads g t c =
    let p = err_from_is_err_and c.from_residual-in_err-wrong.result c.from_residual-in_err-wrong.ensures.1 in
    rw (p.1, p.2) (standing-fail _ c.in_err-wrong.field-0.0 (record { standing = c.loop-branch.invariant.standing; forest = c.in-Some.ensures.forest; own = c.in_ok-kind.ensures }) (reads-alone _ c.in_err-wrong.field-0.0 _ c.in_err-wrong.ensures))

pub returns-in_err-check_patterns-clause-reads : goal.returns-in_err-check_patterns-clause-reads
returns-in_err-check_patterns-clause-reads g t c =
    let p = err_from_is_err_and c.from_residual-in_err-check_patterns.result c.from_residual-in_err-check_patterns.ensures.1 in
    rw (p.1, p.2) (standing-flawed _ c.in_err-check_patterns.field-0.0 (record { standing = c.loop-branch.invariant.standing; forest = c.in-Some.ensures.forest; own = c.in_ok-kind.ensures }) c.in_ok-wrong.ensures
    (reads-weaker _ _ c.in_err-check_patterns.field-0.0 _ (subst (λ n. Rose n (g.M.PatternMaker.refusals c.check_patterns.new.maker)) c.loop-branch.invariant.spared) c.in_err-check_patterns.ensures))

pub returns-in_err-check_level-clause-reads : goal.returns-in_err-check_level-clause-reads
returns-in_err-check_level-clause-reads g t c =
    let p = err_from_is_err_and c.from_residual-in_err-check_level.result c.from_residual-in_err-check_level.ensures.1 in
    rw (p.1, p.2) (standing-inner _ c.in_err-check_level.field-0.0 (record { standing = c.loop-branch.invariant.standing; forest = c.in-Some.ensures.forest; own = c.in_ok-kind.ensures }) c.in_ok-wrong.ensures c.in_ok-check_patterns.ensures.0 _ _ c.default_by.ensures c.in_ok-add_any.ensures _ c.content_inside.ensures
    (reads-weaker _ _ c.in_err-check_level.field-0.0 _ (subst (λ n. Rose n (g.M.PatternMaker.refusals c.check_level.new.maker)) (c.in_ok-check_patterns.ensures.1 ∙ c.loop-branch.invariant.spared)) c.in_err-check_level.ensures.reads))

pub loop-branch-preserved : goal.loop-branch-preserved
loop-branch-preserved g t c = record {
  standing = standing-more (record { standing = c.loop-branch.invariant.standing; forest = c.in-Some.ensures.forest; own = c.in_ok-kind.ensures }) c.in_ok-wrong.ensures c.in_ok-check_patterns.ensures.0 _ _ c.default_by.ensures c.in_ok-add_any.ensures _ c.content_inside.ensures _ c.in_ok-check_level.ensures.reads _ _ _ c.in_ok-add.ensures;
  shorter = omega (arith, c.in-Some.ensures.beside);
  spared = c.in_ok-check_level.ensures.spared ∙ c.in_ok-check_patterns.ensures.1 ∙ c.loop-branch.invariant.spared;
}

pub returns-clause-reads : goal.returns-clause-reads
returns-clause-reads g t c = standing-end _ _ _ c.args.here _ _ _ _ _ c.loop-branch.invariant.standing c.in_default.ensures.forest
