use Rattle.std.proofs.Common.{◌+◌, eqb, get_or, sym, arith, ◌∙◌}
use Rattle.std.proofs.lemmas.Bool.{cond-true, cond-false}
use Rattle.std.proofs.lemmas.Bool.{eq-eqb, ne_eqb}
use Rattle.conf_include.proofs.PathLaws.{end_none, end_more}
use Rattle.conf_include.proofs.paths.slash_end.Goals as goal
use Rattle.conf_include.proofs.paths.slash_end.Goals.{then-byte-eq47, else-byte-eq47}

pub loop-i-init : goal.loop-i-init
loop-i-init c = (sym end_none, omega arith)

pub loop-i-preserved : goal.loop-i-preserved
loop-i-preserved c =
    let path = c.args.path.now in
    let i = c.loop-i.i in
    let was = c.loop-i.invariant in
    elim c.if-byte-eq47.branch [
      | then-byte-eq47 w ↦ (
        end_more path i 0 c.loop-i.end c.if-byte-eq47.end c.loop-i-test.true was.0 (w.end-is ∙ sym (cond-true (eqb (get_or path i 0) 47) (i + 1) c.loop-i.end (eq-eqb (get_or path i 0) 47 w.if-byte-eq47.true))),
        omega (arith, w.end-is),
      )
      | else-byte-eq47 w ↦ (
        end_more path i 0 c.loop-i.end c.if-byte-eq47.end c.loop-i-test.true was.0 (w.end-is ∙ sym (cond-false (eqb (get_or path i 0) 47) (i + 1) c.loop-i.end (ne_eqb (get_or path i 0) 47 w.if-byte-eq47.false))),
        omega (arith, w.end-is, was.1),
      )
    ]
