use Rattle.std.proofs.Common.{◌≡◌, length, drop, length-drop, slice_get, false, subst, arith}
use Rattle.std.proofs.lemmas.List.{take_rest}
use Rattle.memchr.specs.Find.{Nowhere, Passes, is_byte}
use Rattle.family_nodes.specs.Runs.{runs_at}
use Rattle.family_nodes.proofs.Marks as marks
use Rattle.family_nodes.proofs.nodes.Nodes.next_awake.Goals as goal

pub returns-in-Some-clause-rest : goal.returns-in-Some-clause-rest
returns-in-Some-clause-rest c = λ row at low high.
    let s = c.self.inside in
    let start = c.args.from in
    let count = c.in-Some.further in
    let none = subst (λ hay. Nowhere (Passes (is_byte 0) hay) 0 count) (take_rest c.as_slice-marks.result.now start) c.in-Some.ensures.0.before in
    let before = subst (λ ms. Nowhere (Passes (is_byte 0) (drop start ms)) 0 count) c.as_slice-marks.ensures.value none in
    subst (λ ns. runs_at row at (slice_get ns at) ≡ false) c.self.view_is (marks.rest_before s.marks.items s.all.items c.self.invariant start count before row at low high)

pub returns-in-None-clause-rest : goal.returns-in-None-clause-rest
returns-in-None-clause-rest c = λ row at low high.
    let s = c.self.inside in
    let start = c.args.from in
    let all = c.as_slice-marks.result.now in
    let count = length (drop start all) in
    let none = subst (λ hay. Nowhere (Passes (is_byte 0) hay) 0 (length hay)) (take_rest all start) c.in-None.ensures in
    let before = subst (λ ms. Nowhere (Passes (is_byte 0) (drop start ms)) 0 count) c.as_slice-marks.ensures.value none in
    subst (λ ns. runs_at row at (slice_get ns at) ≡ false) c.self.view_is
    (marks.rest_before s.marks.items s.all.items c.self.invariant start count before row at low (omega (arith, high, length-drop start all, c.if-marks-from.false)))
