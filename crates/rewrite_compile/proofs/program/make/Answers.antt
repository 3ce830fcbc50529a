use Rattle.std.proofs.Common.{[], ◌∷◌, ◌++◌, length, map, flat_map, Contains, arith, sym, ap, ◌∙◌, subst}
use Rattle.std.specs.Vec.Iter.{into_iter_items}
use Rattle.std.proofs.lemmas.Result.{err_from_is_err_and}
use Rattle.ngx_pattern.specs.Makers.{Rose}
use Rattle.rewrite_compile.specs.Programs.{first_fault, refusals, steps_from, patterns_at, line_at}
use Rattle.rewrite_compile.proofs.Compiling.{steps_more, lines_more, patterns_more, fault_more, refusals_more, says_here, says_later, nothing_left, steps_over, lines_over, patterns_over, fault_over}
use Rattle.rewrite_compile.proofs.program.make.Goals as goal

pub loop-part-preserved : goal.loop-part-preserved
loop-part-preserved g c =
    let at = c.loop-part in
    let part = c.in-Some.part in
    let items = into_iter_items at.part-iterator in
    let rest = into_iter_items c.next.new.self in
    let is = c.in-Some.ensures.steps.0 in
    record {
      listed = (let was = at.invariant.listed in let gone = c.in-Some.ensures.steps.1 in let short = ap length is in omega arith);
      program = steps_more part rest items is at.made.program c.add.new.self.program c.in_ok-step.step at.patterns c.step_of.new.patterns at.level c.in_ok-next.next _ c.in_ok-step.ensures.ok c.in_ok-add.ensures.program c.in_ok-step.ensures.grown c.in_ok-next.ensures at.invariant.program;
      lines = lines_more part rest items is at.made.lines.items c.add.new.self.lines.items c.line_of-line.result _ c.in_ok-add.ensures.lines c.line_of-line.ensures at.invariant.lines;
      patterns = patterns_more part rest items is at.patterns c.step_of.new.patterns _ c.in_ok-step.ensures.grown at.invariant.patterns;
      fault = fault_more part rest items is _ c.in_ok-step.ensures.fine at.invariant.fault;
      refused = λ f there. at.invariant.refused f (refusals_more part rest items is f c.in_ok-step.ensures.fine there);
      spared = c.in_ok-step.ensures.spared ∙ at.invariant.spared;
    }

pub returns-in_err-step-clause-fault : goal.returns-in_err-step-clause-fault
returns-in_err-step-clause-fault g c =
    let at = c.loop-part in
    let items = into_iter_items at.part-iterator in
    let begins = c.into_iter-part-iterator.ensures.into_iter_gives.0 in
    let now = g.M.PatternMaker.refusals c.step_of.new.maker in
    let p = err_from_is_err_and c.from_residual-in_err-step.result c.from_residual-in_err-step.ensures.1 in
    rw (p.1, p.2)
    (says_later (Rose (g.M.PatternMaker.refusals at.maker) now) (Rose (g.M.PatternMaker.refusals c.args.maker.now) now) items c.args.parts.items c.in_err-step.field-0.0
    (λ r. subst (λ n. Rose n now) at.invariant.spared r) (at.invariant.fault ∙ ap first_fault begins) (λ f h. subst (λ x. Contains (refusals x) f) begins (at.invariant.refused f h))
    (says_here c.in-Some.part (into_iter_items c.next.new.self) items c.in-Some.ensures.steps.0 (Rose (g.M.PatternMaker.refusals at.maker) now) c.in_err-step.field-0.0 c.in_err-step.ensures.fault))

pub returns-clause-program : goal.returns-clause-program
returns-clause-program g c =
    let at = c.loop-part in
    let over = nothing_left (into_iter_items at.part-iterator) (sym at.invariant.listed ∙ c.in-None.ensures.steps.0) in
    steps_over (into_iter_items at.part-iterator) over at.made.program (length at.patterns) at.level _ at.invariant.program
    ∙ ap (λ x. steps_from (length c.args.patterns.now) c.args.first_block x) c.into_iter-part-iterator.ensures.into_iter_gives.0

pub returns-clause-lines : goal.returns-clause-lines
returns-clause-lines g c =
    let at = c.loop-part in
    let over = nothing_left (into_iter_items at.part-iterator) (sym at.invariant.listed ∙ c.in-None.ensures.steps.0) in
    lines_over (into_iter_items at.part-iterator) over at.made.lines.items _ at.invariant.lines ∙ ap (map line_at) c.into_iter-part-iterator.ensures.into_iter_gives.0

pub returns-clause-patterns : goal.returns-clause-patterns
returns-clause-patterns g c =
    let at = c.loop-part in
    let over = nothing_left (into_iter_items at.part-iterator) (sym at.invariant.listed ∙ c.in-None.ensures.steps.0) in
    patterns_over (into_iter_items at.part-iterator) over at.patterns _ at.invariant.patterns ∙ ap (λ x. c.args.patterns.now ++ flat_map patterns_at x) c.into_iter-part-iterator.ensures.into_iter_gives.0

pub returns-clause-fine : goal.returns-clause-fine
returns-clause-fine g c =
    let at = c.loop-part in
    let over = nothing_left (into_iter_items at.part-iterator) (sym at.invariant.listed ∙ c.in-None.ensures.steps.0) in
    ap first_fault (sym c.into_iter-part-iterator.ensures.into_iter_gives.0) ∙ fault_over (into_iter_items at.part-iterator) over _ at.invariant.fault
