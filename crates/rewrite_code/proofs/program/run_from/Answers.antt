use Rattle.std.proofs.Common.{◌≡◌, ◌+◌, ◌<◌, length, get_or, sym, ◌∙◌, ap, arith}
use Rattle.rewrite_code.specs.declared.program.Next.TheVariants.{At, Answered}
use Rattle.rewrite_code.specs.declared.step.Move.TheVariants as moves
use Rattle.pattern_search.specs.Found.{patterns_seen}
use Rattle.rewrite_code.specs.Found.{finding}
use Rattle.rewrite_code.specs.Runs.{program_of}
use Rattle.rewrite_code.specs.Steps.{ahead}
use Rattle.rewrite_code.proofs.Programs.{onward, over_at, moved_at, of_some}
use Rattle.rewrite_code.proofs.program.run_from.Goals as goal

pub steps-preserved-in-Some-done : goal.steps-preserved-in-Some-done
steps-preserved-in-Some-done c =
    let main = c.args.setting.now.main.now in
    let site = c.args.setting.now.site.now in
    let program = c.args.program.now in
    let ps = c.args.patterns.now in
    let skip = c.in-Some-done.skip in
    let d = c.in-Some.directive.now in
    let there : c.steps.at < length program = omega (arith, c.in-Some.ensures.lookup.3.0) in
    let is : d ≡ get_or program c.steps.at d = c.in-Some.ensures.lookup.1 in (
      c.steps.invariant.0,
      λ w. ap (λ leading. ahead (finding w) main site (program_of ps site program) c.steps.progress c.at_once.new.vars (At (c.steps.at + 1 + skip) leading)) (c.leads_on-leading.ensures (patterns_seen ps) site)
          ∙ (moved_at (finding w) main ps site program c.steps.at d there is c.steps.leading c.steps.progress c.steps.progress (moves.On skip) c.steps.vars c.at_once.new.vars (of_some _ c.in_ok-done-in-Some.done skip c.in-Some-done.is c.in_ok-done-in-Some.ensures.does w ps site c.steps.leading)
          ∙ c.steps.invariant.1 w),
    )

pub steps-preserved : goal.steps-preserved
steps-preserved c =
    let main = c.args.setting.now.main.now in
    let site = c.args.setting.now.site.now in
    let program = c.args.program.now in (
      c.in_ok-next-in-None-done.ensures.kept ∙ c.steps.invariant.0,
      λ w. onward
          (λ ps next. ahead (finding w) main site (program_of ps site program) c.advance.new.progress c.advance.new.vars next)
          (λ ps. ahead (finding w) main site (program_of ps site program) c.steps.progress c.steps.vars (At c.steps.at c.steps.leading))
          c.steps.patterns c.args.patterns.now c.in_ok-next-in-None-done.next (At c.in-At.place c.in-At.first) _
          c.steps.invariant.0 c.in-At.is
          (c.in_ok-next-in-None-done.ensures.does w
          ∙ ap (λ vars. ahead (finding w) main site (program_of c.steps.patterns site program) c.steps.progress vars (At c.steps.at c.steps.leading)) (c.in_ok-done-in-Some.ensures.not_done c.in-None-done.is))
          (c.steps.invariant.1 w),
    )

pub returns-in-Answered-clause-does : goal.returns-in-Answered-clause-does
returns-in-Answered-clause-does c =
    let main = c.args.setting.now.main.now in
    let site = c.args.setting.now.site.now in
    let program = c.args.program.now in
    λ w. sym (onward
    (λ ps next. ahead (finding w) main site (program_of ps site program) c.advance.new.progress c.advance.new.vars next)
    (λ ps. ahead (finding w) main site (program_of ps site program) c.steps.progress c.steps.vars (At c.steps.at c.steps.leading))
    c.steps.patterns c.args.patterns.now c.in_ok-next-in-None-done.next (Answered c.in-Answered.step) _
    c.steps.invariant.0 c.in-Answered.is
    (c.in_ok-next-in-None-done.ensures.does w
    ∙ ap (λ vars. ahead (finding w) main site (program_of c.steps.patterns site program) c.steps.progress vars (At c.steps.at c.steps.leading)) (c.in_ok-done-in-Some.ensures.not_done c.in-None-done.is))
    (c.steps.invariant.1 w))

pub returns-in-None-clause-does : goal.returns-in-None-clause-does
returns-in-None-clause-does c = λ w.
    sym (over_at (finding w) c.args.setting.now.main.now c.args.patterns.now c.args.setting.now.site.now c.args.program.now c.steps.at c.in-None.ensures.lookup.3 c.steps.progress c.steps.vars c.steps.leading ∙ c.steps.invariant.1 w)
