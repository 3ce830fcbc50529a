use Rattle.std.proofs.Common.{◌≡◌, ◌-◌, length}
use Rattle.request_meaning.specs.Serving.{World}
use Rattle.rewrite_code.specs.declared.program.Next.TheVariants.{At}
use Rattle.rewrite_code.specs.Found.{finding}
use Rattle.rewrite_code.specs.Runs.{program_of}
use Rattle.rewrite_code.specs.Steps.{ahead}
use Rattle.rewrite_code.proofs.program.run_from.Given as goal

-- what is still to be done stays the same
abbrev pub invariant-steps : goal.invariant-steps
invariant-steps l =
    (l.patterns ≡ l.fn.patterns)
    × ((w : World) → ahead (finding w) l.setting.main.now l.setting.site.now (program_of l.fn.patterns l.setting.site.now l.program) l.progress l.vars (At l.at l.leading)
    ≡ ahead (finding w) l.setting.main.now l.setting.site.now (program_of l.fn.patterns l.setting.site.now l.program) l.fn.progress l.fn.vars (At l.fn.at l.fn.leading))

abbrev pub decreases-steps : goal.decreases-steps
decreases-steps l = length l.program - l.at
