use Rattle.std.proofs.Common.{◌≡◌, ◌+◌, ◌<◌, ◌≤◌, false, List, length, drop, get_or, subst, ◌∙◌, ap, arith}
use Rattle.site_whole.specs.site_model.declared.program.RewriteStep.{RewriteStep}
use Rattle.request_meaning.specs.Rewriting.{rewritten}
use Rattle.pattern_search.specs.Found.{patterns_seen}
use Rattle.rewrite_code.specs.Found.{finding}
use Rattle.rewrite_code.specs.Places.{progress_seen}
use Rattle.rewrite_code.specs.Runs.{program_of, still, ComesTo}
use Rattle.rewrite_code.specs.Moves.{move_seen}
use Rattle.rewrite_code.proofs.Programs.{resumes_on, resumes_over, resumes_nowhere}
use Rattle.rewrite_code.proofs.program.resume.Goals as goal

pub returns-in-None-clause-does : goal.returns-in-None-clause-does
returns-in-None-clause-does c = λ w item from.
    let past : length c.args.program.now ≤ c.args.at = omega (arith, c.in-None.ensures.lookup.3, ap length c.as_slice-steps.ensures) in
    resumes_nowhere (finding w) c.args.setting.now.main.now c.args.patterns.now c.args.setting.now.site.now c.args.program.now c.args.at past c.args.progress.now c.args.vars.now item

pub returns-in-Stop-clause-does : goal.returns-in-Stop-clause-does
returns-in-Stop-clause-does c = λ w item from.
    let site = c.args.setting.now.site.now in
    let d = c.in-Some.directive.now in
    let there : c.args.at < length c.args.program.now = omega (arith, c.in-Some.ensures.lookup.3.0, ap length c.as_slice-steps.ensures) in
    let is : d ≡ get_or c.args.program.now c.args.at d = c.in-Some.ensures.lookup.1 ∙ ap (λ xs. get_or xs c.args.at d) c.as_slice-steps.ensures in
    resumes_over (finding w) c.args.setting.now.main.now c.args.patterns.now site c.args.program.now c.args.at d there is c.args.progress.now c.tell.new.progress c.in-Stop.ending c.args.vars.now item
    (c.in_ok-made-in-Some.ensures (patterns_seen c.args.patterns.now) item from ∙ ap (λ m. move_seen site c.tell.new.progress m) c.in-Stop.is)

pub returns-in_ok-step-in-On-clause-does : goal.returns-in_ok-step-in-On-clause-does
returns-in_ok-step-in-On-clause-does c = λ w item from.
    let site = c.args.setting.now.site.now in
    let main = c.args.setting.now.main.now in
    let ps = c.args.patterns.now in
    let d = c.in-Some.directive.now in
    let skip = c.in-On.skip in
    let there : c.args.at < length c.args.program.now = omega (arith, c.in-Some.ensures.lookup.3.0, ap length c.as_slice-steps.ensures) in
    let is : d ≡ get_or c.args.program.now c.args.at d = c.in-Some.ensures.lookup.1 ∙ ap (λ xs. get_or xs c.args.at d) c.as_slice-steps.ensures in
    let P : List RewriteStep → Type 0 = λ xs. ComesTo (rewritten (finding w) main false 0 (drop (c.args.at + 1 + skip) (program_of ps site xs)) (progress_seen site c.tell.new.progress)) c.args.vars.now (still (finding w) main site (program_of ps site xs) c.run_from.new.progress c.in_ok-step-in-On.step) c.run_from.new.vars in
    resumes_on (finding w) main ps site c.args.program.now c.args.at d there is c.args.progress.now c.tell.new.progress skip c.args.vars.now item
    (c.in_ok-made-in-Some.ensures (patterns_seen ps) item from ∙ ap (λ m. move_seen site c.tell.new.progress m) c.in-On.is)
    ∙ subst P c.as_slice-steps.ensures (c.in_ok-step-in-On.ensures.does w)
