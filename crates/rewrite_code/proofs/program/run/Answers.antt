use Rattle.std.proofs.Common.{◌≡◌, true, false, List, drop, subst}
use Rattle.site_whole.specs.site_model.declared.program.RewriteStep.{RewriteStep}
use Rattle.request_meaning.specs.Rewriting.{rewritten, program_run, begins_at}
use Rattle.rewrite_code.specs.Found.{finding}
use Rattle.rewrite_code.specs.Places.{standing_seen}
use Rattle.rewrite_code.specs.Runs.{program_of, still, ComesTo}
use Rattle.rewrite_code.proofs.program.run.Goals as goal

pub returns-clause-does : goal.returns-clause-does
unfolding program_run
returns-clause-does c = λ w.
    let site = c.args.setting.now.site.now in
    let main = c.args.setting.now.main.now in
    let ps = c.args.patterns.now in
    let P : List RewriteStep → Type 0 = λ xs. ComesTo (rewritten (finding w) main true 0 (drop 0 (program_of ps site xs)) (begins_at (standing_seen site c.args.progress.now))) c.args.vars.now (still (finding w) main site (program_of ps site xs) c.run_from.new.progress c.in_ok-step.step) c.run_from.new.vars in
    subst P c.as_slice-steps.ensures (c.in_ok-step.ensures.does w)
