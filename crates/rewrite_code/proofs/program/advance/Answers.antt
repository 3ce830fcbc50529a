use Rattle.std.proofs.Common.{◌≡◌, ◌∙◌, ap}
use Rattle.site_whole.specs.Whole.{step_seen}
use Rattle.pattern_search.specs.Found.{patterns_seen}
use Rattle.rewrite_code.specs.Found.{finding}
use Rattle.rewrite_code.specs.Runs.{program_of}
use Rattle.rewrite_code.specs.Moves.{done_seen}
use Rattle.rewrite_code.specs.Steps.{ahead}
use Rattle.rewrite_code.proofs.Programs.{moved_at, waits_at}
use Rattle.rewrite_code.proofs.program.advance.Goals as goal

pub returns-in-Moved-clause-does : goal.returns-in-Moved-clause-does
returns-in-Moved-clause-does c = λ w.
    let main = c.args.setting.now.main.now in
    let site = c.args.setting.now.site.now in
    let ps = c.args.patterns.now in
    let d = step_seen (patterns_seen ps) site c.args.directive.now in
    ap (λ next. ahead (finding w) main site (program_of ps site c.args.program.now) c.step.new.progress c.step.new.vars next) (c.next_after.ensures.next (patterns_seen ps) site)
    ∙ moved_at (finding w) main ps site c.args.program.now c.args.spot.at c.args.directive.now c.requires.there c.requires.item c.args.spot.leading c.args.progress.now c.step.new.progress c.in-Moved.made c.args.vars.now c.step.new.vars
    (c.in_ok-done.ensures.does w ∙ ap (λ done. (done_seen site c.step.new.progress d done, c.step.new.vars)) c.in-Moved.is)

pub returns-in-Asks-clause-does : goal.returns-in-Asks-clause-does
returns-in-Asks-clause-does c = λ w.
    let main = c.args.setting.now.main.now in
    let site = c.args.setting.now.site.now in
    let ps = c.args.patterns.now in
    let d = step_seen (patterns_seen ps) site c.args.directive.now in
    waits_at (finding w) main ps site c.args.program.now c.args.spot.at c.args.directive.now c.requires.there c.requires.item c.args.spot.leading c.args.progress.now c.step.new.progress c.in-Asks.path c.args.vars.now c.step.new.vars
    (c.in_ok-done.ensures.does w ∙ ap (λ done. (done_seen site c.step.new.progress d done, c.step.new.vars)) c.in-Asks.is)
