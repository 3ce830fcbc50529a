use Rattle.std.proofs.Common.{◌≡◌, ◌∙◌, ap}
use Rattle.acts.specs.Act.{Done}
use Rattle.site_whole.specs.Whole.{pattern_at, flag_seen}
use Rattle.pattern_search.specs.Found.{patterns_seen}
use Rattle.rewrite_code.specs.Found.{finding}
use Rattle.rewrite_code.specs.Places.{progress_seen}
use Rattle.rewrite_code.specs.Moves.{values_at}
use Rattle.rewrite_code.proofs.Acts.{set_settles, if_settles, rewrite_settles, return_settles, stop_settles}
use Rattle.rewrite_code.proofs.step.step.Goals as goal

pub returns-in_ok-made-in-Set-clause-does : goal.returns-in_ok-made-in-Set-clause-does
returns-in_ok-made-in-Set-clause-does c = λ w.
    let p = progress_seen c.args.setting.now.site.now c.args.progress.now in
    rw c.in-Set.is (set_settles c.args.setting.now.main.now c.args.vars.now (finding w) c.args.leading p c.in-Set.name c.in-Set.text _ _ (c.in_ok-made-in-Set.ensures c.args.setting.now.site.now c.args.progress.now))

pub returns-in_ok-made-in-If-clause-does : goal.returns-in_ok-made-in-If-clause-does
returns-in_ok-made-in-If-clause-does c = λ w.
    let p = progress_seen c.args.setting.now.site.now c.args.progress.now in
    rw c.in-If.is
    (if_settles c.args.setting.now.main.now c.args.vars.now w c.args.leading p c.args.patterns.now c.in-If.test c.in-If.negated c.in-If.block (values_at c.args.setting.now.site.now c.in-If.level)
    ∙ ap (λ m. (m, c.args.vars.now)) c.in_ok-made-in-If.ensures.does)

pub returns-in_ok-made-in-Rewrite-clause-does : goal.returns-in_ok-made-in-Rewrite-clause-does
returns-in_ok-made-in-Rewrite-clause-does c = λ w.
    let p = progress_seen c.args.setting.now.site.now c.args.progress.now in
    rw c.in-Rewrite.is
    (rewrite_settles c.args.setting.now.main.now c.args.vars.now w c.args.leading p (pattern_at (patterns_seen c.args.patterns.now) c.in-Rewrite.pattern) c.in-Rewrite.to c.in-Rewrite.is_url (flag_seen c.in-Rewrite.flag)
    ∙ ap (λ s. (Done s, c.args.vars.now)) (c.in_ok-made-in-Rewrite.ensures.does c.args.setting.now.site.now))

pub returns-in_ok-made-in-Return-clause-does : goal.returns-in_ok-made-in-Return-clause-does
returns-in_ok-made-in-Return-clause-does c = λ w.
    let p = progress_seen c.args.setting.now.site.now c.args.progress.now in
    rw c.in-Return.is
    (return_settles c.args.setting.now.main.now c.args.vars.now (finding w) c.args.leading p c.in-Return.code c.in-Return.text
    ∙ ap (λ s. (Done s, c.args.vars.now)) (c.in_ok-made-in-Return.ensures c.args.setting.now.site.now c.args.progress.now))

pub returns-in-Stop-clause-does : goal.returns-in-Stop-clause-does
returns-in-Stop-clause-does c = λ w.
    rw c.in-Stop.is (stop_settles c.args.setting.now.main.now c.args.vars.now (finding w) c.args.leading (progress_seen c.args.setting.now.site.now c.args.progress.now))
