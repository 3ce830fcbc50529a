use Rattle.std.proofs.Common.{◌≡◌, ◌<◌, length, ap, sym, ◌∙◌, arith}
use Rattle.std.proofs.lemmas.List.{get_or_read, length-set}
use Rattle.conf_races.specs.Runs.{in_run}
use Rattle.conf_text.specs.declared.directive.Directive.{Directive}
use Rattle.conf_races.proofs.RunLaws.{runs_more, files_more, runs_over, files_over}
use Rattle.conf_races.proofs.runs.number_runs.Goals as goal

pub loop-at-preserved : goal.loop-at-preserved
loop-at-preserved c =
    let now = c.loop-at.directives.items in
    let i = c.loop-at.at in
    let d = c.index_mut.result.now in
    let inside : i < length now = omega (arith, c.loop-at-test.true, c.loop-at.invariant.2) in
    let at : c.index.result.now ≡ d = get_or_read now i c.index.result.now inside c.index.ensures d ∙ sym c.index_mut.ensures.value in
    let file : c.index.result.now.file ≡ d.file = ap (λ (x : Directive). x.file) at in (
      runs_more now i d inside c.index_mut.ensures.value c.loop-at.run c.loop-at.last c.in_ok-run.run' c.index.result.now.file _ file c.in_ok-run.ensures.run c.loop-at.invariant.0,
      files_more now i d inside c.index_mut.ensures.value c.loop-at.last c.index.result.now.file (in_run c.in_ok-run.run' d) c.loop-at.files.items c.run_of.new.files.items _ file c.in_ok-run.ensures.files c.loop-at.invariant.1,
      length-set now i (in_run c.in_ok-run.run' d) ∙ c.loop-at.invariant.2,
    )

pub returns-clause-files : goal.returns-clause-files
returns-clause-files c = files_over c.loop-at.directives.items c.loop-at.at (omega (arith, c.loop-at-test.false, c.loop-at.invariant.2)) c.loop-at.last c.loop-at.files.items _ c.loop-at.invariant.1

pub returns-clause-runs : goal.returns-clause-runs
returns-clause-runs c = runs_over c.loop-at.directives.items c.loop-at.at (omega (arith, c.loop-at-test.false, c.loop-at.invariant.2)) c.loop-at.run c.loop-at.last _ c.loop-at.invariant.0
