use Rattle.std.proofs.Common.{refl, ap, ◌∙◌}
use Rattle.ngx_cli.proofs.RaceLines.{line_of, same_line, race_more, race_done, whole_text}
use Rattle.ngx_cli.proofs.check.races_text.Goals as goal

pub loop-race-preserved : goal.loop-race-preserved
loop-race-preserved c =
    let files = c.args.files.now in
    let paths = c.args.paths.now in
    race_more files paths c.args.races.now c.loop-race.out c.race_text.new.out _ c.loop-race.race-index c.race-item.result c.loop-race-test.true
    (same_line files paths c.race-item.result _ c.as_slice.result.now c.as_slice-in-loop-race.result.now c.as_slice-in-loop-race-2.result.now _ refl c.as_slice.ensures c.as_slice-in-loop-race.ensures.value c.as_slice-in-loop-race-2.ensures.value refl ∙ ap (line_of files paths) c.race-item.is)
    c.in_ok-race_text.ensures
    ∙ c.loop-race.invariant

pub returns : goal.returns
returns c =
    let files = c.args.files.now in
    let paths = c.args.paths.now in
    race_done files paths c.args.races.now c.loop-race.out c.loop-race.race-index c.loop-race-test.false
    ∙ c.loop-race.invariant
    ∙ whole_text files paths c.args.races.now c.args.out.now
