use Rattle.std.proofs.Common.{[], ◌∙◌, ap}
use Rattle.std.specs.Prelude.{slice_index_or}
use Rattle.report_text.proofs.PlaceLaws.{place_more, place_done}
use Rattle.report_text.proofs.races.put_places.Goals as goal

pub loop-line-preserved : goal.loop-line-preserved
loop-line-preserved c =
    let paths = c.args.paths.now in
    place_more c.args.files.now paths c.args.lines.now c.loop-line.out c.put_place.new.out c.path_of-path.result.now c.loop-line.line-index _ c.loop-line-test.true
    (c.path_of-path.ensures ∙ ap (λ f. slice_index_or paths f []) c.file_of.ensures) c.in_ok-put_place.ensures
    ∙ c.loop-line.invariant

pub returns : goal.returns
returns c = place_done c.args.files.now c.args.paths.now c.args.lines.now c.loop-line.out c.loop-line.line-index c.loop-line-test.false ∙ c.loop-line.invariant
