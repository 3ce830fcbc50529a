use Rattle.std.proofs.Common.{◌≤◌, arith, ◌∙◌}
use Rattle.std.proofs.lemmas.Result.{err_from_is_err_and}
use Rattle.conf_include.proofs.ToldLaws.{told_before}
use Rattle.conf_include.proofs.AnswerLaws.{stop_same}
use Rattle.conf_include.proofs.MainLaws.{main_stop_text, main_stop_lines, main_opened}
use Rattle.conf_include.specs.Expansion.{tally}
use Rattle.conf_include.proofs.AskedLaws.{main_read}
use Rattle.conf_include.proofs.main_file.read_main.Goals as goal

pub returns-in_err-text-clause-exact : goal.returns-in_err-text-clause-exact
returns-in_err-text-clause-exact g c tree names told naming =
    let p = err_from_is_err_and c.from_residual.result c.from_residual.ensures.1 in
    let reading = c.args.reading.now in
    rw (p.1, p.2)
    (main_stop_text tree names c.args.setting.now.main.now c.in_err-text.field-0.0 reading.lines reading.paths reading.size c.requires.paths c.requires.size (c.in_err-text.ensures.text tree reading.paths told))

pub returns-in_err-lines-clause-exact : goal.returns-in_err-lines-clause-exact
returns-in_err-lines-clause-exact g c tree names told naming =
    let p = err_from_is_err_and c.from_residual-in_err-lines.result c.from_residual-in_err-lines.ensures.1 in
    let reading = c.args.reading.now in
    rw (p.1, p.2)
    (main_stop_lines tree names c.args.setting.now.main.now c.in_err-lines.field-0.0 reading.lines reading.paths reading.size c.in_ok-text.text c.requires.paths c.requires.size
    (c.in_ok-text.ensures.text tree reading.paths told) (rw c.as_slice.ensures at (c.in_err-lines.ensures.lines reading.paths)))

pub returns-in_err-put_lines-clause-exact : goal.returns-in_err-put_lines-clause-exact
returns-in_err-put_lines-clause-exact g c tree names told naming =
    let p = err_from_is_err_and c.from_residual-in_err-put_lines.result c.from_residual-in_err-put_lines.ensures.1 in
    let reading = c.args.reading.now in
    let within : c.args.setting.now.tree ≤ (g.F.Files.seen c.text_of.new.files).newest = omega (arith, c.requires.known, c.in_ok-text.ensures.later.newest) in
    let before = told_before c.args.setting.now.tree tree _ _ c.in_err-put_lines.ensures.later within told in
    rw (p.1, p.2)
    (stop_same c.in_err-put_lines.field-0.0 _ _ c.put_lines.new.self.paths
    (main_opened tree names c.args.setting.now.main.now reading.lines c.in_ok-lines.lines reading.paths reading.size c.len.result c.in_ok-text.text c.requires.paths c.requires.size c.len.ensures
    (c.in_ok-text.ensures.text tree reading.paths before) (rw c.as_slice.ensures at (c.in_ok-lines.ensures.lines reading.paths)))
    (c.in_err-put_lines.ensures.exact tree names told naming))

pub returns-clause-exact : goal.returns-clause-exact
returns-clause-exact g c tree names told naming =
    let reading = c.args.reading.now in
    let within : c.args.setting.now.tree ≤ (g.F.Files.seen c.text_of.new.files).newest = omega (arith, c.requires.known, c.in_ok-text.ensures.later.newest) in
    let before = told_before c.args.setting.now.tree tree _ _ c.in_ok-put_lines.ensures.later within told in
    main_opened tree names c.args.setting.now.main.now reading.lines c.in_ok-lines.lines reading.paths reading.size c.len.result c.in_ok-text.text c.requires.paths c.requires.size c.len.ensures
    (c.in_ok-text.ensures.text tree reading.paths before) (rw c.as_slice.ensures at (c.in_ok-lines.ensures.lines reading.paths))
    ∙ c.in_ok-put_lines.ensures.exact tree names told naming

pub put_lines-requires-clause-read : goal.put_lines-requires-clause-read
put_lines-requires-clause-read g c tree names told naming =
    let reading = c.args.reading.now in
    main_read tree names c.args.setting.now.main.now reading.paths (tally reading.paths reading.size) c.in_ok-text.text c.in_ok-lines.lines c.requires.paths
    (c.in_ok-text.ensures.text tree reading.paths told) (rw c.as_slice.ensures at (c.in_ok-lines.ensures.lines reading.paths))
