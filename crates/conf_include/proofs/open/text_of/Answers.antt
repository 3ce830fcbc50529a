use Rattle.std.proofs.Common.{◌≤◌, arith}
use Rattle.std.proofs.lemmas.Result.{err_from_is_err_and}
use Rattle.conf_include.specs.Expansion.{spot, tally}
use Rattle.conf_include.proofs.ToldLaws.{told_before}
use Rattle.conf_include.proofs.FileLaws.{whole_text}
use Rattle.conf_include.proofs.open.text_of.Goals as goal

pub returns-in_err-len-clause-text : goal.returns-in_err-len-clause-text
returns-in_err-len-clause-text g c tree paths told =
    let p = err_from_is_err_and c.from_residual.result c.from_residual.ensures.1 in
    rw (p.1, p.2) (c.in_err-len.ensures.len tree paths told)

pub returns-clause-text : goal.returns-clause-text
returns-clause-text g c tree paths told =
    let path = c.args.path.now in
    let within : c.args.of ≤ (g.F.Files.seen c.len_of.new.files).newest = omega (arith, c.requires, c.in_ok-len.ensures.later.newest) in
    let before = told_before c.args.of tree _ _ c.bytes_of.ensures.later within told in
    whole_text (tree path) (spot c.args.at.file c.args.at.line) path (tally paths c.args.size) c.in_ok-len.len c.bytes_of.result
    (c.in_ok-len.ensures.len tree paths before) (c.bytes_of.ensures.bytes tree told)
