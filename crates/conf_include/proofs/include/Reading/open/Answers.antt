use Rattle.std.proofs.Common.{◌+◌, ap}
use Rattle.std.proofs.lemmas.Result.{err_from_is_err_and}
use Rattle.conf_include.specs.Expansion.{spot, tally}
use Rattle.conf_include.specs.Steps.{tally_of}
use Rattle.conf_include.proofs.FileLaws.{open_stop_number, open_stop_text, open_lines}
use Rattle.conf_include.proofs.include.Reading.open.Goals as goal

pub returns-in_err-number-clause-opens : goal.returns-in_err-number-clause-opens
returns-in_err-number-clause-opens g c tree told =
    let p = err_from_is_err_and c.from_residual.result c.from_residual.ensures.1 in
    rw (p.1, p.2) (open_stop_number tree (spot c.args.at.file c.args.at.line) c.args.path (tally_of c.args.self.now) c.in_err-number.field-0.0 (rw c.as_slice.ensures at c.in_err-number.ensures.number))

pub returns-in_err-text-clause-opens : goal.returns-in_err-text-clause-opens
returns-in_err-text-clause-opens g c tree told =
    let p = err_from_is_err_and c.from_residual-in_err-text.result c.from_residual-in_err-text.ensures.1 in
    rw (p.1, p.2)
    (open_stop_text tree (spot c.args.at.file c.args.at.line) c.args.path (tally_of c.args.self.now) c.in_ok-number.number c.in_err-text.field-0.0
    (rw c.as_slice.ensures at c.in_ok-number.ensures.number) (rw c.as_slice-2.ensures at (c.in_err-text.ensures.text tree c.args.self.now.paths told)))

pub returns-clause-opens : goal.returns-clause-opens
returns-clause-opens g c tree told =
    open_lines tree (spot c.args.at.file c.args.at.line) c.args.path (tally_of c.args.self.now) (tally c.push.new.self (c.args.self.now.size + c.len.result)) c.in_ok-number.number c.in_ok-text.text c.directives_in.result
    (rw c.as_slice.ensures at c.in_ok-number.ensures.number) (rw c.as_slice-2.ensures at (c.in_ok-text.ensures.text tree c.args.self.now.paths told))
    c.in_ok-push.ensures.ok (ap (λ n. c.args.self.now.size + n) c.len.ensures) (rw c.as_slice-3.ensures at (c.directives_in.ensures.lines c.push.new.self))
