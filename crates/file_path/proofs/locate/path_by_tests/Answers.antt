use Rattle.std.proofs.Common.{◌≡◌, false, true, sym, ◌∙◌, ap}
use Rattle.ngx_variables.specs.Paths.{joined}
use Rattle.file_path.specs.Located.{can_stand}
use Rattle.file_path.proofs.Found.{at_by, not_there_by, behind_old, before_more}
use Rattle.file_path.proofs.locate.path_by_tests.Goals as goal

pub returns-then-can_stand-clause-there : goal.returns-then-can_stand-clause-there
returns-then-can_stand-clause-there c = λ e.
    let path = joined c.args.place.now c.args.text.now c.args.uri.now c.args.folder.now in
    let written = behind_old c.args.out.now path c.joined.new.out c.as_slice.result.now c.len-start.result c.as_slice.ensures c.in_ok-joined.ensures c.len-start.ensures in
    let stands : can_stand path ≡ true = sym (ap can_stand written) ∙ (sym c.can_stand.ensures ∙ c.if-can_stand.true) in
    (path, at_by c.args.place.now c.args.text.now c.args.uri.now c.args.folder.now c.requires stands, c.in_ok-joined.ensures)

pub returns-clause-not_there : goal.returns-clause-not_there
returns-clause-not_there c = λ e.
    let path = joined c.args.place.now c.args.text.now c.args.uri.now c.args.folder.now in
    let written = behind_old c.args.out.now path c.joined.new.out c.as_slice.result.now c.len-start.result c.as_slice.ensures c.in_ok-joined.ensures c.len-start.ensures in
    let falls : can_stand path ≡ false = sym (ap can_stand written) ∙ (sym c.can_stand.ensures ∙ c.if-can_stand.false) in (
      not_there_by c.args.place.now c.args.text.now c.args.uri.now c.args.folder.now c.requires falls,
      c.truncate.ensures ∙ before_more c.args.out.now path c.joined.new.out c.len-start.result c.in_ok-joined.ensures c.len-start.ensures,
    )
