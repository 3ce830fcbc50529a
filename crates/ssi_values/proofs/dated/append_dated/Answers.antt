use Rattle.std.proofs.Common.{◌≡◌, ◌++◌, Some, None, OnOk, subst, sym}
use Rattle.ssi_values.specs.Known.{known_seen}
use Rattle.ssi_values.specs.Dated.{special_of}
use Rattle.ssi_values.specs.declared.dated.Special.TheVariants as special
use Rattle.ssi_values.proofs.Dates as dates
use Rattle.ssi_values.proofs.dated.append_dated.Goals as goal

pub returns-in-Some-Date : goal.returns-in-Some-Date
returns-in-Some-Date c =
    let e : special_of c.args.piece.now ≡ Some special.Date = cc in
    subst (λ t. OnOk c.append_date.result (c.append_date.new.out ≡ c.args.out.now ++ t)) (sym (dates.date_value (known_seen c.args.sight.now) c.args.piece.now e)) c.append_date.ensures

pub returns-in-Some-Root : goal.returns-in-Some-Root
returns-in-Some-Root c =
    let e : special_of c.args.piece.now ≡ Some special.Root = cc in
    subst (λ t. OnOk c.append_root.result (c.append_root.new.out ≡ c.args.out.now ++ t)) (sym (dates.root_piece (known_seen c.args.sight.now) c.args.piece.now e)) c.append_root.ensures

pub returns-in-Some-File : goal.returns-in-Some-File
returns-in-Some-File c =
    let e : special_of c.args.piece.now ≡ Some special.File = cc in
    subst (λ t. OnOk c.append_file.result (c.append_file.new.out ≡ c.args.out.now ++ t)) (sym (dates.file_piece (known_seen c.args.sight.now) c.args.piece.now e)) c.append_file.ensures

pub returns-in-None : goal.returns-in-None
returns-in-None c =
    let s = c.args.sight.now in
    let e : special_of c.args.piece.now ≡ None = cc in
    subst (λ t. OnOk c.append.result (c.append.new.out ≡ c.args.out.now ++ t)) (dates.undated s.main.now (known_seen s).main.date s.request.now s.vars.now c.args.piece.now e) c.append.ensures
