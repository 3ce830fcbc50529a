use Rattle.std.proofs.Common.{◌≡◌, List, [], ℕ, Ok, Err, refl, sym, ap, ◌∙◌, subst, if◌then◌else◌}
use Rattle.ngx_outside.specs.Seen.{FilesSeen}
use Rattle.conf_inherit.specs.Values.{has_items}
use Rattle.ngx_cli.specs.declared.site.ReadSite.{ReadSite}
use Rattle.ngx_cli.specs.declared.site.SiteError.TheVariants as error
use Rattle.ngx_cli.specs.declared.status.Status.{Status}
use Rattle.ngx_cli.specs.declared.status.Status.TheVariants as status
use Rattle.ngx_cli.specs.Sites.{conflicts_of}
use Rattle.ngx_cli.specs.Checks.{check_text}
use Rattle.ngx_cli.specs.Commands.{Output, Made, Describes, Finds, CheckEnds, OfFirst, OfSite, OfNoSite}
use Rattle.report_text.specs.Lines.{ended}
use Rattle.report_text.specs.Faults.{conf_fault_line}
use Rattle.ngx_cli.proofs.Endings.{unput_check, checked, error_described, is_files_line, unread_printed, is_maker_line}
use Rattle.ngx_cli.proofs.check.run_check.Goals as goal

pub returns-in-Ok-put_found : goal.returns-in-Ok-put_found
returns-in-Ok-put_found g c =
    let files : FilesSeen = g.F.Files.seen c.args.files.now in
    let files' : FilesSeen = g.F.Files.seen c.site_at.new.files in
    let made : Made = record { before = g.M.PatternMaker.refusals c.args.maker.now; after = g.M.PatternMaker.refusals c.site_at.new.maker } in
    let out : Output = record { before = g.O.Sink.seen c.args.out.now; after = g.O.Sink.seen c.put_found.new.out } in
    let path = c.args.path.now in
    let found = c.in-Ok.found in
    let finds : Finds files files' path found = record { described = record { reads = c.in-Ok.ensures.reading; is = c.in-Ok.ensures.exact }; raceless = c.in-Ok.ensures.none } in
    subst (CheckEnds files files' made out path) (sym (c.status_by.ensures ∙ ap (λ b. if b then status.Racy else status.Done) c.is_racy.ensures))
    (checked files files' made out path found (has_items (conflicts_of found)) refl finds c.in-Ok-put_found.ensures)

pub returns-in-Ok : goal.returns-in-Ok
returns-in-Ok g c =
    let files : FilesSeen = g.F.Files.seen c.args.files.now in
    let files' : FilesSeen = g.F.Files.seen c.site_at.new.files in
    let made : Made = record { before = g.M.PatternMaker.refusals c.args.maker.now; after = g.M.PatternMaker.refusals c.site_at.new.maker } in
    let out : Output = record { before = g.O.Sink.seen c.args.out.now; after = g.O.Sink.seen c.put_found.new.out } in
    let path = c.args.path.now in
    let found = c.in-Ok.found in
    let finds : Finds files files' path found = record { described = record { reads = c.in-Ok.ensures.reading; is = c.in-Ok.ensures.exact }; raceless = c.in-Ok.ensures.none } in
    unput_check files files' made out path (check_text found) c.in-Err.status (OfSite found finds refl) c.in-Err.ensures

pub returns-in-Err-Fault : goal.returns-in-Err-Fault
returns-in-Err-Fault g c =
    let files : FilesSeen = g.F.Files.seen c.args.files.now in
    let files' : FilesSeen = g.F.Files.seen c.site_at.new.files in
    let made : Made = record { before = g.M.PatternMaker.refusals c.args.maker.now; after = g.M.PatternMaker.refusals c.site_at.new.maker } in
    let out : Output = record { before = g.O.Sink.seen c.args.out.now; after = g.O.Sink.seen c.put_fault.new.out } in
    let path = c.args.path.now in
    let placed = c.in-Err-Fault.placed in
    let described : Describes files files' path (Err (error.Fault placed)) = error_described files files' path c.in-Err-Fault.field-0 (error.Fault placed) c.in-Err-Fault.field-0-is c.in-Err-Fault.ensures.reading c.in-Err-Fault.ensures.exact in
    unput_check files files' made out path (ended (conf_fault_line placed.path placed.fault)) c.in-Err-put_fault.status (OfNoSite (OfFirst placed described refl)) c.in-Err-put_fault.ensures

pub returns-in-Ok-put_fault-2 : goal.returns-in-Ok-put_fault-2
returns-in-Ok-put_fault-2 g c =
    let made : Made = record { before = g.M.PatternMaker.refusals c.args.maker.now; after = g.M.PatternMaker.refusals c.site_at.new.maker } in
    let out : Output = record { before = g.O.Sink.seen c.args.out.now; after = g.O.Sink.seen c.put_fault-in-Err-Failed.new.out } in
    unread_printed (g.F.Files.seen c.args.files.now) (g.F.Files.seen c.site_at.new.files) made out c.args.path.now c.in-Err-Failed.field-0 c.in-Err-Failed.placed c.in-Err-Failed.field-0-is c.in-Err-Failed.ensures.reading c.in-Err-Failed.ensures.exact c.in-Err-Failed.ensures.cause c.in-Ok-put_fault-2.ensures

pub returns-in-Err-Failed : goal.returns-in-Err-Failed
returns-in-Err-Failed g c =
    let files : FilesSeen = g.F.Files.seen c.args.files.now in
    let files' : FilesSeen = g.F.Files.seen c.site_at.new.files in
    let made : Made = record { before = g.M.PatternMaker.refusals c.args.maker.now; after = g.M.PatternMaker.refusals c.site_at.new.maker } in
    let out : Output = record { before = g.O.Sink.seen c.args.out.now; after = g.O.Sink.seen c.put_fault-in-Err-Failed.new.out } in
    let path = c.args.path.now in
    let placed = c.in-Err-Failed.placed in
    unput_check files files' made out path (ended (conf_fault_line placed.path placed.fault)) c.in-Err-put_fault-2.status (OfNoSite (is_files_line files files' made path c.in-Err-Failed.field-0 placed c.in-Err-Failed.field-0-is c.in-Err-Failed.ensures.reading c.in-Err-Failed.ensures.exact c.in-Err-Failed.ensures.cause)) c.in-Err-put_fault-2.ensures

pub returns-in-Err-TooBig : goal.returns-in-Err-TooBig
returns-in-Err-TooBig g c =
    let files : FilesSeen = g.F.Files.seen c.args.files.now in
    let files' : FilesSeen = g.F.Files.seen c.site_at.new.files in
    let made : Made = record { before = g.M.PatternMaker.refusals c.args.maker.now; after = g.M.PatternMaker.refusals c.site_at.new.maker } in
    let out : Output = record { before = g.O.Sink.seen c.args.out.now; after = g.O.Sink.seen c.put_fault-in-Err-TooBig.new.out } in
    let path = c.args.path.now in
    let placed = c.in-Err-TooBig.placed in
    unput_check files files' made out path (ended (conf_fault_line placed.path placed.fault)) c.in-Err-put_fault-3.status (OfNoSite (is_maker_line files files' made path c.in-Err-TooBig.field-0 placed c.in-Err-TooBig.field-0-is c.in-Err-TooBig.ensures.cause)) c.in-Err-put_fault-3.ensures
