use Rattle.std.proofs.Common.{◌≡◌, [], Ok, Err, refl, ap, sym, subst}
use Rattle.site_service.specs.Serving.{Outside}
use Rattle.ngx_cli.specs.declared.site.SiteError.TheVariants as error
use Rattle.ngx_cli.specs.Commands.{Output, Made, Describes, Finds, OfFirst, ServeEnds}
use Rattle.report_text.specs.Lines.{ended}
use Rattle.report_text.specs.Faults.{conf_fault_line}
use Rattle.ngx_cli.proofs.Endings.{found_ends, unput_serving, error_described, is_files_line, unread_printed, is_maker_line}
use Rattle.ngx_cli.proofs.command.run_site.Goals as goal

pub returns-in-Ok : goal.returns-in-Ok
returns-in-Ok g c =
    let reading = g.F.Files.seen c.site_at.new.files in
    let o : Outside = record {
      files = g.F.Files.seen c.args.files.now;
      files' = g.F.Files.seen c.serve_found.new.files;
      links = g.L.Links.seen c.args.links.now;
      links' = g.L.Links.seen c.serve_found.new.links;
      clock = g.C.Clock.seen c.args.clock.now;
      clock' = g.C.Clock.seen c.serve_found.new.clock;
    } in
    let made : Made = record { before = g.M.PatternMaker.refusals c.args.maker.now; after = g.M.PatternMaker.refusals c.site_at.new.maker } in
    let out : Output = record { before = g.O.Sink.seen c.args.out.now; after = g.O.Sink.seen c.serve_found.new.out } in
    let path = c.args.asked.conf.now in
    let found = c.in-Ok.found in
    let finds : Finds o.files reading path found = record { described = record { reads = c.in-Ok.ensures.reading; is = c.in-Ok.ensures.exact }; raceless = c.in-Ok.ensures.none } in
    found_ends found c.args.asked.racy o reading made out path c.args.asked.turns finds c.serve_found.result c.serve_found.ensures

pub returns-in-Err-Fault : goal.returns-in-Err-Fault
returns-in-Err-Fault g c =
    let o : Outside = record {
      files = g.F.Files.seen c.args.files.now;
      files' = g.F.Files.seen c.site_at.new.files;
      links = g.L.Links.seen c.args.links.now;
      links' = g.L.Links.seen c.args.links.now;
      clock = g.C.Clock.seen c.args.clock.now;
      clock' = g.C.Clock.seen c.args.clock.now;
    } in
    let made : Made = record { before = g.M.PatternMaker.refusals c.args.maker.now; after = g.M.PatternMaker.refusals c.site_at.new.maker } in
    let out : Output = record { before = g.O.Sink.seen c.args.out.now; after = g.O.Sink.seen c.put_fault.new.out } in
    let path = c.args.asked.conf.now in
    let placed = c.in-Err-Fault.placed in
    let described : Describes o.files o.files' path (Err (error.Fault placed)) = error_described o.files o.files' path c.in-Err-Fault.field-0 (error.Fault placed) c.in-Err-Fault.field-0-is c.in-Err-Fault.ensures.reading c.in-Err-Fault.ensures.exact in
    unput_serving o made out path c.args.asked.turns c.args.asked.racy (ended (conf_fault_line placed.path placed.fault)) c.in-Err.status (OfFirst placed described refl) c.in-Err.ensures

pub returns-in-Ok-put_fault-2 : goal.returns-in-Ok-put_fault-2
returns-in-Ok-put_fault-2 g c =
    let made : Made = record { before = g.M.PatternMaker.refusals c.args.maker.now; after = g.M.PatternMaker.refusals c.site_at.new.maker } in
    let out : Output = record { before = g.O.Sink.seen c.args.out.now; after = g.O.Sink.seen c.put_fault-in-Err-Failed.new.out } in
    unread_printed (g.F.Files.seen c.args.files.now) (g.F.Files.seen c.site_at.new.files) made out c.args.asked.conf.now c.in-Err-Failed.field-0 c.in-Err-Failed.placed c.in-Err-Failed.field-0-is c.in-Err-Failed.ensures.reading c.in-Err-Failed.ensures.exact c.in-Err-Failed.ensures.cause c.in-Ok-put_fault-2.ensures

pub returns-in-Err-Failed : goal.returns-in-Err-Failed
returns-in-Err-Failed g c =
    let o : Outside = record {
      files = g.F.Files.seen c.args.files.now;
      files' = g.F.Files.seen c.site_at.new.files;
      links = g.L.Links.seen c.args.links.now;
      links' = g.L.Links.seen c.args.links.now;
      clock = g.C.Clock.seen c.args.clock.now;
      clock' = g.C.Clock.seen c.args.clock.now;
    } in
    let made : Made = record { before = g.M.PatternMaker.refusals c.args.maker.now; after = g.M.PatternMaker.refusals c.site_at.new.maker } in
    let out : Output = record { before = g.O.Sink.seen c.args.out.now; after = g.O.Sink.seen c.put_fault-in-Err-Failed.new.out } in
    let path = c.args.asked.conf.now in
    let placed = c.in-Err-Failed.placed in
    unput_serving o made out path c.args.asked.turns c.args.asked.racy (ended (conf_fault_line placed.path placed.fault)) c.in-Err-put_fault.status (is_files_line o.files o.files' made path c.in-Err-Failed.field-0 placed c.in-Err-Failed.field-0-is c.in-Err-Failed.ensures.reading c.in-Err-Failed.ensures.exact c.in-Err-Failed.ensures.cause) c.in-Err-put_fault.ensures

pub returns-in-Err-TooBig : goal.returns-in-Err-TooBig
returns-in-Err-TooBig g c =
    let o : Outside = record {
      files = g.F.Files.seen c.args.files.now;
      files' = g.F.Files.seen c.site_at.new.files;
      links = g.L.Links.seen c.args.links.now;
      links' = g.L.Links.seen c.args.links.now;
      clock = g.C.Clock.seen c.args.clock.now;
      clock' = g.C.Clock.seen c.args.clock.now;
    } in
    let made : Made = record { before = g.M.PatternMaker.refusals c.args.maker.now; after = g.M.PatternMaker.refusals c.site_at.new.maker } in
    let out : Output = record { before = g.O.Sink.seen c.args.out.now; after = g.O.Sink.seen c.put_fault-in-Err-TooBig.new.out } in
    let path = c.args.asked.conf.now in
    let placed = c.in-Err-TooBig.placed in
    unput_serving o made out path c.args.asked.turns c.args.asked.racy (ended (conf_fault_line placed.path placed.fault)) c.in-Err-put_fault-2.status (is_maker_line o.files o.files' made path c.in-Err-TooBig.field-0 placed c.in-Err-TooBig.field-0-is c.in-Err-TooBig.ensures.cause) c.in-Err-put_fault-2.ensures
