use Rattle.std.proofs.Common.{◌≡◌, [], false, not, Ok, refl, ap, sym, subst, ◌∙◌}
use Rattle.std.proofs.lemmas.List.{append-nil}
use Rattle.site_service.specs.Serving.{Outside, Serving}
use Rattle.conf_inherit.specs.Values.{has_items}
use Rattle.ngx_cli.specs.Sites.{conflicts_of}
use Rattle.ngx_cli.specs.Checks.{check_text}
use Rattle.ngx_cli.specs.Commands.{Output, FoundEnds}
use Rattle.ngx_cli.proofs.Endings.{served, none_named, unnamed, unput_found, unrefused, refused}
use Rattle.ngx_cli.proofs.command.serve_found.Goals as goal

-- where none is named the site's servers are raceless
pub serve_site-requires-clause-quiet : goal.serve_site-requires-clause-quiet
serve_site-requires-clause-quiet g c = λ r. c.requires.quiet (none_named c.args.found (unnamed c.is_racy-raceless.result (has_items (conflicts_of c.args.found)) c.is_racy-raceless.ensures r))

pub returns-in-Ok-serve_site : goal.returns-in-Ok-serve_site
returns-in-Ok-serve_site g c =
    let o : Outside = record {
      files = g.F.Files.seen c.args.files.now;
      files' = g.F.Files.seen c.serve_site.new.files;
      links = g.L.Links.seen c.args.links.now;
      links' = g.L.Links.seen c.serve_site.new.links;
      clock = g.C.Clock.seen c.args.clock.now;
      clock' = g.C.Clock.seen c.serve_site.new.clock;
    } in
    let out : Output = record { before = g.O.Sink.seen c.args.out.now; after = g.O.Sink.seen c.args.out.now } in
    let s = c.in-Ok-serve_site.ensures in
    let found = c.args.found in
    subst (FoundEnds c.args.found c.args.asked.racy o out c.args.asked.turns) (sym c.served_status.ensures)
    (served c.args.found c.args.asked.racy o out c.args.asked.turns c.in-Ok-serve_site.ending
    (record { names = unrefused c.args.asked.racy (has_items (conflicts_of c.args.found)) (sym c.is_refused.ensures ∙ c.if-is_refused.false); serving = subst (λ q. Serving q found.built.patterns found.built.site c.args.asked.turns c.in-Ok-serve_site.ending o) (ap not c.is_racy-raceless.ensures) s.serving; printed = λ tells. sym (append-nil (g.O.Sink.seen c.args.out.now).written) })
    (λ is. s.ended (ap Ok is)) (λ is. s.listen_fault (ap Ok is)) (λ is. s.next_fault (ap Ok is)))
