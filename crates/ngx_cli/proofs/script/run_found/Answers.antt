use Rattle.std.proofs.Common.{◌≡◌, false, not, refl, sym, ap, subst, ◌∙◌}
use Rattle.conf_inherit.specs.Values.{has_items}
use Rattle.ngx_cli.specs.Sites.{conflicts_of}
use Rattle.ngx_cli.specs.Running.{Ran}
use Rattle.ngx_cli.proofs.Endings.{none_named, unnamed, unrefused, refused}
use Rattle.ngx_cli.proofs.script.run_found.Goals as goal

pub returns : goal.returns
returns c =
    let r = c.in_ok-run.ensures in
    let script = c.args.script.now in
    let site = c.args.found.built in
    let off : c.args.racy ≡ false → has_items (conflicts_of c.args.found) ≡ false =
    unrefused c.args.racy (has_items (conflicts_of c.args.found)) (sym c.is_refused.ensures ∙ c.if-is_refused.false) in (
      r.0,
      r.1,
      record {
        found = c.args.found;
        are = c.requires;
        names = off;
        raceless = λ racy. c.requires.raceless (none_named c.args.found (off racy));
        ran = subst (λ q. Ran q site script.tree script.events r.0) (ap not c.is_racy-raceless.ensures)
            (subst (λ t. Ran (not c.is_racy-raceless.result) site t script.events r.0) c.as_slice.ensures (subst (λ e. Ran (not c.is_racy-raceless.result) site c.as_slice.result.now e r.0) c.as_slice-2.ensures r.2));
      },
    )

-- where none is named the site's servers are raceless
pub run-requires : goal.run-requires
run-requires c = record { quiet = λ r. c.requires.raceless (none_named c.args.found (unnamed c.is_racy-raceless.result (has_items (conflicts_of c.args.found)) c.is_racy-raceless.ensures r)) }

pub returns-then-is_refused : goal.returns-then-is_refused
returns-then-is_refused c =
    let r = refused c.args.racy (has_items (conflicts_of c.args.found)) (sym c.is_refused.ensures ∙ c.if-is_refused.true) in
    (_, c.in_ok-found_text.ensures, (r.0, record { found = c.args.found; are = c.requires; names = r.1; told = refl }))
