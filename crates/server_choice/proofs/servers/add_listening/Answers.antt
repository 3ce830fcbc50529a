use Rattle.std.proofs.Common.{◌≡◌, true, false, sym, ap, ◌∙◌, subst, rules}
use Rattle.std.specs.List.{list_any}
use Rattle.site_views.specs.Choice.{is_exactly}
use Rattle.server_choice.specs.Listening.{listens, HasServer}
use Rattle.server_choice.proofs.Adding.{with-server, with-other}
use Rattle.server_choice.proofs.servers.add_listening.Goals as goal

pub returns-then-not-has_addr-clause-names : goal.returns-then-not-has_addr-clause-names
returns-then-not-has_addr-clause-names c = λ rest servers h.
    let s = c.args.server.now in
    let miss : listens c.args.addr s ≡ false = ap (list_any (is_exactly c.args.addr)) (sym c.as_slice.ensures) ∙ sym c.has_addr.ensures ∙ c.if-not-has_addr.true in
    with-other c.args.addr servers c.args.place s rest c.args.names.now miss h

pub returns-clause-names : goal.returns-clause-names
returns-clause-names c = λ rest servers h.
    let s = c.args.server.now in
    let hit : listens c.args.addr s ≡ true = ap (list_any (is_exactly c.args.addr)) (sym c.as_slice.ensures) ∙ sym c.has_addr.ensures ∙ c.if-not-has_addr.false in
    let number : c.in-Ok.number ≡ c.args.place = search rules in
    with-server c.args.addr servers c.args.place s rest c.args.names.now c.add_server.new.names hit
    (subst (HasServer c.args.names.now c.add_server.new.names c.args.addr s) number c.in_ok-add_server.ensures) h
