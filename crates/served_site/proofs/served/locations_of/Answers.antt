use Rattle.std.proofs.Common.{◌++◌, [], ◌∷◌, take, sym, ap, ◌∙◌, subst}
use Rattle.std.specs.List.{AllZip}
use Rattle.std.proofs.lemmas.List.{take_more, take_all}
use Rattle.location_search.specs.Served.{AreOf}
use Rattle.served_site.proofs.Zips.{zip_push}
use Rattle.served_site.proofs.served.locations_of.Goals as goal

pub loop-server-init : goal.loop-server-init
loop-server-init c = subst (λ xs. AllZip AreOf xs []) (sym c.new-all.ensures.items) tt

pub loop-server-preserved : goal.loop-server-preserved
loop-server-preserved c =
    let servers = c.args.servers.now in
    let i = c.loop-server.server-index in
    let item = c.server-item.result in
    subst (λ ys. AllZip AreOf c.push.new.self.items ys) (sym (take_more servers i item c.loop-server-test.true ∙ ap (λ x. take i servers ++ x ∷ []) (sym c.server-item.is)))
    (subst (λ xs. AllZip AreOf xs (take i servers ++ item ∷ [])) (sym c.in_ok-push.ensures.items)
    (zip_push AreOf c.loop-server.all.items (take i servers) c.in_ok-new.field-0 item c.loop-server.invariant c.in_ok-new.ensures))

pub returns : goal.returns
returns c = subst (λ ys. AllZip AreOf c.loop-server.all.items ys) (take_all c.loop-server.server-index c.args.servers.now c.loop-server-test.false) c.loop-server.invariant
