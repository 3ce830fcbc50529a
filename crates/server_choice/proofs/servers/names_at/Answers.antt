use Rattle.std.proofs.Common.{◌+◌, drop, ◌∙◌, subst, arith}
use Rattle.std.proofs.lemmas.List.{drop_all}
use Rattle.server_choice.specs.Listening.{AreNamesWith}
use Rattle.server_choice.proofs.Adding.{here-is, with-start, with-all}
use Rattle.server_choice.proofs.servers.names_at.Goals as goal

pub loop-place-init : goal.loop-place-init
loop-place-init c =
    let new = c.new-names.ensures in
    record {
      names = with-start c.args.addr c.args.servers.now c.new-names.result new.exact new.endings new.beginnings new.likes new.default;
      first = new.first;
    }

pub loop-place-preserved : goal.loop-place-preserved
loop-place-preserved c =
    let ss = c.args.servers.now in
    let n = c.loop-place.place in
    let s = c.index-servers-place.result in
    record {
      names = c.in_ok-add_listening.ensures.names (drop (n + 1) ss) ss
          (subst (λ l. AreNamesWith c.loop-place.names c.args.addr n l ss) (here-is ss n s c.loop-place-test.true c.index-servers-place.is) c.loop-place.invariant.names);
      first = c.in_ok-add_listening.ensures.first ∙ c.loop-place.invariant.first;
    }

pub returns-clause-names : goal.returns-clause-names
returns-clause-names c =
    let ss = c.args.servers.now in
    let n = c.loop-place.place in
    with-all c.args.addr ss c.loop-place.names n (drop n ss) (drop_all n ss (omega (arith, c.loop-place-test.false))) c.loop-place.invariant.names
