use Rattle.std.proofs.Common.{ap, ◌∙◌, sym, subst}
use Rattle.http_connection.specs.served_site.declared.served.ServedSite.{ServedSite}
use Rattle.connection_core.specs.Core.{site_terms}
use Rattle.connection_core.specs.Table.{AllKnown, AllReached, serves_with}
use Rattle.connection_core.proofs.Told.{told_of, told_still}
use Rattle.connection_core.proofs.hub.Hub.new.Goals as goal

pub returns-clause-terms : goal.returns-clause-terms
returns-clause-terms c =
    let t = c.new-2.result in
    ap (λ p. site_terms t.served.raceless t.keeps p t.served.site) c.new.ensures
    ∙ ap (λ (s : ServedSite). site_terms s.raceless t.keeps c.args.patterns s.site) c.new-2.ensures.0
    ∙ ap (λ k. site_terms c.args.served.raceless k c.args.patterns c.args.served.site) c.new-2.ensures.3

pub invariant_of-result : goal.invariant_of-result
invariant_of-result c =
    let space = c.new.result in
    let table = c.new-2.result in
    record {
      known = subst (AllKnown 0) (sym c.new-2.ensures.2) tt;
      told = told_still c.args.patterns space.patterns c.args.served table.served c.new.ensures c.new-2.ensures.0 (told_of c.args.patterns c.args.served c.requires.quiet);
      reached = subst (AllReached (serves_with space.patterns table.served)) (sym c.new-2.ensures.2) tt;
    }
