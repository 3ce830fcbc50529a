use Rattle.std.proofs.Common.{ap, ◌∙◌, arith}
use Rattle.location_match.specs.Numbers.{number_in}
use Rattle.location_search.proofs.Named.{named-number, named-all}
use Rattle.location_search.proofs.locations.names_of.Goals as goal

pub returns : goal.returns
returns c = λ name.
    let all = named-all c.loop-location.names.items c.args.locations.now c.loop-location.location-index (omega (arith, c.loop-location-test.false)) c.loop-location.invariant in
    c.in_ok-names.ensures name ∙ ap (λ ts. number_in ts name) all ∙ named-number c.args.locations.now name
