use Rattle.std.proofs.Common.{◌≡◌, ◌++◌, ◌∷◌, drop, map}
use Rattle.site_model.specs.declared.site.Location.{Location}
use Rattle.site_model.specs.declared.site.NamedLocation.{NamedLocation}
use Rattle.race_check.specs.Numbers.{level_numbers}
use Rattle.race_check.proofs.levels.level_numbers.Given as goal

abbrev pub invariant-loop-location : goal.invariant-loop-location
invariant-loop-location l =
    l.numbers.items ++ map (λ (x : Location). x.level) (drop l.location-index l.location-items)
    ≡ l.server.level ∷ map (λ (x : Location). x.level) l.server.locations.items

abbrev pub invariant-loop-named : goal.invariant-loop-named
invariant-loop-named l =
    l.numbers.items ++ map (λ (x : NamedLocation). x.level) (drop l.named-index l.named-items)
    ≡ level_numbers l.server
