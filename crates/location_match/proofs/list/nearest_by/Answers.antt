use Rattle.std.proofs.Common.{◌≡◌, ◌-◌, ◌<◌, length, subst, arith}
use Rattle.std.proofs.lemmas.Bool.Decides.{nat_tests}
use Rattle.std.proofs.lemmas.List.{length-map}
use Rattle.location_match.specs.Prefixes.{Covers}
use Rattle.location_match.specs.Entries.{texts_of}
use Rattle.location_match.proofs.Grown.{covers-above}
use Rattle.location_match.proofs.list.nearest_by.Goals as goal

pub longest_from-requires-clause-covers : goal.longest_from-requires-clause-covers
longest_from-requires-clause-covers g c =
    let texts = texts_of c.args.entries.now in
    let count : length texts ≡ length c.args.entries.now = length-map c.args.entries.now (λ e. e.text) in
    let some : 0 < length c.args.entries.now = grind (arith, nat_tests) in
    subst (λ n. Covers texts c.args.text.now (n - 1)) count
    (covers-above texts c.args.text.now c.requires.sound.sorted c.requires.above (omega (arith, count, some)))
