use Rattle.std.proofs.Common.{◌≡◌, ◌<◌, false, length, Some, None, sym, ◌∙◌, subst, arith, rules}
use Rattle.std.proofs.lemmas.List.{length-map}
use Rattle.location_match.specs.Prefixes.{text_at, fits, LeadsTo}
use Rattle.location_match.specs.Entries.{texts_of}
use Rattle.location_match.proofs.Nearest.{covers-nearest, none-left, depth-falls}
use Rattle.location_match.proofs.prefixes.longest_from.Goals as goal

pub loop-entry-preserved : goal.loop-entry-preserved
loop-entry-preserved g c =
    let texts = texts_of c.args.entries.now in
    let count : length texts ≡ length c.args.entries.now = length-map c.args.entries.now (λ e. e.text) in
    let inside : c.loop-entry.place < length texts = omega (arith, count, c.loop-entry.invariant.inside) in
    let leads : LeadsTo texts c.loop-entry.place (Some c.in-Some.nearest) =
    subst (LeadsTo texts c.loop-entry.place) (sym c.entry_at-entry.ensures.nearest ∙ c.in-Some.is) (c.requires.nested c.loop-entry.place inside) in
    let miss : fits c.args.path.now (text_at texts c.loop-entry.place) ≡ false = search rules in
    let nearer : c.in-Some.nearest < length texts = omega (arith, leads.0, inside) in
    record {
      inside = omega (arith, count, nearer);
      covers = covers-nearest texts c.requires.sorted c.args.path.now c.loop-entry.place inside c.loop-entry.invariant.covers miss c.in-Some.nearest leads;
      counted = omega (arith, c.loop-entry.invariant.counted, c.entry_at-entry.ensures.step);
      cost = omega (arith, c.loop-entry.invariant.cost, c.entry_at-entry.ensures.step, depth-falls texts c.loop-entry.place c.in-Some.nearest nearer leads);
    }

pub returns-in-None-clause-none : goal.returns-in-None-clause-none
returns-in-None-clause-none g c =
    let texts = texts_of c.args.entries.now in
    let count : length texts ≡ length c.args.entries.now = length-map c.args.entries.now (λ e. e.text) in
    let inside : c.loop-entry.place < length texts = omega (arith, count, c.loop-entry.invariant.inside) in
    let leads : LeadsTo texts c.loop-entry.place None =
    subst (LeadsTo texts c.loop-entry.place) (sym c.entry_at-entry.ensures.nearest ∙ c.in-None.is) (c.requires.nested c.loop-entry.place inside) in
    none-left texts c.requires.sorted c.args.path.now c.loop-entry.place inside c.loop-entry.invariant.covers (search rules) leads
