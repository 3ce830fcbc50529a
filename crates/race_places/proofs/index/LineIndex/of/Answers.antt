use Rattle.std.proofs.Common.{◌≡◌, ◌∙◌, Some, None, option_map, sym, ap, rules}
use Rattle.std.specs.BTreeMap.{get_by}
use Rattle.std.specs.Ordering.{nat_cmp}
use Rattle.std.specs.Cmp.Lexicographic.{slice_cmp}
use Rattle.race_places.specs.Index.{at, lines_in}
use Rattle.race_places.proofs.index.LineIndex.of.Goals as goal

pub returns-in-Some : goal.returns-in-Some
unfolding at
returns-in-Some c =
    let found : get_by (λ key. slice_cmp nat_cmp c.args.name.now key.items) c.args.self.now.lines ≡ Some c.in-Some.lines.now = search rules in
    c.as_slice.ensures.value ∙ sym (ap (λ o. lines_in (option_map (λ l. l.items) o)) found)

pub returns-in-None : goal.returns-in-None
unfolding at
returns-in-None c =
    let none : get_by (λ key. slice_cmp nat_cmp c.args.name.now key.items) c.args.self.now.lines ≡ None = search rules in
    sym (ap (λ o. lines_in (option_map (λ l. l.items) o)) none)
