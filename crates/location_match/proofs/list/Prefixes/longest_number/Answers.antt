use Rattle.std.proofs.Common.{◌≡◌, ◌<◌, Some, None, length, get_or, sym, ap, ◌∙◌, subst, arith}
use Rattle.std.proofs.lemmas.List.{length-map, get_or-map}
use Rattle.location_match.specs.Prefixes.{PrefixList, fits, IsLongest, FitsNone}
use Rattle.location_match.specs.Numbers.{number_of, IsLongestOf}
use Rattle.location_match.specs.Entries.{list_of}
use Rattle.location_match.proofs.Sorted.{longest-some, longest-none}
use Rattle.location_match.proofs.list.Prefixes.longest_number.Goals as goal

pub returns-in-Some : goal.returns-in-Some
returns-in-Some c =
    let es = c.self.inside.entries.items in
    let path = c.args.path.now in
    let place = c.in-Some.place in
    let is : list_of es ≡ c.args.self.now = c.self.view_is in
    let found : IsLongest (list_of es).texts path place = subst (λ (l : PrefixList). IsLongest l.texts path place) (sym is) c.in-Some.ensures.some in
    let inside : place < length es = omega (arith, length-map es (λ e. e.text), found.inside) in
    let at : get_or (list_of es).locations place 0 ≡ c.index.result.now.location =
    get_or-map (λ e. e.location) es place c.index.result.now 0 inside ∙ ap (λ e. e.location) (sym c.index.ensures) in
    subst (λ (l : PrefixList). IsLongestOf (λ text. fits path text) (number_of l) (Some c.index.result.now.location)) is
    (subst (λ n. IsLongestOf (λ text. fits path text) (number_of (list_of es)) (Some n)) at
    (longest-some (list_of es) (length-map es (λ e. e.text) ∙ sym (length-map es (λ e. e.location))) c.self.invariant.sound.sorted path place found))

pub returns-in-None : goal.returns-in-None
returns-in-None c =
    let es = c.self.inside.entries.items in
    let path = c.args.path.now in
    let is : list_of es ≡ c.args.self.now = c.self.view_is in
    let none : FitsNone (list_of es).texts path = subst (λ (l : PrefixList). FitsNone l.texts path) (sym is) c.in-None.ensures.none in
    subst (λ (l : PrefixList). IsLongestOf (λ text. fits path text) (number_of l) None) is
    (longest-none (list_of es) (length-map es (λ e. e.text) ∙ sym (length-map es (λ e. e.location))) c.self.invariant.sound.sorted path none)
