use Rattle.std.proofs.Common.{◌≡◌, ◌<◌, Some, None, length, get_or, sym, ap, ◌∙◌, subst, arith}
use Rattle.std.proofs.lemmas.Bool.Decides.{nat_tests}
use Rattle.std.proofs.lemmas.List.{length-map, get_or-map}
use Rattle.location_match.specs.Prefixes.{PrefixList, text_at, IsLongest, FitsNone}
use Rattle.location_match.specs.Numbers.{number_of}
use Rattle.location_match.specs.Entries.{list_of}
use Rattle.location_match.proofs.Sorted.{exact-some, exact-other, exact-none}
use Rattle.location_match.proofs.list.Prefixes.number.Goals as goal

pub returns-then-is_as_long : goal.returns-then-is_as_long
returns-then-is_as_long c =
    let es = c.self.inside.entries.items in
    let text = c.args.text.now in
    let place = c.in-Some.place in
    let is : list_of es ≡ c.args.self.now = c.self.view_is in
    let found : IsLongest (list_of es).texts text place = subst (λ (l : PrefixList). IsLongest l.texts text place) (sym is) c.in-Some.ensures.some in
    let inside : place < length es = omega (arith, length-map es (λ e. e.text), found.inside) in
    let at : get_or (list_of es).locations place 0 ≡ c.index.result.now.location =
    get_or-map (λ e. e.location) es place c.index.result.now 0 inside ∙ ap (λ e. e.location) (sym c.index.ensures) in
    let long : length (text_at c.args.self.now.texts place) ≡ length text = grind (arith, nat_tests, c.is_as_long.ensures) in
    let same : length (text_at (list_of es).texts place) ≡ length text = ap (λ (l : PrefixList). length (text_at l.texts place)) is ∙ long in
    subst (λ (l : PrefixList). Some c.index.result.now.location ≡ number_of l text) is
    (ap Some (sym at) ∙ exact-some (list_of es) (length-map es (λ e. e.text) ∙ sym (length-map es (λ e. e.location))) c.self.invariant.sound.sorted text place found same)

pub returns-else-is_as_long : goal.returns-else-is_as_long
returns-else-is_as_long c =
    let es = c.self.inside.entries.items in
    let text = c.args.text.now in
    let place = c.in-Some.place in
    let is : list_of es ≡ c.args.self.now = c.self.view_is in
    let found : IsLongest (list_of es).texts text place = subst (λ (l : PrefixList). IsLongest l.texts text place) (sym is) c.in-Some.ensures.some in
    subst (λ (l : PrefixList). None ≡ number_of l text) is
    (exact-other (list_of es) (length-map es (λ e. e.text) ∙ sym (length-map es (λ e. e.location))) c.self.invariant.sound.sorted text place found
    (λ (long : length (text_at (list_of es).texts place) ≡ length text).
    let same : length (text_at c.args.self.now.texts place) ≡ length text = ap (λ (l : PrefixList). length (text_at l.texts place)) (sym is) ∙ long in
    grind (arith, nat_tests, c.is_as_long.ensures, c.if-is_as_long.false, same)))

pub returns-in-None : goal.returns-in-None
returns-in-None c =
    let es = c.self.inside.entries.items in
    let text = c.args.text.now in
    let is : list_of es ≡ c.args.self.now = c.self.view_is in
    let none : FitsNone (list_of es).texts text = subst (λ (l : PrefixList). FitsNone l.texts text) (sym is) c.in-None.ensures.none in
    subst (λ (l : PrefixList). None ≡ number_of l text) is
    (exact-none (list_of es) (length-map es (λ e. e.text) ∙ sym (length-map es (λ e. e.location))) c.self.invariant.sound.sorted text none)
