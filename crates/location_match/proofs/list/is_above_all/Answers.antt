use Rattle.std.proofs.Common.{◌≡◌, ◌-◌, ◌<◌, false, [], length, sym, ap, ◌∙◌, subst, rules, arith}
use Rattle.std.proofs.lemmas.Bool.Decides.{nat_tests}
use Rattle.std.proofs.lemmas.List.{length-map, get_or-map}
use Rattle.location_match.specs.Prefixes.{text_at, is_at_most}
use Rattle.location_match.specs.Entries.{texts_of}
use Rattle.location_match.proofs.Grown.{above-all}
use Rattle.location_match.proofs.list.is_above_all.Goals as goal

pub returns-clause-above : goal.returns-clause-above
returns-clause-above c = λ is.
    let es = c.args.entries.now in
    let texts = texts_of es in
    let last = length es - 1 in
    let count : length texts ≡ length es = length-map es (λ e. e.text) in
    let inside : last < length es = grind (arith, nat_tests) in
    let entry = c.index-entries-count.result in
    let same : c.as_slice.result.now ≡ text_at texts last =
    c.as_slice.ensures ∙ ap (λ e. e.text) c.index-entries-count.is ∙ sym (get_or-map (λ e. e.text) es last entry [] inside) in
    let hit : c.is_not_above.result ≡ false = search rules in
    let above : is_at_most c.args.text.now (text_at texts last) ≡ false =
    ap (is_at_most c.args.text.now) (sym same) ∙ sym c.is_not_above.ensures ∙ hit in
    above-all texts c.args.text.now c.requires (subst (λ n. is_at_most c.args.text.now (text_at texts (n - 1)) ≡ false) (sym count) above)
