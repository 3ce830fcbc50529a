use Rattle.std.proofs.Common.{◌≡◌, ◌∙◌, [], ap, sym, map, bytes_eq, subst, rules}
use Rattle.std.specs.List.{list_any}
use Rattle.std.specs.List.Sorted.{IsStrictlySortedBy}
use Rattle.std.specs.Ordering.{nat_cmp}
use Rattle.std.specs.Cmp.Lexicographic.{slice_cmp}
use Rattle.std.specs.BTreeMap.{keys}
use Rattle.race_check.specs.Texts.{known}
use Rattle.race_check.proofs.Telling.{keys_known, keys_rising, append_none}
use Rattle.race_check.proofs.texts.SetTexts.names.Goals as goal

pub returns-clause-all : goal.returns-clause-all
unfolding known
returns-clause-all c =
    let over : c.loop-name.name-iterator ≡ [] = search rules in
    let whole : c.loop-name.names.items ≡ map (λ k. k.items) (keys c.args.self.now.texts) = append_none c.loop-name.names.items _ _ (ap (map (λ k. k.items)) over) c.loop-name.invariant in
    λ name. ap (list_any (bytes_eq name)) whole ∙ keys_known (λ k. k.items) c.args.self.now.texts.entries name

pub returns-clause-rising : goal.returns-clause-rising
returns-clause-rising c =
    let over : c.loop-name.name-iterator ≡ [] = search rules in
    let whole : c.loop-name.names.items ≡ map (λ k. k.items) (keys c.args.self.now.texts) = append_none c.loop-name.names.items _ _ (ap (map (λ k. k.items)) over) c.loop-name.invariant in
    subst (IsStrictlySortedBy (slice_cmp nat_cmp)) (sym whole) (keys_rising (λ k. k.items) (keys c.args.self.now.texts) c.keys-name-items.ensures.ordered)
