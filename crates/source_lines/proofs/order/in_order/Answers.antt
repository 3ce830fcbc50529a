use Rattle.std.proofs.Common.{Contains, get_or, subst, sym}
use Rattle.std.specs.List.Sorted.{IsStrictlySortedBy}
use Rattle.std.proofs.lemmas.List.Filters.{dedup_is}
use Rattle.std.proofs.lemmas.List.Kept.{IsStrictlySortedBy-dedup, Contains-dedup, Contains-from_dedup}
use Rattle.std.proofs.lemmas.List.Sorted.{Contains-permutation, IsPermutation-sym}
use Rattle.std.proofs.lemmas.Map.Keys.{Less-from_sorted}
use Rattle.source_lines.specs.contracts.line.LineOrd.TheImpl.Laws.{total-law, matches_eq-law}
use Rattle.source_lines.specs.contracts.line.LineEq.TheImpl.Laws.{laws-law}
use Rattle.source_lines.proofs.Ordered.{line_cmp, same_line, less_before, same_is}
use Rattle.source_lines.proofs.order.in_order.Goals as goal

pub returns-clause-same : goal.returns-clause-same
returns-clause-same c =
    let old = c.args.lines.items in
    let ys = c.sort_unstable.new.self.items in
    let is = dedup_is same_line ys c.dedup.new.self.items c.dedup.ensures.filtered in
    let moved = c.sort_unstable.ensures.permutation in
    λ l. (
      λ h. subst (λ xs. Contains xs l) (sym is) (Contains-dedup laws-law same_is ys l (Contains-permutation old ys l moved h)),
      λ h. Contains-permutation ys old l (IsPermutation-sym old ys moved) (Contains-from_dedup same_line ys l (subst (λ xs. Contains xs l) is h)),
    )

pub returns-clause-rising : goal.returns-clause-rising
returns-clause-rising c =
    let ys = c.sort_unstable.new.self.items in
    let is = dedup_is same_line ys c.dedup.new.self.items c.dedup.ensures.filtered in
    let strict = subst (IsStrictlySortedBy line_cmp) (sym is) (IsStrictlySortedBy-dedup total-law matches_eq-law ys c.sort_unstable.ensures.sorted) in
    λ i j d h k. less_before (get_or c.dedup.new.self.items i d) (get_or c.dedup.new.self.items j d) (Less-from_sorted line_cmp c.dedup.new.self.items i j d strict h k)
