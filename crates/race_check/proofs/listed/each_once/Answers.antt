use Rattle.std.proofs.Common.{Contains, eqb, subst, sym}
use Rattle.std.proofs.lemmas.List.Filters.{dedup_is}
use Rattle.std.proofs.lemmas.List.Kept.{Contains-dedup_nat, Contains-from_dedup}
use Rattle.std.proofs.lemmas.List.Sorted.{Contains-permutation, IsPermutation-sym}
use Rattle.race_check.proofs.listed.each_once.Goals as goal

pub returns : goal.returns
returns c =
    let old = c.args.numbers.items in
    let ys = c.sort_unstable.new.self.items in
    let is = dedup_is eqb ys c.dedup.new.self.items c.dedup.ensures.filtered in
    let moved = c.sort_unstable.ensures.permutation in
    λ n. (
      λ h. subst (λ xs. Contains xs n) (sym is) (Contains-dedup_nat ys n (Contains-permutation old ys n moved h)),
      λ h. Contains-permutation ys old n (IsPermutation-sym old ys moved) (Contains-from_dedup eqb ys n (subst (λ xs. Contains xs n) is h)),
    )
