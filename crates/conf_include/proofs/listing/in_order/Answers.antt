use Rattle.std.proofs.Common.{◌≡◌, sym, subst, ◌∙◌, Contains}
use Rattle.std.specs.Cmp.Lexicographic.{on_texts, texts_ties}
use Rattle.std.proofs.lemmas.List.{take_all}
use Rattle.std.proofs.lemmas.List.Filters.{dedup_is}
use Rattle.std.proofs.lemmas.List.Kept.{IsStrictlySortedBy-dedup}
use Rattle.conf_include.proofs.ListingLaws.{Lent, texts, lent_same, sorted_map, kept_forth, kept_back}
use Rattle.conf_include.proofs.listing.in_order.Goals as goal

pub returns-clause-order : goal.returns-clause-order
returns-clause-order c =
    rw (dedup_is lent_same _ _ c.dedup.ensures.filtered)
    (sorted_map _ (IsStrictlySortedBy-dedup (on_texts (λ (x : Lent). x.now)) (λ (x y : Lent). texts_ties x.now y.now) _ c.sort_unstable.ensures.sorted))

pub returns-clause-names : goal.returns-clause-names
returns-clause-names c name =
    let xs = c.loop-name.names.items in
    let ys = c.sort_unstable.new.self.items in
    let all : texts xs ≡ c.args.found.now = c.loop-name.invariant ∙ take_all c.loop-name.name-index c.args.found.now c.loop-name-test.false in
    let is = dedup_is lent_same ys _ c.dedup.ensures.filtered in
    let moved = c.sort_unstable.ensures.permutation in (
      λ h. subst (λ l. Contains l name) all (kept_forth xs ys name moved (subst (λ l. Contains (texts l) name) is h)),
      λ h. subst (λ l. Contains (texts l) name) (sym is) (kept_back xs ys name moved (subst (λ l. Contains l name) (sym all) h)),
    )
