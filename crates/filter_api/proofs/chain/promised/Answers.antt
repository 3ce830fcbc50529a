use Rattle.std.proofs.Common.{◌≡◌, length, ◌<◌, get_or, take, subst, sym, ap, ◌∙◌, arith}
use Rattle.std.proofs.lemmas.List.{take_all}
use Rattle.std.proofs.lemmas.List.Elements.{All-more, All-same}
use Rattle.filter_api.specs.Members.{IsLawful}
use Rattle.filter_api.proofs.chain.promised.Goals as goal

pub loop-filter-preserved : goal.loop-filter-preserved
loop-filter-preserved g c =
    let xs = c.args.members.now.items in
    let i = c.loop-filter.filter-index in
    let x = c.filter-item.result in
    let same = c.deref-filter-items.ensures.value in
    let e : x ≡ get_or xs i x = c.filter-item.is ∙ ap (λ ys. get_or ys i x) same in
    let h : i < length xs = omega (arith, ap length same) in
    All-more (λ b. IsLawful ((goal.BodyFilter-dyn g (b.vtable, b.value)).member b.value)) xs i x h c.loop-filter.invariant (subst (λ b. IsLawful ((goal.BodyFilter-dyn g (b.vtable, b.value)).member b.value)) e c.kind_of-kind.ensures.lawful)

pub returns : goal.returns
returns g c =
    let xs = c.args.members.now.items in
    let same = c.deref-filter-items.ensures.value in
    let e : take c.loop-filter.filter-index xs ≡ xs = take_all c.loop-filter.filter-index xs (omega (arith, ap length same)) in
    All-same (λ b. IsLawful ((goal.BodyFilter-dyn g (b.vtable, b.value)).member b.value)) xs (take c.loop-filter.filter-index xs) (sym e) c.loop-filter.invariant
