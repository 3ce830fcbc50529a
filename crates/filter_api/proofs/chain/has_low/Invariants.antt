use Rattle.std.proofs.Common.{◌≡◌, ℕ, List, map, drop, nat_lt}
use Rattle.std.specs.List.{list_any}
use Rattle.filter_api.proofs.chain.has_low.Given as goal

abbrev pub invariant-loop-i : goal.invariant-loop-i
invariant-loop-i g l =
    let ks : List ℕ = map (λ b. ((goal.BodyFilter-dyn g (b.vtable, b.value)).member b.value).kind) l.members.items in
    list_any (λ k. nat_lt k 3) (drop l.i ks) ≡ list_any (λ k. nat_lt k 3) (drop 2 ks)
