-- Nodes that can't run, or have no job, are passed over.
use Rattle.std.proofs.Common.{◌≡◌, ℕ, zero, suc, ◌+◌, ◌-◌, ◌<◌, ◌≤◌, false, List, [], ◌∷◌, drop, slice_get, Option, None, Some, refl, sym, ap, ◌∙◌, arith}
use Rattle.postpone_filter.specs.Row.{Row}
use Rattle.family_nodes.specs.Runs.{runs_at, waits_at}
use Rattle.subrequests.specs.Wants.{jobs_from, ready_from}
use Rattle.node_line.specs.node_turn.declared.node.Node.{Node}
use Rattle.subrequests.proofs.Numbers as numbers
use Rattle.subrequests.proofs.Wholes as wholes

-- after the last node there is none
nothing_there : (nodes : List Node) (at : ℕ) → slice_get nodes at ≡ None → drop at nodes ≡ []
nothing_there [] zero e = refl
nothing_there [] (suc at) e = refl
nothing_there (n ∷ nodes) zero e = cc
nothing_there (n ∷ nodes) (suc at) e = nothing_there nodes at e

nothing_next : (nodes : List Node) (at : ℕ) → slice_get nodes at ≡ None → drop (suc at) nodes ≡ []
nothing_next [] at e = refl
nothing_next (n ∷ nodes) zero e = cc
nothing_next (n ∷ nodes) (suc at) e = nothing_next nodes at e

module _ (row : Row) where
  none_ready : (at : ℕ) → ready_from row at [] ≡ []
  unfolding ready_from
  none_ready at = refl

  one_ready : (nodes : List Node) (at : ℕ) (o : Option Node) → slice_get nodes at ≡ o → runs_at row at o ≡ false → ready_from row at (drop at nodes) ≡ ready_from row (suc at) (drop (suc at) nodes)
  one_ready nodes at None is e = ap (ready_from row at) (nothing_there nodes at is) ∙ (none_ready at ∙ sym (ap (ready_from row (suc at)) (nothing_next nodes at is) ∙ none_ready (suc at)))
  one_ready nodes at (Some n) is e = ap (ready_from row at) (wholes.drop_next nodes at n is) ∙ numbers.later_ready row at n (drop (suc at) nodes) e

  many_ready : (nodes : List Node) (start count : ℕ) → ((at : ℕ) → start ≤ at → at < start + count → runs_at row at (slice_get nodes at) ≡ false) →
      ready_from row start (drop start nodes) ≡ ready_from row (start + count) (drop (start + count) nodes)
  many_ready nodes start zero h = ap (λ k. ready_from row k (drop k nodes)) (let e : start ≡ start + 0 = omega arith in e)
  many_ready nodes start (suc count) h =
      one_ready nodes start (slice_get nodes start) refl (h start (omega arith) (omega arith))
      ∙ (many_ready nodes (suc start) count (λ at low high. h at (omega (arith, low)) (omega (arith, high)))
      ∙ ap (λ k. ready_from row k (drop k nodes)) (let e : suc start + count ≡ start + suc count = omega arith in e))

  pub ready_on : (nodes : List Node) (start next : ℕ) → start ≤ next → ((at : ℕ) → start ≤ at → at < next → runs_at row at (slice_get nodes at) ≡ false) →
      ready_from row start (drop start nodes) ≡ ready_from row next (drop next nodes)
  ready_on nodes start next within h =
      let e : start + (next - start) ≡ next = omega (arith, within) in
      many_ready nodes start (next - start) (λ at low high. h at low (omega (arith, high, within))) ∙ ap (λ k. ready_from row k (drop k nodes)) e

module _ (tree : ℕ) where
  none_asks : (at : ℕ) → jobs_from tree at [] ≡ []
  unfolding jobs_from
  none_asks at = refl

  one_asks : (nodes : List Node) (at : ℕ) (o : Option Node) → slice_get nodes at ≡ o → waits_at tree o ≡ false → jobs_from tree at (drop at nodes) ≡ jobs_from tree (suc at) (drop (suc at) nodes)
  one_asks nodes at None is e = ap (jobs_from tree at) (nothing_there nodes at is) ∙ (none_asks at ∙ sym (ap (jobs_from tree (suc at)) (nothing_next nodes at is) ∙ none_asks (suc at)))
  one_asks nodes at (Some n) is e = ap (jobs_from tree at) (wholes.drop_next nodes at n is) ∙ numbers.later_jobs tree at n (drop (suc at) nodes) e

  many_ask : (nodes : List Node) (start count : ℕ) → ((at : ℕ) → start ≤ at → at < start + count → waits_at tree (slice_get nodes at) ≡ false) →
      jobs_from tree start (drop start nodes) ≡ jobs_from tree (start + count) (drop (start + count) nodes)
  many_ask nodes start zero h = ap (λ k. jobs_from tree k (drop k nodes)) (let e : start ≡ start + 0 = omega arith in e)
  many_ask nodes start (suc count) h =
      one_asks nodes start (slice_get nodes start) refl (h start (omega arith) (omega arith))
      ∙ (many_ask nodes (suc start) count (λ at low high. h at (omega (arith, low)) (omega (arith, high)))
      ∙ ap (λ k. jobs_from tree k (drop k nodes)) (let e : suc start + count ≡ start + suc count = omega arith in e))

  pub jobs_on : (nodes : List Node) (start next : ℕ) → start ≤ next → ((at : ℕ) → start ≤ at → at < next → waits_at tree (slice_get nodes at) ≡ false) →
      jobs_from tree start (drop start nodes) ≡ jobs_from tree next (drop next nodes)
  jobs_on nodes start next within h =
      let e : start + (next - start) ≡ next = omega (arith, within) in
      many_ask nodes start (next - start) (λ at low high. h at low (omega (arith, high, within))) ∙ ap (λ k. jobs_from tree k (drop k nodes)) e
