-- Jobs and nodes that can run, by number.
use Rattle.std.proofs.Common.{◌≡◌, ◌≢◌, ℕ, zero, suc, ◌+◌, ◌<◌, ◌==◌, Bool, true, false, cond, List, [], ◌∷◌, slice_get, None, Some, refl, sym, ap, ◌∙◌, arith}
use Rattle.std.proofs.lemmas.Bool.{eqb-true}
use Rattle.ngx_outside.specs.Views.{ask_in}
use Rattle.postpone_filter.specs.Row.{Row}
use Rattle.family_nodes.specs.Runs.{can_go, is_waiting, job_of, runs_at}
use Rattle.subrequests.specs.Wants.{jobs_from, first_job, first_of, is_among, ready_from}
use Rattle.node_line.specs.node_turn.declared.node.Node.{Node}
use Rattle.node_line.proofs.Steps as steps

same_no : {A : Type 0} (b : Bool) → b ≡ true → b ≡ false → A
same_no true e f = cc
same_no false e f = cc

eq_self : (n : ℕ) → (n == n) ≡ true
eq_self n = steps.eq_self n

apart : (n m : ℕ) → n ≢ m → (n == m) ≡ false
apart n m d = by (n == m) refl
  where
    by : (b : Bool) → (n == m) ≡ b → b ≡ false
    by true e = absurd (d (eqb-true n m e))
    by false e = refl

-- ---- jobs

module _ (tree : ℕ) where
  -- none of a number before them
  none_before : (k j : ℕ) (nodes : List Node) → j < k → ask_in (jobs_from tree k nodes) j ≡ None
  unfolding jobs_from
  none_before k j [] h = refl
  none_before k j (n ∷ nodes) h = by (is_waiting tree n) (none_before (suc k) j nodes (omega (arith, h)))
    where
      by : (b : Bool) → ask_in (jobs_from tree (suc k) nodes) j ≡ None → ask_in (cond b (record { node = k; ask = n.ask } ∷ jobs_from tree (suc k) nodes) (jobs_from tree (suc k) nodes)) j ≡ None
      by true r = ap (λ b. cond b (Some n.ask) (ask_in (jobs_from tree (suc k) nodes) j)) (apart k j (λ e. omega (arith, h, e))) ∙ r
      by false r = r

  job_from : (k i : ℕ) (nodes : List Node) → ask_in (jobs_from tree k nodes) (k + i) ≡ job_of tree (slice_get nodes i)
  unfolding jobs_from
  job_from k i [] = refl
  job_from k zero (n ∷ nodes) = by (is_waiting tree n)
    where
      same : k + 0 ≡ k
      same = omega arith

      by : (b : Bool) → ask_in (cond b (record { node = k; ask = n.ask } ∷ jobs_from tree (suc k) nodes) (jobs_from tree (suc k) nodes)) (k + 0) ≡ cond b (Some n.ask) None
      by true = ap (λ b. cond b (Some n.ask) (ask_in (jobs_from tree (suc k) nodes) (k + 0))) (ap (λ m. k == m) same ∙ eq_self k)
      by false = ap (ask_in (jobs_from tree (suc k) nodes)) same ∙ none_before (suc k) k nodes (omega arith)
  job_from k (suc i) (n ∷ nodes) = by (is_waiting tree n) (ap (ask_in (jobs_from tree (suc k) nodes)) (let e : k + suc i ≡ suc k + i = omega arith in e) ∙ job_from (suc k) i nodes)
    where
      by : (b : Bool) → ask_in (jobs_from tree (suc k) nodes) (k + suc i) ≡ job_of tree (slice_get nodes i) →
          ask_in (cond b (record { node = k; ask = n.ask } ∷ jobs_from tree (suc k) nodes) (jobs_from tree (suc k) nodes)) (k + suc i) ≡ job_of tree (slice_get nodes i)
      by true r = ap (λ b. cond b (Some n.ask) (ask_in (jobs_from tree (suc k) nodes) (k + suc i))) (apart k (k + suc i) (λ e. omega (arith, e))) ∙ r
      by false r = r

  pub job_is : (nodes : List Node) (i : ℕ) → ask_in (jobs_from tree 0 nodes) i ≡ job_of tree (slice_get nodes i)
  job_is nodes i = ap (ask_in (jobs_from tree 0 nodes)) (let e : i ≡ 0 + i = omega arith in e) ∙ job_from 0 i nodes

  -- the first ones are none
  pub later_jobs : (k : ℕ) (n : Node) (nodes : List Node) → is_waiting tree n ≡ false → jobs_from tree k (n ∷ nodes) ≡ jobs_from tree (suc k) nodes
  unfolding jobs_from
  later_jobs k n nodes e = ap (λ b. cond b (record { node = k; ask = n.ask } ∷ jobs_from tree (suc k) nodes) (jobs_from tree (suc k) nodes)) e

  pub first_is : (k : ℕ) (n : Node) (nodes : List Node) → is_waiting tree n ≡ true → first_job (jobs_from tree k (n ∷ nodes)) ≡ Some k
  unfolding jobs_from
  first_is k n nodes e = ap (λ b. first_job (cond b (record { node = k; ask = n.ask } ∷ jobs_from tree (suc k) nodes) (jobs_from tree (suc k) nodes))) e

  pub no_jobs : (k : ℕ) → first_job (jobs_from tree k []) ≡ None
  unfolding jobs_from
  no_jobs k = refl

-- ---- nodes that can run

module _ (row : Row) where
  none_ready : (k j : ℕ) (nodes : List Node) → j < k → is_among j (ready_from row k nodes) ≡ false
  unfolding ready_from is_among
  none_ready k j [] h = refl
  none_ready k j (n ∷ nodes) h = by (can_go row k n) (none_ready (suc k) j nodes (omega (arith, h)))
    where
      by : (b : Bool) → is_among j (ready_from row (suc k) nodes) ≡ false → is_among j (cond b (k ∷ ready_from row (suc k) nodes) (ready_from row (suc k) nodes)) ≡ false
      by true r = ap (λ b. cond b true (is_among j (ready_from row (suc k) nodes))) (apart k j (λ e. omega (arith, h, e))) ∙ r
      by false r = r

  ready_at : (k i : ℕ) (nodes : List Node) → is_among (k + i) (ready_from row k nodes) ≡ runs_at row (k + i) (slice_get nodes i)
  unfolding ready_from is_among
  ready_at k i [] = refl
  ready_at k zero (n ∷ nodes) = by (can_go row k n) refl
    where
      same : k + 0 ≡ k
      same = omega arith

      by : (b : Bool) → can_go row k n ≡ b → is_among (k + 0) (cond b (k ∷ ready_from row (suc k) nodes) (ready_from row (suc k) nodes)) ≡ can_go row (k + 0) n
      by true e = ap (λ b. cond b true (is_among (k + 0) (ready_from row (suc k) nodes))) (ap (λ m. k == m) same ∙ eq_self k) ∙ sym (ap (λ m. can_go row m n) same ∙ e)
      by false e = ap (λ m. is_among m (ready_from row (suc k) nodes)) same ∙ none_ready (suc k) k nodes (omega arith) ∙ sym (ap (λ m. can_go row m n) same ∙ e)
  ready_at k (suc i) (n ∷ nodes) =
      let next : k + suc i ≡ suc k + i = omega arith in
      by (can_go row k n) (ap (λ m. is_among m (ready_from row (suc k) nodes)) next ∙ ready_at (suc k) i nodes ∙ ap (λ m. runs_at row m (slice_get nodes i)) (sym next))
    where
      by : (b : Bool) → is_among (k + suc i) (ready_from row (suc k) nodes) ≡ runs_at row (k + suc i) (slice_get nodes i) →
          is_among (k + suc i) (cond b (k ∷ ready_from row (suc k) nodes) (ready_from row (suc k) nodes)) ≡ runs_at row (k + suc i) (slice_get nodes i)
      by true r = ap (λ b. cond b true (is_among (k + suc i) (ready_from row (suc k) nodes))) (apart k (k + suc i) (λ e. omega (arith, e))) ∙ r
      by false r = r

  pub ready_is : (nodes : List Node) (i : ℕ) → is_among i (ready_from row 0 nodes) ≡ runs_at row i (slice_get nodes i)
  ready_is nodes i =
      let e : i ≡ 0 + i = omega arith in
      ap (λ m. is_among m (ready_from row 0 nodes)) e ∙ ready_at 0 i nodes ∙ ap (λ m. runs_at row m (slice_get nodes i)) (sym e)

  pub later_ready : (k : ℕ) (n : Node) (nodes : List Node) → can_go row k n ≡ false → ready_from row k (n ∷ nodes) ≡ ready_from row (suc k) nodes
  unfolding ready_from
  later_ready k n nodes e = ap (λ b. cond b (k ∷ ready_from row (suc k) nodes) (ready_from row (suc k) nodes)) e

  pub first_ready : (k : ℕ) (n : Node) (nodes : List Node) → can_go row k n ≡ true → first_of (ready_from row k (n ∷ nodes)) ≡ Some k
  unfolding ready_from
  first_ready k n nodes e = ap (λ b. first_of (cond b (k ∷ ready_from row (suc k) nodes) (ready_from row (suc k) nodes))) e

  pub no_ready : (k : ℕ) → first_of (ready_from row k []) ≡ None
  unfolding ready_from
  no_ready k = refl
