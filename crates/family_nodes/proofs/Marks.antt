-- What marks beside nodes tell.
use Rattle.std.proofs.Common.{◌≡◌, ◌≢◌, ℕ, zero, suc, ◌+◌, ◌-◌, ◌<◌, ◌≤◌, ◌&&◌, ◌||◌, ◌==◌, is_none, Bool, true, false, not, List, [], ◌∷◌, ◌++◌, drop, length, set, get_or, slice_get, slice_index, Option, None, Some, refl, sym, ap, ◌∙◌, subst, arith, get_or-drop}
use Rattle.std.proofs.lemmas.Bool.{eqb-true}
use Rattle.memchr.specs.Find.{Nowhere, Passes, is_byte, is_byte2}
use Rattle.postpone_filter.specs.Row.{Row, room}
use Rattle.node_line.specs.node_turn.Stages.{can_place, is_placing, is_serving, is_turning}
use Rattle.node_line.specs.node_turn.declared.node.Node.{Node}
use Rattle.family_nodes.specs.Marks.{AreMarked, IsMarked}
use Rattle.family_nodes.specs.Runs.{can_end, can_go, may_go, runs_at, waits_at}
use Rattle.family_nodes.proofs.Sets.{get_before, get_none, get_set_other}
use Rattle.node_line.proofs.Steps as steps

-- ---- a node that can't run in any row

less : (a o r p c e : Bool) → (a && ((o && (r || p)) || e)) ≡ false → (a && ((o && (r || (p && c))) || e)) ≡ false
less false o r p c e h = refl
less true false r p c e h = h
less true true true p c e h = cc
less true true false true c e h = cc
less true true false false c e h = h

pub rests : (row : Row) (at : ℕ) (n : Node) → may_go at n ≡ false → can_go row at n ≡ false
rests row at n e =
    less (is_none n.asks) (not n.over) (is_turning n.stage || (is_serving n.stage && is_none n.waits)) (is_placing n.stage) (can_place (room at row.pieces) n.stage) (can_end at n) e

-- ---- marks and nodes of which one becomes another

never : false ≡ true → ⊥
never e = cc

either : {A : Type 0} (j i : ℕ) → (j ≡ i → A) → (j ≢ i → A) → A
either {A} j i f g = by (j == i) refl
  where
    by : (b : Bool) → (j == i) ≡ b → A
    by true e = f (eqb-true j i e)
    by false e = g (λ same. never (sym e ∙ (ap (λ m. j == m) (sym same) ∙ steps.eq_self j)))

set_other : (xs : List ℕ) (i j y : ℕ) → j ≢ i → get_or (set xs i y) j 0 ≡ get_or xs j 0
set_other [] i j y h = refl
set_other (x ∷ xs) zero zero y h = absurd (h refl)
set_other (x ∷ xs) zero (suc j) y h = refl
set_other (x ∷ xs) (suc i) zero y h = refl
set_other (x ∷ xs) (suc i) (suc j) y h = set_other xs i j y (λ e. h (ap suc e))

pub set_out : (xs : List ℕ) (i y : ℕ) → length xs ≤ i → xs ≡ set xs i y
set_out [] i y h = refl
set_out (x ∷ xs) zero y h = absurd (omega (arith, h))
set_out (x ∷ xs) (suc i) y h = ap (λ ys. x ∷ ys) (set_out xs i y (omega (arith, h)))

one_more : (xs : List ℕ) (j : ℕ) → get_or (xs ++ 0 ∷ []) j 0 ≡ get_or xs j 0
one_more [] zero = refl
one_more [] (suc j) = refl
one_more (x ∷ xs) zero = refl
one_more (x ∷ xs) (suc j) = one_more xs j

moved : (mark mark' at : ℕ) (n n' : Option Node) → mark ≡ mark' → n ≡ n' → IsMarked mark at n → IsMarked mark' at n'
moved mark mark' at n n' e f h = subst (λ m. IsMarked m at n') e (subst (IsMarked mark at) f h)

nothing_known : (at : ℕ) (n : Option Node) → IsMarked 0 at n
nothing_known at None = refl
nothing_known at (Some n) = (λ h. absurd (h refl), λ h. absurd (omega (arith, h)))

known : (marks : List ℕ) (i mark at : ℕ) (n : Option Node) → IsMarked mark at n → IsMarked (get_or (set marks i mark) i 0) at n
known [] i mark at n h = nothing_known at n
known (m ∷ marks) zero mark at n h = h
known (m ∷ marks) (suc i) mark at n h = known marks i mark at n h

pub none_marked : AreMarked [] []
none_marked at = refl

pub cleared : (marks : List ℕ) (nodes : List Node) (at : ℕ) (new : Node) → AreMarked marks nodes → AreMarked (set marks at 0) (set nodes at new)
cleared marks nodes at new h j =
    either j at
    (λ e. subst (λ i. IsMarked (get_or (set marks at 0) i 0) i (slice_get (set nodes at new) i)) (sym e) (known marks at 0 at (slice_get (set nodes at new) at) (nothing_known at (slice_get (set nodes at new) at))))
    (λ d. moved (get_or marks j 0) (get_or (set marks at 0) j 0) j (slice_get nodes j) (slice_get (set nodes at new) j) (sym (set_other marks at j 0 d)) (sym (get_set_other nodes at j new d)) (h j))

pub marked : (marks : List ℕ) (nodes : List Node) (at mark : ℕ) → IsMarked mark at (slice_get nodes at) → AreMarked marks nodes → AreMarked (set marks at mark) nodes
marked marks nodes at mark is h j =
    either j at
    (λ e. subst (λ i. IsMarked (get_or (set marks at mark) i 0) i (slice_get nodes i)) (sym e) (known marks at mark at (slice_get nodes at) is))
    (λ d. subst (λ m. IsMarked m j (slice_get nodes j)) (sym (set_other marks at j mark d)) (h j))

pub more_marks : (marks : List ℕ) (nodes : List Node) → AreMarked marks nodes → AreMarked (marks ++ 0 ∷ []) nodes
more_marks marks nodes h j = subst (λ m. IsMarked m j (slice_get nodes j)) (sym (one_more marks j)) (h j)

pub more_nodes : (marks : List ℕ) (nodes : List Node) (new : Node) → AreMarked marks nodes → AreMarked marks (nodes ++ new ∷ [])
more_nodes marks nodes new h j =
    either j (length nodes)
    (λ e. subst (λ m. IsMarked m j (slice_get (nodes ++ new ∷ []) j)) (sym (free j (subst (λ i. slice_get nodes i ≡ None) (sym e) (get_none nodes)))) (nothing_known j (slice_get (nodes ++ new ∷ []) j)))
    (λ d. subst (IsMarked (get_or marks j 0) j) (sym (get_before nodes new j d)) (h j))
  where
    free : (i : ℕ) → slice_get nodes i ≡ None → get_or marks i 0 ≡ 0
    free i none = subst (IsMarked (get_or marks i 0) i) none (h i)

-- ---- what a search of marks tells

runs_not : (mark at : ℕ) (n : Option Node) → IsMarked mark at n → mark ≢ 0 → (row : Row) → runs_at row at n ≡ false
runs_not mark at None h d row = refl
runs_not mark at (Some n) h d row = h.0 d row

waits_not : (mark at : ℕ) (n : Option Node) → IsMarked mark at n → 1 < mark → (tree : ℕ) → waits_at tree n ≡ false
waits_not mark at None h d tree = refl
waits_not mark at (Some n) h d tree = h.1 d tree

module _ (marks : List ℕ) (nodes : List Node) (h : AreMarked marks nodes) (start count : ℕ) where
  behind : (at : ℕ) → start ≤ at → slice_index (drop start marks) (at - start) ≡ get_or marks at 0
  behind at low = get_or-drop start marks (at - start) 0 ∙ ap (λ i. get_or marks i 0) (let e : start + (at - start) ≡ at = omega (arith, low) in e)

  pub rest_before : Nowhere (Passes (is_byte 0) (drop start marks)) 0 count → (row : Row) (at : ℕ) → start ≤ at → at < start + count → runs_at row at (slice_get nodes at) ≡ false
  rest_before none row at low high =
      runs_not (get_or marks at 0) at (slice_get nodes at) (h at)
      (λ e. none (at - start) (omega arith) (omega (arith, low, high)) (ap (λ m. m == 0) (behind at low ∙ e))) row

  pub ask_not_before : Nowhere (Passes (is_byte2 0 1) (drop start marks)) 0 count → (tree at : ℕ) → start ≤ at → at < start + count → waits_at tree (slice_get nodes at) ≡ false
  ask_not_before none tree at low high =
      let no : ¬ ((get_or marks at 0 == 0 || get_or marks at 0 == 1) ≡ true) = λ e. none (at - start) (omega arith) (omega (arith, low, high)) (ap (λ m. m == 0 || m == 1) (behind at low) ∙ e) in
      let zero_not : get_or marks at 0 ≢ 0 = λ e. no (ap (λ m. m == 0 || m == 1) e) in
      let one_not : get_or marks at 0 ≢ 1 = λ e. no (ap (λ m. m == 0 || m == 1) e) in
      waits_not (get_or marks at 0) at (slice_get nodes at) (h at) (omega (arith, zero_not, one_not)) tree
