-- A family before its main request's body begins: the nodes that it has besides are over.
use Rattle.std.proofs.Common.{◌≡◌, ℕ, zero, suc, ◌+◌, ◌<◌, ◌≤◌, ◌==◌, ◌&&◌, ◌||◌, nat_lt, Bool, true, false, cond, not, List, [], ◌∷◌, ◌++◌, length, slice_get, None, Some, refl, sym, ap, ◌∙◌, subst, append-nil, append_assoc, length-append, arith}
use Rattle.std.specs.List.{list_all}
use Rattle.std.proofs.lemmas.Bool.Decides.{nat_tests}
use Rattle.std.proofs.lemmas.List.Folds.{list_all-append}
use Rattle.acts.specs.Vars.{Vars}
use Rattle.acts.specs.Act.{settled}
use Rattle.file_tree.specs.Tree.{Tree}
use Rattle.ngx_pattern.specs.Pattern.{Pattern as SetPattern}
use Rattle.ngx_variables.specs.declared.request.Main.{Main}
use Rattle.site_model.specs.declared.site.Site.{Site}
use Rattle.postpone_filter.specs.Row.{Piece, Row, at_place, clean, closed, ended, fresh, is_open, with_child}
use Rattle.request_meaning.specs.Serving.{World, Serving, Answer}
use Rattle.node_line.specs.request_phases.declared.state.Phases.{Phases}
use Rattle.family_order.specs.Items.{Family, alone, doing, with_stance}
use Rattle.family_order.specs.Items.Stance.{Going}
use Rattle.family_order.specs.Laws.{ShowsTheSame}
use Rattle.node_line.specs.node_turn.Stages.{is_in_row, node_act}
use Rattle.node_line.specs.node_turn.Turns.{TurnsTo}
use Rattle.subrequests.specs.Families.{ArePast, IsSound, first_row, goes_on_at, is_past, rises_at}
use Rattle.node_seats.specs.Seats.{doing_by, is_captured, most_levels, seen, stance_in}
use Rattle.node_seats.proofs.Seated.{in_row_is}
use Rattle.node_line.specs.Stances.{Opening}
use Rattle.family_order.proofs.Wells.{begun-well}
use Rattle.family_order.specs.Items.{IsWellRow}
use Rattle.node_line.specs.node_turn.declared.node.Place.{Place}
use Rattle.node_line.specs.node_turn.declared.node.Place.TheVariants.{Row as InRow, Stub, Gathers, Captured}
use Rattle.node_line.specs.Stances.Seat.{InRow as InItsRow}
use Rattle.node_line.specs.node_turn.Nodes.{lent, of_method}
use Rattle.node_line.specs.node_turn.declared.node.Node.{Node}
use Rattle.node_line.proofs.Steps as steps
use Rattle.subrequests.proofs.Wholes.{left_of, right_of}

-- a main request that is lent to the phases from which it was taken
pub given : (blank main : Main) (p back : Phases) → main ≡ of_method blank.method p.main → back ≡ lent blank p → lent main back ≡ p
given blank main p back m b = ap (λ (x : Main). lent x back) m ∙ ap (λ (x : Phases). lent (of_method blank.method p.main) x) b

-- ---- the nodes that are over

-- a row in which the main request goes on alone
abbrev row_of : List Piece → (nodes : ℕ) → Row
row_of pieces nodes = record { pieces = pieces; nodes = nodes }

pub first_open : (nodes : ℕ) → is_open 0 (first_row nodes).pieces ≡ true
unfolding is_open
first_open nodes = refl

-- a subrequest that has come, and ended with no bytes, leaves nothing in it but its number
pieces_then : (nodes : ℕ) → (ended nodes (with_child 0 (first_row nodes))).pieces ≡ fresh 0 ∷ []
unfolding at_place clean
pieces_then nodes = ap (λ b. clean (cond b (closed (fresh nodes) ∷ fresh 0 ∷ []) (fresh nodes ∷ at_place nodes (λ p. closed p ∷ []) (fresh 0 ∷ [])))) (steps.eq_self nodes)

pub row_then : (nodes : ℕ) → ended nodes (with_child 0 (first_row nodes)) ≡ first_row (nodes + 1)
row_then nodes = ap (λ ps. row_of ps (nodes + 1)) (pieces_then nodes)

-- none, one, and some after others
pub none_past : (nodes : List Node) → ArePast nodes nodes 0
none_past nodes = record { past = []; items = sym (append-nil nodes); over = refl; size = refl }

pub one_past : (old new : List Node) (n : Node) → is_past n ≡ true → new ≡ old ++ n ∷ [] → ArePast old new 1
one_past old new n is items = record { past = n ∷ []; items = items; over = ap (λ b. b && true) is; size = refl }

pub then_past : (old mid new : List Node) (count more : ℕ) → ArePast old mid count → ArePast mid new more → ArePast old new (count + more)
then_past old mid new count more a b = record {
  past = a.past ++ b.past;
  items = b.items ∙ (ap (λ ns. ns ++ b.past) a.items ∙ append_assoc old a.past b.past);
  over = list_all-append is_past a.past b.past ∙ (ap (λ t. t && list_all is_past b.past) a.over ∙ b.over);
  size = length-append a.past b.past ∙ (ap (λ n. n + length b.past) a.size ∙ ap (λ n. count + n) b.size);
}

-- after the first node, which was put where none was
pub after_first : {none first new : List Node} {n : Node} {count : ℕ} → none ≡ [] → first ≡ none ++ n ∷ [] → ArePast first new count → ArePast (n ∷ []) new count
after_first {new} {n} {count} is items past = subst (λ ns. ArePast ns new count) (items ∙ ap (λ ns. ns ++ n ∷ []) is) past

-- none of them goes on, and no bytes of one come to its parent
none_later : (nodes : List Node) (j : ℕ) → list_all is_past nodes ≡ true → goes_on_at (slice_get nodes j) ≡ false
none_later [] j e = refl
none_later (n ∷ nodes) zero e = ap not (left_of n.over (is_in_row n.place) (left_of (is_past n) (list_all is_past nodes) e))
none_later (n ∷ nodes) (suc j) e = none_later nodes j (right_of (is_past n) (list_all is_past nodes) e)

free_place : (place : Place) → is_in_row place ≡ true → is_captured place ≡ false
free_place InRow e = refl
free_place (Stub stub text) e = cc
free_place (Gathers stub text) e = cc
free_place (Captured stub text) e = cc

none_rises : (number : ℕ) (nodes : List Node) (j : ℕ) → list_all is_past nodes ≡ true → rises_at number (slice_get nodes j) ≡ true
none_rises number [] j e = refl
none_rises number (n ∷ nodes) zero e =
    ap (λ b. not b || nat_lt n.parent number) (free_place n.place (right_of n.over (is_in_row n.place) (left_of (is_past n) (list_all is_past nodes) e)))
none_rises number (n ∷ nodes) (suc j) e = none_rises number nodes j (right_of (is_past n) (list_all is_past nodes) e)

-- ---- the row

zero_suc : (j : ℕ) → (0 == suc j) ≡ false
zero_suc j = grind (arith, nat_tests)

closed_later : (nodes j : ℕ) → is_open (suc j) (first_row nodes).pieces ≡ false
unfolding is_open
closed_later nodes j = ap (λ b. cond (true && b) true false) (zero_suc j)

module _ (row : Row) (nodes : List Node) (count : ℕ) (n : Node) (first : row ≡ first_row (1 + count)) (past : ArePast (n ∷ []) nodes count) where
  pub open_first : is_open 0 row.pieces ≡ true
  open_first = ap (λ (r : Row). is_open 0 r.pieces) first ∙ first_open (1 + count)

  later : (j : ℕ) → is_open (suc j) row.pieces ≡ false
  later j = ap (λ (r : Row). is_open (suc j) r.pieces) first ∙ closed_later (1 + count) j

  pub only : (j : ℕ) → is_open j row.pieces ≡ true → j ≡ 0
  only zero h = refl
  only (suc j) h = no (sym (later j) ∙ h)
    where
      no : false ≡ true → suc j ≡ 0
      no e = cc

  pub there : slice_get nodes 0 ≡ Some n
  there = ap (λ ns. slice_get ns 0) past.items

  pub many : length nodes ≡ 1 + count
  many = ap length past.items ∙ (let size = past.size in let e : suc (length past.past) ≡ 1 + count = omega (arith, size) in e)

  pub sound : count ≤ 255 → n.over ≡ false → is_captured n.place ≡ false → IsSound row nodes
  sound few over free = record {
    well = subst (IsWellRow 0) (sym first) (begun-well 0 (1 + count) (let e : 0 < 1 + count = omega arith in e));
    few = (let size = many in let e : length nodes ≤ 1001 = omega (arith, few, size) in e);
    count = ap (λ (r : Row). r.nodes) first ∙ sym many;
    going = λ j. going j;
    rises = λ j. rises j;
  }
    where
      going : (j : ℕ) → is_open j row.pieces ≡ goes_on_at (slice_get nodes j)
      going zero = open_first ∙ ap not (sym over) ∙ ap goes_on_at (sym there)
      going (suc j) = later j ∙ sym (none_later past.past j past.over) ∙ ap (λ ns. goes_on_at (slice_get ns (suc j))) (sym past.items)

      rises : (j : ℕ) → rises_at j (slice_get nodes j) ≡ true
      rises zero = ap (rises_at 0) there ∙ ap (λ b. not b || nat_lt n.parent 0) free
      rises (suc j) = ap (λ ns. rises_at (suc j) (slice_get ns (suc j))) past.items ∙ none_rises (suc j) past.past j past.over

module _ (laws : ShowsTheSame) (w : World) (tree : Tree) (ps : List SetPattern) (site : Site) (main : Main) (row : Row) (nodes : List Node) (texts : ℕ → List ℕ) (vars : Vars) (count : ℕ) (n : Node) (m : Serving Answer)
    (first : row ≡ first_row (1 + count)) (past : ArePast (n ∷ []) nodes count) (left : n.left ≡ 50) (place : n.place ≡ InRow) (none : n.asks ≡ None) where
  pub begins : (table before : Vars) (k : Serving Answer) → settled m table ≡ settled k before → TurnsTo before vars k (node_act w ps site main n (texts 0)) → Opening w tree 0 (alone 0 1 (Going 50 m)) table (seen w ps site main row nodes texts) vars
  begins table before k e u =
      let t : TurnsTo table vars m (node_act w ps site main n (texts 0)) = record { turned = u.turned; settles = e ∙ u.settles; works = u.works } in
      let f : Family = record { row = row; output = []; stance = λ j. Going 50 m; root = 0 } in
      steps.alike (laws.numbers (alone 0 1 (Going 50 m)) (1 + count) (let few : 1 ≤ 1 + count = omega arith in few))
      (subst (λ (r : Row). Opening w tree 0 (record { row = r; output = []; stance = λ j. Going 50 m; root = 0 }) table (seen w ps site main row nodes texts) vars) first
      (steps.alike (laws.others f (with_stance 0 (Going 50 m) f.stance) (λ j h. same (j == 0)))
      (steps.then (steps.turns w tree laws 0 0 InItsRow 50 f (open_first row nodes count n first past) m (node_act w ps site main n (texts 0)) table vars t)
      (steps.alike (laws.others (doing 0 (Going 50 (node_act w ps site main n (texts 0))) f) (stance_in (doing_by w ps site main texts) nodes most_levels) (λ j h. is j (only row nodes count n first past j h))) steps.stays))))
    where
      same : (b : Bool) → Going 50 m ≡ cond b (Going 50 m) (Going 50 m)
      same true = refl
      same false = refl

      is : (j : ℕ) → j ≡ 0 → cond (j == 0) (Going 50 (node_act w ps site main n (texts 0))) (Going 50 m) ≡ stance_in (doing_by w ps site main texts) nodes most_levels j
      is j h =
          ap (λ i. cond (i == 0) (Going 50 (node_act w ps site main n (texts 0))) (Going 50 m)) h ∙ ap (λ l. Going l (node_act w ps site main n (texts 0))) (sym left)
          ∙ sym (in_row_is (doing_by w ps site main texts) nodes most_levels 0 n (there row nodes count n first past) place none) ∙ ap (stance_in (doing_by w ps site main texts) nodes most_levels) (sym h)
