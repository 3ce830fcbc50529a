-- Calls on a family, by its nodes.
use Rattle.std.proofs.Common.{◌≡◌, ℕ, zero, suc, ◌+◌, ◌-◌, ◌≤◌, ◌&&◌, ◌||◌, ◌==◌, is_none, Bool, true, false, not, List, [], ◌∷◌, drop, length, set, get_or, slice_get, Option, None, Some, is_some, refl, sym, ap, ◌∙◌, subst, unwrap_or, arith}
use Rattle.std.specs.List.{list_all}
use Rattle.std.proofs.lemmas.Bool.{eqb-true}
use Rattle.acts.specs.Act.{Done}
use Rattle.file_tree.specs.Tree.{IsFrom, Tree, Trees, is_fitting, tree_of}
use Rattle.file_tree.specs.declared.job.JobAnswer.{JobAnswer}
use Rattle.ngx_pattern.specs.Pattern.{Pattern as SetPattern}
use Rattle.ngx_variables.specs.declared.request.Main.{Main}
use Rattle.site_model.specs.declared.site.Site.{Site}
use Rattle.postpone_filter.specs.Row.{Row, is_open, room}
use Rattle.request_meaning.specs.Laws.{shipped}
use Rattle.request_meaning.specs.Serving.{World, Answer}
use Rattle.node_line.specs.request_phases.Rounds.{world_in}
use Rattle.node_line.specs.request_phases.declared.ground.Ground.{Ground}
use Rattle.family_order.specs.Acts.{IsOver}
use Rattle.family_order.specs.Items.Stance.{Going}
use Rattle.family_order.specs.Laws.{ShowsTheSame}
use Rattle.node_line.specs.node_turn.Stages.{is_ending, is_in_row, is_placing, is_reading, is_serving, is_turning, node_act, can_place}
use Rattle.subrequests.specs.Families.{IsSound, are_done, captured_at, goes_on_at, in_row_at, is_last, over_node}
use Rattle.node_seats.specs.Seats.{doing_by, is_captured, most_levels, seen}
use Rattle.node_seats.proofs.Seated.{in_row_is}
use Rattle.node_line.specs.node_turn.declared.node.Place.{Place}
use Rattle.node_line.specs.node_turn.declared.node.Place.TheVariants.{Row as InRow, Stub, Gathers, Captured}
use Rattle.node_line.specs.Stances.{Opening}
use Rattle.subrequests.specs.Moved.{IsFromAt, OverrunsBy, SameFiles, Steps, files, fits_at, is_at, meant}
use Rattle.node_line.specs.node_turn.Nodes.{answer_seen, asked_path, lent, stage_act}
use Rattle.family_nodes.specs.Runs.{runs_at}
use Rattle.std.specs.Global.{Box}
use Rattle.node_line.specs.node_turn.declared.node.Body.{Body}
use Rattle.subrequests.specs.declared.family.Family.{Family}
use Rattle.node_line.specs.node_turn.declared.node.Node.{Node}
use Rattle.node_line.specs.node_turn.declared.node.Stage.{Stage}
use Rattle.node_line.specs.node_turn.declared.node.Stage.TheVariants as stages
use Rattle.subrequests.proofs.Members as members
use Rattle.family_nodes.proofs.Sets.{length_set}
use Rattle.node_line.proofs.Steps as steps

pub left_of : (a b : Bool) → (a && b) ≡ true → a ≡ true
left_of true b e = refl
left_of false b e = cc

pub right_of : (a b : Bool) → (a && b) ≡ true → b ≡ true
right_of true b e = e
right_of false b e = cc

pub none_of : {A : Type 0} (o : Option A) → is_some o ≡ false → o ≡ None
none_of None e = refl
none_of (Some x) e = cc

pub asks_none : {A : Type 0} (o : Option A) → is_none o ≡ true → o ≡ None
asks_none None e = refl
asks_none (Some x) e = cc

pub some_same : {A : Type 0} (x y : A) → Some x ≡ Some y → x ≡ y
some_same x y e = ap (λ o. unwrap_or o x) e

-- ---- the node that is there

pub here_is : (p : Stage → Bool) (nodes : List Node) (at : ℕ) (x : Node) → is_at p (slice_get nodes at) ≡ true → x ≡ get_or nodes at x → slice_get nodes at ≡ Some x
here_is p [] at x e is = cc
here_is p (n ∷ nodes) zero x e is = ap Some (sym is)
here_is p (n ∷ nodes) (suc at) x e is = here_is p nodes at x e is

pub stage_is : (p : Stage → Bool) (nodes : List Node) (at : ℕ) (x : Node) → is_at p (slice_get nodes at) ≡ true → slice_get nodes at ≡ Some x → p x.stage ≡ true
stage_is p nodes at x e is = left_of (p x.stage) (not x.over) (sym (ap (is_at p) is) ∙ e)

pub going_is : (p : Stage → Bool) (o : Option Node) → is_at p o ≡ true → goes_on_at o ≡ true
going_is p None e = cc
going_is p (Some n) e = right_of (p n.stage) (not n.over) e

pub open_is : (p : Stage → Bool) (row : Row) (nodes : List Node) (at : ℕ) → IsSound row nodes → is_at p (slice_get nodes at) ≡ true → is_open at row.pieces ≡ true
open_is p row nodes at sound e = sound.going at ∙ going_is p (slice_get nodes at) e

pub found_there : (nodes : List Node) (at : ℕ) (x y : Node) → slice_get nodes at ≡ Some y → x ≡ get_or nodes at x → slice_get nodes at ≡ Some x
found_there [] at x y e is = cc
found_there (n ∷ nodes) zero x y e is = ap Some (sym is)
found_there (n ∷ nodes) (suc at) x y e is = found_there nodes at x y e is

pub not_over : (nodes : List Node) (at : ℕ) (x : Node) → goes_on_at (slice_get nodes at) ≡ true → x ≡ get_or nodes at x → slice_get nodes at ≡ Some x
not_over [] at x e is = cc
not_over (n ∷ nodes) zero x e is = ap Some (sym is)
not_over (n ∷ nodes) (suc at) x e is = not_over nodes at x e is

pub row_is : (place : Place) → is_in_row place ≡ true → place ≡ InRow
row_is InRow e = refl
row_is (Stub stub text) e = cc
row_is (Gathers stub text) e = cc
row_is (Captured stub text) e = cc

-- the bytes of the node that is there go to the row, or don't
pub in_row : (nodes : List Node) (at : ℕ) (x : Node) → in_row_at (slice_get nodes at) ≡ true → slice_get nodes at ≡ Some x → x.place ≡ InRow
in_row nodes at x e there = row_is x.place (sym (ap in_row_at there) ∙ e)

pub not_in_row : (nodes : List Node) (at : ℕ) (x : Node) → in_row_at (slice_get nodes at) ≡ false → slice_get nodes at ≡ Some x → is_in_row x.place ≡ false
not_in_row nodes at x e there = sym (ap in_row_at there) ∙ e

-- they come to its parent, or don't
pub withheld_is : (nodes : List Node) (at : ℕ) (x : Node) (b : Bool) → captured_at (slice_get nodes at) ≡ b → slice_get nodes at ≡ Some x → is_captured x.place ≡ b
withheld_is nodes at x b e there = sym (ap captured_at there) ∙ e

-- ---- steps

pub both_ways : (laws : ShowsTheSame) (patterns : List SetPattern) (g : Ground) (old new : Family) (opened : ℕ) → length new.nodes ≡ length old.nodes + opened →
    ((tree : Tree) (texts : ℕ → List ℕ) → Opening (world_in patterns g shipped) tree opened (meant (world_in patterns g shipped) patterns g.site.now texts old) old.vars
    (meant (world_in patterns g shipped) patterns g.site.now texts new) new.vars) →
    SameFiles old new →
    Steps patterns g old new
both_ways laws patterns g old new opened grows any same =
    let w = world_in patterns g shipped in
    record {
      opened = opened;
      grows = grows;
      any = any;
      by_files = λ tree trees. steps.same_count (no_more opened)
          (steps.then (any tree (files trees old)) (steps.alike (members.same_files laws w patterns g.site.now new.main new.order new.nodes (files trees old) (files trees new) (same trees)) steps.stays));
    }
  where
    no_more : (n : ℕ) → n + 0 ≡ n
    no_more n = omega arith

-- where another node is in the place of one
pub as_many : (nodes : List Node) (at : ℕ) (new : Node) → length (set nodes at new) ≡ length nodes + 0
as_many nodes at new = length_set nodes at new ∙ (let e : length nodes ≡ length nodes + 0 = omega arith in e)

pub steps_then : (patterns : List SetPattern) (g : Ground) (a b c : Family) → Steps patterns g a b → Steps patterns g b c → Steps patterns g a c
steps_then patterns g a b c p q = record {
  opened = p.opened + q.opened;
  grows = (let first = p.grows in let second = q.grows in omega (arith, first, second));
  any = λ tree texts. steps.then (p.any tree texts) (q.any tree texts);
  by_files = λ tree trees. steps.then (p.by_files tree trees) (q.by_files tree trees);
}

pub no_steps : (patterns : List SetPattern) (g : Ground) (a : Family) → Steps patterns g a a
no_steps patterns g a = record { opened = 0; grows = (let e : length a.nodes ≡ length a.nodes + 0 = omega arith in e); any = λ tree texts. steps.stays; by_files = λ tree trees. steps.stays }

-- ---- at the end

ended : (s : Stage) → is_ending s ≡ true → (b : Box Body) × (s ≡ stages.Ends b)
ended (stages.Begins ssi) e = cc
ended (stages.Asks wait ssi) e = cc
ended (stages.Told wait file ssi) e = cc
ended (stages.Places b) e = cc
ended (stages.Serves b) e = cc
ended (stages.Reads b) e = cc
ended (stages.Captures c) e = cc
ended (stages.Ends a) e = (a, refl)

pub ended_act : (w : World) (patterns : List SetPattern) (site : Site) (main : Main) (n : Node) (text : List ℕ) → is_ending n.stage ≡ true →
    (answer : Answer) × (node_act w patterns site main n text ≡ Done answer)
ended_act w patterns site main n text e =
    let s = ended n.stage e in
    (answer_seen site (lent main n.phases) s.0.value.answered, ap (λ x. stage_act w patterns site (lent main n.phases) n.left (asked_path n.ask) x text) s.1)

none_goes : (nodes : List Node) (j : ℕ) → list_all over_node nodes ≡ true → goes_on_at (slice_get nodes j) ≡ false
none_goes [] j e = refl
none_goes (n ∷ nodes) zero e = ap not (left_of n.over (list_all over_node nodes) e)
none_goes (n ∷ nodes) (suc j) e = none_goes nodes j (right_of n.over (list_all over_node nodes) e)

false_true : {A : Type 0} → false ≡ true → A
false_true e = cc

pub done_is : (w : World) (patterns : List SetPattern) (site : Site) (main : Main) (row : Row) (nodes : List Node) (texts : ℕ → List ℕ) → are_done nodes ≡ true → IsSound row nodes →
    (answer : Answer) × IsOver (seen w patterns site main row nodes texts) answer
done_is w patterns site main row [] texts e sound = cc
done_is w patterns site main row (n ∷ nodes) texts e sound =
    let last = left_of (is_last n) (list_all over_node nodes) e in
    let ends = left_of (is_ending n.stage) (not n.over && (is_in_row n.place && (is_none n.asks && n.children == 0))) last in
    let after = right_of (is_ending n.stage) (not n.over && (is_in_row n.place && (is_none n.asks && n.children == 0))) last in
    let goes = left_of (not n.over) (is_in_row n.place && (is_none n.asks && n.children == 0)) after in
    let placed = right_of (not n.over) (is_in_row n.place && (is_none n.asks && n.children == 0)) after in
    let in_row = left_of (is_in_row n.place) (is_none n.asks && n.children == 0) placed in
    let asks = asks_none n.asks (left_of (is_none n.asks) (n.children == 0) (right_of (is_in_row n.place) (is_none n.asks && n.children == 0) placed)) in
    let act = ended_act w patterns site main n (texts 0) ends in (
      act.0,
      record {
        left = n.left;
        stands =
            in_row_is (doing_by w patterns site main texts) (n ∷ nodes) most_levels 0 n refl (row_is n.place in_row) asks ∙ ap (Going n.left) act.1;
        goes_on = sound.going 0 ∙ goes;
        alone = alone;
      },
    )
  where
    alone : (j : ℕ) → is_open j row.pieces ≡ true → j ≡ 0
    alone zero h = refl
    alone (suc j) h = false_true (sym (none_goes nodes j (right_of (is_last n) (list_all over_node nodes) e)) ∙ sym (sound.going (suc j)) ∙ h)

-- ---- answers

pub fits_here : (tree : ℕ) (nodes : List Node) (at : ℕ) (x : Node) (answer : JobAnswer) → fits_at tree (slice_get nodes at) answer ≡ true → x ≡ get_or nodes at x → slice_get nodes at ≡ Some x
fits_here tree [] at x answer e is = cc
fits_here tree (n ∷ nodes) zero x answer e is = ap Some (sym is)
fits_here tree (n ∷ nodes) (suc at) x answer e is = fits_here tree nodes at x answer e is

pub fits_are : (tree : ℕ) (nodes : List Node) (at : ℕ) (x : Node) (answer : JobAnswer) → fits_at tree (slice_get nodes at) answer ≡ true → slice_get nodes at ≡ Some x →
    (goes_on_at (slice_get nodes at) ≡ true) × (tree_of x.ask ≡ tree) × (is_fitting x.ask answer ≡ true)
fits_are tree nodes at x answer e there =
    let all : (is_fitting x.ask answer && (not x.over && (tree_of x.ask == tree))) ≡ true = sym (ap (λ o. fits_at tree o answer) there) ∙ e in
    let later = right_of (is_fitting x.ask answer) (not x.over && (tree_of x.ask == tree)) all in (
      ap goes_on_at there ∙ left_of (not x.over) (tree_of x.ask == tree) later,
      eqb-true (tree_of x.ask) tree (right_of (not x.over) (tree_of x.ask == tree) later),
      left_of (is_fitting x.ask answer) (not x.over && (tree_of x.ask == tree)) all,
    )

pub from_here : (trees : Trees) (nodes : List Node) (at : ℕ) (x : Node) (answer : JobAnswer) → slice_get nodes at ≡ Some x → IsFromAt trees (slice_get nodes at) answer → IsFrom trees x.ask answer
from_here trees nodes at x answer there from = subst (λ o. IsFromAt trees o answer) there from

-- ---- a look at a node

pub there_none : (nodes : List Node) (at : ℕ) → length nodes ≤ at → slice_get nodes at ≡ None
there_none [] at h = refl
there_none (n ∷ nodes) zero h = absurd (omega (arith, h))
there_none (n ∷ nodes) (suc at) h = there_none nodes at (omega (arith, h))

pub drop_next : (nodes : List Node) (at : ℕ) (x : Node) → slice_get nodes at ≡ Some x → drop at nodes ≡ x ∷ drop (suc at) nodes
drop_next [] at x e = cc
drop_next (n ∷ nodes) zero x e = ap (λ m. m ∷ nodes) (some_same n x e)
drop_next (n ∷ nodes) (suc at) x e = drop_next nodes at x e

pub drop_all : (nodes : List Node) (at : ℕ) → length nodes ≤ at → drop at nodes ≡ []
drop_all [] zero h = refl
drop_all [] (suc at) h = refl
drop_all (n ∷ nodes) zero h = absurd (omega (arith, h))
drop_all (n ∷ nodes) (suc at) h = drop_all nodes at (omega (arith, h))

-- some levels are left where they are of the same node as it goes on
pub some_left : (n m : ℕ) → m ≡ n → (m ≡ 0 → ⊥) → n ≡ suc (n - 1)
some_left n m e some = omega (arith, e, some)

-- what is over runs no more
pub over_rests : (row : Row) (at : ℕ) (o : Option Node) → goes_on_at o ≡ false → runs_at row at o ≡ false
over_rests row at None e = refl
over_rests row at (Some n) e =
    ap (λ b. is_none n.asks && ((b && ((is_turning n.stage || (is_serving n.stage && is_none n.waits)) || (is_placing n.stage && can_place (room at row.pieces) n.stage)))
    || (b && (is_ending n.stage && (n.children == 0 && not (at == 0)))))) e
    ∙ none_runs (is_none n.asks)
  where
    none_runs : (b : Bool) → (b && false) ≡ false
    none_runs true = refl
    none_runs false = refl

-- nor does what asks for a block of its file
pub reads_rest : (row : Row) (at : ℕ) (n : Node) → is_reading n.stage ≡ true → runs_at row at (Some n) ≡ false
reads_rest row at n e = stage_rests row at n n.stage e
  where
    none_runs : (a b : Bool) → (a && ((b && false) || (b && false))) ≡ false
    none_runs true true = refl
    none_runs true false = refl
    none_runs false b = refl

    stage_rests : (row : Row) (at : ℕ) (n : Node) (s : Stage) → is_reading s ≡ true →
        (is_none n.asks && ((not n.over && ((is_turning s || (is_serving s && is_none n.waits)) || (is_placing s && can_place (room at row.pieces) s)))
        || (not n.over && (is_ending s && (n.children == 0 && not (at == 0)))))) ≡ false
    stage_rests row at n (stages.Begins ssi) e = cc
    stage_rests row at n (stages.Asks wait ssi) e = cc
    stage_rests row at n (stages.Told wait file ssi) e = cc
    stage_rests row at n (stages.Places b) e = cc
    stage_rests row at n (stages.Serves b) e = cc
    stage_rests row at n (stages.Reads b) e = none_runs (is_none n.asks) (not n.over)
    stage_rests row at n (stages.Captures c) e = cc
    stage_rests row at n (stages.Ends b) e = cc

-- steps before one subrequest too many
pub then_overruns : (patterns : List SetPattern) (g : Ground) (old mid : Family) → Steps patterns g old mid → OverrunsBy patterns g mid → OverrunsBy patterns g old
then_overruns patterns g old mid s over = λ tree trees.
    let o = over tree trees in
    let grows = s.grows in
    let many = o.many in
    record { count = s.opened + o.count; after = o.after; later = o.later; opening = steps.then (s.by_files tree trees) o.opening; many = omega (arith, grows, many) }
