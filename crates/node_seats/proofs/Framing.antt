-- What a family does to one of those that it tells of, and to the row.
use Rattle.std.proofs.Common.{◌≡◌, ℕ, ◌==◌, Bool, true, false, cond, List, refl, sym, ap, ◌∙◌}
use Rattle.std.proofs.lemmas.Bool.{eqb-true}
use Rattle.acts.specs.Vars.{Vars}
use Rattle.file_tree.specs.Tree.{Tree}
use Rattle.ngx_pattern.specs.Pattern.{Pattern as SetPattern}
use Rattle.ngx_variables.specs.declared.request.Main.{Main}
use Rattle.site_model.specs.declared.site.Site.{Site}
use Rattle.postpone_filter.specs.Row.{Row as Order, ended, is_open, with_child}
use Rattle.request_meaning.specs.Serving.{World}
use Rattle.family_order.specs.Items.{Stance, Family, IsAlike, IsWell, doing, ending, is_shown, opening, with_stance}
use Rattle.family_order.specs.Items.Stance.{Hidden}
use Rattle.family_order.specs.Laws.{ShowsTheSame}
use Rattle.family_order.proofs.Wells.{well-doing}
use Rattle.node_line.specs.node_turn.declared.node.Node.{Node}
use Rattle.node_line.specs.Stances.{Opening}
use Rattle.node_line.proofs.Steps as steps
use Rattle.node_seats.specs.Seats.{doing_by, most_levels, seen, stance_in}
use Rattle.node_seats.proofs.Above.{false_true}

module _ (laws : ShowsTheSame) (w : World) (patterns : List SetPattern) (site : Site) (main : Main) (row : Order) (nodes : List Node) (texts : ℕ → List ℕ) where
  abbrev before : Family
  before = seen w patterns site main row nodes texts

  abbrev said : List Node → ℕ → Stance
  said ns = stance_in (doing_by w patterns site main texts) ns most_levels

  -- one of them does so
  pub begins : (h : ℕ) (t : Stance) → stance_in (doing_by w patterns site main texts) nodes most_levels h ≡ t → IsAlike before (doing h t before)
  begins h t is = laws.others before (with_stance h t before.stance) (λ j e. by j (j == h) refl)
    where
      by : (j : ℕ) (b : Bool) → (j == h) ≡ b → before.stance j ≡ cond b t (before.stance j)
      by j true e = ap before.stance (eqb-true j h e) ∙ is
      by j false e = refl

  module _ (nodes' : List Node) (h : ℕ) (same : (j : ℕ) → (j == h) ≡ false → stance_in (doing_by w patterns site main texts) nodes most_levels j ≡ stance_in (doing_by w patterns site main texts) nodes' most_levels j) where
    -- other nodes tell that too, and a hidden one has a place in the row
    pub opens : (at : ℕ) (t : Stance) → is_shown t ≡ true → t ≡ stance_in (doing_by w patterns site main texts) nodes' most_levels h → IsWell before → is_open at row.pieces ≡ true →
        stance_in (doing_by w patterns site main texts) nodes' most_levels row.nodes ≡ Hidden → (row.nodes == h) ≡ false → (tree : Tree) (vars : Vars) →
        Opening w tree 0 (doing h t before) vars (seen w patterns site main (with_child at row) nodes' texts) vars
    opens at t shown is well goes_on hidden other tree vars =
        steps.alike (laws.opens (doing h t before) at (well-doing h t before well shown) goes_on)
        (steps.alike (laws.others (opening at Hidden (doing h t before)) (said nodes') (λ j e. by j (j == row.nodes) (j == h) refl refl)) steps.stays)
      where
        by : (j : ℕ) (a b : Bool) → (j == row.nodes) ≡ a → (j == h) ≡ b → cond a Hidden (cond b t (before.stance j)) ≡ said nodes' j
        by j true b e f = sym hidden ∙ ap (said nodes') (sym (eqb-true j row.nodes e))
        by j false true e f = is ∙ ap (said nodes') (sym (eqb-true j h f))
        by j false false e f = same j f

    -- or a hidden one has none any more
    pub ends : (number : ℕ) (t : Stance) → is_shown t ≡ true → t ≡ stance_in (doing_by w patterns site main texts) nodes' most_levels h → IsWell before → is_open number row.pieces ≡ true →
        stance_in (doing_by w patterns site main texts) nodes most_levels number ≡ Hidden → (number == h) ≡ false →
        ((j : ℕ) → is_open j (ended number row).pieces ≡ cond (j == number) false (is_open j row.pieces)) → (tree : Tree) (vars : Vars) →
        Opening w tree 0 (doing h t before) vars (seen w patterns site main (ended number row) nodes' texts) vars
    ends number t shown is well goes_on hidden other closed tree vars =
        steps.alike (laws.ends (doing h t before) number (well-doing h t before well shown) (record { goes_on = goes_on; stands = ap (λ b. cond b t (before.stance number)) other ∙ hidden }))
        (steps.alike (laws.others (ending number (doing h t before)) (said nodes') (λ j e. by j (j == number) (j == h) refl refl (sym (closed j) ∙ e))) steps.stays)
      where
        by : (j : ℕ) (a b : Bool) → (j == number) ≡ a → (j == h) ≡ b → cond a false (is_open j row.pieces) ≡ true → cond b t (before.stance j) ≡ said nodes' j
        by j true b e f g = absurd (false_true g)
        by j false true e f g = is ∙ ap (said nodes') (sym (eqb-true j h f))
        by j false false e f g = same j f
