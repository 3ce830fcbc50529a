-- Steps of a node in its seat are steps of its family.
use Rattle.std.proofs.Common.{◌≡◌, ℕ, ◌==◌, Bool, true, false, cond, List, [], ◌++◌, refl, sym, ap, ◌∙◌, subst}
use Rattle.std.proofs.lemmas.Bool.{eqb-true}
use Rattle.acts.specs.Vars.{Vars}
use Rattle.file_tree.specs.Tree.{Tree}
use Rattle.ngx_pattern.specs.Pattern.{Pattern as SetPattern}
use Rattle.ngx_variables.specs.declared.request.Main.{Main}
use Rattle.site_model.specs.declared.site.Site.{Site}
use Rattle.postpone_filter.specs.Row.{Row as Order, is_open}
use Rattle.request_meaning.specs.Serving.{World, Serving, Answer}
use Rattle.family_order.specs.Items.{Stance, Family, IsAlike, with_stance, doing}
use Rattle.family_order.specs.Laws.{ShowsTheSame}
use Rattle.node_line.specs.node_turn.Stages.{hand_at, withheld_more, is_in_row, node_act}
use Rattle.node_line.specs.node_turn.Turns.{PlacesAs, TurnsTo, Works}
use Rattle.node_line.specs.node_turn.declared.node.Node.{Node}
use Rattle.node_line.specs.node_turn.declared.node.Place.{Place}
use Rattle.node_line.specs.node_turn.declared.node.Place.TheVariants.{Row, Stub, Gathers, Captured}
use Rattle.node_line.specs.Stances.{Opening, Spot, stance_so}
use Rattle.node_line.specs.Stances.Seat.{Inside}
use Rattle.node_line.specs.Stances.Spot.{After, Behind}
use Rattle.node_line.proofs.Steps as steps
use Rattle.node_seats.specs.Seats.{doing_by, most_levels, seen, stance_in}
use Rattle.node_seats.proofs.Located.{StandsAs}
use Rattle.node_seats.proofs.Seated.{InLine, Replaced, Seated}

module _ (laws : ShowsTheSame) (w : World) (patterns : List SetPattern) (site : Site) (main : Main) (row : Order) (nodes : List Node) (texts : ℕ → List ℕ) (at : ℕ) (old : Node)
    (s : Seated most_levels (doing_by w patterns site main texts) nodes at old) where
  abbrev pub before : Family
  before = seen w patterns site main row nodes texts

  abbrev pub act : Node → Serving Answer
  act n = node_act w patterns site main n (texts at)

  abbrev pub so : Node → Stance
  so n = stance_so (s.seat n.place) at n.left (act n)

  pub begins : IsAlike before (doing s.h (so old) before)
  begins = laws.others before (with_stance s.h (so old) before.stance) (λ j e. by j (j == s.h) refl)
    where
      by : (j : ℕ) (b : Bool) → (j == s.h) ≡ b → before.stance j ≡ cond b (so old) (before.stance j)
      by j true e = ap before.stance (eqb-true j s.h e) ∙ s.is
      by j false e = refl

  -- another node in its place, and another row
  pub ends : (f : Family) (row' : Order) (nodes' : List Node) (new : Node) → Replaced (doing_by w patterns site main texts) nodes (doing_by w patterns site main texts) nodes' at old new → StandsAs old new →
      f.row ≡ row' → f.output ≡ [] → f.root ≡ 0 → ((j : ℕ) → (j == s.h) ≡ false → f.stance j ≡ before.stance j) →
      IsAlike (doing s.h (so new) f) (seen w patterns site main row' nodes' texts)
  ends f row' nodes' new r like same_row none root others =
      let after : ℕ → Stance = stance_in (doing_by w patterns site main texts) nodes' most_levels in
      subst (λ x. IsAlike (doing s.h (so new) f) (record { row = x; output = []; stance = after; root = 0 })) same_row
      (subst (λ o. IsAlike (doing s.h (so new) f) (record { row = f.row; output = o; stance = after; root = 0 })) none
      (subst (λ x. IsAlike (doing s.h (so new) f) (record { row = f.row; output = f.output; stance = after; root = x })) root
      (laws.others (doing s.h (so new) f) after (λ j e. by j (j == s.h) refl))))
    where
      by : (j : ℕ) (b : Bool) → (j == s.h) ≡ b → cond b (so new) (f.stance j) ≡ stance_in (doing_by w patterns site main texts) nodes' most_levels j
      by j true e =
          sym (s.next (doing_by w patterns site main texts) nodes' new r like) ∙ ap (stance_in (doing_by w patterns site main texts) nodes' most_levels) (sym (eqb-true j s.h e))
      by j false e = others j e ∙ s.same (doing_by w patterns site main texts) nodes' new r like.captured like.parent j e

  module _ (tree : Tree) (vars : Vars) (goes_on : is_open s.h row.pieces ≡ true) (nodes' : List Node) (new : Node)
      (r : Replaced (doing_by w patterns site main texts) nodes (doing_by w patterns site main texts) nodes' at old new) (like : StandsAs old new) (left : new.left ≡ old.left) (place : new.place ≡ old.place) where
    now_new : (f : Family) → doing s.h (stance_so (s.seat old.place) at old.left (act new)) f ≡ doing s.h (so new) f
    now_new f = ap (λ n. doing s.h (stance_so (s.seat old.place) at n (act new)) f) (sym left) ∙ ap (λ p. doing s.h (stance_so (s.seat p) at new.left (act new)) f) (sym place)

    -- its phases go on, and then it by itself
    pub turned : (vars' : Vars) → TurnsTo vars vars' (act old) (act new) → Opening w tree 0 before vars (seen w patterns site main row nodes' texts) vars'
    turned vars' t =
        steps.alike begins
        (steps.then (steps.turns w tree laws s.h at (s.seat old.place) old.left before goes_on (act old) (act new) vars vars' t)
        (subst (λ f. Opening w tree 0 f vars' (seen w patterns site main row nodes' texts) vars') (sym (now_new before))
        (steps.alike (ends before row nodes' new r like refl refl refl (λ j e. refl)) steps.stays)))

    -- it reads variables, and takes up the next part of its page
    pub worked : Works vars (act old) (act new) → Opening w tree 0 before vars (seen w patterns site main row nodes' texts) vars
    worked acts =
        steps.alike begins
        (steps.then (steps.works w tree laws s.h at (s.seat old.place) old.left before goes_on vars (act old) (act new) acts)
        (subst (λ f. Opening w tree 0 f vars (seen w patterns site main row nodes' texts) vars) (sym (now_new before))
        (steps.alike (ends before row nodes' new r like refl refl refl (λ j e. refl)) steps.stays)))

  -- bytes of it are withheld
  pub withheld : (tree : Tree) (vars : Vars) (goes_on : is_open s.h row.pieces ≡ true) (nodes' : List Node) (new : Node) →
      Replaced (doing_by w patterns site main texts) nodes (doing_by w patterns site main texts) nodes' at old new → StandsAs old new → new.left ≡ old.left → is_in_row old.place ≡ false →
      new.place ≡ withheld_more (hand_at old.stage) old.place → PlacesAs (hand_at old.stage) (act old) (act new) → Opening w tree 0 before vars (seen w patterns site main row nodes' texts) vars
  withheld tree vars goes_on nodes' new r like left apart place acts = by old.place refl
    where
      l : InLine s.seat
      l = s.line apart

      some : List ℕ
      some = hand_at old.stage

      after : Family
      after = seen w patterns site main row nodes' texts

      no : false ≡ true → ⊥
      no e = cc

      go : (text : List ℕ) (spot : Spot) → s.seat old.place ≡ Inside l.own (Behind text spot) l.rest → s.seat new.place ≡ Inside l.own (Behind (text ++ some) spot) l.rest → Opening w tree 0 before vars after vars
      go text spot was then =
          steps.alike begins
          (subst (λ t. Opening w tree 0 (doing s.h t before) vars after vars) (sym (ap (λ q. stance_so q at old.left (act old)) was))
          (steps.then (steps.holds w tree laws s.h at old.left before goes_on l.own spot l.rest text some (act old) (act new) vars acts)
          (subst (λ t. Opening w tree 0 (doing s.h t before) vars after vars) (ap (λ q. stance_so q at new.left (act new)) then ∙ ap (λ n. stance_so (Inside l.own (Behind (text ++ some) spot) l.rest) at n (act new)) left)
          (steps.alike (ends before row nodes' new r like refl refl refl (λ j e. refl)) steps.stays))))

      by : (p : Place) → old.place ≡ p → Opening w tree 0 before vars after vars
      by Row e = absurd (no (sym apart ∙ ap is_in_row e))
      by (Stub stub text) e = go text l.spot (ap s.seat e ∙ l.is (Stub stub text)) (ap s.seat (place ∙ ap (withheld_more some) e) ∙ l.is (Stub stub (text ++ some)))
      by (Gathers stub text) e =
          go text (After l.ahead l.spot) (ap s.seat e ∙ l.is (Gathers stub text)) (ap s.seat (place ∙ ap (withheld_more some) e) ∙ l.is (Gathers stub (text ++ some)))
      by (Captured stub text) e =
          go text (After l.ahead l.spot) (ap s.seat e ∙ l.is (Captured stub text)) (ap s.seat (place ∙ ap (withheld_more some) e) ∙ l.is (Captured stub (text ++ some)))
