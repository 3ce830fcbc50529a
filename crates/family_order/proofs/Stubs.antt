-- Families that show the same, and a node with a stub that joins the row.
use Rattle.std.proofs.Common.{◌≡◌, ◌≢◌, ℕ, ◌≤◌, arith, true, false, List, [], ◌∷◌, ◌++◌, map, refl, sym, ap, ◌∙◌, append-nil}
use Rattle.file_tree.specs.Tree.{Tree}
use Rattle.acts.specs.Vars.{Vars}
use Rattle.family_meaning.specs.request_meaning.Serving.{World, Serving, Answer}
use Rattle.postpone_filter.specs.Row.{Piece, is_open, at_place, longer, closed, fresh}
use Rattle.postpone_filter.specs.Buffers.{IsLawful}
use Rattle.family_meaning.specs.Line.{front}
use Rattle.family_meaning.specs.Line.Line.{Nil, Bytes, Gives}
use Rattle.family_meaning.specs.Moves.{KeepsBody}
use Rattle.family_meaning.proofs.Exacts.{front_some}
use Rattle.family_order.specs.Items.{Stance, is_shown, stance_items, Family, IsWell, IsAlike, items, row_items, with_stance, doing, placing, opening, ending}
use Rattle.family_order.specs.Items.Stance.{Going, Apart, Hidden}
use Rattle.family_order.specs.Items.Item.{Byte}
use Rattle.family_order.specs.Acts.{Does, Acts}
use Rattle.family_order.specs.Acts.Acts.{Keeps}
use Rattle.family_order.specs.Laws.{ShowsTheSame}
use Rattle.family_order.proofs.Rows.{split, split_items, change_items, ahead_items, row_items-clean, row_items-same, row_items-alike}
use Rattle.family_order.proofs.Wells.{fresh_none, well-doing, well-append, well-child, well-end}
use Rattle.family_order.proofs.Shown.{stance_now, stance_other, placed_row, child_row, closed_row}

others : (f : Family) (stance : ℕ → Stance) → ((n : ℕ) → is_open n f.row.pieces ≡ true → f.stance n ≡ stance n) → IsAlike f (record { row = f.row; output = f.output; stance = stance; root = f.root })
others f stance k = record {
  items_are = row_items-alike stance f.stance f.row.pieces k;
  output_is = refl;
  well = λ h. record { row_is = h.row_is; root_is_shown = ap is_shown (sym (k f.root h.row_is.root_goes_on)) ∙ h.root_is_shown };
}

opens_hidden : (f : Family) (n : ℕ) → IsWell f → is_open n f.row.pieces ≡ true → IsAlike f (opening n Hidden f)
opens_hidden f n h e =
    let nodes = f.row.nodes in
    let stance = with_stance nodes Hidden f.stance in
    let p = split nodes n f.row.pieces h.row_is.lawful e in
    let g : Piece → List Piece = λ q. closed q ∷ fresh nodes ∷ fresh n ∷ [] in
    record {
      items_are = sym (row_items-same nodes stance f.stance f.row.pieces (fresh_none f.row h.row_is.lawful) (λ j u. stance_other nodes j Hidden f.stance u))
          ∙ split_items n stance f.row.pieces p
          ∙ sym (change_items n stance stance f.row.pieces p g (stance_items n (stance n)) (λ j u. refl) (child_row n nodes stance (stance n) Hidden p.at refl (stance_now nodes Hidden f.stance)))
          ∙ sym (row_items-clean stance (at_place n g f.row.pieces));
      output_is = refl;
      well = λ k. well-child n Hidden f k;
    }

ends_hidden : (f : Family) (n : ℕ) → IsWell f → Does f n Hidden → IsAlike f (ending n f)
ends_hidden f n h d =
    let p = split f.row.nodes n f.row.pieces h.row_is.lawful d.goes_on in
    let g : Piece → List Piece = λ q. closed q ∷ [] in
    record {
      items_are = split_items n f.stance f.row.pieces p
          ∙ ap (λ s. ahead_items f.stance p.ahead p.at ++ (stance_items n s ++ row_items f.stance p.behind)) d.stands
          ∙ sym (change_items n f.stance f.stance f.row.pieces p g [] (λ j u. refl) (closed_row f.stance p.at))
          ∙ sym (row_items-clean f.stance (at_place n g f.row.pieces));
      output_is = refl;
      well = λ k. well-end n f k (λ z. clash (sym k.root_is_shown ∙ ap (λ j. is_shown (f.stance j)) (sym z) ∙ ap is_shown d.stands));
    }
  where
    clash : true ≡ false → ⊥
    clash u = cc

-- more numbers
more_lawful : (n m : ℕ) (ps : List Piece) → n ≤ m → IsLawful n ps → IsLawful m ps
unfolding IsLawful
more_lawful n m [] h l = tt
more_lawful n m (p ∷ ps) h l = (omega (arith, l.0, h), (l.1.0, more_lawful n m ps h l.1.1))

numbers : (f : Family) (nodes : ℕ) → f.row.nodes ≤ nodes → IsAlike f (record { row = record { pieces = f.row.pieces; nodes = nodes }; output = f.output; stance = f.stance; root = f.root })
numbers f nodes k = record {
  items_are = refl;
  output_is = refl;
  well = λ h. record {
    row_is = record { lawful = more_lawful f.row.nodes nodes f.row.pieces k h.row_is.lawful; root_is_last = h.row_is.root_is_last; root_goes_on = h.row_is.root_goes_on };
    root_is_shown = h.root_is_shown;
  };
}

-- ---- a node with a stub that joins the row

module _ (w : World) (tree : Tree) (f : Family) (vars : Vars) (n left : ℕ) (bytes stub : List ℕ) (m : Serving Answer) where
  some_front : bytes ≢ [] → front (Bytes bytes (Gives n left m Nil)) ≢ []
  unfolding front
  some_front k z = k (sym (append-nil bytes) ∙ z)

  own_items : items (Bytes bytes (Gives n left m Nil)) ≡ map Byte bytes ++ stance_items n (Going left m)
  unfolding items
  own_items = refl

  pub joins : IsWell f → Does f n (Apart (Bytes bytes (Gives n left m Nil)) stub) → KeepsBody w tree (Bytes bytes (Gives n left m Nil)) → bytes ≢ [] →
      Acts w tree f vars (doing n (Going left m) (placing n bytes f)) vars
  joins h d body some =
      let own = Bytes bytes (Gives n left m Nil) in
      let now = Going left m in
      let stance = with_stance n now f.stance in
      let p = split f.row.nodes n f.row.pieces h.row_is.lawful d.goes_on in
      Keeps own stub (ahead_items f.stance p.ahead p.at) (row_items f.stance p.behind)
      (split_items n f.stance f.row.pieces p ∙ ap (λ s. ahead_items f.stance p.ahead p.at ++ (stance_items n s ++ row_items f.stance p.behind)) d.stands)
      (change_items n f.stance stance f.row.pieces p (λ q. longer bytes q ∷ []) (map Byte bytes ++ stance_items n now)
      (λ j u. stance_other n j now f.stance u) (placed_row n stance now bytes p.at (stance_now n now f.stance) p.place)
      ∙ ap (λ z. ahead_items f.stance p.ahead p.at ++ (z ++ row_items f.stance p.behind)) (sym own_items))
      refl (well-doing n now (placing n bytes f) (well-append n bytes f h) refl) body (front_some w tree (Bytes bytes (Gives n left m Nil)) (some_front some))

pub the_same : ShowsTheSame
the_same = record { others = others; numbers = numbers; opens = opens_hidden; ends = ends_hidden }
