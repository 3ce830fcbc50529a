-- A node with a stub joins the row: no subrequest is opened by that.
use Rattle.std.proofs.Common.{◌≡◌, ◌≢◌, ℕ, List, [], ◌∷◌, ◌++◌, map, refl, sym, ap, ◌∙◌, append-nil}
use Rattle.file_tree.specs.Tree.{Tree}
use Rattle.acts.specs.Vars.{Vars}
use Rattle.family_meaning.specs.request_meaning.Serving.{World, Serving, Answer}
use Rattle.postpone_filter.specs.Row.{longer}
use Rattle.family_meaning.specs.Line.{front}
use Rattle.family_meaning.specs.Line.Line.{Nil, Bytes, Gives}
use Rattle.family_meaning.specs.Moves.{KeepsBody}
use Rattle.family_meaning.proofs.Exacts.{front_some}
use Rattle.family_order.specs.Items.{stance_items, Family, IsWell, items, row_items, with_stance, doing, placing}
use Rattle.family_order.specs.Items.Stance.{Going, Apart}
use Rattle.family_order.specs.Items.Item.{Byte}
use Rattle.family_order.specs.Acts.{Does, Acts}
use Rattle.family_order.specs.Acts.Acts.{Keeps}
use Rattle.family_order.proofs.Rows.{split, split_items, change_items, ahead_items}
use Rattle.family_order.proofs.Wells.{well-doing, well-append}
use Rattle.family_order.proofs.Shown.{stance_now, stance_other, placed_row}
use Rattle.family_rest.specs.Opened.{opened_by}
use Rattle.node_line.specs.Stances.{under}

module _ (w : World) (tree : Tree) (f : Family) (vars : Vars) (n left : ℕ) (bytes stub : List ℕ) (m : Serving Answer) where
  some_front : bytes ≢ [] → front (Bytes bytes (Gives n left m Nil)) ≢ []
  unfolding front
  some_front k z = k (sym (append-nil bytes) ∙ z)

  own_items : items (Bytes bytes (Gives n left m Nil)) ≡ map Byte bytes ++ stance_items n (Going left m)
  unfolding items
  own_items = refl

  pub joins : IsWell f → Does f n (Apart (Bytes bytes (Gives n left m Nil)) stub) → KeepsBody w tree (Bytes bytes (Gives n left m Nil)) → bytes ≢ [] →
      (a : Acts w tree f vars (doing n (Going left m) (placing n bytes f)) vars) × (opened_by a ≡ 0)
  joins h d body some =
      let own = Bytes bytes (Gives n left m Nil) in
      let now = Going left m in
      let stance = with_stance n now f.stance in
      let p = split f.row.nodes n f.row.pieces h.row_is.lawful d.goes_on in
      let act : Acts w tree f vars (doing n (Going left m) (placing n bytes f)) vars = Keeps own stub (ahead_items f.stance p.ahead p.at) (row_items f.stance p.behind)
      (split_items n f.stance f.row.pieces p ∙ ap (λ s. ahead_items f.stance p.ahead p.at ++ (stance_items n s ++ row_items f.stance p.behind)) d.stands)
      (change_items n f.stance stance f.row.pieces p (λ q. longer bytes q ∷ []) (map Byte bytes ++ stance_items n now)
      (λ j u. stance_other n j now f.stance u) (placed_row n stance now bytes p.at (stance_now n now f.stance) p.place)
      ∙ ap (λ z. ahead_items f.stance p.ahead p.at ++ (z ++ row_items f.stance p.behind)) (sym own_items))
      refl (well-doing n now (placing n bytes f) (well-append n bytes f h) refl) body (front_some w tree (Bytes bytes (Gives n left m Nil)) (some_front some)) in
      (act, refl)

-- so too where its bytes wait one by one
module _ (w : World) (tree : Tree) (f : Family) (vars : Vars) (n left : ℕ) (stub : List ℕ) (m : Serving Answer) where
  pub under_front : (bytes : List ℕ) → bytes ≢ [] → front (under bytes (Gives n left m Nil)) ≢ []
  unfolding front under
  under_front [] k z = k refl
  under_front (b ∷ bytes) k z = cc

  under_items : (bytes : List ℕ) → items (under bytes (Gives n left m Nil)) ≡ map Byte bytes ++ stance_items n (Going left m)
  unfolding items under
  under_items [] = refl
  under_items (b ∷ bytes) = ap (λ rest. Byte b ∷ rest) (under_items bytes)

  pub joins_under : (bytes : List ℕ) → IsWell f → Does f n (Apart (under bytes (Gives n left m Nil)) stub) → KeepsBody w tree (under bytes (Gives n left m Nil)) → bytes ≢ [] →
      (a : Acts w tree f vars (doing n (Going left m) (placing n bytes f)) vars) × (opened_by a ≡ 0)
  joins_under bytes h d body some =
      let own = under bytes (Gives n left m Nil) in
      let now = Going left m in
      let stance = with_stance n now f.stance in
      let p = split f.row.nodes n f.row.pieces h.row_is.lawful d.goes_on in
      let act : Acts w tree f vars (doing n (Going left m) (placing n bytes f)) vars = Keeps own stub (ahead_items f.stance p.ahead p.at) (row_items f.stance p.behind)
      (split_items n f.stance f.row.pieces p ∙ ap (λ s. ahead_items f.stance p.ahead p.at ++ (stance_items n s ++ row_items f.stance p.behind)) d.stands)
      (change_items n f.stance stance f.row.pieces p (λ q. longer bytes q ∷ []) (map Byte bytes ++ stance_items n now)
      (λ j u. stance_other n j now f.stance u) (placed_row n stance now bytes p.at (stance_now n now f.stance) p.place)
      ∙ ap (λ z. ahead_items f.stance p.ahead p.at ++ (z ++ row_items f.stance p.behind)) (sym (under_items bytes)))
      refl (well-doing n now (placing n bytes f) (well-append n bytes f h) refl) body (front_some w tree (under bytes (Gives n left m Nil)) (under_front bytes some)) in
      (act, refl)
