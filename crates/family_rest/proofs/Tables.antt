-- A step of a family by the table is such a step of its line; so each step keeps the subrequests that are opened or still asked for.
use Rattle.std.proofs.Common.{◌≡◌, ℕ, ◌+◌, true, List, ◌∷◌, [], ◌++◌, refl, sym, ap, subst, ◌∙◌}
use Rattle.file_tree.specs.Tree.{Tree}
use Rattle.acts.specs.Vars.{Vars, look}
use Rattle.acts.specs.Act.{Get, settled}
use Rattle.family_meaning.specs.request_meaning.Serving.{World, Serving, Reply, Answer}
use Rattle.family_meaning.specs.Line.{Line, joined}
use Rattle.family_meaning.specs.Moves.{Thinks as LineThinks, Moves}
use Rattle.family_meaning.specs.Moves.Thinks.{Here, Reads as LineReads, InWait, InStub}
use Rattle.family_meaning.specs.Moves.Moves.{Quietly, ByTable}
use Rattle.race_meaning.specs.Named.{IsRaceless}
use Rattle.race_meaning.specs.Laws.{AreFit}
use Rattle.family_order.specs.Items.{Stance, is_shown, stance_items, Family, items_of, IsWell, items, row_items, with_stance, doing}
use Rattle.family_order.specs.Items.Stance.{Going, Waiting, Apart}
use Rattle.family_order.specs.Acts.{Does, Acts}
use Rattle.family_order.specs.Acts.Acts.{Thinks, Reads, Learns, Places, Placed, Merges, Opens, Asks, Within, Hears, Ends, WithinStub, Keeps, Decides}
use Rattle.family_order.proofs.Rows.{split, split_items, change_items, ahead_items, at_place-same}
use Rattle.family_order.proofs.Places.{place, stance_line, items_stance, items-joined, thinks_past}
use Rattle.family_order.proofs.Shown.{stance_now, stance_other, node_row}
use Rattle.family_rest.specs.Still.{line_of, subs_still}
use Rattle.family_rest.specs.Opened.{opened_by, opened_move}
use Rattle.family_rest.proofs.Counts.{none_more, items_subs, line_subs}
use Rattle.family_rest.proofs.Lines.{row_line, subs_items}
use Rattle.family_rest.proofs.Quiets.{quiet_counts}
use Rattle.family_rest.proofs.Steady.{IsKept}
use Rattle.family_rest.proofs.Shares.{table_subs}

-- what the line becomes by the step, which has what the family has then
record Thought (f : Family) (vars : Vars) (g : Family) (vars' : Vars) : Type 0 where
  next : Line
  thinks : LineThinks (line_of (items_of f)) vars next vars'
  has : items next ≡ items_of g

thought : (w : World) (tree : Tree) (f : Family) (n : ℕ) (s now : Stance) (vars vars' : Vars) → IsWell f → is_shown s ≡ true → Does f n s
    → ((behind : Line) → LineThinks (stance_line n s behind) vars (stance_line n now behind) vars') → Thought f vars (doing n now f) vars'
thought w tree f n s now vars vars' h k d t =
    let p = split f.row.nodes n f.row.pieces h.row_is.lawful d.goes_on in
    let a = ahead_items f.stance p.ahead p.at in
    let b = row_items f.stance p.behind in
    let stance = with_stance n now f.stance in
    let at = place (line_of (items_of f)) a n s b k (row_line f.stance f.row.pieces ∙ split_items n f.stance f.row.pieces p ∙ ap (λ t. a ++ (stance_items n t ++ b)) d.stands) in
    let next = joined at.before (stance_line n now at.behind) in
    record {
      next = next;
      thinks = subst (λ l. LineThinks l vars next vars') (sym at.line_is) (thinks_past w tree at.before (stance_line n s at.behind) (stance_line n now at.behind) vars vars' (t at.behind));
      has = items-joined at.before (stance_line n now at.behind)
          ∙ ap (λ z. z ++ items (stance_line n now at.behind)) at.before_is
          ∙ ap (λ z. a ++ z) (items_stance n now at.behind ∙ ap (λ z. stance_items n now ++ z) at.behind_is)
          ∙ sym (change_items n f.stance stance f.row.pieces p (λ p. p ∷ []) (stance_items n now) (λ j u. stance_other n j now f.stance u) (node_row n stance now p.at (stance_now n now f.stance) p.place))
          ∙ ap (row_items stance) (at_place-same n f.row.pieces);
    }

module _ (w : World) (fit : AreFit w) (race : IsRaceless w.server) (tree : Tree) where
  by_table : (f : Family) (vars : Vars) (g : Family) (vars' : Vars) → IsKept w (line_of (items_of f)) vars → Thought f vars g vars' → subs_still w tree f vars ≡ 0 + subs_still w tree g vars'
  unfolding subs_still
  by_table f vars g vars' k t =
      table_subs w fit race tree (line_of (items_of f)) t.next vars vars' t.thinks k
      ∙ line_subs w tree t.next vars'
      ∙ ap (λ xs. items_subs w tree xs vars') t.has
      ∙ sym (subs_items w tree g vars')
      ∙ none_more (subs_still w tree g vars')

  within : (f : Family) → IsWell f → (n left : ℕ) (own own' : Line) (k : Reply → Serving Answer) (vars vars' : Vars) → IsKept w (line_of (items_of f)) vars → (d : Does f n (Waiting own left k)) → (m : Moves w tree own vars own' vars') →
      subs_still w tree f vars ≡ opened_move m + subs_still w tree (doing n (Waiting own' left k) f) vars'
  within f h n left _ _ k _ _ kept d (Quietly {line} {line'} {vars} q) = quiet_counts w tree f vars (doing n (Waiting line' left k) f) vars h (Within n d (Quietly q)) tt
  within f h n left _ _ k _ _ kept d (ByTable {line} {line'} {vars} {vars'} t) =
      by_table f vars (doing n (Waiting line' left k) f) vars' kept (thought w tree f n (Waiting line left k) (Waiting line' left k) vars vars' h refl d (λ behind. InWait t))

  within_stub : (f : Family) → IsWell f → (n : ℕ) (own own' : Line) (stub : List ℕ) (vars vars' : Vars) → IsKept w (line_of (items_of f)) vars → (d : Does f n (Apart own stub)) → (m : Moves w tree own vars own' vars') →
      subs_still w tree f vars ≡ opened_move m + subs_still w tree (doing n (Apart own' stub) f) vars'
  within_stub f h n _ _ stub _ _ kept d (Quietly {line} {line'} {vars} q) = quiet_counts w tree f vars (doing n (Apart line' stub) f) vars h (WithinStub n d (Quietly q)) tt
  within_stub f h n _ _ stub _ _ kept d (ByTable {line} {line'} {vars} {vars'} t) =
      by_table f vars (doing n (Apart line' stub) f) vars' kept (thought w tree f n (Apart line stub) (Apart line' stub) vars vars' h refl d (λ behind. InStub t))

  pub acts_count : (f : Family) (vars : Vars) (g : Family) (vars' : Vars) → IsWell f → IsKept w (line_of (items_of f)) vars → (a : Acts w tree f vars g vars') → subs_still w tree f vars ≡ opened_by a + subs_still w tree g vars'
  acts_count _ _ _ _ h k (Thinks {f} {vars} {left} {m} n d) =
      by_table f vars (doing n (Going left (settled m vars).0) f) (settled m vars).1 k (thought w tree f n (Going left m) (Going left (settled m vars).0) vars (settled m vars).1 h refl d (λ behind. Here))
  acts_count _ _ _ _ h k (Reads {f} {vars} {left} {name} {k = then} n d) =
      by_table f vars (doing n (Going left (then (look vars name))) f) vars k (thought w tree f n (Going left (Get name then)) (Going left (then (look vars name))) vars vars h refl d (λ behind. LineReads))
  acts_count f vars g vars' h k (Learns n d) = quiet_counts w tree f vars g vars' h (Learns n d) tt
  acts_count f vars g vars' h k (Places n some more d) = quiet_counts w tree f vars g vars' h (Places n some more d) tt
  acts_count f vars g vars' h k (Placed n d) = quiet_counts w tree f vars g vars' h (Placed n d) tt
  acts_count f vars g vars' h k (Merges n d) = quiet_counts w tree f vars g vars' h (Merges n d) tt
  acts_count f vars g vars' h k (Opens n d) = quiet_counts w tree f vars g vars' h (Opens n d) tt
  acts_count f vars g vars' h k (Asks n number d) = quiet_counts w tree f vars g vars' h (Asks n number d) tt
  acts_count _ _ _ _ h k (Within {f} {vars} {vars'} {own} {own'} {left} {k = then} n d m) = within f h n left own own' then vars vars' k d m
  acts_count f vars g vars' h k (Hears n reply d r) = quiet_counts w tree f vars g vars' h (Hears n reply d r) tt
  acts_count f vars g vars' h k (Ends n d e) = quiet_counts w tree f vars g vars' h (Ends n d e) tt
  acts_count _ _ _ _ h k (WithinStub {f} {vars} {vars'} {own} {own'} {stub} n d m) = within_stub f h n own own' stub vars vars' k d m
  acts_count f vars g vars' h k (Keeps own stub ahead behind a b o well body some) = quiet_counts w tree f vars g vars' h (Keeps own stub ahead behind a b o well body some) tt
  acts_count f vars g vars' h k (Decides n reply d r e) = quiet_counts w tree f vars g vars' h (Decides n reply d r e) tt
