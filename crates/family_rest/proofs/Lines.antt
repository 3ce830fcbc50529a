-- The line of what a family has.
use Rattle.std.proofs.Common.{◌≡◌, ℕ, true, false, List, [], ◌∷◌, ◌++◌, map, None, refl, ap, ◌∙◌, if◌then◌else◌}
use Rattle.file_tree.specs.Tree.{Tree}
use Rattle.acts.specs.Vars.{Vars}
use Rattle.family_meaning.specs.request_meaning.Serving.{World}
use Rattle.postpone_filter.specs.Row.{Piece}
use Rattle.family_meaning.specs.Line.{Line}
use Rattle.family_order.specs.Items.{Stance, stance_items, Item, Family, Shows, items_of, items, row_items}
use Rattle.family_order.specs.Items.Stance.{Going, Waiting, Apart, Hidden}
use Rattle.family_order.specs.Items.Item.{Byte}
use Rattle.family_order.proofs.Rests.{items_rest, line_rest}
use Rattle.family_rest.specs.Still.{line_of, still, subs_still}
use Rattle.family_rest.proofs.Counts.{items_subs, line_subs}

bytes_line : (bytes : List ℕ) (xs : List Item) → items (line_of (map Byte bytes ++ xs)) ≡ map Byte bytes ++ items (line_of xs)
unfolding line_of items
bytes_line [] xs = refl
bytes_line (b ∷ bytes) xs = ap (λ z. Byte b ∷ z) (bytes_line bytes xs)

stance_line : (n : ℕ) (s : Stance) (xs : List Item) → items (line_of (stance_items n s ++ xs)) ≡ stance_items n s ++ items (line_of xs)
unfolding line_of items
stance_line n (Going left m) xs = refl
stance_line n (Waiting own left k) xs = refl
stance_line n (Apart own stub) xs = refl
stance_line n Hidden xs = refl

none_line : items (line_of []) ≡ []
unfolding line_of items
none_line = refl

-- a row has what the line of it has
pub row_line : (stance : ℕ → Stance) (ps : List Piece) → items (line_of (row_items stance ps)) ≡ row_items stance ps
unfolding row_items
row_line stance [] = none_line
row_line stance (p ∷ ps) =
    bytes_line p.bytes ((if p.grows then stance_items p.node (stance p.node) else []) ++ row_items stance ps)
    ∙ ap (λ z. map Byte p.bytes ++ z) (elim p.grows as (λ g. items (line_of ((if g then stance_items p.node (stance p.node) else []) ++ row_items stance ps)) ≡ (if g then stance_items p.node (stance p.node) else []) ++ row_items stance ps) [
      | true ↦ stance_line p.node (stance p.node) (row_items stance ps) ∙ ap (λ z. stance_items p.node (stance p.node) ++ z) (row_line stance ps)
      | false ↦ row_line stance ps
    ])

-- the line that a family shows, with what has left
abbrev pub shown : Family → Line
shown f = line_of (map Byte f.output ++ items_of f)

pub shows_it : (f : Family) → Shows f (shown f)
shows_it f = bytes_line f.output (items_of f) ∙ ap (λ z. map Byte f.output ++ z) (row_line f.stance f.row.pieces)

pub still_items : (w : World) (tree : Tree) (f : Family) (vars : Vars) → still w tree f vars ≡ items_rest w tree (items_of f) None vars
unfolding still
still_items w tree f vars = line_rest w tree (line_of (items_of f)) None vars ∙ ap (λ xs. items_rest w tree xs None vars) (row_line f.stance f.row.pieces)

pub subs_items : (w : World) (tree : Tree) (f : Family) (vars : Vars) → subs_still w tree f vars ≡ items_subs w tree (items_of f) vars
unfolding subs_still
subs_items w tree f vars = line_subs w tree (line_of (items_of f)) vars ∙ ap (λ xs. items_subs w tree xs vars) (row_line f.stance f.row.pieces)
