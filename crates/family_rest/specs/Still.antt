-- What is still to come of a family: what its row has, in its order, where each node that goes on runs to its end.
use Rattle.std.specs.Prelude.{ℕ, List, [], ◌∷◌, None}
use Rattle.file_tree.specs.Tree.{Tree}
use Rattle.acts.specs.Vars.{Vars}
use Rattle.family_meaning.specs.request_meaning.Serving.{World}
use Rattle.family_meaning.specs.Line.{Line, Left, rest}
use Rattle.family_meaning.specs.Line.Line.{Nil, Bytes, Gives, Waits, Stubs}
use Rattle.family_meaning.specs.Left.{subs_left}
use Rattle.family_order.specs.Items.{Item, Family, items_of}
use Rattle.family_order.specs.Items.Stance.{Going, Waiting, Apart, Hidden}
use Rattle.family_order.specs.Items.Item.{Byte, Node, Stub}

-- the line that has these, one after another
unfoldable pub line_of : List Item → Line
line_of [] = Nil
line_of (Byte b ∷ xs) = Bytes (b ∷ []) (line_of xs)
line_of (Node n (Going left m) ∷ xs) = Gives n left m (line_of xs)
line_of (Node n (Waiting own left k) ∷ xs) = Waits n own left k (line_of xs)
line_of (Node n (Apart own stub) ∷ xs) = Stubs own stub (line_of xs)
line_of (Node n Hidden ∷ xs) = line_of xs
line_of (Stub own stub ∷ xs) = Stubs own stub (line_of xs)

-- What is still to come, by what is known of the files and the table as it is now: an answer, and bytes. Those that have left are
-- not among them.
unfoldable pub still : World → Tree → Family → Vars → Left
still w tree f vars = rest w tree (line_of (items_of f)) None vars

-- How many subrequests are still asked for, those that are opened not among them.
unfoldable pub subs_still : World → Tree → Family → Vars → ℕ
subs_still w tree f vars = subs_left w tree (line_of (items_of f)) vars
