-- Rows of what is still to come of a family.
use Rattle.std.specs.Prelude.{◌≡◌, ℕ, false, List, [], ◌∷◌, codes, refl, Some, if◌then◌else◌, ◌==◌}
use Rattle.acts.specs.Act.{Done, Write}
use Rattle.meaning_rows.proofs.Opened.{opened}
use Rattle.http_types.specs.declared.words.Method.TheVariants.{Get}
use Rattle.meaning_rows.proofs.Samples.{none, main_with, request_with}
use Rattle.meaning_rows.proofs.Documents.{documents}
use Rattle.meaning_rows.proofs.Cuts.{answer, two as includes}
use Rattle.meaning_rows.proofs.Nodes.{piece}
use Rattle.request_meaning.specs.Serving.{Serving, Answer}
use Rattle.request_meaning.specs.Replies.{main_script}
use Rattle.family_meaning.specs.Line.Line.{Nil, Bytes, Gives}
use Rattle.family_order.specs.Items.{Family, Stance, row_items, leaving}
use Rattle.family_order.specs.Items.Stance.{Going, Waiting, Apart, Hidden}
use Rattle.family_rest.specs.Still.{line_of, still, subs_still}

abbrev pub writes : List ℕ → Serving Answer
writes bytes = Write bytes (Done answer)

-- The root, which placed D before it opened a subrequest, still does this, and the subrequest that; of the subrequest these bytes
-- wait. A has left.
abbrev pub two : (root child : Stance) → (bytes : List ℕ) → Family
two root child bytes = record {
  row = record { pieces = record (piece 0 (codes "D")) { grows = false } ∷ piece 1 bytes ∷ piece 0 [] ∷ []; nodes = 2 };
  output = codes "A";
  stance = λ n. if n == 0 then root else child;
  root = 0;
}

abbrev pub body_of : Family → List ℕ
body_of f = (still documents none f []).body

-- what waits and what each node gives, in the order of the row, without what has left
row_two : body_of (two (Going 50 (writes (codes "E"))) (Going 49 (writes (codes "C"))) (codes "B")) ≡ codes "DBCE"
unfolding opened still line_of row_items
row_two = refl

-- without the first byte, once it has left
row_left : body_of (leaving 1 (two (Going 50 (writes (codes "E"))) (Going 49 (writes (codes "C"))) (codes "B"))) ≡ codes "BCE"
unfolding opened still line_of row_items
row_left = refl

-- the answer is the root's, whose place is the last
row_answer : (still documents none (two (Going 50 (writes [])) (Going 49 (Done (record answer { status = 404 }))) []) []).answer ≡ Some answer
unfolding opened still line_of row_items
row_answer = refl

-- a subrequest with a stub gives what its own line does, and its stub where that gives nothing
row_apart : body_of (two (Going 50 (writes (codes "E"))) (Apart (Bytes (codes "B") (Gives 1 49 (writes (codes "C")) Nil)) (codes "S")) []) ≡ codes "DBCE"
unfolding opened still line_of row_items
row_apart = refl

row_stub : body_of (two (Going 50 (writes (codes "E"))) (Apart (Gives 1 49 (writes []) Nil) (codes "S")) []) ≡ codes "DSE"
unfolding opened still line_of row_items
row_stub = refl

-- a node that waits goes on with the body that its own line comes to; a hidden one gives nothing
row_waits : body_of (two (Waiting (Bytes (codes "B") (Gives 1 49 (writes (codes "C")) Nil)) 50 (λ reply. writes reply.body)) Hidden []) ≡ codes "DBC"
unfolding opened still line_of row_items
row_waits = refl

-- ---- how many subrequests are still asked for

-- a page of two includes
abbrev pub page : Serving Answer
page = main_script documents (main_with Get (codes "/p.html") []) (request_with Get (codes "/p.html") [])

abbrev pub subs_of : Family → ℕ
subs_of f = subs_still documents includes f []

-- those of the root and those of its subrequest, which is opened itself
row_subs_root : subs_of (two (Going 50 page) (Going 49 (writes (codes "C"))) (codes "B")) ≡ 2
unfolding opened subs_still line_of row_items
row_subs_root = refl

row_subs_both : subs_of (two (Going 50 page) (Going 49 page) []) ≡ 4
unfolding opened subs_still line_of row_items
row_subs_both = refl

-- so too of a line of its own
row_subs_apart : subs_of (two (Going 50 page) (Apart (Gives 1 49 page Nil) (codes "S")) []) ≡ 4
unfolding opened subs_still line_of row_items
row_subs_apart = refl

row_subs_waits : subs_of (two (Waiting (Gives 1 49 page Nil) 50 (λ reply. page)) Hidden []) ≡ 4
unfolding opened subs_still line_of row_items
row_subs_waits = refl
