-- What a node comes to where it is told what it asked for.
use Rattle.std.specs.Prelude.{◌≡◌, ℕ, List, ◌++◌}
use Rattle.acts.specs.Act.{Stat as Asked}
use Rattle.file_tree.specs.Tree.{IsFrom, Item, Trees, tree_of}
use Rattle.file_tree.specs.declared.job.Ask.{Ask}
use Rattle.file_tree.specs.declared.job.JobAnswer.{JobAnswer}
use Rattle.node_line.specs.request_meaning.Serving.{Serving, Answer}

-- A node was told what it asked for, which did this where its file still had a text, and does that now: its question is answered
-- by what is there, where its file is of the length and the date that were told; or a block of its file came.
pub data Hears (ask : Ask) (answer : JobAnswer) (file file' : Trees → List ℕ) (old new : List ℕ → Serving Answer) : Type 0 where
  Learned : (path : List ℕ) (k : Item → Serving Answer) (item : List ℕ → Item) → ((text : List ℕ) → old text ≡ Asked path k) → ((text : List ℕ) → new text ≡ k (item text)) →
      ((trees : Trees) → IsFrom trees ask answer → item (file' trees) ≡ trees (tree_of ask) path) → Hears ask answer file file' old new
  Came : (bytes : List ℕ) → ((text : List ℕ) → old (bytes ++ text) ≡ new text) → ((trees : Trees) → IsFrom trees ask answer → bytes ++ file' trees ≡ file trees) →
      Hears ask answer file file' old new
