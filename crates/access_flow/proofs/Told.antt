-- What is told of a file, and what an outcome prepares.
use Rattle.std.proofs.Common.{◌≡◌, ℕ, true, false, List, [], ◌∷◌, length, refl, sym, ap, ◌∙◌, suc, zero}
use Rattle.file_tree.specs.Tree.{AFile, AFolder, ALocked, Item, Nothing, is_fitting, node_of, text_of}
use Rattle.file_tree.specs.declared.job.Ask.{Ask}
use Rattle.file_tree.specs.declared.job.Ask.TheVariants as ask
use Rattle.file_tree.specs.declared.job.JobAnswer.{JobAnswer}
use Rattle.file_tree.specs.declared.job.JobAnswer.TheVariants as answer
use Rattle.file_tree.specs.declared.job.Node.{Node}
use Rattle.file_tree.specs.declared.job.Node.TheVariants as node
use Rattle.request_meaning.specs.Serving.{World, Asked, Standing}
use Rattle.node_turn.specs.request_phases.Rounds.{prepared_as}
use Rattle.node_turn.specs.request_phases.declared.state.Conclusion.{Conclusion}
use Rattle.node_turn.specs.request_phases.declared.state.Conclusion.TheVariants as outcomes
use Rattle.node_turn.specs.request_reply.Replies.{FitsFile}
use Rattle.request_flow.specs.Flows.{file_length, is_stat, told_item}
use Rattle.request_flow.specs.Padded.{padded}
use Rattle.request_flow.specs.Sents.{with_length}

padded_length : (n : ℕ) (xs : List ℕ) → length (padded n xs) ≡ n
unfolding padded
padded_length zero xs = refl
padded_length (suc n) [] = ap suc (padded_length n [])
padded_length (suc n) (x ∷ xs) = ap suc (padded_length n xs)

padded_whole : (xs : List ℕ) → padded (length xs) xs ≡ xs
unfolding padded
padded_whole [] = refl
padded_whole (x ∷ xs) = ap (λ r. x ∷ r) (padded_whole xs)

padded_none : (xs : List ℕ) → padded 0 xs ≡ []
unfolding padded
padded_none xs = refl

-- what was told of an item changes nothing of it
pub told_same : (item : Item) (node : Node) → node ≡ node_of item → told_item node item ≡ item
told_same (AFile bytes date) node e = ap (λ n. told_item n (AFile bytes date)) e ∙ ap (λ b. AFile b date) (padded_whole bytes)
told_same AFolder node e = ap (λ n. told_item n AFolder) e
told_same ALocked node e = ap (λ n. told_item n ALocked) e
told_same Nothing node e = ap (λ n. told_item n Nothing) e

-- what is told of an item is there
pub told_node : (node : Node) (item : Item) → node_of (told_item node item) ≡ node
told_node (node.File len date) item = ap (λ n. node.File n date) (padded_length len (text_of item))
told_node node.Folder item = refl
told_node node.Locked item = refl
told_node node.Missing item = refl

told_text : (node : Node) (item : Item) → text_of (told_item node item) ≡ padded (file_length node) (text_of item)
told_text (node.File len date) item = refl
told_text node.Folder item = sym (padded_none (text_of item))
told_text node.Locked item = sym (padded_none (text_of item))
told_text node.Missing item = sym (padded_none (text_of item))

pub told_size : (node : Node) (item : Item) → length (text_of (told_item node item)) ≡ file_length node
told_size node item = ap length (told_text node item) ∙ padded_length (file_length node) (text_of item)

-- how long the file was said to be before makes no difference
pub same_outcome : (w : World) (a : Asked) (s : Standing) (bytes : List ℕ) (len : ℕ) (o : Conclusion) → prepared_as w a s bytes (with_length len o) ≡ prepared_as w a s bytes o
same_outcome w a s bytes len (outcomes.Text code text) = refl
same_outcome w a s bytes len (outcomes.File told date) = refl
same_outcome w a s bytes len (outcomes.Page code) = refl
same_outcome w a s bytes len (outcomes.Redirect code to) = refl
same_outcome w a s bytes len outcomes.Close = refl

pub fits_told : (bytes : List ℕ) (len : ℕ) (o : Conclusion) → length bytes ≡ len → FitsFile (with_length len o) bytes
fits_told bytes len (outcomes.Text code text) e = tt
fits_told bytes len (outcomes.File told date) e = e
fits_told bytes len (outcomes.Page code) e = tt
fits_told bytes len (outcomes.Redirect code to) e = tt
fits_told bytes len outcomes.Close e = tt

-- a job that asks what is at a path isn't answered with bytes
pub no_bytes : (job : Ask) (given : JobAnswer) (bytes : _) → is_stat job ≡ true → is_fitting job given ≡ true → given ≡ answer.Read bytes → ⊥
no_bytes (ask.Stat path of) given bytes stat fits is = never (sym (ap (is_fitting (ask.Stat path of)) is) ∙ fits)
  where
    never : false ≡ true → ⊥
    never h = cc
no_bytes (ask.Read path start count of) given bytes stat fits is = never stat
  where
    never : false ≡ true → ⊥
    never h = cc
