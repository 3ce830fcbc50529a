-- The first tree of a script, line by line.
use Rattle.std.proofs.Common.{◌≡◌, ℕ, ◌+◌, ◌<◌, true, cond, ◌&&◌, List, [], ◌∷◌, ◌++◌, length, take, get_or, refl, sym, ap, ◌∙◌, arith}
use Rattle.std.specs.Prelude.{nat_le, bytes_eq}
use Rattle.std.proofs.lemmas.Bool.Decides.{nat_tests}
use Rattle.std.proofs.lemmas.List.{take_more}
use Rattle.std.proofs.Math.Path.{fun_ext}
use Rattle.file_tree.specs.Tree.{Item, Nothing, Trees}
use Rattle.memory_outside.specs.declared.files.StoredItem.{StoredItem}
use Rattle.memory_outside.specs.Stored.{Replaces, item_of as stored_item}
use Rattle.replay_text.specs.declared.parts.TreeLine.{TreeLine}
use Rattle.replay_run.specs.Told.{Told, path_of, item_of, item_by, tree_by, told_first}
use Rattle.replay_run.proofs.Growing.{told_same}

-- a line after the others
item_more : (below : Item) (xs : List TreeLine) (l : TreeLine) (q : List ℕ) → item_by below (xs ++ l ∷ []) q ≡ cond (bytes_eq (path_of l) q) (item_of l) (item_by below xs q)
item_more below [] l q = refl
item_more below (x ∷ xs) l q = item_more (cond (bytes_eq (path_of x) q) (item_of x) below) xs l q

pub tree_more : (lines : List TreeLine) (i : ℕ) (l : TreeLine) (from : ℕ) (path : List ℕ) (item : StoredItem) (old new : Trees) → i < length lines → l ≡ get_or lines i l → from ≡ 0 → path ≡ path_of l → stored_item item ≡ item_of l → Replaces from path item old new →
    ((of : ℕ) (q : List ℕ) → old of q ≡ tree_by (take i lines) q) → (of : ℕ) (q : List ℕ) → new of q ≡ tree_by (take (i + 1) lines) q
tree_more lines i l from path item old new h is zero pe ie r inv of q =
    r of q
    ∙ ap (λ t. cond (t && bytes_eq path q) (stored_item item) (old of q)) (let t : nat_le from of ≡ true = grind (arith, nat_tests) in t)
    ∙ ap (λ p. cond (bytes_eq p q) (stored_item item) (old of q)) pe
    ∙ ap (λ s. cond (bytes_eq (path_of l) q) s (old of q)) ie
    ∙ ap (λ o. cond (bytes_eq (path_of l) q) (item_of l) o) (inv of q)
    ∙ sym (item_more Nothing (take i lines) l q)
    ∙ ap (λ xs. tree_by xs q) (sym (take_more lines i l h ∙ ap (λ x. take i lines ++ x ∷ []) (sym is)))

pub told_begins : (lines : List TreeLine) (told : Told) → told.newest ≡ 0 → ((of : ℕ) (q : List ℕ) → told.trees of q ≡ tree_by lines q) → told ≡ told_first lines
told_begins lines told e h = told_same told (told_first lines) (fun_ext (λ of. fun_ext (λ q. h of q))) e
