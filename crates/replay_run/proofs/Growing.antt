-- The files tell more and more.
use Rattle.std.proofs.Common.{◌≡◌, ℕ, ◌+◌, ◌-◌, ◌^◌, ◌<◌, ◌≤◌, Bool, true, false, cond, ◌&&◌, List, [], ◌∷◌, ◌++◌, refl, sym, ap, ◌∙◌, arith}
use Rattle.std.specs.Prelude.{nat_lt, nat_le, bytes_eq}
use Rattle.std.proofs.lemmas.Bool.Decides.{nat_tests}
use Rattle.std.proofs.Math.Path.{fun_ext}
use Rattle.file_tree.specs.Tree.{Item, Trees}
use Rattle.memory_outside.specs.declared.files.StoredItem.{StoredItem}
use Rattle.memory_outside.specs.Stored.{Replaces, item_of as stored_item}
use Rattle.ngx_outside.specs.Outside.{Grow}
use Rattle.replay_text.specs.declared.parts.EventLine.{EventLine}
use Rattle.replay_run.specs.Told.{Told, changed, next_number, told_next, told_after, told_in}

-- what is said of a number before the change stays
before : (from of : ℕ) (b : Bool) (item old : Item) → of < from → cond (nat_le from of && b) item old ≡ old
before from of b item old h = let t : nat_le from of ≡ false = grind (arith, nat_tests) in ap (λ x. cond (x && b) item old) t

pub grows : (path : List ℕ) (item : Item) (told : Told) → Grow told.newest (told_next path item told).newest told.trees (told_next path item told).trees
grows path item told = go (nat_lt told.newest (next_number told.newest)) refl
  where
    go : (t : Bool) → nat_lt told.newest (next_number told.newest) ≡ t →
        Grow told.newest (cond t (record { trees = changed (next_number told.newest) path item told.trees; newest = next_number told.newest }) told).newest told.trees (cond t (record { trees = changed (next_number told.newest) path item told.trees; newest = next_number told.newest }) told).trees
    go true is =
        let lt : told.newest < next_number told.newest = grind (arith, nat_tests) in
        record { rises = omega arith; same = λ of h q. before (next_number told.newest) of (bytes_eq path q) item (told.trees of q) (omega arith) }
    go false is = record { rises = omega arith; same = λ of h q. refl }

-- the number after one that isn't its type's last
pub next_above : (n : ℕ) → n < 2 ^ 64 - 1 → n < next_number n
unfolding next_number
next_above n h = omega arith

pub next_is : (n : ℕ) → n < 2 ^ 64 - 1 → n + 1 ≡ next_number n
unfolding next_number
next_is n h = omega arith

pub next_within : (n : ℕ) → n < next_number n → n < 2 ^ 64 - 1
unfolding next_number
next_within n h = omega arith

-- a change of the files, as a tree of each number
abbrev told_by : Trees → ℕ → Told
told_by trees newest = record { trees = trees; newest = newest }

pub told_same : (a b : Told) → a.trees ≡ b.trees → a.newest ≡ b.newest → a ≡ b
told_same a b e f = ap (λ (t : Trees). told_by t a.newest) e ∙ ap (λ (n : ℕ). told_by b.trees n) f

pub told_changed : (path : List ℕ) (item : StoredItem) (old new : Told) (from : ℕ) → old.newest < next_number old.newest → from ≡ next_number old.newest → new.newest ≡ from → Replaces from path item old.trees new.trees → new ≡ told_next path (stored_item item) old
told_changed path item old new from lt is number h =
    told_same new (record { trees = changed (next_number old.newest) path (stored_item item) old.trees; newest = next_number old.newest })
    (fun_ext (λ of. fun_ext (λ q. h of q)) ∙ ap (λ n. changed n path (stored_item item) old.trees) is) (number ∙ is)
    ∙ sym (let t : nat_lt old.newest (next_number old.newest) ≡ true = grind (arith, nat_tests) in ap (λ b. cond b (record { trees = changed (next_number old.newest) path (stored_item item) old.trees; newest = next_number old.newest }) old) t)

pub told_kept : (path : List ℕ) (item : Item) (told : Told) → next_number told.newest ≤ told.newest → told ≡ told_next path item told
told_kept path item told h = sym (let t : nat_lt told.newest (next_number told.newest) ≡ false = grind (arith, nat_tests) in ap (λ b. cond b (record { trees = changed (next_number told.newest) path item told.trees; newest = next_number told.newest }) told) t)

-- one line more
pub told_more : (lines : List EventLine) (l : EventLine) (told : Told) → told_in (lines ++ l ∷ []) told ≡ told_after l (told_in lines told)
told_more [] l told = refl
told_more (x ∷ lines) l told = told_more lines l (told_after x told)
