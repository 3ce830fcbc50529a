-- What is where, as items are stored one after another.
use Rattle.std.proofs.Common.{◌≡◌, ℕ, suc, ◌-◌, ◌<◌, ◌≤◌, true, false, List, [], ◌∷◌, ◌++◌, length, take, get_or, refl, sym, ap, ◌∙◌, arith}
use Rattle.std.specs.Prelude.{if◌then◌else◌}
use Rattle.std.proofs.Math.Seq.{take-suc}
use Rattle.file_tree.specs.Tree.{Item, Nothing}
use Rattle.memory_outside.specs.Stored.{item_over, item_in, item_of, is_at, Replaces}
use Rattle.memory_outside.specs.declared.files.StoredItem.{StoredItem}
use Rattle.memory_outside.specs.declared.files.Stored.{Stored}

pub item_over_empty : (below : Item) (of : ℕ) (path : List ℕ) → item_over below [] of path ≡ below
unfolding item_over
item_over_empty below of path = refl

-- what is stored last is looked at first
pub item_over_push : (below : Item) (xs : List Stored) (s : Stored) (of : ℕ) (path : List ℕ) →
    item_over below (xs ++ s ∷ []) of path ≡ (if is_at of path s then item_of s.item else item_over below xs of path)
unfolding item_over
item_over_push below [] s of path = refl
item_over_push below (x ∷ xs) s of path = item_over_push (if is_at of path x then item_of x.item else below) xs s of path

-- the last of the first k
pub last_of : (items : List Stored) (k : ℕ) (s : Stored) (of : ℕ) (path : List ℕ) → 0 < k → k ≤ length items → s ≡ get_or items (k - 1) s →
    item_in (take k items) of path ≡ (if is_at of path s then item_of s.item else item_in (take (k - 1) items) of path)
last_of items k s of path some within is = ap (λ xs. item_in xs of path) split ∙ item_over_push Nothing (take (k - 1) items) s of path
  where
    split : take k items ≡ take (k - 1) items ++ s ∷ []
    split =
        ap (λ n. take n items) (let e : k ≡ suc (k - 1) = omega arith in e)
        ∙ take-suc items (k - 1) s (omega arith) ∙ ap (λ x. take (k - 1) items ++ (x ∷ [])) (sym is)

-- where it is the one that is sought
pub found_last : (items : List Stored) (k : ℕ) (s : Stored) (of : ℕ) (path : List ℕ) → 0 < k → k ≤ length items → s ≡ get_or items (k - 1) s →
    is_at of path s ≡ true → item_in (take k items) of path ≡ item_of s.item
found_last items k s of path some within is h = last_of items k s of path some within is ∙ ap (λ b. if b then item_of s.item else item_in (take (k - 1) items) of path) h

-- and where it isn't
pub passed_last : (items : List Stored) (k : ℕ) (s : Stored) (of : ℕ) (path : List ℕ) → 0 < k → k ≤ length items → s ≡ get_or items (k - 1) s →
    is_at of path s ≡ false → item_in (take k items) of path ≡ item_in (take (k - 1) items) of path
passed_last items k s of path some within is h = last_of items k s of path some within is ∙ ap (λ b. if b then item_of s.item else item_in (take (k - 1) items) of path) h

-- what is stored from a number on replaces what stood there
pub store_replaces : (items : List Stored) (path : List ℕ) (item : StoredItem) (from : ℕ) →
    Replaces from path item (item_in items) (item_in (items ++ record { path = path; item = item; from = from } ∷ []))
store_replaces items path item from of q = item_over_push Nothing items (record { path = path; item = item; from = from }) of q

-- none are in the first none
pub none_in_front : (items : List Stored) (k of : ℕ) (path : List ℕ) → k ≤ 0 → item_in (take k items) of path ≡ Nothing
none_in_front items k of path h =
    ap (λ n. item_in (take n items) of path) (let e : k ≡ 0 = omega arith in e) ∙ item_over_empty Nothing of path
