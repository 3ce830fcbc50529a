-- The search in the table.
use Rattle.std.proofs.Common.{◌≡◌, ◌≢◌, ℕ, zero, suc, ◌+◌, ◌<◌, ◌≤◌, Bool, true, false, ◌&&◌, nat_eq, List, [], ◌∷◌, map, length, get_or, None, Some, refl, sym, ap, ◌∙◌, arith, if◌then◌else◌}
use Rattle.std.specs.declared.cmp.Ordering.{Ordering}
use Rattle.std.specs.declared.cmp.Ordering.TheVariants.{Less, Equal, Greater}
use Rattle.std.specs.Ordering.{nat_cmp, is_lt, ordering_index, ordering_reverse}
use Rattle.std.specs.Cmp.Lexicographic.{slice_cmp}
use Rattle.std.specs.List.Sorted.{IsSortedBy, IsNonDecreasingBy}
use Rattle.std.specs.List.{HoldsAt, AllWithin}
use Rattle.std.proofs.lemmas.Bool.{eqb-true, eq-eqb, and_parts}
use Rattle.std.proofs.lemmas.Cmp.{nat_list_cmp_total, tied_itself}
use Rattle.std.proofs.lemmas.List.{get_or_default}
use Rattle.std.proofs.lemmas.List.Sorted.{searchable_from_sorted}
use Rattle.conf_table.specs.declared.rule.DirectiveRule.{DirectiveRule}
use Rattle.std.proofs.lemmas.Map.Lookups.{exact_bytes}
use Rattle.conf_table.specs.declared.table.Row.{Row}
use Rattle.conf_table.specs.Table.{rows, same_text, rule_in, or_else, in_family, ignored, entry_of}

-- the order of names
abbrev pub name_cmp : List ℕ → List ℕ → Ordering
name_cmp = slice_cmp nat_cmp

pub same_text-refl : (xs : List ℕ) → same_text xs xs ≡ true
unfolding same_text
same_text-refl [] = refl
same_text-refl (x ∷ xs) = ap (λ t. if t then same_text xs xs else false) (eq-eqb x x refl) ∙ same_text-refl xs

pub same_text-is : (xs ys : List ℕ) → same_text xs ys ≡ true → xs ≡ ys
unfolding same_text
same_text-is [] [] e = refl
same_text-is [] (y ∷ ys) e = cc
same_text-is (x ∷ xs) [] e = cc
same_text-is (x ∷ xs) (y ∷ ys) e =
    elim (nat_eq x y) as (λ t. nat_eq x y ≡ t → (if t then same_text xs ys else false) ≡ true → x ∷ xs ≡ y ∷ ys) [
      | true ↦ λ t h. let a : x ≡ y = eqb-true x y t in let b : xs ≡ ys = same_text-is xs ys h in cc
      | false ↦ λ t h. cc
    ] refl e

is_lt-less : (o : Ordering) → is_lt o ≡ true → o ≡ Less
is_lt-less Less e = refl
is_lt-less Equal e = cc
is_lt-less Greater e = cc

less-not_equal : (xs ys : List ℕ) → name_cmp xs ys ≡ Less → xs ≡ ys → ⊥
less-not_equal xs ys e f =
    let h : name_cmp ys ys ≡ Less = ap (λ z. name_cmp z ys) (sym f) ∙ e in
    let k : name_cmp ys ys ≡ Equal = tied_itself nat_list_cmp_total ys in cc

less-not_more : (xs ys : List ℕ) → name_cmp xs ys ≡ Less → is_lt (name_cmp ys xs) ≡ false
less-not_more xs ys e = ap is_lt (nat_list_cmp_total.antisymm ys xs ∙ ap ordering_reverse e)

-- the same of pairs of a name and a rule
pair_ascends_from : List ℕ × DirectiveRule → List (List ℕ × DirectiveRule) → Bool
pair_ascends_from x [] = true
pair_ascends_from x (y ∷ ys) = is_lt (name_cmp x.0 y.0) && pair_ascends_from y ys

pub pair_ascends : List (List ℕ × DirectiveRule) → Bool
pair_ascends [] = true
pair_ascends (x ∷ xs) = pair_ascends_from x xs

module _ {X : Type 0} (key : X → List ℕ) (value : X → DirectiveRule) where
  -- each name is less than the next
  pub ascends_from : X → List X → Bool
  ascends_from x [] = true
  ascends_from x (y ∷ ys) = is_lt (name_cmp (key x) (key y)) && ascends_from y ys

  pub ascends : List X → Bool
  ascends [] = true
  ascends (x ∷ xs) = ascends_from x xs

  -- and so less than all names after it
  below-all : (x : X) (ys : List X) → ascends_from x ys ≡ true → (k : ℕ) (d : X) → k < length ys → name_cmp (key x) (key (get_or ys k d)) ≡ Less
  unfolding ascends_from
  below-all x [] e k d h = absurd (omega arith)
  below-all x (y ∷ ys) e zero d h = is_lt-less _ ((and_parts _ _ e).0)
  below-all x (y ∷ ys) e (suc k) d h =
      nat_list_cmp_total.trans (key x) (key y) (key (get_or ys k d)) (is_lt-less _ ((and_parts _ _ e).0)) (below-all y ys ((and_parts _ _ e).1) k d (omega arith))

  ascends-tail : (x : X) (ys : List X) → ascends_from x ys ≡ true → ascends ys ≡ true
  unfolding ascends_from ascends
  ascends-tail x [] e = refl
  ascends-tail x (y ∷ ys) e = (and_parts _ _ e).1

  pub sorted-ascends : (xs : List X) → ascends xs ≡ true → IsSortedBy (λ a b. is_lt (name_cmp (key a) (key b))) xs
  unfolding ascends
  sorted-ascends [] e k d l h = absurd (omega arith)
  sorted-ascends (x ∷ xs) e zero d l h = less-not_more (key x) (key (get_or xs 0 d)) (below-all x xs e 0 d (omega arith))
  sorted-ascends (x ∷ xs) e (suc k) d l h =
      let step : suc k + 1 ≡ suc (k + 1) = omega arith in
      ap (λ i. is_lt (name_cmp (key (get_or (x ∷ xs) i d)) (key (get_or xs k d)))) step ∙ sorted-ascends xs (ascends-tail x xs e) k d (omega arith) (omega arith)

  -- what a name that is at a place is answered by
  pub rule_in-found : (xs : List X) (name : List ℕ) → ascends xs ≡ true → (at : ℕ) (d : X) → at < length xs → key (get_or xs at d) ≡ name
      → rule_in (map (λ x. (key x, value x)) xs) name ≡ Some (value (get_or xs at d))
  unfolding rule_in ascends
  rule_in-found [] name e at d h f = absurd (omega arith)
  rule_in-found (x ∷ xs) name e zero d h f =
      ap (λ t. if t then Some (value x) else rule_in (map (λ x. (key x, value x)) xs) name) (ap (λ z. same_text z name) f ∙ same_text-refl name)
  rule_in-found (x ∷ xs) name e (suc at) d h f =
      elim (same_text (key x) name) as (λ t. same_text (key x) name ≡ t → (if t then Some (value x) else rule_in (map (λ x. (key x, value x)) xs) name) ≡ Some (value (get_or xs at d))) [
        | true ↦ λ t. absurd (less-not_equal (key x) (key (get_or xs at d)) (below-all x xs e at d (omega arith)) (same_text-is (key x) name t ∙ sym f))
        | false ↦ λ t. rule_in-found xs name (ascends-tail x xs e) at d (omega arith) f
      ] refl

  -- and one that is at none
  pub rule_in-missing : (xs : List X) (name : List ℕ) → ((k : ℕ) (d : X) → k < length xs → key (get_or xs k d) ≡ name → ⊥) → rule_in (map (λ x. (key x, value x)) xs) name ≡ None
  unfolding rule_in
  rule_in-missing [] name f = refl
  rule_in-missing (x ∷ xs) name f =
      elim (same_text (key x) name) as (λ t. same_text (key x) name ≡ t → (if t then Some (value x) else rule_in (map (λ x. (key x, value x)) xs) name) ≡ None) [
        | true ↦ λ t. absurd (f 0 x (omega arith) (same_text-is (key x) name t))
        | false ↦ λ t. rule_in-missing xs name (λ k d h. f (suc k) d (omega arith))
      ] refl

  pairs-ascend_from : (x : X) (xs : List X) → pair_ascends_from (key x, value x) (map (λ x. (key x, value x)) xs) ≡ ascends_from x xs
  unfolding ascends_from pair_ascends_from
  pairs-ascend_from x [] = refl
  pairs-ascend_from x (y ∷ ys) = ap (λ t. is_lt (name_cmp (key x) (key y)) && t) (pairs-ascend_from y ys)

  pub pairs-ascend : (xs : List X) → pair_ascends (map (λ x. (key x, value x)) xs) ≡ ascends xs
  unfolding ascends pair_ascends
  pairs-ascend [] = refl
  pairs-ascend (x ∷ xs) = pairs-ascend_from x xs

  -- the premise of a binary search
  pub searchable : (xs : List X) (name : List ℕ) → ascends xs ≡ true → IsNonDecreasingBy (λ x. ordering_index (name_cmp (key x) name)) xs
  searchable xs name e = searchable_from_sorted nat_list_cmp_total key xs name (sorted-ascends xs e)

pub rows-ascend : pair_ascends rows ≡ true
unfolding pair_ascends rows pair_ascends_from
rows-ascend = refl

abbrev pub key_of : Row → List ℕ
key_of row = row.name.now

abbrev pub value_of : Row → DirectiveRule
value_of row = row.rule

table-ascends : (table : List Row) → map (λ row. (key_of row, value_of row)) table ≡ rows → ascends key_of value_of table ≡ true
table-ascends table e = sym (pairs-ascend key_of value_of table) ∙ ap pair_ascends e ∙ rows-ascend

-- a search that found a row
pub entry-found : (table : List Row) (name : List ℕ) (at : ℕ) (d : Row) → map (λ row. (row.name.now, row.rule)) table ≡ rows → at < length table
    → HoldsAt (λ row. slice_cmp nat_cmp row.name.now name ≡ Equal) table at → Some ((get_or table at d).rule) ≡ entry_of name
unfolding entry_of
entry-found table name at d e h f =
    let there : rule_in (map (λ row. (key_of row, value_of row)) table) name ≡ Some ((get_or table at d).rule)
    = rule_in-found key_of value_of table name (table-ascends table e) at d h (exact_bytes _ _ (f d)) in
    sym (ap (λ r. or_else r (if in_family name then Some ignored else None)) (ap (λ t. rule_in t name) (sym e) ∙ there))

-- the rows are in the order of their names
pub table-searchable : (table : List Row) (name : List ℕ) → map (λ row. (row.name.now, row.rule)) table ≡ rows → IsNonDecreasingBy (λ row. ordering_index (slice_cmp nat_cmp row.name.now name)) table
table-searchable table name e = searchable key_of value_of table name (table-ascends table e)

row-missing : (table : List Row) (name : List ℕ) → map (λ row. (row.name.now, row.rule)) table ≡ rows
    → AllWithin (λ row. slice_cmp nat_cmp row.name.now name ≢ Equal) table 0 (length table) → rule_in rows name ≡ None
row-missing table name e f =
    ap (λ t. rule_in t name) (sym e)
    ∙ rule_in-missing key_of value_of table name (λ k d h g. f k d (omega arith) h (ap (λ z. name_cmp z name) g ∙ tied_itself nat_list_cmp_total name))

-- a search that found none
pub entry-missing : (table : List Row) (name : List ℕ) → map (λ row. (row.name.now, row.rule)) table ≡ rows
    → AllWithin (λ row. slice_cmp nat_cmp row.name.now name ≢ Equal) table 0 (length table) → in_family name ≡ false → None ≡ entry_of name
unfolding entry_of
entry-missing table name e f g =
    sym (ap (λ r. or_else r (if in_family name then Some ignored else None)) (row-missing table name e f) ∙ ap (λ t. if t then Some ignored else None) g)

pub entry-family : (table : List Row) (name : List ℕ) → map (λ row. (row.name.now, row.rule)) table ≡ rows
    → AllWithin (λ row. slice_cmp nat_cmp row.name.now name ≢ Equal) table 0 (length table) → in_family name ≡ true → Some ignored ≡ entry_of name
unfolding entry_of
entry-family table name e f g =
    sym (ap (λ r. or_else r (if in_family name then Some ignored else None)) (row-missing table name e f) ∙ ap (λ t. if t then Some ignored else None) g)

index-less : (o : Ordering) → ordering_index o ≤ 0 → o ≡ Less
index-less Less h = refl
index-less Equal h = absurd (omega arith)
index-less Greater h = absurd (omega arith)

index-greater : (o : Ordering) → 2 ≤ ordering_index o → o ≡ Greater
index-greater Less h = absurd (omega arith)
index-greater Equal h = absurd (omega arith)
index-greater Greater h = refl

-- in rows that are in order, those up to a lesser one are less, and those from a greater one on are greater

pub less-up_to : (table : List Row) (name : List ℕ) (middle k : ℕ) (d e : Row) → IsNonDecreasingBy (λ row. ordering_index (slice_cmp nat_cmp row.name.now name)) table
    → middle < length table → name_cmp ((get_or table middle e).name.now) name ≡ Less → k ≤ middle → name_cmp ((get_or table k d).name.now) name ≡ Less
less-up_to table name middle k d e ordered h f g =
    let rise : ordering_index (name_cmp ((get_or table k d).name.now) name) ≤ ordering_index (name_cmp ((get_or table middle d).name.now) name) = ordered k middle d g h in
    let zero_there : ordering_index (name_cmp ((get_or table middle d).name.now) name) ≡ 0
    = ap (λ row. ordering_index (name_cmp (row.name.now) name)) (get_or_default table middle d e h) ∙ ap ordering_index f in
    index-less _ (omega arith)

pub greater-from : (table : List Row) (name : List ℕ) (middle k : ℕ) (d e : Row) → IsNonDecreasingBy (λ row. ordering_index (slice_cmp nat_cmp row.name.now name)) table
    → k < length table → name_cmp ((get_or table middle e).name.now) name ≡ Greater → middle ≤ k → name_cmp ((get_or table k d).name.now) name ≡ Greater
greater-from table name middle k d e ordered h f g =
    let rise : ordering_index (name_cmp ((get_or table middle d).name.now) name) ≤ ordering_index (name_cmp ((get_or table k d).name.now) name) = ordered middle k d g h in
    let two_there : ordering_index (name_cmp ((get_or table middle d).name.now) name) ≡ 2
    = ap (λ row. ordering_index (name_cmp (row.name.now) name)) (get_or_default table middle d e (omega arith)) ∙ ap ordering_index f in
    index-greater _ (omega arith)
