-- Lines that are among others, and lists of lines that were gone through.
use Rattle.std.proofs.Common.{◌≡◌, ℕ, zero, suc, ◌+◌, ◌==◌, ◌||◌, ◌&&◌, Bool, true, false, List, [], ◌∷◌, ◌++◌, length, drop, map, Option, None, Some, slice_get, slice_set, Contains, ◌↔◌, refl, ap, sym, ◌∙◌, subst, ◌⊎◌, inl, inr, ⊎_elim, arith}
use Rattle.std.proofs.lemmas.Bool.{eqb-true, false≢true}
use Rattle.std.proofs.lemmas.Bool.Decides.{nat_tests}
use Rattle.std.proofs.lemmas.List.Folds.{list_any-append}
use Rattle.source_lines.specs.declared.line.Line.{Line}
use Rattle.site_model.specs.declared.site.Site.{Site}
use Rattle.site_views.specs.Values.{Text, IndexName, PageRule}
use Rattle.site_whole.specs.Whole.{default_index, index_at, pages_at, auth_sets_at}
use Rattle.race_meaning.specs.Reads.{in_text, in_target}
use Rattle.race_check.specs.declared.listed.ListKind.{ListKind}
use Rattle.race_check.specs.declared.listed.ListKind.TheVariants as kinds
use Rattle.race_check.proofs.Lists.{or_false}
use Rattle.race_check.proofs.Shared.{any_at, any_from}
use Rattle.race_places.specs.declared.index.LineIndex.{LineIndex}
use Rattle.race_places.specs.declared.marks.Mark.{Mark}
use Rattle.race_places.specs.Index.{at, same_line, is_among, Gains}
use Rattle.race_places.specs.Marks.{same_kind, is_mark, is_gone, list_reads, AreThere}
use Rattle.race_places.specs.Places.{lines_of, over_both, list_at}

-- ---- a line among others

same_is : (a b : Line) → same_line a b ≡ true → a ≡ b
same_is a b same = grind (arith, nat_tests, same)

same_self : (a : Line) → same_line a a ≡ true
same_self a = grind (arith, nat_tests)

to_among : (xs : List Line) (l : Line) → Contains xs l → is_among l xs ≡ true
to_among xs l h = any_at (same_line l) xs l h.0 h.1 h.2 (same_self l)

from_among : (xs : List Line) (l : Line) → is_among l xs ≡ true → Contains xs l
from_among xs l e =
    let r = any_from (same_line l) xs e in
    subst (Contains xs) (sym (same_is l r.0 r.2)) r.1

pub same_lines : (xs ys : List Line) → ((l : Line) → is_among l xs ≡ is_among l ys) → (l : Line) → Contains xs l ↔ Contains ys l
same_lines xs ys e l = (λ h. from_among ys l (sym (e l) ∙ to_among xs l h), λ h. from_among xs l (e l ∙ to_among ys l h))

pub among_both : (line : Line) (xs ys : List Line) → is_among line (xs ++ ys) ≡ (is_among line xs || is_among line ys)
among_both line xs ys = list_any-append (same_line line) xs ys

turned : (a b c : Bool) → ((a || b) || c) ≡ (a || (b || c))
turned true b c = refl
turned false b c = refl

-- ---- an index that has grown

module _ (old new : LineIndex) (f : List ℕ → List Line) where
  pub gains_by : ((name : List ℕ) → at new name ≡ at old name ++ f name) → Gains old new f
  gains_by e = λ name line. ap (is_among line) (e name) ∙ among_both line (at old name) (f name)

  pub gains_same : (g : List ℕ → List Line) → ((name : List ℕ) → f name ≡ g name) → Gains old new f → Gains old new g
  gains_same g e gains = λ name line. gains name line ∙ ap (λ x. is_among line (at old name) || is_among line x) (e name)

  pub gains_both : (last : LineIndex) (g : List ℕ → List Line) → Gains old new f → Gains new last g → Gains old last (λ name. f name ++ g name)
  gains_both last g p q = λ name line.
      q name line
      ∙ ap (λ x. x || is_among line (g name)) (p name line)
      ∙ turned (is_among line (at old name)) (is_among line (f name)) (is_among line (g name))
      ∙ ap (λ x. is_among line (at old name) || x) (sym (among_both line (f name) (g name)))

module _ (index : LineIndex) (f : List ℕ → List Line) where
  pub gains_none : ((name : List ℕ) → f name ≡ []) → Gains index index f
  gains_none none = λ name line.
      sym (ap (λ x. is_among line (at index name) || is_among line x) (none name) ∙ or_false (is_among line (at index name)))

  -- lines that are there
  pub gains_there : ((name : List ℕ) (line : Line) → is_among line (f name) ≡ true → is_among line (at index name) ≡ true) → Gains index index f
  gains_there there = λ name line. kept (is_among line (at index name)) (is_among line (f name)) (there name line)
    where
      kept : (a b : Bool) → (b ≡ true → a ≡ true) → a ≡ (a || b)
      kept true b h = refl
      kept false true h = h refl
      kept false false h = refl

-- ---- lists that were gone through

same_kind_is : (a b : ListKind) → same_kind a b ≡ true → a ≡ b
same_kind_is kinds.Index kinds.Index e = refl
same_kind_is kinds.Index kinds.Pages e = absurd (false≢true e)
same_kind_is kinds.Index kinds.AuthSets e = absurd (false≢true e)
same_kind_is kinds.Pages kinds.Index e = absurd (false≢true e)
same_kind_is kinds.Pages kinds.Pages e = refl
same_kind_is kinds.Pages kinds.AuthSets e = absurd (false≢true e)
same_kind_is kinds.AuthSets kinds.Index e = absurd (false≢true e)
same_kind_is kinds.AuthSets kinds.Pages e = absurd (false≢true e)
same_kind_is kinds.AuthSets kinds.AuthSets e = refl

and_left : (a b : Bool) → (a && b) ≡ true → a ≡ true
and_left true b e = refl
and_left false b e = e

and_right : (a b : Bool) → (a && b) ≡ true → b ≡ true
and_right true b e = e
and_right false b e = absurd (false≢true e)

put_at : {X : Type 0} (xs : List X) (i j : ℕ) (x : X) → (slice_get (slice_set xs i x) j ≡ slice_get xs j) ⊎ ((i ≡ j) × (slice_get (slice_set xs i x) j ≡ Some x))
put_at [] i j x = inl refl
put_at (y ∷ ys) zero zero x = inr (refl, refl)
put_at (y ∷ ys) zero (suc j) x = inl refl
put_at (y ∷ ys) (suc i) zero x = inl refl
put_at (y ∷ ys) (suc i) (suc j) x = ⊎_elim inl (λ r. inr (ap suc r.0, r.1)) (put_at ys i j x)

-- a list of no values, or without lines, reads nothing
nothing_left : {A : Type 0} (test : A → Bool) (items : List A) → lines_of test items [] ≡ []
nothing_left test [] = refl
nothing_left test (a ∷ items) = refl

pub no_lines : (site : Site) (kind : ListKind) (name : List ℕ) (values : Option ℕ) → list_reads site kind name values [] ≡ []
no_lines site kinds.Index name values = nothing_left (λ (i : IndexName). in_text name i.text) (index_at site values)
no_lines site kinds.Pages name values = nothing_left (λ (r : PageRule). in_target name r.target) (pages_at site values)
no_lines site kinds.AuthSets name values = nothing_left (λ (s : List ℕ × Text). in_text name s.1) (auth_sets_at site values)

default_reads_none : (name : List ℕ) (lines : List Line) → lines_of (λ (i : IndexName). in_text name i.text) default_index lines ≡ []
unfolding default_index in_text
default_reads_none name [] = refl
default_reads_none name (l ∷ ls) = refl

pub no_values : (site : Site) (kind : ListKind) (name : List ℕ) (lines : List Line) → list_reads site kind name None lines ≡ []
no_values site kinds.Index name lines = default_reads_none name lines
no_values site kinds.Pages name lines = refl
no_values site kinds.AuthSets name lines = refl

-- one list more, which was not gone through
pub none_more : (xs : List (Option Mark)) (j : ℕ) (kind : ListKind) (values : ℕ) → is_gone (xs ++ None ∷ []) j kind values ≡ is_gone xs j kind values
none_more [] zero kind values = refl
none_more [] (suc j) kind values = refl
none_more (x ∷ xs) zero kind values = refl
none_more (x ∷ xs) (suc j) kind values = none_more xs j kind values

module _ (site : Site) (lists : List (List Line)) (marks : List (Option Mark)) where
  pub there_none : (index : LineIndex) → ((lines : ℕ) (kind : ListKind) (values : ℕ) → is_gone marks lines kind values ≡ false) → AreThere site lists marks index
  there_none index none = λ l k v h name line e. absurd (false≢true (sym (none l k v) ∙ h))

  module _ (old new : LineIndex) where
    pub there_kept : (f : List ℕ → List Line) → Gains old new f → AreThere site lists marks old → AreThere site lists marks new
    there_kept f gains there = λ l k v h name line e. gains name line ∙ ap (λ b. b || is_among line (f name)) (there l k v h name line e)

    pub there_more : (lines : ℕ) (kind : ListKind) (values : ℕ) (m : Mark) → m.kind ≡ kind → m.values ≡ values
        → Gains old new (λ name. list_reads site kind name (Some values) (list_at lists (Some lines)))
        → AreThere site lists marks old → AreThere site lists (slice_set marks lines (Some m)) new
    there_more lines kind values m is_kind is_values gains there = λ l k v h name line e.
        let reads : ListKind → ℕ → ℕ → Bool = λ k v l. is_among line (list_reads site k name (Some v) (list_at lists (Some l))) in
        ⊎_elim
        (λ (same : slice_get (slice_set marks lines (Some m)) l ≡ slice_get marks l).
        there_kept (λ name. list_reads site kind name (Some values) (list_at lists (Some lines))) gains there l k v (ap (λ o. is_mark o k v) (sym same) ∙ h) name line e)
        (λ (put : (lines ≡ l) × (slice_get (slice_set marks lines (Some m)) l ≡ Some (Some m))).
        let hit : (same_kind m.kind k && (m.values == v)) ≡ true = ap (λ o. is_mark o k v) (sym put.1) ∙ h in
        let kind_is : kind ≡ k = sym is_kind ∙ same_kind_is m.kind k (and_left (same_kind m.kind k) (m.values == v) hit) in
        let values_is : values ≡ v = sym is_values ∙ eqb-true m.values v (and_right (same_kind m.kind k) (m.values == v) hit) in
        gains name line
        ∙ ap (λ b. is_among line (at old name) || b) (ap (λ k. reads k values lines) kind_is ∙ ap (λ v. reads k v lines) values_is ∙ ap (λ l. reads k v l) put.0 ∙ e)
        ∙ or_true (is_among line (at old name)))
        (put_at marks lines l (Some m))
      where
        or_true : (b : Bool) → (b || true) ≡ true
        or_true true = refl
        or_true false = refl

-- ---- pair by pair

module _ {X Y A B : Type 0} (line : Line) (f : A → B → List Line) (seen : X → A) (given : Y → B) (xs : List X) (i : ℕ) where
  abbrev left_of : List Y → Bool
  left_of left = is_among line (over_both f (map seen (drop i xs)) (map given left))

  pub among_more : (x : X) (left rest : List Y) (y : Y) (old new whole : Bool) → drop i xs ≡ x ∷ drop (i + 1) xs → left ≡ y ∷ rest → new ≡ (old || is_among line (f (seen x) (given y)))
      → (old || left_of left) ≡ whole → (new || is_among line (over_both f (map seen (drop (i + 1) xs)) (map given rest))) ≡ whole
  unfolding over_both
  among_more x left rest y old new whole at is n w =
      let later = over_both f (map seen (drop (i + 1) xs)) (map given rest) in
      ap (λ b. b || is_among line later) n
      ∙ turned old (is_among line (f (seen x) (given y))) (is_among line later)
      ∙ ap (λ b. old || b) (sym (among_both line (f (seen x) (given y)) later))
      ∙ ap (λ l. old || is_among line (over_both f (map seen (x ∷ drop (i + 1) xs)) (map given l))) (sym is)
      ∙ ap (λ l. old || is_among line (over_both f (map seen l) (map given left))) (sym at)
      ∙ w

  none_with : (items : List A) → over_both f items [] ≡ []
  unfolding over_both
  none_with [] = refl
  none_with (a ∷ items) = refl

  -- nothing is left of the second list
  pub among_short : (left : List Y) (old whole : Bool) → length left ≡ 0 → (old || left_of left) ≡ whole → old ≡ whole
  among_short [] old whole is w = sym (or_false old) ∙ ap (λ l. old || is_among line l) (sym (none_with (map seen (drop i xs)))) ∙ w
  among_short (l ∷ ls) old whole is w = absurd (omega (arith, is))

  -- nothing is left of the first
  pub among_over : (left : List Y) (old whole : Bool) → drop i xs ≡ [] → (old || left_of left) ≡ whole → old ≡ whole
  unfolding over_both
  among_over left old whole over w = sym (or_false old) ∙ ap (λ l. old || is_among line (over_both f (map seen l) (map given left))) (sym over) ∙ w
