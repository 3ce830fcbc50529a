-- What is read and set by the first lists, and by the others.
use Rattle.std.proofs.Common.{◌≡◌, ℕ, ◌&&◌, ◌||◌, Bool, true, false, List, refl, ap, sym, ◌∙◌}
use Rattle.std.specs.List.{list_any}
use Rattle.site_model.specs.Levels.{raw_level}
use Rattle.site_model.specs.declared.site.Site.{Site}
use Rattle.site_whole.specs.Whole.{values_seen}
use Rattle.race_meaning.specs.Reads.{in_values}
use Rattle.race_meaning.specs.Named.{auth_sets_it}
use Rattle.race_check.specs.declared.first.FirstLists.{FirstLists}
use Rattle.race_check.specs.declared.listed.LevelLists.{LevelLists}
use Rattle.race_check.specs.declared.listed.ListKind.{ListKind}
use Rattle.race_check.specs.declared.listed.ListKind.TheVariants as kinds
use Rattle.race_check.specs.Names.{has}
use Rattle.race_check.specs.Lists.{lists_of, in_own, in_list, sets_by_auth, AreInLevels, read_by_others}
use Rattle.race_check.specs.Told.{AreFirst, in_first}
use Rattle.race_check.proofs.Shared.{read_once, set_once}

pub or_over : (a b c : Bool) → ((a || b) || c) ≡ (a || (b || c))
or_over true b c = refl
or_over false b c = refl

or_turned : (a b : Bool) → (a || b) ≡ (b || a)
or_turned true true = refl
or_turned true false = refl
or_turned false true = refl
or_turned false false = refl

-- each kind's first beside its others
beside : (o i p a x y z : Bool) → ((((o || i) || p) || a) || ((x || y) || z)) ≡ (((o || (x || i)) || (y || p)) || (z || a))
beside true i p a x y z = refl
beside false true p a true y z = refl
beside false true p a false y z = refl
beside false false true a true y z = refl
beside false false true a false true z = refl
beside false false true a false false z = refl
beside false false false true true y z = refl
beside false false false true false true z = refl
beside false false false true false false true = refl
beside false false false true false false false = refl
beside false false false false true y z = refl
beside false false false false false true z = refl
beside false false false false false false true = refl
beside false false false false false false false = refl

module _ (site : Site) (levels : List ℕ) (lists : LevelLists) (lists_so : AreInLevels site levels lists) (first : FirstLists) (are : AreFirst site first) where
  abbrev of : ListKind → List ℕ → List ℕ → Bool
  of kind name numbers = list_any (in_list site kind name) numbers

  pub read_with : (name : List ℕ) → (read_by_others site levels lists name || in_first first lists name) ≡ list_any (λ n. in_values name (values_seen site (raw_level site n))) levels
  read_with name =
      let own = list_any (λ n. in_own name (raw_level site n)) levels in
      let index = of kinds.Index name lists.index.others.items in
      let pages = of kinds.Pages name lists.pages.others.items in
      let auth_sets = of kinds.AuthSets name lists.auth_sets.others.items in
      let i = lists.index.has_first in
      let p = lists.pages.has_first in
      let a = lists.auth_sets.has_first in
      let by : Bool → Bool → Bool → Bool = λ x y z. ((own || x) || y) || z in
      beside own index pages auth_sets (i && has first.index name) (p && has first.pages name) (a && has first.auth_sets name)
      ∙ ap (λ b. by ((i && b) || index) ((p && has first.pages name) || pages) ((a && has first.auth_sets name) || auth_sets)) (are.by_index name)
      ∙ ap (λ b. by b ((p && has first.pages name) || pages) ((a && has first.auth_sets name) || auth_sets)) (sym (lists_so.index (in_list site kinds.Index name)))
      ∙ ap (λ b. by (of kinds.Index name (lists_of site kinds.Index levels)) ((p && b) || pages) ((a && has first.auth_sets name) || auth_sets)) (are.by_pages name)
      ∙ ap (λ b. by (of kinds.Index name (lists_of site kinds.Index levels)) b ((a && has first.auth_sets name) || auth_sets)) (sym (lists_so.pages (in_list site kinds.Pages name)))
      ∙ ap (λ b. by (of kinds.Index name (lists_of site kinds.Index levels)) (of kinds.Pages name (lists_of site kinds.Pages levels)) ((a && b) || auth_sets)) (are.by_auth_sets name)
      ∙ ap (by (of kinds.Index name (lists_of site kinds.Index levels)) (of kinds.Pages name (lists_of site kinds.Pages levels))) (sym (lists_so.auth_sets (in_list site kinds.AuthSets name)))
      ∙ sym (read_once site name levels)

  pub set_with : (name : List ℕ) → (list_any (sets_by_auth site name) lists.auth_sets.others.items || (lists.auth_sets.has_first && has first.sets name)) ≡ list_any (λ n. auth_sets_it name (values_seen site (raw_level site n))) levels
  set_with name =
      let others = list_any (sets_by_auth site name) lists.auth_sets.others.items in
      or_turned others (lists.auth_sets.has_first && has first.sets name)
      ∙ ap (λ b. (lists.auth_sets.has_first && b) || others) (are.set_there name)
      ∙ sym (lists_so.auth_sets (sets_by_auth site name))
      ∙ sym (set_once site name levels)
