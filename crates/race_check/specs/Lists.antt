-- The lists of values that levels share by their numbers.
use Rattle.std.specs.Prelude.{◌≡◌, ℕ, ◌&&◌, ◌||◌, Bool, List, flat_map, Option, Some, option_map, bytes_eq}
use Rattle.std.specs.List.{list_any}
use Rattle.ngx_variables.specs.Paths.{text_of}
use Rattle.site_model.specs.declared.site.Level.{Level}
use Rattle.site_model.specs.declared.site.Site.{Site}
use Rattle.site_model.specs.Levels.{raw_level}
use Rattle.site_views.specs.Values.{IndexName, PageRule, Text}
use Rattle.site_whole.specs.Whole.{index_at, pages_at, auth_sets_at, tries_seen}
use Rattle.race_meaning.specs.Reads.{in_text, in_tries, in_target}
use Rattle.race_check.specs.declared.listed.ListKind.{ListKind}
use Rattle.race_check.specs.declared.listed.ListKind.TheVariants as kinds
use Rattle.race_check.specs.declared.listed.KindLists.{KindLists}
use Rattle.race_check.specs.declared.listed.LevelLists.{LevelLists}
use Rattle.race_check.specs.Numbers.{number_of}

abbrev pub list_number : ListKind → Level → Option ℕ
list_number kinds.Index l = l.index
list_number kinds.Pages l = l.pages
list_number kinds.AuthSets l = l.auth_sets

-- the numbers of the lists of a kind that hold in levels, by the levels' numbers
abbrev pub lists_of : Site → ListKind → List ℕ → List ℕ
lists_of site kind levels =
    flat_map (λ n. number_of (list_number kind (raw_level site n))) levels

-- a list reads the variable
abbrev pub in_list : Site → ListKind → List ℕ → ℕ → Bool
in_list site kinds.Index name number =
    list_any (λ (i : IndexName). in_text name i.text) (index_at site (Some number))
in_list site kinds.Pages name number =
    list_any (λ (r : PageRule). in_target name r.target) (pages_at site (Some number))
in_list site kinds.AuthSets name number =
    list_any (λ (s : List ℕ × Text). in_text name s.1) (auth_sets_at site (Some number))

-- a list of `auth_request_set`s sets the variable
abbrev pub sets_by_auth : Site → List ℕ → ℕ → Bool
sets_by_auth site name number =
    list_any (λ (s : List ℕ × Text). bytes_eq s.0 name) (auth_sets_at site (Some number))

-- a level's values read it elsewhere than in lists that levels share
abbrev pub in_own : List ℕ → Level → Bool
in_own name l = in_text name (text_of l.place) || in_tries name (option_map tries_seen l.tries)

-- lists by their numbers, of which the first, under the number 0, is apart from the others: one of them passes a test where one
-- of those numbers does
abbrev pub AreOfKind : List ℕ → KindLists → Type 0
AreOfKind numbers lists =
    (test : ℕ → Bool)
    → list_any test numbers ≡ ((lists.has_first && test 0) || list_any test lists.others.items)

-- the lists of each kind that hold in levels, by the levels' numbers
pub record AreInLevels (site : Site) (levels : List ℕ) (lists : LevelLists) : Type 0 where
  pub index : AreOfKind (lists_of site kinds.Index levels) lists.index
  pub pages : AreOfKind (lists_of site kinds.Pages levels) lists.pages
  pub auth_sets : AreOfKind (lists_of site kinds.AuthSets levels) lists.auth_sets

-- a variable is read by values of levels, or by one of these lists, the first of each kind aside
abbrev pub read_by_others : Site → (levels : List ℕ) → LevelLists → List ℕ → Bool
read_by_others site levels lists name =
    list_any (λ n. in_own name (raw_level site n)) levels
    || list_any (in_list site kinds.Index name) lists.index.others.items
    || list_any (in_list site kinds.Pages name) lists.pages.others.items
    || list_any (in_list site kinds.AuthSets name) lists.auth_sets.others.items
