-- What the race check tells.
use Rattle.std.specs.Prelude.{◌≡◌, ℕ, ◌&&◌, ◌||◌, Bool, true, not, Option, None, Some, is_some, List, ◌++◌, map, bytes_eq}
use Rattle.std.specs.List.{list_any}
use Rattle.std.specs.List.Sorted.{IsStrictlySortedBy}
use Rattle.std.specs.Ordering.{nat_cmp}
use Rattle.std.specs.Cmp.Lexicographic.{slice_cmp}
use Rattle.site_views.specs.Views.{ServerView}
use Rattle.site_views.specs.Values.{Values}
use Rattle.race_meaning.specs.request_meaning.Documents.{is_visible}
use Rattle.race_meaning.specs.Levels.{all_values}
use Rattle.race_meaning.specs.Named.{is_named, is_shown, is_one_text, set_texts, is_set, auth_sets_it, begins_with_set, is_private}
use Rattle.site_model.specs.declared.site.Site.{Site}
use Rattle.race_check.specs.declared.listed.ListKind.TheVariants as kinds
use Rattle.race_check.specs.declared.listed.LevelLists.{LevelLists}
use Rattle.race_check.specs.declared.first.FirstLists.{FirstLists}
use Rattle.race_check.specs.Lists.{in_list, sets_by_auth}
use Rattle.race_check.specs.Names.{has}
use Rattle.race_check.specs.Texts.{known, is_one}
use Rattle.race_check.specs.declared.names.NameSet.{NameSet}
use Rattle.race_check.specs.declared.conflict.Named.{Named}
use Rattle.race_check.specs.declared.conflict.Marks.{Marks}
use Rattle.race_check.specs.declared.texts.SetTexts.{SetTexts}

abbrev pub has_or_all : Option NameSet → List ℕ → Bool
has_or_all None name = true
has_or_all (Some names) name = has names name

-- what the first lists of a site read and set
pub record AreFirst (site : Site) (first : FirstLists) : Type 0 where
  pub by_index : (name : List ℕ) → has first.index name ≡ in_list site kinds.Index name 0
  pub by_pages : (name : List ℕ) → has first.pages name ≡ in_list site kinds.Pages name 0
  pub by_auth_sets : (name : List ℕ) → has first.auth_sets name ≡ in_list site kinds.AuthSets name 0
  pub set_there : (name : List ℕ) → has first.sets name ≡ sets_by_auth site name 0

-- one of the first lists that hold reads the variable
abbrev pub in_first : FirstLists → LevelLists → List ℕ → Bool
in_first first lists name =
    (lists.index.has_first && has first.index name)
    || (lists.pages.has_first && has first.pages name)
    || (lists.auth_sets.has_first && has first.auth_sets name)

-- it is read where others could have set it
abbrev pub is_exposed : FirstLists → Marks → List ℕ → Bool
is_exposed first marks name = has marks.exposed name || in_first first marks.lists name

abbrev pub is_set_by_auth : FirstLists → Marks → List ℕ → Bool
is_set_by_auth first marks name =
    has marks.auth name || (marks.lists.auth_sets.has_first && has first.sets name)

-- what marks are of a server, with what the first lists of its site are
pub record AreMarks (first : FirstLists) (server : ServerView) (marks : Marks) : Type 0 where
  pub one : (name : List ℕ) → is_one (known marks.texts name) ≡ is_one_text (set_texts server name)
  pub is_there : (name : List ℕ) → is_some (known marks.texts name) ≡ is_set server name
  pub by_auth : (name : List ℕ) → is_set_by_auth first marks name ≡ list_any (auth_sets_it name)
      (all_values server)
  pub begins : (name : List ℕ) → has marks.opening name ≡ begins_with_set name server.level.program
  pub not_private : (name : List ℕ) → is_exposed first marks name ≡ not (is_private server name)
  pub has_documents : marks.documents ≡ list_any (λ (v : Values). v.ssi) (all_values server)
  pub seen : (name : List ℕ) → has_or_all marks.visible name ≡ is_visible server.visible name

abbrev pub has_one_value : FirstLists → Marks → List ℕ → Bool
has_one_value first marks name =
    not (is_set_by_auth first marks name)
    && is_one (known marks.texts name)
    && has marks.opening name

-- a variable that is set in an open server is named
abbrev pub is_marked : FirstLists → Marks → List ℕ → Bool
is_marked first marks name = not (has_one_value first marks name) &&
    ((marks.documents && has_or_all marks.visible name) || is_exposed first marks name)

-- all variables that are set, each once, in the order of their bytes
pub record AllSet (texts : SetTexts) (names : List (List ℕ)) : Type 0 where
  pub all : (name : List ℕ) → list_any (bytes_eq name) names ≡ is_some (known texts name)
  pub rising : IsStrictlySortedBy (slice_cmp nat_cmp) names

abbrev pub marked : (number : ℕ) → Marks → List ℕ → Named
marked number marks name =
    record {
      server = number;
      name = name;
      documents = marks.documents && has_or_all marks.visible name;
    }

-- exactly the variables that are named in a server, each once, in the order of their bytes
pub record AreNamed (server : ServerView) (names : List (List ℕ)) : Type 0 where
  pub exact : (name : List ℕ) → list_any (bytes_eq name) names ≡ is_named server name
  pub rising : IsStrictlySortedBy (slice_cmp nat_cmp) names

abbrev pub named_at : (number : ℕ) → ServerView → List ℕ → Named
named_at number server name =
    record { server = number; name = name; documents = is_shown server name }

-- those of one server were added
abbrev pub HasNamed : (number : ℕ) → ServerView → (old new : List Named) → Type 0
HasNamed number server old new = (names : List (List ℕ)) × AreNamed server names ×
    (new ≡ old ++ map (named_at number server) names)
