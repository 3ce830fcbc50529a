-- Laws of what holds in a level.
use Rattle.std.specs.Prelude.{◌≡◌, ℕ, true, false, List, [], ◌∷◌, ◌++◌, Option, None, Some}
use Rattle.file_type.specs.declared.types.TypeEntry.{TypeEntry}
use Rattle.ngx_variables.specs.declared.request.FileRoot.{FileRoot}
use Rattle.conf_text.specs.declared.directive.Directive.{Directive}
use Rattle.conf_values.specs.declared.settings.Settings.{Settings}
use Rattle.conf_lists.specs.Lists.{Lists, no_lists}
use Rattle.conf_inherit.specs.Values.{Stated, Values, has_items, has_types, over, with_directive, settings_in}

-- a list of which a block states some is what it states, as a whole
pub record ListsHold (own now : Lists) : Type 0 where
  pub index : has_items own.index ≡ true → now.index ≡ own.index
  pub pages : has_items own.pages ≡ true → now.pages ≡ own.pages
  pub rules : has_items own.rules ≡ true → now.rules ≡ own.rules
  pub auth_sets : has_items own.auth_sets ≡ true → now.auth_sets ≡ own.auth_sets
  pub ssi_types : has_types own.ssi_types ≡ true → now.ssi_types ≡ own.ssi_types
  pub addition_types : has_types own.addition_types ≡ true →
      now.addition_types ≡ own.addition_types

-- A value that a block states holds in it, whatever holds around it: for each of the values.
pub record StatedHolds (own : Stated) (outer : Values) : Type 0 where
  pub place : (place : FileRoot) → own.place ≡ Some place → (over own outer).place ≡ place
  pub entries : (entries : List TypeEntry) → own.entries ≡ Some entries →
      (over own outer).types.entries ≡ entries
  pub default_type : (kind : List ℕ) → own.default_type ≡ Some kind →
      (over own outer).types.default_type ≡ kind
  pub lists : ListsHold own.lists (over own outer).lists
  pub auth : (path : Option (List ℕ)) → own.auth ≡ Some path → (over own outer).auth ≡ path
  pub before : (path : Option (List ℕ)) → own.before ≡ Some path → (over own outer).before ≡ path
  pub after : (path : Option (List ℕ)) → own.after ≡ Some path → (over own outer).after ≡ path
  pub visible : (names : List (List ℕ)) → own.visible ≡ Some names →
      (over own outer).visible ≡ Some names
  pub internal : own.internal ≡ true → (over own outer).internal ≡ true

abbrev pub WhatIsStatedHolds : Type 0
WhatIsStatedHolds = (own : Stated) (outer : Values) → StatedHolds own outer

-- The last directive of a level is over all before it.
abbrev pub LastHolds : Type 0
LastHolds =
    (ds : List Directive) (d : Directive) (s : Settings)
    → settings_in (ds ++ d ∷ []) s ≡ with_directive d (settings_in ds s)

-- a block that states nothing
abbrev pub nothing : Stated
nothing = record {
  place = None;
  entries = None;
  default_type = None;
  settings = λ s. s;
  lists = no_lists;
  auth = None;
  before = None;
  after = None;
  visible = None;
  internal = false;
}

-- In a block that states nothing what is around it holds.
abbrev pub OuterHolds : Type 0
OuterHolds = (outer : Values) → over nothing outer ≡ outer
