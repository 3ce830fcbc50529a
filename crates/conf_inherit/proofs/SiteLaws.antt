-- What a site under construction shows.
use Rattle.std.proofs.Common.{◌≡◌, ℕ, zero, suc, ◌+◌, length, Bool, List, [], ◌∷◌, ◌++◌, map, true, false, cond, Option, Some, None, is_some, option_map, unwrap_or, refl, sym, ap, subst, ◌∙◌, append_assoc, append-nil}
use Rattle.std.specs.List.{slice_get}
use Rattle.std.proofs.lemmas.List.{map_push}
use Rattle.file_type.specs.Types.{TypeList}
use Rattle.site_model.specs.declared.values.Tries.{Tries as CodeTries}
use Rattle.site_model.specs.declared.program.RewriteStep.{RewriteStep}
use Rattle.site_model.specs.declared.site.Level.{Level}
use Rattle.site_model.specs.declared.site.Location.{Location as CodeLocation}
use Rattle.site_model.specs.declared.site.NamedLocation.{NamedLocation}
use Rattle.site_model.specs.declared.site.Site.{Site}
use Rattle.site_model.specs.Levels.{types_at, raw_level}
use Rattle.site_views.specs.Rewrites.{Program}
use Rattle.ngx_pattern.specs.Pattern.{Pattern as SetPattern}
use Rattle.site_views.specs.Views.{LocationView, Locations, NamedView}
use Rattle.site_views.specs.Views.Locations.{NoMore, Location}
use Rattle.site_whole.specs.Whole.{values_seen, step_seen, level_whole, matching_by, tries_seen, media_seen, default_index, no_media}
use Rattle.conf_inherit.specs.declared.site.Built.{Built}
use Rattle.std.specs.Prelude.{codes}
use Rattle.std.specs.Option.{option_and_then}
use Rattle.conf_text.specs.declared.directive.Directive.{Directive}
use Rattle.conf_block.specs.Forest.{Forest, End, Branch}
use Rattle.conf_block.specs.Locations.{text_in, is_found}
use Rattle.conf_block.specs.Blocks.{block_of, blocks_of, from_first}
use Rattle.conf_inherit.specs.Values.{Values, all_values, all_entries, entries_in, first_word, word_in, stated, over, values_in, level_of, tries_in}
use Rattle.conf_inherit.specs.declared.level.Inherited.{Inherited}
use Rattle.conf_inherit.specs.declared.level.Listed.{Listed}
use Rattle.conf_inherit.specs.declared.level.Shared.{Shared}
use Rattle.conf_inherit.specs.declared.shelf.Shelf.{Shelf}
use Rattle.conf_inherit.specs.Pools.{Keeps, KeepsAll, Holds, Stands, Fits, FitsLists, AreDeep, Added, entries_by, lists_by, values_by, shelf_of, index_names, page_rules, rules_in, sets_in, level_by, follow, list_seen, patterns_in, level_built, values_built, location_built, named_built}
use Rattle.conf_inherit.specs.Built.{matching_of, inner_values, location_with, locations_in, named_with, named_in}
use Rattle.conf_inherit.proofs.NestLaws.{seen-none, seen-one, follow-none, follow-first, deep-append, deep-one}

-- lists that grow

pub keeps-same : {A : Type 0} (old new : List A) → new ≡ old → Keeps old new
keeps-same old new e n x h = ap (λ xs. slice_get xs n) e ∙ h

pub keeps-then : {A : Type 0} (a b c : List A) → Keeps a b → Keeps b c → Keeps a c
keeps-then a b c f g n x h = g n x (f n x h)

pub all-here : (shelf : Shelf) → KeepsAll shelf shelf
all-here shelf = record { types = λ n x h. h; indexes = λ n x h. h; pages = λ n x h. h; rules = λ n x h. h; auth_sets = λ n x h. h; media = λ n x h. h; patterns = λ n x h. h }

pub all-same : (old new : Shelf) → new ≡ old → KeepsAll old new
all-same old new e = subst (λ s. KeepsAll old s) (sym e) (all-here old)

pub all-then : (a b c : Shelf) → KeepsAll a b → KeepsAll b c → KeepsAll a c
all-then a b c f g = record {
  types = keeps-then a.types.items b.types.items c.types.items f.types g.types;
  indexes = keeps-then a.indexes.items b.indexes.items c.indexes.items f.indexes g.indexes;
  pages = keeps-then a.pages.items b.pages.items c.pages.items f.pages g.pages;
  rules = keeps-then a.rules.items b.rules.items c.rules.items f.rules g.rules;
  auth_sets = keeps-then a.auth_sets.items b.auth_sets.items c.auth_sets.items f.auth_sets g.auth_sets;
  media = keeps-then a.media.items b.media.items c.media.items f.media g.media;
  patterns = keeps-then a.patterns b.patterns c.patterns f.patterns g.patterns;
}

-- more patterns alone
pub patterns-kept : (a : Shelf) (patterns : List SetPattern) → Keeps a.patterns patterns → KeepsAll a (record a { patterns = patterns })
patterns-kept a patterns k = record { types = λ n x h. h; indexes = λ n x h. h; pages = λ n x h. h; rules = λ n x h. h; auth_sets = λ n x h. h; media = λ n x h. h; patterns = k }

-- a number stands for its list also in a list that has more
pub stands-later : {A B : Type 0} (default none : B) (view : A → B) (items items' : List A) (s : Option Listed) (meaning : B)
    → Keeps items items' → Stands default none view items s meaning → Stands default none view items' s meaning
stands-later default none view items items' s meaning k h later l = h later (keeps-then items items' later k l)

pub lists-later : (a b : Shelf) (s : Shared) → KeepsAll a b → FitsLists a s → FitsLists b s
lists-later a b s k f = record {
  index = stands-later default_index [] index_names a.indexes.items b.indexes.items s.index (lists_by s).index k.indexes f.index;
  pages = stands-later [] [] page_rules a.pages.items b.pages.items s.pages (lists_by s).pages k.pages f.pages;
  rules = stands-later [] [] rules_in a.rules.items b.rules.items s.rules (lists_by s).rules k.rules f.rules;
  auth_sets = stands-later [] [] sets_in a.auth_sets.items b.auth_sets.items s.auth_sets (lists_by s).auth_sets k.auth_sets f.auth_sets;
  ssi_types = stands-later no_media no_media media_seen a.media.items b.media.items s.ssi_types (lists_by s).ssi_types k.media f.ssi_types;
  addition_types = stands-later no_media no_media media_seen a.media.items b.media.items s.addition_types (lists_by s).addition_types k.media f.addition_types;
}

pub fits-later : (a b : Shelf) (v : Inherited) → KeepsAll a b → Fits a v → Fits b v
fits-later a b v k f = record { types = k.types v.types (values_by v).types f.types; lists = lists-later a b v.lists k f.lists }

pub fits-same : (a b : Shelf) (v : Inherited) → b ≡ a → Fits a v → Fits b v
fits-same a b v e f = subst (λ s. Fits s v) (sym e) f

-- a level that shares the media types around it
pub fits-around : (a b : Shelf) (outer v : Inherited) → b.types ≡ a.types → v.types ≡ outer.types → (values_by v).types ≡ (values_by outer).types
    → Fits a outer → FitsLists b v.lists → Fits b v
fits-around a b outer v same number types f lists = record {
  types = ap (λ items. slice_get items v.types) (ap (λ ts. ts.items) same) ∙ ap (slice_get a.types.items) number ∙ f.types ∙ ap Some (sym types);
  lists = lists;
}

types_inj : {a b : TypeList} → Some a ≡ Some b → a ≡ b
types_inj e = cc

-- the types under the number of values that state no `types` have the entries around them
pub beside-around : (a b : Shelf) (outer v : Inherited) → b.types ≡ a.types → v.types ≡ outer.types → (values_by v).types.entries ≡ (values_by outer).types.entries
    → Fits a outer → (types : TypeList) → slice_get b.types.items v.types ≡ Some types → types.entries ≡ entries_by v.entries
beside-around a b outer v same number entries f types e =
    let there : slice_get b.types.items v.types ≡ Some (values_by outer).types =
    ap (λ items. slice_get items v.types) (ap (λ ts. ts.items) same) ∙ ap (slice_get a.types.items) number ∙ f.types in
    ap (λ (t : TypeList). t.entries) (types_inj (sym e ∙ there)) ∙ sym entries

none_is_some : {A : Type 0} {x : A} → None ≡ Some x → ⊥
none_is_some h = cc

get-pushed : {A : Type 0} (xs : List A) (y : A) (n : ℕ) (x : A) → slice_get xs n ≡ Some x → slice_get (xs ++ y ∷ []) n ≡ Some x
get-pushed [] y n x h = absurd (none_is_some h)
get-pushed (z ∷ xs) y zero x h = h
get-pushed (z ∷ xs) y (suc n) x h = get-pushed xs y n x h

pub keeps-pushed : {A : Type 0} (old new : List A) (y : A) → new ≡ old ++ y ∷ [] → Keeps old new
keeps-pushed old new y e n x h = ap (λ xs. slice_get xs n) e ∙ get-pushed old y n x h

get-appended : {A : Type 0} (xs ys : List A) (n : ℕ) (x : A) → slice_get xs n ≡ Some x → slice_get (xs ++ ys) n ≡ Some x
get-appended [] ys n x h = absurd (none_is_some h)
get-appended (z ∷ xs) ys zero x h = h
get-appended (z ∷ xs) ys (suc n) x h = get-appended xs ys n x h

pub keeps-appended : {A : Type 0} (old new more : List A) → new ≡ old ++ more → Keeps old new
keeps-appended old new more e n x h = ap (λ xs. slice_get xs n) e ∙ get-appended old more n x h

get-last : {A : Type 0} (xs : List A) (y : A) → slice_get (xs ++ y ∷ []) (length xs) ≡ Some y
get-last [] y = refl
get-last (x ∷ xs) y = get-last xs y

pub pushed-there : {A : Type 0} (old new : List A) (y : A) (n : ℕ) → new ≡ old ++ y ∷ [] → n ≡ length old → slice_get new n ≡ Some y
pushed-there old new y n e l = ap (λ xs. slice_get xs n) e ∙ ap (slice_get (old ++ y ∷ [])) l ∙ get-last old y

-- what numbers stand for

raw-there : (site : Site) (n : ℕ) (level : Level) → slice_get site.levels.items n ≡ Some level → raw_level site n ≡ level
unfolding raw_level
raw-there site n level h = ap (λ o. unwrap_or o site.outside) h

types-there : (site : Site) (n : ℕ) (types : TypeList) → slice_get site.types.items n ≡ Some types → types_at site n ≡ types
unfolding types_at
types-there site n types h = ap (λ o. unwrap_or o site.plain) h

-- the numbers of a level's lists stand for these lists on the site
module _ (b : Built) (shelf : Shelf) (v : Inherited) (fits : FitsLists shelf v.lists) (on : KeepsAll shelf (shelf_of b)) where
  values-by : (number : ℕ) (tries : Option CodeTries) (program : List RewriteStep) → types_at b.site number ≡ (values_by v).types
      → values_seen b.site (level_by (values_by v) number v.lists tries program) ≡ all_values (values_by v) (option_map tries_seen tries)
  unfolding values_seen
  values-by number tries program t = λ i. all_values (record (values_by v) {
    types = t i;
    lists = record {
      index = fits.index b.site.indexes.items on.indexes i;
      pages = fits.pages b.site.pages.items on.pages i;
      rules = fits.rules b.site.rules.items on.rules i;
      auth_sets = fits.auth_sets b.site.auth_sets.items on.auth_sets i;
      ssi_types = fits.ssi_types b.site.media.items on.media i;
      addition_types = fits.addition_types b.site.media.items on.media i;
    };
  }) (option_map tries_seen tries)

-- a level that is kept under a number has these values
module _ (b : Built) (levels : List Level) (shelf : Shelf) (v : Inherited) (n : ℕ) (body : Forest) (level : Level) (program : List RewriteStep)
    (h : Holds levels shelf b) (l : slice_get levels n ≡ Some level) (e : level ≡ level_by (values_by v) v.types v.lists level.tries program)
    (r : option_map tries_seen level.tries ≡ tries_in body) (f : Fits shelf v) where
  kept-level : raw_level b.site n ≡ level_by (values_by v) v.types v.lists level.tries program
  kept-level = raw-there b.site n level (h.0 n level l) ∙ e

  pub values-shown : values_built b n ≡ values_in (values_by v) body
  values-shown =
      ap (values_seen b.site) kept-level
      ∙ values-by b shelf v f.lists h.1 v.types level.tries program (types-there b.site v.types (values_by v).types (h.1.types v.types (values_by v).types f.types))
      ∙ ap (all_values (values_by v)) r

  pub level-shown : (meant : Program) → map (step_seen (patterns_in b) b.site) program ≡ meant → level_built b n ≡ record { values = values_in (values_by v) body; program = meant }
  unfolding level_whole
  level-shown meant p = λ i. record {
    values = values-shown i;
    program = (ap (λ (l : Level). map (step_seen (patterns_in b) b.site) l.program) kept-level ∙ p) i;
  }

-- items that are shown so far, and those that are to come

pub record SoFar {A C : Type 0} (seen : Built → A → C) (first_levels levels : List Level) (first_shelf shelf : Shelf) (items : List A) (left all : List C) : Type 0 where
  pub levels_kept : Keeps first_levels levels
  pub shelf_kept : KeepsAll first_shelf shelf
  pub same : (b : Built) → Holds levels shelf b → map (seen b) items ++ left ≡ all

pub holds-before : (levels levels' : List Level) (shelf shelf' : Shelf) (b : Built) → Keeps levels levels' → KeepsAll shelf shelf' → Holds levels' shelf' b → Holds levels shelf b
holds-before levels levels' shelf shelf' b l t h = (keeps-then levels levels' b.site.levels.items l h.0, all-then shelf shelf' (shelf_of b) t h.1)

pub so-far-begin : {A C : Type 0} (seen : Built → A → C) (levels : List Level) (shelf : Shelf) (items : List A) (all : List C) → items ≡ []
    → SoFar seen levels levels shelf shelf items all all
so-far-begin seen levels shelf items all e =
    record { levels_kept = λ n x h. h; shelf_kept = all-here shelf; same = λ b h. ap (λ items. map (seen b) items ++ all) e }

one-more : {A C : Type 0} (seen : A → C) (items items' : List A) (x : A) (c : C) (left more : List C) → items' ≡ items ++ x ∷ [] → left ≡ c ∷ more → seen x ≡ c
    → map seen items' ++ more ≡ map seen items ++ left
one-more seen items items' x c left more i l s =
    ap (λ xs. map seen xs ++ more) i ∙ ap (λ xs. xs ++ more) (map_push seen items x)
    ∙ append_assoc (map seen items) (seen x ∷ []) more
    ∙ ap (λ y. map seen items ++ y ∷ more) s ∙ ap (λ cs. map seen items ++ cs) (sym l)

pub so-far-more : {A C : Type 0} {seen : Built → A → C} {first_levels levels : List Level} {first_shelf shelf : Shelf} {items : List A} {left all : List C}
    → SoFar seen first_levels levels first_shelf shelf items left all
    → (levels' : List Level) (shelf' : Shelf) (items' : List A) (x : A) (c : C) (more : List C)
    → Keeps levels levels' → KeepsAll shelf shelf' → items' ≡ items ++ x ∷ [] → left ≡ c ∷ more → ((b : Built) → Holds levels' shelf' b → seen b x ≡ c)
    → SoFar seen first_levels levels' first_shelf shelf' items' more all
so-far-more {A} {C} {seen} {first_levels} {levels} {first_shelf} {shelf} {items} {left} {all} s levels' shelf' items' x c more l t i e shown = record {
  levels_kept = keeps-then first_levels levels levels' s.levels_kept l;
  shelf_kept = all-then first_shelf shelf shelf' s.shelf_kept t;
  same = λ b h.
      one-more (seen b) items items' x c left more i e (shown b h) ∙ s.same b (holds-before levels levels' shelf shelf' b l t h);
}

pub so-far-end : {A C : Type 0} {seen : Built → A → C} {first_levels levels : List Level} {first_shelf shelf : Shelf} {items : List A} {left all : List C}
    → SoFar seen first_levels levels first_shelf shelf items left all → left ≡ [] → (b : Built) → Holds levels shelf b → map (seen b) items ≡ all
so-far-end {A} {C} {seen} {first_levels} {levels} {first_shelf} {shelf} {items} {left} {all} s e b h =
    sym (append-nil (map (seen b) items)) ∙ ap (λ cs. map (seen b) items ++ cs) (sym e) ∙ s.same b h

-- ---- locations

locations-first : (known : List ℕ → Bool) (outer : Values) (f : Forest) → locations_in known outer f ≡ locations_in known outer (from_first (is_found false) f)
unfolding locations_in from_first
locations-first known outer End = refl
locations-first known outer (Branch d block beside) =
    let here : Locations = Location (location_with known (inner_values outer d block) d block) (locations_in known (inner_values outer d block) block) (locations_in known outer beside) in
    elim (is_found false d) as (λ t. is_found false d ≡ t → cond t here (locations_in known outer beside) ≡ locations_in known outer (cond t (Branch d block beside) (from_first (is_found false) beside))) [
      | true ↦ λ e. sym (ap (λ t. cond t here (locations_in known outer beside)) e)
      | false ↦ λ e. locations-first known outer beside
    ] refl

location-branch : (known : List ℕ → Bool) (outer : Values) (d : Directive) (block beside : Forest) → is_found false d ≡ true
    → locations_in known outer (Branch d block beside) ≡ Location (location_with known (inner_values outer d block) d block) (locations_in known (inner_values outer d block) block) (locations_in known outer beside)
unfolding locations_in
location-branch known outer d block beside e =
    ap (λ t. cond t (Location (location_with known (inner_values outer d block) d block) (locations_in known (inner_values outer d block) block) (locations_in known outer beside)) (locations_in known outer beside)) e

no-locations : (known : List ℕ → Bool) (outer : Values) → locations_in known outer End ≡ NoMore
unfolding locations_in
no-locations known outer = refl

pub locations-none : (known : List ℕ → Bool) (outer : Values) (f : Forest) → from_first (is_found false) f ≡ End → locations_in known outer f ≡ NoMore
locations-none known outer f e = locations-first known outer f ∙ ap (locations_in known outer) e ∙ no-locations known outer

pub locations-here : (known : List ℕ → Bool) (outer : Values) (f : Forest) (d : Directive) (block beside : Forest) → from_first (is_found false) f ≡ Branch d block beside → is_found false d ≡ true
    → locations_in known outer f ≡ Location (location_with known (inner_values outer d block) d block) (locations_in known (inner_values outer d block) block) (locations_in known outer beside)
locations-here known outer f d block beside e t = locations-first known outer f ∙ ap (locations_in known outer) e ∙ location-branch known outer d block beside t

pub locations-by : (known : List ℕ → Bool) (outer v : Values) (f : Forest) (d : Directive) (block beside : Forest) → from_first (is_found false) f ≡ Branch d block beside → is_found false d ≡ true → v ≡ inner_values outer d block
    → locations_in known outer f ≡ Location (location_with known v d block) (locations_in known v block) (locations_in known outer beside)
locations-by known outer v f d block beside e t n =
    locations-here known outer f d block beside e t ∙ ap (λ v. Location (location_with known v d block) (locations_in known v block) (locations_in known outer beside)) (sym n)

pub location-shown : (known : List ℕ → Bool) (b : Built) (l : CodeLocation) (d : Directive) (body : Forest) (v : Values) → matching_by (patterns_in b) l.text l.kind ≡ matching_of d.args
    → level_built b l.level ≡ level_of known v body → location_built b l ≡ location_with known v d body
location-shown known b l d body v k e = λ i. record { matching = k i; level = e i }

pub added-none : (outer : Values) (depth : ℕ) (levels : List Level) (shelf : Shelf) (items : List CodeLocation) (all : Locations)
    → Added outer depth levels levels shelf shelf items items all all
added-none outer depth levels shelf items all = record {
  added = [];
  is = sym (append-nil items);
  deep = tt;
  levels_kept = λ n x h. h;
  shelf_kept = all-here shelf;
  same = λ w h. ap (λ f. follow f all) (seen-none w) ∙ follow-first all;
}

-- A location is pushed, and then those in it.
pub added-more : {outer : Values} {depth : ℕ} {first levels : List Level} {first_shelf shelf : Shelf} {old now : List CodeLocation} {left all : Locations}
    → Added outer depth first levels first_shelf shelf old now left all
    → (v : Values) (deeper : ℕ) (levels' levels'' : List Level) (shelf' shelf'' : Shelf) (then last : List CodeLocation) (l : CodeLocation) (here : LocationView) (inner more : Locations)
    → Keeps levels levels' → KeepsAll shelf shelf' → then ≡ now ++ l ∷ [] → l.depth ≡ depth → deeper ≡ depth + 1 → left ≡ Location here inner more
    → ((w : Built) → Holds levels' shelf' w → location_built w l ≡ here)
    → Added v deeper levels' levels'' shelf' shelf'' then last NoMore inner
    → Added outer depth first levels'' first_shelf shelf'' old last more all
added-more {outer} {depth} {first} {levels} {first_shelf} {shelf} {old} {now} {left} {all} a v deeper levels' levels'' shelf' shelf'' then last l here inner more lk tk p d g e shown b =
    let deep : AreDeep (depth + 1) b.added = subst (λ k. AreDeep k b.added) g b.deep in record {
      added = a.added ++ l ∷ b.added;
      is = b.is ∙ ap (λ xs. xs ++ b.added) p ∙ append_assoc now (l ∷ []) b.added ∙ ap (λ xs. xs ++ l ∷ b.added) a.is ∙ append_assoc old a.added (l ∷ b.added);
      deep = deep-append depth a.added (l ∷ b.added) a.deep (deep-one depth l b.added d deep);
      levels_kept = keeps-then first levels levels'' a.levels_kept (keeps-then levels levels' levels'' lk b.levels_kept);
      shelf_kept = all-then first_shelf shelf shelf'' a.shelf_kept (all-then shelf shelf' shelf'' tk b.shelf_kept);
      same = λ w h.
          let h' : Holds levels' shelf' w = holds-before levels' levels'' shelf' shelf'' w b.levels_kept b.shelf_kept h in
          let inside : list_seen w b.added ≡ inner = sym (follow-none (list_seen w b.added)) ∙ b.same w h in
          seen-one w depth a.added l b.added more a.deep d deep
          ∙ ap (λ x. follow (list_seen w a.added) (Location x (list_seen w b.added) more)) (shown w h')
          ∙ ap (λ x. follow (list_seen w a.added) (Location here x more)) inside
          ∙ ap (follow (list_seen w a.added)) (sym e)
          ∙ a.same w (holds-before levels levels' shelf shelf' w lk tk h');
    }

pub added-end : {outer : Values} {depth : ℕ} {first levels : List Level} {first_shelf shelf : Shelf} {old now : List CodeLocation} {left all : Locations}
    → Added outer depth first levels first_shelf shelf old now left all → left ≡ NoMore → Added outer depth first levels first_shelf shelf old now NoMore all
added-end {outer} {depth} {first} {levels} {first_shelf} {shelf} {old} {now} {left} {all} a e =
    record { added = a.added; is = a.is; deep = a.deep; levels_kept = a.levels_kept; shelf_kept = a.shelf_kept; same = λ w h. ap (follow (list_seen w a.added)) (sym e) ∙ a.same w h }

-- what was added to no locations is what there is
pub added-all : {outer : Values} {depth : ℕ} {first levels : List Level} {first_shelf shelf : Shelf} {old now : List CodeLocation} {all : Locations}
    → Added outer depth first levels first_shelf shelf old now NoMore all → old ≡ [] → (w : Built) → Holds levels shelf w → list_seen w now ≡ all
added-all {outer} {depth} {first} {levels} {first_shelf} {shelf} {old} {now} {all} a e w h =
    ap (list_seen w) (a.is ∙ ap (λ xs. xs ++ a.added) e) ∙ sym (follow-none (list_seen w a.added)) ∙ a.same w h

-- ---- locations of a name

named-first : (known : List ℕ → Bool) (outer : Values) (f : Forest) → named_in known outer f ≡ named_in known outer (from_first (is_found true) f)
unfolding named_in from_first
named-first known outer End = refl
named-first known outer (Branch d block beside) =
    let here : List NamedView = named_with known (inner_values outer d block) d block ∷ named_in known outer beside in
    elim (is_found true d) as (λ t. is_found true d ≡ t → cond t here (named_in known outer beside) ≡ named_in known outer (cond t (Branch d block beside) (from_first (is_found true) beside))) [
      | true ↦ λ e. sym (ap (λ t. cond t here (named_in known outer beside)) e)
      | false ↦ λ e. named-first known outer beside
    ] refl

named-branch : (known : List ℕ → Bool) (outer : Values) (d : Directive) (block beside : Forest) → is_found true d ≡ true
    → named_in known outer (Branch d block beside) ≡ named_with known (inner_values outer d block) d block ∷ named_in known outer beside
unfolding named_in
named-branch known outer d block beside e = ap (λ t. cond t (named_with known (inner_values outer d block) d block ∷ named_in known outer beside) (named_in known outer beside)) e

no-named : (known : List ℕ → Bool) (outer : Values) → named_in known outer End ≡ []
unfolding named_in
no-named known outer = refl

pub named-none : (known : List ℕ → Bool) (outer : Values) (f : Forest) → from_first (is_found true) f ≡ End → named_in known outer f ≡ []
named-none known outer f e = named-first known outer f ∙ ap (named_in known outer) e ∙ no-named known outer

pub named-here : (known : List ℕ → Bool) (outer : Values) (f : Forest) (d : Directive) (block beside : Forest) → from_first (is_found true) f ≡ Branch d block beside → is_found true d ≡ true
    → named_in known outer f ≡ named_with known (inner_values outer d block) d block ∷ named_in known outer beside
named-here known outer f d block beside e t = named-first known outer f ∙ ap (named_in known outer) e ∙ named-branch known outer d block beside t

pub named-shown : (known : List ℕ → Bool) (b : Built) (n : NamedLocation) (d : Directive) (body : Forest) (v : Values) → n.name ≡ text_in d.args → level_built b n.level ≡ level_of known v body
    → named_built b n ≡ named_with known v d body
named-shown known b n d body v t e = λ i. record { name = t i; level = e i }

-- where neither media types nor their default are stated, those around hold

none-by : {A : Type 0} (o : Option A) → is_some o ≡ false → o ≡ None
none-by None e = refl
none-by (Some a) e = cc

pub entries-around : (prefix : Option (List ℕ)) (level : Forest) (v : Values) → is_some (block_of (codes "types") level) ≡ false → (over (stated prefix level) v).types.entries ≡ v.types.entries
unfolding stated
entries-around prefix level v t =
    let entries : entries_in level ≡ None = ap (λ t. cond t (Some (all_entries (blocks_of (codes "types") level))) None) t in
    ap (λ e. unwrap_or e v.types.entries) entries

pub types-around : (prefix : Option (List ℕ)) (level : Forest) (v : Values) → is_some (block_of (codes "types") level) ≡ false → is_some (block_of (codes "default_type") level) ≡ false
    → (over (stated prefix level) v).types ≡ v.types
unfolding stated
types-around prefix level v t d =
    let entries : entries_in level ≡ None = ap (λ t. cond t (Some (all_entries (blocks_of (codes "types") level))) None) t in
    let default : word_in (codes "default_type") level ≡ None = ap (option_and_then (λ b. first_word b.head.args)) (none-by (block_of (codes "default_type") level) d) in
    λ i. record { entries = unwrap_or (entries i) v.types.entries; default_type = unwrap_or (default i) v.types.default_type }
