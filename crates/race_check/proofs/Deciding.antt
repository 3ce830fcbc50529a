-- What marks decide of a variable is what its server's meaning says.
use Rattle.std.proofs.Common.{◌≡◌, ℕ, ◌||◌, ◌&&◌, Bool, true, false, not, List, [], ◌∷◌, ◌++◌, map, filter, flat_map, is_some, bytes_eq, refl, ap, sym, ◌∙◌, None}
use Rattle.std.specs.List.{list_any, list_all}
use Rattle.std.specs.List.Sorted.{IsStrictlySortedBy}
use Rattle.std.specs.Ordering.{nat_cmp}
use Rattle.std.specs.Cmp.Lexicographic.{slice_cmp, nat_list_eq_equiv}
use Rattle.std.proofs.lemmas.List.Kept.{IsStrictlySortedBy-filter}
use Rattle.std.proofs.lemmas.Map.Views.{any-filter_same}
use Rattle.std.proofs.lemmas.Slice.Eq.{bytes_eq-Decides}
use Rattle.site_model.specs.Levels.{raw_level}
use Rattle.site_model.specs.declared.site.Server.{Server}
use Rattle.site_model.specs.declared.site.Site.{Site}
use Rattle.site_views.specs.Pattern.{Pattern}
use Rattle.site_views.specs.Values.{Values}
use Rattle.site_views.specs.Rewrites.{Program}
use Rattle.site_views.specs.Views.{LevelView, ServerView}
use Rattle.site_whole.specs.Whole.{values_seen, program_seen, level_whole, server_whole}
use Rattle.race_meaning.specs.Levels.{programs, all_values}
use Rattle.race_meaning.specs.Reads.{in_values, is_private_in}
use Rattle.race_meaning.specs.Named.{has_parts, is_open, set_text, set_texts, is_one_text, is_set, auth_sets_it, begins_with_set, is_fixed, is_private, is_shown, is_named}
use Rattle.race_check.specs.declared.first.FirstLists.{FirstLists}
use Rattle.race_check.specs.declared.names.NameSet.{NameSet}
use Rattle.race_check.specs.declared.texts.SetTexts.{SetTexts}
use Rattle.race_check.specs.declared.conflict.Named.{Named}
use Rattle.race_check.specs.declared.conflict.Marks.{Marks}
use Rattle.race_check.specs.Names.{has}
use Rattle.race_check.specs.Numbers.{level_numbers, value_numbers}
use Rattle.race_check.specs.Texts.{known, told, is_one}
use Rattle.race_check.specs.Told.{has_or_all, is_exposed, has_one_value, AreMarks, is_marked, AllSet, marked, named_at, HasNamed}
use Rattle.race_check.proofs.Lists.{any_map, all_map, flat_of_map}
use Rattle.race_check.proofs.Numbering.{levels_seen, values_seen_all}
use Rattle.race_check.proofs.Telling.{is_one_told, is_some_told}

pub any_alike : {X : Type 0} (p q : X → Bool) → ((x : X) → p x ≡ q x) → (xs : List X) → list_any p xs ≡ list_any q xs
any_alike p q e [] = refl
any_alike p q e (x ∷ xs) = ap (λ b. b || list_any p xs) (e x) ∙ ap (λ b. q x || b) (any_alike p q e xs)

map_alike : {X Y : Type 0} (f g : X → Y) → ((x : X) → f x ≡ g x) → (xs : List X) → map f xs ≡ map g xs
map_alike f g e [] = refl
map_alike f g e (x ∷ xs) = ap (λ y. y ∷ map f xs) (e x) ∙ ap (λ l. g x ∷ l) (map_alike f g e xs)

-- the names of a list, asked from either side
pub any_turned : (name : List ℕ) (xs : List (List ℕ)) → list_any (λ x. bytes_eq x name) xs ≡ list_any (bytes_eq name) xs
any_turned name xs = any_alike (λ x. bytes_eq x name) (bytes_eq name) (λ x. nat_list_eq_equiv.symm x name) xs

module _ (patterns : List Pattern) (site : Site) (s : Server) where
  abbrev whole_server : ServerView
  whole_server = server_whole patterns site s

  -- ---- of all values

  pub any_values : (p : Values → Bool) → list_any (λ n. p (values_seen site (raw_level site n))) (value_numbers site (level_numbers s)) ≡ list_any p (all_values whole_server)
  any_values p =
      sym (any_map p (λ n. values_seen site (raw_level site n)) (value_numbers site (level_numbers s)))
      ∙ ap (list_any p) (values_seen_all patterns site s)

  pub opens : list_any (λ n. has_parts (values_seen site (raw_level site n))) (value_numbers site (level_numbers s)) ≡ is_open whole_server
  unfolding is_open
  opens = any_values has_parts

  -- ---- of all programs

  abbrev program_at : ℕ → Program
  program_at n = program_seen patterns site (raw_level site n)

  level_program : (n : ℕ) → (level_whole patterns site n).program ≡ program_at n
  unfolding level_whole
  level_program n = refl

  programs_at : programs whole_server ≡ map program_at (level_numbers s)
  unfolding programs level_whole
  programs_at =
      ap (map (λ (l : LevelView). l.program)) (sym (levels_seen patterns site s))
      ∙ mapped (level_numbers s)
    where
      mapped : (ns : List ℕ) → map (λ (l : LevelView). l.program) (map (level_whole patterns site) ns) ≡ map (λ n. program_seen patterns site (raw_level site n)) ns
      mapped [] = refl
      mapped (n ∷ ns) = ap (λ x. program_seen patterns site (raw_level site n) ∷ x) (mapped ns)

  texts_at : (name : List ℕ) → flat_map (λ n. flat_map (set_text name) (program_at n)) (level_numbers s) ≡ set_texts whole_server name
  unfolding set_texts
  texts_at name =
      sym (flat_of_map (λ (p : Program). flat_map (set_text name) p) program_at (level_numbers s))
      ∙ ap (flat_map (λ (p : Program). flat_map (set_text name) p)) (sym programs_at)

  all_programs : (p : Program → Bool) → list_all (λ n. p (program_at n)) (level_numbers s) ≡ list_all p (programs whole_server)
  all_programs p = sym (all_map p program_at (level_numbers s)) ∙ ap (list_all p) (sym programs_at)

  either : (a b : Bool) → (not b || a) ≡ not (not a && b)
  either true true = refl
  either true false = refl
  either false true = refl
  either false false = refl

  pub one_marked : (o : SetTexts) → ((name : List ℕ) → known o name ≡ told None (flat_map (λ n. flat_map (set_text name) (program_at n)) (level_numbers s))) →
      (name : List ℕ) → is_one (known o name) ≡ is_one_text (set_texts whole_server name)
  one_marked o e name = ap is_one (e name ∙ ap (told None) (texts_at name)) ∙ is_one_told (set_texts whole_server name)

  pub set_marked : (o : SetTexts) → ((name : List ℕ) → known o name ≡ told None (flat_map (λ n. flat_map (set_text name) (program_at n)) (level_numbers s))) →
      (name : List ℕ) → is_some (known o name) ≡ is_set whole_server name
  unfolding is_set
  set_marked o e name = ap is_some (e name ∙ ap (told None) (texts_at name)) ∙ is_some_told (set_texts whole_server name)

  pub private_marked : (read exposed : List ℕ → Bool) →
      ((name : List ℕ) → read name ≡ list_any (λ n. in_values name (values_seen site (raw_level site n))) (value_numbers site (level_numbers s))) →
      ((name : List ℕ) → exposed name ≡ (not (list_all (λ n. is_private_in name false 0 (program_at n)) (level_numbers s)) || read name)) →
      (name : List ℕ) → exposed name ≡ not (is_private whole_server name)
  unfolding is_private
  private_marked read exposed e g name =
      g name
      ∙ ap (λ b. not b || read name) (all_programs (is_private_in name false 0))
      ∙ ap (λ a. not (list_all (is_private_in name false 0) (programs whole_server)) || a) (e name ∙ any_values (in_values name))
      ∙ either (list_any (in_values name) (all_values whole_server)) (list_all (is_private_in name false 0) (programs whole_server))

  pub begins_marked : (first : NameSet) → ((name : List ℕ) → has first name ≡ begins_with_set name (program_at s.level)) →
      (name : List ℕ) → has first name ≡ begins_with_set name whole_server.level.program
  unfolding server_whole level_whole
  begins_marked first e name = e name

  -- ---- of levels and values that are those of the server

  module _ (levels values : List ℕ) (all : levels ≡ level_numbers s) (whole : values ≡ value_numbers site levels) where
    values_are : values ≡ value_numbers site (level_numbers s)
    values_are = whole ∙ ap (value_numbers site) all

    pub one_by : (o : SetTexts) → ((name : List ℕ) → known o name ≡ told None (flat_map (λ n. flat_map (set_text name) (program_at n)) levels)) →
        (name : List ℕ) → is_one (known o name) ≡ is_one_text (set_texts whole_server name)
    one_by o e = one_marked o (λ name. e name ∙ ap (λ l. told None (flat_map (λ n. flat_map (set_text name) (program_at n)) l)) all)

    pub set_by : (o : SetTexts) → ((name : List ℕ) → known o name ≡ told None (flat_map (λ n. flat_map (set_text name) (program_at n)) levels)) →
        (name : List ℕ) → is_some (known o name) ≡ is_set whole_server name
    set_by o e = set_marked o (λ name. e name ∙ ap (λ l. told None (flat_map (λ n. flat_map (set_text name) (program_at n)) l)) all)

    pub private_by : (read exposed : List ℕ → Bool) →
        ((name : List ℕ) → read name ≡ list_any (λ n. in_values name (values_seen site (raw_level site n))) values) →
        ((name : List ℕ) → exposed name ≡ (not (list_all (λ n. is_private_in name false 0 (program_at n)) levels) || read name)) →
        (name : List ℕ) → exposed name ≡ not (is_private whole_server name)
    private_by read exposed e g = private_marked read exposed
        (λ name. e name ∙ ap (list_any (λ n. in_values name (values_seen site (raw_level site n)))) values_are)
        (λ name. g name ∙ ap (λ l. not (list_all (λ n. is_private_in name false 0 (program_at n)) l) || read name) all)

    pub auth_by : (auth : List ℕ → Bool) → ((name : List ℕ) → auth name ≡ list_any (λ n. auth_sets_it name (values_seen site (raw_level site n))) values) →
        (name : List ℕ) → auth name ≡ list_any (auth_sets_it name) (all_values whole_server)
    auth_by auth e name = e name ∙ ap (list_any (λ n. auth_sets_it name (values_seen site (raw_level site n)))) values_are ∙ any_values (auth_sets_it name)

    pub documents_by : (b : Bool) → b ≡ list_any (λ n. (values_seen site (raw_level site n)).ssi) values → b ≡ list_any (λ (v : Values). v.ssi) (all_values whole_server)
    documents_by b e = e ∙ ap (list_any (λ n. (values_seen site (raw_level site n)).ssi)) values_are ∙ any_values (λ (v : Values). v.ssi)

    pub opens_by : (b : Bool) → b ≡ list_any (λ n. has_parts (values_seen site (raw_level site n))) values → is_open whole_server ≡ b
    opens_by b e = sym (e ∙ ap (list_any (λ n. has_parts (values_seen site (raw_level site n)))) values_are ∙ opens)

-- ---- the names

module _ (first : FirstLists) (server : ServerView) (marks : Marks) (are : AreMarks first server marks) (free : is_open server ≡ true) where
  shown_is : (name : List ℕ) → (marks.documents && has_or_all marks.visible name) ≡ is_shown server name
  unfolding is_shown
  shown_is name = ap (λ b. b && has_or_all marks.visible name) are.has_documents ∙ ap (λ b. list_any (λ (v : Values). v.ssi) (all_values server) && b) (are.seen name)

  fixed_is : (name : List ℕ) → has_one_value first marks name ≡ is_fixed server name
  unfolding is_fixed
  fixed_is name =
      ap (λ b. not b && is_one (known marks.texts name) && has marks.opening name) (are.by_auth name)
      ∙ ap (λ b. not (list_any (auth_sets_it name) (all_values server)) && b && has marks.opening name) (are.one name)
      ∙ ap (λ b. not (list_any (auth_sets_it name) (all_values server)) && is_one_text (set_texts server name) && b) (are.begins name)

  swapped : (o i f r : Bool) → o ≡ true → ((not f && r) && i) ≡ (o && i && not f && r)
  swapped o i f r e = ap (λ (b : Bool). b) (by i f r) ∙ ap (λ b. b && i && not f && r) (sym e)
    where
      by : (i f r : Bool) → ((not f && r) && i) ≡ (true && i && not f && r)
      by true true true = refl
      by true true false = refl
      by true false true = refl
      by true false false = refl
      by false true true = refl
      by false true false = refl
      by false false true = refl
      by false false false = refl

  pub marked_is : (name : List ℕ) → (is_marked first marks name && is_some (known marks.texts name)) ≡ is_named server name
  unfolding is_named
  marked_is name =
      ap (λ f. (not f && ((marks.documents && has_or_all marks.visible name) || is_exposed first marks name)) && is_some (known marks.texts name)) (fixed_is name)
      ∙ ap (λ d. (not (is_fixed server name) && (d || is_exposed first marks name)) && is_some (known marks.texts name)) (shown_is name)
      ∙ ap (λ p. (not (is_fixed server name) && (is_shown server name || p)) && is_some (known marks.texts name)) (are.not_private name)
      ∙ ap (λ i. (not (is_fixed server name) && (is_shown server name || not (is_private server name))) && i) (are.is_there name)
      ∙ swapped (is_open server) (is_set server name) (is_fixed server name) (is_shown server name || not (is_private server name)) free

  kept_names : (name : List ℕ) (xs : List (List ℕ)) → list_any (bytes_eq name) (filter (is_marked first marks) xs) ≡ (is_marked first marks name && list_any (bytes_eq name) xs)
  kept_names name xs = any-filter_same (bytes_eq name) (is_marked first marks) (is_marked first marks name) (λ k e. ap (is_marked first marks) (sym ((bytes_eq-Decides name k).0 e))) xs

  pub has_named : (number : ℕ) (names : List (List ℕ)) (old new : List Named) → AllSet marks.texts names →
      new ≡ old ++ map (marked number marks) (filter (is_marked first marks) names) → HasNamed number server old new
  has_named number names old new all e = (
    filter (is_marked first marks) names,
    record {
      exact = λ name. kept_names name names ∙ ap (λ b. is_marked first marks name && b) (all.all name) ∙ marked_is name;
      rising = IsStrictlySortedBy-filter (slice_cmp nat_cmp) (is_marked first marks) names all.rising;
    },
    e ∙ ap (λ l. old ++ l) (map_alike (marked number marks) (named_at number server) (λ name. ap (λ d. record { server = number; name = name; documents = d }) (shown_is name)) (filter (is_marked first marks) names)),
  )

pub none_named : (server : ServerView) (number : ℕ) (old : List Named) → is_open server ≡ false → HasNamed number server old old
unfolding is_named IsStrictlySortedBy
none_named server number old shut = (
  [],
  record { exact = λ name. ap (λ b. b && is_set server name && not (is_fixed server name) && (is_shown server name || not (is_private server name))) (sym shut); rising = tt },
  sym (append_nothing old),
)
  where
    append_nothing : (xs : List Named) → xs ++ [] ≡ xs
    append_nothing [] = refl
    append_nothing (x ∷ xs) = ap (λ l. x ∷ l) (append_nothing xs)
