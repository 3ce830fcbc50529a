-- The texts that the `set`s of a server give a variable, told of one after another.
use Rattle.std.specs.Prelude.{ℕ, Bool, true, false, List, [], ◌∷◌, Option, None, Some, if◌then◌else◌}
use Rattle.std.specs.List.{list_all}
use Rattle.std.specs.Ordering.{nat_cmp}
use Rattle.std.specs.Cmp.Lexicographic.{slice_cmp}
use Rattle.std.specs.BTreeMap.{get_by}
use Rattle.site_views.specs.Values.{Text}
use Rattle.race_meaning.specs.Named.{is_steady_piece, same_text}
use Rattle.race_check.specs.declared.texts.Texts.{Texts}
use Rattle.race_check.specs.declared.texts.Texts.TheVariants.{One, Several}
use Rattle.race_check.specs.declared.texts.SetTexts.{SetTexts}

-- what is known of the texts of a variable; none where no `set` sets it
unfoldable pub known : SetTexts → List ℕ → Option Texts
known texts name = get_by (λ key. slice_cmp nat_cmp name key.items) texts.texts

-- with one text more
abbrev pub with_text : Option Texts → Text → Texts
with_text None text = if list_all is_steady_piece text then One text else Several
with_text (Some (One first)) text = if same_text first text then One first else Several
with_text (Some Several) text = Several

unfoldable pub told : Option Texts → List Text → Option Texts
told texts [] = texts
told texts (text ∷ more) = told (Some (with_text texts text)) more

-- it is one text of literals and variables of the main request
abbrev pub is_one : Option Texts → Bool
is_one None = false
is_one (Some (One first)) = true
is_one (Some Several) = false
