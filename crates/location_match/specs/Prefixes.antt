-- The prefixes among the locations of one list, and the longest that a path begins with
-- (https://nginx.org/en/docs/http/ngx_http_core_module.html#location).
use Rattle.std.specs.Prelude.{◌≡◌, ℕ, ◌+◌, ◌*◌, ◌^◌, ◌<◌, ◌≤◌, nat_eq, nat_lt, Bool, true, false, ◌&&◌, List, [], length, Option, None, Some, slice_index_or}
use Rattle.std.specs.List.{starts_with, count_by}
use Rattle.std.specs.Ordering.{nat_cmp, is_le}
use Rattle.std.specs.Cmp.Lexicographic.{slice_cmp}

-- the prefixes of a list of locations, in order: their texts, and the numbers of their locations
pub record PrefixList : Type 0 where
  pub texts : List (List ℕ)
  pub locations : List ℕ

-- the text at a place
abbrev pub text_at : List (List ℕ) → ℕ → List ℕ
text_at texts place = slice_index_or texts place []

-- the path begins with the text
abbrev pub fits : (path text : List ℕ) → Bool
fits path text = starts_with nat_eq path text

-- a text is a proper prefix of another
abbrev pub is_inside : (text other : List ℕ) → Bool
is_inside text other = fits other text && nat_lt (length text) (length other)

-- a text is at most another, by their bytes; a text comes before those that begin with it
abbrev pub is_at_most : (text other : List ℕ) → Bool
is_at_most text other = is_le (slice_cmp nat_cmp text other)

-- each text is below those after it
abbrev pub AreSorted : List (List ℕ) → Type 0
AreSorted texts = (i j : ℕ) → i < j → j < length texts → is_at_most (text_at texts j) (text_at texts i) ≡ false

-- the text is above all of these
abbrev pub IsAboveAll : List (List ℕ) → List ℕ → Type 0
IsAboveAll texts text = (place : ℕ) → place < length texts → is_at_most text (text_at texts place) ≡ false

-- the nearest place leads to the longest of the texts before this one that are proper prefixes of it
abbrev pub LeadsTo : List (List ℕ) → ℕ → Option ℕ → Type 0
LeadsTo texts place None = (other : ℕ) → other < place → is_inside (text_at texts other) (text_at texts place) ≡ false
LeadsTo texts place (Some nearest) =
    (nearest < place) × (is_inside (text_at texts nearest) (text_at texts place) ≡ true)
    × ((other : ℕ) → other < place → is_inside (text_at texts other) (text_at texts place) ≡ true →
    fits (text_at texts nearest) (text_at texts other) ≡ true)

-- each text has its nearest place
abbrev pub AreNested : List (List ℕ) → List (Option ℕ) → Type 0
AreNested texts nearest = (place : ℕ) → place < length texts → LeadsTo texts place (slice_index_or nearest place None)

-- the text at the place begins with each one that the path begins with
abbrev pub Covers : List (List ℕ) → List ℕ → ℕ → Type 0
Covers texts path place = (other : ℕ) → other < length texts → fits path (text_at texts other) ≡ true →
    fits (text_at texts place) (text_at texts other) ≡ true

-- ---- the answer

-- the path begins with the text at the place, and with none that is longer
pub record IsLongest (texts : List (List ℕ)) (path : List ℕ) (place : ℕ) : Type 0 where
  pub inside : place < length texts
  pub begins : fits path (text_at texts place) ≡ true
  pub longest : (other : ℕ) → other < length texts → fits path (text_at texts other) ≡ true →
      length (text_at texts other) ≤ length (text_at texts place)

-- the path begins with none of the texts
abbrev pub FitsNone : List (List ℕ) → List ℕ → Type 0
FitsNone texts path = (place : ℕ) → place < length texts → fits path (text_at texts place) ≡ false

-- ---- the steps

-- the text at the place is the greatest that isn't above the path
pub record IsGreatest (texts : List (List ℕ)) (path : List ℕ) (place : ℕ) : Type 0 where
  pub inside : place < length texts
  pub below : is_at_most (text_at texts place) path ≡ true
  pub greatest : (other : ℕ) → other < length texts → is_at_most (text_at texts other) path ≡ true →
      is_at_most (text_at texts other) (text_at texts place) ≡ true

-- all texts are above the path
abbrev pub AreAbove : List (List ℕ) → List ℕ → Type 0
AreAbove texts path = (place : ℕ) → place < length texts → is_at_most (text_at texts place) path ≡ false

-- how many texts are proper prefixes of the one at the place
abbrev pub depth_at : List (List ℕ) → ℕ → ℕ
depth_at texts place = count_by (λ t. is_inside t (text_at texts place)) texts

-- the steps between two counts are those of a search by halves among this many
pub record IsHalved (count before after : ℕ) : Type 0 where
  pub halvings : ℕ
  pub few : 2 ^ halvings ≤ 2 * count + 1
  pub taken : after ≡ before + halvings

-- The steps are those of a search by halves, and then one look at the greatest text that isn't above the path and one at each of
-- its proper prefixes at most.
pub record IsFast (texts : List (List ℕ)) (path : List ℕ) (steps : ℕ) : Type 0 where
  pub halvings : ℕ
  pub few : 2 ^ halvings ≤ 2 * length texts + 1
  pub none : AreAbove texts path → steps ≤ halvings
  pub some : (place : ℕ) → IsGreatest texts path place → steps ≤ halvings + 1 + depth_at texts place
