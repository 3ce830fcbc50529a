-- What the steps over a target's bytes keep.
use Rattle.std.specs.Prelude.{◌≡◌, ℕ, ◌+◌, ◌-◌, ◌<◌, Bool, true, not, ◌||◌, ◌==◌, nat_lt, List, [], ◌++◌, length, Option, Some, None, Result, is_ok, if◌then◌else◌}
use Rattle.std.specs.List.{list_all}
use Rattle.uri_text.specs.declared.fault.UriFault.{UriFault}
use Rattle.uri_text.specs.declared.segment.Segment.{Segment}
use Rattle.uri_text.specs.declared.segment.Segment.TheVariants.{Empty, Dot, Dots, Name}
use Rattle.uri_text.specs.declared.front.Front.{Front}
use Rattle.uri_text.specs.declared.front.Front.TheVariants.{End, Byte, Fault}
use Rattle.uri_text.specs.Target.{slash, percent, dot, faulty, with_byte, decoded, kind_of, segments, spelled, path_from}

-- no byte is a slash
abbrev pub has_no_slash : List ℕ → Bool
has_no_slash bytes = list_all (λ b. not (b == slash)) bytes

abbrev pub have_no_slash : List (List ℕ) → Bool
have_no_slash folders = list_all has_no_slash folders

-- the text spells these folders, the last first, and after them, from `start` on, a segment that isn't whole
pub record Stands (kept : List (List ℕ)) (segment text : List ℕ) (start : ℕ) : Type 0 where
  pub spells : text ≡ spelled kept ++ segment
  pub starts : start ≡ length (spelled kept)
  pub folders_free : have_no_slash kept ≡ true
  pub segment_free : has_no_slash segment ≡ true

-- the text spells the folders that stay, and `start` is its end
abbrev pub SpellsAll : Option (List (List ℕ)) → List ℕ → ℕ → Type 0
SpellsAll None text start = ⊥
SpellsAll (Some kept) text start = Stands kept [] text start

-- a byte that spells itself and ends no segment
abbrev pub is_plain : ℕ → Bool
is_plain b = not (b == slash || b == percent)

-- what a text with escapes begins with
abbrev pub IsFront : List ℕ → Front → Type 0
IsFront text End = text ≡ []
IsFront text (Byte b rest) = (decoded text ≡ with_byte b (decoded rest.now)) × (length rest.now < length text)
IsFront text (Fault fault) = decoded text ≡ faulty fault

-- a segment with one more byte
unfoldable pub kind_with : Segment → ℕ → Segment
kind_with Empty b = if b == dot then Dot else Name
kind_with Dot b = if b == dot then Dots else Name
kind_with Dots b = Name
kind_with Name b = Name

-- how many folders there are after one more segment
unfoldable pub depth_with : Bool → Segment → ℕ → Option ℕ
depth_with merge Empty depth = if merge then Some depth else Some (depth + 1)
depth_with merge Dot depth = Some depth
depth_with merge Dots depth = if nat_lt 0 depth then Some (depth - 1) else None
depth_with merge Name depth = Some (depth + 1)

-- the path that a text names after the folders that were kept and a segment that isn't whole
unfoldable pub path_behind : Bool → List (List ℕ) → List ℕ → List ℕ → Result (List ℕ) UriFault
path_behind merge kept segment rest =
    path_from merge kept (segments (segment ++ (decoded rest).bytes)) (decoded rest).fault

-- With this text and the rest, the path comes to what the whole text gives.
pub record Leads (merge : Bool) (whole : Result (List ℕ) UriFault) (rest text : List ℕ) (start : ℕ) : Type 0 where
  pub kept : List (List ℕ)
  pub segment : List ℕ
  pub stands : Stands kept segment text start
  pub same : path_behind merge kept segment rest ≡ whole

-- With `depth` folders, a segment of this kind and the rest, there is a path where the whole text has one.
pub record Counts (merge whole : Bool) (rest : List ℕ) (depth : ℕ) (kind : Segment) : Type 0 where
  pub kept : List (List ℕ)
  pub segment : List ℕ
  pub depth_is : depth ≡ length kept
  pub kind_is : kind ≡ kind_of segment
  pub segment_free : has_no_slash segment ≡ true
  pub same : is_ok (path_behind merge kept segment rest) ≡ whole
