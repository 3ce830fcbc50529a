-- What holds of every target and every path.
use Rattle.std.specs.Prelude.{◌≡◌, ℕ, ◌<◌, Bool, true, false, not, ◌&&◌, List, [], ◌∷◌, Option, Some, None, unwrap_or, Ok, is_ok, All}
use Rattle.std.specs.List.{list_all}
use Rattle.uri_text.specs.declared.segment.Segment.{Segment}
use Rattle.uri_text.specs.declared.segment.Segment.TheVariants.{Empty, Dot, Dots, Name}
use Rattle.uri_text.specs.Target.{slash, Segments, segments, kind_of, absolute_of, strip_slash, normal_of}
use Rattle.uri_text.specs.Escape.{needs_escape, escape_of}

-- a folder that is neither resolved nor merged
abbrev pub stays : Bool → Segment → Bool
stays merge Empty = not merge
stays merge Dot = false
stays merge Dots = false
stays merge Name = true

-- a last segment that isn't resolved
abbrev pub may_end : Segment → Bool
may_end Empty = true
may_end Dot = false
may_end Dots = false
may_end Name = true

abbrev pub stay : Bool → List (List ℕ) → Bool
stay merge folders = list_all (λ f. stays merge (kind_of f)) folders

abbrev pub are_normal : Bool → Segments → Bool
are_normal merge s = stay merge s.folders && may_end (kind_of s.name)

abbrev pub is_normal_behind : Bool → Option (List ℕ) → Bool
is_normal_behind merge None = false
is_normal_behind merge (Some text) = are_normal merge (segments text)

-- a path that begins with a slash and has no segment to resolve or, where slashes are merged, to merge
unfoldable pub is_normal : Bool → List ℕ → Bool
is_normal merge path = is_normal_behind merge (strip_slash path)

-- A path that a target names is normal: no `.` or `..` is left in it.
abbrev pub PathsAreNormal : Type 0
PathsAreNormal = (raw path args : List ℕ) (merge : Bool) → normal_of raw merge ≡ Ok (path, args) → is_normal merge path ≡ true

-- A normal path that needs no escape names itself.
abbrev pub NormalPathsStay : Type 0
NormalPathsStay = (path : List ℕ) (merge : Bool) → is_normal merge path ≡ true → All (λ b. needs_escape b ≡ false) path → normal_of path merge ≡ Ok (path, [])

-- A normal path of bytes other than zero, written with escapes, names itself.
abbrev pub EscapedPathsAreReadBack : Type 0
EscapedPathsAreReadBack = (path : List ℕ) (merge : Bool) → is_normal merge path ≡ true → All (λ b. (0 < b) × (b < 256)) path → normal_of (escape_of path) merge ≡ Ok (path, [])

-- A target that names a path where slashes are merged names one where they aren't.
abbrev pub MergedTargetsPass : Type 0
MergedTargetsPass = (raw : List ℕ) → is_ok (normal_of raw true) ≡ true → is_ok (normal_of raw false) ≡ true

-- A target `http://host..` names what comes after its host, with a slash before it where it has none.
abbrev pub AbsoluteFormsNameTheirPath : Type 0
AbsoluteFormsNameTheirPath = (raw host rest : List ℕ) (merge : Bool) → absolute_of raw ≡ Some (host, rest) → normal_of raw merge ≡ normal_of (slash ∷ unwrap_or (strip_slash rest) rest) merge
