-- What the numbers of levels and of lists of media types mean.
use Rattle.std.specs.Prelude.{ℕ, slice_get, unwrap_or}
use Rattle.file_type.specs.Types.{TypeList}
use Rattle.site_model.specs.declared.site.Level.{Level}
use Rattle.site_model.specs.declared.site.Site.{Site}

-- the media types with a number
unfoldable pub types_at : Site → ℕ → TypeList
types_at site number = unwrap_or (slice_get site.types.items number) site.plain

-- the level with a number
unfoldable pub raw_level : Site → ℕ → Level
raw_level site number = unwrap_or (slice_get site.levels.items number) site.outside
