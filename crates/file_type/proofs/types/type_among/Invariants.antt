use Rattle.std.proofs.Common.{◌≡◌, drop}
use Rattle.file_type.specs.Types.{type_among}
use Rattle.file_type.specs.Buckets.{entries_at}
use Rattle.file_type.proofs.types.type_among.Given as goal

-- the entries at the places left find what those at all find
abbrev pub invariant-loop-place : goal.invariant-loop-place
invariant-loop-place l = type_among l.found (entries_at (drop l.place-index l.places) l.entries) l.wanted ≡ type_among l.fn.before (entries_at l.fn.places l.fn.entries) l.fn.wanted
