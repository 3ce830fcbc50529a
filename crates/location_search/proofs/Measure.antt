-- How far a search may still go: a location's number, and less than any where there is none.
use Rattle.std.proofs.Common.{ℕ, ◌+◌, Option, Some, None}

abbrev pub after : Option ℕ → ℕ
after None = 0
after (Some number) = number + 1
