-- What is printed of a configuration that has no fault.
use Rattle.std.specs.Prelude.{ℕ, List, ◌++◌, codes, decimal}
use Rattle.report_text.specs.Lines.{ended}
use Rattle.report_text.specs.Report.{spaced}

-- `servers 1 locations 3`
unfoldable pub counts_text : (servers locations : ℕ) → List ℕ
counts_text servers locations = ended (codes "servers" ++ spaced (decimal servers) ++ codes " locations" ++ spaced (decimal locations))
