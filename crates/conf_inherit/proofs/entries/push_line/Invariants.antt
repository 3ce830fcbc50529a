use Rattle.std.proofs.Common.{◌≡◌, ◌++◌, drop, map}
use Rattle.conf_inherit.specs.Values.{entry_with, line_entries}
use Rattle.conf_inherit.proofs.entries.push_line.Given as goal

-- the entries so far, and those of the extensions that are left
abbrev pub invariant-loop-extension : goal.invariant-loop-extension
invariant-loop-extension l = l.entries.items ++ map (entry_with l.line.name) (drop l.extension-index l.extension-items) ≡ l.fn.entries.items ++ line_entries l.line
