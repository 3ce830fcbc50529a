-- The order of lines.
use Rattle.std.specs.Prelude.{◌==◌, ◌&&◌, ◌||◌, nat_lt, Bool}
use Rattle.source_lines.specs.declared.line.Line.{Line}

-- in a file that is read before, or above in the same file
abbrev pub is_before : Line → Line → Bool
is_before a b = nat_lt a.file b.file || ((a.file == b.file) && nat_lt a.line b.line)
