-- What comes before by the order of lines.
use Rattle.std.proofs.Common.{◌≡◌, ◌==◌, ◌&&◌, Bool, true, arith}
use Rattle.std.specs.declared.cmp.Ordering.{Ordering}
use Rattle.std.specs.declared.cmp.Ordering.TheVariants.{Less}
use Rattle.std.specs.Ordering.{nat_cmp, ordering_then}
use Rattle.std.proofs.lemmas.Bool.Decides.{nat_tests}
use Rattle.source_lines.specs.declared.line.Line.{Line}
use Rattle.source_lines.specs.Lines.{is_before}

abbrev pub line_cmp : Line → Line → Ordering
line_cmp a b = ordering_then (nat_cmp a.file b.file) (nat_cmp a.line b.line)

abbrev pub same_line : Line → Line → Bool
same_line a b = (a.file == b.file) && (a.line == b.line)

pub less_before : (a b : Line) → line_cmp a b ≡ Less → is_before a b ≡ true
less_before a b less = grind (arith, nat_tests, less)

pub same_is : (a b : Line) → same_line a b ≡ true → a ≡ b
same_is a b same = grind (arith, nat_tests, same)
