-- Lines by the names of variables.
use Rattle.std.specs.Prelude.{◌≡◌, ℕ, ◌==◌, ◌&&◌, ◌||◌, Bool, List, [], Option, None, Some, option_map}
use Rattle.std.specs.List.{list_any}
use Rattle.std.specs.Ordering.{nat_cmp}
use Rattle.std.specs.Cmp.Lexicographic.{slice_cmp}
use Rattle.std.specs.BTreeMap.{get_by}
use Rattle.source_lines.specs.declared.line.Line.{Line}
use Rattle.race_places.specs.declared.index.LineIndex.{LineIndex}

abbrev pub lines_in : Option (List Line) → List Line
lines_in None = []
lines_in (Some lines) = lines

-- the lines of a variable, none where the index doesn't have it
unfoldable pub at : LineIndex → List ℕ → List Line
at index name =
    lines_in (option_map (λ lines. lines.items)
    (get_by (λ key. slice_cmp nat_cmp name key.items) index.lines))

abbrev pub same_line : Line → Line → Bool
same_line a b = (a.file == b.file) && (a.line == b.line)

abbrev pub is_among : Line → List Line → Bool
is_among line lines = list_any (same_line line) lines

-- each variable has the lines that it had, and these
abbrev pub Gains : (old new : LineIndex) → (List ℕ → List Line) → Type 0
Gains old new more =
    (name : List ℕ) (line : Line)
    → is_among line (at new name) ≡ (is_among line (at old name) || is_among line (more name))
