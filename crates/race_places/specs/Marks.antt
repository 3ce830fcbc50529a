-- Which lists of lines were gone through, each with which list of values.
use Rattle.std.specs.Prelude.{◌≡◌, ℕ, ◌==◌, ◌&&◌, Bool, true, false, List, Option, None, Some, slice_get}
use Rattle.source_lines.specs.declared.line.Line.{Line}
use Rattle.site_model.specs.declared.site.Site.{Site}
use Rattle.site_views.specs.Values.{Text, IndexName, PageRule}
use Rattle.site_whole.specs.Whole.{index_at, pages_at, auth_sets_at}
use Rattle.race_meaning.specs.Reads.{in_text, in_target}
use Rattle.race_check.specs.declared.listed.ListKind.{ListKind}
use Rattle.race_check.specs.declared.listed.ListKind.TheVariants as kinds
use Rattle.race_places.specs.declared.index.LineIndex.{LineIndex}
use Rattle.race_places.specs.declared.marks.Mark.{Mark}
use Rattle.race_places.specs.Index.{at, is_among}
use Rattle.race_places.specs.Places.{lines_of, list_at}

abbrev pub same_kind : ListKind → ListKind → Bool
same_kind kinds.Index kinds.Index = true
same_kind kinds.Pages kinds.Pages = true
same_kind kinds.AuthSets kinds.AuthSets = true
same_kind a b = false

abbrev pub is_mark : Option (Option Mark) → ListKind → (values : ℕ) → Bool
is_mark None kind values = false
is_mark (Some None) kind values = false
is_mark (Some (Some mark)) kind values = same_kind mark.kind kind && (mark.values == values)

-- the list of lines of this number was gone through with this list of values
abbrev pub is_gone : List (Option Mark) → (lines : ℕ) → ListKind → (values : ℕ) → Bool
is_gone marks lines kind values = is_mark (slice_get marks lines) kind values

-- where a list of values reads a variable, by the lines of its values
abbrev pub list_reads : Site → ListKind → List ℕ → (values : Option ℕ) → List Line → List Line
list_reads site kinds.Index name values lines =
    lines_of (λ (i : IndexName). in_text name i.text) (index_at site values) lines
list_reads site kinds.Pages name values lines =
    lines_of (λ (r : PageRule). in_target name r.target) (pages_at site values) lines
list_reads site kinds.AuthSets name values lines =
    lines_of (λ (s : List ℕ × Text). in_text name s.1) (auth_sets_at site values) lines

-- what was gone through is there
abbrev pub AreThere : Site → List (List Line) → List (Option Mark) → LineIndex → Type 0
AreThere site lists marks index =
    (lines : ℕ) (kind : ListKind) (values : ℕ) → is_gone marks lines kind values ≡ true
    → (name : List ℕ) (line : Line)
    → is_among line (list_reads site kind name (Some values) (list_at lists (Some lines))) ≡ true
    → is_among line (at index name) ≡ true
