-- What is printed of a variable that the race check names.
use Rattle.std.specs.Prelude.{ℕ, Bool, List, [], ◌++◌, map, flat_map, codes, decimal, slice_index_or, if◌then◌else◌}
use Rattle.source_lines.specs.declared.line.Line.{Line}
use Rattle.report_text.specs.declared.races.RaceReport.{RaceReport}
use Rattle.report_text.specs.Escapes.{escaped}
use Rattle.report_text.specs.Report.{spaced}
use Rattle.report_text.specs.Faults.{place_text}

-- a line of a file with this path
pub record FileLine : Type 0 where
  pub path : List ℕ
  pub line : ℕ

-- what is told: the server, from 1 on; the name; the places where it is set and where it is read; and whether documents
-- read it
pub record Race : Type 0 where
  pub server : ℕ
  pub name : List ℕ
  pub sets : List FileLine
  pub reads : List FileLine
  pub documents : Bool

-- a line, by the files of the runs of directives and these files' paths
abbrev pub place_of : (files : List ℕ) → (paths : List (List ℕ)) → Line → FileLine
place_of files paths l =
    record { path = slice_index_or paths (slice_index_or files l.file 0) []; line = l.line }

abbrev pub race_of : (files : List ℕ) → (paths : List (List ℕ)) → RaceReport → Race
race_of files paths r = record {
  server = r.server;
  name = r.name.now;
  sets = map (place_of files paths) r.sets.now;
  reads = map (place_of files paths) r.reads.now;
  documents = r.documents;
}

abbrev pub places_text : List FileLine → List ℕ
places_text places = flat_map (λ (p : FileLine). place_text p.path p.line) places

-- `race 1 $x set /c:5 /c:6 read documents`
unfoldable pub race_line : Race → List ℕ
race_line r =
    codes "race" ++ spaced (decimal r.server) ++ codes " $" ++ escaped r.name
    ++ codes " set" ++ places_text r.sets ++ codes " read" ++ places_text r.reads
    ++ (if r.documents then spaced (codes "documents") else [])
