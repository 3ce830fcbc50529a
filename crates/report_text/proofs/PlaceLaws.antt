-- Places, one after another.
use Rattle.std.proofs.Common.{◌≡◌, ℕ, List, [], ◌++◌, map, get_or, drop, length, ◌<◌, ◌≤◌, ◌+◌, sym, append_assoc, append-nil}
use Rattle.std.specs.Prelude.{◌∷◌, codes, decimal, slice_index_or, if◌then◌else◌}
use Rattle.std.proofs.lemmas.List.{drop_more, drop_all}
use Rattle.source_lines.specs.declared.line.Line.{Line}
use Rattle.report_text.specs.Faults.{place_text}
use Rattle.report_text.specs.Escapes.{escaped}
use Rattle.report_text.specs.Lines.{ended}
use Rattle.report_text.specs.Report.{spaced}
use Rattle.report_text.specs.Races.{Race, place_of, places_text, race_line}

module _ (files : List ℕ) (paths : List (List ℕ)) (lines : List Line) where
  pub place_more : (out next path : List ℕ) (i : ℕ) (d : Line) → i < length lines → path ≡ slice_index_or paths (slice_index_or files (get_or lines i d).file 0) [] → next ≡ out ++ place_text path (get_or lines i d).line → next ++ places_text (map (place_of files paths) (drop (i + 1) lines)) ≡ out ++ places_text (map (place_of files paths) (drop i lines))
  place_more out next path i d inside p e =
      rw (e, p, drop_more lines i d inside) (append_assoc out (place_text (slice_index_or paths (slice_index_or files (get_or lines i d).file 0) []) (get_or lines i d).line) (places_text (map (place_of files paths) (drop (i + 1) lines))))

  pub place_done : (out : List ℕ) (i : ℕ) → length lines ≤ i → out ≡ out ++ places_text (map (place_of files paths) (drop i lines))
  place_done out i h = rw (drop_all i lines h) (sym (append-nil out))

-- the line of a variable, part after part
all_parts : (o a b d e f g h i j k : List ℕ) → (((((((((o ++ a) ++ b) ++ d) ++ e) ++ f) ++ g) ++ h) ++ i) ++ j) ++ k ≡ o ++ (((((((((a ++ b) ++ d) ++ e) ++ f) ++ g) ++ h) ++ i) ++ j) ++ k)
all_parts o a b d e f g h i j k = simp append_assoc

pub whole_race : (r : Race) (o a b d e f g h i j k : List ℕ) → a ≡ o ++ codes "race" → b ≡ a ++ spaced (decimal r.server) → d ≡ b ++ codes " $" → e ≡ d ++ escaped r.name → f ≡ e ++ codes " set" → g ≡ f ++ places_text r.sets → h ≡ g ++ codes " read" → i ≡ h ++ places_text r.reads
    → j ≡ i ++ (if r.documents then spaced (codes "documents") else []) → k ≡ j ++ 10 ∷ [] → k ≡ o ++ ended (race_line r)
unfolding race_line ended
whole_race r o a b d e f g h i j k is_a is_b is_d is_e is_f is_g is_h is_i is_j is_k =
    rw (is_k, is_j, is_i, is_h, is_g, is_f, is_e, is_d, is_b, is_a)
    (all_parts o (codes "race") (spaced (decimal r.server)) (codes " $") (escaped r.name) (codes " set") (places_text r.sets) (codes " read") (places_text r.reads) (if r.documents then spaced (codes "documents") else []) (10 ∷ []))
