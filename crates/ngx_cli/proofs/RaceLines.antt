-- The lines of the variables that are named, as they are printed.
use Rattle.std.proofs.Common.{◌≡◌, ℕ, ◌+◌, ◌<◌, ◌≤◌, Bool, List, [], ◌∷◌, ◌++◌, map, get_or, drop, length, refl, sym, ap, ◌∙◌}
use Rattle.source_lines.specs.declared.line.Line.{Line}
use Rattle.conf_races.specs.race_places.Places.{source_at, seen, conflict_seen}
use Rattle.conf_races.specs.race_places.declared.told.Conflict.{Conflict as Told}
use Rattle.conf_races.specs.Runs.{run_path}
use Rattle.report_text.specs.Lines.{ended, lines_text}
use Rattle.report_text.specs.Races.{Race, place_of, race_line}
use Rattle.report_text.proofs.LineLaws.{line_more, line_done}
use Rattle.ngx_cli.specs.Sites.{path_in}
use Rattle.ngx_cli.specs.Checks.{place_at, conflict_line}

fused : {A B C : Type 0} (f : A → B) (g : B → C) (xs : List A) → map g (map f xs) ≡ map (λ x. g (f x)) xs
fused f g [] = refl
fused f g (x ∷ xs) = ap (λ l. g (f x) ∷ l) (fused f g xs)

module _ (files : List ℕ) (paths : List (List ℕ)) where
  abbrev pub line_of : Told → List ℕ
  line_of c = conflict_line (conflict_seen (run_path (path_in paths) files) c)

  abbrev raced : ℕ → List ℕ → List Line → List Line → Bool → Race
  raced server name sets reads documents = record {
    server = server;
    name = name;
    sets = map (place_of files paths) sets;
    reads = map (place_of files paths) reads;
    documents = documents;
  }

  places : (lines : List Line) → map (place_of files paths) lines ≡ map place_at (map (source_at (run_path (path_in paths) files)) lines)
  places lines = sym (fused (source_at (run_path (path_in paths) files)) place_at lines)

  pub same_line : (c : Told) (server : ℕ) (name : List ℕ) (sets reads : List Line) (documents : Bool) → server ≡ c.server → name ≡ c.name → sets ≡ c.sets.items → reads ≡ c.reads.items → documents ≡ c.documents → race_line (raced server name sets reads documents) ≡ line_of c
  same_line c server name sets reads documents s n a b d =
      ap (λ x. race_line (raced x name sets reads documents)) s
      ∙ ap (λ x. race_line (raced c.server x sets reads documents)) n
      ∙ ap (λ x. race_line (raced c.server c.name x reads documents)) a
      ∙ ap (λ x. race_line (raced c.server c.name c.sets.items x documents)) b
      ∙ ap (λ x. race_line (raced c.server c.name c.sets.items c.reads.items x)) d
      ∙ ap (λ (x : List _). race_line (record { server = c.server; name = c.name; sets = x; reads = map (place_of files paths) c.reads.items; documents = c.documents })) (places c.sets.items)
      ∙ ap (λ (x : List _). race_line (record { server = c.server; name = c.name; sets = map place_at (map (source_at (run_path (path_in paths) files)) c.sets.items); reads = x; documents = c.documents })) (places c.reads.items)

  pub race_more : (races : List Told) (out next line : List ℕ) (i : ℕ) (d : Told) → i < length races → line ≡ line_of (get_or races i d) → next ≡ out ++ ended line → next ++ lines_text (map line_of (drop (i + 1) races)) ≡ out ++ lines_text (map line_of (drop i races))
  race_more races out next line i d inside l e = line_more line_of races out next i d inside (e ∙ ap (λ t. out ++ ended t) l)

  pub race_done : (races : List Told) (out : List ℕ) (i : ℕ) → length races ≤ i → out ≡ out ++ lines_text (map line_of (drop i races))
  race_done races out i h = line_done line_of races out i h

  pub whole_text : (races : List Told) (out : List ℕ) → out ++ lines_text (map line_of races) ≡ out ++ lines_text (map conflict_line (map (conflict_seen (run_path (path_in paths) files)) races))
  whole_text races out = ap (λ t. out ++ lines_text t) (sym (fused (conflict_seen (run_path (path_in paths) files)) conflict_line races))
