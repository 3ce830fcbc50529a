-- The end of a path.
use Rattle.std.proofs.Common.{◌≡◌, ◌⊎◌, ℕ, Bool, List, [], ◌∷◌, ◌++◌, Option, None, Some, Result, Ok, Err, refl, sym, ap, ◌∙◌, drop, ⊎_elim}
use Rattle.std.specs.Prelude.{option_and_then}
use Rattle.uri_text.specs.declared.fault.UriFault.{UriFault}
use Rattle.uri_text.specs.declared.fault.UriFault.TheVariants.{AboveRoot}
use Rattle.uri_text.specs.declared.segment.Segment.{Segment}
use Rattle.uri_text.specs.declared.segment.Segment.TheVariants.{Empty, Dot, Dots, Name}
use Rattle.uri_text.specs.Target.{kind_of, entered, resolved, spelled, last_folder, last_name, path_with, path_from}
use Rattle.uri_text.specs.Steps.{Stands, SpellsAll}
use Rattle.uri_text.proofs.Entering.{kind_left}

-- the path where the last segment is of this kind
abbrev pub ended : Bool → List (List ℕ) → List ℕ → Segment → Result (List ℕ) UriFault
ended merge kept segment kind = path_with (last_name kind segment) (resolved merge kept (last_folder kind segment))

pub ended-is : (merge : Bool) (kept : List (List ℕ)) (segment : List ℕ) (kind : Segment) → kind_of segment ≡ kind → path_from merge kept (record { folders = []; name = segment }) None ≡ ended merge kept segment kind
unfolding path_from
ended-is merge kept segment kind is = ap (ended merge kept segment) is

pub one_folder : (merge : Bool) (kept : List (List ℕ)) (segment : List ℕ) → path_with [] (resolved merge kept (segment ∷ [])) ≡ path_with [] (entered merge (kind_of segment) segment kept)
unfolding resolved
one_folder merge kept segment = elim (entered merge (kind_of segment) segment kept) as (λ stay. path_with [] (option_and_then (λ k. resolved merge k []) stay) ≡ path_with [] stay) [ None ↦ refl | Some k ↦ refl ]

-- a last `.` or `..`
pub path_from-dots : (merge : Bool) (kept : List (List ℕ)) (segment text : List ℕ) (start : ℕ) (kind : Segment) → Stands kept segment text start → kind ≡ kind_of (drop start text) → (kind ≡ Dot) ⊎ (kind ≡ Dots) → path_from merge kept (record { folders = []; name = segment }) None ≡ path_with [] (entered merge (kind_of segment) segment kept)
path_from-dots merge kept segment text start kind s is which =
    ⊎_elim
    (λ e. ended-is merge kept segment Dot (kind_left kept segment text start kind s is ∙ e) ∙ one_folder merge kept segment)
    (λ e. ended-is merge kept segment Dots (kind_left kept segment text start kind s is ∙ e) ∙ one_folder merge kept segment)
    which

pub path_with-spells : (stay : Option (List (List ℕ))) (text : List ℕ) (start : ℕ) → SpellsAll stay text start → path_with [] stay ≡ Ok text
path_with-spells None text start spells = absurd spells
path_with-spells (Some kept) text start spells = ap Ok (sym spells.spells)

pub path_with-above : (stay : Option (List (List ℕ))) (f : UriFault) → (f ≡ AboveRoot) × (stay ≡ None) → path_with [] stay ≡ Err f
path_with-above stay f above = ap (path_with []) above.1 ∙ ap Err (sym above.0)

pub no_folder : (merge : Bool) (kept : List (List ℕ)) (segment : List ℕ) → path_with segment (resolved merge kept []) ≡ Ok (spelled kept ++ segment)
unfolding resolved
no_folder merge kept segment = refl

-- any other last segment
pub path_from-name : (merge : Bool) (kept : List (List ℕ)) (segment text : List ℕ) (start : ℕ) (kind : Segment) → Stands kept segment text start → kind ≡ kind_of (drop start text) → (kind ≡ Empty) ⊎ (kind ≡ Name) → path_from merge kept (record { folders = []; name = segment }) None ≡ Ok text
path_from-name merge kept segment text start kind s is which =
    ⊎_elim
    (λ e. ended-is merge kept segment Empty (kind_left kept segment text start kind s is ∙ e) ∙ no_folder merge kept segment ∙ ap Ok (sym s.spells))
    (λ e. ended-is merge kept segment Name (kind_left kept segment text start kind s is ∙ e) ∙ no_folder merge kept segment ∙ ap Ok (sym s.spells))
    which
