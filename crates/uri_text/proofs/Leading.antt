-- The steps of the loops over a text with escapes.
use Rattle.std.proofs.Common.{◌≡◌, ℕ, Bool, true, List, [], ◌∷◌, ◌++◌, Option, None, Some, Result, Err, take, drop, refl, sym, ap, ◌∙◌, append_assoc, append-nil, take-append-drop}
use Rattle.std.specs.Prelude.{option_and_then}
use Rattle.uri_text.specs.declared.fault.UriFault.{UriFault}
use Rattle.uri_text.specs.declared.fault.UriFault.TheVariants.{AboveRoot}
use Rattle.uri_text.specs.Target.{Decoded, Segments, nothing, faulty, with_byte, decoded, segments, kind_of, entered, resolved, spelled, last_folder, last_name, path_with, fault_behind, path_from, path_of}
use Rattle.uri_text.specs.Steps.{has_no_slash, is_plain, Stands, SpellsAll, path_behind, Leads}
use Rattle.std.specs.List.{prefix_len, list_all}
use Rattle.std.proofs.lemmas.Bool.{and_parts}
use Rattle.uri_text.proofs.Decoding.{decoded-nil, decoded-plain}
use Rattle.uri_text.proofs.Cutting.{segments-folder, segments-name, has_no_slash-push, has_no_slash-run, plain-parts, plain_front}

abbrev pub only : List ℕ → Segments
only segment = record { folders = []; name = segment }

abbrev with_folder : List ℕ → Segments → Segments
with_folder f s = record { folders = f ∷ s.folders; name = s.name }

-- what a segment and these bytes come to
abbrev joined : Bool → List (List ℕ) → List ℕ → Decoded → Result (List ℕ) UriFault
joined merge kept segment d = path_from merge kept (segments (segment ++ d.bytes)) d.fault

path_behind-is : (merge : Bool) (kept : List (List ℕ)) (segment rest : List ℕ) (d : Decoded) → decoded rest ≡ d → path_behind merge kept segment rest ≡ joined merge kept segment d
unfolding path_behind
path_behind-is merge kept segment rest d is = ap (joined merge kept segment) is

abbrev behind_folders : Bool → Option (List (List ℕ)) → Segments → Option UriFault → Result (List ℕ) UriFault
behind_folders merge None s fault = Err AboveRoot
behind_folders merge (Some kept) s fault = path_from merge kept s fault

-- one folder
path_from-folder : (merge : Bool) (kept : List (List ℕ)) (f : List ℕ) (s : Segments) (fault : Option UriFault) → path_from merge kept (with_folder f s) fault ≡ behind_folders merge (entered merge (kind_of f) f kept) s fault
unfolding path_from resolved
path_from-folder merge kept f s None =
    elim (entered merge (kind_of f) f kept) as (λ stay. path_with (last_name (kind_of s.name) s.name) (option_and_then (λ k. resolved merge k (s.folders ++ last_folder (kind_of s.name) s.name)) stay) ≡ behind_folders merge stay s None) [ None ↦ refl | Some k ↦ refl ]
path_from-folder merge kept f s (Some fault) =
    elim (entered merge (kind_of f) f kept) as (λ stay. fault_behind fault (option_and_then (λ k. resolved merge k s.folders) stay) ≡ behind_folders merge stay s (Some fault)) [ None ↦ refl | Some k ↦ refl ]

abbrev pub behind_entered : Bool → Option (List (List ℕ)) → List ℕ → Result (List ℕ) UriFault
behind_entered merge None rest = Err AboveRoot
behind_entered merge (Some kept) rest = path_behind merge kept [] rest

behind_both : (merge : Bool) (stay : Option (List (List ℕ))) (rest : List ℕ) → behind_folders merge stay (segments (decoded rest).bytes) (decoded rest).fault ≡ behind_entered merge stay rest
unfolding path_behind
behind_both merge None rest = refl
behind_both merge (Some kept) rest = refl

pub path_behind-slash : (merge : Bool) (kept : List (List ℕ)) (segment rest behind : List ℕ) → has_no_slash segment ≡ true → decoded rest ≡ with_byte 47 (decoded behind) → path_behind merge kept segment rest ≡ behind_entered merge (entered merge (kind_of segment) segment kept) behind
path_behind-slash merge kept segment rest behind free is =
    path_behind-is merge kept segment rest (with_byte 47 (decoded behind)) is
    ∙ ap (λ s. path_from merge kept s (decoded behind).fault) (segments-folder segment (decoded behind).bytes free)
    ∙ path_from-folder merge kept segment (segments (decoded behind).bytes) (decoded behind).fault
    ∙ behind_both merge (entered merge (kind_of segment) segment kept) behind

joined-byte : (merge : Bool) (kept : List (List ℕ)) (segment : List ℕ) (b : ℕ) (behind : List ℕ) → joined merge kept segment (with_byte b (decoded behind)) ≡ path_behind merge kept (segment ++ b ∷ []) behind
unfolding path_behind
joined-byte merge kept segment b behind = ap (λ bytes. path_from merge kept (segments bytes) (decoded behind).fault) (sym (append_assoc segment (b ∷ []) (decoded behind).bytes))

pub path_behind-byte : (merge : Bool) (kept : List (List ℕ)) (segment : List ℕ) (b : ℕ) (rest behind : List ℕ) → decoded rest ≡ with_byte b (decoded behind) → path_behind merge kept segment rest ≡ path_behind merge kept (segment ++ b ∷ []) behind
path_behind-byte merge kept segment b rest behind is = path_behind-is merge kept segment rest _ is ∙ joined-byte merge kept segment b behind

-- a run of plain bytes
pub path_behind-run : (merge : Bool) (kept : List (List ℕ)) (segment run behind : List ℕ) → list_all is_plain run ≡ true → path_behind merge kept segment (run ++ behind) ≡ path_behind merge kept (segment ++ run) behind
path_behind-run merge kept segment [] behind plain = ap (λ s. path_behind merge kept s behind) (sym (append-nil segment))
path_behind-run merge kept segment (b ∷ run) behind plain =
    let parts = and_parts (is_plain b) (list_all is_plain run) plain in
    path_behind-byte merge kept segment b (b ∷ (run ++ behind)) (run ++ behind) (decoded-plain b (run ++ behind) (plain-parts b parts.0).1)
    ∙ path_behind-run merge kept (segment ++ b ∷ []) run behind parts.1
    ∙ ap (λ s. path_behind merge kept s behind) (append_assoc segment (b ∷ []) run)

pub path_behind-plain : (merge : Bool) (kept : List (List ℕ)) (segment rest behind : List ℕ) (n : ℕ) → n ≡ prefix_len is_plain rest → behind ≡ drop n rest → path_behind merge kept segment rest ≡ path_behind merge kept (segment ++ take n rest) behind
path_behind-plain merge kept segment rest behind n is behind_is =
    ap (path_behind merge kept segment) (sym (take-append-drop n rest)) ∙ path_behind-run merge kept segment (take n rest) (drop n rest) (plain_front rest n is)
    ∙ ap (path_behind merge kept (segment ++ take n rest)) (sym behind_is)

segments-end : (segment : List ℕ) → has_no_slash segment ≡ true → segments (segment ++ []) ≡ only segment
segments-end segment free = rw append-nil (segments-name segment free)

pub path_behind-end : (merge : Bool) (kept : List (List ℕ)) (segment rest : List ℕ) → has_no_slash segment ≡ true → rest ≡ [] → path_behind merge kept segment rest ≡ path_from merge kept (only segment) None
path_behind-end merge kept segment rest free is =
    path_behind-is merge kept segment rest nothing (ap decoded is ∙ decoded-nil) ∙ ap (λ s. path_from merge kept s None) (segments-end segment free)

fault_first : (merge : Bool) (kept : List (List ℕ)) (segment : List ℕ) (fault : UriFault) → path_from merge kept (only segment) (Some fault) ≡ Err fault
unfolding path_from resolved
fault_first merge kept segment fault = refl

pub path_behind-fault : (merge : Bool) (kept : List (List ℕ)) (segment rest : List ℕ) (fault : UriFault) → has_no_slash segment ≡ true → decoded rest ≡ faulty fault → path_behind merge kept segment rest ≡ Err fault
path_behind-fault merge kept segment rest fault free is =
    path_behind-is merge kept segment rest (faulty fault) is ∙ ap (λ s. path_from merge kept s (Some fault)) (segments-end segment free) ∙ fault_first merge kept segment fault

-- ---- the text so far

begins : Stands [] [] (47 ∷ []) 1
unfolding spelled
begins = record { spells = refl; starts = refl; folders_free = refl; segment_free = refl }

pub path_behind-start : (merge : Bool) (text : List ℕ) → path_behind merge [] [] text ≡ path_of merge text
unfolding path_behind path_of
path_behind-start merge text = refl

pub leads-start : (merge : Bool) (text : List ℕ) → Leads merge (path_of merge text) text (47 ∷ []) 1
leads-start merge text = record { kept = []; segment = []; stands = begins; same = path_behind-start merge text }

pub leads-byte : (merge : Bool) (whole : Result (List ℕ) UriFault) (b : ℕ) (rest behind text : List ℕ) (start : ℕ) → Leads merge whole rest text start → decoded rest ≡ with_byte b (decoded behind) → (b ≡ 47 → ⊥) → Leads merge whole behind (text ++ b ∷ []) start
leads-byte merge whole b rest behind text start l is other = record {
  kept = l.kept;
  segment = l.segment ++ b ∷ [];
  stands = record {
    spells = ap (λ t. t ++ b ∷ []) l.stands.spells ∙ append_assoc (spelled l.kept) l.segment (b ∷ []);
    starts = l.stands.starts;
    folders_free = l.stands.folders_free;
    segment_free = has_no_slash-push l.segment b l.stands.segment_free other;
  };
  same = sym (path_behind-byte merge l.kept l.segment b rest behind is) ∙ l.same;
}

pub leads-plain : (merge : Bool) (whole : Result (List ℕ) UriFault) (rest behind text new : List ℕ) (start n : ℕ) → Leads merge whole rest text start → n ≡ prefix_len is_plain rest → behind ≡ drop n rest → new ≡ text ++ take n rest → Leads merge whole behind new start
leads-plain merge whole rest behind text new start n l is behind_is new_is = record {
  kept = l.kept;
  segment = l.segment ++ take n rest;
  stands = record {
    spells = new_is ∙ ap (λ t. t ++ take n rest) l.stands.spells ∙ append_assoc (spelled l.kept) l.segment (take n rest);
    starts = l.stands.starts;
    folders_free = l.stands.folders_free;
    segment_free = has_no_slash-run l.segment (take n rest) l.stands.segment_free (plain_front rest n is);
  };
  same = sym (path_behind-plain merge l.kept l.segment rest behind n is behind_is) ∙ l.same;
}

leads-entered : (merge : Bool) (whole : Result (List ℕ) UriFault) (behind text : List ℕ) (start : ℕ) (stay : Option (List (List ℕ))) → SpellsAll stay text start → behind_entered merge stay behind ≡ whole → Leads merge whole behind text start
leads-entered merge whole behind text start None spells same = absurd spells
leads-entered merge whole behind text start (Some kept) spells same = record { kept = kept; segment = []; stands = spells; same = same }

pub leads-slash : (merge : Bool) (whole : Result (List ℕ) UriFault) (rest behind text : List ℕ) (start : ℕ) (text' : List ℕ) (start' : ℕ) → Leads merge whole rest text start → decoded rest ≡ with_byte 47 (decoded behind) → ((kept : List (List ℕ)) (segment : List ℕ) → Stands kept segment text start → SpellsAll (entered merge (kind_of segment) segment kept) text' start') → Leads merge whole behind text' start'
leads-slash merge whole rest behind text start text' start' l is enter =
    leads-entered merge whole behind text' start' (entered merge (kind_of l.segment) l.segment l.kept) (enter l.kept l.segment l.stands)
    (sym (path_behind-slash merge l.kept l.segment rest behind l.stands.segment_free is) ∙ l.same)

pub leads-above : (merge : Bool) (whole : Result (List ℕ) UriFault) (rest behind text : List ℕ) (start : ℕ) (f : UriFault) → Leads merge whole rest text start → decoded rest ≡ with_byte 47 (decoded behind) → ((kept : List (List ℕ)) (segment : List ℕ) → Stands kept segment text start → (f ≡ AboveRoot) × (entered merge (kind_of segment) segment kept ≡ None)) → whole ≡ Err f
leads-above merge whole rest behind text start f l is enter =
    let above = enter l.kept l.segment l.stands in
    sym l.same ∙ path_behind-slash merge l.kept l.segment rest behind l.stands.segment_free is ∙ ap (λ stay. behind_entered merge stay behind) above.1 ∙ ap Err (sym above.0)

pub leads-fault : (merge : Bool) (whole : Result (List ℕ) UriFault) (rest text : List ℕ) (start : ℕ) (f : UriFault) → Leads merge whole rest text start → decoded rest ≡ faulty f → whole ≡ Err f
leads-fault merge whole rest text start f l is = sym l.same ∙ path_behind-fault merge l.kept l.segment rest f l.stands.segment_free is

pub leads-end : (merge : Bool) (whole : Result (List ℕ) UriFault) (rest text : List ℕ) (start : ℕ) (outcome : Result (List ℕ) UriFault) → Leads merge whole rest text start → rest ≡ [] → ((kept : List (List ℕ)) (segment : List ℕ) → Stands kept segment text start → path_from merge kept (only segment) None ≡ outcome) → whole ≡ outcome
leads-end merge whole rest text start outcome l is ends =
    sym l.same ∙ path_behind-end merge l.kept l.segment rest l.stands.segment_free is ∙ ends l.kept l.segment l.stands
