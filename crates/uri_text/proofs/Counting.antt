-- The steps of the loop that only counts folders.
use Rattle.std.proofs.Common.{◌≡◌, ℕ, ◌+◌, ◌-◌, ◌≤◌, Bool, true, false, List, [], ◌∷◌, ◌++◌, Option, None, Some, length, refl, sym, ap, ◌∙◌, arith, take, drop}
use Rattle.std.specs.Prelude.{fold, is_ok, option_map, nat_lt}
use Rattle.std.specs.List.{prefix_len}
use Rattle.std.proofs.lemmas.Bool.{lt-ltb, cond-true}
use Rattle.std.proofs.lemmas.Option.{same_Some, cond_some}
use Rattle.uri_text.specs.declared.fault.UriFault.{UriFault}
use Rattle.uri_text.specs.declared.segment.Segment.{Segment}
use Rattle.uri_text.specs.declared.segment.Segment.TheVariants.{Empty, Dot, Dots, Name}
use Rattle.uri_text.specs.Target.{faulty, with_byte, decoded, kind_of, entered, path_with, path_of}
use Rattle.uri_text.specs.Steps.{is_plain, kind_with, depth_with, Counts}
use Rattle.uri_text.proofs.Cutting.{has_no_slash-push, has_no_slash-run, kind_of-push, kind_of-run, plain_front}
use Rattle.uri_text.proofs.Leading.{behind_entered, path_behind-slash, path_behind-byte, path_behind-plain, path_behind-end, path_behind-fault, path_behind-start}
use Rattle.uri_text.proofs.Finishing.{ended, ended-is, one_folder, no_folder}

kind_of-none : kind_of [] ≡ Empty
unfolding kind_of
kind_of-none = refl

pub counts-start : (merge : Bool) (text : List ℕ) → Counts merge (is_ok (path_of merge text)) text 0 Empty
counts-start merge text = record { kept = []; segment = []; depth_is = refl; kind_is = sym kind_of-none; segment_free = refl; same = ap is_ok (path_behind-start merge text) }

pub counts-byte : (merge whole : Bool) (b : ℕ) (rest behind : List ℕ) (depth : ℕ) (kind : Segment) → Counts merge whole rest depth kind → decoded rest ≡ with_byte b (decoded behind) → (b ≡ 47 → ⊥) → Counts merge whole behind depth (kind_with kind b)
counts-byte merge whole b rest behind depth kind l is other = record {
  kept = l.kept;
  segment = l.segment ++ b ∷ [];
  depth_is = l.depth_is;
  kind_is = ap (λ k. kind_with k b) l.kind_is ∙ sym (kind_of-push l.segment b);
  segment_free = has_no_slash-push l.segment b l.segment_free other;
  same = ap is_ok (sym (path_behind-byte merge l.kept l.segment b rest behind is)) ∙ l.same;
}

pub counts-plain : (merge whole : Bool) (rest behind : List ℕ) (depth n : ℕ) (kind more : Segment) → Counts merge whole rest depth kind → n ≡ prefix_len is_plain rest → behind ≡ drop n rest → more ≡ fold kind_with kind (take n rest) → Counts merge whole behind depth more
counts-plain merge whole rest behind depth n kind more l is behind_is more_is = record {
  kept = l.kept;
  segment = l.segment ++ take n rest;
  depth_is = l.depth_is;
  kind_is = more_is ∙ ap (λ k. fold kind_with k (take n rest)) l.kind_is ∙ sym (kind_of-run l.segment (take n rest));
  segment_free = has_no_slash-run l.segment (take n rest) l.segment_free (plain_front rest n is);
  same = ap is_ok (sym (path_behind-plain merge l.kept l.segment rest behind n is behind_is)) ∙ l.same;
}

-- as many folders as are counted
depth-entered : (merge : Bool) (kind : Segment) (f : List ℕ) (kept : List (List ℕ)) → depth_with merge kind (length kept) ≡ option_map length (entered merge kind f kept)
unfolding depth_with
depth-entered true Empty f kept = refl
depth-entered false Empty f kept = ap Some (omega arith)
depth-entered merge Dot f kept = refl
depth-entered merge Dots f [] = refl
depth-entered merge Dots f (g ∷ kept) = cond-true _ _ _ (lt-ltb 0 (length (g ∷ kept)) (omega arith)) ∙ ap Some (omega arith)
depth-entered merge Name f kept = ap Some (omega arith)

pub deeper-bound : (merge : Bool) (kind : Segment) (depth depth' : ℕ) → Some depth' ≡ depth_with merge kind depth → depth' ≤ depth + 1
unfolding depth_with
deeper-bound true Empty depth depth' is = omega (arith, same_Some depth' depth is)
deeper-bound false Empty depth depth' is = omega (arith, same_Some depth' (depth + 1) is)
deeper-bound merge Dot depth depth' is = omega (arith, same_Some depth' depth is)
deeper-bound merge Dots depth depth' is = omega (arith, (cond_some (nat_lt 0 depth) (depth - 1) depth' (sym is)).1)
deeper-bound merge Name depth depth' is = omega (arith, same_Some depth' (depth + 1) is)

counts-entered : (merge whole : Bool) (behind : List ℕ) (depth : ℕ) (stay : Option (List (List ℕ))) → option_map length stay ≡ Some depth → is_ok (behind_entered merge stay behind) ≡ whole → Counts merge whole behind depth Empty
counts-entered merge whole behind depth None is same = cc
counts-entered merge whole behind depth (Some kept) is same =
    record { kept = kept; segment = []; depth_is = sym (same_Some (length kept) depth is); kind_is = sym kind_of-none; segment_free = refl; same = same }

depth-of : (merge whole : Bool) (rest : List ℕ) (depth : ℕ) (kind : Segment) (l : Counts merge whole rest depth kind) → depth_with merge kind depth ≡ option_map length (entered merge (kind_of l.segment) l.segment l.kept)
depth-of merge whole rest depth kind l =
    ap (λ k. depth_with merge k depth) l.kind_is ∙ ap (depth_with merge (kind_of l.segment)) l.depth_is ∙ depth-entered merge (kind_of l.segment) l.segment l.kept

behind-of : (merge whole : Bool) (rest behind : List ℕ) (depth : ℕ) (kind : Segment) (l : Counts merge whole rest depth kind) → decoded rest ≡ with_byte 47 (decoded behind) → is_ok (behind_entered merge (entered merge (kind_of l.segment) l.segment l.kept) behind) ≡ whole
behind-of merge whole rest behind depth kind l is = ap is_ok (sym (path_behind-slash merge l.kept l.segment rest behind l.segment_free is)) ∙ l.same

pub counts-slash : (merge whole : Bool) (rest behind : List ℕ) (depth depth' : ℕ) (kind : Segment) → Counts merge whole rest depth kind → decoded rest ≡ with_byte 47 (decoded behind) → Some depth' ≡ depth_with merge kind depth → Counts merge whole behind depth' Empty
counts-slash merge whole rest behind depth depth' kind l is deeper =
    counts-entered merge whole behind depth' (entered merge (kind_of l.segment) l.segment l.kept) (sym (deeper ∙ depth-of merge whole rest depth kind l)) (behind-of merge whole rest behind depth kind l is)

above-entered : (merge whole : Bool) (behind : List ℕ) (stay : Option (List (List ℕ))) → option_map length stay ≡ None → is_ok (behind_entered merge stay behind) ≡ whole → false ≡ whole
above-entered merge whole behind None is same = same
above-entered merge whole behind (Some kept) is same = cc

pub counts-above : (merge whole : Bool) (rest behind : List ℕ) (depth : ℕ) (kind : Segment) → Counts merge whole rest depth kind → decoded rest ≡ with_byte 47 (decoded behind) → None ≡ depth_with merge kind depth → false ≡ whole
counts-above merge whole rest behind depth kind l is deeper =
    above-entered merge whole behind (entered merge (kind_of l.segment) l.segment l.kept) (sym (deeper ∙ depth-of merge whole rest depth kind l)) (behind-of merge whole rest behind depth kind l is)

pub counts-fault : (merge whole : Bool) (rest : List ℕ) (depth : ℕ) (kind : Segment) (f : UriFault) → Counts merge whole rest depth kind → decoded rest ≡ faulty f → false ≡ whole
counts-fault merge whole rest depth kind f l is = sym (ap is_ok (path_behind-fault merge l.kept l.segment rest f l.segment_free is)) ∙ l.same

-- whether a path may end so
abbrev pub ends_ok : Segment → ℕ → Bool
ends_ok Dots depth = nat_lt 0 depth
ends_ok _ depth = true

ended-ok : (merge : Bool) (kept : List (List ℕ)) (segment : List ℕ) (kind : Segment) → kind ≡ kind_of segment → is_ok (ended merge kept segment kind) ≡ ends_ok kind (length kept)
ended-ok merge kept segment Empty is = ap is_ok (no_folder merge kept segment)
ended-ok merge kept segment Dot is = ap is_ok (one_folder merge kept segment ∙ ap (λ k. path_with [] (entered merge k segment kept)) (sym is))
ended-ok merge [] segment Dots is = ap is_ok (one_folder merge [] segment ∙ ap (λ k. path_with [] (entered merge k segment [])) (sym is))
ended-ok merge (f ∷ kept) segment Dots is = ap is_ok (one_folder merge (f ∷ kept) segment ∙ ap (λ k. path_with [] (entered merge k segment (f ∷ kept))) (sym is)) ∙ sym (lt-ltb 0 (length (f ∷ kept)) (omega arith))
ended-ok merge kept segment Name is = ap is_ok (no_folder merge kept segment)

pub counts-end : (merge whole : Bool) (rest : List ℕ) (depth : ℕ) (kind : Segment) → Counts merge whole rest depth kind → rest ≡ [] → ends_ok kind depth ≡ whole
counts-end merge whole rest depth kind l is =
    ap (ends_ok kind) l.depth_is ∙ sym (ended-ok merge l.kept l.segment kind l.kind_is)
    ∙ ap is_ok (sym (path_behind-end merge l.kept l.segment rest l.segment_free is ∙ ended-is merge l.kept l.segment kind (sym l.kind_is))) ∙ l.same

pub ends_ok-other : (kind : Segment) (depth : ℕ) → (kind ≡ Dots → ⊥) → ends_ok kind depth ≡ true
ends_ok-other Empty depth other = refl
ends_ok-other Dot depth other = refl
ends_ok-other Dots depth other = absurd (other refl)
ends_ok-other Name depth other = refl
