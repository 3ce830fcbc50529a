-- Normal paths by their segments.
use Rattle.std.proofs.Common.{◌≡◌, ℕ, Bool, true, false, ◌==◌, List, [], ◌∷◌, ◌++◌, Option, None, Some, Result, Ok, Err, refl, sym, ap, ◌∙◌, append_assoc, append-nil}
use Rattle.std.specs.Prelude.{option_and_then}
use Rattle.std.specs.List.{list_all}
use Rattle.std.proofs.lemmas.Bool.{and_parts, and_from, eqb-true, cond_both, not_from_false}
use Rattle.uri_text.specs.declared.fault.UriFault.{UriFault}
use Rattle.uri_text.specs.declared.segment.Segment.{Segment}
use Rattle.uri_text.specs.declared.segment.Segment.TheVariants.{Empty, Dot, Dots, Name}
use Rattle.uri_text.specs.Target.{Segments, segments, longer_first, decoded, kind_of, entered, resolved, spelled, strip_slash, last_folder, last_name, path_with, fault_behind, path_from, path_of}
use Rattle.uri_text.specs.Steps.{has_no_slash, have_no_slash}
use Rattle.uri_text.specs.Laws.{stays, may_end, stay, are_normal, is_normal_behind, is_normal}
use Rattle.uri_text.proofs.Cutting.{segments-folder, segments-name}

-- ---- segments and their text

abbrev pub joined : List (List ℕ) → List ℕ
joined [] = []
joined (f ∷ fs) = f ++ (47 ∷ joined fs)

abbrev pub text_of : Segments → List ℕ
text_of s = joined s.folders ++ s.name

abbrev cut : Segments → Segments
cut s = record { folders = [] ∷ s.folders; name = s.name }

text_of-longer : (b : ℕ) (fs : List (List ℕ)) (name : List ℕ) → text_of (longer_first b fs name) ≡ b ∷ (joined fs ++ name)
text_of-longer b [] name = refl
text_of-longer b (f ∷ fs) name = refl

pub text_of-segments : (text : List ℕ) → text ≡ text_of (segments text)
unfolding segments
text_of-segments [] = refl
text_of-segments (b ∷ text) =
    cond_both (b == 47) (cut (segments text)) (longer_first b (segments text).folders (segments text).name) (λ s. b ∷ text ≡ text_of s)
    (λ is. ap (λ c. c ∷ text) (eqb-true b 47 is) ∙ ap (λ t. 47 ∷ t) (text_of-segments text))
    (λ _. ap (λ t. b ∷ t) (text_of-segments text) ∙ sym (text_of-longer b (segments text).folders (segments text).name))

abbrev IsFree : Segments → Type 0
IsFree s = (have_no_slash s.folders ≡ true) × (has_no_slash s.name ≡ true)

free-longer : (b : ℕ) (fs : List (List ℕ)) (name : List ℕ) → (b == 47) ≡ false → have_no_slash fs ≡ true → has_no_slash name ≡ true → IsFree (longer_first b fs name)
free-longer b [] name other folders last = (refl, and_from _ _ (not_from_false _ other) last)
free-longer b (f ∷ fs) name other folders last =
    let parts = and_parts (has_no_slash f) (have_no_slash fs) folders in
    (and_from _ _ (and_from _ _ (not_from_false _ other) parts.0) parts.1, last)

free-segments : (text : List ℕ) → IsFree (segments text)
unfolding segments
free-segments [] = (refl, refl)
free-segments (b ∷ text) =
    cond_both (b == 47) (cut (segments text)) (longer_first b (segments text).folders (segments text).name) IsFree
    (λ is. free-segments text)
    (λ other. free-longer b (segments text).folders (segments text).name other (free-segments text).0 (free-segments text).1)

segments-text_of : (fs : List (List ℕ)) (name : List ℕ) → have_no_slash fs ≡ true → has_no_slash name ≡ true → segments (joined fs ++ name) ≡ record { folders = fs; name = name }
segments-text_of [] name folders last = segments-name name last
segments-text_of (f ∷ fs) name folders last =
    let parts = and_parts (has_no_slash f) (have_no_slash fs) folders in
    ap segments (append_assoc f (47 ∷ joined fs) name) ∙ segments-folder f (joined fs ++ name) parts.0
    ∙ ap (λ (s : Segments). let t : Segments = record { folders = f ∷ s.folders; name = s.name } in t) (segments-text_of fs name parts.1 last)

-- ---- folders that stay

-- `fs` after the folders that were kept, the last first
abbrev pub pile : List (List ℕ) → List (List ℕ) → List (List ℕ)
pile kept [] = kept
pile kept (f ∷ fs) = pile (f ∷ kept) fs

spelled-more : (kept : List (List ℕ)) (f rest : List ℕ) → spelled (f ∷ kept) ++ rest ≡ spelled kept ++ (f ++ (47 ∷ rest))
unfolding spelled
spelled-more kept f rest = append_assoc (spelled kept) (f ++ 47 ∷ []) rest ∙ ap (λ t. spelled kept ++ t) (append_assoc f (47 ∷ []) rest)

spelled-pile : (kept fs : List (List ℕ)) → spelled (pile kept fs) ≡ spelled kept ++ joined fs
spelled-pile kept [] = sym (append-nil (spelled kept))
spelled-pile kept (f ∷ fs) = spelled-pile (f ∷ kept) fs ∙ spelled-more kept f (joined fs)

entered-stays : (merge : Bool) (kind : Segment) (f : List ℕ) (kept : List (List ℕ)) → stays merge kind ≡ true → entered merge kind f kept ≡ Some (f ∷ kept)
entered-stays true Empty f kept is = cc
entered-stays false Empty f kept is = refl
entered-stays merge Dot f kept is = cc
entered-stays merge Dots f kept is = cc
entered-stays merge Name f kept is = refl

resolved-stays : (merge : Bool) (fs kept : List (List ℕ)) → stay merge fs ≡ true → resolved merge kept fs ≡ Some (pile kept fs)
unfolding resolved
resolved-stays merge [] kept is = refl
resolved-stays merge (f ∷ fs) kept is =
    let parts = and_parts (stays merge (kind_of f)) (stay merge fs) is in
    ap (option_and_then (λ k. resolved merge k fs)) (entered-stays merge (kind_of f) f kept parts.0) ∙ resolved-stays merge fs (f ∷ kept) parts.1

last-stays : (kind : Segment) (name : List ℕ) → may_end kind ≡ true → (last_folder kind name ≡ []) × (last_name kind name ≡ name)
last-stays Empty name is = (refl, refl)
last-stays Dot name is = cc
last-stays Dots name is = cc
last-stays Name name is = (refl, refl)

spelled-root : (text : List ℕ) → spelled [] ++ text ≡ 47 ∷ text
unfolding spelled
spelled-root text = refl

-- segments with nothing to resolve or merge are the path
pub path_from-normal : (merge : Bool) (s : Segments) → are_normal merge s ≡ true → path_from merge [] s None ≡ Ok (47 ∷ text_of s)
unfolding path_from
path_from-normal merge s is =
    let parts = and_parts (stay merge s.folders) (may_end (kind_of s.name)) is in
    let last = last-stays (kind_of s.name) s.name parts.1 in
    ap (λ t. path_with (last_name (kind_of s.name) s.name) (resolved merge [] (s.folders ++ t))) last.0
    ∙ ap (λ t. path_with t (resolved merge [] (s.folders ++ []))) last.1
    ∙ ap (λ t. path_with s.name (resolved merge [] t)) (append-nil s.folders)
    ∙ ap (path_with s.name) (resolved-stays merge s.folders [] parts.0)
    ∙ ap (λ t. Ok (t ++ s.name)) (spelled-pile [] s.folders)
    ∙ ap Ok (append_assoc (spelled []) (joined s.folders) s.name ∙ spelled-root (text_of s))

-- ---- what is resolved is normal

abbrev AllNormal : Bool → Option (List (List ℕ)) → Type 0
AllNormal merge None = Unit {0}
AllNormal merge (Some kept) = (stay merge kept ≡ true) × (have_no_slash kept ≡ true)

entered-normal : (merge : Bool) (kind : Segment) (f : List ℕ) (kept : List (List ℕ)) → kind_of f ≡ kind → has_no_slash f ≡ true → AllNormal merge (Some kept) → AllNormal merge (entered merge kind f kept)
entered-normal true Empty f kept is free kept_is = kept_is
entered-normal false Empty f kept is free kept_is = (and_from _ _ (ap (stays false) is) kept_is.0, and_from _ _ free kept_is.1)
entered-normal merge Dot f kept is free kept_is = kept_is
entered-normal merge Dots f [] is free kept_is = tt
entered-normal merge Dots f (g ∷ kept) is free kept_is = ((and_parts _ _ kept_is.0).1, (and_parts _ _ kept_is.1).1)
entered-normal merge Name f kept is free kept_is = (and_from _ _ (ap (stays merge) is) kept_is.0, and_from _ _ free kept_is.1)

resolved-normal : (merge : Bool) (fs kept : List (List ℕ)) → have_no_slash fs ≡ true → AllNormal merge (Some kept) → AllNormal merge (resolved merge kept fs)
unfolding resolved
resolved-normal merge [] kept free kept_is = kept_is
resolved-normal merge (f ∷ fs) kept free kept_is =
    let parts = and_parts (has_no_slash f) (have_no_slash fs) free in
    elim (entered merge (kind_of f) f kept) as (λ o. AllNormal merge o → AllNormal merge (option_and_then (λ k. resolved merge k fs) o)) [
      | None ↦ λ _. tt
      | Some k ↦ λ k_is. resolved-normal merge fs k parts.1 k_is
    ] (entered-normal merge (kind_of f) f kept refl parts.0 kept_is)

-- the folders in order
abbrev unpiled : List (List ℕ) → List (List ℕ) → List (List ℕ)
unpiled [] fs = fs
unpiled (f ∷ kept) fs = unpiled kept (f ∷ fs)

spelled-unpiled : (kept fs : List (List ℕ)) (name : List ℕ) → spelled kept ++ (joined fs ++ name) ≡ 47 ∷ (joined (unpiled kept fs) ++ name)
spelled-unpiled [] fs name = spelled-root (joined fs ++ name)
spelled-unpiled (f ∷ kept) fs name =
    spelled-more kept f (joined fs ++ name) ∙ ap (λ t. spelled kept ++ t) (sym (append_assoc f (47 ∷ joined fs) name)) ∙ spelled-unpiled kept (f ∷ fs) name

all-unpiled : (p : List ℕ → Bool) (kept fs : List (List ℕ)) → list_all p kept ≡ true → list_all p fs ≡ true → list_all p (unpiled kept fs) ≡ true
all-unpiled p [] fs kept_is is = is
all-unpiled p (f ∷ kept) fs kept_is is =
    let parts = and_parts (p f) (list_all p kept) kept_is in
    all-unpiled p kept (f ∷ fs) parts.1 (and_from _ _ parts.0 is)

is_normal-spelled : (merge : Bool) (kept : List (List ℕ)) (name : List ℕ) → AllNormal merge (Some kept) → has_no_slash name ≡ true → may_end (kind_of name) ≡ true → is_normal merge (spelled kept ++ name) ≡ true
unfolding is_normal
is_normal-spelled merge kept name kept_is free ends =
    ap (λ t. is_normal_behind merge (strip_slash t)) (spelled-unpiled kept [] name)
    ∙ ap (are_normal merge) (segments-text_of (unpiled kept []) name (all-unpiled has_no_slash kept [] kept_is.1 refl) free)
    ∙ and_from _ _ (all-unpiled (λ f. stays merge (kind_of f)) kept [] kept_is.0 refl) ends

kind_of-none : kind_of [] ≡ Empty
unfolding kind_of
kind_of-none = refl

last_name-ends : (kind : Segment) (name : List ℕ) → kind_of name ≡ kind → may_end (kind_of (last_name kind name)) ≡ true
last_name-ends Empty name is = ap may_end is
last_name-ends Dot name is = ap may_end kind_of-none
last_name-ends Dots name is = ap may_end kind_of-none
last_name-ends Name name is = ap may_end is

last_name-free : (kind : Segment) (name : List ℕ) → has_no_slash name ≡ true → has_no_slash (last_name kind name) ≡ true
last_name-free Empty name free = free
last_name-free Dot name free = refl
last_name-free Dots name free = refl
last_name-free Name name free = free

one_free : (kind : Segment) (name : List ℕ) → has_no_slash name ≡ true → have_no_slash (last_folder kind name) ≡ true
one_free Empty name free = refl
one_free Dot name free = and_from _ _ free refl
one_free Dots name free = and_from _ _ free refl
one_free Name name free = refl

last_folder-free : (kind : Segment) (fs : List (List ℕ)) (name : List ℕ) → have_no_slash fs ≡ true → has_no_slash name ≡ true → have_no_slash (fs ++ last_folder kind name) ≡ true
last_folder-free kind [] name folders free = one_free kind name free
last_folder-free kind (f ∷ fs) name folders free =
    let parts = and_parts (has_no_slash f) (have_no_slash fs) folders in
    and_from _ _ parts.0 (last_folder-free kind fs name parts.1 free)

-- the path, if there is one, is normal
abbrev pub IsNormalPath : Bool → Result (List ℕ) UriFault → Type 0
IsNormalPath merge (Ok path) = is_normal merge path ≡ true
IsNormalPath merge (Err fault) = Unit {0}

path_with-normal : (merge : Bool) (name : List ℕ) (stay_is : Option (List (List ℕ))) → AllNormal merge stay_is → has_no_slash name ≡ true → may_end (kind_of name) ≡ true → IsNormalPath merge (path_with name stay_is)
path_with-normal merge name None kept_is free ends = tt
path_with-normal merge name (Some kept) kept_is free ends = is_normal-spelled merge kept name kept_is free ends

fault_behind-normal : (merge : Bool) (fault : UriFault) (o : Option (List (List ℕ))) → IsNormalPath merge (fault_behind fault o)
fault_behind-normal merge fault None = tt
fault_behind-normal merge fault (Some kept) = tt

path_from-is_normal : (merge : Bool) (s : Segments) (fault : Option UriFault) → IsFree s → IsNormalPath merge (path_from merge [] s fault)
unfolding path_from
path_from-is_normal merge s None free =
    path_with-normal merge (last_name (kind_of s.name) s.name) (resolved merge [] (s.folders ++ last_folder (kind_of s.name) s.name))
    (resolved-normal merge (s.folders ++ last_folder (kind_of s.name) s.name) [] (last_folder-free (kind_of s.name) s.folders s.name free.0 free.1) (refl, refl))
    (last_name-free (kind_of s.name) s.name free.1) (last_name-ends (kind_of s.name) s.name refl)
path_from-is_normal merge s (Some fault) free = fault_behind-normal merge fault (resolved merge [] s.folders)

pub path_of-is_normal : (merge : Bool) (text : List ℕ) → IsNormalPath merge (path_of merge text)
unfolding path_of
path_of-is_normal merge text = path_from-is_normal merge (segments (decoded text).bytes) (decoded text).fault (free-segments (decoded text).bytes)
