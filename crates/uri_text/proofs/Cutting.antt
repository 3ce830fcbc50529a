-- Where a text is cut into segments.
use Rattle.std.proofs.Common.{◌≡◌, ℕ, ◌+◌, ◌≤◌, true, false, not, cond, ◌&&◌, List, [], ◌∷◌, ◌++◌, length, take, refl, sym, ap, ◌∙◌, arith, append_assoc, append-nil}
use Rattle.std.proofs.Math.Numerals.{one-add}
use Rattle.std.specs.Prelude.{◌==◌, fold}
use Rattle.std.specs.List.{prefix_len, list_all}
use Rattle.std.proofs.lemmas.Bool.{cond-false, and_parts, and_from, or_parts, not-true, eq-eqb, ne_eqb, not_from_false, both_ways}
use Rattle.uri_text.specs.declared.segment.Segment.{Segment}
use Rattle.uri_text.specs.declared.segment.Segment.TheVariants.{Empty, Dot, Dots, Name}
use Rattle.uri_text.specs.Target.{Segments, segments, longer_first, kind_of}
use Rattle.uri_text.specs.Steps.{has_no_slash, is_plain, kind_with}

segments-slash : (bytes : List ℕ) → segments (47 ∷ bytes) ≡ record { folders = [] ∷ (segments bytes).folders; name = (segments bytes).name }
unfolding segments
segments-slash bytes = refl

segments-byte : (b : ℕ) (bytes : List ℕ) → (b == 47) ≡ false → segments (b ∷ bytes) ≡ longer_first b (segments bytes).folders (segments bytes).name
unfolding segments
segments-byte b bytes other = cond-false _ _ _ other

-- a segment that a slash ends is the first folder
pub segments-folder : (f bytes : List ℕ) → has_no_slash f ≡ true → segments (f ++ (47 ∷ bytes)) ≡ record { folders = f ∷ (segments bytes).folders; name = (segments bytes).name }
segments-folder [] bytes free = segments-slash bytes
segments-folder (b ∷ f) bytes free =
    let parts = and_parts (not (b == 47)) (has_no_slash f) free in
    segments-byte b (f ++ (47 ∷ bytes)) (not-true _ parts.0) ∙ ap (λ (s : Segments). longer_first b s.folders s.name) (segments-folder f bytes parts.1)

-- with no slash, the text is the name
pub segments-name : (f : List ℕ) → has_no_slash f ≡ true → segments f ≡ record { folders = []; name = f }
unfolding segments
segments-name [] free = refl
segments-name (b ∷ f) free =
    let parts = and_parts (not (b == 47)) (has_no_slash f) free in
    segments-byte b f (not-true _ parts.0) ∙ ap (λ (s : Segments). longer_first b s.folders s.name) (segments-name f parts.1)

pub has_no_slash-push : (f : List ℕ) (b : ℕ) → has_no_slash f ≡ true → (b ≡ 47 → ⊥) → has_no_slash (f ++ b ∷ []) ≡ true
has_no_slash-push [] b free other = and_from _ _ (not_from_false _ (ne_eqb b 47 other)) refl
has_no_slash-push (c ∷ f) b free other =
    let parts = and_parts (not (c == 47)) (has_no_slash f) free in
    and_from _ _ parts.0 (has_no_slash-push f b parts.1 other)

-- one more byte
pub kind_of-push : (f : List ℕ) (b : ℕ) → kind_of (f ++ b ∷ []) ≡ kind_with (kind_of f) b
unfolding kind_of kind_with
kind_of-push [] b = refl
kind_of-push (c ∷ []) b = elim (c == 46) as (λ t. cond (t && (b == 46)) Dots Name ≡ kind_with (cond t Dot Name) b) [ true ↦ refl | false ↦ refl ]
kind_of-push (c ∷ d ∷ []) b = elim ((c == 46) && (d == 46)) as (λ t. Name ≡ kind_with (cond t Dots Name) b) [ true ↦ refl | false ↦ refl ]
kind_of-push (c ∷ d ∷ e ∷ more) b = refl

-- three bytes make a name
fold-name : (run : List ℕ) → fold kind_with Name run ≡ Name
unfolding kind_with
fold-name [] = refl
fold-name (b ∷ run) = fold-name run

three : (kind : Segment) (a b c : ℕ) → kind_with (kind_with (kind_with kind a) b) c ≡ Name
unfolding kind_with
three Empty a b c = elim (a == 46) as (λ t. kind_with (kind_with (cond t Dot Name) b) c ≡ Name) [ true ↦ elim (b == 46) as (λ t. kind_with (cond t Dots Name) c ≡ Name) [ true ↦ refl | false ↦ refl ] | false ↦ refl ]
three Dot a b c = elim (a == 46) as (λ t. kind_with (kind_with (cond t Dots Name) b) c ≡ Name) [ true ↦ refl | false ↦ refl ]
three Dots a b c = refl
three Name a b c = refl

pub long_run : (kind : Segment) (run : List ℕ) → 3 ≤ length run → Name ≡ fold kind_with kind run
long_run kind [] long = absurd (omega arith)
long_run kind (a ∷ []) long = absurd (omega arith)
long_run kind (a ∷ b ∷ []) long = absurd (omega arith)
long_run kind (a ∷ b ∷ c ∷ run) long = sym (ap (λ k. fold kind_with k run) (three kind a b c) ∙ fold-name run)

-- a run of plain bytes
pub kind_of-run : (f run : List ℕ) → kind_of (f ++ run) ≡ fold kind_with (kind_of f) run
kind_of-run f [] = ap kind_of (append-nil f)
kind_of-run f (b ∷ run) = ap kind_of (sym (append_assoc f (b ∷ []) run)) ∙ kind_of-run (f ++ b ∷ []) run ∙ ap (λ k. fold kind_with k run) (kind_of-push f b)

pub plain-parts : (b : ℕ) → is_plain b ≡ true → (b ≡ 47 → ⊥) × (b ≡ 37 → ⊥)
plain-parts b is =
    let tests = or_parts (b == 47) (b == 37) (not-true _ is) in
    (λ e. both_ways _ tests.0 (eq-eqb b 47 e), λ e. both_ways _ tests.1 (eq-eqb b 37 e))

front-all : (text : List ℕ) → list_all is_plain (take (prefix_len is_plain text) text) ≡ true
front-all [] = refl
front-all (b ∷ text) =
    elim (is_plain b) as (λ t. (is_plain b ≡ t) → list_all is_plain (take (cond t (1 + prefix_len is_plain text) 0) (b ∷ text)) ≡ true) [
      | true ↦ λ is. ap (λ k. list_all is_plain (take k (b ∷ text))) (one-add (prefix_len is_plain text)) ∙ and_from (is_plain b) _ is (front-all text)
      | false ↦ λ is. refl
    ] refl

-- the front that `plain_len` counts
pub plain_front : (text : List ℕ) (n : ℕ) → n ≡ prefix_len is_plain text → list_all is_plain (take n text) ≡ true
plain_front text n is = ap (λ k. list_all is_plain (take k text)) is ∙ front-all text

pub has_no_slash-run : (f run : List ℕ) → has_no_slash f ≡ true → list_all is_plain run ≡ true → has_no_slash (f ++ run) ≡ true
has_no_slash-run f [] free plain = ap has_no_slash (append-nil f) ∙ free
has_no_slash-run f (b ∷ run) free plain =
    let parts = and_parts (is_plain b) (list_all is_plain run) plain in
    ap has_no_slash (sym (append_assoc f (b ∷ []) run)) ∙ has_no_slash-run (f ++ b ∷ []) run (has_no_slash-push f b free (plain-parts b parts.0).0) parts.1
