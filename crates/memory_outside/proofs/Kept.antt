-- Answers that are kept.
use Rattle.std.proofs.Common.{◌≡◌, Bool, true, false, List, [], ◌∷◌, ◌++◌, refl, sym, ap, subst, ◌∙◌}
use Rattle.std.specs.Prelude.{ℕ, map, Option}
use Rattle.std.proofs.lemmas.List.{map-append}
use Rattle.ngx_outside.specs.Records.{Adds, FileAnswer}
use Rattle.memory_outside.specs.declared.answers.FileTold.{FileTold}
use Rattle.memory_outside.specs.Answered.{told_by, file_answer}

-- one answer more
pub added : {A B : Type 0} (f : A → B) (a : A) (whole whole' : Bool) (kept kept' : List A) →
    (whole' ≡ true → (whole ≡ true) × (kept' ≡ kept ++ a ∷ [])) → Adds (f a) (told_by f whole kept) (told_by f whole' kept')
added f a whole false kept kept' h = λ later e. cc
added {A} {B} f a whole true kept kept' h = λ later e.
    let is : map f kept' ≡ later = cc in
    (map f kept, ap (λ w. told_by f w kept) (h refl).0, sym is ∙ ap (map f) (h refl).1 ∙ map-append f kept (a ∷ []))

pub file_added : (a : FileTold) (b : FileAnswer) (whole whole' : Bool) (kept kept' : List FileTold) → b ≡ file_answer a →
    (whole' ≡ true → (whole ≡ true) × (kept' ≡ kept ++ a ∷ [])) → Adds b (told_by file_answer whole kept) (told_by file_answer whole' kept')
file_added a b whole whole' kept kept' e h =
    subst (λ (c : FileAnswer). Adds c (told_by file_answer whole kept) (told_by file_answer whole' kept')) (sym e) (added file_answer a whole whole' kept kept' h)

pub number_added : (a : ℕ) (whole whole' : Bool) (kept kept' : List ℕ) →
    (whole' ≡ true → (whole ≡ true) × (kept' ≡ kept ++ a ∷ [])) → Adds a (told_by (λ n. n) whole kept) (told_by (λ n. n) whole' kept')
number_added a whole whole' kept kept' h = added (λ n. n) a whole whole' kept kept' h

-- nothing is told any more
pub stopped : {A B : Type 0} (f : A → B) (b : B) (old : Option (List B)) (whole : Bool) (kept : List A) → whole ≡ false → Adds b old (told_by f whole kept)
stopped f b old false kept e = λ later n. cc
stopped f b old true kept e = cc

pub files_stopped : (b : FileAnswer) (old : Option (List FileAnswer)) (whole : Bool) (kept : List FileTold) → whole ≡ false → Adds b old (told_by file_answer whole kept)
files_stopped = stopped file_answer
