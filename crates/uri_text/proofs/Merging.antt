-- What passes with merging passes without.
use Rattle.std.proofs.Common.{◌≡◌, ℕ, ◌≤◌, Bool, true, false, List, [], ◌∷◌, Option, None, Some, length, ◌++◌, refl, sym, ◌∙◌, arith}
use Rattle.std.proofs.lemmas.Bool.{both_ways}
use Rattle.std.specs.Prelude.{is_ok, is_some, option_and_then}
use Rattle.uri_text.specs.declared.fault.UriFault.{UriFault}
use Rattle.uri_text.specs.declared.segment.Segment.{Segment}
use Rattle.uri_text.specs.declared.segment.Segment.TheVariants.{Empty, Dot, Dots, Name}
use Rattle.uri_text.specs.Target.{Segments, segments, decoded, kind_of, entered, resolved, last_folder, last_name, path_with, fault_behind, path_from, path_of, normal_behind, path_and_query, behind_root, normal_of}
use Rattle.uri_text.proofs.Targets.{is_ok-with_args}

-- how the folders `fs` end after each stack
abbrev passes : Bool → List (List ℕ) → Option (List (List ℕ)) → Bool
passes merge fs stay = is_some (option_and_then (λ kept. resolved merge kept fs) stay)

step : (kind : Segment) (f : List ℕ) (fs kept more : List (List ℕ)) → length kept ≤ length more → ((a b : List (List ℕ)) → length a ≤ length b → is_some (resolved true a fs) ≡ true → is_some (resolved false b fs) ≡ true) → passes true fs (entered true kind f kept) ≡ true → passes false fs (entered false kind f more) ≡ true
step Empty f fs kept more longer rest = rest kept (f ∷ more) (omega arith)
step Dot f fs kept more longer rest = rest kept more longer
step Dots f fs [] more longer rest = λ h. cc
step Dots f fs (g ∷ kept) [] longer rest = absurd (omega arith)
step Dots f fs (g ∷ kept) (h ∷ more) longer rest = rest kept more (omega arith)
step Name f fs kept more longer rest = rest (f ∷ kept) (f ∷ more) (omega arith)

resolved-merged : (fs kept more : List (List ℕ)) → length kept ≤ length more → is_some (resolved true kept fs) ≡ true → is_some (resolved false more fs) ≡ true
unfolding resolved
resolved-merged [] kept more longer = λ _. refl
resolved-merged (f ∷ fs) kept more longer = step (kind_of f) f fs kept more longer (resolved-merged fs)

is_ok-path_with : (name : List ℕ) (stay : Option (List (List ℕ))) → is_ok (path_with name stay) ≡ is_some stay
is_ok-path_with name None = refl
is_ok-path_with name (Some kept) = refl

is_ok-fault_behind : (fault : UriFault) (stay : Option (List (List ℕ))) → is_ok (fault_behind fault stay) ≡ false
is_ok-fault_behind fault None = refl
is_ok-fault_behind fault (Some kept) = refl

path_from-merged : (s : Segments) (fault : Option UriFault) → is_ok (path_from true [] s fault) ≡ true → is_ok (path_from false [] s fault) ≡ true
unfolding path_from
path_from-merged s None is =
    is_ok-path_with (last_name (kind_of s.name) s.name) (resolved false [] (s.folders ++ last_folder (kind_of s.name) s.name))
    ∙ resolved-merged (s.folders ++ last_folder (kind_of s.name) s.name) [] [] (omega arith) (sym (is_ok-path_with (last_name (kind_of s.name) s.name) (resolved true [] (s.folders ++ last_folder (kind_of s.name) s.name))) ∙ is)
path_from-merged s (Some fault) is = absurd (both_ways _ (is_ok-fault_behind fault (resolved true [] s.folders)) is)

path_of-merged : (text : List ℕ) → is_ok (path_of true text) ≡ true → is_ok (path_of false text) ≡ true
unfolding path_of
path_of-merged text = path_from-merged (segments (decoded text).bytes) (decoded text).fault

behind-merged : (behind : Option (List ℕ)) → is_ok (normal_behind true behind) ≡ true → is_ok (normal_behind false behind) ≡ true
behind-merged None is = is
behind-merged (Some text) is =
    sym (is_ok-with_args (path_and_query text).1 (path_of false (path_and_query text).0))
    ∙ path_of-merged (path_and_query text).0 (is_ok-with_args (path_and_query text).1 (path_of true (path_and_query text).0) ∙ is)

pub normal_of-merged : (raw : List ℕ) → is_ok (normal_of raw true) ≡ true → is_ok (normal_of raw false) ≡ true
unfolding normal_of
normal_of-merged raw = behind-merged (behind_root raw)
