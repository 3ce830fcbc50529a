-- The chain of body filters that a server has.
use Rattle.std.proofs.Common.{◌≡◌, ℕ, ◌==◌, ◌&&◌, ◌||◌, Bool, true, false, cond, List, [], ◌∷◌, ◌++◌, map, refl, sym, ap, ◌∙◌}
use Rattle.std.specs.List.{list_any}
use Rattle.ssi_text.specs.declared.part.Part.TheVariants as parts
use Rattle.ssi_text.specs.Marks.{Mark, Byte, Other}
use Rattle.family_meaning.specs.filter_api.declared.facts.Facts.{Facts}
use Rattle.family_meaning.specs.filter_api.declared.facts.FilterState.{FilterState}
use Rattle.family_meaning.specs.filter_api.Members.{Member, fresh, feeds, whole, turned, others_of}
use Rattle.family_meaning.specs.addition_filter.Machine.{is_added, addition_machine, addition_step, addition_finish, begun}
use Rattle.family_meaning.specs.ssi_filter.Machine.{ssi_machine}
use Rattle.family_meaning.specs.request_meaning.Serving.{World}
use Rattle.family_meaning.specs.request_meaning.Bodies.{filtered_marks}
use Rattle.family_meaning.specs.request_meaning.Laws.{shipped}
use Rattle.race_meaning.specs.Laws.{is_command, ShippedAreFit}

abbrev commands : List Mark → Bool
commands xs = list_any is_command (others_of xs)

no_bytes : (bytes : List ℕ) → commands (map Byte bytes) ≡ false
no_bytes [] = refl
no_bytes (b ∷ bytes) = no_bytes bytes

-- additions put no command before text
one_step : (s : FilterState) (b : ℕ) (started : Bool) → (s.count == 0) ≡ started → (rest : List Mark) → commands rest ≡ false → commands ((addition_step s (Byte b)).1 ++ rest) ≡ false
one_step s b true e rest h = ap (λ t. commands ((cond {A = FilterState × List Mark} t (begun s, Other parts.Before ∷ Byte b ∷ []) (s, Byte b ∷ [])).1 ++ rest)) e ∙ h
one_step s b false e rest h = ap (λ t. commands ((cond {A = FilterState × List Mark} t (begun s, Other parts.Before ∷ Byte b ∷ []) (s, Byte b ∷ [])).1 ++ rest)) e ∙ h

append_two : (a b c : List Mark) → commands (a ++ (b ++ c)) ≡ commands ((a ++ b) ++ c)
append_two [] b c = refl
append_two (Byte x ∷ a) b c = append_two a b c
append_two (Other p ∷ a) b c = ap (λ t. is_command p || t) (append_two a b c)

finishes : (s : FilterState) (started : Bool) → (s.count == 0) ≡ started → commands (addition_finish s) ≡ false
finishes s true e = ap (λ t. commands (cond t (Other parts.Before ∷ Other parts.After ∷ []) (Other parts.After ∷ []))) e
finishes s false e = ap (λ t. commands (cond t (Other parts.Before ∷ Other parts.After ∷ []) (Other parts.After ∷ []))) e

added_bytes : (facts : Facts) (s : FilterState) (bytes : List ℕ) → (let a = feeds (addition_machine facts) s (map Byte bytes) in commands (a.1 ++ addition_finish a.0)) ≡ false
added_bytes facts s [] = finishes s (s.count == 0) refl
added_bytes facts s (b ∷ bytes) =
    let step = addition_step s (Byte b) in
    let a = feeds (addition_machine facts) step.0 (map Byte bytes) in
    sym_two step.1 a.1 (addition_finish a.0) ∙ one_step s b (s.count == 0) refl (a.1 ++ addition_finish a.0) (added_bytes facts step.0 bytes)
  where
    sym_two : (a b c : List Mark) → commands ((a ++ b) ++ c) ≡ commands (a ++ (b ++ c))
    sym_two a b c = sym (append_two a b c)

by_added : (b : Bool) (xs ys : List Mark) → commands xs ≡ false → commands ys ≡ false → commands (cond b ys xs) ≡ false
by_added true xs ys h g = g
by_added false xs ys h g = h

no_commands : (w : World) → w.members ≡ shipped → (facts : Facts) (bytes : List ℕ) → facts.ssi ≡ false → commands (filtered_marks w facts bytes) ≡ false
no_commands w is facts bytes ssi =
    ap (λ ms. commands (turned (map (λ (m : Member). m.machine facts) ms) (map Byte bytes))) is
    ∙ ap (λ t. let ys = cond (t && facts.ssi_type) (whole (ssi_machine facts) (map Byte bytes)) (map Byte bytes) in commands (cond (is_added facts) (whole (addition_machine facts) ys) ys)) ssi
    ∙ by_added (is_added facts) (map Byte bytes) (whole (addition_machine facts) (map Byte bytes)) (no_bytes bytes) (added_bytes facts fresh bytes)

no_others : (bytes : List ℕ) → others_of (map Byte bytes) ≡ []
no_others [] = refl
no_others (b ∷ bytes) = no_others bytes

unadded : (main ok kind before after : Bool) → before ≡ false → after ≡ false → (main && (ok && (kind && (before || after)))) ≡ false
unadded false ok kind before after b a = refl
unadded true false kind before after b a = refl
unadded true true false before after b a = refl
unadded true true true before after b a = ap (λ x. x || after) b ∙ a

no_parts : (w : World) → w.members ≡ shipped → (facts : Facts) (bytes : List ℕ) → facts.ssi ≡ false → facts.before ≡ false → facts.after ≡ false → others_of (filtered_marks w facts bytes) ≡ []
no_parts w is facts bytes ssi before after =
    ap (λ ms. others_of (turned (map (λ (m : Member). m.machine facts) ms) (map Byte bytes))) is
    ∙ ap (λ t. let ys = cond (t && facts.ssi_type) (whole (ssi_machine facts) (map Byte bytes)) (map Byte bytes) in others_of (cond (is_added facts) (whole (addition_machine facts) ys) ys)) ssi
    ∙ ap (λ t. others_of (cond t (whole (addition_machine facts) (map Byte bytes)) (map Byte bytes))) (unadded facts.main (facts.status == 200) facts.addition_type facts.before facts.after before after)
    ∙ no_others bytes

pub shipped_fit : ShippedAreFit
shipped_fit w is = record { commands = no_commands w is; text = no_parts w is }
