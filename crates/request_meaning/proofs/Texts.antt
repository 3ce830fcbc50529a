-- A body of text alone.
use Rattle.std.proofs.Common.{◌≡◌, ℕ, Bool, true, false, ◌&&◌, ◌||◌, cond, List, [], ◌∷◌, map, refl, ap, ◌∙◌}
use Rattle.ssi_filter.specs.ssi_text.Marks.{Mark, Byte}
use Rattle.addition_filter.specs.filter_api.declared.facts.Facts.{Facts}
use Rattle.addition_filter.specs.filter_api.Members.{Member, whole, turned, others_of}
use Rattle.addition_filter.specs.Machine.{is_added, addition_machine}
use Rattle.ssi_filter.specs.Machine.{is_split, ssi_machine}
use Rattle.request_meaning.specs.Serving.{World}
use Rattle.request_meaning.specs.Laws.{MakesText, ShippedMakesText, shipped}

no_others : (bytes : List ℕ) → others_of (map Byte bytes) ≡ []
no_others [] = refl
no_others (b ∷ bytes) = no_others bytes

unadded : (main ok kind before after : Bool) → before ≡ false → after ≡ false → (main && (ok && (kind && (before || after)))) ≡ false
unadded false ok kind before after b a = refl
unadded true false kind before after b a = refl
unadded true true false before after b a = refl
unadded true true true before after b a = ap (λ x. x || after) b ∙ a

-- filters that are off change nothing
unchanged : (facts : Facts) (xs : List Mark) → is_split facts ≡ false → is_added facts ≡ false → turned (ssi_machine facts ∷ addition_machine facts ∷ []) xs ≡ xs
unchanged facts xs split added =
    ap (λ s. let ys = cond s (whole (ssi_machine facts) xs) xs in cond (is_added facts) (whole (addition_machine facts) ys) ys) split
    ∙ ap (λ t. cond t (whole (addition_machine facts) xs) xs) added

pub shipped_makes : ShippedMakesText
shipped_makes w is facts bytes ssi before after =
    ap (λ ms. others_of (turned (map (λ (m : Member). m.machine facts) ms) (map Byte bytes))) is
    ∙ ap others_of (unchanged facts (map Byte bytes) (ap (λ s. s && facts.ssi_type) ssi) (unadded facts.main _ facts.addition_type facts.before facts.after before after))
    ∙ no_others bytes
