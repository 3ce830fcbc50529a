-- A text above all others at their end: they stay in order, each with its nearest place.
use Rattle.std.proofs.Common.{◌≡◌, ℕ, ◌+◌, ◌-◌, ◌<◌, ◌≤◌, true, false, List, [], ◌∷◌, ◌++◌, length, Option, Some, None, IfSome, IfNone, ⊎_elim, refl, sym, ap, ap₂, ◌∙◌, subst, get_or, arith}
use Rattle.std.proofs.lemmas.List.{get_or_append_left, get_or_push, length-append, length-map, map_push}
use Rattle.std.proofs.lemmas.Bool.{cases_lt, cases_Bool, and_parts, and_from}
use Rattle.std.proofs.lemmas.Bool.Decides.{nat_tests}
use Rattle.location_match.specs.Prefixes.{text_at, fits, is_inside, is_at_most, AreSorted, IsAboveAll, LeadsTo, AreNested, IsLongest, FitsNone}
use Rattle.location_match.specs.Entries.{texts_of, nearest_of, AreSound}
use Rattle.location_match.specs.declared.prefixes.PrefixEntry.{PrefixEntry}
use Rattle.location_match.proofs.Order.{fits-at_most, fits-both, at_most-trans, at_most-total}
use Rattle.location_match.proofs.Nearest.{not_both, fits-refl, ordered, covers-last}

-- a text above the last is above all
pub above-all : (texts : List (List ℕ)) (text : List ℕ) → AreSorted texts →
    is_at_most text (text_at texts (length texts - 1)) ≡ false → IsAboveAll texts text
above-all texts text sorted above place lt = ⊎_elim
    (λ hit. not_both _
    (at_most-trans text (text_at texts place) (text_at texts (length texts - 1)) hit (ordered texts sorted place (length texts - 1) (omega arith) (omega arith)))
    above)
    (λ miss. miss)
    (cases_Bool (is_at_most text (text_at texts place)))

module _ (texts : List (List ℕ)) (text : List ℕ) (sorted : AreSorted texts) (above : IsAboveAll texts text) where
  abbrev grown : List (List ℕ)
  grown = texts ++ text ∷ []

  size : length grown ≡ length texts + 1
  size = length-append texts (text ∷ [])

  old : (i : ℕ) → i < length texts → text_at grown i ≡ text_at texts i
  old i lt = get_or_append_left texts (text ∷ []) [] i lt

  new : text_at grown (length texts) ≡ text
  new = get_or_push texts text [] (length texts) refl

  pub sorted-grown : AreSorted grown
  sorted-grown i j less lt = ⊎_elim
      (λ (inside : j < length texts).
      ap₂ is_at_most (old j inside) (old i (omega arith)) ∙ sorted i j less inside)
      (λ (last : length texts ≤ j).
      let e : j ≡ length texts = omega (arith, size, lt) in
      ap₂ is_at_most (ap (text_at grown) e ∙ new) (old i (omega arith)) ∙ above i (omega arith))
      (cases_lt j (length texts))

  leads-old : (place : ℕ) → place < length texts → (o : Option ℕ) → LeadsTo texts place o → LeadsTo grown place o
  leads-old place lt None leads = λ other before.
      ap₂ is_inside (old other (omega arith)) (old place lt) ∙ leads other before
  leads-old place lt (Some nearest) leads = (
    leads.0,
    ap₂ is_inside (old nearest (omega (arith, leads.0))) (old place lt) ∙ leads.1,
    λ other before inside.
        ap₂ fits (old nearest (omega (arith, leads.0))) (old other (omega arith))
        ∙ leads.2 other before (sym (ap₂ is_inside (old other (omega arith)) (old place lt)) ∙ inside),
  )

  pub leads-some : (place : ℕ) → IsLongest texts text place → LeadsTo grown (length texts) (Some place)
  leads-some place found = (
    found.inside,
    ap₂ is_inside (old place found.inside) new ∙ and_from _ _ found.begins (grind (arith, nat_tests, shorter)),
    λ other before inside.
        let there : is_inside (text_at texts other) text ≡ true = sym (ap₂ is_inside (old other before) new) ∙ inside in
        let begins = (and_parts _ _ there).0 in
        ap₂ fits (old place found.inside) (old other before)
        ∙ fits-both text (text_at texts other) (text_at texts place) begins found.begins (found.longest other before begins),
  )
    where
      shorter : length (text_at texts place) < length text
      shorter = ⊎_elim
          (λ less. less)
          (λ (le : length text ≤ length (text_at texts place)). not_both _
          (fits-at_most (text_at texts place) text (fits-both text text (text_at texts place) (fits-refl text) found.begins le))
          (above place found.inside))
          (cases_lt (length (text_at texts place)) (length text))

  pub leads-none : FitsNone texts text → LeadsTo grown (length texts) None
  leads-none none other before = ⊎_elim
      (λ hit.
      let there : is_inside (text_at texts other) text ≡ true = sym (ap₂ is_inside (old other before) new) ∙ hit in
      not_both _ (and_parts _ _ there).0 (none other before))
      (λ miss. miss)
      (cases_Bool (is_inside (text_at grown other) (text_at grown (length texts))))

  pub nested-grown : (nearest : List (Option ℕ)) → length nearest ≡ length texts → AreNested texts nearest → (o : Option ℕ) →
      LeadsTo grown (length texts) o → AreNested grown (nearest ++ o ∷ [])
  nested-grown nearest same nested o leads place lt = ⊎_elim
      (λ (inside : place < length texts).
      subst (LeadsTo grown place) (sym (get_or_append_left nearest (o ∷ []) None place (omega (arith, same))))
      (leads-old place inside _ (nested place inside)))
      (λ (last : length texts ≤ place).
      let e : place ≡ length texts = omega (arith, size, lt) in
      subst (λ n. LeadsTo grown n (get_or (nearest ++ o ∷ []) n None)) (sym e)
      (subst (LeadsTo grown (length texts)) (sym (get_or_push nearest o None (length texts) same)) leads))
      (cases_lt place (length texts))

  -- a text above all begins with those that the last one begins with
  pub covers-above : 0 < length texts → (other : ℕ) → other < length texts → fits text (text_at texts other) ≡ true →
      fits (text_at texts (length texts - 1)) (text_at texts other) ≡ true
  covers-above some = covers-last texts sorted text (length texts) (omega arith)
      (λ i lt. at_most-total text (text_at texts i) (above i lt)) (λ i le lt. absurd (omega arith)) some

  pub leads-new : (o : Option ℕ) → IfSome o (IsLongest texts text) → IfNone o (FitsNone texts text) → LeadsTo grown (length texts) o
  leads-new None found none = leads-none none
  leads-new (Some place) found none = leads-some place found

-- entries stay sound with one above all at their end
pub sound-grown : (es new : List PrefixEntry) (e : PrefixEntry) → new ≡ es ++ e ∷ [] → AreSound es → IsAboveAll (texts_of es) e.text →
    IfSome e.nearest (IsLongest (texts_of es) e.text) → IfNone e.nearest (FitsNone (texts_of es) e.text) → AreSound new
sound-grown es new e is sound above some none =
    let texts = texts_of es in
    let many : length (nearest_of es) ≡ length texts = length-map es (λ x. x.nearest) ∙ sym (length-map es (λ x. x.text)) in
    let both : texts_of new ≡ texts ++ e.text ∷ [] = ap texts_of is ∙ map_push (λ x. x.text) es e in
    let ways : nearest_of new ≡ nearest_of es ++ e.nearest ∷ [] = ap nearest_of is ∙ map_push (λ x. x.nearest) es e in
    record {
      sorted = subst AreSorted (sym both) (sorted-grown texts e.text sound.sorted above);
      nested = subst (λ ts. AreNested ts (nearest_of new)) (sym both)
          (subst (AreNested (texts ++ e.text ∷ [])) (sym ways)
          (nested-grown texts e.text sound.sorted above (nearest_of es) many sound.nested e.nearest
          (leads-new texts e.text sound.sorted above e.nearest some none)));
    }
