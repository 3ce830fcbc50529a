-- At a path whose bytes go with what comes after them a file can be, and its slashes stay.
use Rattle.std.proofs.Common.{◌≡◌, ℕ, ◌-◌, ◌<◌, ◌≤◌, Bool, true, false, not, ◌&&◌, ◌||◌, cond, eqb, ltb, List, [], ◌∷◌, length, get_or, take, drop, refl, sym, ◌∙◌, ap, arith}
use Rattle.std.proofs.lemmas.Bool.{ltb-true, ltb-false, lt-ltb, ne_eqb, cond-false}
use Rattle.std.proofs.lemmas.List.{take_rest}
use Rattle.std.specs.Prelude.{slice_get}
use Rattle.ngx_variables.specs.Grammar.{begins_with}
use Rattle.ngx_variables.specs.Paths.{is_slash, merged, without_last_slash}
use Rattle.file_path.specs.Located.{begins_with_mark, can_stand, goes_with, is_plain_behind}
use Rattle.file_path.proofs.Plain.{are_plain, both, off, can_stand_at, plain_front}

-- each byte goes with what comes after it
unfoldable pub are_clean : List ℕ → Bool
are_clean [] = true
are_clean (b ∷ bs) = goes_with b bs && are_clean bs

-- what a byte that goes with the rest is
record Goes (b : ℕ) (bs : List ℕ) : Type 0 where
  no_nul : eqb b 0 ≡ false
  low : ltb b 128 ≡ true
  apart : (eqb b 47 && begins_with_mark bs) ≡ false

goes : (b : ℕ) (bs : List ℕ) → goes_with b bs ≡ true → Goes b bs
goes b bs h = elim (ltb 47 b) as (λ t. ltb 47 b ≡ t → cond t (ltb b 128) (not (eqb b 0) && not (eqb b 47 && begins_with_mark bs)) ≡ true → Goes b bs) [
  | true ↦ λ e k.
      let above : 47 < b = ltb-true 47 b e in
      record {
        no_nul = ne_eqb b 0 (λ same. omega (arith, same, above));
        low = k;
        apart = ap (λ t. t && begins_with_mark bs) (ne_eqb b 47 (λ same. omega (arith, same, above)));
      }
  | false ↦ λ e k.
      let most : b ≤ 47 = ltb-false 47 b e in
      let parts = both _ _ k in
      record { no_nul = off _ parts.0; low = lt-ltb b 128 (omega (arith, most)); apart = off _ parts.1 }
] refl h

-- what comes after a slash begins with no dot, and with no slash
no_dot_after : (b : ℕ) (bs : List ℕ) → (eqb b 47 && begins_with_mark bs) ≡ false → (begins_with 46 bs && eqb b 47) ≡ false
no_dot_after b [] h = refl
no_dot_after b (c ∷ bs) h = elim (eqb b 47) as (λ t. (t && (eqb c 47 || eqb c 46)) ≡ false → (eqb c 46 && t) ≡ false) [
  | true ↦ λ k. elim (eqb c 47) as (λ t. (t || eqb c 46) ≡ false → (eqb c 46 && true) ≡ false) [
    | true ↦ λ z. grind (arith, z)
    | false ↦ λ z. ap (λ t. t && true) z
  ] k
  | false ↦ λ k. elim (eqb c 46) as (λ t. (t && false) ≡ false) [ true ↦ refl | false ↦ refl ]
] h

no_slash_after : (b : ℕ) (bs : List ℕ) → (eqb b 47 && begins_with_mark bs) ≡ false → (eqb b 47 && begins_with 47 bs) ≡ false
no_slash_after b [] h = elim (eqb b 47) as (λ t. (t && false) ≡ false) [ true ↦ refl | false ↦ refl ]
no_slash_after b (c ∷ bs) h = elim (eqb b 47) as (λ t. (t && (eqb c 47 || eqb c 46)) ≡ false → (t && eqb c 47) ≡ false) [
  | true ↦ λ k. elim (eqb c 47) as (λ t. (t || eqb c 46) ≡ false → t ≡ false) [ true ↦ λ z. z | false ↦ λ z. refl ] k
  | false ↦ λ k. refl
] h

clean_plain : (before : ℕ) (bs : List ℕ) → are_clean bs ≡ true → (begins_with 46 bs && eqb before 47) ≡ false → are_plain before bs ≡ true
unfolding are_clean are_plain
clean_plain before [] h k = refl
clean_plain before (b ∷ bs) h k =
    let parts = both _ _ h in
    let g = goes b bs parts.0 in
    let here : is_plain_behind before b ≡ true = ap (λ t. not t && (ltb b 128 && not (eqb b 46 && eqb before 47))) g.no_nul ∙ (ap (λ t. t && not (eqb b 46 && eqb before 47)) g.low ∙ ap not k) in
    ap (λ t. t && are_plain b bs) here ∙ clean_plain b bs parts.1 (no_dot_after b bs g.apart)

pub clean_single : (bs : List ℕ) → are_clean bs ≡ true → merged bs ≡ bs
unfolding are_clean merged
clean_single [] h = refl
clean_single (b ∷ bs) h =
    let parts = both _ _ h in
    let g = goes b bs parts.0 in
    cond-false _ _ _ (no_slash_after b bs g.apart) ∙ ap (λ l. b ∷ l) (clean_single bs parts.1)

pub clean_stands : (bs : List ℕ) → begins_with 46 bs ≡ false → are_clean bs ≡ true → can_stand (without_last_slash bs) ≡ true
unfolding without_last_slash
clean_stands bs e h =
    let plain : are_plain 47 bs ≡ true = clean_plain 47 bs h (ap (λ t. t && true) e) in
    elim (is_slash (slice_get bs (length bs - 1))) as (λ t. can_stand (cond t (take (length bs - 1) bs) bs) ≡ true) [
      | true ↦ can_stand_at _ (plain_front 47 (length bs - 1) bs plain)
      | false ↦ can_stand_at bs plain
    ]

pub clean_next : (b : ℕ) (bs : List ℕ) → goes_with b bs ≡ true → are_clean bs ≡ true → are_clean (b ∷ bs) ≡ true
unfolding are_clean
clean_next b bs e h = ap (λ t. t && are_clean bs) e ∙ h

pub clean_step : (rest : List ℕ) → 1 ≤ length rest → goes_with (get_or rest 0 0) (take (length rest - 1) (drop 1 rest)) ≡ true → are_clean (take (length rest - 1) (drop 1 rest)) ≡ true → are_clean rest ≡ true
clean_step [] low e h = absurd (omega (arith, low))
clean_step (b ∷ bs) low e h =
    let behind : take (length (b ∷ bs) - 1) (drop 1 (b ∷ bs)) ≡ bs = take_rest (b ∷ bs) 1 in
    clean_next b bs (sym (ap (goes_with b) behind) ∙ e) (sym (ap are_clean behind) ∙ h)

pub clean_end : (rest : List ℕ) → length rest < 1 → are_clean rest ≡ true
unfolding are_clean
clean_end [] low = refl
clean_end (b ∷ bs) low = absurd (omega (arith, low))
