-- Texts that a host ends or begins with.
use Rattle.std.proofs.Common.{◌≡◌, ℕ, ◌+◌, ◌-◌, ◌<◌, ◌≤◌, true, List, length, take, drop, Option, Some, None, sym, ap, ◌∙◌, subst, ⊎_elim, arith}
use Rattle.std.proofs.lemmas.Bool.{cases_lt, and_parts, and_from}
use Rattle.std.proofs.lemmas.Bool.Decides.{nat_tests}
use Rattle.std.proofs.lemmas.Slice.Eq.{bytes_eq-Decides}
use Rattle.std.proofs.Common.{length-drop}
use lib.ListN.{length-take}
use Rattle.server_choice.specs.Names.{is_ending, is_beginning, IsLongestOf, IsLongestNumber}

-- a text that the host ends with is what the host has from a place on
pub ending-is : (host text : List ℕ) → is_ending host text ≡ true → (text ≡ drop (length host - length text) host) × (length text < length host)
ending-is host text h =
    let p = and_parts _ _ h in
    ((bytes_eq-Decides text (drop (length host - length text) host)).0 p.0, grind (arith, nat_tests, p.1))

pub beginning-is : (host text : List ℕ) → is_beginning host text ≡ true → (text ≡ take (length text) host) × (length text < length host)
beginning-is host text h =
    let p = and_parts _ _ h in
    ((bytes_eq-Decides text (take (length text) host)).0 p.0, grind (arith, nat_tests, p.1))

module _ (host : List ℕ) (numbers : List ℕ → Option ℕ) where
  -- no text has a number that the host ends with before a place
  abbrev pub NoneBefore : ℕ → Type 0
  NoneBefore at = (text : List ℕ) → is_ending host text ≡ true → length host < length text + at → numbers text ≡ None

  -- no text has a number that the host begins with and that reaches past a place
  abbrev pub NonePast : ℕ → Type 0
  NonePast at = (text : List ℕ) → is_beginning host text ≡ true → at ≤ length text → numbers text ≡ None

  pub none-before-start : NoneBefore 1
  none-before-start text h lt = let shorter = (ending-is host text h).1 in absurd (omega arith)

  pub none-before-next : (at : ℕ) → NoneBefore at → numbers (drop at host) ≡ None → NoneBefore (at + 1)
  none-before-next at none here text h lt =
      let is = ending-is host text h in
      ⊎_elim
      (λ (before : length host < length text + at). none text h before)
      (λ (ge : length text + at ≤ length host).
      let place : length host - length text ≡ at = omega arith in
      subst (λ t. numbers t ≡ None) (sym (is.0 ∙ ap (λ n. drop n host) place)) here)
      (cases_lt (length host) (length text + at))

  pub none-before-end : (at : ℕ) → length host < at → NoneBefore at → IsLongestOf (is_ending host) numbers None
  none-before-end at past none text h = none text h (omega (arith, past))

  pub longest-ending : (at number : ℕ) → 1 ≤ at → at ≤ length host → NoneBefore at → numbers (drop at host) ≡ Some number →
      IsLongestNumber (is_ending host) numbers number
  longest-ending at number some inside none has =
      let size = length-drop at host in
      let place : length host - length (drop at host) ≡ at = omega (arith, size) in
      let less : length (drop at host) < length host = omega (arith, size) in
      record {
        text = drop at host;
        text_fits = and_from _ _ ((bytes_eq-Decides (drop at host) (drop (length host - length (drop at host)) host)).1 (ap (λ n. drop n host) (sym place)))
            (grind (arith, nat_tests, less));
        has = has;
        longest = λ other h longer. none other h (omega (arith, size, longer));
      }

  pub none-past-start : NonePast (length host)
  none-past-start text h le = let shorter = (beginning-is host text h).1 in absurd (omega arith)

  pub none-past-next : (at next : ℕ) → at ≡ next + 1 → NonePast at → numbers (take next host) ≡ None → NonePast next
  none-past-next at next one none here text h le =
      let is = beginning-is host text h in
      ⊎_elim
      (λ (before : length text < at).
      let size : length text ≡ next = omega arith in
      subst (λ t. numbers t ≡ None) (sym (is.0 ∙ ap (λ n. take n host) size)) here)
      (λ (ge : at ≤ length text). none text h ge)
      (cases_lt (length text) at)

  pub none-past-end : (at : ℕ) → at ≤ 0 → NonePast at → IsLongestOf (is_beginning host) numbers None
  none-past-end at low none text h = none text h (omega (arith, low))

  pub longest-beginning : (at next number : ℕ) → at ≡ next + 1 → at ≤ length host → NonePast at → numbers (take next host) ≡ Some number →
      IsLongestNumber (is_beginning host) numbers number
  longest-beginning at next number one inside none has =
      let size = length-take next host in
      let long : length (take next host) ≡ next = omega (arith, size) in
      let less : length (take next host) < length host = omega (arith, long) in
      record {
        text = take next host;
        text_fits = and_from _ _ ((bytes_eq-Decides (take next host) (take (length (take next host)) host)).1 (ap (λ n. take n host) (sym long)))
            (grind (arith, nat_tests, less));
        has = has;
        longest = λ other h longer. none other h (omega (arith, long, longer));
      }
