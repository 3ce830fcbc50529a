-- What the composition of members does to a body.
use Rattle.std.proofs.Common.{◌≡◌, ℕ, true, false, cond, List, [], ◌∷◌, ◌++◌, map, ap, ◌∙◌, append_assoc}
use Rattle.std.proofs.lemmas.List.{map-append}
use Rattle.ssi_text.specs.declared.part.Part.{Part}
use Rattle.ssi_text.specs.declared.part.Part.TheVariants.{Text, Before, After}
use Rattle.ssi_text.specs.Marks.{Mark, Byte, Other, marks, part_marks}
use Rattle.ssi_text.specs.Split.{parts}
use Rattle.filter_api.specs.declared.facts.Facts.{Facts}
use Rattle.filter_api.specs.Members.{Machine, Member, IsLawful, turned, whole}
use Rattle.filter_api.specs.Laws.{ChainsTurn}

marks-cut : (before after : List Part) (a b : List ℕ) → marks (before ++ Text (a ++ b) ∷ after) ≡ marks (before ++ Text a ∷ Text b ∷ after)
marks-cut [] after a b = ap (λ z. z ++ marks after) (map-append Byte a b) ∙ append_assoc (map Byte a) (map Byte b) (marks after)
marks-cut (p ∷ before) after a b = ap (λ z. part_marks p ++ z) (marks-cut before after a b)

turned-on : (m : Machine) (ms : List Machine) (xs : List Mark) → m.on ≡ true → turned (m ∷ ms) xs ≡ turned ms (whole m xs)
turned-on m ms xs e = ap (λ t. turned ms (cond t (whole m xs) xs)) e

turned-off : (before after : List Machine) (m : Machine) (xs : List Mark) → m.on ≡ false → turned (before ++ m ∷ after) xs ≡ turned (before ++ after) xs
turned-off [] after m xs e = ap (λ t. turned after (cond t (whole m xs) xs)) e
turned-off (k ∷ before) after m xs e = turned-off before after m (cond k.on (whole k xs) xs) e

first-two : (m n : Member) (facts : Facts) (later : List Machine) (document : List ℕ) → IsLawful m → IsLawful n → m.kind ≡ 1 → n.kind ≡ 2 → (m.machine facts).on ≡ true → (n.machine facts).on ≡ true → turned (m.machine facts ∷ n.machine facts ∷ later) (map Byte document) ≡ turned later (Other Before ∷ (parts document ++ Other After ∷ []))
first-two m n facts later document lm ln km kn om on =
    turned-on (m.machine facts) (n.machine facts ∷ later) (map Byte document) om ∙ ap (λ z. turned (n.machine facts ∷ later) z) (lm.splits km facts document)
    ∙ turned-on (n.machine facts) later (parts document) on ∙ ap (λ z. turned later z) (ln.surrounds kn facts (parts document))

pub chains-turn : ChainsTurn
chains-turn = record {
  cut = λ ms before after a b. ap (λ z. turned ms z) (marks-cut before after a b);
  off = turned-off;
  first_two = first-two;
}
