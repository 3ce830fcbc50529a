-- Laws of chains.
use Rattle.std.specs.Prelude.{◌≡◌, ℕ, true, false, List, [], ◌∷◌, ◌++◌, length, map}
use Rattle.ssi_text.specs.declared.part.Part.{Part}
use Rattle.ssi_text.specs.declared.part.Part.TheVariants.{Text, Before, After}
use Rattle.ssi_text.specs.Marks.{Mark, Byte, Other, marks}
use Rattle.ssi_text.specs.Split.{parts}
use Rattle.filter_api.specs.declared.facts.Facts.{Facts}
use Rattle.filter_api.specs.declared.stage.Stage.{Stage}
use Rattle.filter_api.specs.Members.{Machine, Member, IsLawful, turned}
use Rattle.filter_api.specs.Chains.{begun, feeds_all, still}

-- A chain's state is what still comes of it: at the beginning the composition of the members that are on; and what comes
-- of marks and more is what comes out of the marks, and then what still comes of more.
pub record ChainsGoOn : Type 0 where
  pub begins : (ms : List Machine) (body : List Mark) → still ms (begun ms) body ≡ turned ms body
  pub goes_on : (ms : List Machine) (stages : List Stage) (xs more : List Mark) → length ms ≡ length stages → still ms stages (xs ++ more) ≡ (feeds_all ms stages xs).1 ++ still ms (feeds_all ms stages xs).0 more

-- What a chain does to a body.
pub record ChainsTurn : Type 0 where
  -- a text that is cut in two anywhere makes no difference
  pub cut : (ms : List Machine) (before after : List Part) (a b : List ℕ) → turned ms (marks (before ++ Text (a ++ b) ∷ after)) ≡ turned ms (marks (before ++ Text a ∷ Text b ∷ after))
  -- a member that is off makes no difference
  pub off : (before after : List Machine) (m : Machine) (body : List Mark) → m.on ≡ false → turned (before ++ m ∷ after) body ≡ turned (before ++ after) body
  -- where the first two are on, the later ones get Before, the parts of the document, and After
  pub first_two : (m n : Member) (facts : Facts) (later : List Machine) (document : List ℕ) → IsLawful m → IsLawful n → m.kind ≡ 1 → n.kind ≡ 2 → (m.machine facts).on ≡ true → (n.machine facts).on ≡ true → turned (m.machine facts ∷ n.machine facts ∷ later) (map Byte document) ≡ turned later (Other Before ∷ (parts document ++ Other After ∷ []))
