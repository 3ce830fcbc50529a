-- Laws of bodies.
use Rattle.std.specs.Prelude.{◌≡◌, ℕ, ◌+◌, ◌≤◌, ◌↔◌, List, ◌++◌, length}
use Rattle.http_types.specs.declared.words.BodyKind.{BodyKind}
use Rattle.body_frame.specs.declared.state.BodyState.{BodyState}
use Rattle.body_frame.specs.declared.step.BodyStep.{BodyStep}
use Rattle.body_frame.specs.Outcome.{BodyOutcome, Whole, Short, Broken}
use Rattle.body_frame.specs.Grammar.{Decides}
use Rattle.body_frame.specs.State.{body_of, rest_body, Takes}

-- the outcome of a text is the one that the grammar gives it
abbrev pub BodiesAreTheGrammars : Type 0
BodiesAreTheGrammars = (kind : BodyKind) (text : List ℕ) (outcome : BodyOutcome) → (body_of kind text ≡ outcome) ↔ Decides kind text outcome

-- whole is within the text and stays, and broken stays
pub record BodiesStay : Type 0 where
  pub within : (state : BodyState) (text : List ℕ) (count : ℕ) → rest_body state text ≡ Whole count → count ≤ length text
  pub whole : (state : BodyState) (text more : List ℕ) (count : ℕ) → rest_body state text ≡ Whole count → rest_body state (text ++ more) ≡ Whole count
  pub broken : (state : BodyState) (text more : List ℕ) → rest_body state text ≡ Broken → rest_body state (text ++ more) ≡ Broken

-- a short body can be ended
abbrev pub BodiesGoOn : Type 0
BodiesGoOn = (state : BodyState) (text : List ℕ) → rest_body state text ≡ Short → (more : List ℕ) × (rest_body state (text ++ more) ≡ Whole (length (text ++ more)))

-- two takes are one
abbrev pub TakesCompose : Type 0
TakesCompose =
    (old middle new : BodyState) (first second : List ℕ) (m n : ℕ) (p q : BodyStep)
    → Takes old first m p middle → Takes middle second n q new → Takes old (first ++ second) (m + n) q new
