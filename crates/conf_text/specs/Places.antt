-- Places in a text, as the reader comes by them.
use Rattle.std.specs.Prelude.{◌≡◌, ℕ, ◌+◌, ◌-◌, ◌<◌, ◌≤◌, List, [], ◌∷◌, length, Option, None, Some}
use Rattle.conf_text.specs.declared.fault.FaultKind.{FaultKind}
use Rattle.conf_text.specs.declared.token.Token.{Token}
use Rattle.conf_text.specs.declared.token.Token.TheVariants as token
use Rattle.conf_text.specs.declared.token.Sign.{Sign}
use Rattle.conf_text.specs.declared.token.Sign.TheVariants.{Semicolon, Open, Close, End, Wrong}
use Rattle.conf_text.specs.Words.{Word, Whole, Faulty}
use Rattle.conf_text.specs.Tokens.{tokens}

-- the second place is in the text after the first: passing the bytes between them leads there
pub record Passed (line : ℕ) (rest : List ℕ) (line' : ℕ) (rest' : List ℕ) : Type 0 where
  pub within : length rest' ≤ length rest
  pub lines : line' + length rest' ≤ line + length rest
  pub tokens_there : (more : ℕ) → tokens ((length rest - length rest') + more) line rest ≡ tokens more line' rest'

-- a word was read whole, up to the second place, or has this fault on the line of the second place
abbrev pub ReadsWord : Word → Option FaultKind → List ℕ → (line : ℕ) (rest : List ℕ) (line' : ℕ) (rest' : List ℕ) → Type 0
ReadsWord word None text line rest line' rest' = (word ≡ Whole text (length rest - length rest')) × Passed line rest line' rest'
ReadsWord word (Some kind) text line rest line' rest' = word ≡ Faulty kind line'

-- the first fact where the text goes on after the sign, and the second where it ends there
abbrev pub BySign : Sign → Type 0 → Type 0 → Type 0
BySign Semicolon P Q = P
BySign Open P Q = P
BySign Close P Q = P
BySign End P Q = Q
BySign (Wrong kind) P Q = Q

-- the second place is further on in the text
pub record Nearer (line : ℕ) (rest : List ℕ) (line' : ℕ) (rest' : List ℕ) : Type 0 where
  pub shorter : length rest' < length rest
  pub lines : line' + length rest' ≤ line + length rest

-- a token was read, up to the second place; after the last token there is none
abbrev pub ReadsToken : Token → (line : ℕ) (rest : List ℕ) (line' : ℕ) (rest' : List ℕ) → Type 0
ReadsToken (token.Word at text) line rest line' rest' = (tokens 0 line rest ≡ token.Word at text ∷ tokens 0 line' rest') × Nearer line rest line' rest'
ReadsToken (token.Mark at sign) line rest line' rest' = BySign sign
    ((tokens 0 line rest ≡ token.Mark at sign ∷ tokens 0 line' rest') × Nearer line rest line' rest')
    (tokens 0 line rest ≡ token.Mark at sign ∷ [])
