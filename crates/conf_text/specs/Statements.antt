-- Tokens as statements: words and the sign after them.
use Rattle.std.specs.Prelude.{◌≡◌, ℕ, List, [], ◌∷◌, ◌++◌}
use Rattle.conf_text.specs.declared.token.Token.{Token}
use Rattle.conf_text.specs.declared.token.Token.TheVariants as token
use Rattle.conf_text.specs.declared.token.Sign.{Sign}
use Rattle.conf_text.specs.declared.statement.Statement.{Statement}
use Rattle.conf_text.specs.declared.statement.Statement.TheVariants.{Bare, Led}
use Rattle.conf_text.specs.Tokens.{tokens}
use Rattle.conf_text.specs.Places.{BySign, Nearer}

-- a word on a line, and some words after it, in front of the first statement
unfoldable pub led : (line : ℕ) → (name : List ℕ) → (args : List (List ℕ)) → List Statement → List Statement
led line name args [] = []
led line name args (Bare sign at ∷ more) = Led line name args sign at ∷ more
led line name args (Led other next last sign at ∷ more) = Led line name (args ++ next ∷ last) sign at ∷ more

-- each sign ends a statement, to which the words before it belong
unfoldable pub statements : List Token → List Statement
statements [] = []
statements (token.Word line text ∷ ts) = led line text [] (statements ts)
statements (token.Mark line sign ∷ ts) = Bare sign line ∷ statements ts

-- the sign that ends a statement
abbrev pub sign_of : Statement → Sign
sign_of (Bare sign at) = sign
sign_of (Led line name args sign at) = sign

-- a statement was read, up to the second place; after the last statement there is none
abbrev pub ReadsStatement : Statement → List Statement → (line : ℕ) (rest : List ℕ) (line' : ℕ) (rest' : List ℕ) → Type 0
ReadsStatement s all line rest line' rest' = BySign (sign_of s)
    ((all ≡ s ∷ statements (tokens 0 line' rest')) × Nearer line rest line' rest')
    (all ≡ s ∷ [])
