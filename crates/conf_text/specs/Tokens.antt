-- A text as its tokens.
use Rattle.std.specs.Prelude.{ℕ, zero, suc, ◌-◌, Bool, false, ◌||◌, ◌==◌, List, [], ◌∷◌, if◌then◌else◌}
use Rattle.conf_text.specs.declared.token.Token.{Token}
use Rattle.conf_text.specs.declared.token.Token.TheVariants as token
use Rattle.conf_text.specs.declared.token.Sign.TheVariants.{Semicolon, Open, Close, End, Wrong}
use Rattle.conf_text.specs.Words.{Word, Whole, Faulty, is_space, line_behind, in_front, pieces, plain, quoted}

-- a quote: `"` or `'`
abbrev pub is_quote : ℕ → Bool
is_quote b = (b == 34) || (b == 39)

-- the word that begins with this byte: within quotes, or up to what ends an unquoted word
unfoldable pub word_at : (line : ℕ) → (first : ℕ) → List ℕ → Word
word_at line b bs =
    if is_quote b then in_front [] 1 (quoted b 4096 line (pieces bs))
    else plain false 4096 line (pieces (b ∷ bs))

-- how many bytes a comment has after its `#`: those before the line feed
unfoldable pub comment : List ℕ → ℕ
comment [] = 0
comment (b ∷ bs) = if b == 10 then 0 else suc (comment bs)

-- The tokens of a text from a line on, after the first `passed` bytes. A token may begin anywhere after the token
-- before; white space and comments may be between them.
unfoldable pub tokens : (passed line : ℕ) → List ℕ → List Token
tokens passed line [] = token.Mark line End ∷ []
tokens (suc passed) line (b ∷ bs) = tokens passed (line_behind line b) bs
tokens zero line (b ∷ bs) =
    if is_space b then tokens zero (line_behind line b) bs
    else if b == 35 then tokens (comment bs) line bs
    else if b == 59 then token.Mark line Semicolon ∷ tokens zero line bs
    else if b == 123 then token.Mark line Open ∷ tokens zero line bs
    else if b == 125 then token.Mark line Close ∷ tokens zero line bs
    else elim (word_at line b bs) [
      | Whole text size ↦ token.Word line text ∷ tokens (size - 1) (line_behind line b) bs
      | Faulty kind at ↦ token.Mark at (Wrong kind) ∷ []
    ]
