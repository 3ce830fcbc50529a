-- A word of configuration text: where it ends, and its bytes with the escapes resolved.
use Rattle.std.specs.Prelude.{ℕ, ◌+◌, ◌-◌, nat_le, Bool, false, not, ◌||◌, ◌&&◌, ◌==◌, List, [], ◌∷◌, ◌++◌, length, if◌then◌else◌}
use Rattle.conf_text.specs.declared.fault.FaultKind.{FaultKind}
use Rattle.conf_text.specs.declared.fault.FaultKind.TheVariants.{UnexpectedEnd, TokenTooLong, BadQuote}

-- a space, a tab, a carriage return or a line feed
abbrev pub is_space : ℕ → Bool
is_space b = (b == 32) || ((b == 9) || ((b == 13) || (b == 10)))

-- the line after a byte
abbrev pub line_behind : ℕ → ℕ → ℕ
line_behind line b = if b == 10 then line + 1 else line

-- What words are made of: a byte, or a backslash with the byte that it takes along. A backslash that is the last
-- byte of the text takes none.
pub data Piece : Type 0 where
  Byte : ℕ → Piece
  Pair : ℕ → Piece
  Cut : Piece

-- the text from a word's beginning on, as pieces
unfoldable pub pieces : List ℕ → List Piece
pieces [] = []
pieces (b ∷ []) = (if b == 92 then Cut else Byte b) ∷ []
pieces (b ∷ c ∷ cs) = if b == 92 then Pair c ∷ pieces cs else Byte b ∷ pieces (c ∷ cs)

-- what a backslash and a byte mean: a quote or a backslash itself, a tab, a carriage return, a line feed; any
-- other pair stays as it is
unfoldable pub escape : ℕ → List ℕ
escape c =
    if (c == 34) || ((c == 39) || (c == 92)) then c ∷ []
    else if c == 116 then 9 ∷ []
    else if c == 114 then 13 ∷ []
    else if c == 110 then 10 ∷ []
    else 92 ∷ c ∷ []

-- What a word is read as: the bytes that it means and how many bytes of the text it takes; or the fault and
-- the line where it shows.
pub data Word : Type 0 where
  Whole : (bytes : List ℕ) → (size : ℕ) → Word
  Faulty : FaultKind → (line : ℕ) → Word

-- bytes that a piece means, with how many bytes of the text it takes, in front of the rest of their word
abbrev pub in_front : List ℕ → ℕ → Word → Word
in_front bytes size (Whole more n) = Whole (bytes ++ more) (size + n)
in_front bytes size (Faulty kind line) = Faulty kind line

-- the same where there is room for them, and a word that is too long where there is not
abbrev pub fitted : (room line : ℕ) → List ℕ → ℕ → Word → Word
fitted room line bytes size more =
    if nat_le (length bytes) room then in_front bytes size more else Faulty TokenTooLong line

-- with this byte an unquoted word ends: white space, `;`, and `{` that isn't right after `$`
abbrev pub ends : (dollar : Bool) → ℕ → Bool
ends dollar b = is_space b || ((b == 59) || ((b == 123) && not dollar))

-- the rest of an unquoted word, which may have `room` bytes more
unfoldable pub plain : (dollar : Bool) → (room line : ℕ) → List Piece → Word
plain dollar room line [] = Faulty UnexpectedEnd line
plain dollar room line (Cut ∷ ps) = Faulty UnexpectedEnd line
plain dollar room line (Pair c ∷ ps) =
    fitted room (line_behind line c) (escape c) 2 (plain false (room - length (escape c)) (line_behind line c) ps)
plain dollar room line (Byte b ∷ ps) =
    if ends dollar b then Whole [] 0 else fitted room line (b ∷ []) 1 (plain (b == 36) (room - 1) line ps)

-- after a quoted word comes white space, `;`, `{` or `)`
abbrev pub may_follow : ℕ → Bool
may_follow b = is_space b || ((b == 59) || ((b == 123) || (b == 41)))

-- the quote at the end of a word, before these pieces
unfoldable pub closed : (line : ℕ) → List Piece → Word
closed line [] = Faulty UnexpectedEnd line
closed line (Byte b ∷ ps) = if may_follow b then Whole [] 1 else Faulty BadQuote line
closed line (Pair c ∷ ps) = Faulty BadQuote line
closed line (Cut ∷ ps) = Faulty BadQuote line

-- the rest of a word that began with this quote
unfoldable pub quoted : (quote : ℕ) → (room line : ℕ) → List Piece → Word
quoted quote room line [] = Faulty UnexpectedEnd line
quoted quote room line (Cut ∷ ps) = Faulty UnexpectedEnd line
quoted quote room line (Pair c ∷ ps) =
    fitted room (line_behind line c) (escape c) 2 (quoted quote (room - length (escape c)) (line_behind line c) ps)
quoted quote room line (Byte b ∷ ps) =
    if b == quote then closed line ps
    else fitted room (line_behind line b) (b ∷ []) 1 (quoted quote (room - 1) (line_behind line b) ps)
