-- The words of commands.
use Rattle.std.specs.Prelude.{ℕ, Bool, true, false, List, [], ◌∷◌, codes, ◌&&◌, nat_le, length, bytes_eq}
use Rattle.std.specs.List.{list_any, list_all}
use Rattle.ssi_text.specs.declared.part.Param.{Param}
use Rattle.request_meaning.specs.Commands.{Word, has, may_have, must_have}
use Rattle.request_meaning.specs.Commands.Word.{Block, EndBlock, Config, Echo, If, Elif, Else, EndIf, Include, Set}
use Rattle.ssi_exec.specs.declared.words.Word.{Word as CodeWord}
use Rattle.ssi_exec.specs.declared.words.Word.TheVariants as code

abbrev pub word_seen : CodeWord → Word
word_seen code.Block = Block
word_seen code.EndBlock = EndBlock
word_seen code.Config = Config
word_seen code.Echo = Echo
word_seen code.If = If
word_seen code.Elif = Elif
word_seen code.Else = Else
word_seen code.EndIf = EndIf
word_seen code.Include = Include
word_seen code.Set = Set

-- the name of each
unfoldable pub name_of : CodeWord → List ℕ
name_of code.Block = codes "block"
name_of code.EndBlock = codes "endblock"
name_of code.Config = codes "config"
name_of code.Echo = codes "echo"
name_of code.If = codes "if"
name_of code.Elif = codes "elif"
name_of code.Else = codes "else"
name_of code.EndIf = codes "endif"
name_of code.Include = codes "include"
name_of code.Set = codes "set"

unfoldable pub all_words : List CodeWord
all_words =
    code.Block ∷ code.EndBlock ∷ code.Config ∷ code.Echo ∷ code.If ∷ code.Elif ∷ code.Else ∷ code.EndIf
    ∷ code.Include ∷ code.Set ∷ []

-- a parameter that a command may have, which isn't too long
abbrev pub fits : (most : ℕ) → Word → Param → Bool
fits most word p = list_any (bytes_eq p.name) (may_have word) && nat_le (length p.value) most

-- the parameters that it must have are there
abbrev pub has_all : Word → List Param → Bool
has_all word ps = list_all (λ name. has name ps) (must_have word)

-- it does nothing in text that isn't live
abbrev pub needs_live : Word → Bool
needs_live Block = true
needs_live EndBlock = false
needs_live Config = true
needs_live Echo = true
needs_live If = false
needs_live Elif = false
needs_live Else = false
needs_live EndIf = false
needs_live Include = true
needs_live Set = true

abbrev pub includes : Word → Bool
includes Include = true
includes other = false
