-- Names that are kept in their place where they are short.
use Rattle.std.specs.Prelude.{ℕ, List, take}
use Rattle.ssi_text.specs.declared.name.Spelling.{Spelling}
use Rattle.ssi_text.specs.declared.name.Spelling.TheVariants.{Short, Long}

-- the name that is kept
abbrev pub spelled_bytes : Spelling → List ℕ
spelled_bytes (Short size bytes) = take size bytes
spelled_bytes (Long text) = text
