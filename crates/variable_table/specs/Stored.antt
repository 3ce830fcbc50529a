-- Texts that are stored in their place where they are short.
use Rattle.std.specs.Prelude.{ℕ, List, take}
use Rattle.variable_table.specs.declared.stored.Stored.{Stored}
use Rattle.variable_table.specs.declared.stored.Stored.TheVariants.{Short, Long}

-- the text that is stored
abbrev pub stored_bytes : Stored → List ℕ
stored_bytes (Short size bytes) = take size bytes
stored_bytes (Long text) = text
