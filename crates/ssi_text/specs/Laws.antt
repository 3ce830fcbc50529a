-- Laws of the split.
use Rattle.std.specs.Prelude.{◌≡◌, ℕ, ◌<◌, List, [], ◌∷◌, ◌++◌, length, map}
use Rattle.ssi_text.specs.declared.part.Part.TheVariants.{Bad}
use Rattle.ssi_text.specs.Marks.{Mark, Byte, Other}
use Rattle.ssi_text.specs.Split.{split, parts}

-- Bytes are undecided exactly while it is open what they are: with nothing more they are text, with some bytes more a
-- command that isn't well formed begins where they begin. They are fewer than 8192.
pub record UndecidedIsOpen : Type 0 where
  pub bounded : (document : List ℕ) → length (split 0 document).1 < 8192
  pub text : (document : List ℕ) → parts (split 0 document).1 ≡ map Byte (split 0 document).1
  pub part : (document : List ℕ) → 0 < length (split 0 document).1 → (more : List ℕ) × (rest : List Mark) × (parts ((split 0 document).1 ++ more) ≡ Other Bad ∷ rest)

-- pieces make no difference: what is decided stays decided, and the split goes on with what is undecided
pub record PiecesMakeNoDifference : Type 0 where
  pub goes_on : (piece more : List ℕ) → split 0 (piece ++ more) ≡ ((split 0 piece).0 ++ (split 0 ((split 0 piece).1 ++ more)).0, (split 0 ((split 0 piece).1 ++ more)).1)
  pub pieces : (piece rest : List ℕ) → parts (piece ++ rest) ≡ (split 0 piece).0 ++ parts ((split 0 piece).1 ++ rest)
  pub undecided : (piece : List ℕ) → split 0 (split 0 piece).1 ≡ ([], (split 0 piece).1)
