-- Acts that read variables one after another, and texts that are written in pieces.
use Rattle.std.specs.Prelude.{◌≡◌, ℕ, List, [], ◌++◌, Option}
use Rattle.acts.specs.Vars.{Vars, look}
use Rattle.acts.specs.Act.{Done, Get, Write, settled}
use Rattle.family_meaning.specs.request_meaning.Serving.{Answer, Serving}

-- Some of the variables with which an act begins are read, one after another, and this is left of it. Others may come between
-- those reads and what is left, which `settled` leaves no room for.
pub data ReadsTo (A : Type 0) (vars : Vars) : Serving A → Serving A → Type 0 where
  Rests : {m : Serving A} → ReadsTo A vars m m
  Reads : {name : List ℕ} {k : Option (List ℕ) → Serving A} {n : Serving A} →
      ReadsTo A vars (k (look vars name)) n → ReadsTo A vars (Get name k) n

-- A text is written in one piece or in several, and then the rest is done.
pub data Writing (A : Type 0) : List ℕ → Serving A → Serving A → Type 0 where
  Whole : {text : List ℕ} {n : Serving A} → Writing A text (Write text n) n
  Piece : {piece more : List ℕ} {m n : Serving A} → Writing A more m n → Writing A (piece ++ more) (Write piece m) n

-- what is left after some reads settles as all of it did
abbrev pub ReadingSettles : Type 0 → Type 0
ReadingSettles A = (m n : Serving A) (vars : Vars) → ReadsTo A vars m n → settled m vars ≡ settled n vars

-- a text that is written has settled
abbrev pub WritingSettles : Type 0 → Type 0
WritingSettles A = (text : List ℕ) (m n : Serving A) (vars : Vars) → Writing A text m n → settled m vars ≡ (m, vars)

-- After nothing this text is written, and then the answer is there.
pub record IsWritten (text : List ℕ) (act : Serving Answer) (answer : Answer) : Type 0 where
  pub rest : Serving Answer
  pub begins : act ≡ Write [] rest
  pub writes : Writing Answer text rest (Done answer)
