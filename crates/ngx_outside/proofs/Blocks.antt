-- What is told of a block that a text took, or had no room for.
use Rattle.std.proofs.Common.{◌≡◌, ℕ, List, ◌++◌, Option, Result, Ok, Err, sym, ◌∙◌, subst}
use Rattle.std.proofs.lemmas.List.{append_cancel_left}
use Rattle.ngx_outside.specs.Records.{Adds, FileAnswer, Bytes, ReadTold}

-- what was added is the block
pub block_added : (old new block : List ℕ) (before after : Option (List FileAnswer)) → new ≡ old ++ block → Adds (Bytes block) before after →
    (added : List ℕ) → new ≡ old ++ added → Adds (Bytes added) before after
block_added old new block before after e a added h =
    subst (λ (b : List ℕ). Adds (Bytes b) before after) (append_cancel_left old block added (sym e ∙ h)) a

-- a block for which there was no room is told
pub block_refused : {E : Type 0} (old new block : List ℕ) (result : Result (Unit {0}) E) (before after : Option (List FileAnswer)) (e : E) →
    result ≡ Err e → Adds (Bytes block) before after → ReadTold old new result before after
block_refused old new block (Ok u) before after e is a = cc
block_refused old new block (Err f) before after e is a = (Bytes block, a)
