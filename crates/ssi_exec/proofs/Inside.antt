-- A document whose open block is taken out, and the commands inside a block.
use Rattle.std.proofs.Common.{◌≡◌, ℕ, suc, ◌+◌, ◌-◌, ◌<◌, ◌≤◌, nat_lt, eqb, Bool, true, false, ◌&&◌, List, [], ◌∷◌, length, Option, codes, refl, sym, ap, arith}
use Rattle.std.specs.Str.{bytes_eq}
use Rattle.std.proofs.lemmas.Bool.{cond-true, cond-false, lt-ltb, eqb-true, and_parts}
use Rattle.acts.specs.Act.{Done}
use Rattle.ssi_text.specs.declared.part.Param.{Param}
use Rattle.request_meaning.specs.Documents.{Doc, error_text, oops}
use Rattle.request_meaning.specs.Commands.{block_closed, block_command, block_grown}

pub taken : (doc : Doc) (b : Option (List ℕ × List ℕ)) → doc.block ≡ b → record doc { block = b } ≡ doc
taken doc b e = ap (λ (c : Option (List ℕ × List ℕ)). let d : Doc = record doc { block = c } in d) (sym e)

not_empty : (n : ℕ) (b : Bool) → (eqb (suc n) 0 && b) ≡ true → ⊥
not_empty n b e = let same : suc n ≡ 0 = eqb-true (suc n) 0 (and_parts (eqb (suc n) 0) b e).0 in absurd (omega arith)

-- `endblock` without parameters, and any other command
pub ends : (doc : Doc) (block bytes name : List ℕ) (ps : List Param) → (eqb (length ps) 0 && bytes_eq name (codes "endblock")) ≡ true → block_command doc block bytes name ps ≡ block_closed doc block bytes
unfolding block_command
ends doc block bytes name [] e = cond-true (bytes_eq name (codes "endblock")) (block_closed doc block bytes) (Done (block_grown doc block bytes (error_text doc))) e
ends doc block bytes name (p ∷ ps) e = absurd (not_empty (length ps) (bytes_eq name (codes "endblock")) e)

pub goes_on : (doc : Doc) (block bytes name : List ℕ) (ps : List Param) → (eqb (length ps) 0 && bytes_eq name (codes "endblock")) ≡ false → block_command doc block bytes name ps ≡ Done (block_grown doc block bytes (error_text doc))
unfolding block_command
goes_on doc block bytes name [] e = cond-false (bytes_eq name (codes "endblock")) (block_closed doc block bytes) (Done (block_grown doc block bytes (error_text doc))) e
goes_on doc block bytes name (p ∷ ps) e = refl

-- they don't look at the block that is open
pub command_anyhow : (doc : Doc) (b : Option (List ℕ × List ℕ)) (block bytes name : List ℕ) (ps : List Param) → block_command (record doc { block = b }) block bytes name ps ≡ block_command doc block bytes name ps
unfolding block_command block_closed error_text oops
command_anyhow doc b block bytes name [] = refl
command_anyhow doc b block bytes name (p ∷ ps) = refl

-- a block of this many bytes beside others of this many
pub is_over : (others size : ℕ) → size ≤ 32768 → nat_lt (32768 - size) others ≡ nat_lt 32768 (others + size)
is_over others size h = grind arith

pub is_over_alone : (others size : ℕ) → 32768 < size → true ≡ nat_lt 32768 (others + size)
is_over_alone others size h = sym (lt-ltb 32768 (others + size) (omega arith))
