-- Answers of links that are kept.
use Rattle.std.proofs.Common.{◌≡◌, Bool, true, false, List, [], ◌∷◌, ◌++◌, sym, subst}
use Rattle.std.specs.Prelude.{Option}
use Rattle.ngx_outside.specs.Records.{Adds, LinkAnswer}
use Rattle.memory_outside.specs.Answered.{told_by}
use Rattle.memory_outside.proofs.Kept.{added, stopped}
use Rattle.memory_links.specs.declared.answers.LinkTold.{LinkTold}
use Rattle.memory_links.specs.Answered.{link_answer}

pub link_added : (a : LinkTold) (b : LinkAnswer) (whole whole' : Bool) (kept kept' : List LinkTold) → b ≡ link_answer a →
    (whole' ≡ true → (whole ≡ true) × (kept' ≡ kept ++ a ∷ [])) → Adds b (told_by link_answer whole kept) (told_by link_answer whole' kept')
link_added a b whole whole' kept kept' e h =
    subst (λ (c : LinkAnswer). Adds c (told_by link_answer whole kept) (told_by link_answer whole' kept')) (sym e) (added link_answer a whole whole' kept kept' h)

pub links_stopped : (b : LinkAnswer) (old : Option (List LinkAnswer)) (whole : Bool) (kept : List LinkTold) → whole ≡ false → Adds b old (told_by link_answer whole kept)
links_stopped = stopped link_answer
