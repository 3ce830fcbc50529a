-- Lists that grow at their end.
use Rattle.std.proofs.Common.{◌≡◌, List, [], ◌++◌, sym, ap, ◌∙◌, append_assoc}
use Rattle.std.proofs.lemmas.List.{append-nil}

-- new is old with more after it
pub record Longer {X : Type 0} (old new : List X) : Type 0 where
  pub added : List X
  pub whole : new ≡ old ++ added

pub longer_first : {X : Type 0} (old : List X) → Longer old old
longer_first old = record { added = []; whole = sym (append-nil old) }

pub longer_next : {X : Type 0} (old mid new more : List X) → Longer old mid → new ≡ mid ++ more → Longer old new
longer_next old mid new more l e = record { added = l.added ++ more; whole = e ∙ ap (λ k. k ++ more) l.whole ∙ append_assoc old l.added more }
