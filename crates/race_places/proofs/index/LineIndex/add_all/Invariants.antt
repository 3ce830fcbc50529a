use Rattle.std.proofs.Common.{◌≡◌, ◌++◌, ◌∷◌, [], ℕ, List}
use Rattle.race_check.specs.Names.{has}
use Rattle.race_places.specs.Index.{at}
use Rattle.race_places.specs.Places.{keep_if}
use Rattle.race_places.proofs.Indexing.{has_key, AreApart}
use Rattle.race_places.proofs.index.LineIndex.add_all.Given as goal

abbrev pub invariant-loop-name : goal.invariant-loop-name
invariant-loop-name l =
    AreApart (λ k. k.items) l.name-iterator
    × ((name : List ℕ) → at l.self name ++ keep_if (has_key (λ k. k.items) name l.name-iterator) (l.line ∷ []) ≡ at l.fn.self name ++ keep_if (has l.names name) (l.line ∷ []))
