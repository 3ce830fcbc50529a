use Rattle.std.proofs.Common.{◌≡◌, ◌∷◌, ◌++◌, drop, flat_map}
use Rattle.rewrite_compile.proofs.words.joined.Given as goal

abbrev pub invariant-loop-word : goal.invariant-loop-word
invariant-loop-word l = l.text ++ flat_map (λ w. 32 ∷ w) (drop l.word-index l.others) ≡ l.initial.text ++ flat_map (λ w. 32 ∷ w) l.others
