use Rattle.std.proofs.Common.{◌≡◌, ◌++◌, map}
use Rattle.std.specs.BTreeMap.{keys}
use Rattle.race_check.proofs.texts.SetTexts.names.Given as goal

abbrev pub invariant-loop-name : goal.invariant-loop-name
invariant-loop-name l = l.names.items ++ map (λ k. k.items) l.name-iterator ≡ map (λ k. k.items) (keys l.self.texts)
