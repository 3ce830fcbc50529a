use Rattle.std.proofs.Common.{◌≡◌, drop}
use Rattle.std.specs.List.{find}
use Rattle.std.specs.Str.{bytes_eq}
use Rattle.ssi_exec.specs.Named.{name_of}
use Rattle.ssi_exec.proofs.words.word_in.Given as goal

abbrev pub invariant-loop-word : goal.invariant-loop-word
invariant-loop-word l = find (λ w. bytes_eq (name_of w) l.name) (drop l.word-index l.words) ≡ find (λ w. bytes_eq (name_of w) l.name) l.words
