use Rattle.std.proofs.Common.{option_map, ap, ◌∙◌, sym}
use Rattle.std.specs.Str.{bytes_eq}
use Rattle.ssi_exec.specs.Named.{word_seen, all_words}
use Rattle.ssi_exec.proofs.Wordings as wordings
use Rattle.ssi_exec.proofs.words.word_named.Goals as goal

pub returns-then-is_word : goal.returns-then-is_word
returns-then-is_word c = wordings.include_there c.args.name.now (ap (λ n. bytes_eq c.args.name.now n) (sym c.name.ensures) ∙ (sym c.is_word.ensures ∙ c.if-is_word.true))

pub returns : goal.returns
unfolding all_words
returns c = ap (option_map word_seen) c.word_in.ensures ∙ wordings.word_there c.args.name.now
