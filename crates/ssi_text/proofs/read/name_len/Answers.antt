use Rattle.ssi_text.proofs.Onward.{name-word, name-plain}
use Rattle.ssi_text.proofs.read.name_len.Goals as goal

pub returns-clause-word : goal.returns-clause-word
returns-clause-word c = λ _. name-word c.letters_len-len.result c.args.bytes.now c.rest_of.result.now c.begins_with_dash.result c.letters_len-len.ensures.value c.rest_of.ensures c.begins_with_dash.ensures c.if-begins_with_dash.false

pub returns-clause-plain : goal.returns-clause-plain
returns-clause-plain c = name-plain c.letters_len-len.result c.args.bytes.now c.letters_len-len.ensures.value
