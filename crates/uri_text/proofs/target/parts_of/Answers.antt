use Rattle.std.proofs.Common.{◌∙◌, sym}
use Rattle.uri_text.proofs.Targets.{parts-are, unmarked}
use Rattle.uri_text.proofs.target.parts_of.Goals as goal

pub returns-then-len_before_marks-text : goal.returns-then-len_before_marks-text
returns-then-len_before_marks-text c = unmarked c.args.text.now (sym c.len_before_marks.ensures.value ∙ c.if-len_before_marks-text.true)

pub returns : goal.returns
returns c = parts-are c.args.text.now c.len_before.result c.len_before-len.result c.min.result c.len_before.ensures.value c.len_before-len.ensures.value c.min.ensures
