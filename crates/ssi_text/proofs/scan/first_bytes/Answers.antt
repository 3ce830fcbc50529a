use Rattle.std.proofs.Common.{sym, ap, ◌∙◌, arith, take}
use Rattle.std.proofs.lemmas.List.{length-take-le, take_all}
use Rattle.ssi_text.proofs.Steps.{first-length}
use Rattle.ssi_text.proofs.Decided.{limit-is}
use Rattle.ssi_text.proofs.scan.first_bytes.Goals as goal

pub slice_bounds-result-end : goal.slice_bounds-result-end
slice_bounds-result-end c = sym (length-take-le 8192 c.args.bytes.now (omega arith))

pub returns-then-bytes-gt-LIMIT-clause-value : goal.returns-then-bytes-gt-LIMIT-clause-value
returns-then-bytes-gt-LIMIT-clause-value c = ap (λ n. take n c.args.bytes.now) (sym limit-is)

pub returns-else-bytes-gt-LIMIT-clause-value : goal.returns-else-bytes-gt-LIMIT-clause-value
returns-else-bytes-gt-LIMIT-clause-value c = sym (ap (λ n. take n c.args.bytes.now) limit-is ∙ take_all 8192 c.args.bytes.now (omega arith))

pub returns-then-bytes-gt-LIMIT-clause-len : goal.returns-then-bytes-gt-LIMIT-clause-len
returns-then-bytes-gt-LIMIT-clause-len c = (first-length 8192 c.args.bytes.now (omega arith)).0

pub returns-then-bytes-gt-LIMIT-clause-within : goal.returns-then-bytes-gt-LIMIT-clause-within
returns-then-bytes-gt-LIMIT-clause-within c = (first-length 8192 c.args.bytes.now (omega arith)).1
