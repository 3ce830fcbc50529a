use Rattle.std.proofs.Common.{◌∙◌, ap, ◌++◌, List, ℕ}
use Rattle.report_text.proofs.EscapeLaws.{run_more, run_last}
use Rattle.report_text.proofs.escapes.put_escaped.Goals as goal

pub returns-in-empty : goal.returns-in-empty
returns-in-empty c =
    run_last c.runs.out c.extend.new.self c.runs.rest.now c.split_at.result.1.now c.plain_len.result c.plain_len.ensures.plain
    (rw c.split_at.ensures.front at c.in_ok-extend.ensures.ok) c.split_at.ensures.back c.in-empty.len_below
    ∙ c.runs.invariant

pub runs-preserved : goal.runs-preserved
runs-preserved c =
    run_more c.runs.out c.extend.new.self c.extend-in-len1-up.new.self c.runs.rest.now c.split_at.result.1.now c.plain_len.result
    c.plain_len.ensures.plain c.plain_len.ensures.next (rw c.split_at.ensures.front at c.in_ok-extend.ensures.ok) c.split_at.ensures.back
    c.in-len1-up.len_at_least
    (c.in_ok-extend-in-len1-up.ensures.ok ∙ ap (λ (v : List ℕ). c.extend.new.self ++ v) (c.as_bytes.ensures.value ∙ c.percent_encode_byte.ensures))
    ∙ c.runs.invariant
