use Rattle.std.proofs.Common.{◌≡◌, refl}
use Rattle.req_head.specs.Lines.{lines}
use Rattle.req_head.specs.Reading.{Whole, Wrong, Short, read_request}
use Rattle.req_head.specs.Step.{head_step}
use Rattle.req_head.proofs.CodeLemmas.{overflow_refused}
use Rattle.req_head.proofs.MadeLemmas.{lines_short, lines_whole, decided_by, ok_map}
use Rattle.req_head.proofs.head.read_lines.Goals as goal

pub find_head_of_64-requires-clause-short : goal.find_head_of_64-requires-clause-short
find_head_of_64-requires-clause-short c = lines_short c.seen_of-seen.result.now c.whole_lines_of-text.result.now c.seen_of-seen.ensures.short c.whole_lines_of-text.ensures

pub find_head_of_64-requires-clause-lines : goal.find_head_of_64-requires-clause-lines
find_head_of_64-requires-clause-lines c = lines_whole c.seen_of-seen.result.now c.whole_lines_of-text.result.now c.whole_lines_of-text.ensures

pub test_head-requires-clause-short : goal.test_head-requires-clause-short
test_head-requires-clause-short c = lines_short c.seen_of-seen.result.now c.whole_lines_of-text.result.now c.seen_of-seen.ensures.short c.whole_lines_of-text.ensures

pub returns-in-Short : goal.returns-in-Short
returns-in-Short c =
    decided_by c.args.bytes.now c.seen_of-seen.result.now c.whole_lines_of-text.result.now Short c.wait.result c.seen_of-seen.ensures.value c.whole_lines_of-text.ensures c.in-Short.ensures c.wait.ensures

pub returns-in-Wrong : goal.returns-in-Wrong
returns-in-Wrong c =
    decided_by c.args.bytes.now c.seen_of-seen.result.now c.whole_lines_of-text.result.now Wrong c.refuse.result c.seen_of-seen.ensures.value c.whole_lines_of-text.ensures c.in-Wrong.ensures c.refuse.ensures

pub returns-in-Whole : goal.returns-in-Whole
returns-in-Whole c =
    let seen = c.seen_of-seen.result.now in
    let text = c.whole_lines_of-text.result.now in
    let is = c.in-Whole.ensures in
    ok_map c.test_head.result _ (λ step. step ≡ head_step c.args.bytes.now)
    (λ step e. decided_by c.args.bytes.now seen text (Whole is.1.0) step c.seen_of-seen.ensures.value c.whole_lines_of-text.ensures is.1.2 (e is.1.0 is.1.1))
    c.test_head.ensures

pub returns-in-NoRoom : goal.returns-in-NoRoom
returns-in-NoRoom c =
    let seen = c.seen_of-seen.result.now in
    let text = c.whole_lines_of-text.result.now in
    let r = read_request (lines text) in
    let is = overflow_refused seen text r c.refuse-in-NoRoom.result c.whole_lines_of-text.ensures refl c.in-NoRoom.ensures.0 c.in-NoRoom.ensures.1 c.refuse-in-NoRoom.ensures in
    decided_by c.args.bytes.now seen text r c.refuse-in-NoRoom.result c.seen_of-seen.ensures.value c.whole_lines_of-text.ensures refl is
