use Rattle.std.proofs.Common.{◌≡◌, ◌<◌, ◌≤◌, length, slice_index_or, sym, arith}
use Rattle.std.proofs.lemmas.Bool.Decides.{nat_tests}
use Rattle.location_match.proofs.Shared.{shared-next, shared-stop, shared-left, shared-right}
use Rattle.location_match.proofs.prefixes.shared_from.Goals as goal

pub loop-at-preserved : goal.loop-at-preserved
loop-at-preserved c =
    let text = c.args.text.now in
    let path = c.args.path.now in
    let short : c.loop-at.at < length text = grind (arith, nat_tests) in
    let within : c.loop-at.at < length path = grind (arith, nat_tests) in
    let same : slice_index_or text c.loop-at.at 0 ≡ slice_index_or path c.loop-at.at 0 = grind (arith, nat_tests) in
    shared-next text path c.loop-at.at c.loop-at.invariant short within same

pub returns-else-text-at : goal.returns-else-text-at
returns-else-text-at c =
    let text = c.args.text.now in
    let path = c.args.path.now in
    let short : c.loop-at.at < length text = grind (arith, nat_tests) in
    let within : c.loop-at.at < length path = grind (arith, nat_tests) in
    sym (shared-stop text path c.loop-at.at c.loop-at.invariant short within (grind (arith, nat_tests)))

pub returns-else-at-path : goal.returns-else-at-path
returns-else-at-path c =
    let end : length c.args.path.now ≤ c.loop-at.at = grind (arith, nat_tests) in
    omega (arith, end, c.loop-at.invariant, shared-right c.args.text.now c.args.path.now)

pub returns-after-loop-at : goal.returns-after-loop-at
returns-after-loop-at c =
    let end : length c.args.text.now ≤ c.loop-at.at = grind (arith, nat_tests) in
    omega (arith, end, c.loop-at.invariant, shared-left c.args.text.now c.args.path.now)
