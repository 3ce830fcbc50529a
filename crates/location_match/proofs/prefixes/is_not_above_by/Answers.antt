use Rattle.std.proofs.Common.{◌<◌, ◌≤◌, length, sym, arith}
use Rattle.std.proofs.lemmas.Bool.Decides.{nat_tests}
use Rattle.location_match.proofs.Shared.{at_most-end, above-end, order-at}
use Rattle.location_match.proofs.prefixes.is_not_above_by.Goals as goal

pub returns-then-common-text : goal.returns-then-common-text
returns-then-common-text c =
    let end : length c.args.text.now ≤ c.args.common = grind (arith, nat_tests) in
    sym (at_most-end c.args.text.now c.args.path.now (omega (arith, end, c.requires)))

pub returns-then-common-path : goal.returns-then-common-path
returns-then-common-path c =
    let short : c.args.common < length c.args.text.now = grind (arith, nat_tests) in
    let end : length c.args.path.now ≤ c.args.common = grind (arith, nat_tests) in
    sym (above-end c.args.text.now c.args.path.now (omega (arith, short, c.requires)) (omega (arith, end, c.requires)))

pub returns : goal.returns
returns c =
    let short : c.args.common < length c.args.text.now = grind (arith, nat_tests) in
    let within : c.args.common < length c.args.path.now = grind (arith, nat_tests) in
    sym (order-at c.args.text.now c.args.path.now c.args.common c.requires short within)
