use Rattle.std.proofs.Common.{arith, refl}
use Rattle.replay_words.proofs.SumLaws.{copied, copies_within}
use Rattle.replay_words.proofs.sums.repeat_from.Goals as goal

pub extend_from_within-requires-clause-in_bounds :
    goal.extend_from_within-requires-clause-in_bounds
extend_from_within-requires-clause-in_bounds c =
    let inv = c.copies.invariant in
    let within = copies_within _ c.copies.out.items _ c.args.start _ c.min-more.result c.copies.done inv.front_len inv.text_len (omega arith) inv.copies in
    omega (arith, within, c.copies.out.ok.0)

pub overflow_mul-more : goal.overflow_mul-more
overflow_mul-more c =
    let inv = c.copies.invariant in
    let within = copies_within _ c.copies.out.items _ c.args.start _ c.min-more.result c.copies.done inv.front_len inv.text_len (omega arith) inv.copies in
    omega (arith, within, c.copies.out.ok.0, c.copies.out.ok.1, c.copies.out.small)

pub overflow_add-start : goal.overflow_add-start
overflow_add-start c =
    let inv = c.copies.invariant in
    let within = copies_within _ c.copies.out.items _ c.args.start _ c.min-more.result c.copies.done inv.front_len inv.text_len (omega arith) inv.copies in
    omega (arith, within, c.copies.out.ok.0, c.copies.out.ok.1, c.copies.out.small)

pub copies-preserved : goal.copies-preserved
copies-preserved c =
    let inv = c.copies.invariant in
    record {
      copies = copied _ c.copies.out.items _ _ c.args.start _ c.min-more.result c.copies.done _ inv.front_len inv.text_len (omega arith) inv.copies c.in_ok-extend_from_within.ensures.items refl;
      front_len = inv.front_len;
      text_len = inv.text_len;
      some = omega arith;
      no_more = omega arith;
    }
