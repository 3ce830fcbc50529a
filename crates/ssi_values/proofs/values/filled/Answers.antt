use Rattle.std.proofs.Common.{◌<◌, length, drop, sym, ◌∙◌, ap, arith}
use Rattle.ssi_values.specs.Known.{known_seen, rest_value, behind}
use Rattle.ssi_values.proofs.Reading as reading
use Rattle.ssi_values.proofs.values.filled.Goals as goal

pub returns-then-len-gt-TEXT_LIMIT : goal.returns-then-len-gt-TEXT_LIMIT
returns-then-len-gt-TEXT_LIMIT c =
    let k = known_seen c.args.sight.now in
    let step = rw c.in-Some-2.is at c.in_ok-size.ensures.read in
    let long : 16384 < length c.append_token.new.out = omega (arith, c.len.ensures) in
    reading.overfull k c.append_token.new.out c.args.text.now (rest_value k (drop c.in-Some-2.size c.in-Some.after.now))
    (step ∙ (ap (λ t. behind c.loop-first.out (rest_value k t)) (sym c.in-Some.ensures) ∙ c.loop-first.invariant.read)) long

pub returns-in-None : goal.returns-in-None
returns-in-None c =
    let k = known_seen c.args.sight.now in
    let none = rw c.in-None.is at c.in_ok-size.ensures.read in
    reading.unread k c.loop-first.out c.args.text.now (rest_value k c.loop-first.rest.now) c.loop-first.invariant.read
    (ap (λ t. rest_value k t) c.in-Some.ensures ∙ none)

pub returns : goal.returns
returns c =
    let k = known_seen c.args.sight.now in
    reading.all_read k c.loop-first.out c.args.text.now
    (ap (λ t. behind c.loop-first.out (rest_value k t)) (sym c.in_default.ensures) ∙ c.loop-first.invariant.read) c.loop-first.invariant.fits
