use Rattle.std.proofs.Common.{◌≡◌, ◌+◌, true, false, drop, sym, ap, ◌∙◌, arith}
use Rattle.std.specs.List.{list_any}
use Rattle.site_views.specs.Choice.{is_exactly}
use Rattle.server_choice.specs.Listening.{listens, first_from}
use Rattle.server_choice.proofs.Adding.{here-is, first-hit, first-miss, first-past}
use Rattle.server_choice.proofs.servers.first_on.Goals as goal

pub returns-then-has_addr : goal.returns-then-has_addr
returns-then-has_addr c =
    let ss = c.args.servers.now in
    let n = c.loop-number.number in
    let s = c.index-servers-number.result in
    let hit : listens c.args.addr s ≡ true = ap (list_any (is_exactly c.args.addr)) (sym c.as_slice.ensures) ∙ sym c.has_addr.ensures ∙ c.if-has_addr.true in
    first-hit (listens c.args.addr) n s (drop (n + 1) ss) hit
    ∙ ap (first_from (listens c.args.addr) n) (sym (here-is ss n s c.loop-number-test.true c.index-servers-number.is)) ∙ c.loop-number.invariant

pub loop-number-preserved : goal.loop-number-preserved
loop-number-preserved c =
    let ss = c.args.servers.now in
    let n = c.loop-number.number in
    let s = c.index-servers-number.result in
    let miss : listens c.args.addr s ≡ false = ap (list_any (is_exactly c.args.addr)) (sym c.as_slice.ensures) ∙ sym c.has_addr.ensures ∙ c.if-has_addr.false in
    first-miss (listens c.args.addr) n s (drop (n + 1) ss) miss
    ∙ ap (first_from (listens c.args.addr) n) (sym (here-is ss n s c.loop-number-test.true c.index-servers-number.is)) ∙ c.loop-number.invariant

pub returns : goal.returns
returns c = first-past (listens c.args.addr) c.loop-number.number c.args.servers.now (omega (arith, c.loop-number-test.false)) ∙ c.loop-number.invariant
