use Rattle.std.proofs.Common.{◌+◌, arith, refl, drop}
use Rattle.ssi_text.specs.Moves.{Moved}
use Rattle.ssi_text.specs.Marks.{marks}
use Rattle.ssi_text.proofs.Steps.{moved-on, moved-end, split-past}
use Rattle.ssi_text.proofs.scan.split_bytes.Goals as goal

pub returns-then-at-bytes-clause-out : goal.returns-then-at-bytes-clause-out
returns-then-at-bytes-clause-out c =
    let bs = c.args.bytes.now in
    let p : Moved (marks c.args.out.now.items) (marks c.take_text.new.out.items) bs (drop (c.loop-at.at + c.in_ok-at.field-0) bs)
    = moved-on _ _ _ bs _ c.loop-at.at c.in_ok-at.field-0 (c.loop-at.at + c.in_ok-at.field-0) refl c.rest_of.ensures c.loop-at.invariant.1 c.in_ok-at.ensures.moved in
    (moved-end _ _ bs _ p (split-past bs (c.loop-at.at + c.in_ok-at.field-0) (omega arith))).0

pub returns-then-at-bytes-clause-undecided : goal.returns-then-at-bytes-clause-undecided
returns-then-at-bytes-clause-undecided c =
    let bs = c.args.bytes.now in
    let p : Moved (marks c.args.out.now.items) (marks c.take_text.new.out.items) bs (drop (c.loop-at.at + c.in_ok-at.field-0) bs)
    = moved-on _ _ _ bs _ c.loop-at.at c.in_ok-at.field-0 (c.loop-at.at + c.in_ok-at.field-0) refl c.rest_of.ensures c.loop-at.invariant.1 c.in_ok-at.ensures.moved in
    (moved-end _ _ bs _ p (split-past bs (c.loop-at.at + c.in_ok-at.field-0) (omega arith))).1

pub returns-clause-out : goal.returns-clause-out
returns-clause-out c = (moved-end _ _ c.args.bytes.now _ c.loop-at.invariant.1 (split-past c.args.bytes.now c.loop-at.at (omega arith))).0

pub returns-clause-undecided : goal.returns-clause-undecided
returns-clause-undecided c = (moved-end _ _ c.args.bytes.now _ c.loop-at.invariant.1 (split-past c.args.bytes.now c.loop-at.at (omega arith))).1
