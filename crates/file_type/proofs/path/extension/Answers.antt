use Rattle.std.proofs.Common.{Some, ap, sym, ◌∙◌, arith}
use Rattle.std.proofs.lemmas.List.{take_rest}
use Rattle.file_type.proofs.PathLemmas.{extension_at, extension_none, more}
use Rattle.file_type.proofs.path.extension.Goals as goal

pub returns-then-byte-eq46 : goal.returns-then-byte-eq46
returns-then-byte-eq46 c =
    let path = c.args.path.now in
    let end = c.loop-end.end in
    let before = c.loop-end.invariant in
    ap Some (take_rest path end) ∙ sym (extension_at path end before.0 before.1 before.2 c.loop-end-test.true c.if-byte-eq46.true)

pub returns-then-byte-eq47 : goal.returns-then-byte-eq47
returns-then-byte-eq47 c =
    let before = c.loop-end.invariant in
    sym (extension_none c.args.path.now c.loop-end.end before.0 before.1 before.2 (λ some. c.if-byte-eq47.true))

pub loop-end-preserved : goal.loop-end-preserved
loop-end-preserved c =
    let before = c.loop-end.invariant in
    let now = more c.args.path.now c.loop-end.end c.loop-end-test.true c.if-byte-eq46.false c.if-byte-eq47.false before.1 before.2 in
    (omega (arith, before.0), now.0, now.1)

pub returns : goal.returns
returns c =
    let before = c.loop-end.invariant in
    sym (extension_none c.args.path.now c.loop-end.end before.0 before.1 before.2 (λ some. absurd (omega (arith, some, c.loop-end-test.false))))
