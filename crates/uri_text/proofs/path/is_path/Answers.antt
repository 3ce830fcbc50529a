use Rattle.std.proofs.Common.{◌≡◌, ap, ◌∙◌, sym, arith, ◌-◌, length, take, drop}
use Rattle.std.proofs.lemmas.List.{take_rest}
use Rattle.uri_text.specs.Target.{with_byte, decoded}
use Rattle.uri_text.proofs.Counting.{counts-start, counts-plain, counts-byte, counts-slash, counts-above, counts-fault, counts-end, deeper-bound, ends_ok, ends_ok-other}
use Rattle.uri_text.proofs.path.is_path.Goals as goal

pub bytes-init : goal.bytes-init
bytes-init c = (counts-start c.args.merge c.args.text.now, omega arith)

pub returns-in-Fault : goal.returns-in-Fault
returns-in-Fault c = counts-fault _ _ _ _ _ c.in-Fault.field-0 (counts-plain _ _ _ _ _ _ _ _ c.bytes.invariant.0 c.plain_len-plain.ensures.value (take_rest c.bytes.rest.now c.plain_len-plain.result) c.kind_with_run-kind.ensures) c.in-Fault.ensures

pub returns-in-None : goal.returns-in-None
returns-in-None c =
    let front : decoded (take (length c.bytes.rest.now - c.plain_len-plain.result) (drop c.plain_len-plain.result c.bytes.rest.now)) ≡ with_byte 47 (decoded c.in-Byte-eq47-default.behind.now) =
    c.in-Byte-eq47-default.ensures.0 ∙ ap (λ b. with_byte b (decoded c.in-Byte-eq47-default.behind.now)) c.in-Byte-eq47-default.field-0-test in
    counts-above _ _ _ _ _ _ (counts-plain _ _ _ _ _ _ _ _ c.bytes.invariant.0 c.plain_len-plain.ensures.value (take_rest c.bytes.rest.now c.plain_len-plain.result) c.kind_with_run-kind.ensures) front c.in-None.ensures

pub bytes-preserved-in-Byte-eq47-default : goal.bytes-preserved-in-Byte-eq47-default
bytes-preserved-in-Byte-eq47-default c =
    let front : decoded (take (length c.bytes.rest.now - c.plain_len-plain.result) (drop c.plain_len-plain.result c.bytes.rest.now)) ≡ with_byte 47 (decoded c.in-Byte-eq47-default.behind.now) =
    c.in-Byte-eq47-default.ensures.0 ∙ ap (λ b. with_byte b (decoded c.in-Byte-eq47-default.behind.now)) c.in-Byte-eq47-default.field-0-test in (
      counts-slash _ _ _ _ _ _ _ (counts-plain _ _ _ _ _ _ _ _ c.bytes.invariant.0 c.plain_len-plain.ensures.value (take_rest c.bytes.rest.now c.plain_len-plain.result) c.kind_with_run-kind.ensures) front c.in-Some.ensures,
      omega (arith, deeper-bound _ _ _ c.in-Some.now c.in-Some.ensures, c.bytes.invariant.1, c.in-Byte-eq47-default.ensures.1),
    )

pub bytes-preserved : goal.bytes-preserved
bytes-preserved c = (
  rw c.kind_with_byte-kind.ensures (counts-byte _ _ _ _ _ _ _ (counts-plain _ _ _ _ _ _ _ _ c.bytes.invariant.0 c.plain_len-plain.ensures.value (take_rest c.bytes.rest.now c.plain_len-plain.result) c.kind_with_run-kind.ensures) c.in-Byte.ensures.0 c.in-Byte.byte-test.1),
  omega (arith, c.bytes.invariant.1, c.in-Byte.ensures.1),
)

pub returns-in-Dots : goal.returns-in-Dots
returns-in-Dots c = ap (λ k. ends_ok k c.bytes.depth) (sym c.in-Dots.is) ∙ counts-end _ _ _ _ _ (counts-plain _ _ _ _ _ _ _ _ c.bytes.invariant.0 c.plain_len-plain.ensures.value (take_rest c.bytes.rest.now c.plain_len-plain.result) c.kind_with_run-kind.ensures) c.in-End.ensures

pub returns-in_default : goal.returns-in_default
returns-in_default c = sym (ends_ok-other c.kind_with_run-kind.result c.bytes.depth c.in_default.not-Dots) ∙ counts-end _ _ _ _ _ (counts-plain _ _ _ _ _ _ _ _ c.bytes.invariant.0 c.plain_len-plain.ensures.value (take_rest c.bytes.rest.now c.plain_len-plain.result) c.kind_with_run-kind.ensures) c.in-End.ensures
