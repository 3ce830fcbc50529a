use Rattle.std.proofs.Common.{◌≡◌, [], ◌∷◌, ◌++◌, ◌-◌, length, take, drop, ap, ◌∙◌}
use Rattle.std.proofs.lemmas.List.{take_rest}
use Rattle.std.proofs.lemmas.Result.{err_from_is_err_and}
use Rattle.uri_text.specs.Target.{with_byte, decoded}
use Rattle.uri_text.proofs.Leading.{leads-start, leads-plain, leads-byte, leads-slash, leads-above, leads-fault, leads-end}
use Rattle.uri_text.proofs.path.write_path.Goals as goal

pub bytes-init : goal.bytes-init
bytes-init c =
    let root : c.push.new.self ≡ 47 ∷ [] = c.in_ok-push.ensures.ok ∙ ap (λ t. t ++ 47 ∷ []) (c.in_ok-reserve.ensures ∙ c.clear.ensures) in
    rw root (leads-start c.args.merge c.args.text.now)

pub returns-in-Fault-clause-err : goal.returns-in-Fault-clause-err
returns-in-Fault-clause-err c = λ _. leads-fault _ _ _ _ _ c.in-Fault.fault (leads-plain _ _ _ _ _ _ _ _ c.bytes.invariant c.plain_len-plain.ensures.value (take_rest c.bytes.rest.now c.plain_len-plain.result) c.in_ok-extend.ensures.ok) c.in-Fault.ensures

pub returns-in_err-start-in-Byte-eq47-default-clause-err :
    goal.returns-in_err-start-in-Byte-eq47-default-clause-err
returns-in_err-start-in-Byte-eq47-default-clause-err c =
    let p = err_from_is_err_and c.from_residual-in_err-start-in-Byte-eq47-default.result c.from_residual-in_err-start-in-Byte-eq47-default.ensures.1 in
    let front : decoded (take (length c.bytes.rest.now - c.plain_len-plain.result) (drop c.plain_len-plain.result c.bytes.rest.now)) ≡ with_byte 47 (decoded c.in-Byte-eq47-default.behind.now) =
    c.in-Byte-eq47-default.ensures.0 ∙ ap (λ b. with_byte b (decoded c.in-Byte-eq47-default.behind.now)) c.in-Byte-eq47-default.field-0-test in
    rw (p.1, p.2) (λ other. leads-above _ _ _ _ _ _ _ (leads-plain _ _ _ _ _ _ _ _ c.bytes.invariant c.plain_len-plain.ensures.value (take_rest c.bytes.rest.now c.plain_len-plain.result) c.in_ok-extend.ensures.ok) front (λ kept segment s. c.in_err-start-in-Byte-eq47-default.ensures.err kept segment s other))

pub bytes-preserved-in-Byte-eq47-default : goal.bytes-preserved-in-Byte-eq47-default
bytes-preserved-in-Byte-eq47-default c =
    let front : decoded (take (length c.bytes.rest.now - c.plain_len-plain.result) (drop c.plain_len-plain.result c.bytes.rest.now)) ≡ with_byte 47 (decoded c.in-Byte-eq47-default.behind.now) =
    c.in-Byte-eq47-default.ensures.0 ∙ ap (λ b. with_byte b (decoded c.in-Byte-eq47-default.behind.now)) c.in-Byte-eq47-default.field-0-test in
    leads-slash _ _ _ _ _ _ _ _ (leads-plain _ _ _ _ _ _ _ _ c.bytes.invariant c.plain_len-plain.ensures.value (take_rest c.bytes.rest.now c.plain_len-plain.result) c.in_ok-extend.ensures.ok) front c.in_ok-start-in-Byte-eq47-default.ensures.ok

pub bytes-preserved : goal.bytes-preserved
bytes-preserved c =
    rw c.in_ok-push-in-Byte.ensures.ok (leads-byte _ _ _ _ _ _ _ (leads-plain _ _ _ _ _ _ _ _ c.bytes.invariant c.plain_len-plain.ensures.value (take_rest c.bytes.rest.now c.plain_len-plain.result) c.in_ok-extend.ensures.ok) c.in-Byte.ensures.0 c.in-Byte.byte-test.1)

pub returns-in_err-finish-clause-err : goal.returns-in_err-finish-clause-err
returns-in_err-finish-clause-err c =
    let p = err_from_is_err_and c.from_residual-in_err-finish.result c.from_residual-in_err-finish.ensures.1 in
    rw (p.1, p.2) (λ other. leads-end _ _ _ _ _ _ (leads-plain _ _ _ _ _ _ _ _ c.bytes.invariant c.plain_len-plain.ensures.value (take_rest c.bytes.rest.now c.plain_len-plain.result) c.in_ok-extend.ensures.ok) c.in-End.ensures (λ kept segment s. c.in_err-finish.ensures.err kept segment s other))

pub returns-clause-ok : goal.returns-clause-ok
returns-clause-ok c = leads-end _ _ _ _ _ _ (leads-plain _ _ _ _ _ _ _ _ c.bytes.invariant c.plain_len-plain.ensures.value (take_rest c.bytes.rest.now c.plain_len-plain.result) c.in_ok-extend.ensures.ok) c.in-End.ensures c.in_ok-finish.ensures.ok
