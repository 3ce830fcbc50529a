use Rattle.std.proofs.Common.{sym, ◌∙◌, length, take, drop, ◌-◌}
use Rattle.std.proofs.lemmas.List.{take_rest}
use Rattle.uri_text.proofs.Targets.{absolute-not, absolute-some, absolute-none, absolute-open}
use Rattle.uri_text.proofs.target.absolute_form.Goals as goal
use Rattle.uri_text.proofs.target.absolute_form.Goals.{else-len-gt0-via-then-len-gt0+else-may_follow_host, else-len-gt0-via-else-len-gt0}

pub returns-then-not-starts_with : goal.returns-then-not-starts_with
returns-then-not-starts_with c = absolute-not c.args.target.now (sym c.starts_with.ensures.value ∙ c.if-not-starts_with.true)

pub returns-then-may_follow_host : goal.returns-then-may_follow_host
returns-then-may_follow_host c =
    let text = take (length c.args.target.now - 7) (drop 7 c.args.target.now) in
    absolute-some c.args.target.now text _ c.host_len-len.result (sym c.starts_with.ensures.value ∙ c.if-not-starts_with.false) (take_rest c.args.target.now 7)
    c.host_len-len.ensures.value c.if-len-gt0.true (take_rest text c.host_len-len.result) (sym c.may_follow_host.ensures ∙ c.if-may_follow_host.true)

pub returns-else-len-gt0 : goal.returns-else-len-gt0
returns-else-len-gt0 c =
    let text = take (length c.args.target.now - 7) (drop 7 c.args.target.now) in
    elim c.else-len-gt0.branch [
      | else-len-gt0-via-then-len-gt0+else-may_follow_host w ↦
          absolute-open c.args.target.now text _ c.host_len-len.result (sym c.starts_with.ensures.value ∙ c.if-not-starts_with.false) (take_rest c.args.target.now 7)
          c.host_len-len.ensures.value (take_rest text c.host_len-len.result) (sym w.may_follow_host.ensures ∙ w.if-may_follow_host.false)
      | else-len-gt0-via-else-len-gt0 w ↦
          absolute-none c.args.target.now text c.host_len-len.result (sym c.starts_with.ensures.value ∙ c.if-not-starts_with.false) (take_rest c.args.target.now 7)
          c.host_len-len.ensures.value w.if-len-gt0.false
    ]
