use Rattle.std.proofs.Common.{sym, ap, ◌∙◌, ◌≤◌, ◌≡◌, ◌+◌, suc, length, arith}
use Rattle.conf_text.specs.Tokens.{tokens}
use Rattle.conf_text.proofs.TokenLaws.{skipped-on, skipped-sign, tokens-end, tokens-space, tokens-comment, tokens-semicolon, tokens-open, tokens-close}
use Rattle.conf_text.proofs.token.read_token.Goals as goal

pub loop-first-preserved-then-is_space : goal.loop-first-preserved-then-is_space
loop-first-preserved-then-is_space c =
    let n : length c.loop-first.place.rest.now ≡ suc (length c.in-Some.after.now) = ap length c.in-Some.ensures in
    let l : c.line_after-place.result ≤ c.loop-first.place.line + 1 = c.line_after-place.ensures.within in
    skipped-on _ _ _ _ _ _ c.loop-first.invariant
    (tokens-space _ _ _ _ c.in-Some.ensures (sym c.is_space.ensures ∙ c.if-is_space.true) ∙ ap (λ line. tokens 0 line c.in-Some.after.now) (sym c.line_after-place.ensures.value))
    (omega arith) (omega arith)

pub loop-first-preserved : goal.loop-first-preserved
loop-first-preserved c =
    let n : length c.loop-first.place.rest.now ≡ suc (length c.in-Some.after.now) = ap length c.in-Some.ensures in
    let w : length c.pass_comment.new.place.rest.now ≤ length c.in-Some.after.now = c.pass_comment.ensures.within in
    let l : c.pass_comment.new.place.line ≡ c.loop-first.place.line = c.pass_comment.ensures.line in
    skipped-on _ _ _ _ _ _ c.loop-first.invariant
    (tokens-comment _ _ _ _ c.in-Some.ensures (sym c.is_space.ensures ∙ c.if-is_space.false) c.if-first-eq35.true ∙ c.pass_comment.ensures.same)
    (omega arith) (omega arith)

pub returns-then-first-eq59 : goal.returns-then-first-eq59
returns-then-first-eq59 c =
    skipped-sign _ _ _ _ _ _ _ c.loop-first.invariant c.in-Some.ensures
    (tokens-semicolon _ _ _ _ c.in-Some.ensures (sym c.is_space.ensures ∙ c.if-is_space.false) c.if-first-eq35.false c.if-first-eq59.true)

pub returns-then-first-eq123 : goal.returns-then-first-eq123
returns-then-first-eq123 c =
    skipped-sign _ _ _ _ _ _ _ c.loop-first.invariant c.in-Some.ensures
    (tokens-open _ _ _ _ c.in-Some.ensures (sym c.is_space.ensures ∙ c.if-is_space.false) c.if-first-eq35.false c.if-first-eq59.false c.if-first-eq123.true)

pub returns-then-first-eq125 : goal.returns-then-first-eq125
returns-then-first-eq125 c =
    skipped-sign _ _ _ _ _ _ _ c.loop-first.invariant c.in-Some.ensures
    (tokens-close _ _ _ _ c.in-Some.ensures (sym c.is_space.ensures ∙ c.if-is_space.false) c.if-first-eq35.false c.if-first-eq59.false c.if-first-eq123.false c.if-first-eq125.true)

pub returns : goal.returns
returns c = c.loop-first.invariant.same ∙ tokens-end _ _ c.in_default.ensures
