use Rattle.std.proofs.Common.{◌≡◌, Some, None, sym, ◌∙◌}
use Rattle.http_moment.specs.Civil.{parts_of}
use Rattle.http_moment.specs.Shown.{conversion_of}
use Rattle.http_moment.proofs.FormatLemmas.{is_format_plain, is_format_end, is_format_unknown, is_format_known, is_format_nothing, shown_plain, shown_end, shown_unknown, shown_known, shown_nothing, shown_all}
use Rattle.http_moment.proofs.format.shown.Goals as goal

pub loop-first-preserved-then-first-ne37 : goal.loop-first-preserved-then-first-ne37
loop-first-preserved-then-first-ne37 c = record {
  known = sym (is_format_plain c.loop-first.rest.now c.in-Some.first c.in-Some.after.now c.in-Some.ensures c.if-first-ne37.true) ∙ c.loop-first.invariant.known;
  text = shown_plain c.args.secs c.loop-first.out c.push.new.self c.loop-first.rest.now c.in-Some.first c.in-Some.after.now c.in-Some.ensures c.if-first-ne37.true c.in_ok-push.ensures.ok ∙ c.loop-first.invariant.text;
}

pub returns-in_default-front-clause-known : goal.returns-in_default-front-clause-known
returns-in_default-front-clause-known c =
    sym (is_format_end c.loop-first.rest.now c.in-Some.first c.in-Some.after.now c.in-Some.ensures c.if-first-ne37.false c.in_default-front.ensures) ∙ c.loop-first.invariant.known

pub returns-in_default-front-clause-text : goal.returns-in_default-front-clause-text
returns-in_default-front-clause-text c =
    shown_all c.args.secs c.loop-first.out c.loop-first.rest.now
    (shown_end c.args.secs c.loop-first.rest.now c.in-Some.first c.in-Some.after.now c.in-Some.ensures c.if-first-ne37.false c.in_default-front.ensures) ∙ c.loop-first.invariant.text

pub returns-in_default-read_conversion-clause-known :
    goal.returns-in_default-read_conversion-clause-known
returns-in_default-read_conversion-clause-known c =
    let none : conversion_of c.in-Some-front.code ≡ None = cc in
    sym (is_format_unknown c.loop-first.rest.now c.in-Some.first c.in-Some-front.code c.in-Some.after.now c.in-Some-front.behind.now
    c.in-Some.ensures c.if-first-ne37.false c.in-Some-front.ensures none) ∙ c.loop-first.invariant.known

pub returns-in_default-read_conversion-clause-text :
    goal.returns-in_default-read_conversion-clause-text
returns-in_default-read_conversion-clause-text c =
    let none : conversion_of c.in-Some-front.code ≡ None = cc in
    shown_all c.args.secs c.loop-first.out c.loop-first.rest.now
    (shown_unknown c.args.secs c.loop-first.rest.now c.in-Some.first c.in-Some-front.code c.in-Some.after.now c.in-Some-front.behind.now
    c.in-Some.ensures c.if-first-ne37.false c.in-Some-front.ensures none) ∙ c.loop-first.invariant.text

pub loop-first-preserved : goal.loop-first-preserved
loop-first-preserved c =
    let some : conversion_of c.in-Some-front.code ≡ Some c.in-Some-read_conversion.kind = cc in
    record {
      known = sym (is_format_known c.loop-first.rest.now c.in-Some.first c.in-Some-front.code c.in-Some.after.now c.in-Some-front.behind.now c.in-Some-read_conversion.kind
          c.in-Some.ensures c.if-first-ne37.false c.in-Some-front.ensures some) ∙ c.loop-first.invariant.known;
      text = shown_known c.args.secs c.min-second.result (parts_of c.of-date.result) c.loop-first.out c.put.new.out c.loop-first.rest.now c.in-Some.first c.in-Some-front.code c.in-Some.after.now c.in-Some-front.behind.now c.in-Some-read_conversion.kind
          c.min-second.ensures c.of-date.ensures c.in-Some.ensures c.if-first-ne37.false c.in-Some-front.ensures some c.in_ok-put.ensures ∙ c.loop-first.invariant.text;
    }

pub returns-clause-known : goal.returns-clause-known
returns-clause-known c = sym (is_format_nothing c.loop-first.rest.now c.in_default.ensures) ∙ c.loop-first.invariant.known

pub returns-clause-text : goal.returns-clause-text
returns-clause-text c =
    shown_all c.args.secs c.loop-first.out c.loop-first.rest.now (shown_nothing c.args.secs c.loop-first.rest.now c.in_default.ensures) ∙ c.loop-first.invariant.text
