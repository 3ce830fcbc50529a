use Rattle.std.proofs.Common.{◌≡◌, Some, None, sym, ◌∙◌}
use Rattle.http_moment.specs.Shown.{conversion_of}
use Rattle.http_moment.proofs.FormatLemmas.{is_format_plain, is_format_end, is_format_unknown, is_format_known, is_format_nothing}
use Rattle.http_moment.proofs.format.is_time_format.Goals as goal

pub loop-first-preserved-then-first-ne37 : goal.loop-first-preserved-then-first-ne37
loop-first-preserved-then-first-ne37 c =
    sym (is_format_plain c.loop-first.rest.now c.in-Some.first c.in-Some.after.now c.in-Some.ensures c.if-first-ne37.true) ∙ c.loop-first.invariant

pub returns-in_default-front : goal.returns-in_default-front
returns-in_default-front c =
    sym (is_format_end c.loop-first.rest.now c.in-Some.first c.in-Some.after.now c.in-Some.ensures c.if-first-ne37.false c.in_default-front.ensures) ∙ c.loop-first.invariant

pub returns-in_default-read_conversion : goal.returns-in_default-read_conversion
returns-in_default-read_conversion c =
    let none : conversion_of c.in-Some-front.code ≡ None = cc in
    sym (is_format_unknown c.loop-first.rest.now c.in-Some.first c.in-Some-front.code c.in-Some.after.now c.in-Some-front.behind.now
    c.in-Some.ensures c.if-first-ne37.false c.in-Some-front.ensures none) ∙ c.loop-first.invariant

pub loop-first-preserved : goal.loop-first-preserved
loop-first-preserved c =
    let some : conversion_of c.in-Some-front.code ≡ Some c.in-Some-read_conversion.field-0 = cc in
    sym (is_format_known c.loop-first.rest.now c.in-Some.first c.in-Some-front.code c.in-Some.after.now c.in-Some-front.behind.now c.in-Some-read_conversion.field-0
    c.in-Some.ensures c.if-first-ne37.false c.in-Some-front.ensures some) ∙ c.loop-first.invariant

pub returns : goal.returns
returns c = sym (is_format_nothing c.loop-first.rest.now c.in_default.ensures) ∙ c.loop-first.invariant
