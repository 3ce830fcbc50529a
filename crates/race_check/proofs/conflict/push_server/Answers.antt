use Rattle.std.proofs.Common.{ap, ◌∙◌}
use Rattle.std.specs.List.{list_any}
use Rattle.site_model.specs.Levels.{raw_level}
use Rattle.site_whole.specs.Whole.{values_seen, server_whole}
use Rattle.race_meaning.specs.Named.{has_parts}
use Rattle.race_check.specs.Numbers.{value_numbers}
use Rattle.race_check.proofs.Deciding.{opens_by, has_named, none_named}
use Rattle.race_check.proofs.conflict.push_server.Goals as goal

pub returns-then-not-has_open : goal.returns-then-not-has_open
returns-then-not-has_open c = λ patterns.
    let site = c.args.site.now in
    none_named (server_whole patterns site c.args.server.now) c.args.number c.args.named.now.items
    (opens_by patterns site c.args.server.now c.in_ok-levels.levels.items c.in_ok-values.values.items c.in_ok-levels.ensures (c.in_ok-values.ensures ∙ ap (value_numbers site) c.as_slice.ensures.value)
    c.has_open.result (c.has_open.ensures ∙ ap (list_any (λ n. has_parts (values_seen site (raw_level site n)))) c.as_slice-2.ensures.value) ∙ c.if-not-has_open.true)

pub returns : goal.returns
returns c = λ patterns.
    let site = c.args.site.now in
    let named = c.in_ok-push_named.ensures in
    has_named c.args.first.now (server_whole patterns site c.args.server.now) c.in_ok-marks.marks (c.in_ok-marks.ensures patterns c.args.first.now c.requires)
    (opens_by patterns site c.args.server.now c.in_ok-levels.levels.items c.in_ok-values.values.items c.in_ok-levels.ensures (c.in_ok-values.ensures ∙ ap (value_numbers site) c.as_slice.ensures.value)
    c.has_open.result (c.has_open.ensures ∙ ap (list_any (λ n. has_parts (values_seen site (raw_level site n)))) c.as_slice-2.ensures.value) ∙ c.if-not-has_open.false)
    c.args.number named.0 c.args.named.now.items c.push_named.new.named.items named.1 named.2
