use Rattle.std.proofs.Common.{◌≡◌, ap, ◌∙◌}
use Rattle.conf_values.specs.TextSet.{holds}
use Rattle.conf_block.specs.Forest.{forest_of}
use Rattle.conf_block.specs.Locations.{text_in, alias_prefix}
use Rattle.conf_inherit.specs.Values.{stated, over, level_of}
use Rattle.conf_inherit.specs.Pools.{values_by}
use Rattle.conf_inherit.specs.Built.{inner_values}
use Rattle.conf_inherit.proofs.SiteLaws.{keeps-same, keeps-then, all-then, named-shown}
use Rattle.conf_inherit.proofs.site.named_of.Goals as goal

pub returns-clause-seen : goal.returns-clause-seen
returns-clause-seen g c = λ b h.
    let known = holds c.args.known.now.keys in
    let outer = values_by c.args.outer in
    let d = c.args.branch.directive.now in
    let block = forest_of c.args.branch.block.now in
    let within : values_by c.in_ok-values.values ≡ inner_values outer d block =
    c.in_ok-values.ensures.values ∙ ap (λ p. over (stated p block) outer) (c.alias_prefix.ensures ∙ ap alias_prefix c.as_slice-words.ensures) in
    named-shown known b (record { name = c.in_ok-name.name; level = c.in_ok-level.level }) d block (inner_values outer d block)
    (c.in_ok-name.ensures ∙ c.text_in.ensures ∙ ap text_in c.as_slice-words.ensures) (c.in_ok-level.ensures.seen b h ∙ ap (λ v. level_of known v block) within)

pub returns-clause-levels : goal.returns-clause-levels
returns-clause-levels g c = keeps-then _ _ _ (keeps-same _ _ c.in_ok-values.ensures.levels) c.in_ok-level.ensures.levels

pub returns-clause-shelf : goal.returns-clause-shelf
returns-clause-shelf g c = all-then _ _ _ c.in_ok-values.ensures.shelf c.in_ok-level.ensures.shelf
