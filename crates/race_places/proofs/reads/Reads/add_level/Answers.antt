use Rattle.std.proofs.Common.{ℕ, ◌≡◌, ◌++◌, ◌∙◌, List, ap, map, flat_map}
use Rattle.source_lines.specs.declared.line.Line.{Line}
use Rattle.site_model.specs.declared.site.Level.{Level}
use Rattle.site_model.specs.Levels.{raw_level}
use Rattle.site_views.specs.Values.{Values}
use Rattle.site_whole.specs.Whole.{level_whole, step_seen, values_seen}
use Rattle.race_meaning.specs.Reads.{in_directive}
use Rattle.race_meaning.specs.Levels.{block_values}
use Rattle.race_check.specs.Numbers.{block_number}
use Rattle.race_check.proofs.Numbering.{blocks_seen}
use Rattle.race_places.specs.Places.{lines_of, over_both, origins_by, value_reads}
use Rattle.race_places.proofs.Among.{gains_same, gains_both}
use Rattle.race_places.proofs.reads.Reads.add_level.Goals as goal

pub returns-clause-gains : goal.returns-clause-gains
unfolding level_whole
returns-clause-gains c = λ patterns.
    let site = c.args.site.now in
    let lists = c.args.lists.now in
    let start = c.args.self.now.index in
    let one = c.add_values.new.self.index in
    let two = c.add_program.new.self.index in
    let last = c.add_blocks.new.self.index in
    let own = c.args.lines.now.own in
    let raw = raw_level site c.args.number in
    let steps : c.as_slice-steps.result.now ≡ raw.program = c.as_slice-steps.ensures ∙ ap (λ (l : Level). l.program) c.level-level.ensures in
    let seen : ℕ → Values = λ n. values_seen site (raw_level site n) in
    let blocks = map (origins_by lists) c.args.lines.now.blocks.items in
    let p : List ℕ → List Line = λ name. value_reads name (values_seen site raw) (origins_by lists own) in
    let q : List ℕ → List Line = λ name. lines_of (in_directive name) (map (step_seen patterns site) raw.program) own.program.items in
    let r : List ℕ → List Line = λ name. over_both (value_reads name) (flat_map block_values (map (step_seen patterns site) raw.program)) blocks in
    gains_both start two (λ name. p name ++ q name) last r
    (gains_both start one p two q
    (gains_same start one _ p (λ name. ap (λ l. value_reads name (values_seen site l) (origins_by lists own)) c.level-level.ensures) c.in_ok-add_values.ensures.gains)
    (gains_same one two _ q (λ name. ap (λ x. lines_of (in_directive name) (map (step_seen patterns site) c.as_slice-steps.result.now) x) c.as_slice.ensures.value
    ∙ ap (λ x. lines_of (in_directive name) (map (step_seen patterns site) x) own.program.items) steps) (c.in_ok-add_program.ensures.gains patterns)))
    (gains_same two last _ r (λ name. ap (λ x. over_both (value_reads name) (map seen c.as_slice-2.result.now) (map (origins_by lists) x)) c.as_slice-3.ensures.value
    ∙ ap (λ x. over_both (value_reads name) (map seen x) blocks) (c.as_slice-2.ensures.value ∙ c.in_ok-blocks.ensures ∙ ap (flat_map block_number) steps)
    ∙ ap (λ x. over_both (value_reads name) x blocks) (blocks_seen patterns site raw.program)) c.in_ok-add_blocks.ensures.gains)
