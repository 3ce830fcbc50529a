use Rattle.std.proofs.Common.{List, ℕ, ◌++◌, ap, ◌∙◌, option_map}
use Rattle.ngx_variables.specs.Paths.{text_of}
use Rattle.source_lines.specs.declared.line.Line.{Line}
use Rattle.site_whole.specs.Whole.{values_seen, tries_seen}
use Rattle.race_meaning.specs.Reads.{in_text, in_tries}
use Rattle.race_check.specs.Names.{has}
use Rattle.race_check.specs.declared.listed.ListKind.TheVariants as kinds
use Rattle.race_places.specs.Marks.{list_reads}
use Rattle.race_places.specs.Places.{keep_if, line_list, list_at}
use Rattle.race_places.proofs.Among.{gains_same, gains_both}
use Rattle.race_places.proofs.reads.Reads.add_values.Goals as goal

pub returns-clause-gains : goal.returns-clause-gains
unfolding values_seen
returns-clause-gains c =
    let site = c.args.site.now in
    let lists = c.args.lists.now in
    let level = c.args.level.now in
    let l = c.args.lines.now in
    let start = c.args.self.now.index in
    let one = c.add_own.new.self.index in
    let two = c.add_held.new.self.index in
    let three = c.add_own-2.new.self.index in
    let four = c.add_held-2.new.self.index in
    let last = c.add_held-3.new.self.index in
    let p : List ℕ → List Line = λ name. keep_if (in_text name (text_of level.place)) (line_list l.place) in
    let i : List ℕ → List Line = λ name. list_reads site kinds.Index name level.index (list_at lists l.index) in
    let t : List ℕ → List Line = λ name. keep_if (in_tries name (option_map tries_seen level.tries)) (line_list l.tries) in
    let g : List ℕ → List Line = λ name. list_reads site kinds.Pages name level.pages (list_at lists l.pages) in
    let u : List ℕ → List Line = λ name. list_reads site kinds.AuthSets name level.auth_sets (list_at lists l.auth_sets) in
    gains_both start four (λ name. ((p name ++ i name) ++ t name) ++ g name) last u
    (gains_both start three (λ name. (p name ++ i name) ++ t name) four g
    (gains_both start two (λ name. p name ++ i name) three t
    (gains_both start one p two i
    (gains_same start one (λ name. keep_if (has c.in_ok-place.place name) (line_list l.place)) p (λ name. ap (λ b. keep_if b (line_list l.place)) (c.in_ok-place.ensures name ∙ ap (in_text name) c.place_text.ensures)) c.in_ok-add_own.ensures.gains)
    c.in_ok-add_held.ensures.gains)
    (gains_same two three (λ name. keep_if (has c.in_ok-tries.tries name) (line_list l.tries)) t (λ name. ap (λ b. keep_if b (line_list l.tries)) (c.in_ok-tries.ensures name)) c.in_ok-add_own-2.ensures.gains))
    c.in_ok-add_held-2.ensures.gains)
    c.in_ok-add_held-3.ensures.gains
