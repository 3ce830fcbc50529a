use Rattle.std.proofs.Common.{ℕ, ◌||◌, Bool, List}
use Rattle.std.specs.List.{list_any}
use Rattle.site_model.specs.Levels.{raw_level}
use Rattle.race_check.specs.declared.listed.ListKind.{ListKind}
use Rattle.race_check.specs.declared.listed.ListKind.TheVariants as kinds
use Rattle.race_check.specs.Lists.{in_own, in_list}
use Rattle.race_check.proofs.Notes.{notes_both, notes_at, first_noted}
use Rattle.race_check.proofs.marks.read_by_values.Goals as goal

pub returns : goal.returns
returns c =
    let site = c.args.site.now in
    let lists = c.args.lists.now in
    let s = c.new-settled.result in
    let start = c.new-exposed.result in
    let one = c.note_levels.new.exposed in
    let two = c.note_numbers.new.exposed in
    let three = c.note_numbers-2.new.exposed in
    let last = c.note_numbers-3.new.exposed in
    let own : List ℕ → Bool = λ name. list_any (λ n. in_own name (raw_level site n)) c.args.levels.now in
    let of : ListKind → List ℕ → List ℕ → Bool = λ kind name numbers. list_any (in_list site kind name) numbers in
    let index : List ℕ → Bool = λ name. of kinds.Index name lists.index.others.items in
    let pages : List ℕ → Bool = λ name. of kinds.Pages name lists.pages.others.items in
    let auth_sets : List ℕ → Bool = λ name. of kinds.AuthSets name lists.auth_sets.others.items in
    let noted =
    notes_both s start three last (λ n. (own n || index n) || pages n) auth_sets
    (notes_both s start two three (λ n. own n || index n) pages
    (notes_both s start one two own index c.in_ok-note_levels.ensures
    (notes_at s one two (of kinds.Index) c.as_slice-index.result.now lists.index.others.items c.as_slice-index.ensures.value c.in_ok-note_numbers.ensures))
    (notes_at s two three (of kinds.Pages) c.as_slice-pages.result.now lists.pages.others.items c.as_slice-pages.ensures.value c.in_ok-note_numbers-2.ensures))
    (notes_at s three last (of kinds.AuthSets) c.as_slice-auth_sets.result.now lists.auth_sets.others.items c.as_slice-auth_sets.ensures.value c.in_ok-note_numbers-3.ensures) in
    first_noted s start last (λ n. ((own n || index n) || pages n) || auth_sets n) c.new-settled.ensures c.new-exposed.ensures noted
