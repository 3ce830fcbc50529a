use Rattle.std.proofs.Common.{◌≡◌, ◌++◌, ◌∷◌, ◌∙◌, [], Some, None, ap, sym, subst, option_map, rules}
use Rattle.std.specs.Map.{KeepsOthers}
use Rattle.std.specs.Option.{IsSome}
use Rattle.std.specs.BTreeMap.{get_by}
use Rattle.std.specs.Ordering.{nat_cmp, is_eq, eq_by_cmp}
use Rattle.std.specs.Cmp.Lexicographic.{slice_cmp}
use Rattle.race_places.specs.declared.index.LineIndex.{LineIndex}
use Rattle.race_places.specs.Index.{at, lines_in}
use Rattle.race_places.proofs.Indexing.{put_at, others_kept}
use Rattle.race_places.proofs.index.LineIndex.add.Goals as goal

pub returns-in-Some : goal.returns-in-Some
unfolding at
returns-in-Some c =
    let name = c.args.name.now in
    let line = c.args.line in
    let old = c.args.self.now in
    let put = c.push.new.self in
    let new : LineIndex = record { lines = c.get_mut.follows.lender put; alloc = old.alloc } in
    let through = c.get_mut.follows.holds put in
    let found : get_by (λ key. slice_cmp nat_cmp name key.items) old.lines ≡ Some c.in-Some.lines.now = search rules in
    let some : IsSome (get_by (λ key. slice_cmp nat_cmp name key.items) old.lines) = search (rules, found) in
    let updates = through.3 some in
    let was : at old name ≡ c.in-Some.lines.now.items = ap (λ o. lines_in (option_map (λ l. l.items) o)) found in
    let here : at new name ≡ put.items = ap (λ o. lines_in (option_map (λ l. l.items) o)) updates.1 in
    put_at (at old) (at new) name line
    (here ∙ c.in_ok-push.ensures.items ∙ ap (λ l. l ++ line ∷ []) (sym was))
    (λ other apart. ap (λ o. lines_in (option_map (λ l. l.items) o)) (others_kept (λ k. k.items) old.lines.entries new.lines.entries name updates.3 other apart))

pub returns : goal.returns
unfolding at
returns c =
    let name = c.args.name.now in
    let line = c.args.line in
    let old = c.args.self.now in
    let new : LineIndex = record { lines = c.insert.new.self; alloc = old.alloc } in
    let same : c.in_ok-key.key.items ≡ name = search rules in
    let absent : get_by (λ key. slice_cmp nat_cmp name key.items) old.lines ≡ None = search rules in
    let back : c.get_mut.follows.lender-at-none.entries ≡ old.lines.entries = search rules in
    let updates = c.in_ok-insert.ensures.updates in
    let lines : c.push-2.new.self.items ≡ line ∷ [] = search rules in
    let none : at old name ≡ [] = ap (λ o. lines_in (option_map (λ l. l.items) o)) absent in
    let here : at new name ≡ c.push-2.new.self.items = subst (λ t. at new t ≡ c.push-2.new.self.items) same (ap (λ o. lines_in (option_map (λ l. l.items) o)) updates.1) in
    put_at (at old) (at new) name line
    (here ∙ lines ∙ ap (λ l. l ++ line ∷ []) (sym none))
    (λ other apart. ap (λ o. lines_in (option_map (λ l. l.items) o)) (others_kept (λ k. k.items) old.lines.entries c.insert.new.self.entries name
    (subst (λ t. KeepsOthers (eq_by_cmp (λ x y. slice_cmp nat_cmp x.items y.items)) (λ k. is_eq (slice_cmp nat_cmp t k.items)) old.lines.entries c.insert.new.self.entries) same
    (subst (λ es. KeepsOthers (eq_by_cmp (λ x y. slice_cmp nat_cmp x.items y.items)) (λ k. is_eq (slice_cmp nat_cmp c.in_ok-key.key.items k.items)) es c.insert.new.self.entries) back updates.3)) other apart))
