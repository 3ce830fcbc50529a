use Rattle.std.proofs.Common.{◌≡◌, ◌++◌, List, [], map, length, ap, ◌∙◌, arith}
use Rattle.std.proofs.lemmas.List.{length-map}
use Rattle.std.proofs.lemmas.Iterator.Consumers.{YieldsList-end}
use Rattle.std.proofs.lemmas.Iterator.Adapters.{YieldsList-from_vec}
use Rattle.ssi_text.specs.Marks.{marks, part_marks}
use Rattle.filter_api.specs.declared.facts.Facts.{Facts}
use Rattle.filter_api.specs.Members.{Machine}
use Rattle.filter_api.specs.Chains.{feeds_all, still}
use Rattle.filter_api.proofs.Turns.{run_turn, run_end, all_yielded}
use Rattle.filter_api.proofs.chain.Chain.turn.Goals as goal

pub loop-part-preserved : goal.loop-part-preserved
loop-part-preserved g c =
    let at : Facts → List Machine = λ f. map (λ b. ((goal.BodyFilter-dyn g (b.vtable, b.value)).member b.value).machine f) c.args.self.now.members.items in
    let ms : List Machine = at c.args.facts.now in
    let same = c.loop-part.invariant.3 in
    let gs = c.loop-part.state.stages.items in
    let len : length ms ≡ length c.loop-part.state.stages.items = rw length-map (omega (arith, c.args.self.now.members.ok, c.loop-part.state.stages.ok, c.loop-part.invariant.2)) in (
      tt,
      tt,
      c.in_ok-feed.ensures.len,
      c.in_ok-feed.ensures.facts ∙ same,
      run_turn ms c.in_ok-state.state.stages.items gs c.feed.new.state.stages.items c.loop-part.yielded c.in-Some.part (marks c.args.out.now.items) (marks c.loop-part.out.items) (marks c.feed.new.out.items) len
          (c.in_ok-feed.ensures.state ∙ ap (λ f. (feeds_all (at f) gs (part_marks c.in-Some.part)).0) same)
          (c.in_ok-feed.ensures.out ∙ ap (λ f. marks c.loop-part.out.items ++ (feeds_all (at f) gs (part_marks c.in-Some.part)).1) same)
          c.loop-part.invariant.4,
    )

pub returns : goal.returns
returns g c =
    let at : Facts → List Machine = λ f. map (λ b. ((goal.BodyFilter-dyn g (b.vtable, b.value)).member b.value).machine f) c.args.self.now.members.items in
    let ms : List Machine = at c.args.facts.now in
    let begins = c.into_iter-part-iterator.ensures.into_iter_gives in
    let ended = YieldsList-end (YieldsList-from_vec {s = c.into_iter-part-iterator.result} c.args.parts.items begins.0 (begins.1 ∙ c.args.parts.ok.0)) c.loop-part.yielded c.loop-part.part-iterator c.loop-part.yielded_by c.next.result c.next.new.self c.in-None.is c.next.ensures.steps in
    let all : c.loop-part.yielded ≡ c.args.parts.items = all_yielded c.loop-part.yielded c.args.parts.items ended.0 in
    run_end ms c.in_ok-state.state.stages.items c.loop-part.state.stages.items c.loop-part.yielded c.args.parts.items (marks c.args.out.now.items) (marks c.loop-part.out.items) (marks c.end.new.out.items) c.in_ok-state.ensures.stages all
    (c.in_ok-end.ensures ∙ ap (λ f. marks c.loop-part.out.items ++ still (at f) c.loop-part.state.stages.items []) c.loop-part.invariant.3)
    c.loop-part.invariant.4
