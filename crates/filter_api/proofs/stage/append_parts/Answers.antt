use Rattle.std.proofs.Common.{◌≡◌, ◌++◌, sym, ap, ◌∙◌, append_assoc, [], ◌∷◌}
use Rattle.ssi_text.specs.Marks.{marks, part_marks}
use Rattle.filter_api.proofs.Feeds.{marks-push}
use Rattle.filter_api.proofs.stage.append_parts.Goals as goal

pub loop-part-preserved : goal.loop-part-preserved
loop-part-preserved c =
    let e : c.push.new.self.items ≡ c.loop-part.out.items ++ c.in-Some.part ∷ [] = c.in_ok-push.ensures.items in
    ap marks e ∙ marks-push c.loop-part.out.items c.in-Some.part ∙ ap (λ z. z ++ part_marks c.in-Some.part) c.loop-part.invariant ∙ append_assoc (marks c.args.out.now.items) (marks c.loop-part.yielded) (part_marks c.in-Some.part) ∙ ap (λ z. marks c.args.out.now.items ++ z) (sym (marks-push c.loop-part.yielded c.in-Some.part))
