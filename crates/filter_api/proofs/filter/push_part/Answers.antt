use Rattle.std.proofs.Common.{◌≡◌, ◌++◌, [], ◌∷◌, ap, ◌∙◌}
use Rattle.ssi_text.specs.Marks.{marks}
use Rattle.filter_api.proofs.Feeds.{marks-push}
use Rattle.filter_api.proofs.filter.push_part.Goals as goal

pub returns : goal.returns
returns c =
    let e : c.push.new.self.items ≡ c.args.out.now.items ++ c.args.part ∷ [] = c.in_ok-push.ensures.items in
    ap marks e ∙ marks-push c.args.out.now.items c.args.part
