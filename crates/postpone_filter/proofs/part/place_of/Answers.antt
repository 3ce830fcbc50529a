use Rattle.std.proofs.Common.{◌∙◌, sym}
use Rattle.postpone_filter.proofs.Ties.{shows-place}
use Rattle.postpone_filter.proofs.part.place_of.Goals as goal

pub returns-in_default-clause-none : goal.returns-in_default-clause-none
returns-in_default-clause-none c = λ e. sym (shows-place c.args.id _ c.args.parts.now.items c.args.nodes.now.items c.requires) ∙ c.find-found.ensures.none e
