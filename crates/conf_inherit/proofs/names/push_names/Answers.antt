use Rattle.std.proofs.Common.{map, ap, ◌∙◌, arith}
use Rattle.conf_lists.specs.Hosts.{name_of}
use Rattle.conf_inherit.proofs.NameLaws.{names-begin, names-one, names-over, next-word, no-words}
use Rattle.conf_inherit.proofs.names.push_names.Goals as goal

pub loop-word-init : goal.loop-word-init
loop-word-init g c = names-begin _ _ _

pub loop-word-preserved : goal.loop-word-preserved
loop-word-preserved g c =
    names-one _ _ _ _ _ _ c.in_ok-name_of.field-0 _ _ _ _ c.loop-word.invariant c.in_ok-name_of.ensures.kept c.in_ok-push.ensures.items
    (ap (map name_of) (next-word c.args.words.now c.loop-word.word-index c.word-item.result (omega arith) c.word-item.is)) (λ all k. c.in_ok-name_of.ensures.seen all k ∙ ap name_of c.as_slice.ensures)

pub returns : goal.returns
returns g c = names-over _ _ _ _ _ _ c.loop-word.invariant (ap (map name_of) (no-words c.args.words.now c.loop-word.word-index (omega arith)))
