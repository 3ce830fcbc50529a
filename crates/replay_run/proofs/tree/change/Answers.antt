use Rattle.std.proofs.Common.{◌≡◌, ◌+◌, subst}
use Rattle.memory_outside.specs.Stored.{newest_of, item_of as stored_item}
use Rattle.replay_run.specs.Told.{told_of, told_next}
use Rattle.replay_run.proofs.Growing.{told_changed, next_above, next_is}
use Rattle.replay_run.proofs.tree.change.Goals as goal

pub returns-clause-told : goal.returns-clause-told
returns-clause-told c =
    subst (λ p. told_of c.change.new.self ≡ told_next p (stored_item c.args.item) (told_of c.args.files.now)) c.in_ok-path.ensures
    (told_changed c.in_ok-path.path c.args.item (told_of c.args.files.now) (told_of c.change.new.self) (newest_of c.args.files.now + 1) (next_above (newest_of c.args.files.now) c.requires) (next_is (newest_of c.args.files.now) c.requires) c.in_ok-change.ensures.version c.in_ok-change.ensures.stored)
