use Rattle.std.proofs.Common.{◌&&◌, ◌||◌, ap, ◌∙◌}
use Rattle.std.specs.List.{list_any}
use Rattle.site_whole.specs.Whole.{program_seen, server_whole}
use Rattle.race_meaning.specs.Named.{begins_with_set}
use Rattle.race_check.specs.Names.{has}
use Rattle.race_check.specs.Lists.{sets_by_auth}
use Rattle.race_check.specs.Told.{in_first}
use Rattle.race_check.proofs.Firsts.{or_over, read_with, set_with}
use Rattle.race_check.proofs.Deciding.{one_by, set_by, private_by, auth_by, documents_by, begins_marked}
use Rattle.race_check.proofs.conflict.marks_of.Goals as goal

pub returns : goal.returns
unfolding server_whole
returns c = λ patterns first are.
    let site = c.args.site.now in
    let server = c.args.server.now in
    let levels = c.args.levels.now in
    let values = c.args.values.now in
    let lists = c.in_ok-lists.lists in
    let lists_so = c.in_ok-lists.ensures in
    let read = c.in_ok-exposed.exposed in
    let exposed = c.add_exposed.new.exposed in
    let auth = c.in_ok-auth.auth in
    record {
      one = one_by patterns site server levels values c.requires.levels c.requires.values c.in_ok-texts.texts (c.in_ok-texts.ensures patterns);
      is_there = set_by patterns site server levels values c.requires.levels c.requires.values c.in_ok-texts.texts (c.in_ok-texts.ensures patterns);
      by_auth = auth_by patterns site server levels values c.requires.levels c.requires.values (λ name. has auth name || (lists.auth_sets.has_first && has first.sets name))
          (λ name. ap (λ b. b || (lists.auth_sets.has_first && has first.sets name)) (c.in_ok-auth.ensures name ∙ ap (list_any (sets_by_auth site name)) c.as_slice.ensures.value) ∙ set_with site values lists lists_so first are name);
      begins = begins_marked patterns site server c.in_ok-opening.opening (λ name. c.in_ok-opening.ensures patterns site name ∙ ap (λ l. begins_with_set name (program_seen patterns site l)) c.level.ensures);
      not_private = private_by patterns site server levels values c.requires.levels c.requires.values (λ name. has read name || in_first first lists name) (λ name. has exposed name || in_first first lists name)
          (λ name. ap (λ b. b || in_first first lists name) (c.in_ok-exposed.ensures name) ∙ read_with site values lists lists_so first are name)
          (λ name. ap (λ b. b || in_first first lists name) (c.in_ok-add_exposed.ensures patterns name) ∙ or_over _ (has read name) (in_first first lists name));
      has_documents = documents_by patterns site server levels values c.requires.levels c.requires.values c.has_documents-documents.result c.has_documents-documents.ensures;
      seen = c.in_ok-visible.ensures;
    }
