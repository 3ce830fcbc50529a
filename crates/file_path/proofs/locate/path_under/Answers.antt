use Rattle.std.proofs.Common.{◌≡◌, ◌++◌, true, refl, sym, ◌∙◌, ap}
use Rattle.ngx_variables.specs.Paths.{behind_start, joined, merged, start, without_last_slash}
use Rattle.file_path.specs.Located.{can_stand}
use Rattle.file_path.proofs.Found.{too_long_by, at_by, behind_old, before_more, cut_after, joined_by}
use Rattle.file_path.proofs.locate.path_under.Goals as goal

pub returns-then-is_too_long-clause-too_long : goal.returns-then-is_too_long-clause-too_long
returns-then-is_too_long-clause-too_long c = λ e.
    (too_long_by c.args.place.now c.args.text.now c.args.uri.now c.args.folder.now (sym c.is_too_long.ensures ∙ c.if-is_too_long.true), refl)

pub returns-then-is_clean-clause-there : goal.returns-then-is_clean-clause-there
returns-then-is_clean-clause-there c = λ e.
    let place = c.args.place.now in
    let text = c.args.text.now in
    let uri = c.args.uri.now in
    let folder = c.args.folder.now in
    let old = c.args.out.now in
    let whole = start folder text ++ behind_start place text uri in
    let written = behind_old old whole c.append_whole.new.out c.as_slice.result.now c.len-start.result c.as_slice.ensures c.in_ok-append_whole.ensures c.len-start.ensures in
    let single : merged whole ≡ whole = sym (ap merged written) ∙ (c.is_clean.ensures.single c.if-is_clean.true ∙ written) in
    let is : joined place text uri folder ≡ without_last_slash whole = joined_by place text uri folder single in
    let stands : can_stand (joined place text uri folder) ≡ true
    = ap can_stand is ∙ (sym (ap (λ l. can_stand (without_last_slash l)) written) ∙ c.is_clean.ensures.stands c.if-is_clean.true) in (
      joined place text uri folder,
      at_by place text uri folder (sym c.is_too_long.ensures ∙ c.if-is_too_long.false) stands,
      c.drop_last_slash.ensures
          ∙ (cut_after without_last_slash old whole c.append_whole.new.out c.len-start.result c.in_ok-append_whole.ensures c.len-start.ensures
          ∙ ap (λ l. old ++ l) (sym is)),
    )

pub returns-clause-there : goal.returns-clause-there
returns-clause-there c = λ e.
    let found = c.path_by_tests.ensures.there e in
    let back = c.truncate.ensures ∙ before_more c.args.out.now _ c.append_whole.new.out c.len-start.result c.in_ok-append_whole.ensures c.len-start.ensures in
    (found.0, found.1, found.2 ∙ ap (λ l. l ++ found.0) back)

pub returns-clause-not_there : goal.returns-clause-not_there
returns-clause-not_there c = λ e.
    let found = c.path_by_tests.ensures.not_there e in
    let back = c.truncate.ensures ∙ before_more c.args.out.now _ c.append_whole.new.out c.len-start.result c.in_ok-append_whole.ensures c.len-start.ensures in
    (found.0, found.1 ∙ back)

pub returns-clause-too_long : goal.returns-clause-too_long
returns-clause-too_long c = λ e. absurd (c.path_by_tests.ensures.too_long e)
