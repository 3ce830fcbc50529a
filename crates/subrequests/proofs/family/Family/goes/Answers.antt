use Rattle.std.proofs.Common.{◌≡◌, true, false, slice_get, sym, subst}
use Rattle.node_seats.specs.Seats.{is_seated}
use Rattle.node_line.specs.node_turn.Stages.{is_ending, is_placing}
use Rattle.subrequests.specs.Families.{captured_at, in_row_at}
use Rattle.subrequests.specs.Moved.{IsWhole, Steps, stands}
use Rattle.subrequests.specs.Wants.{Stands}
use Rattle.subrequests.specs.declared.family.Family.{Family}
use Rattle.subrequests.proofs.Wholes as wholes
use Rattle.subrequests.proofs.family.Family.goes.Goals as goal

pub returns-in-Waits-clause-stepped : goal.returns-in-Waits-clause-stepped
returns-in-Waits-clause-stepped c = (record { steps = wholes.no_steps c.args.patterns.now c.args.ground.now c.args.self.now; whole = c.requires.whole }, subst (λ x. Stands c.args.self.now c.args.at x) c.in-Waits.is c.requires.stands c.args.self.now.order)

pub returns-in_ok-parent-in-Decides-clause-stepped : goal.returns-in_ok-parent-in-Decides-clause-stepped
returns-in_ok-parent-in-Decides-clause-stepped c =
    let ps = c.args.patterns.now in
    let g = c.args.ground.now in
    let decided = c.in_ok-parent-in-Decides.ensures in
    let end = c.tell-in-Decides.new.self in (
      record { steps = wholes.steps_then ps g c.args.self.now c.decide_at.new.self end (decided.steps ps g) (c.tell-in-Decides.ensures.steps ps g); whole = c.tell-in-Decides.ensures.whole },
      wholes.over_rests end.order c.args.at (slice_get end.nodes c.args.at) (c.tell-in-Decides.ensures.over c.args.at decided.ended),
    )

pub returns-in_ok-parent-in-Returns-clause-stepped : goal.returns-in_ok-parent-in-Returns-clause-stepped
returns-in_ok-parent-in-Returns-clause-stepped c =
    let ps = c.args.patterns.now in
    let g = c.args.ground.now in
    let returned = c.in_ok-parent-in-Returns.ensures in
    let end = c.tell-in-Returns.new.self in (
      record { steps = wholes.steps_then ps g c.args.self.now c.return_at.new.self end (subst (λ (f : Family). Steps ps g f c.return_at.new.self) (c.in_ok-joins_by-in-Returns.ensures.same c.if-branch-2.false) (returned.steps ps g)) (c.tell-in-Returns.ensures.steps ps g); whole = c.tell-in-Returns.ensures.whole },
      wholes.over_rests end.order c.args.at (slice_get end.nodes c.args.at) (c.tell-in-Returns.ensures.over c.args.at returned.ended),
    )

pub returns-in-Ends-clause-stepped : goal.returns-in-Ends-clause-stepped
returns-in-Ends-clause-stepped c =
    let ps = c.args.patterns.now in
    let g = c.args.ground.now in
    let closed = c.close_at-parent.ensures in
    let end = c.tell.new.self in (
      record { steps = wholes.steps_then ps g c.args.self.now c.close_at-parent.new.self end (closed.steps ps g) (c.tell.ensures.steps ps g); whole = c.tell.ensures.whole },
      wholes.over_rests end.order c.args.at (slice_get end.nodes c.args.at) (c.tell.ensures.over c.args.at closed.ended),
    )

-- ---- where no body is shown, the family is as it was

pub come_at-requires-clause-whole : goal.come_at-requires-clause-whole
come_at-requires-clause-whole c = subst IsWhole (sym (c.in_ok-joins_by-in-Comes.ensures.same c.if-branch.false)) c.requires.whole

pub come_at-requires-clause-there : goal.come_at-requires-clause-there
come_at-requires-clause-there c =
    let s = subst (Stands c.args.self.now c.args.at) c.in-Comes.is c.requires.stands in
    subst (λ (f : Family). stands is_placing f c.args.at) (sym (c.in_ok-joins_by-in-Comes.ensures.same c.if-branch.false)) s.0

pub come_at-requires-clause-seated : goal.come_at-requires-clause-seated
come_at-requires-clause-seated c =
    subst (λ (f : Family). is_seated f.nodes c.args.at (slice_get f.nodes c.args.at) ≡ true) (sym (c.in_ok-joins_by-in-Comes.ensures.same c.if-branch.false)) c.requires.seated

pub come_at-requires-clause-apart : goal.come_at-requires-clause-apart
come_at-requires-clause-apart c =
    let s = subst (Stands c.args.self.now c.args.at) c.in-Comes.is c.requires.stands in
    subst (λ (f : Family). in_row_at (slice_get f.nodes c.args.at) ≡ false) (sym (c.in_ok-joins_by-in-Comes.ensures.same c.if-branch.false)) s.1

pub returns-in_ok-come_at-in-Comes-clause-stepped : goal.returns-in_ok-come_at-in-Comes-clause-stepped
returns-in_ok-come_at-in-Comes-clause-stepped c =
    let ps = c.args.patterns.now in
    let g = c.args.ground.now in
    let came = c.in_ok-come_at-in-Comes.ensures in
    record { steps = subst (λ (f : Family). Steps ps g f c.come_at.new.self) (c.in_ok-joins_by-in-Comes.ensures.same c.if-branch.false) (came.steps ps g); whole = came.whole }

pub return_at-requires-clause-whole : goal.return_at-requires-clause-whole
return_at-requires-clause-whole c = subst IsWhole (sym (c.in_ok-joins_by-in-Returns.ensures.same c.if-branch-2.false)) c.requires.whole

pub return_at-requires-clause-there : goal.return_at-requires-clause-there
return_at-requires-clause-there c =
    let s = subst (Stands c.args.self.now c.args.at) c.in-Returns.is c.requires.stands in
    subst (λ (f : Family). stands is_ending f c.args.at) (sym (c.in_ok-joins_by-in-Returns.ensures.same c.if-branch-2.false)) s.0

pub return_at-requires-clause-withheld : goal.return_at-requires-clause-withheld
return_at-requires-clause-withheld c =
    let s = subst (Stands c.args.self.now c.args.at) c.in-Returns.is c.requires.stands in
    subst (λ (f : Family). captured_at (slice_get f.nodes c.args.at) ≡ true) (sym (c.in_ok-joins_by-in-Returns.ensures.same c.if-branch-2.false)) s.1

pub return_at-requires-clause-seated : goal.return_at-requires-clause-seated
return_at-requires-clause-seated c =
    subst (λ (f : Family). is_seated f.nodes c.args.at (slice_get f.nodes c.args.at) ≡ true) (sym (c.in_ok-joins_by-in-Returns.ensures.same c.if-branch-2.false)) c.requires.seated

pub return_at-requires-clause-child : goal.return_at-requires-clause-child
return_at-requires-clause-child c = let s = subst (Stands c.args.self.now c.args.at) c.in-Returns.is c.requires.stands in s.2
