use Rattle.std.proofs.Common.{◌≡◌, ◌++◌, [], length, take, refl, sym, ap, ◌∙◌, append_assoc, arith}
use Rattle.outgoing.specs.Leaving.{to_come}
use Rattle.postpone_filter.specs.Runs.{filled}
use Rattle.page_response.proofs.Moving as moving
use Rattle.page_response.proofs.pages.put_rest.Goals as goal

pub loop-init : goal.loop-init
loop-init c = record { put = λ more. refl; log = refl; closed = λ closed. closed; kind = refl }

pub loop-preserved : goal.loop-preserved
loop-preserved c =
    let i = c.loop.invariant in
    let front = c.front-front.result.now in
    let old = filled (λ _. []) c.loop.order.pieces in
    let new = filled (λ _. []) c.used.new.self.pieces in
    let parts : old ≡ front ++ new =
    c.used.ensures.order (λ _. []) ∙ ap (λ xs. xs ++ new) (ap (λ xs. take (length front) xs) (sym c.front-front.ensures.value) ∙ moving.take_whole front) in
    record {
      put = λ more. c.in_ok-put_all.ensures.exact (new ++ more) ∙ (ap (to_come c.loop.outgoing) (sym (append_assoc front new more) ∙ ap (λ xs. xs ++ more) (sym parts)) ∙ i.put more);
      log =
          let total = c.in-Some.ensures in
          let both = ap length parts ∙ moving.both_lengths front new in
          let before = i.log in
          omega (arith, total, both, before);
      closed = λ closed j. c.used.ensures.opened j ∙ i.closed closed j;
      kind = c.in_ok-put_all.ensures.kind ∙ i.kind;
    }

pub returns-then-count-eq0-clause-put : goal.returns-then-count-eq0-clause-put
returns-then-count-eq0-clause-put c = λ closed more.
    let none = moving.none_left c.loop.order.pieces (ap length (sym c.front-front.ensures.value) ∙ c.if-count-eq0.true) c.front-front.ensures.gives (c.loop.invariant.closed closed) in
    ap (λ xs. to_come c.loop.outgoing (xs ++ more)) (sym none) ∙ c.loop.invariant.put more

pub returns-then-count-eq0-clause-kind : goal.returns-then-count-eq0-clause-kind
returns-then-count-eq0-clause-kind c = c.loop.invariant.kind

pub returns-then-count-eq0-clause-log : goal.returns-then-count-eq0-clause-log
returns-then-count-eq0-clause-log c = λ closed.
    let none = ap length (moving.none_left c.loop.order.pieces (ap length (sym c.front-front.ensures.value) ∙ c.if-count-eq0.true) c.front-front.ensures.gives (c.loop.invariant.closed closed)) in
    let log = c.loop.invariant.log in
    omega (arith, none, log)
