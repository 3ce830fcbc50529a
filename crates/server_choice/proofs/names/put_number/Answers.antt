use Rattle.std.proofs.Common.{◌≤◌, bytes_eq, arith}
use Rattle.std.specs.HashMap.{get_by}
use Rattle.server_choice.proofs.Put.{put-first, put-short, others-kept}
use Rattle.server_choice.proofs.names.put_number.Goals as goal

pub returns-clause-ok : goal.returns-clause-ok
returns-clause-ok c =
    let updates = c.in_ok-insert.ensures.updates in
    put-first (λ t. get_by (λ key. bytes_eq t key.items) c.args.numbers.now) (λ t. get_by (λ key. bytes_eq t key.items) c.insert.new.self) c.args.key.items c.args.number
    c.requires
    updates.1
    (others-kept (λ k. k.items) c.args.numbers.now.entries c.insert.new.self.entries c.args.key.items updates.3)

pub returns-clause-short : goal.returns-clause-short
returns-clause-short c = λ most within gone.
    put-short (λ t. get_by (λ key. bytes_eq t key.items) c.args.numbers.now) (λ t. get_by (λ key. bytes_eq t key.items) c.insert.new.self) c.args.key.items c.args.number most most
    (returns-clause-ok c) gone (let same : most ≤ most = omega arith in same) within
