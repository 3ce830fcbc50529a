use Rattle.std.proofs.Common.{◌≡◌, true}
use Rattle.memory_outside.proofs.Children.{no_slash, no_name}
use Rattle.memory_outside.proofs.names.child_name.Goals as goal

pub returns-in_default-after : goal.returns-in_default-after
returns-in_default-after c =
    no_slash c.args.folder.now c.front.result.now c.args.path.now c.as_slice.result.now c.in-Some.rest.now c.front.ensures c.in-Some.ensures c.as_slice.ensures c.in_default-after.ensures

pub returns-else-is_name : goal.returns-else-is_name
returns-else-is_name c =
    no_name c.args.folder.now c.front.result.now c.args.path.now c.as_slice.result.now c.in-Some.rest.now c.in-Some-after.name.now c.front.ensures c.in-Some.ensures c.as_slice.ensures c.in-Some-after.ensures
    (λ n. let yes : c.is_name.result ≡ true = c.is_name.ensures.1 n in cc)
