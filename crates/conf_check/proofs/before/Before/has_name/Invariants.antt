use Rattle.std.proofs.Common.{◌≡◌, drop, map, bytes_eq}
use Rattle.std.specs.List.{list_any}
use Rattle.conf_check.proofs.before.Before.has_name.Given as goal

-- the names that are left decide
abbrev pub invariant-loop-kept : goal.invariant-loop-kept
invariant-loop-kept l =
    list_any (λ n. bytes_eq n l.name) (map (λ n. n.now) (drop l.kept-index l.kept-items)) ≡ list_any (λ n. bytes_eq n l.name) (map (λ n. n.now) l.self.names.items)
