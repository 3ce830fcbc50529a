-- A head with a media type that is lent.
use Rattle.std.specs.Prelude.{List, ℕ, Option, option_map}
use Rattle.std.specs.Borrow.{Bor}
use Rattle.resp_head.specs.declared.head.ReplyHead.{ReplyHead}

-- the head with this media type
abbrev pub of_kind : ReplyHead → Option (Bor (List ℕ)) → ReplyHead
of_kind head kind = record head { kind = option_map (λ k. k.now) kind }
