-- A head whose text is kept.
use Rattle.std.specs.Prelude.{◌≡◌, ℕ, List, Option}
use Rattle.std.specs.Option.{ForSome}
use Rattle.resp_head.specs.Head.{head_of}
use Rattle.resp_head.specs.declared.head.ReplyHead.{ReplyHead}

-- a text is that of the head that is kept, if one is
abbrev pub IsKept : Option ReplyHead → List ℕ → Type 0
IsKept last text = ForSome last (λ head. text ≡ head_of head)
