use Rattle.std.proofs.Common.{List, ℕ, ap, ◌∙◌, ◌++◌, option_map, refl}
use Rattle.reply_out.proofs.Putting.{put_is}
use Rattle.reply_out.proofs.reply.put_reply.Goals as goal

pub returns-clause-put : goal.returns-clause-put
returns-clause-put c =
    c.in_ok-put_parts.ensures.put
    ∙ ap (λ (x : List ℕ). x ++ (c.in_ok-text_of_kind.field-0.now ++ c.in_ok-bytes.bytes.now)) c.lend.ensures
    ∙ ap (λ x. c.args.out.now ++ x) (put_is c.args.terms c.args.reply c.args.keep (option_map (λ k. k.now) c.args.reply.kind) c.in_ok-text_of_kind.field-0.now c.in_ok-bytes.bytes.now c.if-gone.false refl c.in_ok-text_of_kind.ensures c.in_ok-bytes.ensures)
