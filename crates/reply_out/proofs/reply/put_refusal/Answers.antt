use Rattle.std.proofs.Common.{ap, ◌∙◌, ◌++◌, cond, [], codes, refl}
use Rattle.error_page.specs.Page.{page_of}
use Rattle.reply_out.proofs.Putting.{refused}
use Rattle.reply_out.proofs.reply.put_refusal.Goals as goal

pub returns-clause-put : goal.returns-clause-put
returns-clause-put c = λ start m.
    c.in_ok-put_parts.ensures.put
    ∙ ap (λ x. c.args.out.now ++ x) (refused c.args.code c.args.moment start c.args.no_body (codes "text/html") c.page_text.new.out c.in_ok-text_of_kind.field-0.now c.content_unless-body.result.now c.len.result m
    refl (c.in_ok-page_text.ensures ∙ ap (λ p. p ++ page_of c.args.code) c.new-page.ensures) c.len.ensures c.in_ok-text_of_kind.ensures
    (c.content_unless-body.ensures ∙ ap (λ p. cond c.args.no_body [] p) c.as_slice.ensures))
