use Rattle.std.proofs.Common.{sym, subst, refl}
use Rattle.request_phases.specs.rewrite_code.Places.{standing_seen}
use Rattle.request_phases.specs.Rounds.{asked_in, prepared_as}
use Rattle.request_reply.specs.Replies.{IsReply, FitsFile}
use Rattle.request_reply.proofs.Sents as sents
use Rattle.request_reply.proofs.reply.reply_of.Goals as goal

pub returns-in-Text : goal.returns-in-Text
returns-in-Text c = λ w bytes members fits.
    let site = c.args.site.now in
    let p = c.args.phases.now in
    subst (λ o. IsReply c.sent.result bytes (prepared_as w (asked_in p) (standing_seen site p.at) bytes o)) (sym c.in-Text.is)
    (c.sent.ensures w bytes c.in-Text.text members refl (sym c.len-len.ensures) refl)

pub returns-in-File : goal.returns-in-File
returns-in-File c = λ w bytes members fits.
    let site = c.args.site.now in
    let p = c.args.phases.now in
    subst (λ o. IsReply c.sent-in-File.result bytes (prepared_as w (asked_in p) (standing_seen site p.at) bytes o)) (sym c.in-File.is)
    (c.sent-in-File.ensures w bytes bytes members refl (subst (λ o. FitsFile o bytes) c.in-File.is fits) refl)

pub returns-in-Page : goal.returns-in-Page
returns-in-Page c = λ w bytes members fits.
    let site = c.args.site.now in
    let p = c.args.phases.now in
    subst (λ o. IsReply c.page.result bytes (prepared_as w (asked_in p) (standing_seen site p.at) bytes o)) (sym c.in-Page.is)
    (subst (IsReply c.page.result bytes) (sents.pages site p c.in-Page.code) (c.page.ensures site bytes))

pub returns-in_ok-to-in-Redirect : goal.returns-in_ok-to-in-Redirect
returns-in_ok-to-in-Redirect c = λ w bytes members fits.
    let site = c.args.site.now in
    let p = c.args.phases.now in
    subst (λ o. IsReply c.page-in-Redirect.result bytes (prepared_as w (asked_in p) (standing_seen site p.at) bytes o)) (sym c.in-Redirect.is)
    (subst (IsReply c.page-in-Redirect.result bytes) (sents.moves site p c.in-Redirect.code c.in-Redirect.to c.in_ok-to-in-Redirect.to c.level-level.result.now c.level-level.ensures c.in_ok-to-in-Redirect.ensures) (c.page-in-Redirect.ensures site bytes))

pub returns-in-Close : goal.returns-in-Close
returns-in-Close c = λ w bytes members fits.
    let site = c.args.site.now in
    let p = c.args.phases.now in
    subst (λ o. IsReply c.closed.result bytes (prepared_as w (asked_in p) (standing_seen site p.at) bytes o)) (sym c.in-Close.is)
    (c.closed.ensures site p bytes)
