use Rattle.std.proofs.Common.{[], ◌∷◌, drop, sym, subst, ◌∙◌, ap}
use Rattle.server_choice.specs.Names.{GetsNumber}
use Rattle.server_choice.specs.Listening.{HasMore}
use Rattle.server_choice.proofs.Adding.{more-host, more-ending, more-beginning, more-both, more-like}
use Rattle.server_choice.proofs.servers.add_name.Goals as goal

pub returns-in_ok-add_host-in-Whole : goal.returns-in_ok-add_host-in-Whole
returns-in_ok-add_host-in-Whole c =
    let old = c.args.names.now in
    let new = c.add_host.new.self in
    subst (λ n. HasMore old new (n ∷ []) c.args.server) (sym c.in-Whole.is)
    (more-host old new c.in-Whole.host c.args.server (subst (λ t. GetsNumber old.exact new.exact t c.args.server) c.as_slice.ensures c.in_ok-add_host-in-Whole.ensures.ok)
    c.add_host.ensures.others)

pub returns-in_ok-add_ending-in-Ending : goal.returns-in_ok-add_ending-in-Ending
returns-in_ok-add_ending-in-Ending c =
    let old = c.args.names.now in
    let new = c.add_ending.new.self in
    subst (λ n. HasMore old new (n ∷ []) c.args.server) (sym c.in-Ending.is)
    (more-ending old new c.in-Ending.text c.args.server
    (subst (λ t. GetsNumber old.endings new.endings t c.args.server) c.as_slice-in-Ending.ensures c.in_ok-add_ending-in-Ending.ensures.ok) c.add_ending.ensures.others)

pub returns-in_ok-add_beginning-in-Beginning : goal.returns-in_ok-add_beginning-in-Beginning
returns-in_ok-add_beginning-in-Beginning c =
    let old = c.args.names.now in
    let new = c.add_beginning.new.self in
    subst (λ n. HasMore old new (n ∷ []) c.args.server) (sym c.in-Beginning.is)
    (more-beginning old new c.in-Beginning.text c.args.server
    (subst (λ t. GetsNumber old.beginnings new.beginnings t c.args.server) c.as_slice-in-Beginning.ensures c.in_ok-add_beginning-in-Beginning.ensures.ok)
    c.add_beginning.ensures.others)

pub returns-in_ok-add_ending-in-WithSubdomains : goal.returns-in_ok-add_ending-in-WithSubdomains
returns-in_ok-add_ending-in-WithSubdomains c =
    let old = c.args.names.now in
    let mid = c.add_host-in-WithSubdomains.new.self in
    let new = c.add_ending-in-WithSubdomains.new.self in
    let text = c.in-WithSubdomains.text in
    subst (λ n. HasMore old new (n ∷ []) c.args.server) (sym c.in-WithSubdomains.is)
    (more-both old mid new text c.args.server
    (subst (λ t. GetsNumber old.exact mid.exact t c.args.server) (c.without_first.ensures ∙ ap (drop 1) c.as_slice-in-WithSubdomains.ensures)
    c.in_ok-add_host-in-WithSubdomains.ensures.ok)
    c.add_host-in-WithSubdomains.ensures.others
    (subst (λ t. GetsNumber mid.endings new.endings t c.args.server) c.as_slice-in-WithSubdomains-2.ensures c.in_ok-add_ending-in-WithSubdomains.ensures.ok)
    c.add_ending-in-WithSubdomains.ensures.others)

pub returns-in_ok-add_like-in-Like : goal.returns-in_ok-add_like-in-Like
returns-in_ok-add_like-in-Like c =
    let old = c.args.names.now in
    let new = c.add_like.new.self in
    subst (λ n. HasMore old new (n ∷ []) c.args.server) (sym c.in-Like.is)
    (more-like old new c.in-Like.pattern c.args.server c.in_ok-add_like-in-Like.ensures.ok c.add_like.ensures.others)
