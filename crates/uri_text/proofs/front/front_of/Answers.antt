use Rattle.std.proofs.Common.{Some, ◌∷◌, ◌-◌, get_or, length, take, drop, arith, sym, ap, ◌∙◌}
use Rattle.uri_text.proofs.Decoding.{split_one, split_two, front-plain, front-short, front-none, front-zero, front-escape}
use Rattle.uri_text.proofs.front.front_of.Goals as goal

pub returns-then-first-ne37 : goal.returns-then-first-ne37
returns-then-first-ne37 c = front-plain _ _ _ (split_one c.args.text.now (omega arith)) c.if-first-ne37.true

pub returns-in_default-rest : goal.returns-in_default-rest
returns-in_default-rest c = front-short _ _ _ (split_one c.args.text.now (omega arith)) c.if-first-ne37.false c.in_default-rest.len_below

pub returns-in-None : goal.returns-in-None
returns-in-None c =
    let rest = take (length c.args.text.now - 1) (drop 1 c.args.text.now) in
    front-none _ _ _ _ _ (split_one c.args.text.now (omega arith) ∙ ap (λ t. get_or c.args.text.now 0 0 ∷ t) (split_two rest c.in-len2-up.len_at_least)) c.if-first-ne37.false (sym c.byte_of.ensures ∙ c.in-None.is)

pub returns-in-Some-eq0 : goal.returns-in-Some-eq0
returns-in-Some-eq0 c =
    let rest = take (length c.args.text.now - 1) (drop 1 c.args.text.now) in
    front-zero _ _ _ _ _ (split_one c.args.text.now (omega arith) ∙ ap (λ t. get_or c.args.text.now 0 0 ∷ t) (split_two rest c.in-len2-up.len_at_least)) c.if-first-ne37.false (sym c.byte_of.ensures ∙ c.in-Some-eq0.is ∙ ap Some c.in-Some-eq0.field-0-test)

pub returns-in-Some : goal.returns-in-Some
returns-in-Some c =
    let rest = take (length c.args.text.now - 1) (drop 1 c.args.text.now) in
    front-escape _ _ _ _ _ _ (split_one c.args.text.now (omega arith) ∙ ap (λ t. get_or c.args.text.now 0 0 ∷ t) (split_two rest c.in-len2-up.len_at_least)) c.if-first-ne37.false (sym c.byte_of.ensures ∙ c.in-Some.is) c.in-Some.byte-test.1
