use Rattle.std.proofs.Common.{◌≡◌, sym, ◌∙◌, subst, take, drop}
use Rattle.std.proofs.lemmas.List.{take-append-drop}
use Rattle.req_head.specs.Step.{head_step}
use Rattle.req_head.specs.declared.head.HeadStep.TheVariants.{Head, Bad}
use Rattle.req_head.proofs.StepLemmas.{head-stays, refusal-stays}
use Rattle.req_head.proofs.head.read_long.Goals as goal

pub returns-in-Head : goal.returns-in-Head
returns-in-Head c =
    let bytes = c.args.bytes.now in
    let h = c.in-Head in
    let step = Head h.head h.size in
    let decides = sym c.in_ok-read_lines.ensures ∙ h.is in
    subst (λ b. step ≡ head_step b) (take-append-drop 2048 bytes) (sym (head-stays (take 2048 bytes) (drop 2048 bytes) h.head h.size decides))

pub returns-in-Bad : goal.returns-in-Bad
returns-in-Bad c =
    let bytes = c.args.bytes.now in
    let h = c.in-Bad in
    let step = Bad h.code h.no_body in
    let decides = sym c.in_ok-read_lines.ensures ∙ h.is in
    subst (λ b. step ≡ head_step b) (take-append-drop 2048 bytes) (sym (refusal-stays (take 2048 bytes) (drop 2048 bytes) h.code h.no_body decides))
