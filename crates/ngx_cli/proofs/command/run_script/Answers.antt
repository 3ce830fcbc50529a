use Rattle.std.proofs.Common.{◌≡◌, List, ℕ, ◌++◌, Ok, Err, true, refl, sym, ap, ◌∙◌, subst}
use Rattle.file_tree.specs.Tree.{text_of}
use Rattle.ngx_outside.specs.Seen.{FilesSeen}
use Rattle.ngx_cli.specs.Commands.{Output, Made, ComesTo, Printed, ReplayEnds, PutsText}
use Rattle.ngx_cli.specs.Running.{Replays}
use Rattle.ngx_cli.specs.declared.script.ScriptOutcome.{ScriptOutcome}
use Rattle.ngx_cli.proofs.Endings.{played, unput_replay}
use Rattle.ngx_cli.proofs.command.run_script.Goals as goal

pub returns-in-Ok-put_text : goal.returns-in-Ok-put_text
returns-in-Ok-put_text g c =
    let files : FilesSeen = g.F.Files.seen c.args.files.now in
    let files' : FilesSeen = g.F.Files.seen c.read_text.new.files in
    let made : Made = record { before = g.M.PatternMaker.refusals c.args.maker.now; after = g.M.PatternMaker.refusals c.replay.new.maker } in
    let out : Output = record { before = g.O.Sink.seen c.args.out.now; after = g.O.Sink.seen c.put_text.new.out } in
    let path = c.args.path.now in
    let outcome : ScriptOutcome = c.in-Ok-replay.outcome in
    let ran = c.in-Ok-replay.ensures.text in
    let comes : ComesTo files made path c.args.racy outcome ran.0 = record {
      bytes = c.as_slice.result.now;
      read = λ tells. c.as_slice.ensures ∙ c.in-Ok.ensures.text tells;
      replays = ran.2;
      refused = λ is. c.in-Ok-replay.ensures.refused (ap Ok is);
    } in
    let text : c.as_slice-in-Ok-replay.result.now ≡ ran.0 = c.as_slice-in-Ok-replay.ensures ∙ ran.1 ∙ ap (λ t. t ++ ran.0) c.new-text.ensures in
    subst (ReplayEnds files files' made out path c.args.racy) (sym c.status_of.ensures)
    (played files files' made out path c.args.racy outcome (record { text = ran.0; comes = comes; printed = subst (λ t. Printed out t) text c.in-Ok-put_text.ensures }))

pub returns-in-Ok-replay : goal.returns-in-Ok-replay
returns-in-Ok-replay g c =
    let files : FilesSeen = g.F.Files.seen c.args.files.now in
    let files' : FilesSeen = g.F.Files.seen c.read_text.new.files in
    let made : Made = record { before = g.M.PatternMaker.refusals c.args.maker.now; after = g.M.PatternMaker.refusals c.replay.new.maker } in
    let out : Output = record { before = g.O.Sink.seen c.args.out.now; after = g.O.Sink.seen c.put_text.new.out } in
    let path = c.args.path.now in
    let outcome : ScriptOutcome = c.in-Ok-replay.outcome in
    let ran = c.in-Ok-replay.ensures.text in
    let comes : ComesTo files made path c.args.racy outcome ran.0 = record {
      bytes = c.as_slice.result.now;
      read = λ tells. c.as_slice.ensures ∙ c.in-Ok.ensures.text tells;
      replays = ran.2;
      refused = λ is. c.in-Ok-replay.ensures.refused (ap Ok is);
    } in
    let text : c.as_slice-in-Ok-replay.result.now ≡ ran.0 = c.as_slice-in-Ok-replay.ensures ∙ ran.1 ∙ ap (λ t. t ++ ran.0) c.new-text.ensures in
    unput_replay files files' made out path ran.0 c.args.racy outcome c.in-Err-put_text.status comes (subst (λ t. PutsText out t (Err c.in-Err-put_text.status)) text c.in-Err-put_text.ensures)
