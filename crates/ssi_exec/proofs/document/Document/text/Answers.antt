use Rattle.std.proofs.Common.{option_map, sym, ap, ◌∙◌}
use Rattle.request_meaning.specs.Bodies.{body}
use Rattle.ssi_exec.specs.Scenes.{block_seen, bytes_then, doc_seen}
use Rattle.ssi_exec.proofs.Inside as inside
use Rattle.ssi_exec.proofs.Texts as texts
use Rattle.ssi_exec.proofs.document.Document.text.Goals as goal

pub returns-in_ok-grow_block-in-Some-clause-marks : goal.returns-in_ok-grow_block-in-Some-clause-marks
returns-in_ok-grow_block-in-Some-clause-marks c = λ scene w rest.
    let doc = doc_seen scene c.args.self.now in
    texts.block_text w doc c.in-Some.block.name c.in-Some.block.bytes c.args.text.now rest (ap (λ b. option_map block_seen b) (sym c.in-Some.ensures.value))
    ∙ ap (λ d. body w d rest) (sym (c.in_ok-grow_block-in-Some.ensures scene))

pub returns-in-None-clause-marks : goal.returns-in-None-clause-marks
returns-in-None-clause-marks c = λ scene w rest.
    let doc = doc_seen scene c.args.self.now in
    let none = ap (λ b. option_map block_seen b) (sym c.in-None.ensures.value) in
    let same = ap (λ b. option_map block_seen b) (sym c.in-None.ensures.value ∙ sym c.in-None.ensures.after) in
    texts.free_text w doc c.args.text.now rest c.is_live.result none c.is_live.ensures
    ∙ ap (λ d. bytes_then c.is_live.result c.args.text.now (body w d rest)) (sym (inside.taken doc (option_map block_seen c.take.new.self) same))
