use Rattle.std.proofs.Common.{List, ℕ, [], Some, None, sym, ap, ◌∙◌}
use Rattle.std.proofs.lemmas.Bool.{true≢false}
use Rattle.acts.specs.Act.{Done, settled}
use Rattle.request_meaning.specs.Serving.{Serving}
use Rattle.request_meaning.specs.Documents.{Doc}
use Rattle.request_meaning.specs.Commands.Word.{Block, EndBlock, Config, Else, EndIf}
use Rattle.ssi_exec.specs.Named.{includes, word_seen}
use Rattle.ssi_exec.specs.Scenes.{doc_seen, plain_act}
use Rattle.ssi_exec.proofs.Acts as acts
use Rattle.ssi_exec.proofs.document.Document.written_by.Goals as goal

pub returns-in_ok-open_block-in-Block : goal.returns-in_ok-open_block-in-Block
returns-in_ok-open_block-in-Block c = λ no w h.
    let scene = c.args.scene.now in
    let doc = doc_seen scene c.args.self.now in
    let vars = c.args.vars.now in
    let ps = c.args.ps.now in
    ap (λ x. settled (plain_act w doc (word_seen x) ps) vars) c.in-Block.is
    ∙ acts.by_writing vars (plain_act w doc Block ps) None (doc_seen scene c.open_block.new.self)
    (ap (λ (n : List ℕ). let d : Doc = record doc { block = Some (n, []) } in let act : Serving Doc = Done d in act) (sym c.text_of.ensures) ∙ ap (λ d. Done d) (sym (c.in_ok-open_block-in-Block.ensures scene)))

pub returns-in_ok-text-in-EndBlock : goal.returns-in_ok-text-in-EndBlock
returns-in_ok-text-in-EndBlock c = λ no w h.
    let scene = c.args.scene.now in
    let doc = doc_seen scene c.args.self.now in
    let vars = c.args.vars.now in
    let ps = c.args.ps.now in
    ap (λ x. settled (plain_act w doc (word_seen x) ps) vars) c.in-EndBlock.is
    ∙ acts.by_writing vars (plain_act w doc EndBlock ps) c.in_ok-text-in-EndBlock.text doc c.in_ok-text-in-EndBlock.ensures

pub returns-in_ok-text-in-Config : goal.returns-in_ok-text-in-Config
returns-in_ok-text-in-Config c = λ no w h.
    let scene = c.args.scene.now in
    let doc = doc_seen scene c.args.self.now in
    let vars = c.args.vars.now in
    let ps = c.args.ps.now in
    ap (λ x. settled (plain_act w doc (word_seen x) ps) vars) c.in-Config.is
    ∙ acts.by_writing vars (plain_act w doc Config ps) c.in_ok-text-in-Config.text (doc_seen scene c.config.new.self) c.in_ok-text-in-Config.ensures

pub returns-in_ok-text-in-Else : goal.returns-in_ok-text-in-Else
returns-in_ok-text-in-Else c = λ no w h.
    let scene = c.args.scene.now in
    let doc = doc_seen scene c.args.self.now in
    let vars = c.args.vars.now in
    let ps = c.args.ps.now in
    ap (λ x. settled (plain_act w doc (word_seen x) ps) vars) c.in-Else.is
    ∙ acts.by_writing vars (plain_act w doc Else ps) c.in_ok-text-in-Else.text (doc_seen scene c.else_done.new.self) c.in_ok-text-in-Else.ensures

pub returns-in_ok-text-in-EndIf : goal.returns-in_ok-text-in-EndIf
returns-in_ok-text-in-EndIf c = λ no w h.
    let scene = c.args.scene.now in
    let doc = doc_seen scene c.args.self.now in
    let vars = c.args.vars.now in
    let ps = c.args.ps.now in
    ap (λ x. settled (plain_act w doc (word_seen x) ps) vars) c.in-EndIf.is
    ∙ acts.by_writing vars (plain_act w doc EndIf ps) c.in_ok-text-in-EndIf.text (doc_seen scene c.endif_done.new.self) c.in_ok-text-in-EndIf.ensures

pub returns-in_ok-text-in-Echo : goal.returns-in_ok-text-in-Echo
returns-in_ok-text-in-Echo c = λ no w h.
    let scene = c.args.scene.now in
    let doc = doc_seen scene c.args.self.now in
    let vars = c.args.vars.now in
    let ps = c.args.ps.now in
    ap (λ x. settled (plain_act w doc (word_seen x) ps) vars) c.in-Echo.is
    ∙ c.in_ok-text-in-Echo.ensures w h

pub returns-in_ok-text-in-If : goal.returns-in_ok-text-in-If
returns-in_ok-text-in-If c = λ no w h.
    let scene = c.args.scene.now in
    let doc = doc_seen scene c.args.self.now in
    let vars = c.args.vars.now in
    let ps = c.args.ps.now in
    ap (λ x. settled (plain_act w doc (word_seen x) ps) vars) c.in-If.is
    ∙ c.in_ok-text-in-If.ensures w h

pub returns-in_ok-text-in-Elif : goal.returns-in_ok-text-in-Elif
returns-in_ok-text-in-Elif c = λ no w h.
    let scene = c.args.scene.now in
    let doc = doc_seen scene c.args.self.now in
    let vars = c.args.vars.now in
    let ps = c.args.ps.now in
    ap (λ x. settled (plain_act w doc (word_seen x) ps) vars) c.in-Elif.is
    ∙ c.in_ok-text-in-Elif.ensures w h

pub returns-in_ok-text-in-Set : goal.returns-in_ok-text-in-Set
returns-in_ok-text-in-Set c = λ no w h.
    let scene = c.args.scene.now in
    let doc = doc_seen scene c.args.self.now in
    let vars = c.args.vars.now in
    let ps = c.args.ps.now in
    ap (λ x. settled (plain_act w doc (word_seen x) ps) vars) c.in-Set.is
    ∙ c.in_ok-text-in-Set.ensures w h

pub returns-in-Include : goal.returns-in-Include
returns-in-Include c = λ no w h. absurd (true≢false (sym (ap (λ x. includes (word_seen x)) c.in-Include.is) ∙ no))
