use Rattle.std.proofs.Common.{◌≡◌, ◌<◌, option_map, sym, ap, ◌∙◌, arith}
use Rattle.std.specs.Result.{result_ok}
use Rattle.uri_text.specs.Target.{normal_of}
use Rattle.request_meaning.specs.Commands.{in_folder}
use Rattle.ssi_exec.specs.declared.includes.Target.{Target}
use Rattle.ssi_exec.specs.Includes.{folder_path}
use Rattle.ssi_exec.specs.Scenes.{doc_seen}
use Rattle.ssi_exec.proofs.Acts as acts
use Rattle.ssi_exec.proofs.document.Document.include_at.Goals as goal

pub returns-then-scene-eq0 : goal.returns-then-scene-eq0
returns-then-scene-eq0 c = λ part ps says.
    let scene = c.args.scene.now in
    let doc = doc_seen scene c.args.self.now in
    let merge = scene.server.now.merge in
    let r = normal_of (in_folder doc c.args.text.now) merge in
    let there : option_map (λ (t : Target). (t.path, t.args)) c.in_ok-target.target ≡ result_ok r = c.in_ok-target.ensures ∙ ap (λ f. result_ok (normal_of (folder_path f c.args.text.now) merge)) c.as_slice-path.ensures in
    let none : scene.left ≡ 0 = c.if-scene-eq0.true in
    acts.no_level doc ps r none ∙ c.in_ok-served-in-Some.ensures part

pub returns-in_ok-child-in-Some : goal.returns-in_ok-child-in-Some
returns-in_ok-child-in-Some c = λ part ps says.
    let scene = c.args.scene.now in
    let doc = doc_seen scene c.args.self.now in
    let merge = scene.server.now.merge in
    let r = normal_of (in_folder doc c.args.text.now) merge in
    let there : option_map (λ (t : Target). (t.path, t.args)) c.in_ok-target.target ≡ result_ok r = c.in_ok-target.ensures ∙ ap (λ f. result_ok (normal_of (folder_path f c.args.text.now) merge)) c.as_slice-path.ensures in
    let some : 0 < scene.left = omega arith in
    acts.one_level doc ps r c.in-Some.target.path c.in-Some.target.args (ap (λ o. option_map (λ (t : Target). (t.path, t.args)) o) (sym c.in-Some.is) ∙ there) some ∙ c.in_ok-child-in-Some.ensures scene part ps says
