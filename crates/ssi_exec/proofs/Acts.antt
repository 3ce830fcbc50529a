-- What the acts of commands settle as.
use Rattle.std.proofs.Common.{◌≡◌, ℕ, zero, suc, ◌<◌, Bool, true, false, not, ◌&&◌, ◌||◌, is_some, cond, List, Option, Some, None, unwrap_or, Result, Ok, Err, codes, refl, sym, ◌∙◌, ap, arith}
use Rattle.std.specs.Result.{result_ok}
use Rattle.std.proofs.lemmas.Bool.{cond-true, cond-false}
use Rattle.acts.specs.Vars.{Vars}
use Rattle.acts.specs.Act.{Done, ◌>>=◌, settled, settled_then}
use Rattle.acts.proofs.ActLaws.{settles_in_turn}
use Rattle.uri_text.specs.declared.fault.UriFault.{UriFault}
use Rattle.uri_text.specs.Target.{normal_of}
use Rattle.ngx_variables.specs.Grammar.{lowercase}
use Rattle.ngx_variables.specs.declared.request.Main.{Main}
use Rattle.ngx_variables.specs.declared.request.Role.TheVariants.{Content}
use Rattle.ssi_text.specs.declared.part.Param.{Param}
use Rattle.ssi_text.specs.declared.part.Part.{Part}
use Rattle.request_meaning.specs.Serving.{World, Serving, Child, asks, inner}
use Rattle.request_meaning.specs.Documents.{Doc, Truth, filled, is_live, live_oops, named_value, oops, truth}
use Rattle.request_meaning.specs.Commands.{Word, are_params, by_word, captured, child_of, command, config_done, is_good_format, with_format, with_message, done, echo_done, echo_text, fit_encoded, in_folder, include_at, include_child, include_done, include_text, included, included_name, is_block, is_include, stub_of, kept, opened, opens, or_default, param, set_done, text_of, word_named}
use Rattle.request_meaning.specs.Commands.Word.{Block, EndBlock, Config, Echo, If, Elif, Else, EndIf, Include, Set}
use Rattle.ssi_values.specs.Known.{Known, known, named_text, filled_text, truth_of, NamedSettles, FilledSettles, TruthSettles}
use Rattle.ssi_exec.specs.declared.document.Document.{Document}
use Rattle.ssi_exec.specs.declared.document.Scene.{Scene}
use Rattle.ssi_exec.specs.declared.document.Served.{Served}
use Rattle.ssi_exec.specs.declared.document.Served.TheVariants as served
use Rattle.ssi_exec.specs.Includes.{go_together, is_there, stub_in}
use Rattle.ssi_exec.specs.Named.{includes, needs_live}
use Rattle.ssi_exec.specs.Scenes.{IsAt, doc_seen, known_at, plain_act, served_act, written}

-- an act that settles as a value, and what follows
then_does : {A B : Type 0} (vars : Vars) (m : Serving A) (k : A → Serving B) (a : A) → settled m vars ≡ (Done a, vars) → settled (m >>= k) vars ≡ settled (k a) vars
unfolding settled_then
then_does vars m k a e = settles_in_turn m k vars ∙ ap (λ s. settled_then s.0 s.1 k) e

pub written_settles : (vars : Vars) (text : Option (List ℕ)) (doc : Doc) → settled (written text doc) vars ≡ (written text doc, vars)
unfolding settled ◌>>=◌
written_settles vars None doc = refl
written_settles vars (Some text) doc = refl

pub served_settles : (vars : Vars) (part : Part) (s : Served) (doc : Doc) → settled (served_act part s doc) vars ≡ (served_act part s doc, vars)
unfolding settled ◌>>=◌
served_settles vars part served.Nothing doc = refl
served_settles vars part served.Same doc = refl
served_settles vars part (served.Text text) doc = refl
served_settles vars part (served.Includes child) doc = refl
served_settles vars part (served.Captures name child) doc = refl

-- acts that read no variable
pub by_writing : (vars : Vars) (act : Serving Doc) (text : Option (List ℕ)) (doc : Doc) → act ≡ written text doc → settled act vars ≡ (written text doc, vars)
by_writing vars act text doc e = ap (λ m. settled m vars) e ∙ written_settles vars text doc

pub by_serving : (vars : Vars) (act : Serving Doc) (part : Part) (s : Served) (doc : Doc) → act ≡ served_act part s doc → settled act vars ≡ (served_act part s doc, vars)
by_serving vars act part s doc e = ap (λ m. settled m vars) e ∙ served_settles vars part s doc

-- what is written, as what is done for a part
pub as_served : (vars : Vars) (act : Serving Doc) (part : Part) (s : Served) (text : Option (List ℕ)) (doc : Doc) → served_act part s doc ≡ written text doc → settled act vars ≡ (written text doc, vars) → settled act vars ≡ (served_act part s doc, vars)
as_served vars act part s text doc e h = h ∙ ap (λ m. (m, vars)) (sym e)

pub text_served : (vars : Vars) (act : Serving Doc) (part : Part) (s : Served) (text : Option (List ℕ)) (doc : Doc) → served_act part s doc ≡ written text doc → act ≡ written text doc → settled act vars ≡ (served_act part s doc, vars)
text_served vars act part s text doc e h = as_served vars act part s text doc e (by_writing vars act text doc h)

module _ (scene : Scene) (d : Document) (vars : Vars) (w : World) (h : IsAt scene w) where
  known_is : known w (doc_seen scene d) vars ≡ known_at scene d vars
  known_is = ap (λ (v : Option (List (List ℕ))). let k : Known = record (known_at scene d vars) { visible = v } in k) h.visible

  -- a condition is read, and a branch opened by it
  pub opened_by : TruthSettles → (text : List ℕ) (t : Truth) (out : Option (List ℕ)) (new : Document) → t ≡ truth_of (known_at scene d vars) text → opens (doc_seen scene d) t ≡ written out (doc_seen scene new) →
      settled (opened w (doc_seen scene d) text) vars ≡ (written out (doc_seen scene new), vars)
  unfolding opened
  opened_by settles text t out new e f =
      then_does vars (truth w (doc_seen scene d) text) (λ t. opens (doc_seen scene d) t) (truth_of (known w (doc_seen scene d) vars) text) (settles w (doc_seen scene d) vars text)
      ∙ (ap (λ k. settled (opens (doc_seen scene d) (truth_of k text)) vars) known_is
      ∙ (ap (λ t. settled (opens (doc_seen scene d) t) vars) (sym e)
      ∙ by_writing vars (opens (doc_seen scene d) t) out (doc_seen scene new) f))

  pub echo_by : NamedSettles → (ps : List Param) (value fitted out : Option (List ℕ)) → value ≡ named_text (known_at scene d vars) (text_of (codes "var") ps)
      → fitted ≡ fit_encoded (unwrap_or (param (codes "encoding") ps) (codes "entity")) (or_default ps value)
      → echo_text (doc_seen scene d) fitted ≡ written out (doc_seen scene d) →
      settled (echo_done w (doc_seen scene d) ps) vars ≡ (written out (doc_seen scene d), vars)
  unfolding echo_done
  echo_by settles ps value fitted out e f g =
      let name = text_of (codes "var") ps in
      let shown : Option (List ℕ) → Serving Doc = λ v. echo_text (doc_seen scene d) (fit_encoded (unwrap_or (param (codes "encoding") ps) (codes "entity")) (or_default ps v)) in
      then_does vars (named_value w (doc_seen scene d) name) shown (named_text (known w (doc_seen scene d) vars) name) (settles w (doc_seen scene d) vars name)
      ∙ (ap (λ k. settled (shown (named_text k name)) vars) known_is
      ∙ (ap (λ v. settled (shown v) vars) (sym e)
      ∙ (ap (λ t. settled (echo_text (doc_seen scene d) t) vars) (sym f)
      ∙ by_writing vars (echo_text (doc_seen scene d) fitted) out (doc_seen scene d) g)))

  pub set_by : FilledSettles → (ps : List Param) (value out : Option (List ℕ)) (new : Document) → value ≡ filled_text (known_at scene d vars) (text_of (codes "value") ps)
      → kept (doc_seen scene d) (text_of (codes "var") ps) value ≡ written out (doc_seen scene new) →
      settled (set_done w (doc_seen scene d) ps) vars ≡ (written out (doc_seen scene new), vars)
  unfolding set_done
  set_by settles ps value out new e f =
      let text = text_of (codes "value") ps in
      let keeps : Option (List ℕ) → Serving Doc = λ v. kept (doc_seen scene d) (text_of (codes "var") ps) v in
      then_does vars (filled w (doc_seen scene d) text) keeps (filled_text (known w (doc_seen scene d) vars) text) (settles w (doc_seen scene d) vars text)
      ∙ (ap (λ k. settled (keeps (filled_text k text)) vars) known_is
      ∙ (ap (λ v. settled (keeps v) vars) (sym e)
      ∙ by_writing vars (keeps value) out (doc_seen scene new) f))

  -- ---- include

  pub not_included : (ps : List Param) (part : Part) (s : Served) → is_include (doc_seen scene d) ps ≡ false → oops (doc_seen scene d) ≡ served_act part s (doc_seen scene d) →
      settled (include_done w (doc_seen scene d) ps) vars ≡ (served_act part s (doc_seen scene d), vars)
  unfolding include_done
  not_included ps part s e f =
      by_serving vars (include_done w (doc_seen scene d) ps) part s (doc_seen scene d)
      (cond-false (is_include (doc_seen scene d) ps) (filled w (doc_seen scene d) (included_name ps) >>= λ text. include_text w (doc_seen scene d) ps text) (oops (doc_seen scene d)) e ∙ f)

  text_included : (ps : List Param) (text : Option (List ℕ)) → is_include (doc_seen scene d) ps ≡ true → FilledSettles → text ≡ filled_text (known_at scene d vars) (included_name ps) →
      settled (include_done w (doc_seen scene d) ps) vars ≡ settled (include_text w (doc_seen scene d) ps text) vars
  unfolding include_done
  text_included ps text e settles f =
      let name = included_name ps in
      let puts : Option (List ℕ) → Serving Doc = λ text. include_text w (doc_seen scene d) ps text in
      ap (λ m. settled m vars) (cond-true (is_include (doc_seen scene d) ps) (filled w (doc_seen scene d) name >>= puts) (oops (doc_seen scene d)) e)
      ∙ (then_does vars (filled w (doc_seen scene d) name) puts (filled_text (known w (doc_seen scene d) vars) name) (settles w (doc_seen scene d) vars name)
      ∙ (ap (λ k. settled (puts (filled_text k name)) vars) known_is
      ∙ ap (λ t. settled (puts t) vars) (sym f)))

  pub unread_included : (ps : List Param) (part : Part) (s : Served) → is_include (doc_seen scene d) ps ≡ true → FilledSettles → None ≡ filled_text (known_at scene d vars) (included_name ps) → oops (doc_seen scene d) ≡ served_act part s (doc_seen scene d) →
      settled (include_done w (doc_seen scene d) ps) vars ≡ (served_act part s (doc_seen scene d), vars)
  unread_included ps part s e settles f g = text_included ps None e settles f ∙ by_serving vars (oops (doc_seen scene d)) part s (doc_seen scene d) g

  pub path_included : (ps : List Param) (part : Part) (s : Served) (text : List ℕ) → is_include (doc_seen scene d) ps ≡ true → FilledSettles → Some text ≡ filled_text (known_at scene d vars) (included_name ps)
      → include_at (doc_seen scene d) ps (normal_of (in_folder (doc_seen scene d) text) scene.server.now.merge) ≡ served_act part s (doc_seen scene d) →
      settled (include_done w (doc_seen scene d) ps) vars ≡ (served_act part s (doc_seen scene d), vars)
  path_included ps part s text e settles f g =
      text_included ps (Some text) e settles f
      ∙ (ap (λ merge. settled (include_at (doc_seen scene d) ps (normal_of (in_folder (doc_seen scene d) text) merge)) vars) h.merge
      ∙ by_serving vars (include_at (doc_seen scene d) ps (normal_of (in_folder (doc_seen scene d) text) scene.server.now.merge)) part s (doc_seen scene d) g)

-- what is echoed
abbrev pub echoed : Scene → Document → Option (List ℕ) → Serving Doc
echoed scene d text = echo_text (doc_seen scene d) text

-- ---- config

pub config_fails : (doc : Doc) (ps : List Param) (message format : Option (List ℕ)) → message ≡ param (codes "errmsg") ps → format ≡ param (codes "timefmt") ps
    → ((is_some message || is_some format) && is_good_format format) ≡ false → config_done doc ps ≡ oops doc
unfolding config_done
config_fails doc ps message format m f e =
    let good : Option (List ℕ) → Option (List ℕ) → Bool = λ a b. (is_some a || is_some b) && is_good_format b in
    cond-false (good (param (codes "errmsg") ps) (param (codes "timefmt") ps)) (Done (with_format (param (codes "timefmt") ps) (with_message (param (codes "errmsg") ps) doc))) (oops doc)
    (ap (λ a. good a (param (codes "timefmt") ps)) (sym m) ∙ (ap (λ b. good message b) (sym f) ∙ e))

pub config_sets : (doc : Doc) (ps : List Param) (message format : Option (List ℕ)) → message ≡ param (codes "errmsg") ps → format ≡ param (codes "timefmt") ps
    → ((is_some message || is_some format) && is_good_format format) ≡ true → (mid new : Doc) → mid ≡ with_message message doc → new ≡ with_format format mid → config_done doc ps ≡ Done new
unfolding config_done
config_sets doc ps message format m f e mid new a b =
    let good : Option (List ℕ) → Option (List ℕ) → Bool = λ a b. (is_some a || is_some b) && is_good_format b in
    cond-true (good (param (codes "errmsg") ps) (param (codes "timefmt") ps)) (Done (with_format (param (codes "timefmt") ps) (with_message (param (codes "errmsg") ps) doc))) (oops doc)
    (ap (λ a. good a (param (codes "timefmt") ps)) (sym m) ∙ (ap (λ b. good message b) (sym f) ∙ e))
    ∙ ap (λ d. Done d) (ap (λ f. with_format f (with_message (param (codes "errmsg") ps) doc)) (sym f)
    ∙ (ap (λ m. with_format format (with_message m doc)) (sym m) ∙ (ap (λ d. with_format format d) (sym a) ∙ sym b)))

-- ---- the parts of an include

block_there : (doc : Doc) (o : Option (List ℕ)) → is_there doc.blocks o ≡ is_block doc o
block_there doc None = refl
block_there doc (Some name) = refl

pub is_include_is : (doc : Doc) (ps : List Param) → (go_together ps && is_there doc.blocks (param (codes "stub") ps)) ≡ is_include doc ps
unfolding is_include
is_include_is doc ps = ap (λ b. go_together ps && b) (block_there doc (param (codes "stub") ps))

pub apart : (doc : Doc) (ps : List Param) → go_together ps ≡ false → is_include doc ps ≡ false
apart doc ps e = sym (is_include_is doc ps) ∙ ap (λ b. b && is_there doc.blocks (param (codes "stub") ps)) e

pub with_stub : (doc : Doc) (ps : List Param) (stub : Option (List ℕ)) (b : Bool) → stub ≡ param (codes "stub") ps → go_together ps ≡ true → is_there doc.blocks stub ≡ b → is_include doc ps ≡ b
with_stub doc ps stub b e good f =
    sym (is_include_is doc ps) ∙ (ap (λ g. g && is_there doc.blocks (param (codes "stub") ps)) good ∙ (ap (λ o. is_there doc.blocks o) (sym e) ∙ f))

pub stub_same : (doc : Doc) (o : Option (List ℕ)) → stub_in doc.blocks o ≡ stub_of doc o
stub_same doc None = refl
stub_same doc (Some name) = refl

-- a subrequest with these parts
pub child_by : (main : Main) (path args : List ℕ) (ssi own : Vars) (stub text : Option (List ℕ)) (waited waits : Bool) → ssi ≡ own → stub ≡ text → waited ≡ waits →
    ◌≡◌ {A = Child} (record { main = main; role = Content; path = path; args = args; ssi = ssi; stub = stub; waited = waited }) (record { main = main; role = Content; path = path; args = args; ssi = own; stub = text; waited = waits })
child_by main path args ssi own stub text waited waits e f g =
    let child : Vars → Option (List ℕ) → Bool → Child = λ s t w. record { main = main; role = Content; path = path; args = args; ssi = s; stub = t; waited = w } in
    ap (λ s. child s stub waited) e ∙ (ap (λ t. child own t waited) f ∙ ap (λ w. child own text w) g)

pub captures_by : (doc : Doc) (child made : Child) (o : Option (List ℕ)) (name lower : List ℕ) → Some name ≡ o → made ≡ child → lower ≡ lowercase name →
    include_child doc child o ≡ (asks made >>= λ reply. captured doc lower reply.body)
unfolding include_child
captures_by doc child made o name lower e f g =
    ap (λ o. include_child doc child o) (sym e)
    ∙ (ap (λ (ch : Child). asks ch >>= λ reply. captured doc (lowercase name) reply.body) (sym f)
    ∙ ap (λ l. asks made >>= λ reply. captured doc l reply.body) (sym g))

pub includes_by : (doc : Doc) (child made : Child) (o : Option (List ℕ)) → None ≡ o → made ≡ child → include_child doc child o ≡ (inner made >>= λ _. Done doc)
unfolding include_child
includes_by doc child made o e f =
    ap (λ o. include_child doc child o) (sym e) ∙ ap (λ (ch : Child). inner ch >>= λ _. Done doc) (sym f)

-- ---- what a text names

pub no_path : (doc : Doc) (ps : List Param) (r : Result (List ℕ × List ℕ) UriFault) → result_ok r ≡ None → include_at doc ps r ≡ oops doc
no_path doc ps (Ok t) e = cc
no_path doc ps (Err fault) e = refl

none_left : (doc : Doc) (ps : List Param) (path args : List ℕ) (left : ℕ) → left ≡ 0 → included doc ps left path args ≡ oops doc
unfolding included
none_left doc ps path args zero e = refl
none_left doc ps path args (suc left) e = absurd (omega arith)

some_left : (doc : Doc) (ps : List Param) (path args : List ℕ) (left : ℕ) → 0 < left → included doc ps left path args ≡ include_child doc (child_of doc ps path args) (param (codes "set") ps)
unfolding included
some_left doc ps path args zero h = absurd (omega arith)
some_left doc ps path args (suc left) h = refl

pub no_level : (doc : Doc) (ps : List Param) (r : Result (List ℕ × List ℕ) UriFault) → doc.left ≡ 0 → include_at doc ps r ≡ oops doc
no_level doc ps (Err fault) e = refl
no_level doc ps (Ok t) e = none_left doc ps t.0 t.1 doc.left e

pub one_level : (doc : Doc) (ps : List Param) (r : Result (List ℕ × List ℕ) UriFault) (path args : List ℕ) → Some (path, args) ≡ result_ok r → 0 < doc.left → include_at doc ps r ≡ include_child doc (child_of doc ps path args) (param (codes "set") ps)
one_level doc ps (Err fault) path args e h = cc
one_level doc ps (Ok t) path args e h =
    let same : (path, args) ≡ t = cc in
    some_left doc ps t.0 t.1 doc.left h
    ∙ ap (λ (t : List ℕ × List ℕ). include_child doc (child_of doc ps t.0 t.1) (param (codes "set") ps)) (sym same)

-- ---- commands

waits : (b : Bool) (act nothing : Serving Doc) → cond b act nothing ≡ cond (true && not b) nothing act
waits true act nothing = refl
waits false act nothing = refl

word_does : (w : World) (doc : Doc) (word : Word) (ps : List Param) → done w doc word ps ≡ cond (needs_live word && not (is_live doc.branch)) (Done doc) (plain_act w doc word ps)
unfolding done
word_does w doc Block ps = waits (is_live doc.branch) (plain_act w doc Block ps) (Done doc)
word_does w doc EndBlock ps = refl
word_does w doc Config ps = waits (is_live doc.branch) (plain_act w doc Config ps) (Done doc)
word_does w doc Echo ps = waits (is_live doc.branch) (plain_act w doc Echo ps) (Done doc)
word_does w doc If ps = refl
word_does w doc Elif ps = refl
word_does w doc Else ps = refl
word_does w doc EndIf ps = refl
word_does w doc Include ps = waits (is_live doc.branch) (plain_act w doc Include ps) (Done doc)
word_does w doc Set ps = waits (is_live doc.branch) (plain_act w doc Set ps) (Done doc)

pub does_nothing : (w : World) (doc : Doc) (word : Word) (ps : List Param) → (needs_live word && not (is_live doc.branch)) ≡ true → done w doc word ps ≡ Done doc
does_nothing w doc word ps e = word_does w doc word ps ∙ cond-true _ _ _ e

pub does_it : (w : World) (doc : Doc) (word : Word) (ps : List Param) → (needs_live word && not (is_live doc.branch)) ≡ false → done w doc word ps ≡ plain_act w doc word ps
does_it w doc word ps e = word_does w doc word ps ∙ cond-false _ _ _ e

pub does_include : (w : World) (doc : Doc) (word : Word) (ps : List Param) → includes word ≡ true → plain_act w doc word ps ≡ include_done w doc ps
does_include w doc Include ps e = refl
does_include w doc other ps e = cc

pub bad_params : (w : World) (doc : Doc) (name : List ℕ) (ps : List Param) (word : Word) → Some word ≡ word_named name → are_params doc.values.value_most word ps ≡ false → command w doc name ps ≡ live_oops doc
unfolding command
bad_params w doc name ps word e f = ap (λ o. by_word w doc ps o) (sym e) ∙ cond-false (are_params doc.values.value_most word ps) (done w doc word ps) (live_oops doc) f

pub good_params : (w : World) (doc : Doc) (name : List ℕ) (ps : List Param) (word : Word) → Some word ≡ word_named name → are_params doc.values.value_most word ps ≡ true → command w doc name ps ≡ done w doc word ps
unfolding command
good_params w doc name ps word e f = ap (λ o. by_word w doc ps o) (sym e) ∙ cond-true (are_params doc.values.value_most word ps) (done w doc word ps) (live_oops doc) f

pub no_word : (w : World) (doc : Doc) (name : List ℕ) (ps : List Param) → None ≡ word_named name → command w doc name ps ≡ live_oops doc
unfolding command
no_word w doc name ps e = ap (λ o. by_word w doc ps o) (sym e)
