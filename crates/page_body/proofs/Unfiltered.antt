-- A file of which filters change nothing.
use Rattle.std.proofs.Common.{◌≡◌, ℕ, ◌<◌, Bool, true, false, eqb, List, [], ◌∷◌, ◌++◌, length, map, None, refl, sym, ap, ◌∙◌, subst, append-nil, arith}
use Rattle.std.proofs.lemmas.Bool.{cond-true}
use Rattle.std.proofs.lemmas.Bool.Decides.{nat_tests}
use Rattle.acts.specs.Vars.{Vars}
use Rattle.acts.specs.Act.{Done, Write, ◌>>=◌}
use Rattle.filter_api.specs.declared.facts.Facts.{Facts}
use Rattle.filter_api.specs.declared.stage.Stage.{Stage}
use Rattle.filter_api.specs.Members.{turned}
use Rattle.filter_api.specs.Chains.{stage_feeds, still}
use Rattle.addition_filter.specs.Machine.{is_added}
use Rattle.ssi_filter.specs.Machine.{is_split, ssi_machine}
use Rattle.ssi_text.specs.Marks.{Mark, Byte}
use Rattle.ssi_text.specs.Split.{split}
use Rattle.family_meaning.specs.request_meaning.Serving.{World, Serving, Answer}
use Rattle.family_meaning.specs.request_meaning.Documents.{Doc, begun, is_live}
use Rattle.family_meaning.specs.request_meaning.Bodies.{body, mark, text_part, filtered_marks, written}
use Rattle.family_meaning.specs.request_meaning.Laws.{shipped}
use Rattle.ssi_exec.specs.Scenes.{each_written}
use Rattle.page_body.specs.Stages.{added_stage, ahead, behind, shipped_machines, split_stage, undecided_marks}
use Rattle.page_body.specs.Pages.{filtered_rest}
use Rattle.page_body.specs.Reading.{IsWritten, Writing}
use Rattle.page_body.proofs.Bodies.{each_bound, some_is_written}
use Rattle.page_body.proofs.Chains.{block_splits, chain_begins, chain_ends, chain_goes_on, machines_are}

-- the stage of server side includes passes it
fed : (facts : Facts) (on : Bool) (text : List ℕ) → 0 < length text → (on ≡ true → split 0 text ≡ (map Byte text, [])) →
    stage_feeds (ssi_machine facts) (split_stage on []) (map Byte text) ≡ (split_stage on [], map Byte text)
fed facts true text some plain =
    block_splits facts true [] text refl some
    ∙ ap (λ (r : List Mark × List ℕ). (split_stage true r.1, r.0)) (plain refl)
fed facts false text some plain = refl

-- nothing is undecided after it
none_undecided : (on : Bool) → undecided_marks on [] ≡ []
none_undecided true = refl
none_undecided false = refl

-- so do all filters
turned_plain : (facts : Facts) (text : List ℕ) → 0 < length text → is_added facts ≡ false → (is_split facts ≡ true → split 0 text ≡ (map Byte text, [])) → turned (shipped_machines facts) (map Byte text) ≡ map Byte text
turned_plain facts text some unadded plain =
    let ms = shipped_machines facts in
    let on = is_split facts in
    let gs : Bool → List Stage = λ adds. split_stage on [] ∷ added_stage adds ∷ [] in
    let r = fed facts on text some plain in
    chain_begins facts (map Byte text)
    ∙ (ap (λ adds. ahead adds ++ still ms (gs adds) (map Byte text)) unadded
    ∙ (ap (λ bytes. still ms (gs false) (map Byte bytes)) (sym (append-nil text))
    ∙ (chain_goes_on facts on false [] [] (map Byte text) text [] (sym (ap (λ (x : Stage × List Mark). x.0) r)) (sym (ap (λ (x : Stage × List Mark). x.1) r))
    ∙ (ap (λ xs. map Byte text ++ xs) (chain_ends facts on false [] ∙ ap (λ xs. xs ++ behind false) (none_undecided on))
    ∙ append-nil (map Byte text)))))

-- a document that begins writes it byte by byte
in_live : (doc : Doc) (text : List ℕ) → doc.block ≡ None → is_live doc.branch ≡ true → text_part doc text doc.block ≡ Write text (Done doc)
unfolding text_part ◌>>=◌
in_live doc text whole live = ap (λ o. text_part doc text o) whole ∙ cond-true (is_live doc.branch) (Write text (Done doc)) (Done doc) live

written_each : (w : World) (doc : Doc) (text : List ℕ) → doc.block ≡ None → is_live doc.branch ≡ true → body w doc (map Byte text) ≡ each_written text (Done tt)
unfolding body mark each_written ◌>>=◌
written_each w doc [] whole live = refl
written_each w doc (b ∷ text) whole live =
    ap (λ (m : Serving Doc). m >>= λ d. body w d (map Byte text)) (in_live doc (b ∷ []) whole live)
    ∙ ap (λ (m : Serving (Unit {0})). Write (b ∷ []) m) (written_each w doc text whole live)

pub is_written : (w : World) (left : ℕ) (ssi : Vars) (answer : Answer) (facts : Facts) (text : List ℕ) → w.members ≡ shipped → eqb (length text) 0 ≡ false → is_added facts ≡ false
    → (is_split facts ≡ true → split 0 text ≡ (map Byte text, [])) → IsWritten text (filtered_rest w left ssi answer facts text) answer
unfolding filtered_rest written begun ◌>>=◌
is_written w left ssi answer facts text members full unadded plain =
    let doc = begun answer.main answer.request answer.values left ssi in
    let some : 0 < length text = grind (arith, nat_tests, full) in
    let rest : Serving Answer = body w doc (filtered_marks w facts text) >>= λ _. Done answer in
    let is : rest ≡ each_written text (Done answer) =
    ap (λ ms. body w doc (turned ms (map Byte text)) >>= λ _. Done answer) (machines_are w facts members)
    ∙ (ap (λ xs. body w doc xs >>= λ _. Done answer) (turned_plain facts text some unadded plain)
    ∙ (ap (λ m. m >>= λ _. Done answer) (written_each w doc text refl refl)
    ∙ each_bound text (Done tt) (λ _. Done answer))) in
    record {
      rest = rest;
      begins = refl;
      writes = subst (λ m. Writing Answer text m (Done answer)) (sym is) (some_is_written true text (Done answer) refl full);
    }
