-- The blocks of a page's file, by what is still to be done.
use Rattle.std.proofs.Common.{◌≡◌, ℕ, suc, Bool, true, false, ◌&&◌, Some, subst, List, [], ◌∷◌, ◌++◌, map, length, eqb, not, reverse, refl, sym, ap, ◌∙◌, append-nil, arith}
use Rattle.std.proofs.lemmas.Bool.Decides.{nat_tests}
use Rattle.std.proofs.lemmas.List.{reverse-reverse}
use Rattle.acts.specs.Vars.{Vars}
use Rattle.acts.specs.Act.{Done, Write, ◌>>=◌}
use Rattle.filter_api.specs.declared.facts.Facts.{Facts}
use Rattle.filter_api.specs.declared.stage.Stage.{Stage}
use Rattle.filter_api.specs.Members.{Machine, turned as turned_by}
use Rattle.filter_api.specs.Chains.{stage_feeds, still}
use Rattle.addition_filter.specs.Machine.{is_added}
use Rattle.ssi_filter.specs.Machine.{is_split, ssi_machine}
use Rattle.ssi_text.specs.declared.part.Part.{Part}
use Rattle.ssi_text.specs.Marks.{Mark, Byte, marks, part_marks}
use Rattle.ngx_variables.specs.declared.request.Main.{Main}
use Rattle.family_meaning.specs.request_meaning.Serving.{World, Serving, Answer}
use Rattle.family_meaning.specs.request_meaning.Documents.{Doc, begun}
use Rattle.family_meaning.specs.request_meaning.Bodies.{body, machines, written}
use Rattle.family_meaning.specs.request_meaning.Laws.{shipped}
use Rattle.family_meaning.specs.Suspended.{document_rest}
use Rattle.page_body.specs.Stages.{added_stage, ahead, shipped_machines, split_stage}
use Rattle.page_body.specs.declared.doing.Doing.{Doing}
use Rattle.page_body.specs.Pages.{Does, captured_then, filtered_rest, marks_rest}
use Rattle.page_body.proofs.Bodies.{taken_first}
use Rattle.page_body.proofs.Chains.{machines_are, chain_begins, chain_goes_on}

module _ (w : World) (answer : Answer) (doc : Doc) where
  by_marks : (ms : List Machine) (gs hs : List Stage) (ps qs : List Mark) (bytes more : List ℕ) → ps ++ still ms gs (map Byte bytes) ≡ qs ++ still ms hs (map Byte more) →
      document_rest w answer doc ps ms gs bytes ≡ document_rest w answer doc qs ms hs more
  unfolding document_rest
  by_marks ms gs hs ps qs bytes more e = ap (λ xs. body w doc xs >>= λ _. Done answer) e

  -- the same over the machines of a server
  by_shipped : (facts : Facts) (gs hs : List Stage) (ps qs : List Mark) (bytes more : List ℕ) → w.members ≡ shipped
      → ps ++ still (shipped_machines facts) gs (map Byte bytes) ≡ qs ++ still (shipped_machines facts) hs (map Byte more) →
      document_rest w answer doc ps (machines w facts) gs bytes ≡ document_rest w answer doc qs (machines w facts) hs more
  by_shipped facts gs hs ps qs bytes more e h =
      ap (λ ms. document_rest w answer doc ps ms gs bytes) (machines_are w facts e)
      ∙ (by_marks (shipped_machines facts) gs hs ps qs bytes more h
      ∙ ap (λ ms. document_rest w answer doc qs ms hs more) (sym (machines_are w facts e)))

  -- a block comes, and nothing waits
  pub block_comes : (facts : Facts) (on adds : Bool) (undecided undecided' : List ℕ) (was mid now : List Part) (block more : List ℕ) → w.members ≡ shipped → was ≡ [] → now ≡ reverse mid
      → split_stage on undecided' ≡ (stage_feeds (ssi_machine facts) (split_stage on undecided) (map Byte block)).0
      → marks mid ≡ marks was ++ (stage_feeds (ssi_machine facts) (split_stage on undecided) (map Byte block)).1 →
      document_rest w answer doc (marks (reverse was)) (machines w facts) (split_stage on undecided ∷ added_stage adds ∷ []) (block ++ more)
      ≡ document_rest w answer doc (marks (reverse now)) (machines w facts) (split_stage on undecided' ∷ added_stage adds ∷ []) more
  block_comes facts on adds undecided undecided' was mid now block more members none turned eh eo =
      let ms = shipped_machines facts in
      let out = (stage_feeds (ssi_machine facts) (split_stage on undecided) (map Byte block)).1 in
      let hs : List Stage = split_stage on undecided' ∷ added_stage adds ∷ [] in
      let parts : marks (reverse now) ≡ out =
      ap marks (ap reverse turned ∙ reverse-reverse mid) ∙ (eo ∙ ap (λ ps. marks ps ++ out) none) in
      by_shipped facts (split_stage on undecided ∷ added_stage adds ∷ []) hs (marks (reverse was)) (marks (reverse now)) (block ++ more) more members
      (ap (λ ps. marks (reverse ps) ++ still ms (split_stage on undecided ∷ added_stage adds ∷ []) (map Byte (block ++ more))) none
      ∙ (chain_goes_on facts on adds undecided undecided' out block more eh refl
      ∙ ap (λ xs. xs ++ still ms hs (map Byte more)) (sym parts)))

  -- the file ends, and nothing waits
  pub file_ends : (facts : Facts) (on adds : Bool) (undecided undecided' : List ℕ) (was mid now : List Part) → w.members ≡ shipped → was ≡ [] → now ≡ reverse mid
      → marks mid ≡ marks was ++ still (shipped_machines facts) (split_stage on undecided ∷ added_stage adds ∷ []) [] →
      document_rest w answer doc (marks (reverse was)) (machines w facts) (split_stage on undecided ∷ added_stage adds ∷ []) []
      ≡ document_rest w answer doc (marks (reverse now)) (machines w facts) (split_stage false undecided' ∷ added_stage false ∷ []) []
  file_ends facts on adds undecided undecided' was mid now members none turned eo =
      let ms = shipped_machines facts in
      let out = still ms (split_stage on undecided ∷ added_stage adds ∷ []) [] in
      let parts : marks (reverse now) ≡ out =
      ap marks (ap reverse turned ∙ reverse-reverse mid) ∙ (eo ∙ ap (λ ps. marks ps ++ out) none) in
      by_shipped facts (split_stage on undecided ∷ added_stage adds ∷ []) (split_stage false undecided' ∷ added_stage false ∷ []) (marks (reverse was)) (marks (reverse now)) [] [] members
      (ap (λ ps. marks (reverse ps) ++ out) none ∙ (sym parts ∙ sym (append-nil (marks (reverse now)))))

  -- a page begins
  pub page_begins : (facts : Facts) (left : ℕ) (ssi : Vars) (now : List Part) (bytes : List ℕ) → w.members ≡ shipped → begun answer.main answer.request answer.values left ssi ≡ doc → marks (reverse now) ≡ ahead (is_added facts) →
      filtered_rest w left ssi answer facts bytes
      ≡ Write [] (document_rest w answer doc (marks (reverse now)) (machines w facts) (split_stage (is_split facts) [] ∷ added_stage (is_added facts) ∷ []) bytes)
  unfolding filtered_rest written document_rest ◌>>=◌
  page_begins facts left ssi now bytes members same before =
      let gs : List Stage = split_stage (is_split facts) [] ∷ added_stage (is_added facts) ∷ [] in
      let xs = map Byte bytes in
      ap (λ d. Write [] (body w d (turned_by (machines w facts) xs) >>= λ _. Done answer)) same
      ∙ (ap (λ ms. Write [] (body w doc (turned_by ms xs) >>= λ _. Done answer)) (machines_are w facts members)
      ∙ (ap (λ ys. Write [] (body w doc ys >>= λ _. Done answer)) (chain_begins facts xs)
      ∙ (ap (λ ps. Write [] (body w doc (ps ++ still (shipped_machines facts) gs xs) >>= λ _. Done answer)) (sym before)
      ∙ ap (λ ms. Write [] (body w doc (marks (reverse now) ++ still ms gs xs) >>= λ _. Done answer)) (sym (machines_are w facts members)))))

  over_by : (facts : Facts) (undecided : List ℕ) (now : List Part) → w.members ≡ shipped → now ≡ [] →
      document_rest w answer doc (marks (reverse now)) (machines w facts) (split_stage false undecided ∷ added_stage false ∷ []) [] ≡ Done answer
  unfolding document_rest body ◌>>=◌
  over_by facts undecided now members none =
      let gs : List Stage = split_stage false undecided ∷ added_stage false ∷ [] in
      ap (λ ms. document_rest w answer doc (marks (reverse now)) ms gs []) (machines_are w facts members)
      ∙ ap (λ ps. document_rest w answer doc (marks (reverse ps)) (shipped_machines facts) gs []) none

  -- a page that is over
  pub page_is_over : (facts : Facts) (undecided : List ℕ) (now : List Part) (finished : Bool) → w.members ≡ shipped → now ≡ [] → Some finished ≡ Some true →
      document_rest w answer doc (marks (reverse now)) (machines w facts) (split_stage (not finished && is_split facts) undecided ∷ added_stage (not finished && is_added facts) ∷ []) [] ≡ Done answer
  page_is_over facts undecided now true members none e = over_by facts undecided now members none
  page_is_over facts undecided now false members none e = cc

  -- a part is taken up
  pub part_does : (main : Main) (vars : Vars) (doing : Doing) (new : Doc) (ms : List Machine) (gs : List Stage) (items rest : List Part) (p : Part) (bytes : List ℕ) → items ≡ rest ++ p ∷ []
      → ((more : List Mark) → Does main vars doing (marks_rest w answer doc (part_marks p ++ more)) (marks_rest w answer new more) (captured_then new (λ d. marks_rest w answer d more))) →
      Does main vars doing (document_rest w answer doc (marks (reverse items)) ms gs bytes) (document_rest w answer new (marks (reverse rest)) ms gs bytes)
      (captured_then new (λ d. document_rest w answer d (marks (reverse rest)) ms gs bytes))
  unfolding document_rest
  part_does main vars doing new ms gs items rest p bytes e h =
      let ahead = still ms gs (map Byte bytes) in
      let more = marks (reverse rest) ++ ahead in
      subst (λ xs. Does main vars doing (marks_rest w answer doc xs) (marks_rest w answer new more) (captured_then new (λ d. marks_rest w answer d more)))
      (sym (taken_first items rest p ahead e)) (h more)

  -- or there is none
  pub idle_does : (main : Main) (vars : Vars) (doing : Doing) (ms : List Machine) (gs : List Stage) (items rest : List Part) (bytes : List ℕ) → items ≡ rest ++ []
      → ((act : Serving Answer) (captures : List ℕ → List ℕ → Serving Answer) → Does main vars doing act act captures) →
      Does main vars doing (document_rest w answer doc (marks (reverse items)) ms gs bytes) (document_rest w answer doc (marks (reverse rest)) ms gs bytes)
      (captured_then doc (λ d. document_rest w answer d (marks (reverse rest)) ms gs bytes))
  idle_does main vars doing ms gs items rest bytes e h =
      subst (λ ps. Does main vars doing (document_rest w answer doc (marks (reverse items)) ms gs bytes) (document_rest w answer doc (marks (reverse ps)) ms gs bytes)
      (captured_then doc (λ d. document_rest w answer d (marks (reverse ps)) ms gs bytes)))
      (e ∙ append-nil rest) (h (document_rest w answer doc (marks (reverse items)) ms gs bytes) (captured_then doc (λ d. document_rest w answer d (marks (reverse items)) ms gs bytes)))

some_wait : (n : ℕ) → not (eqb (suc n) 0) ≡ false → ⊥
some_wait n e = grind (arith, nat_tests)

-- nothing waits
pub none_waits : (items : List Part) → not (eqb (length items) 0) ≡ false → items ≡ []
none_waits [] e = refl
none_waits (p ∷ items) e = absurd (some_wait (length items) e)

pub none_by : (items : List Part) → length items ≡ 0 → items ≡ []
none_by [] e = refl
none_by (p ∷ items) e = absurd (omega arith)
