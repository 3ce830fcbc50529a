-- Text of a document, byte by byte.
use Rattle.std.proofs.Common.{◌≡◌, ℕ, Bool, true, false, List, [], ◌∷◌, ◌++◌, map, Option, Some, None, refl, sym, ◌∙◌, ap, append-nil, append_assoc}
use Rattle.std.proofs.lemmas.Bool.{cond-true, cond-false}
use Rattle.acts.specs.Act.{Done, Write, ◌>>=◌}
use Rattle.ssi_text.specs.Marks.{Mark, Byte}
use Rattle.request_meaning.specs.Serving.{World, Serving}
use Rattle.request_meaning.specs.Documents.{Doc, is_live}
use Rattle.request_meaning.specs.Commands.{block_grown}
use Rattle.request_meaning.specs.Bodies.{body, mark, text_part}
use Rattle.ssi_exec.specs.Scenes.{bytes_then, each_written, written}

module _ (doc : Doc) (text : List ℕ) where
  in_live : doc.block ≡ None → is_live doc.branch ≡ true → text_part doc text doc.block ≡ written (Some text) doc
  unfolding text_part
  in_live e h = ap (λ b. text_part doc text b) e ∙ cond-true (is_live doc.branch) (written (Some text) doc) (Done doc) h

  in_dead : doc.block ≡ None → is_live doc.branch ≡ false → text_part doc text doc.block ≡ Done doc
  unfolding text_part
  in_dead e h = ap (λ b. text_part doc text b) e ∙ cond-false (is_live doc.branch) (written (Some text) doc) (Done doc) h

  in_block : (name bytes : List ℕ) → doc.block ≡ Some (name, bytes) → text_part doc text doc.block ≡ Done (block_grown doc name bytes text)
  unfolding text_part
  in_block name bytes e = ap (λ b. text_part doc text b) e

module _ (w : World) where
  live_text : (doc : Doc) (text : List ℕ) (rest : List Mark) → doc.block ≡ None → is_live doc.branch ≡ true → body w doc (map Byte text ++ rest) ≡ each_written text (body w doc rest)
  unfolding body mark each_written ◌>>=◌
  live_text doc [] rest e h = refl
  live_text doc (b ∷ text) rest e h =
      ap (λ (m : Serving Doc). m >>= λ d. body w d (map Byte text ++ rest)) (in_live doc (b ∷ []) e h)
      ∙ ap (λ (m : Serving (Unit {0})). Write (b ∷ []) m) (live_text doc text rest e h)

  dead_text : (doc : Doc) (text : List ℕ) (rest : List Mark) → doc.block ≡ None → is_live doc.branch ≡ false → body w doc (map Byte text ++ rest) ≡ body w doc rest
  unfolding body mark ◌>>=◌
  dead_text doc [] rest e h = refl
  dead_text doc (b ∷ text) rest e h =
      ap (λ (m : Serving Doc). m >>= λ d. body w d (map Byte text ++ rest)) (in_dead doc (b ∷ []) e h)
      ∙ dead_text doc text rest e h

  same_doc : (doc : Doc) (name bytes : List ℕ) → doc.block ≡ Some (name, bytes) → doc ≡ block_grown doc name bytes []
  same_doc doc name bytes e =
      ap (λ (b : Option (List ℕ × List ℕ)). let d : Doc = record doc { block = b } in d) (e ∙ ap (λ (t : List ℕ). Some (name, t)) (sym (append-nil bytes)))

  pub block_text : (doc : Doc) (name bytes text : List ℕ) (rest : List Mark) → doc.block ≡ Some (name, bytes) → body w doc (map Byte text ++ rest) ≡ body w (block_grown doc name bytes text) rest
  unfolding body mark ◌>>=◌
  block_text doc name bytes [] rest e = ap (λ d. body w d rest) (same_doc doc name bytes e)
  block_text doc name bytes (b ∷ text) rest e =
      ap (λ (m : Serving Doc). m >>= λ d. body w d (map Byte text ++ rest)) (in_block doc (b ∷ []) name bytes e)
      ∙ (block_text (block_grown doc name bytes (b ∷ [])) name (bytes ++ b ∷ []) text rest refl
      ∙ ap (λ (t : List ℕ). body w (record doc { block = Some (name, t) }) rest) (append_assoc bytes (b ∷ []) text))

  pub free_text : (doc : Doc) (text : List ℕ) (rest : List Mark) (live : Bool) → doc.block ≡ None → live ≡ is_live doc.branch → body w doc (map Byte text ++ rest) ≡ bytes_then live text (body w doc rest)
  free_text doc text rest true e h = live_text doc text rest e (sym h)
  free_text doc text rest false e h = dead_text doc text rest e (sym h)
