-- The acts of a document's parts begin with reads alone.
use Rattle.std.proofs.Common.{◌≡◌, ℕ, zero, suc, ◌+◌, nat_lt, ◌&&◌, ◌||◌, Bool, true, false, List, [], ◌∷◌, codes, length, Option, None, Some, is_some, Result, Ok, Err, refl, sym, ◌∙◌}
use Rattle.std.specs.List.{list_any, before_first, after_first, ends_with}
use Rattle.std.specs.Prelude.{nat_eq, bytes_eq}
use Rattle.acts.specs.Vars.{look, set}
use Rattle.acts.specs.Act.{Done, Get}
use Rattle.ngx_variables.specs.declared.variable.Variable.TheVariants.{DocumentRoot, RequestFilename}
use Rattle.ngx_variables.specs.declared.request.Main.{Main}
use Rattle.ngx_variables.specs.declared.request.FileRoot.{FileRoot}
use Rattle.ngx_variables.specs.declared.request.Request.{Request}
use Rattle.ngx_variables.specs.declared.value.Piece.{Piece}
use Rattle.ngx_variables.specs.declared.value.Piece.TheVariants.{Literal, Group, Builtin, Argument, Field, Cookie, Set as SetPiece}
use Rattle.ngx_variables.specs.Acts.{inner_piece, inner_pieces, file_paths, piece}
use Rattle.ngx_variables.specs.Paths.{text_of as place_text}
use Rattle.ngx_variables.specs.Grammar.{Token, lowercase, piece_named}
use Rattle.ngx_variables.specs.Grammar.Token.{Bytes, Name}
use Rattle.ngx_variables.specs.Pairs.{trimmed}
use Rattle.ssi_text.specs.declared.part.Param.{Param}
use Rattle.ssi_text.specs.declared.part.Part.{Part}
use Rattle.ssi_text.specs.declared.part.Part.TheVariants as parts
use Rattle.uri_text.specs.declared.fault.UriFault.{UriFault}
use Rattle.uri_text.specs.Target.{normal_of}
use Rattle.family_meaning.specs.request_meaning.Serving.{World, Serving, Child, Reply}
use Rattle.family_meaning.specs.request_meaning.Documents.{Doc, Branch, Truth, is_live, oops, live_oops, is_visible, dated, site_value, own_or, named_value, token_text, tokens_text, read_text, tokens, filled, is_pattern, is_equals, left_side, compared, truth}
use Rattle.family_meaning.specs.request_meaning.Documents.Branch.{NoIf, InIf}
use Rattle.family_meaning.specs.request_meaning.Documents.Truth.{Is, Unread, Pattern}
use Rattle.family_meaning.specs.request_meaning.Commands.{Word, text_of, param, opens, opened, if_done, elif_done, else_done, endif_done, others_size, block_closed, is_good_format, with_format, with_message, config_done, echo_text, echo_done, kept, set_done, is_include, child_of, captured, include_child, included, include_at, include_text, included_name, in_folder, include_done, if_live, done, are_params, by_word, word_named, command, block_command}
use Rattle.family_meaning.specs.request_meaning.Commands.Word.{Block, EndBlock, Config, Echo, If, Elif, Else, EndIf, Include, Set}
use Rattle.family_meaning.specs.request_meaning.Bodies.{text_part, bad_part, command_part, added, added_at, added_part, part}
use Rattle.page_body.proofs.Acts.{IsAlone, alone_done, alone_get, alone_write, alone_asks, alone_inner, alone_bind, choice}

-- Of the subrequests that are asked for this is so, where this many levels are left.
module _ (w : World) (P : Type 0) (levels : ℕ) (may : (n : ℕ) → levels ≡ suc n → P) where
  -- the levels that are left
  abbrev Kept : Doc → Type 0
  Kept doc = doc.left ≡ levels

  alone_oops : (doc : Doc) → IsAlone P (oops doc)
  unfolding oops
  alone_oops doc = alone_bind alone_write (λ a. alone_done)

  alone_live_oops : (doc : Doc) → IsAlone P (live_oops doc)
  unfolding live_oops
  alone_live_oops doc = choice (is_live doc.branch) (oops doc) (Done doc) (alone_oops doc) alone_done

  -- ---- values

  alone_inner_piece : (main : Main) (request : Request) (p : Piece) → IsAlone P (inner_piece {C = Child} {R = Reply} main request p)
  unfolding inner_piece
  alone_inner_piece main request (SetPiece name) = alone_get (λ v. alone_done)
  alone_inner_piece main request other = alone_done

  alone_inner_pieces : (main : Main) (request : Request) (ps : List Piece) → IsAlone P (inner_pieces {C = Child} {R = Reply} main request ps)
  unfolding inner_pieces
  alone_inner_pieces main request [] = alone_done
  alone_inner_pieces main request (p ∷ ps) = alone_bind (alone_inner_piece main request p) (λ a. alone_bind (alone_inner_pieces main request ps) (λ b. alone_done))

  alone_file_paths : (main : Main) (request : Request) (place : Option FileRoot) → IsAlone P (file_paths {C = Child} {R = Reply} main request place)
  unfolding file_paths
  alone_file_paths main request None = alone_done
  alone_file_paths main request (Some place) = alone_bind (alone_inner_pieces main request (place_text place)) (λ a. alone_done)

  alone_piece : (main : Main) (request : Request) (p : Piece) → IsAlone P (piece {C = Child} {R = Reply} main request p)
  unfolding piece
  alone_piece main request (Builtin DocumentRoot) = alone_bind (alone_file_paths main request request.place) (λ a. alone_done)
  alone_piece main request (Builtin RequestFilename) = alone_bind (alone_file_paths main request request.place) (λ a. alone_done)
  alone_piece main request other = alone_inner_piece main request other

  alone_site_value : (doc : Doc) (p : Piece) → IsAlone P (site_value w doc p)
  unfolding site_value
  alone_site_value doc (SetPiece name) = choice (is_visible w.server.visible name) (Get name (λ v. Done v)) (Done None) (alone_get (λ v. alone_done)) alone_done
  alone_site_value doc (Literal bytes) = alone_bind (alone_piece (dated doc) doc.request (Literal bytes)) (λ a. alone_done)
  alone_site_value doc (Group number) = alone_bind (alone_piece (dated doc) doc.request (Group number)) (λ a. alone_done)
  alone_site_value doc (Builtin variable) = alone_bind (alone_piece (dated doc) doc.request (Builtin variable)) (λ a. alone_done)
  alone_site_value doc (Argument name) = alone_bind (alone_piece (dated doc) doc.request (Argument name)) (λ a. alone_done)
  alone_site_value doc (Field name) = alone_bind (alone_piece (dated doc) doc.request (Field name)) (λ a. alone_done)
  alone_site_value doc (Cookie name) = alone_bind (alone_piece (dated doc) doc.request (Cookie name)) (λ a. alone_done)

  alone_own_or : (o : Option (List ℕ)) (other : Serving (Option (List ℕ))) → IsAlone P other → IsAlone P (own_or o other)
  alone_own_or None other h = h
  alone_own_or (Some value) other h = alone_done

  alone_named_value : (doc : Doc) (name : List ℕ) → IsAlone P (named_value w doc name)
  unfolding named_value
  alone_named_value doc name = alone_own_or (look doc.ssi (lowercase name)) (site_value w doc (piece_named (lowercase name))) (alone_site_value doc (piece_named (lowercase name)))

  alone_token_text : (doc : Doc) (t : Token) → IsAlone P (token_text w doc t)
  unfolding token_text
  alone_token_text doc (Bytes bytes) = alone_done
  alone_token_text doc (Name name) = alone_bind (alone_named_value doc name) (λ a. alone_done)

  alone_tokens_text : (doc : Doc) (ts : List Token) → IsAlone P (tokens_text w doc ts)
  unfolding tokens_text
  alone_tokens_text doc [] = alone_done
  alone_tokens_text doc (t ∷ ts) = alone_bind (alone_token_text doc t) (λ a. alone_bind (alone_tokens_text doc ts) (λ b. alone_done))

  alone_read_text : (doc : Doc) (ts : Option (List Token)) → IsAlone P (read_text w doc ts)
  unfolding read_text
  alone_read_text doc None = alone_done
  alone_read_text doc (Some ts) = alone_bind (alone_tokens_text doc ts) (λ a. alone_done)

  alone_filled : (doc : Doc) (text : List ℕ) → IsAlone P (filled w doc text)
  unfolding filled
  alone_filled doc text = alone_read_text doc (tokens 0 text)

  alone_compared : (doc : Doc) (unequal : Bool) (left right : List ℕ) → IsAlone P (compared w doc unequal left right)
  unfolding compared
  alone_compared doc unequal left right =
      choice (is_pattern right) _ _ alone_done (alone_bind (alone_filled doc left) (λ a. alone_bind (alone_filled doc right) (λ b. alone_done)))

  alone_truth : (doc : Doc) (text : List ℕ) → IsAlone P (truth w doc text)
  unfolding truth
  alone_truth doc text =
      let left = before_first is_equals text in
      choice (list_any is_equals text) _ _
      (alone_compared doc (ends_with nat_eq left (33 ∷ [])) (trimmed (left_side left)) (trimmed (after_first is_equals text)))
      (alone_bind (alone_filled doc (trimmed text)) (λ a. alone_done))

  -- ---- commands

  alone_opens : (doc : Doc) (t : Truth) → IsAlone P (opens doc t)
  unfolding opens
  alone_opens doc (Is holds) = alone_done
  alone_opens doc Pattern = alone_bind alone_write (λ a. alone_done)
  alone_opens doc Unread = alone_oops doc

  alone_opened : (doc : Doc) (text : List ℕ) → IsAlone P (opened w doc text)
  unfolding opened
  alone_opened doc text = alone_bind (alone_truth doc text) (λ t. alone_opens doc t)

  alone_if_done : (doc : Doc) (ps : List Param) (b : Branch) → IsAlone P (if_done w doc ps b)
  unfolding if_done
  alone_if_done doc ps NoIf = alone_opened doc (text_of (codes "expr") ps)
  alone_if_done doc ps (InIf live taken last) = alone_live_oops doc

  alone_elif_done : (doc : Doc) (ps : List Param) (b : Branch) → IsAlone P (elif_done w doc ps b)
  unfolding elif_done
  alone_elif_done doc ps NoIf = alone_oops doc
  alone_elif_done doc ps (InIf live taken true) = alone_live_oops doc
  alone_elif_done doc ps (InIf live true false) = alone_done
  alone_elif_done doc ps (InIf live false false) = alone_opened doc (text_of (codes "expr") ps)

  alone_else_done : (doc : Doc) (b : Branch) → IsAlone P (else_done doc b)
  unfolding else_done
  alone_else_done doc NoIf = alone_oops doc
  alone_else_done doc (InIf live taken true) = alone_live_oops doc
  alone_else_done doc (InIf live taken false) = alone_done

  alone_endif_done : (doc : Doc) (b : Branch) → IsAlone P (endif_done doc b)
  unfolding endif_done
  alone_endif_done doc NoIf = alone_oops doc
  alone_endif_done doc (InIf live taken last) = alone_done

  alone_block_closed : (doc : Doc) (name bytes : List ℕ) → IsAlone P (block_closed doc name bytes)
  unfolding block_closed
  alone_block_closed doc name bytes =
      choice (nat_lt 32768 (others_size name doc.blocks + length bytes)) (oops (record doc { block = None })) (Done (record doc { block = None; blocks = set name bytes doc.blocks }))
      (alone_oops (record doc { block = None })) alone_done

  alone_config_done : (doc : Doc) (ps : List Param) → IsAlone P (config_done doc ps)
  unfolding config_done
  alone_config_done doc ps =
      let message = param (codes "errmsg") ps in
      let format = param (codes "timefmt") ps in
      choice ((is_some message || is_some format) && is_good_format format) (Done (with_format format (with_message message doc))) (oops doc) alone_done (alone_oops doc)

  alone_echo_text : (doc : Doc) (text : Option (List ℕ)) → IsAlone P (echo_text doc text)
  alone_echo_text doc None = alone_oops doc
  alone_echo_text doc (Some text) = alone_bind alone_write (λ a. alone_done)

  alone_echo_done : (doc : Doc) (ps : List Param) → IsAlone P (echo_done w doc ps)
  unfolding echo_done
  alone_echo_done doc ps = alone_bind (alone_named_value doc (text_of (codes "var") ps)) (λ value. alone_echo_text doc _)

  alone_kept : (doc : Doc) (name : List ℕ) (text : Option (List ℕ)) → IsAlone P (kept doc name text)
  alone_kept doc name None = alone_oops doc
  alone_kept doc name (Some text) = alone_done

  alone_set_done : (doc : Doc) (ps : List Param) → IsAlone P (set_done w doc ps)
  unfolding set_done
  alone_set_done doc ps = alone_bind (alone_filled doc (text_of (codes "value") ps)) (λ text. alone_kept doc (text_of (codes "var") ps) text)

  -- ---- include

  alone_include_child : (doc : Doc) (c : Child) (to : Option (List ℕ)) → P → IsAlone P (include_child doc c to)
  unfolding include_child
  alone_include_child doc c None p = alone_bind (alone_inner p) (λ a. alone_done)
  alone_include_child doc c (Some name) p = alone_asks c (λ reply. captured doc (lowercase name) reply.body) p

  alone_included : (doc : Doc) (ps : List Param) (n : ℕ) (path args : List ℕ) → doc.left ≡ n → Kept doc → IsAlone P (included doc ps n path args)
  unfolding included
  alone_included doc ps zero path args e h = alone_oops doc
  alone_included doc ps (suc n) path args e h = alone_include_child doc (child_of doc ps path args) (param (codes "set") ps) (may n (sym h ∙ e))

  alone_include_at : (doc : Doc) (ps : List Param) (t : Result (List ℕ × List ℕ) UriFault) → Kept doc → IsAlone P (include_at doc ps t)
  alone_include_at doc ps (Ok t) h = alone_included doc ps doc.left t.0 t.1 refl h
  alone_include_at doc ps (Err fault) h = alone_oops doc

  alone_include_text : (doc : Doc) (ps : List Param) (text : Option (List ℕ)) → Kept doc → IsAlone P (include_text w doc ps text)
  alone_include_text doc ps None h = alone_oops doc
  alone_include_text doc ps (Some text) h = alone_include_at doc ps (normal_of (in_folder doc text) w.server.merge) h

  alone_include_done : (doc : Doc) (ps : List Param) → Kept doc → IsAlone P (include_done w doc ps)
  unfolding include_done
  alone_include_done doc ps h =
      choice (is_include doc ps) _ (oops doc) (alone_bind (alone_filled doc (included_name ps)) (λ text. alone_include_text doc ps text h)) (alone_oops doc)

  -- ---- parts

  alone_if_live : (doc : Doc) (m : Serving Doc) → IsAlone P m → IsAlone P (if_live doc m)
  alone_if_live doc m g = choice (is_live doc.branch) m (Done doc) g alone_done

  alone_word : (doc : Doc) (word : Word) (ps : List Param) → Kept doc → IsAlone P (done w doc word ps)
  unfolding done
  alone_word doc Block ps h = alone_if_live doc _ alone_done
  alone_word doc EndBlock ps h = alone_live_oops doc
  alone_word doc Config ps h = alone_if_live doc (config_done doc ps) (alone_config_done doc ps)
  alone_word doc Echo ps h = alone_if_live doc (echo_done w doc ps) (alone_echo_done doc ps)
  alone_word doc If ps h = alone_if_done doc ps doc.branch
  alone_word doc Elif ps h = alone_elif_done doc ps doc.branch
  alone_word doc Else ps h = alone_else_done doc doc.branch
  alone_word doc EndIf ps h = alone_endif_done doc doc.branch
  alone_word doc Include ps h = alone_if_live doc (include_done w doc ps) (alone_include_done doc ps h)
  alone_word doc Set ps h = alone_if_live doc (set_done w doc ps) (alone_set_done doc ps)

  alone_by_word : (doc : Doc) (ps : List Param) (word : Option Word) → Kept doc → IsAlone P (by_word w doc ps word)
  alone_by_word doc ps None h = alone_live_oops doc
  alone_by_word doc ps (Some word) h = choice (are_params doc.values.value_most word ps) (done w doc word ps) (live_oops doc) (alone_word doc word ps h) (alone_live_oops doc)

  alone_command : (doc : Doc) (name : List ℕ) (ps : List Param) → Kept doc → IsAlone P (command w doc name ps)
  unfolding command
  alone_command doc name ps h = alone_by_word doc ps (word_named name) h

  alone_block_command : (doc : Doc) (block bytes name : List ℕ) (ps : List Param) → IsAlone P (block_command doc block bytes name ps)
  unfolding block_command
  alone_block_command doc block bytes name [] = choice (bytes_eq name (codes "endblock")) (block_closed doc block bytes) _ (alone_block_closed doc block bytes) alone_done
  alone_block_command doc block bytes name (p ∷ ps) = alone_done

  alone_text_part : (doc : Doc) (text : List ℕ) (block : Option (List ℕ × List ℕ)) → IsAlone P (text_part doc text block)
  unfolding text_part
  alone_text_part doc text (Some (name, bytes)) = alone_done
  alone_text_part doc text None = choice (is_live doc.branch) _ (Done doc) (alone_bind alone_write (λ a. alone_done)) alone_done

  alone_bad_part : (doc : Doc) (block : Option (List ℕ × List ℕ)) → IsAlone P (bad_part doc block)
  unfolding bad_part
  alone_bad_part doc (Some (name, bytes)) = alone_done
  alone_bad_part doc None = alone_live_oops doc

  alone_command_part : (doc : Doc) (name : List ℕ) (ps : List Param) (block : Option (List ℕ × List ℕ)) → Kept doc → IsAlone P (command_part w doc name ps block)
  unfolding command_part
  alone_command_part doc name ps (Some (block, bytes)) h = alone_block_command doc block bytes name ps
  alone_command_part doc name ps None h = alone_command doc name ps h

  alone_added_at : (doc : Doc) (n : ℕ) (c : Child) → doc.left ≡ n → Kept doc → IsAlone P (added_at doc n c)
  unfolding added_at
  alone_added_at doc zero c e h = alone_oops doc
  alone_added_at doc (suc n) c e h = alone_bind (alone_inner (may n (sym h ∙ e))) (λ a. alone_done)

  alone_added_part : (doc : Doc) (path : Option (List ℕ)) → Kept doc → IsAlone P (added_part doc path)
  unfolding added_part
  alone_added_part doc None h = alone_done
  alone_added_part doc (Some path) h = alone_added_at doc doc.left (added doc path) refl h

  pub alone_part : (doc : Doc) (p : Part) → Kept doc → IsAlone P (part w doc p)
  unfolding part
  alone_part doc (parts.Text text) h = alone_text_part doc text doc.block
  alone_part doc (parts.Command name ps) h = alone_command_part doc name ps doc.block h
  alone_part doc parts.Bad h = alone_bad_part doc doc.block
  alone_part doc parts.Before h = alone_added_part doc doc.values.before h
  alone_part doc parts.After h = alone_added_part doc doc.values.after h
