-- What a document asks for: subrequests that are no main request, where a level is left.
use Rattle.std.proofs.Common.{◌≡◌, ℕ, zero, suc, ◌+◌, nat_lt, ◌&&◌, ◌||◌, Bool, true, false, List, [], ◌∷◌, codes, length, Option, None, Some, is_some, Result, Ok, Err, refl, sym, ◌∙◌, if◌then◌else◌}
use Rattle.std.specs.List.{list_any, before_first, after_first, ends_with}
use Rattle.std.specs.Prelude.{nat_eq, bytes_eq}
use Rattle.acts.specs.Vars.{look, set}
use Rattle.acts.specs.Act.{Done, Get}
use Rattle.file_path.specs.ngx_variables.declared.request.Role.TheVariants.{Content}
use Rattle.file_path.specs.ngx_variables.declared.value.Piece.{Piece}
use Rattle.file_path.specs.ngx_variables.declared.value.Piece.TheVariants.{Literal, Group, Builtin, Argument, Field, Cookie, Set as SetPiece}
use Rattle.file_path.specs.ngx_variables.Grammar.{Token, lowercase, piece_named}
use Rattle.file_path.specs.ngx_variables.Grammar.Token.{Bytes, Name}
use Rattle.file_path.specs.ngx_variables.Pairs.{trimmed}
use Rattle.ssi_filter.specs.ssi_text.declared.part.Param.{Param}
use Rattle.ssi_filter.specs.ssi_text.declared.part.Part.{Part}
use Rattle.ssi_filter.specs.ssi_text.declared.part.Part.TheVariants as parts
use Rattle.ssi_filter.specs.ssi_text.Marks.{Mark, Byte, Other}
use Rattle.addition_filter.specs.filter_api.Members.{others_of}
use Rattle.uri_text.specs.declared.fault.UriFault.{UriFault}
use Rattle.uri_text.specs.Target.{normal_of}
use Rattle.request_meaning.specs.Serving.{World, Serving, Child, writes}
use Rattle.request_meaning.specs.Documents
use Rattle.request_meaning.specs.Documents.{Doc, Branch, Truth, is_live, error_text, oops, live_oops, is_visible, dated, site_value, own_or, named_value, token_text, tokens_text, read_text, tokens, filled, is_full, same_text, is_pattern, is_equals, left_side, compared, truth}
use Rattle.request_meaning.specs.Documents.Branch.{NoIf, InIf}
use Rattle.request_meaning.specs.Documents.Truth.{Is, Unread, Pattern}
use Rattle.request_meaning.specs.Commands.{Word, text_of, param, opens, opened, if_done, elif_done, else_done, endif_done, others_size, block_closed, is_good_format, with_format, with_message, config_done, echo_text, echo_done, kept, set_done, is_include, child_of, captured, include_child, included, include_at, include_text, included_name, in_folder, include_done, if_live, done, are_params, by_word, word_named, command, block_command}
use Rattle.request_meaning.specs.Commands.Word.{Block, EndBlock, Config, Echo, If, Elif, Else, EndIf, Include, Set}
use Rattle.request_meaning.specs.Bodies.{text_part, bad_part, command_part, added, added_at, added_part, part, mark, body}
use Rattle.request_meaning.specs.Laws.{anything}
use Rattle.request_meaning.proofs.Asks.{Only, only_done, only_get, only_write, only_call, only_inner, only_bind, only_piece}

-- P is so of each content subrequest that is asked for where this many levels are left.
module _ (w : World) (P : Child → Type 0) (levels : ℕ) (may : (n : ℕ) → levels ≡ suc n → (c : Child) → c.role ≡ Content → P c) where
  -- the levels that are left stay as they are
  abbrev Kept : Doc → Type 0
  Kept doc = doc.left ≡ levels

  choice : {A : Type 0} {post : A → Type 0} (b : Bool) (m n : Serving A) → Only P post m → Only P post n → Only P post (if b then m else n)
  choice true m n h g = h
  choice false m n h g = g

  only_writes : (bytes : List ℕ) → Only P anything (writes bytes)
  only_writes bytes = only_write (only_done _ tt)

  only_oops : (doc : Doc) → Kept doc → Only P Kept (oops doc)
  unfolding oops
  only_oops doc h = only_bind (only_writes (error_text doc)) (λ a _. only_done _ h)

  only_live_oops : (doc : Doc) → Kept doc → Only P Kept (live_oops doc)
  unfolding live_oops
  only_live_oops doc h = choice (is_live doc.branch) (oops doc) (Done doc) (only_oops doc h) (only_done _ h)

  -- ---- values

  only_site_value : (doc : Doc) (p : Piece) → Only P anything (site_value w doc p)
  unfolding site_value
  only_site_value doc (SetPiece name) = choice (is_visible w.server.visible name) (Get name (λ v. Done v)) (Done None) (only_get (λ v. only_done _ tt)) (only_done _ tt)
  only_site_value doc (Literal bytes) = only_bind (only_piece (dated doc) doc.request (Literal bytes)) (λ a _. only_done _ tt)
  only_site_value doc (Group number) = only_bind (only_piece (dated doc) doc.request (Group number)) (λ a _. only_done _ tt)
  only_site_value doc (Builtin variable) = only_bind (only_piece (dated doc) doc.request (Builtin variable)) (λ a _. only_done _ tt)
  only_site_value doc (Argument name) = only_bind (only_piece (dated doc) doc.request (Argument name)) (λ a _. only_done _ tt)
  only_site_value doc (Field name) = only_bind (only_piece (dated doc) doc.request (Field name)) (λ a _. only_done _ tt)
  only_site_value doc (Cookie name) = only_bind (only_piece (dated doc) doc.request (Cookie name)) (λ a _. only_done _ tt)

  only_own_or : (o : Option (List ℕ)) (other : Serving (Option (List ℕ))) → Only P anything other → Only P anything (own_or o other)
  only_own_or None other h = h
  only_own_or (Some value) other h = only_done _ tt

  only_named_value : (doc : Doc) (name : List ℕ) → Only P anything (named_value w doc name)
  unfolding named_value
  only_named_value doc name = only_own_or (look doc.ssi (lowercase name)) (site_value w doc (piece_named (lowercase name))) (only_site_value doc (piece_named (lowercase name)))

  only_token_text : (doc : Doc) (t : Token) → Only P anything (token_text w doc t)
  unfolding token_text
  only_token_text doc (Bytes bytes) = only_done _ tt
  only_token_text doc (Name name) = only_bind (only_named_value doc name) (λ a _. only_done _ tt)

  only_tokens_text : (doc : Doc) (ts : List Token) → Only P anything (tokens_text w doc ts)
  unfolding tokens_text
  only_tokens_text doc [] = only_done _ tt
  only_tokens_text doc (t ∷ ts) = only_bind (only_token_text doc t) (λ a _. only_bind (only_tokens_text doc ts) (λ b _. only_done _ tt))

  only_read_text : (doc : Doc) (ts : Option (List Token)) → Only P anything (read_text w doc ts)
  unfolding read_text
  only_read_text doc None = only_done _ tt
  only_read_text doc (Some ts) = only_bind (only_tokens_text doc ts) (λ a _. only_done _ tt)

  only_filled : (doc : Doc) (text : List ℕ) → Only P anything (filled w doc text)
  unfolding filled
  only_filled doc text = only_read_text doc (tokens 0 text)

  only_compared : (doc : Doc) (unequal : Bool) (left right : List ℕ) → Only P anything (compared w doc unequal left right)
  unfolding compared
  only_compared doc unequal left right =
      choice (is_pattern right) _ _ (only_done _ tt) (only_bind (only_filled doc left) (λ a _. only_bind (only_filled doc right) (λ b _. only_done _ tt)))

  only_truth : (doc : Doc) (text : List ℕ) → Only P anything (truth w doc text)
  unfolding truth
  only_truth doc text =
      let left = before_first is_equals text in
      choice (list_any is_equals text) _ _
      (only_compared doc (ends_with nat_eq left (33 ∷ [])) (trimmed (left_side left)) (trimmed (after_first is_equals text)))
      (only_bind (only_filled doc (trimmed text)) (λ a _. only_done _ tt))

  -- ---- commands

  only_opens : (doc : Doc) (t : Truth) → Kept doc → Only P Kept (opens doc t)
  unfolding opens
  only_opens doc (Is holds) h = only_done _ h
  only_opens doc Pattern h = only_bind (only_writes (error_text doc)) (λ a _. only_done _ h)
  only_opens doc Unread h = only_oops doc h

  only_opened : (doc : Doc) (text : List ℕ) → Kept doc → Only P Kept (opened w doc text)
  unfolding opened
  only_opened doc text h = only_bind (only_truth doc text) (λ t _. only_opens doc t h)

  only_if_done : (doc : Doc) (ps : List Param) (b : Branch) → Kept doc → Only P Kept (if_done w doc ps b)
  unfolding if_done
  only_if_done doc ps NoIf h = only_opened doc (text_of (codes "expr") ps) h
  only_if_done doc ps (InIf live taken last) h = only_live_oops doc h

  only_elif_done : (doc : Doc) (ps : List Param) (b : Branch) → Kept doc → Only P Kept (elif_done w doc ps b)
  unfolding elif_done
  only_elif_done doc ps NoIf h = only_oops doc h
  only_elif_done doc ps (InIf live taken true) h = only_live_oops doc h
  only_elif_done doc ps (InIf live true false) h = only_done _ h
  only_elif_done doc ps (InIf live false false) h = only_opened doc (text_of (codes "expr") ps) h

  only_else_done : (doc : Doc) (b : Branch) → Kept doc → Only P Kept (else_done doc b)
  unfolding else_done
  only_else_done doc NoIf h = only_oops doc h
  only_else_done doc (InIf live taken true) h = only_live_oops doc h
  only_else_done doc (InIf live taken false) h = only_done _ h

  only_endif_done : (doc : Doc) (b : Branch) → Kept doc → Only P Kept (endif_done doc b)
  unfolding endif_done
  only_endif_done doc NoIf h = only_oops doc h
  only_endif_done doc (InIf live taken last) h = only_done _ h

  only_block_closed : (doc : Doc) (name bytes : List ℕ) → Kept doc → Only P Kept (block_closed doc name bytes)
  unfolding block_closed
  only_block_closed doc name bytes h =
      choice (nat_lt 32768 (others_size name doc.blocks + length bytes)) (oops (record doc { block = None })) (Done (record doc { block = None; blocks = set name bytes doc.blocks }))
      (only_oops (record doc { block = None }) h) (only_done _ h)

  kept_config : (m f : Option (List ℕ)) (doc : Doc) → Kept doc → Kept (with_format f (with_message m doc))
  kept_config None None doc h = h
  kept_config None (Some f) doc h = h
  kept_config (Some m) None doc h = h
  kept_config (Some m) (Some f) doc h = h

  only_config_done : (doc : Doc) (ps : List Param) → Kept doc → Only P Kept (config_done doc ps)
  unfolding config_done
  only_config_done doc ps h =
      let message = param (codes "errmsg") ps in
      let format = param (codes "timefmt") ps in
      choice ((is_some message || is_some format) && is_good_format format) (Done (with_format format (with_message message doc))) (oops doc)
      (only_done _ (kept_config message format doc h)) (only_oops doc h)

  only_echo_text : (doc : Doc) (text : Option (List ℕ)) → Kept doc → Only P Kept (echo_text doc text)
  only_echo_text doc None h = only_oops doc h
  only_echo_text doc (Some text) h = only_bind (only_writes text) (λ a _. only_done _ h)

  only_echo_done : (doc : Doc) (ps : List Param) → Kept doc → Only P Kept (echo_done w doc ps)
  unfolding echo_done
  only_echo_done doc ps h = only_bind (only_named_value doc (text_of (codes "var") ps)) (λ value _. only_echo_text doc _ h)

  only_kept : (doc : Doc) (name : List ℕ) (text : Option (List ℕ)) → Kept doc → Only P Kept (kept doc name text)
  only_kept doc name None h = only_oops doc h
  only_kept doc name (Some text) h = only_done _ h

  only_set_done : (doc : Doc) (ps : List Param) → Kept doc → Only P Kept (set_done w doc ps)
  unfolding set_done
  only_set_done doc ps h = only_bind (only_filled doc (text_of (codes "value") ps)) (λ text _. only_kept doc (text_of (codes "var") ps) text h)

  -- ---- include

  only_captured : (doc : Doc) (name bytes : List ℕ) → Kept doc → Only P Kept (captured doc name bytes)
  unfolding captured
  only_captured doc name bytes h =
      choice (nat_lt doc.values.capture_most (length bytes)) (oops (record doc { ssi = Documents.without name doc.ssi })) (Done (record doc { ssi = set name bytes doc.ssi }))
      (only_oops (record doc { ssi = Documents.without name doc.ssi }) h) (only_done _ h)

  only_include_child : (doc : Doc) (c : Child) (to : Option (List ℕ)) → P c → Kept doc → Only P Kept (include_child doc c to)
  unfolding include_child
  only_include_child doc c None p h = only_bind {mid = anything} (only_inner p (only_done _ tt)) (λ a _. only_done _ h)
  only_include_child doc c (Some name) p h = only_bind {mid = anything} (only_call p (λ r. only_done _ tt)) (λ reply _. only_captured doc (lowercase name) reply.body h)

  only_included : (doc : Doc) (ps : List Param) (n : ℕ) (path args : List ℕ) → doc.left ≡ n → Kept doc → Only P Kept (included doc ps n path args)
  unfolding included
  only_included doc ps zero path args e h = only_oops doc h
  only_included doc ps (suc n) path args e h = only_include_child doc (child_of doc ps path args) (param (codes "set") ps) (may n (sym h ∙ e) (child_of doc ps path args) refl) h

  only_include_at : (doc : Doc) (ps : List Param) (t : Result (List ℕ × List ℕ) UriFault) → Kept doc → Only P Kept (include_at doc ps t)
  only_include_at doc ps (Ok t) h = only_included doc ps doc.left t.0 t.1 refl h
  only_include_at doc ps (Err fault) h = only_oops doc h

  only_include_text : (doc : Doc) (ps : List Param) (text : Option (List ℕ)) → Kept doc → Only P Kept (include_text w doc ps text)
  only_include_text doc ps None h = only_oops doc h
  only_include_text doc ps (Some text) h = only_include_at doc ps (normal_of (in_folder doc text) w.server.merge) h

  only_include_done : (doc : Doc) (ps : List Param) → Kept doc → Only P Kept (include_done w doc ps)
  unfolding include_done
  only_include_done doc ps h =
      choice (is_include doc ps) _ (oops doc) (only_bind (only_filled doc (included_name ps)) (λ text _. only_include_text doc ps text h)) (only_oops doc h)

  -- ---- parts

  only_if_live : (doc : Doc) (m : Serving Doc) → Kept doc → Only P Kept m → Only P Kept (if_live doc m)
  only_if_live doc m h g = choice (is_live doc.branch) m (Done doc) g (only_done _ h)

  only_word : (doc : Doc) (word : Word) (ps : List Param) → Kept doc → Only P Kept (done w doc word ps)
  unfolding done
  only_word doc Block ps h = only_if_live doc _ h (only_done _ h)
  only_word doc EndBlock ps h = only_live_oops doc h
  only_word doc Config ps h = only_if_live doc (config_done doc ps) h (only_config_done doc ps h)
  only_word doc Echo ps h = only_if_live doc (echo_done w doc ps) h (only_echo_done doc ps h)
  only_word doc If ps h = only_if_done doc ps doc.branch h
  only_word doc Elif ps h = only_elif_done doc ps doc.branch h
  only_word doc Else ps h = only_else_done doc doc.branch h
  only_word doc EndIf ps h = only_endif_done doc doc.branch h
  only_word doc Include ps h = only_if_live doc (include_done w doc ps) h (only_include_done doc ps h)
  only_word doc Set ps h = only_if_live doc (set_done w doc ps) h (only_set_done doc ps h)

  only_by_word : (doc : Doc) (ps : List Param) (word : Option Word) → Kept doc → Only P Kept (by_word w doc ps word)
  only_by_word doc ps None h = only_live_oops doc h
  only_by_word doc ps (Some word) h = choice (are_params doc.values.value_most word ps) (done w doc word ps) (live_oops doc) (only_word doc word ps h) (only_live_oops doc h)

  only_command : (doc : Doc) (name : List ℕ) (ps : List Param) → Kept doc → Only P Kept (command w doc name ps)
  unfolding command
  only_command doc name ps h = only_by_word doc ps (word_named name) h

  only_block_command : (doc : Doc) (block bytes name : List ℕ) (ps : List Param) → Kept doc → Only P Kept (block_command doc block bytes name ps)
  unfolding block_command
  only_block_command doc block bytes name [] h = choice (bytes_eq name (codes "endblock")) (block_closed doc block bytes) _ (only_block_closed doc block bytes h) (only_done _ h)
  only_block_command doc block bytes name (p ∷ ps) h = only_done _ h

  only_text_part : (doc : Doc) (text : List ℕ) (block : Option (List ℕ × List ℕ)) → Kept doc → Only P Kept (text_part doc text block)
  unfolding text_part
  only_text_part doc text (Some (name, bytes)) h = only_done _ h
  only_text_part doc text None h = choice (is_live doc.branch) _ (Done doc) (only_bind (only_writes text) (λ a _. only_done _ h)) (only_done _ h)

  only_bad_part : (doc : Doc) (block : Option (List ℕ × List ℕ)) → Kept doc → Only P Kept (bad_part doc block)
  unfolding bad_part
  only_bad_part doc (Some (name, bytes)) h = only_done _ h
  only_bad_part doc None h = only_live_oops doc h

  only_command_part : (doc : Doc) (name : List ℕ) (ps : List Param) (block : Option (List ℕ × List ℕ)) → Kept doc → Only P Kept (command_part w doc name ps block)
  unfolding command_part
  only_command_part doc name ps (Some (block, bytes)) h = only_block_command doc block bytes name ps h
  only_command_part doc name ps None h = only_command doc name ps h

  only_added_at : (doc : Doc) (n : ℕ) (c : Child) → c.role ≡ Content → doc.left ≡ n → Kept doc → Only P Kept (added_at doc n c)
  unfolding added_at
  only_added_at doc zero c r e h = only_oops doc h
  only_added_at doc (suc n) c r e h = only_bind {mid = anything} (only_inner (may n (sym h ∙ e) c r) (only_done _ tt)) (λ a _. only_done _ h)

  only_added_part : (doc : Doc) (path : Option (List ℕ)) → Kept doc → Only P Kept (added_part doc path)
  unfolding added_part
  only_added_part doc None h = only_done _ h
  only_added_part doc (Some path) h = only_added_at doc doc.left (added doc path) refl refl h

  only_part : (doc : Doc) (p : Part) → Kept doc → Only P Kept (part w doc p)
  unfolding part
  only_part doc (parts.Text text) h = only_text_part doc text doc.block h
  only_part doc (parts.Command name ps) h = only_command_part doc name ps doc.block h
  only_part doc parts.Bad h = only_bad_part doc doc.block h
  only_part doc parts.Before h = only_added_part doc doc.values.before h
  only_part doc parts.After h = only_added_part doc doc.values.after h

  only_mark : (doc : Doc) (x : Mark) → Kept doc → Only P Kept (mark w doc x)
  unfolding mark
  only_mark doc (Byte b) h = only_text_part doc (b ∷ []) doc.block h
  only_mark doc (Other p) h = only_part doc p h

  pub only_body : (doc : Doc) (xs : List Mark) → Kept doc → Only P anything (body w doc xs)
  unfolding body
  only_body doc [] h = only_done _ tt
  only_body doc (x ∷ xs) h = only_bind (only_mark doc x h) (λ d hd. only_body d xs hd)

-- text alone asks for nothing
no_part : {B : Type 0} (p : Part) (ps : List Part) → p ∷ ps ≡ [] → B
no_part p ps e = cc

module _ (w : World) (P : Child → Type 0) where
  only_bytes : (doc : Doc) (text : List ℕ) (block : Option (List ℕ × List ℕ)) → Only P anything (text_part doc text block)
  unfolding text_part
  only_bytes doc text (Some (name, bytes)) = only_done _ tt
  only_bytes doc text None = choice w P 0 (λ n e. zero_is_no_suc e) (is_live doc.branch) _ (Done doc) (only_bind (only_writes w P 0 (λ n e. zero_is_no_suc e) text) (λ a _. only_done _ tt)) (only_done _ tt)
    where
      zero_is_no_suc : {n : ℕ} {B : Type 0} → zero ≡ suc n → B
      zero_is_no_suc e = cc

  pub only_text : (doc : Doc) (xs : List Mark) → others_of xs ≡ [] → Only P anything (body w doc xs)
  unfolding body mark
  only_text doc [] e = only_done _ tt
  only_text doc (Byte b ∷ xs) e = only_bind (only_bytes doc (b ∷ []) doc.block) (λ d _. only_text d xs e)
  only_text doc (Other p ∷ xs) e = no_part p (others_of xs) e
