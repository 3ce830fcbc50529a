-- Documents obey: what they read is kept, and they ask for content subrequests alone.
use Rattle.std.proofs.Common.{◌≡◌, ℕ, zero, suc, ◌+◌, nat_lt, ◌&&◌, ◌||◌, Bool, true, false, List, [], ◌∷◌, codes, length, Option, None, Some, is_some, Result, Ok, Err, refl, if◌then◌else◌}
use Rattle.std.specs.List.{list_any, before_first, after_first, ends_with}
use Rattle.std.specs.Prelude.{nat_eq, bytes_eq}
use Rattle.acts.specs.Vars.{look, set}
use Rattle.acts.specs.Act.{Done, Get}
use Rattle.ngx_variables.specs.declared.request.Role.TheVariants.{Content}
use Rattle.ngx_variables.specs.declared.value.Piece.{Piece}
use Rattle.ngx_variables.specs.declared.value.Piece.TheVariants.{Literal, Group, Builtin, Argument, Field, Cookie, Set as SetPiece}
use Rattle.ngx_variables.specs.Acts.{piece}
use Rattle.ngx_variables.specs.Grammar.{Token, lowercase, piece_named}
use Rattle.ngx_variables.specs.Grammar.Token.{Bytes, Name}
use Rattle.ngx_variables.specs.Pairs.{trimmed}
use Rattle.ssi_text.specs.declared.part.Param.{Param}
use Rattle.ssi_text.specs.declared.part.Part.{Part}
use Rattle.ssi_text.specs.declared.part.Part.TheVariants as parts
use Rattle.ssi_text.specs.Marks.{Mark, Byte, Other}
use Rattle.uri_text.specs.declared.fault.UriFault.{UriFault}
use Rattle.uri_text.specs.Target.{normal_of}
use Rattle.family_meaning.specs.request_meaning.Serving.{World, Serving, Child, writes}
use Rattle.family_meaning.specs.request_meaning.Documents
use Rattle.family_meaning.specs.request_meaning.Documents.{Doc, Branch, Truth, is_live, error_text, oops, live_oops, is_visible, dated, site_value, own_or, named_value, token_text, tokens_text, read_text, tokens, filled, is_full, same_text, is_pattern, is_equals, left_side, compared, truth}
use Rattle.family_meaning.specs.request_meaning.Documents.Branch.{NoIf, InIf}
use Rattle.family_meaning.specs.request_meaning.Documents.Truth.{Is, Unread, Pattern}
use Rattle.family_meaning.specs.request_meaning.Commands.{Word, text_of, param, opens, opened, if_done, elif_done, else_done, endif_done, others_size, block_closed, is_good_format, with_format, with_message, config_done, echo_text, echo_done, kept, set_done, is_include, child_of, captured, include_child, included, include_at, include_text, included_name, in_folder, include_done, if_live, done, are_params, by_word, word_named, command, block_command}
use Rattle.family_meaning.specs.request_meaning.Commands.Word.{Block, EndBlock, Config, Echo, If, Elif, Else, EndIf, Include, Set}
use Rattle.family_meaning.specs.request_meaning.Bodies.{text_part, bad_part, command_part, added, added_at, added_part, part, mark, body}
use Rattle.race_meaning.specs.Steady.{Names, Rules, MayAsk}
use Rattle.race_meaning.proofs.Steadies.{obeys_more}
use Rattle.race_meaning.proofs.Obeying
use Rattle.race_meaning.proofs.Obeying.{from_done, from_get, from_write, from_call, from_inner, from_bind, from_piece, anything, KnownPiece, KnownPlace}

-- from a rule's end nothing need be told
from_any : {r : Rules} {known : Names} {A : Type 0} {post : A → Type 0} {m : Serving A} → Obeying.From r known post m → Obeying.From r known anything m
from_any {r} {known} {A} {post} {m} h = record { obeys = obeys_more r known known m _ _ (λ n e. e) h.obeys (λ now more x c q. ((λ other e. c other (q.0 other e)), tt)) }

module _ (w : World) (r : Rules) (content : r.asks Content ≡ true) where
  abbrev Good : {A : Type 0} → (A → Type 0) → Serving A → Type 0
  Good post m = Obeying.From r r.kept post m

  -- the document is of this main request, and its files are where kept names say
  abbrev Kept : Doc → Type 0
  Kept doc = (doc.main ≡ r.main) × KnownPlace r.kept doc.request.place

  abbrev pub Visible : Type 0
  Visible = (name : List ℕ) → is_visible w.server.visible name ≡ true → r.kept name ≡ true

  choice : {A : Type 0} {post : A → Type 0} (b : Bool) (m n : Serving A) → Good post m → Good post n → Good post (if b then m else n)
  choice true m n h g = h
  choice false m n h g = g

  good_writes : (bytes : List ℕ) → Good anything (writes bytes)
  good_writes bytes = from_write (from_done _ tt)

  good_oops : (doc : Doc) → Kept doc → Good Kept (oops doc)
  unfolding oops
  good_oops doc h = from_bind (good_writes (error_text doc)) (λ a _. from_done _ h)

  good_live_oops : (doc : Doc) → Kept doc → Good Kept (live_oops doc)
  unfolding live_oops
  good_live_oops doc h = choice (is_live doc.branch) (oops doc) (Done doc) (good_oops doc h) (from_done _ h)

  -- ---- blocks

  good_block_closed : (doc : Doc) (name bytes : List ℕ) → Kept doc → Good Kept (block_closed doc name bytes)
  unfolding block_closed
  good_block_closed doc name bytes h =
      choice (nat_lt 32768 (others_size name doc.blocks + length bytes)) (oops (record doc { block = None })) (Done (record doc { block = None; blocks = set name bytes doc.blocks }))
      (good_oops (record doc { block = None }) h) (from_done _ h)

  good_block_command : (doc : Doc) (block bytes name : List ℕ) (ps : List Param) → Kept doc → Good Kept (block_command doc block bytes name ps)
  unfolding block_command
  good_block_command doc block bytes name [] h = choice (bytes_eq name (codes "endblock")) (block_closed doc block bytes) _ (good_block_closed doc block bytes h) (from_done _ h)
  good_block_command doc block bytes name (p ∷ ps) h = from_done _ h

  -- ---- values

  -- documents read only what is kept
  module _ (shown : (name : List ℕ) → is_visible w.server.visible name ≡ true → r.kept name ≡ true) where
    visible_get : (name : List ℕ) (b : Bool) → is_visible w.server.visible name ≡ b → Good anything (if b then Get name (λ v. Done v) else Done None)
    visible_get name true e = from_get (shown name e) (λ v. from_done _ tt)
    visible_get name false e = from_done _ tt

    good_piece : (doc : Doc) (p : Piece) → KnownPiece r.kept p → Kept doc → Good anything (piece (dated doc) doc.request p)
    good_piece doc p k h = from_any (from_piece (dated doc) doc.request p k h.1)

    good_site_value : (doc : Doc) (p : Piece) → Kept doc → Good anything (site_value w doc p)
    unfolding site_value
    good_site_value doc (SetPiece name) h = visible_get name (is_visible w.server.visible name) refl
    good_site_value doc (Literal bytes) h = from_bind (good_piece doc (Literal bytes) tt h) (λ a _. from_done _ tt)
    good_site_value doc (Group number) h = from_bind (good_piece doc (Group number) tt h) (λ a _. from_done _ tt)
    good_site_value doc (Builtin variable) h = from_bind (good_piece doc (Builtin variable) tt h) (λ a _. from_done _ tt)
    good_site_value doc (Argument name) h = from_bind (good_piece doc (Argument name) tt h) (λ a _. from_done _ tt)
    good_site_value doc (Field name) h = from_bind (good_piece doc (Field name) tt h) (λ a _. from_done _ tt)
    good_site_value doc (Cookie name) h = from_bind (good_piece doc (Cookie name) tt h) (λ a _. from_done _ tt)

    good_own_or : (o : Option (List ℕ)) (other : Serving (Option (List ℕ))) → Good anything other → Good anything (own_or o other)
    good_own_or None other h = h
    good_own_or (Some value) other h = from_done _ tt

    good_named_value : (doc : Doc) (name : List ℕ) → Kept doc → Good anything (named_value w doc name)
    unfolding named_value
    good_named_value doc name h = good_own_or (look doc.ssi (lowercase name)) (site_value w doc (piece_named (lowercase name))) (good_site_value doc (piece_named (lowercase name)) h)

    good_token_text : (doc : Doc) (t : Token) → Kept doc → Good anything (token_text w doc t)
    unfolding token_text
    good_token_text doc (Bytes bytes) h = from_done _ tt
    good_token_text doc (Name name) h = from_bind (good_named_value doc name h) (λ a _. from_done _ tt)

    good_tokens_text : (doc : Doc) (ts : List Token) → Kept doc → Good anything (tokens_text w doc ts)
    unfolding tokens_text
    good_tokens_text doc [] h = from_done _ tt
    good_tokens_text doc (t ∷ ts) h = from_bind (good_token_text doc t h) (λ a _. from_bind (good_tokens_text doc ts h) (λ b _. from_done _ tt))

    good_read_text : (doc : Doc) (ts : Option (List Token)) → Kept doc → Good anything (read_text w doc ts)
    unfolding read_text
    good_read_text doc None h = from_done _ tt
    good_read_text doc (Some ts) h = from_bind (good_tokens_text doc ts h) (λ a _. from_done _ tt)

    good_filled : (doc : Doc) (text : List ℕ) → Kept doc → Good anything (filled w doc text)
    unfolding filled
    good_filled doc text h = good_read_text doc (tokens 0 text) h

    good_compared : (doc : Doc) (unequal : Bool) (left right : List ℕ) → Kept doc → Good anything (compared w doc unequal left right)
    unfolding compared
    good_compared doc unequal left right h =
        choice (is_pattern right) _ _ (from_done _ tt) (from_bind (good_filled doc left h) (λ a _. from_bind (good_filled doc right h) (λ b _. from_done _ tt)))

    good_truth : (doc : Doc) (text : List ℕ) → Kept doc → Good anything (truth w doc text)
    unfolding truth
    good_truth doc text h =
        let left = before_first is_equals text in
        choice (list_any is_equals text) _ _
        (good_compared doc (ends_with nat_eq left (33 ∷ [])) (trimmed (left_side left)) (trimmed (after_first is_equals text)) h)
        (from_bind (good_filled doc (trimmed text) h) (λ a _. from_done _ tt))

    -- ---- commands

    good_opens : (doc : Doc) (t : Truth) → Kept doc → Good Kept (opens doc t)
    unfolding opens
    good_opens doc (Is holds) h = from_done _ h
    good_opens doc Pattern h = from_bind (good_writes (error_text doc)) (λ a _. from_done _ h)
    good_opens doc Unread h = good_oops doc h

    good_opened : (doc : Doc) (text : List ℕ) → Kept doc → Good Kept (opened w doc text)
    unfolding opened
    good_opened doc text h = from_bind (good_truth doc text h) (λ t _. good_opens doc t h)

    good_if_done : (doc : Doc) (ps : List Param) (b : Branch) → Kept doc → Good Kept (if_done w doc ps b)
    unfolding if_done
    good_if_done doc ps NoIf h = good_opened doc (text_of (codes "expr") ps) h
    good_if_done doc ps (InIf live taken last) h = good_live_oops doc h

    good_elif_done : (doc : Doc) (ps : List Param) (b : Branch) → Kept doc → Good Kept (elif_done w doc ps b)
    unfolding elif_done
    good_elif_done doc ps NoIf h = good_oops doc h
    good_elif_done doc ps (InIf live taken true) h = good_live_oops doc h
    good_elif_done doc ps (InIf live true false) h = from_done _ h
    good_elif_done doc ps (InIf live false false) h = good_opened doc (text_of (codes "expr") ps) h

    good_else_done : (doc : Doc) (b : Branch) → Kept doc → Good Kept (else_done doc b)
    unfolding else_done
    good_else_done doc NoIf h = good_oops doc h
    good_else_done doc (InIf live taken true) h = good_live_oops doc h
    good_else_done doc (InIf live taken false) h = from_done _ h

    good_endif_done : (doc : Doc) (b : Branch) → Kept doc → Good Kept (endif_done doc b)
    unfolding endif_done
    good_endif_done doc NoIf h = good_oops doc h
    good_endif_done doc (InIf live taken last) h = from_done _ h

    kept_config : (m f : Option (List ℕ)) (doc : Doc) → Kept doc → Kept (with_format f (with_message m doc))
    kept_config None None doc h = h
    kept_config None (Some f) doc h = h
    kept_config (Some m) None doc h = h
    kept_config (Some m) (Some f) doc h = h

    good_config_done : (doc : Doc) (ps : List Param) → Kept doc → Good Kept (config_done doc ps)
    unfolding config_done
    good_config_done doc ps h =
        let message = param (codes "errmsg") ps in
        let format = param (codes "timefmt") ps in
        choice ((is_some message || is_some format) && is_good_format format) (Done (with_format format (with_message message doc))) (oops doc)
        (from_done _ (kept_config message format doc h)) (good_oops doc h)

    good_echo_text : (doc : Doc) (text : Option (List ℕ)) → Kept doc → Good Kept (echo_text doc text)
    good_echo_text doc None h = good_oops doc h
    good_echo_text doc (Some text) h = from_bind (good_writes text) (λ a _. from_done _ h)

    good_echo_done : (doc : Doc) (ps : List Param) → Kept doc → Good Kept (echo_done w doc ps)
    unfolding echo_done
    good_echo_done doc ps h = from_bind (good_named_value doc (text_of (codes "var") ps) h) (λ value _. good_echo_text doc _ h)

    good_kept : (doc : Doc) (name : List ℕ) (text : Option (List ℕ)) → Kept doc → Good Kept (kept doc name text)
    good_kept doc name None h = good_oops doc h
    good_kept doc name (Some text) h = from_done _ h

    good_set_done : (doc : Doc) (ps : List Param) → Kept doc → Good Kept (set_done w doc ps)
    unfolding set_done
    good_set_done doc ps h = from_bind (good_filled doc (text_of (codes "value") ps) h) (λ text _. good_kept doc (text_of (codes "var") ps) text h)

    -- ---- include

    good_captured : (doc : Doc) (name bytes : List ℕ) → Kept doc → Good Kept (captured doc name bytes)
    unfolding captured
    good_captured doc name bytes h =
        choice (nat_lt doc.values.capture_most (length bytes)) (oops (record doc { ssi = Documents.without name doc.ssi })) (Done (record doc { ssi = set name bytes doc.ssi }))
        (good_oops (record doc { ssi = Documents.without name doc.ssi }) h) (from_done _ h)

    good_include_child : (doc : Doc) (c : Child) (to : Option (List ℕ)) → MayAsk r c → c.role ≡ Content → Kept doc → Good Kept (include_child doc c to)
    unfolding include_child
    good_include_child doc c None p e h = from_bind {mid = anything} (from_inner p e (from_done _ tt)) (λ a _. from_done _ h)
    good_include_child doc c (Some name) p e h = from_bind {mid = anything} (from_call p (λ q. from_done _ tt)) (λ reply _. good_captured doc (lowercase name) reply.body h)

    good_included : (doc : Doc) (ps : List Param) (n : ℕ) (path args : List ℕ) → Kept doc → Good Kept (included doc ps n path args)
    unfolding included
    good_included doc ps zero path args h = good_oops doc h
    good_included doc ps (suc n) path args h = good_include_child doc (child_of doc ps path args) (param (codes "set") ps) (content, h.0) refl h

    good_include_at : (doc : Doc) (ps : List Param) (t : Result (List ℕ × List ℕ) UriFault) → Kept doc → Good Kept (include_at doc ps t)
    good_include_at doc ps (Ok t) h = good_included doc ps doc.left t.0 t.1 h
    good_include_at doc ps (Err fault) h = good_oops doc h

    good_include_text : (doc : Doc) (ps : List Param) (text : Option (List ℕ)) → Kept doc → Good Kept (include_text w doc ps text)
    good_include_text doc ps None h = good_oops doc h
    good_include_text doc ps (Some text) h = good_include_at doc ps (normal_of (in_folder doc text) w.server.merge) h

    good_include_done : (doc : Doc) (ps : List Param) → Kept doc → Good Kept (include_done w doc ps)
    unfolding include_done
    good_include_done doc ps h =
        choice (is_include doc ps) _ (oops doc) (from_bind (good_filled doc (included_name ps) h) (λ text _. good_include_text doc ps text h)) (good_oops doc h)

    -- ---- parts

    good_if_live : (doc : Doc) (m : Serving Doc) → Kept doc → Good Kept m → Good Kept (if_live doc m)
    good_if_live doc m h g = choice (is_live doc.branch) m (Done doc) g (from_done _ h)

    good_word : (doc : Doc) (word : Word) (ps : List Param) → Kept doc → Good Kept (done w doc word ps)
    unfolding done
    good_word doc Block ps h = good_if_live doc _ h (from_done _ h)
    good_word doc EndBlock ps h = good_live_oops doc h
    good_word doc Config ps h = good_if_live doc (config_done doc ps) h (good_config_done doc ps h)
    good_word doc Echo ps h = good_if_live doc (echo_done w doc ps) h (good_echo_done doc ps h)
    good_word doc If ps h = good_if_done doc ps doc.branch h
    good_word doc Elif ps h = good_elif_done doc ps doc.branch h
    good_word doc Else ps h = good_else_done doc doc.branch h
    good_word doc EndIf ps h = good_endif_done doc doc.branch h
    good_word doc Include ps h = good_if_live doc (include_done w doc ps) h (good_include_done doc ps h)
    good_word doc Set ps h = good_if_live doc (set_done w doc ps) h (good_set_done doc ps h)

    good_by_word : (doc : Doc) (ps : List Param) (word : Option Word) → Kept doc → Good Kept (by_word w doc ps word)
    good_by_word doc ps None h = good_live_oops doc h
    good_by_word doc ps (Some word) h = choice (are_params doc.values.value_most word ps) (done w doc word ps) (live_oops doc) (good_word doc word ps h) (good_live_oops doc h)

    good_command : (doc : Doc) (name : List ℕ) (ps : List Param) → Kept doc → Good Kept (command w doc name ps)
    unfolding command
    good_command doc name ps h = good_by_word doc ps (word_named name) h

  good_text_part : (doc : Doc) (text : List ℕ) (block : Option (List ℕ × List ℕ)) → Kept doc → Good Kept (text_part doc text block)
  unfolding text_part
  good_text_part doc text (Some (name, bytes)) h = from_done _ h
  good_text_part doc text None h = choice (is_live doc.branch) _ (Done doc) (from_bind (good_writes text) (λ a _. from_done _ h)) (from_done _ h)

  good_bad_part : (doc : Doc) (block : Option (List ℕ × List ℕ)) → Kept doc → Good Kept (bad_part doc block)
  unfolding bad_part
  good_bad_part doc (Some (name, bytes)) h = from_done _ h
  good_bad_part doc None h = good_live_oops doc h

  good_command_part : Visible → (doc : Doc) (name : List ℕ) (ps : List Param) (block : Option (List ℕ × List ℕ)) → Kept doc → Good Kept (command_part w doc name ps block)
  unfolding command_part
  good_command_part shown doc name ps (Some (block, bytes)) h = good_block_command doc block bytes name ps h
  good_command_part shown doc name ps None h = good_command shown doc name ps h

  good_added_at : (doc : Doc) (n : ℕ) (c : Child) → MayAsk r c → c.role ≡ Content → Kept doc → Good Kept (added_at doc n c)
  unfolding added_at
  good_added_at doc zero c p e h = good_oops doc h
  good_added_at doc (suc n) c p e h = from_bind {mid = anything} (from_inner p e (from_done _ tt)) (λ a _. from_done _ h)

  good_added_part : (doc : Doc) (path : Option (List ℕ)) → Kept doc → Good Kept (added_part doc path)
  unfolding added_part
  good_added_part doc None h = from_done _ h
  good_added_part doc (Some path) h = good_added_at doc doc.left (added doc path) (content, h.0) refl h

  -- a command is there only where documents read what is kept
  abbrev pub FitPart : Part → Type 0
  FitPart (parts.Text text) = Unit {0}
  FitPart (parts.Command name ps) = Visible
  FitPart parts.Bad = Unit {0}
  FitPart parts.Before = Unit {0}
  FitPart parts.After = Unit {0}

  abbrev pub FitMarks : List Mark → Type 0
  FitMarks [] = Unit {0}
  FitMarks (Byte b ∷ xs) = FitMarks xs
  FitMarks (Other p ∷ xs) = FitPart p × FitMarks xs

  good_part : (doc : Doc) (p : Part) → FitPart p → Kept doc → Good Kept (part w doc p)
  unfolding part
  good_part doc (parts.Text text) f h = good_text_part doc text doc.block h
  good_part doc (parts.Command name ps) f h = good_command_part f doc name ps doc.block h
  good_part doc parts.Bad f h = good_bad_part doc doc.block h
  good_part doc parts.Before f h = good_added_part doc doc.values.before h
  good_part doc parts.After f h = good_added_part doc doc.values.after h

  pub good_body : (doc : Doc) (xs : List Mark) → FitMarks xs → Kept doc → Good anything (body w doc xs)
  unfolding body mark
  good_body doc [] f h = from_done _ tt
  good_body doc (Byte b ∷ xs) f h = from_bind (good_text_part doc (b ∷ []) doc.block h) (λ d hd. good_body d xs f hd)
  good_body doc (Other p ∷ xs) f h = from_bind (good_part doc p f.0 h) (λ d hd. good_body d xs f.1 hd)
