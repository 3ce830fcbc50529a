-- A document of server side includes: its state, its values and its conditions
-- (https://nginx.org/en/docs/http/ngx_http_ssi_module.html; where nginx differs, this project's profile holds).
use Rattle.std.specs.Prelude.{ℕ, zero, suc, ◌-◌, ◌==◌, ◌&&◌, ◌||◌, nat_le, nat_eq, Bool, true, false, not, List, [], ◌∷◌, ◌++◌, length, take, filter, flat_map, codes, bytes_eq, Option, None, Some, Result, Ok, Err, unwrap_or, if◌then◌else◌}
use Rattle.std.specs.List.{list_any, before_first, after_first, ends_with, starts_with}
use Rattle.std.specs.Char.{is_ascii_alphanumeric}
use Rattle.acts.specs.Vars.{Vars, look}
use Rattle.acts.specs.Act.{Done, Get, ◌>>=◌, ◌>>◌}
use Rattle.http_moment.specs.Shown.{shown_text, default_format}
use Rattle.file_path.specs.ngx_variables.declared.request.Main.{Main}
use Rattle.file_path.specs.ngx_variables.declared.request.Request.{Request}
use Rattle.file_path.specs.ngx_variables.declared.value.Piece.{Piece}
use Rattle.file_path.specs.ngx_variables.declared.value.Piece.TheVariants.{Literal, Group, Builtin, Argument, Field, Cookie, Set}
use Rattle.file_path.specs.ngx_variables.declared.compile.Reference.{Reference}
use Rattle.file_path.specs.ngx_variables.declared.fault.ValueFault.{ValueFault}
use Rattle.file_path.specs.ngx_variables.Grammar.{Token, onto_bytes, reference_at, name_in, piece_named, lowercase, begins_with}
use Rattle.file_path.specs.ngx_variables.Grammar.Token.{Bytes, Name}
use Rattle.file_path.specs.ngx_variables.Pairs.{trimmed}
use Rattle.file_path.specs.ngx_variables.Acts.{piece}
use Rattle.file_path.specs.ngx_variables.Texts.{is_too_long}
use Rattle.error_page.specs.resp_head.Values.{escape}
use Rattle.site_views.specs.Values.{Values}
use Rattle.request_meaning.specs.Serving.{World, Serving, writes}

-- ---- the state

-- no `if` is open; or one is: whether the text here is live, whether a branch of it was taken, and whether `else` was seen
pub data Branch : Type 0 where
  NoIf : Branch
  InIf : (live taken last : Bool) → Branch

-- What a document is, as far as it was served: the request that it answers, with the values of its level and how many levels
-- of subrequests it may still open; its own variables; the error text and the time format that were set; its blocks, and the
-- name and bytes of one that is open; and the `if` that is open.
pub record Doc : Type 0 where
  pub main : Main
  pub request : Request
  pub values : Values
  pub left : ℕ
  pub ssi : Vars
  pub message : List ℕ
  pub format : List ℕ
  pub blocks : Vars
  pub block : Option (List ℕ × List ℕ)
  pub branch : Branch

unfoldable pub default_message : List ℕ
default_message = codes "[an error occurred while processing the directive]"

-- how a document begins
unfoldable pub begun : Main → Request → Values → (left : ℕ) → Vars → Doc
begun main request values left ssi =
    record {
      main = main;
      request = request;
      values = values;
      left = left;
      ssi = ssi;
      message = default_message;
      format = default_format;
      blocks = [];
      block = None;
      branch = NoIf;
    }

-- text is written as it is, unless it is in a branch that isn't taken
abbrev pub is_live : Branch → Bool
is_live NoIf = true
is_live (InIf live taken last) = live

-- the error text, which `ssi_silent_errors` leaves away
unfoldable pub error_text : Doc → List ℕ
error_text doc = if doc.values.silent then [] else doc.message

-- the error text, and nothing else
unfoldable pub oops : Doc → Serving Doc
oops doc = do
  writes (error_text doc)
  Done doc

-- in a branch that isn't taken nothing is done or written
unfoldable pub live_oops : Doc → Serving Doc
live_oops doc = if is_live doc.branch then oops doc else Done doc

abbrev pub without : List ℕ → Vars → Vars
without name vars = filter (λ (e : List ℕ × List ℕ). not (bytes_eq e.0 name)) vars

-- ---- values

-- documents read a set variable where `ssi_visible` lists it, or is absent
abbrev pub is_visible : Option (List (List ℕ)) → List ℕ → Bool
is_visible None name = true
is_visible (Some names) name = list_any (bytes_eq name) names

-- dates are shown in the document's format
abbrev pub dated : Doc → Main
dated doc = record (doc.main) { date = shown_text doc.main.moment doc.format }

abbrev pub some_bytes : Serving (List ℕ) → Serving (Option (List ℕ))
some_bytes act = do
  bytes ← act
  Done (Some bytes)

unfoldable pub site_value : World → Doc → Piece → Serving (Option (List ℕ))
site_value w doc (Set name) = if is_visible w.server.visible name then Get name (λ value. Done value) else Done None
site_value w doc (Literal bytes) = some_bytes (piece (dated doc) doc.request (Literal bytes))
site_value w doc (Group number) = some_bytes (piece (dated doc) doc.request (Group number))
site_value w doc (Builtin variable) = some_bytes (piece (dated doc) doc.request (Builtin variable))
site_value w doc (Argument name) = some_bytes (piece (dated doc) doc.request (Argument name))
site_value w doc (Field name) = some_bytes (piece (dated doc) doc.request (Field name))
site_value w doc (Cookie name) = some_bytes (piece (dated doc) doc.request (Cookie name))

abbrev pub own_or : Option (List ℕ) → Serving (Option (List ℕ)) → Serving (Option (List ℕ))
own_or None other = other
own_or (Some value) other = Done (Some value)

-- What a name means in a document: a variable of its own, else a built-in one, else a visible one that was set; none
-- where it is unset.
unfoldable pub named_value : World → Doc → List ℕ → Serving (Option (List ℕ))
named_value w doc name = own_or (look doc.ssi (lowercase name)) (site_value w doc (piece_named (lowercase name)))

-- ---- texts with variables

abbrev pub onto : List Token → Option (List Token) → Option (List Token)
onto first None = None
onto first (Some tokens) = Some (first ++ tokens)

abbrev pub byte_onto : ℕ → Option (List Token) → Option (List Token)
byte_onto b None = None
byte_onto b (Some tokens) = Some (onto_bytes b tokens)

abbrev pub name_onto : List ℕ → Result Reference ValueFault → (ℕ → Option (List Token)) → Option (List Token)
name_onto bytes (Ok r) later = onto (Name (name_in bytes r) ∷ []) (later r.size)
name_onto bytes (Err fault) later = None

-- `$name` and `${name}`; `\$` is a `$`; any other byte is itself
abbrev pub token_at : ℕ → List ℕ → (ℕ → Option (List Token)) → Option (List Token)
token_at b bytes later =
    if (b == 92) && begins_with 36 bytes then byte_onto 36 (later 1)
    else (if b == 36 then name_onto bytes (reference_at bytes) later else byte_onto b (later 0))

-- the tokens of a value after this many of its bytes; none where a `$` has no name
unfoldable pub tokens : (skip : ℕ) → List ℕ → Option (List Token)
tokens skip [] = Some []
tokens (suc skip) (b ∷ bytes) = tokens skip bytes
tokens zero (b ∷ bytes) = token_at b bytes (λ size. tokens size bytes)

unfoldable pub token_text : World → Doc → Token → Serving (List ℕ)
token_text w doc (Bytes bytes) = Done bytes
token_text w doc (Name name) = do
  value ← named_value w doc name
  Done (unwrap_or value [])

unfoldable pub tokens_text : World → Doc → List Token → Serving (List ℕ)
tokens_text w doc [] = Done []
tokens_text w doc (t ∷ ts) = do
  text ← token_text w doc t
  texts ← tokens_text w doc ts
  Done (text ++ texts)

abbrev pub fit : List ℕ → Option (List ℕ)
fit text = if is_too_long text then None else Some text

unfoldable pub read_text : World → Doc → Option (List Token) → Serving (Option (List ℕ))
read_text w doc None = Done None
read_text w doc (Some ts) = do
  text ← tokens_text w doc ts
  Done (fit text)

-- a value with its variables filled in; none where a `$` has no name, or it is too long
unfoldable pub filled : World → Doc → List ℕ → Serving (Option (List ℕ))
filled w doc text = read_text w doc (tokens 0 text)

-- ---- conditions

-- what an expression says: true or false; or it can't be read; or its right side is a regular expression, of which there are
-- none here
pub data Truth : Type 0 where
  Is : (holds : Bool) → Truth
  Unread : Truth
  Pattern : Truth

abbrev pub is_equals : ℕ → Bool
is_equals b = b == 61

abbrev pub is_pattern : List ℕ → Bool
is_pattern text = starts_with nat_eq text (47 ∷ []) && ends_with nat_eq text (47 ∷ []) && nat_le 2 (length text)

abbrev pub is_full : Option (List ℕ) → Truth
is_full None = Unread
is_full (Some []) = Is false
is_full (Some (b ∷ text)) = Is true

abbrev pub same_text : (unequal : Bool) → Option (List ℕ) → Option (List ℕ) → Truth
same_text unequal None right = Unread
same_text unequal (Some left) None = Unread
same_text unequal (Some left) (Some right) = Is (if unequal then not (bytes_eq left right) else bytes_eq left right)

-- a side without the `!` of `!=`
abbrev pub without_last : List ℕ → List ℕ
without_last text = take (length text - 1) text

unfoldable pub compared : World → Doc → (unequal : Bool) → (left right : List ℕ) → Serving Truth
compared w doc unequal left right =
    if is_pattern right then Done Pattern
    else (do
      a ← filled w doc left
      b ← filled w doc right
      Done (same_text unequal a b))

abbrev pub left_side : List ℕ → List ℕ
left_side text = if ends_with nat_eq text (33 ∷ []) then without_last text else text

-- `text`, true where it isn't empty; `left = right` and `left != right`, by the first `=`
unfoldable pub truth : World → Doc → List ℕ → Serving Truth
truth w doc text =
    if list_any is_equals text
    then (let left = before_first is_equals text in
    compared w doc (ends_with nat_eq left (33 ∷ [])) (trimmed (left_side left)) (trimmed (after_first is_equals text)))
    else (do
      t ← filled w doc (trimmed text)
      Done (is_full t))

-- ---- encodings

abbrev pub entity_byte : ℕ → List ℕ
entity_byte b =
    if b == 60 then codes "&lt;"
    else (if b == 62 then codes "&gt;" else (if b == 38 then codes "&amp;" else (if b == 34 then codes "&quot;" else b ∷ [])))

abbrev pub is_unreserved : ℕ → Bool
is_unreserved b = is_ascii_alphanumeric b || (b == 45) || (b == 46) || (b == 95) || (b == 126)

abbrev pub url_byte : ℕ → List ℕ
url_byte b = if is_unreserved b then b ∷ [] else escape b

-- a value in an encoding, by its name; none where there is no such encoding
unfoldable pub encoded : List ℕ → List ℕ → Option (List ℕ)
encoded encoding text =
    if bytes_eq encoding (codes "entity") then Some (flat_map entity_byte text)
    else (if bytes_eq encoding (codes "url") then Some (flat_map url_byte text)
    else (if bytes_eq encoding (codes "none") then Some text else None))
