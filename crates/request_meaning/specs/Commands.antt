-- What each command of a document does (https://nginx.org/en/docs/http/ngx_http_ssi_module.html#commands).
use Rattle.std.specs.Prelude.{ℕ, zero, suc, ◌+◌, ◌==◌, ◌&&◌, ◌||◌, nat_le, nat_lt, Bool, true, false, not, List, [], ◌∷◌, ◌++◌, length, codes, bytes_eq, sum_by, Option, None, Some, is_some, Result, Ok, Err, option_map, unwrap_or, if◌then◌else◌}
use Rattle.std.specs.List.{list_any, list_all, find, suffix_len}
use Rattle.std.specs.Prelude.{◌-◌, take}
use Rattle.acts.specs.Vars.{Vars, look, set}
use Rattle.acts.specs.Act.{Done, ◌>>=◌, ◌>>◌}
use Rattle.http_moment.specs.Shown.{is_format}
use Rattle.file_path.specs.ngx_variables.declared.request.Role.TheVariants.{Content}
use Rattle.file_path.specs.ngx_variables.Grammar.{lowercase, begins_with}
use Rattle.file_path.specs.ngx_variables.Texts.{is_too_long}
use Rattle.ssi_filter.specs.ssi_text.declared.part.Param.{Param}
use Rattle.uri_text.specs.declared.fault.UriFault.{UriFault}
use Rattle.uri_text.specs.Target.{normal_of}
use Rattle.request_meaning.specs.Serving.{World, Serving, Child, writes, asks, inner}
use Rattle.request_meaning.specs.Documents.{Doc, Branch, Truth, is_live, error_text, oops, live_oops, without, named_value, filled, truth, encoded}
use Rattle.request_meaning.specs.Documents.Branch.{NoIf, InIf}
use Rattle.request_meaning.specs.Documents.Truth.{Is, Unread, Pattern}

-- ---- names and parameters

pub data Word : Type 0 where
  Block EndBlock Config Echo If Elif Else EndIf Include Set : Word

unfoldable pub words : List (List ℕ × Word)
words =
    (codes "block", Block) ∷ (codes "endblock", EndBlock) ∷ (codes "config", Config) ∷ (codes "echo", Echo)
    ∷ (codes "if", If) ∷ (codes "elif", Elif) ∷ (codes "else", Else) ∷ (codes "endif", EndIf)
    ∷ (codes "include", Include) ∷ (codes "set", Set) ∷ []

unfoldable pub word_named : List ℕ → Option Word
word_named name = option_map (λ (e : List ℕ × Word). e.1) (find (λ (e : List ℕ × Word). bytes_eq e.0 name) words)

-- the parameters that a command may have, and those that it must have
unfoldable pub may_have : Word → List (List ℕ)
may_have Block = codes "name" ∷ []
may_have EndBlock = []
may_have Config = codes "errmsg" ∷ codes "timefmt" ∷ []
may_have Echo = codes "var" ∷ codes "default" ∷ codes "encoding" ∷ []
may_have If = codes "expr" ∷ []
may_have Elif = codes "expr" ∷ []
may_have Else = []
may_have EndIf = []
may_have Include = codes "virtual" ∷ codes "file" ∷ codes "stub" ∷ codes "wait" ∷ codes "set" ∷ []
may_have Set = codes "var" ∷ codes "value" ∷ []

unfoldable pub must_have : Word → List (List ℕ)
must_have Block = codes "name" ∷ []
must_have EndBlock = []
must_have Config = []
must_have Echo = codes "var" ∷ []
must_have If = codes "expr" ∷ []
must_have Elif = codes "expr" ∷ []
must_have Else = []
must_have EndIf = []
must_have Include = []
must_have Set = codes "var" ∷ codes "value" ∷ []

-- the value of a parameter
unfoldable pub param : List ℕ → List Param → Option (List ℕ)
param name ps = option_map (λ (p : Param). p.value) (find (λ (p : Param). bytes_eq p.name name) ps)

abbrev pub has : List ℕ → List Param → Bool
has name ps = is_some (param name ps)

-- each name is there once
unfoldable pub are_once : List Param → Bool
are_once [] = true
are_once (p ∷ ps) = not (has p.name ps) && are_once ps

-- no parameter is missing, repeated, unknown or too long (#ssi_value_length)
unfoldable pub are_params : (most : ℕ) → Word → List Param → Bool
are_params most word ps =
    list_all (λ (p : Param). list_any (bytes_eq p.name) (may_have word) && nat_le (length p.value) most) ps
    && are_once ps
    && list_all (λ name. has name ps) (must_have word)

abbrev pub text_of : List ℕ → List Param → List ℕ
text_of name ps = unwrap_or (param name ps) []

-- ---- if, elif, else, endif

abbrev pub in_branch : Doc → Branch → Doc
in_branch doc branch = record doc { branch = branch }

-- an expression whose right side is a regular expression writes the error text and is false
unfoldable pub opens : Doc → Truth → Serving Doc
opens doc (Is holds) = Done (in_branch doc (InIf holds holds false))
opens doc Pattern = do
  writes (error_text doc)
  Done (in_branch doc (InIf false false false))
opens doc Unread = oops doc

unfoldable pub opened : World → Doc → List ℕ → Serving Doc
opened w doc text = do
  t ← truth w doc text
  opens doc t

-- an `if` inside an `if` opens nothing
unfoldable pub if_done : World → Doc → List Param → Branch → Serving Doc
if_done w doc ps NoIf = opened w doc (text_of (codes "expr") ps)
if_done w doc ps (InIf live taken last) = live_oops doc

-- after a branch that was taken an `elif` isn't evaluated; one that can't be read leaves the `if` as it was
unfoldable pub elif_done : World → Doc → List Param → Branch → Serving Doc
elif_done w doc ps NoIf = oops doc
elif_done w doc ps (InIf live taken true) = live_oops doc
elif_done w doc ps (InIf live true false) = Done (in_branch doc (InIf false true false))
elif_done w doc ps (InIf live false false) = opened w doc (text_of (codes "expr") ps)

unfoldable pub else_done : Doc → Branch → Serving Doc
else_done doc NoIf = oops doc
else_done doc (InIf live taken true) = live_oops doc
else_done doc (InIf live taken false) = Done (in_branch doc (InIf (not taken) true true))

unfoldable pub endif_done : Doc → Branch → Serving Doc
endif_done doc NoIf = oops doc
endif_done doc (InIf live taken last) = Done (in_branch doc NoIf)

-- ---- blocks

-- how many bytes the blocks of other names have
unfoldable pub others_size : List ℕ → Vars → ℕ
others_size name blocks = sum_by (λ (e : List ℕ × List ℕ). length e.1) (without name blocks)

-- A block is kept under its name, in place of one that has it, unless the blocks would have more than 32768 bytes.
unfoldable pub block_closed : Doc → List ℕ → List ℕ → Serving Doc
block_closed doc name bytes =
    if nat_lt 32768 (others_size name doc.blocks + length bytes)
    then oops (record doc { block = None })
    else Done (record doc { block = None; blocks = set name bytes doc.blocks })

abbrev pub block_grown : Doc → List ℕ → List ℕ → List ℕ → Doc
block_grown doc name bytes more = record doc { block = Some (name, bytes ++ more) }

-- ---- config, echo, set

abbrev pub with_message : Option (List ℕ) → Doc → Doc
with_message None doc = doc
with_message (Some text) doc = record doc { message = text }

abbrev pub with_format : Option (List ℕ) → Doc → Doc
with_format None doc = doc
with_format (Some text) doc = record doc { format = text }

abbrev pub is_good_format : Option (List ℕ) → Bool
is_good_format None = true
is_good_format (Some format) = is_format format

-- at least one is to be set, and the time format must be one
unfoldable pub config_done : Doc → List Param → Serving Doc
config_done doc ps =
    let message = param (codes "errmsg") ps in
    let format = param (codes "timefmt") ps in
    if (is_some message || is_some format) && is_good_format format then Done (with_format format (with_message message doc)) else oops doc

abbrev pub echo_text : Doc → Option (List ℕ) → Serving Doc
echo_text doc None = oops doc
echo_text doc (Some text) = do
  writes text
  Done doc

abbrev pub or_default : List Param → Option (List ℕ) → List ℕ
or_default ps value = unwrap_or value (unwrap_or (param (codes "default") ps) (codes "(none)"))

abbrev pub fit_encoded : List ℕ → List ℕ → Option (List ℕ)
fit_encoded encoding text = if is_too_long text then None else encoded encoding text

-- the value in its encoding, or what `default` says where it is unset
unfoldable pub echo_done : World → Doc → List Param → Serving Doc
echo_done w doc ps = do
  value ← named_value w doc (text_of (codes "var") ps)
  echo_text doc (fit_encoded (unwrap_or (param (codes "encoding") ps) (codes "entity")) (or_default ps value))

abbrev pub kept : Doc → List ℕ → Option (List ℕ) → Serving Doc
kept doc name None = oops doc
kept doc name (Some text) = Done (record doc { ssi = set (lowercase name) text doc.ssi })

unfoldable pub set_done : World → Doc → List Param → Serving Doc
set_done w doc ps = do
  text ← filled w doc (text_of (codes "value") ps)
  kept doc (text_of (codes "var") ps) text

-- ---- include

-- `virtual` or `file`, not both; no `stub` with `set`, no `wait` with `file`; `wait` is `yes` or `no`; the block of a `stub` is
-- there
abbrev pub is_wait : Option (List ℕ) → Bool
is_wait None = true
is_wait (Some text) = bytes_eq text (codes "yes") || bytes_eq text (codes "no")

abbrev pub is_block : Doc → Option (List ℕ) → Bool
is_block doc None = true
is_block doc (Some name) = is_some (look doc.blocks name)

unfoldable pub is_include : Doc → List Param → Bool
is_include doc ps =
    (if has (codes "virtual") ps then not (has (codes "file") ps) else has (codes "file") ps)
    && not (has (codes "stub") ps && has (codes "set") ps)
    && not (has (codes "wait") ps && has (codes "file") ps)
    && is_wait (param (codes "wait") ps)
    && is_block doc (param (codes "stub") ps)

-- a document waits for the end of an include with `file`, with `wait="yes"` or with `set`
abbrev pub is_waited : List Param → Bool
is_waited ps = has (codes "file") ps || has (codes "set") ps || bytes_eq (text_of (codes "wait") ps) (codes "yes")

-- a path up to its last slash, with it
abbrev pub folder_of : List ℕ → List ℕ
folder_of path = take (length path - suffix_len (λ b. not (b == 47)) path) path

-- a path that doesn't begin with `/` is in the document's folder
abbrev pub in_folder : Doc → List ℕ → List ℕ
in_folder doc text = if begins_with 47 text then text else folder_of doc.request.path ++ text

abbrev pub stub_of : Doc → Option (List ℕ) → Option (List ℕ)
stub_of doc None = None
stub_of doc (Some name) = look doc.blocks name

-- the subrequest of an include, whose document begins with this one's variables
abbrev pub child_of : Doc → List Param → List ℕ → List ℕ → Child
child_of doc ps path args =
    record {
      main = doc.main;
      role = Content;
      path = path;
      args = args;
      ssi = doc.ssi;
      stub = stub_of doc (param (codes "stub") ps);
      waited = is_waited ps;
    }

-- a body that is longer than `subrequest_output_buffer_size` unsets the variable
unfoldable pub captured : Doc → List ℕ → List ℕ → Serving Doc
captured doc name bytes =
    if nat_lt doc.values.capture_most (length bytes)
    then oops (record doc { ssi = without name doc.ssi })
    else Done (record doc { ssi = set name bytes doc.ssi })

-- with `set` the body goes into a variable of the document; else it is put here
unfoldable pub include_child : Doc → Child → Option (List ℕ) → Serving Doc
include_child doc child None = do
  inner child
  Done doc
include_child doc child (Some name) = do
  reply ← asks child
  captured doc (lowercase name) reply.body

-- no subrequest is deeper than 50
unfoldable pub included : Doc → List Param → (left : ℕ) → List ℕ → List ℕ → Serving Doc
included doc ps zero path args = oops doc
included doc ps (suc left) path args = include_child doc (child_of doc ps path args) (param (codes "set") ps)

abbrev pub include_at : Doc → List Param → Result (List ℕ × List ℕ) UriFault → Serving Doc
include_at doc ps (Ok t) = included doc ps doc.left t.0 t.1
include_at doc ps (Err fault) = oops doc

abbrev pub include_text : World → Doc → List Param → Option (List ℕ) → Serving Doc
include_text w doc ps None = oops doc
include_text w doc ps (Some text) = include_at doc ps (normal_of (in_folder doc text) w.server.merge)

abbrev pub included_name : List Param → List ℕ
included_name ps = unwrap_or (param (codes "virtual") ps) (text_of (codes "file") ps)

unfoldable pub include_done : World → Doc → List Param → Serving Doc
include_done w doc ps =
    if is_include doc ps
    then (do
      text ← filled w doc (included_name ps)
      include_text w doc ps text)
    else oops doc

-- ---- commands

abbrev pub if_live : Doc → Serving Doc → Serving Doc
if_live doc act = if is_live doc.branch then act else Done doc

unfoldable pub done : World → Doc → Word → List Param → Serving Doc
done w doc Block ps = if_live doc (Done (record doc { block = Some (text_of (codes "name") ps, []) }))
done w doc EndBlock ps = live_oops doc
done w doc Config ps = if_live doc (config_done doc ps)
done w doc Echo ps = if_live doc (echo_done w doc ps)
done w doc If ps = if_done w doc ps doc.branch
done w doc Elif ps = elif_done w doc ps doc.branch
done w doc Else ps = else_done doc doc.branch
done w doc EndIf ps = endif_done doc doc.branch
done w doc Include ps = if_live doc (include_done w doc ps)
done w doc Set ps = if_live doc (set_done w doc ps)

abbrev pub by_word : World → Doc → List Param → Option Word → Serving Doc
by_word w doc ps None = live_oops doc
by_word w doc ps (Some word) = if are_params doc.values.value_most word ps then done w doc word ps else live_oops doc

-- A command of the document, outside a block. In a branch that isn't taken none does anything but those of the `if`.
unfoldable pub command : World → Doc → List ℕ → List Param → Serving Doc
command w doc name ps = by_word w doc ps (word_named name)

-- inside a block every command but `endblock` adds the error text to the block
unfoldable pub block_command : Doc → List ℕ → List ℕ → List ℕ → List Param → Serving Doc
block_command doc block bytes name [] = if bytes_eq name (codes "endblock") then block_closed doc block bytes else Done (block_grown doc block bytes (error_text doc))
block_command doc block bytes name (p ∷ ps) = Done (block_grown doc block bytes (error_text doc))
