-- What the acts of a document's values come to, at the variables that are set: the values of names, texts with variables, and
-- conditions (https://nginx.org/en/docs/http/ngx_http_ssi_module.html).
use Rattle.std.specs.Prelude.{◌≡◌, ℕ, nat_eq, ◌==◌, ◌||◌, Bool, List, [], ◌∷◌, ◌++◌, Option, None, Some, unwrap_or, Result, Ok, Err, if◌then◌else◌}
use Rattle.std.specs.List.{list_any, before_first, after_first, ends_with}
use Rattle.acts.specs.Vars.{Vars, look}
use Rattle.acts.specs.Act.{Done, settled}
use Rattle.http_moment.specs.Shown.{shown_text}
use Rattle.ngx_variables.specs.declared.request.Main.{Main}
use Rattle.ngx_variables.specs.declared.request.Request.{Request}
use Rattle.ngx_variables.specs.declared.compile.Reference.{Reference}
use Rattle.ngx_variables.specs.declared.fault.ValueFault.{ValueFault}
use Rattle.ngx_variables.specs.declared.value.Piece.{Piece}
use Rattle.ngx_variables.specs.declared.value.Piece.TheVariants.{Set}
use Rattle.ngx_variables.specs.Grammar.{Token, lowercase, name_in, piece_named}
use Rattle.ngx_variables.specs.Grammar.Token.{Bytes, Name}
use Rattle.ngx_variables.specs.Pairs.{trimmed}
use Rattle.ngx_variables.specs.Texts.{value_text}
use Rattle.request_meaning.specs.Serving.{World}
use Rattle.request_meaning.specs.Documents.{Doc, Truth, dated, fit, filled, is_equals, is_full, is_pattern, is_visible, left_side, named_value, same_text, tokens, truth}
use Rattle.request_meaning.specs.Documents.Truth.{Is, Unread, Pattern}
use Rattle.ssi_values.specs.declared.sight.Sight.{Sight}
use Rattle.ssi_values.specs.declared.conditions.Truth.{Truth as CodeTruth}
use Rattle.ssi_values.specs.declared.conditions.Truth.TheVariants as truths

-- What names are looked up in: the main request, with its date as the document shows it; the request that the document
-- answers; the document's own variables; the names that it sees of those that are set; and these.
pub record Known : Type 0 where
  pub main : Main
  pub request : Request
  pub ssi : Vars
  pub visible : Option (List (List ℕ))
  pub vars : Vars

abbrev pub dated_main : Main → (format : List ℕ) → Main
dated_main main format = record main { date = shown_text main.moment format }

abbrev pub known_seen : Sight → Known
known_seen s =
    record {
      main = dated_main s.main.now s.format.now;
      request = s.request.now;
      ssi = s.ssi.now;
      visible = s.visible.now;
      vars = s.vars.now;
    }

-- what a document of the meaning looks names up in
abbrev pub known : World → Doc → Vars → Known
known w doc vars =
    record { main = dated doc; request = doc.request; ssi = doc.ssi; visible = w.server.visible; vars = vars }

-- ---- names

abbrev pub seen_value : Known → List ℕ → Option (List ℕ)
seen_value k name = if is_visible k.visible name then look k.vars name else None

abbrev pub site_text : Known → Piece → Option (List ℕ)
site_text k (Set name) = seen_value k name
site_text k other = Some (value_text k.main k.request k.vars (other ∷ []))

abbrev pub own_else : Option (List ℕ) → Option (List ℕ) → Option (List ℕ)
own_else None other = other
own_else (Some value) other = Some value

unfoldable pub named_text : Known → List ℕ → Option (List ℕ)
named_text k name = own_else (look k.ssi (lowercase name)) (site_text k (piece_named (lowercase name)))

-- ---- texts with variables

-- the name after a `$`, and how many bytes it takes there
abbrev pub name_of : List ℕ → Result Reference ValueFault → Option (List ℕ × ℕ)
name_of bytes (Ok r) = Some (name_in bytes r, r.size)
name_of bytes (Err fault) = None

abbrev pub token_value : Known → Token → List ℕ
token_value k (Bytes bytes) = bytes
token_value k (Name name) = unwrap_or (named_text k name) []

unfoldable pub tokens_value : Known → List Token → List ℕ
tokens_value k [] = []
tokens_value k (t ∷ ts) = token_value k t ++ tokens_value k ts

-- a text read, however long it is
abbrev pub read_value : Known → Option (List Token) → Option (List ℕ)
read_value k None = None
read_value k (Some ts) = Some (tokens_value k ts)

unfoldable pub rest_value : Known → List ℕ → Option (List ℕ)
rest_value k text = read_value k (tokens 0 text)

abbrev pub fit_value : Option (List ℕ) → Option (List ℕ)
fit_value None = None
fit_value (Some text) = fit text

unfoldable pub filled_text : Known → List ℕ → Option (List ℕ)
filled_text k text = fit_value (rest_value k text)

-- a byte that a variable or an escape begins with
abbrev pub is_mark : ℕ → Bool
is_mark b = (b == 36) || (b == 92)

-- bytes before a text, if there is one
abbrev pub behind : List ℕ → Option (List ℕ) → Option (List ℕ)
behind front None = None
behind front (Some text) = Some (front ++ text)

-- ---- conditions

abbrev pub compared_truth : Known → (unequal : Bool) → (left right : List ℕ) → Truth
compared_truth k unequal left right =
    if is_pattern right then Pattern else same_text unequal (filled_text k left) (filled_text k right)

abbrev pub sides_truth : Known → (left right : List ℕ) → Truth
sides_truth k left right =
    compared_truth k (ends_with nat_eq left (33 ∷ [])) (trimmed (left_side left)) (trimmed right)

unfoldable pub truth_of : Known → List ℕ → Truth
truth_of k text =
    if list_any is_equals text
    then sides_truth k (before_first is_equals text) (after_first is_equals text)
    else is_full (filled_text k (trimmed text))

abbrev pub truth_seen : CodeTruth → Truth
truth_seen (truths.Is holds) = Is holds
truth_seen truths.Unread = Unread
truth_seen truths.Pattern = Pattern

-- ---- the acts of the meaning

abbrev pub NamedSettles : Type 0
NamedSettles =
    (w : World) (doc : Doc) (vars : Vars) (name : List ℕ)
    → settled (named_value w doc name) vars ≡ (Done (named_text (known w doc vars) name), vars)

abbrev pub FilledSettles : Type 0
FilledSettles =
    (w : World) (doc : Doc) (vars : Vars) (text : List ℕ)
    → settled (filled w doc text) vars ≡ (Done (filled_text (known w doc vars) text), vars)

abbrev pub TruthSettles : Type 0
TruthSettles =
    (w : World) (doc : Doc) (vars : Vars) (text : List ℕ)
    → settled (truth w doc text) vars ≡ (Done (truth_of (known w doc vars) text), vars)
