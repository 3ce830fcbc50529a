-- What the rows are served by: a plain server, requests to it, and small trees.
use Rattle.std.specs.Prelude.{ℕ, Bool, true, false, List, [], ◌∷◌, codes, bytes_eq, Option, None, if◌then◌else◌}
use Rattle.error_page.specs.Page.{page_of}
use Rattle.std.specs.Prelude.{◌&&◌, ◌+◌, length}
use Rattle.std.specs.Bool.{beq}
use Rattle.request_meaning.specs.Responses.{response, keeps, log_of}
use Prim.Native.String.{String}
use Rattle.std.specs.declared.net.ip_addr.IpAddr.{IpAddr}
use Rattle.std.specs.declared.net.ip_addr.IpAddr.TheVariants.{V4}
use Rattle.http_header.specs.HeaderMap.{Entries}
use Rattle.http_header.specs.FieldValue.{FieldValue}
use Rattle.http_types.specs.declared.words.Method.{Method}
use Rattle.http_types.specs.declared.words.Method.TheVariants.{Get}
use Rattle.http_types.specs.declared.words.Version.TheVariants.{V11}
use Rattle.file_tree.specs.Tree.{Tree, AFile, AFolder, ALocked, Nothing}
use Rattle.file_type.specs.Types.{TypeList}
use Rattle.filter_api.specs.Members.{Member}
use Rattle.ssi_filter.specs.Machine.{ssi_member}
use Rattle.addition_filter.specs.Machine.{addition_member}
use Rattle.ngx_variables.specs.declared.request.Main.{Main}
use Rattle.ngx_variables.specs.declared.request.Request.{Request}
use Rattle.ngx_variables.specs.declared.request.Role.TheVariants as role
use Rattle.ngx_variables.specs.declared.request.FileRoot.TheVariants.{Root}
use Rattle.ngx_variables.specs.declared.value.Piece.TheVariants.{Literal}
use Rattle.site_views.specs.Pattern.{Pattern, Finds, Span}
use Rattle.site_views.specs.Values.{Values, Text, MediaTypes}
use Rattle.site_views.specs.Views.{LevelView, Locations, Matching, ServerView}
use Rattle.site_views.specs.Views.Locations.{NoMore, Location}
use Rattle.site_views.specs.Rewrites.{Program}
use Rattle.request_meaning.specs.Serving.{World, Reply}
use Rattle.request_meaning.specs.Replies.{main_reply}
use Rattle.request_meaning.specs.Counts.{subs, cost}

abbrev pub ipv4 : ℕ → ℕ → ℕ → ℕ → IpAddr
ipv4 a b c d = V4 (record { octets = a ∷ b ∷ c ∷ d ∷ [] })

abbrev pub lit : String → Text
lit text = Literal (codes text) ∷ []

abbrev pub no_types : MediaTypes
no_types = record { every = false; types = [] }

abbrev pub html : TypeList
html = record { entries = record { extension = codes "html"; media_type = codes "text/html" } ∷ []; default_type = codes "text/plain" }

-- the values that hold where nothing is stated but `root /w;`
abbrev pub plain : Values
plain = record {
  place = Root (lit "/w");
  types = html;
  index = record { text = lit "index.html"; is_path = false } ∷ [];
  tries = None;
  internal = false;
  pages = [];
  recursive = false;
  body_most = 1048576;
  requests = 1000;
  idle = 75000;
  send_wait = 60000;
  head_wait = 60000;
  absolute = true;
  with_port = true;
  with_server_name = false;
  any = false;
  rules = [];
  auth = None;
  auth_sets = [];
  ssi = false;
  silent = false;
  ssi_types = no_types;
  value_most = 256;
  capture_most = 4096;
  before = None;
  after = None;
  addition_types = no_types;
}

abbrev pub with_ssi : Values
with_ssi = record plain { ssi = true }

abbrev pub level : Values → Program → LevelView
level values program = record { values = values; program = program }

abbrev pub server : LevelView → Locations → ServerView
server own locations = record {
  listens = record { addr = record { ip = ipv4 0 0 0 0; port = 80 }; default = false } ∷ [];
  names = [];
  first_name = [];
  level = own;
  locations = locations;
  named = [];
  merge = true;
  visible = None;
}

abbrev pub at : Matching → Values → Program → Locations → Locations
at matching values program later = Location (record { matching = matching; level = level values program }) NoMore later

abbrev pub no_pattern : Finds
no_pattern pattern bytes = None

abbrev pub members : List Member
members = ssi_member ∷ addition_member ∷ []

abbrev pub world : ServerView → World
world s = record { server = s; finds = no_pattern; members = members; length = 0 }

abbrev pub main_with : Method → List ℕ → Entries FieldValue → Main
main_with method target fields = record {
  asked = method;
  method = method;
  version = V11;
  target = target;
  host = codes "a";
  server_name = [];
  local = record { ip = ipv4 127 0 0 1; port = 80 };
  peer = record { ip = ipv4 10 0 0 1; port = 5000 };
  moment = 0;
  tree = 0;
  date = [];
  fields = fields;
  folder = [];
}

abbrev pub request_with : Method → List ℕ → List ℕ → Request
request_with method path args = record { method = method; path = path; args = args; groups = []; place = None; role = role.Main }

-- a file of a tree
abbrev pub file : String → String → Tree → Tree
file path bytes tree p = if bytes_eq p (codes path) then AFile (codes bytes) 0 else tree p

abbrev pub folder : String → Tree → Tree
folder path tree p = if bytes_eq p (codes path) then AFolder else tree p

abbrev pub locked : String → Tree → Tree
locked path tree p = if bytes_eq p (codes path) then ALocked else tree p

abbrev pub none : Tree
none p = Nothing

-- the reply to GET of a path
abbrev pub get : World → Tree → String → Reply
get w tree path = main_reply w tree (main_with Get (codes path) []) (request_with Get (codes path) [])

abbrev pub subs_of : World → Tree → String → ℕ
subs_of w tree path = subs w tree (main_with Get (codes path) []) (request_with Get (codes path) [])

-- what a row shows of a reply: status, body, the target of a redirect, whether it closes
pub record Shows : Type 0 where
  pub status : ℕ
  pub body : List ℕ
  pub location : Option (List ℕ)
  pub closes : Bool

abbrev pub shows : Reply → Shows
shows r = record { status = r.answer.status; body = r.body; location = r.answer.location; closes = r.answer.closes }

abbrev pub gives : ℕ → String → Shows
gives status body = record { status = status; body = codes body; location = None; closes = false }

abbrev pub cost_of : World → Tree → String → ℕ
cost_of w tree path = cost w tree (main_with Get (codes path) []) (request_with Get (codes path) [])

-- an error, whose body is its built-in page
abbrev pub fails : ℕ → (closes : Bool) → Shows
fails code closes = record { status = code; body = page_of code; location = None; closes = closes }

-- ---- rows that an independent model answered

abbrev pub file_at : List ℕ → List ℕ → ℕ → Tree → Tree
file_at path bytes date tree p = if bytes_eq p path then AFile bytes date else tree p

abbrev pub folder_at : List ℕ → Tree → Tree
folder_at path tree p = if bytes_eq p path then AFolder else tree p

abbrev pub locked_at : List ℕ → Tree → Tree
locked_at path tree p = if bytes_eq p path then ALocked else tree p

abbrev pub same_pattern : Pattern → Pattern → Bool
same_pattern a b = bytes_eq a.text b.text && beq a.nocase b.nocase

-- what patterns find, by a table of all searches
abbrev pub by_table : List (Pattern × List ℕ × Option (List Span)) → Finds
by_table [] p bytes = None
by_table (e ∷ table) p bytes = if same_pattern e.0 p && bytes_eq e.1 bytes then e.2 else by_table table p bytes

pub record Crossed : Type 0 where
  pub bytes : List ℕ
  pub status : ℕ
  pub size : ℕ
  pub subs : ℕ
  pub cost : ℕ

abbrev pub crossed_with : Reply → World → Tree → Main → Request → (keep no_body : Bool) → (cost : ℕ) → Crossed
crossed_with r w tree main request keep no_body cost =
    let bytes = response r 0 main.version no_body (keeps 0 keep main.version r.answer) in
    record { bytes = bytes; status = (log_of r no_body).0; size = (log_of r no_body).1; subs = subs w tree main request; cost = cost }

abbrev pub crossed : World → Tree → Main → Request → (keep no_body : Bool) → Crossed
crossed w tree main request keep no_body = crossed_with (main_reply w tree main request) w tree main request keep no_body 0

abbrev pub crossed_all : World → Tree → Main → Request → (keep no_body : Bool) → Crossed
crossed_all w tree main request keep no_body =
    let r = main_reply w tree main request in
    crossed_with r w tree main request keep no_body (cost w tree main request + length (response r 0 main.version no_body (keeps 0 keep main.version r.answer)))
