-- What a request's head asks for, of which server, and what its variables mean.
use Rattle.std.specs.Prelude.{ℕ, List, [], ◌∷◌, ◌++◌, Option, None, Result, Ok, Err}
use Rattle.filter_api.specs.Members.{Member}
use Rattle.http_moment.specs.Shown.{shown_text, default_format}
use Rattle.http_types.specs.declared.words.Addr.{Addr}
use Rattle.http_types.specs.declared.words.BodyKind.{BodyKind}
use Rattle.http_types.specs.declared.words.BodyKind.TheVariants.{Empty, Length, Chunked}
use Rattle.ngx_outside.specs.Views.{Start}
use Rattle.family_meaning.specs.ngx_variables.declared.request.Main.{Main}
use Rattle.family_meaning.specs.ngx_variables.declared.request.Request.{Request}
use Rattle.family_meaning.specs.ngx_variables.declared.request.Role.TheVariants as role
use Rattle.req_head.specs.declared.head.Head.{Head}
use Rattle.uri_text.specs.declared.fault.UriFault.{UriFault}
use Rattle.uri_text.specs.Target.{normal_of}
use Rattle.family_meaning.specs.site_views.Pattern.{Finds}
use Rattle.family_meaning.specs.site_views.Views.{SiteView, ServerView}
use Rattle.family_meaning.specs.site_views.Choice.{server_of}
use Rattle.family_meaning.specs.request_meaning.Serving.{World}

-- what a connection is served: a site, what its patterns find, the body filters, and the connection's two ends
pub record Service : Type 0 where
  pub site : SiteView
  pub finds : Finds
  pub members : List Member
  pub local : Addr
  pub peer : Addr

-- what the variables of a main request mean
unfoldable pub main_of : Service → Start → ServerView → Head → Main
main_of service start server head =
    record {
      asked = head.method;
      method = head.method;
      version = head.version;
      target = head.target;
      host = head.host;
      server_name = server.first_name;
      local = service.local;
      peer = service.peer;
      moment = start.moment;
      tree = start.tree;
      date = shown_text start.moment default_format;
      fields = head.fields;
      folder = service.site.folder;
    }

-- the path and the arguments that a head's target names; a head whose target names none is refused before
abbrev pub target_by : Result (List ℕ × List ℕ) UriFault → List ℕ × List ℕ
target_by (Ok t) = t
target_by (Err fault) = ([], [])

unfoldable pub target_of : ServerView → Head → List ℕ × List ℕ
target_of server head = target_by (normal_of head.target server.merge)

unfoldable pub request_of : ServerView → Head → Request
request_of server head =
    record {
      method = head.method;
      path = (target_of server head).0;
      args = (target_of server head).1;
      groups = [];
      place = None;
      role = role.Main;
    }

-- the length that the head states of its body; a chunked body has none
abbrev pub stated_length : BodyKind → ℕ
stated_length Empty = 0
stated_length (Length count) = count
stated_length Chunked = 0

unfoldable pub world_of : Service → ServerView → Head → World
world_of service server head = record { server = server; finds = service.finds; members = service.members; length = stated_length head.body }

-- the server that answers a head; there is one wherever a connection can be opened
unfoldable pub server_for : Service → Head → Option ServerView
server_for service head = server_of service.finds service.site.servers service.local head.host
