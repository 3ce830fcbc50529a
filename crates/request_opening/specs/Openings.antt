-- What a main request starts with, as the recursive meaning has it.
use Rattle.std.specs.Prelude.{ℕ, List, None, false}
use Rattle.http_types.specs.declared.words.Addr.{Addr}
use Rattle.http_moment.specs.Shown.{shown_text, default_format}
use Rattle.ngx_outside.specs.Views.{Start}
use Rattle.ngx_pattern.specs.Pattern.{Pattern as SetPattern}
use Rattle.ngx_variables.specs.declared.request.Main.{Main}
use Rattle.ngx_variables.specs.declared.request.Request.{Request}
use Rattle.ngx_variables.specs.declared.request.Role.TheVariants as roles
use Rattle.request_phases.specs.pattern_search.Found.{patterns_seen, found}
use Rattle.site_whole.specs.site_model.declared.site.Site.{Site}
use Rattle.site_whole.specs.Whole.{whole}
use Rattle.request_phases.specs.request_meaning.Laws.{shipped}
use Rattle.answers_meaning.specs.Asking.{Service}
use Rattle.request_phases.specs.declared.ground.Ground.{Ground}
use Rattle.request_phases.specs.declared.state.Phases.{Phases}
use Rattle.request_opening.specs.declared.asked.Opening.{Opening}

-- what a connection with these ends is served: the site, its patterns, and the filters that a server has
abbrev pub service_of : List SetPattern → Site → (local peer : Addr) → Service
service_of patterns site local peer =
    record {
      site = whole (patterns_seen patterns) site;
      finds = found;
      members = shipped;
      local = local;
      peer = peer;
    }

abbrev pub start_at : Opening → Start
start_at o = record { moment = o.moment; tree = o.tree }

-- what the variables of a main request mean
unfoldable pub main_at : Ground → Opening → Main
main_at g o =
    record {
      asked = o.head.method;
      method = o.head.method;
      version = o.head.version;
      target = o.head.target;
      host = o.head.host;
      server_name = g.server.now.first_name;
      local = o.local;
      peer = o.peer;
      moment = o.moment;
      tree = o.tree;
      date = shown_text o.moment default_format;
      fields = o.head.fields;
      folder = g.site.now.folder;
    }

-- the phases of a main request, before they begin: ten changes are left
abbrev pub phases_at : (level : ℕ) → Main → Request → Phases
phases_at level main request =
    record {
      main = main;
      at = record { request = request; level = level; inside = false; seeks = false };
      changes = 10;
      error = None;
      closes = false;
      role = roles.Main;
    }

-- what the variables mean, where what is made anew stays as it was
abbrev pub main_with : Opening → Main → Main
main_with o main = record main {
  method = o.head.method;
  version = o.head.version;
  target = o.head.target;
  host = o.head.host;
  local = o.local;
  peer = o.peer;
  moment = o.moment;
  tree = o.tree;
  date = shown_text o.moment default_format;
  fields = o.head.fields;
}
