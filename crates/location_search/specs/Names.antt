-- Locations by their names (https://nginx.org/en/docs/http/ngx_http_core_module.html#location).
use Rattle.std.specs.Prelude.{ℕ, List, Option, option_map, find, bytes_eq}
use Rattle.pattern_search.specs.site_model.declared.site.NamedLocation.{NamedLocation}

-- the level of the first that has the name
abbrev pub level_named : List NamedLocation → List ℕ → Option ℕ
level_named locations name = option_map (λ (l : NamedLocation). l.level) (find (λ (l : NamedLocation). bytes_eq l.name name) locations)
