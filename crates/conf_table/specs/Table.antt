-- The directives and their rules.
use Rattle.std.specs.Prelude.{ℕ, Bool, true, false, ◌||◌, List, [], ◌∷◌, Option, None, Some, nat_eq, codes, if◌then◌else◌}
use Rattle.std.specs.List.{starts_with}
use Rattle.conf_table.specs.declared.rule.Contexts.{Contexts}
use Rattle.conf_table.specs.declared.role.Role.{Role}
use Rattle.conf_table.specs.declared.role.Role.TheVariants as roles
use Rattle.conf_table.specs.declared.role.Setting.TheVariants as settings
use Rattle.conf_table.specs.declared.role.Listing.TheVariants as listings
use Rattle.conf_table.specs.declared.role.Switch.TheVariants as switches
use Rattle.conf_table.specs.declared.role.Time.TheVariants as times
use Rattle.conf_table.specs.declared.rule.DirectiveRule.{DirectiveRule}

-- at the top alone
abbrev pub top : Contexts
top = record { top = true; events = false; http = false; server = false; location = false; server_if = false; location_if = false }

-- in `http`
abbrev pub http : Contexts
http = record { top = false; events = false; http = true; server = false; location = false; server_if = false; location_if = false }

-- in a server or a location
abbrev pub server_location : Contexts
server_location = record { top = false; events = false; http = false; server = true; location = true; server_if = false; location_if = false }

-- in `http`, a server or a location
abbrev pub http_server_location : Contexts
http_server_location = record { top = false; events = false; http = true; server = true; location = true; server_if = false; location_if = false }

-- in a server
abbrev pub server : Contexts
server = record { top = false; events = false; http = false; server = true; location = false; server_if = false; location_if = false }

-- in `http`, a server, a location or an `if` of one
abbrev pub http_server_location_if : Contexts
http_server_location_if = record { top = false; events = false; http = true; server = true; location = true; server_if = false; location_if = true }

-- in a location
abbrev pub location : Contexts
location = record { top = false; events = false; http = false; server = false; location = true; server_if = false; location_if = false }

-- in `http` or a server
abbrev pub http_server : Contexts
http_server = record { top = false; events = false; http = true; server = true; location = false; server_if = false; location_if = false }

-- in a server, a location or an `if` of either
abbrev pub server_location_ifs : Contexts
server_location_ifs = record { top = false; events = false; http = false; server = true; location = true; server_if = true; location_if = true }

-- in any place
abbrev pub anywhere : Contexts
anywhere = record { top = true; events = true; http = true; server = true; location = true; server_if = true; location_if = true }

-- a directive that may be once in a level, with `least` words at least, and at most `greatest` if there is a bound
abbrev pub once : Contexts → ℕ → Option ℕ → Role → DirectiveRule
once places least greatest role =
    record { places = places; least = least; greatest = greatest; block = false; many = false; ignored = false; role = role }

-- one that may be several times
abbrev pub many : Contexts → ℕ → Option ℕ → Role → DirectiveRule
many places least greatest role =
    record { places = places; least = least; greatest = greatest; block = false; many = true; ignored = false; role = role }

-- one with a block, which may be once
abbrev pub one_block : Contexts → ℕ → Option ℕ → Role → DirectiveRule
one_block places least greatest role =
    record { places = places; least = least; greatest = greatest; block = true; many = false; ignored = false; role = role }

-- one with a block, of which there may be several
abbrev pub blocks : Contexts → ℕ → Option ℕ → Role → DirectiveRule
blocks places least greatest role =
    record { places = places; least = least; greatest = greatest; block = true; many = true; ignored = false; role = role }

-- one that is accepted anywhere, with any words and several times, and has no effect
abbrev pub ignored : DirectiveRule
ignored = record { places = anywhere; least = 0; greatest = None; block = false; many = true; ignored = true; role = roles.Ignored }

-- the directives by name
unfoldable pub rows : List (List ℕ × DirectiveRule)
rows =
    (codes "absolute_redirect", once http_server_location 1 (Some 1) (roles.Setting (settings.Switch switches.AbsoluteRedirect)))
    ∷ (codes "access_log", ignored)
    ∷ (codes "add_after_body", once http_server_location 1 (Some 1) roles.Other)
    ∷ (codes "add_before_body", once http_server_location 1 (Some 1) roles.Other)
    ∷ (codes "addition_types", many http_server_location 1 None (roles.Listing listings.AdditionTypes))
    ∷ (codes "alias", once location 1 (Some 1) roles.Alias)
    ∷ (codes "allow", many http_server_location 1 (Some 1) (roles.Listing listings.Allow))
    ∷ (codes "auth_request", once http_server_location 1 (Some 1) roles.Other)
    ∷ (codes "auth_request_set", many http_server_location 2 (Some 2) roles.Set)
    ∷ (codes "break", many server_location_ifs 0 (Some 0) roles.Other)
    ∷ (codes "client_body_buffer_size", ignored)
    ∷ (codes "client_body_timeout", ignored)
    ∷ (codes "client_header_buffer_size", ignored)
    ∷ (codes "client_header_timeout", once http_server 1 (Some 1) (roles.Setting (settings.Time times.ClientHeaderTimeout)))
    ∷ (codes "client_max_body_size", once http_server_location 1 (Some 1) (roles.Setting settings.ClientMaxBodySize))
    ∷ (codes "daemon", ignored)
    ∷ (codes "default_type", once http_server_location 1 (Some 1) roles.DefaultType)
    ∷ (codes "deny", many http_server_location 1 (Some 1) (roles.Listing listings.Deny))
    ∷ (codes "error_log", ignored)
    ∷ (codes "error_page", many http_server_location_if 2 None (roles.Listing listings.ErrorPage))
    ∷ (codes "etag", ignored)
    ∷ (codes "events", one_block top 0 (Some 0) roles.Events)
    ∷ (codes "gzip", ignored)
    ∷ (codes "http", one_block top 0 (Some 0) roles.Http)
    ∷ (codes "if", blocks server_location 1 None roles.If)
    ∷ (codes "include", many anywhere 1 (Some 1) roles.Other)
    ∷ (codes "index", many http_server_location 1 None (roles.Listing listings.Index))
    ∷ (codes "internal", once location 0 (Some 0) roles.Internal)
    ∷ (codes "keepalive_requests", once http_server_location 1 (Some 1) (roles.Setting settings.KeepaliveRequests))
    ∷ (codes "keepalive_timeout", once http_server_location 1 (Some 2) (roles.Setting (settings.Time times.KeepaliveTimeout)))
    ∷ (codes "large_client_header_buffers", ignored)
    ∷ (codes "listen", many server 1 (Some 2) roles.Listen)
    ∷ (codes "location", blocks server_location 1 (Some 2) roles.Location)
    ∷ (codes "log_format", ignored)
    ∷ (codes "log_not_found", ignored)
    ∷ (codes "merge_slashes", once http_server 1 (Some 1) (roles.Setting (settings.Switch switches.MergeSlashes)))
    ∷ (codes "multi_accept", ignored)
    ∷ (codes "open_file_cache", ignored)
    ∷ (codes "output_buffers", ignored)
    ∷ (codes "pcre_jit", ignored)
    ∷ (codes "pid", ignored)
    ∷ (codes "port_in_redirect", once http_server_location 1 (Some 1) (roles.Setting (settings.Switch switches.PortInRedirect)))
    ∷ (codes "postpone_output", ignored)
    ∷ (codes "recursive_error_pages", once http_server_location 1 (Some 1) (roles.Setting (settings.Switch switches.RecursiveErrorPages)))
    ∷ (codes "return", many server_location_ifs 1 (Some 2) roles.Return)
    ∷ (codes "rewrite", many server_location_ifs 2 (Some 3) (roles.Listing listings.Rewrite))
    ∷ (codes "rewrite_log", ignored)
    ∷ (codes "root", once http_server_location_if 1 (Some 1) roles.Root)
    ∷ (codes "satisfy", once http_server_location 1 (Some 1) (roles.Setting settings.Satisfy))
    ∷ (codes "send_timeout", once http_server_location 1 (Some 1) (roles.Setting (settings.Time times.SendTimeout)))
    ∷ (codes "sendfile", ignored)
    ∷ (codes "server", blocks http 0 (Some 0) roles.Server)
    ∷ (codes "server_name", many server 1 None (roles.Listing listings.ServerName))
    ∷ (codes "server_name_in_redirect", once http_server_location 1 (Some 1) (roles.Setting (settings.Switch switches.ServerNameInRedirect)))
    ∷ (codes "server_names_hash_bucket_size", ignored)
    ∷ (codes "server_names_hash_max_size", ignored)
    ∷ (codes "server_tokens", ignored)
    ∷ (codes "set", many server_location_ifs 2 (Some 2) roles.Set)
    ∷ (codes "ssi", once http_server_location_if 1 (Some 1) (roles.Setting (settings.Switch switches.Ssi)))
    ∷ (codes "ssi_silent_errors", once http_server_location 1 (Some 1) (roles.Setting (settings.Switch switches.SsiSilentErrors)))
    ∷ (codes "ssi_types", many http_server_location 1 None (roles.Listing listings.SsiTypes))
    ∷ (codes "ssi_value_length", once http_server_location 1 (Some 1) (roles.Setting settings.SsiValueLength))
    ∷ (codes "ssi_visible", once http_server 1 None (roles.Listing listings.SsiVisible))
    ∷ (codes "ssl_prefer_server_ciphers", ignored)
    ∷ (codes "ssl_protocols", ignored)
    ∷ (codes "subrequest_output_buffer_size", once http_server_location 1 (Some 1) (roles.Setting settings.SubrequestOutputBufferSize))
    ∷ (codes "tcp_nodelay", ignored)
    ∷ (codes "tcp_nopush", ignored)
    ∷ (codes "try_files", once server_location 2 None (roles.Listing listings.TryFiles))
    ∷ (codes "types", blocks http_server_location 0 (Some 0) roles.Types)
    ∷ (codes "types_hash_bucket_size", ignored)
    ∷ (codes "types_hash_max_size", ignored)
    ∷ (codes "uninitialized_variable_warn", ignored)
    ∷ (codes "use", ignored)
    ∷ (codes "user", ignored)
    ∷ (codes "variables_hash_bucket_size", ignored)
    ∷ (codes "variables_hash_max_size", ignored)
    ∷ (codes "worker_connections", ignored)
    ∷ (codes "worker_processes", ignored)
    ∷ (codes "worker_rlimit_nofile", ignored)
    ∷ []

-- two texts are the same
unfoldable pub same_text : List ℕ → List ℕ → Bool
same_text [] [] = true
same_text [] (c ∷ cs) = false
same_text (b ∷ bs) [] = false
same_text (b ∷ bs) (c ∷ cs) = if nat_eq b c then same_text bs cs else false

-- the rule beside a name in a list
unfoldable pub rule_in : List (List ℕ × DirectiveRule) → List ℕ → Option DirectiveRule
rule_in [] name = None
rule_in (row ∷ more) name = if same_text row.0 name then Some row.1 else rule_in more name

-- the name begins with that of a family of directives that are accepted without effect
abbrev pub in_family : List ℕ → Bool
in_family name = starts_with nat_eq name (codes "gzip_") || starts_with nat_eq name (codes "open_file_cache_")

-- the first, or else the second
abbrev pub or_else : Option DirectiveRule → Option DirectiveRule → Option DirectiveRule
or_else (Some rule) other = Some rule
or_else None other = other

-- the rule of a name, if it is a directive's: that of its row, or that of its family
unfoldable pub entry_of : List ℕ → Option DirectiveRule
entry_of name = or_else (rule_in rows name) (if in_family name then Some ignored else None)
