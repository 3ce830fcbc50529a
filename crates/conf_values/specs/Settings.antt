-- The values of directives that are numbers or choices, and that levels inherit.
use Rattle.std.specs.Prelude.{ℕ, List, [], ◌∷◌, Bool, true, false, Option, None, Some, is_some, unwrap_or, codes, bytes_eq, if◌then◌else◌}
use Rattle.std.specs.List.{list_all}
use Rattle.conf_table.specs.declared.role.Setting.{Setting}
use Rattle.conf_table.specs.declared.role.Setting.TheVariants as settings
use Rattle.conf_table.specs.declared.role.Switch.{Switch}
use Rattle.conf_table.specs.declared.role.Switch.TheVariants as switches
use Rattle.conf_table.specs.declared.role.Time.{Time}
use Rattle.conf_table.specs.declared.role.Time.TheVariants as times
use Rattle.conf_values.specs.declared.settings.Settings.{Settings}
use Rattle.conf_values.specs.Numbers.{count_of, count_to, time_of, size_of, size_to}

-- `on` or `off`
unfoldable pub switch_of : List ℕ → Option Bool
switch_of word = if bytes_eq word (codes "on") then Some true else (if bytes_eq word (codes "off") then Some false else None)

-- `any` or `all`
unfoldable pub any_of : List ℕ → Option Bool
any_of word = if bytes_eq word (codes "any") then Some true else (if bytes_eq word (codes "all") then Some false else None)

-- the word has a value of the directive
abbrev pub is_value : Setting → List ℕ → Bool
is_value (settings.Switch switch) word = is_some (switch_of word)
is_value (settings.Time time) word = is_some (time_of word)
is_value settings.KeepaliveRequests word = is_some (count_of word)
is_value settings.SsiValueLength word = is_some (count_to 8192 word)
is_value settings.ClientMaxBodySize word = is_some (size_of word)
is_value settings.SubrequestOutputBufferSize word = is_some (size_to 16384 word)
is_value settings.Satisfy word = is_some (any_of word)

-- and so has each of its words
abbrev pub are_values : Setting → List (List ℕ) → Bool
are_values setting words = list_all (is_value setting) words

-- the values that hold where nothing is stated (nginx's documentation, the pages of the modules)
abbrev pub default_settings : Settings
default_settings = record {
  requests = 1000;
  idle = 75000;
  send_wait = 60000;
  head_wait = 60000;
  body_most = 1048576;
  value_most = 256;
  capture_most = 4096;
  absolute = true;
  with_port = true;
  with_server_name = false;
  merge = true;
  recursive = false;
  any = false;
  ssi = false;
  silent = false;
}

-- a value of a directive, where there is one, over the values that hold around it
abbrev pub with_switch : Switch → Option Bool → Settings → Settings
with_switch switches.AbsoluteRedirect on s = record s { absolute = unwrap_or on s.absolute }
with_switch switches.PortInRedirect on s = record s { with_port = unwrap_or on s.with_port }
with_switch switches.ServerNameInRedirect on s = record s { with_server_name = unwrap_or on s.with_server_name }
with_switch switches.MergeSlashes on s = record s { merge = unwrap_or on s.merge }
with_switch switches.RecursiveErrorPages on s = record s { recursive = unwrap_or on s.recursive }
with_switch switches.Ssi on s = record s { ssi = unwrap_or on s.ssi }
with_switch switches.SsiSilentErrors on s = record s { silent = unwrap_or on s.silent }

abbrev pub with_time : Time → Option ℕ → Settings → Settings
with_time times.KeepaliveTimeout wait s = record s { idle = unwrap_or wait s.idle }
with_time times.ClientHeaderTimeout wait s = record s { head_wait = unwrap_or wait s.head_wait }
with_time times.SendTimeout wait s = record s { send_wait = unwrap_or wait s.send_wait }

-- a directive's word over the values that hold around it; a word without a value states nothing
unfoldable pub with_word : Setting → List ℕ → Settings → Settings
with_word (settings.Switch switch) word s = with_switch switch (switch_of word) s
with_word (settings.Time time) word s = with_time time (time_of word) s
with_word settings.KeepaliveRequests word s = record s { requests = unwrap_or (count_of word) s.requests }
with_word settings.SsiValueLength word s = record s { value_most = unwrap_or (count_to 8192 word) s.value_most }
with_word settings.ClientMaxBodySize word s = record s { body_most = unwrap_or (size_of word) s.body_most }
with_word settings.SubrequestOutputBufferSize word s = record s { capture_most = unwrap_or (size_to 16384 word) s.capture_most }
with_word settings.Satisfy word s = record s { any = unwrap_or (any_of word) s.any }

-- the first of a directive's words is its value
abbrev pub with_words : Setting → List (List ℕ) → Settings → Settings
with_words setting [] s = s
with_words setting (word ∷ words) s = with_word setting word s
