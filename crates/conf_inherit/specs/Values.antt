-- What a block states, and what holds in a level.
use Rattle.std.specs.Prelude.{ℕ, Bool, true, false, ◌||◌, List, [], ◌∷◌, ◌++◌, map, codes, bytes_eq, Option, None, Some, unwrap_or, option_map, is_some, if◌then◌else◌}
use Rattle.std.specs.Option.{option_and_then}
use Rattle.file_type.specs.Types.{TypeList}
use Rattle.file_type.specs.declared.types.TypeEntry.{TypeEntry}
use Rattle.ngx_variables.specs.declared.request.FileRoot.{FileRoot}
use Rattle.ngx_variables.specs.declared.request.FileRoot.TheVariants.{Root, Rest, Whole}
use Rattle.site_views.specs.Values.{Values as AllValues, Tries, MediaTypes}
use Rattle.site_views.specs.Views.{LevelView}
use Rattle.site_whole.specs.Whole.{default_index, no_media}
use Rattle.conf_text.specs.declared.directive.Directive.{Directive}
use Rattle.conf_table.specs.declared.role.Role.{Role}
use Rattle.conf_table.specs.declared.role.Role.TheVariants as roles
use Rattle.conf_values.specs.declared.settings.Settings.{Settings}
use Rattle.conf_values.specs.Settings.{default_settings, with_words}
use Rattle.conf_values.specs.Texts.{pieces_of}
use Rattle.conf_lists.specs.Words.{tries_of, variables_in}
use Rattle.conf_lists.specs.Lists.{Lists, stated_lists}
use Rattle.conf_block.specs.Forest.{Forest, roots}
use Rattle.conf_block.specs.Roles.{role_of}
use Rattle.conf_block.specs.Blocks.{Block, blocks_of, block_of}
use Rattle.rewrite_compile.specs.Programs.{parts_of}
use Rattle.conf_inherit.specs.Programs.{program_of, blocks_in}

abbrev pub first_word : List (List ℕ) → Option (List ℕ)
first_word [] = None
first_word (word ∷ words) = Some word

-- the first word of the first directive of this name
abbrev pub word_in : List ℕ → Forest → Option (List ℕ)
word_in name level = option_and_then (λ b. first_word b.head.args) (block_of name level)

-- the values that hold in a level, and are inherited
pub record Values : Type 0 where
  pub place : FileRoot
  pub types : TypeList
  pub settings : Settings
  pub lists : Lists
  -- the subrequest that decides on access, and those before and after a body
  pub auth : Option (List ℕ)
  pub before : Option (List ℕ)
  pub after : Option (List ℕ)
  -- the variables that documents see
  pub visible : Option (List (List ℕ))
  -- it is asked from inside alone
  pub internal : Bool

-- what a block states: each of these, or not; and what its directives make of the settings around it
pub record Stated : Type 0 where
  pub place : Option FileRoot
  pub entries : Option (List TypeEntry)
  pub default_type : Option (List ℕ)
  pub settings : Settings → Settings
  pub lists : Lists
  pub auth : Option (Option (List ℕ))
  pub before : Option (Option (List ℕ))
  pub after : Option (Option (List ℕ))
  pub visible : Option (List (List ℕ))
  pub internal : Bool

abbrev pub entry_with : (media_type extension : List ℕ) → TypeEntry
entry_with media_type extension = record { extension = extension; media_type = media_type }

-- a line of `types`: the extensions of a media type
abbrev pub line_entries : Directive → List TypeEntry
line_entries line = map (entry_with line.name) line.args

abbrev pub lines_entries : List Directive → List TypeEntry
lines_entries [] = []
lines_entries (line ∷ lines) = line_entries line ++ lines_entries lines

abbrev pub all_entries : List Block → List TypeEntry
all_entries [] = []
all_entries (b ∷ blocks) = lines_entries (roots b.body) ++ all_entries blocks

-- the `types` blocks of a level count as one list
abbrev pub entries_in : Forest → Option (List TypeEntry)
entries_in level = if is_some (block_of (codes "types") level) then Some
    (all_entries (blocks_of (codes "types") level)) else None

abbrev pub either : {A : Type 0} → Option A → Option A → Option A
either (Some a) other = Some a
either None other = other

-- `alias` of a location that takes this prefix off a path, or that is the whole path
abbrev pub alias_place : (prefix : Option (List ℕ)) → List ℕ → FileRoot
alias_place None text = Whole (pieces_of text)
alias_place (Some prefix) text = Rest (pieces_of text) prefix

-- `root`, or `alias`
abbrev pub place_in : (prefix : Option (List ℕ)) → Forest → Option FileRoot
place_in prefix level =
    either (option_map (λ text. Root (pieces_of text)) (word_in (codes "root") level))
    (option_map (alias_place prefix) (word_in (codes "alias") level))

abbrev pub with_role : Role → List (List ℕ) → Settings → Settings
with_role (roles.Setting setting) words s = with_words setting words s
with_role _ words s = s

-- a directive over the settings that hold before it
abbrev pub with_directive : Directive → Settings → Settings
with_directive d s = with_role (role_of d.name) d.args s

-- The settings of a level with these directives, each over those before it, the first over those around the level.
unfoldable pub settings_in : List Directive → Settings → Settings
settings_in [] s = s
settings_in (d ∷ ds) s = settings_in ds (with_directive d s)

-- the URI of `auth_request`, and none for `off`
abbrev pub auth_by : List ℕ → Option (List ℕ)
auth_by word = if bytes_eq word (codes "off") then None else Some word

-- the URI of `add_before_body` or `add_after_body`, and none for the empty word (ngx_http_addition_module)
abbrev pub added_by : List ℕ → Option (List ℕ)
added_by [] = None
added_by (b ∷ bs) = Some (b ∷ bs)

-- the variables of the first `ssi_visible`
abbrev pub visible_in : Forest → Option (List (List ℕ))
visible_in level =
    option_map (λ b. variables_in b.head.args) (block_of (codes "ssi_visible") level)

-- a level states that it is asked from inside alone
abbrev pub internal_in : Forest → Bool
internal_in level = is_some (block_of (codes "internal") level)

-- the values that a block states whose `alias` takes this prefix off, if any
unfoldable pub stated : (prefix : Option (List ℕ)) → Forest → Stated
stated prefix level = record {
  place = place_in prefix level;
  entries = entries_in level;
  default_type = word_in (codes "default_type") level;
  settings = settings_in (roots level);
  lists = stated_lists (roots level);
  auth = option_map auth_by (word_in (codes "auth_request") level);
  before = option_map added_by (word_in (codes "add_before_body") level);
  after = option_map added_by (word_in (codes "add_after_body") level);
  visible = visible_in level;
  internal = internal_in level;
}

-- a list that has values, or else the one around it, as a whole
abbrev pub own_or : {A : Type 0} → (has : A → Bool) → A → A → A
own_or has own outer = if has own then own else outer

abbrev pub has_items : {A : Type 0} → List A → Bool
has_items [] = false
has_items (x ∷ xs) = true

abbrev pub has_types : MediaTypes → Bool
has_types m = m.every || has_items m.types

abbrev pub lists_over : Lists → Lists → Lists
lists_over own outer = record {
  index = own_or has_items own.index outer.index;
  pages = own_or has_items own.pages outer.pages;
  rules = own_or has_items own.rules outer.rules;
  auth_sets = own_or has_items own.auth_sets outer.auth_sets;
  ssi_types = own_or has_types own.ssi_types outer.ssi_types;
  addition_types = own_or has_types own.addition_types outer.addition_types;
}

-- a block's values over those around it, each by itself
abbrev pub over : Stated → Values → Values
over s outer = record {
  place = unwrap_or s.place outer.place;
  types = record {
    entries = unwrap_or s.entries outer.types.entries;
    default_type = unwrap_or s.default_type outer.types.default_type;
  };
  settings = s.settings outer.settings;
  lists = lists_over s.lists outer.lists;
  auth = unwrap_or s.auth outer.auth;
  before = unwrap_or s.before outer.before;
  after = unwrap_or s.after outer.after;
  visible = either s.visible outer.visible;
  internal = s.internal || outer.internal;
}

abbrev pub default_entries : List TypeEntry
default_entries =
    entry_with (codes "text/html") (codes "html") ∷ entry_with (codes "image/gif") (codes "gif")
    ∷ entry_with (codes "image/jpeg") (codes "jpg") ∷ []

-- `index.html`, and no other values
abbrev pub default_lists : Lists
default_lists = record {
  index = default_index;
  pages = [];
  rules = [];
  auth_sets = [];
  ssi_types = no_media;
  addition_types = no_media;
}

-- the values that hold where nothing is stated (nginx's documentation, "Module ngx_http_core_module")
abbrev pub defaults : Values
defaults = record {
  place = Root (pieces_of (codes "html"));
  types = record { entries = default_entries; default_type = codes "text/plain" };
  settings = default_settings;
  lists = default_lists;
  auth = None;
  before = None;
  after = None;
  visible = None;
  internal = false;
}

-- the names that a level tries
abbrev pub tries_in : Forest → Option Tries
tries_in level = option_and_then (λ b. tries_of b.head.args) (block_of (codes "try_files") level)

-- a level with these values, and with what it alone states
abbrev pub all_values : Values → Option Tries → AllValues
all_values v tries = record {
  place = v.place;
  types = v.types;
  index = v.lists.index;
  tries = tries;
  internal = v.internal;
  pages = v.lists.pages;
  recursive = v.settings.recursive;
  body_most = v.settings.body_most;
  requests = v.settings.requests;
  idle = v.settings.idle;
  send_wait = v.settings.send_wait;
  head_wait = v.settings.head_wait;
  absolute = v.settings.absolute;
  with_port = v.settings.with_port;
  with_server_name = v.settings.with_server_name;
  any = v.settings.any;
  rules = v.lists.rules;
  auth = v.auth;
  auth_sets = v.lists.auth_sets;
  ssi = v.settings.ssi;
  silent = v.settings.silent;
  ssi_types = v.lists.ssi_types;
  value_most = v.settings.value_most;
  capture_most = v.settings.capture_most;
  before = v.before;
  after = v.after;
  addition_types = v.lists.addition_types;
}

-- the values of a level with this block
abbrev pub values_in : Values → Forest → AllValues
values_in v block = all_values v (tries_in block)

-- those of the block of an `if` in a location with these values
abbrev pub values_within : Values → Forest → AllValues
values_within v block = values_in (over (stated (Some []) block) v) block

-- a server's level, in whose program blocks of `if`s are no levels
abbrev pub server_level : (known : List ℕ → Bool) → Values → Forest → LevelView
server_level known v block = record {
  values = values_in v block;
  program = program_of None (parts_of known block);
}

-- the level of a location with this block, where these names are those of the variables that are set
abbrev pub level_of : (known : List ℕ → Bool) → Values → Forest → LevelView
level_of known v block = record {
  values = values_in v block;
  program = program_of (Some (map (values_within v) (blocks_in known block))) (parts_of known block);
}
