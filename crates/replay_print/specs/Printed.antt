-- The text that a script's parts print.
use Rattle.std.specs.Prelude.{◌≡◌, ℕ, ◌+◌, ◌/◌, ◌%◌, ◌<◌, ◌≤◌, ◌^◌, List, [], ◌∷◌, ◌++◌, length, map, ◌==◌, Bool, false, ◌&&◌, not, codes, decimal, if◌then◌else◌}
use Rattle.std.specs.List.{flat_map, list_any, join_with_byte, AllByRecursion}
use Rattle.std.specs.Char.{digit_char}
use Rattle.std.specs.declared.net.ip_addr.IpAddr.{IpAddr}
use Rattle.std.specs.declared.net.ip_addr.IpAddr.TheVariants as Ip
use Rattle.std.specs.Net.Addr.{ipv4_octets, ipv6_segments, IsIpv4Addr, IsIpv6Addr, MatchIp}
use Rattle.std.specs.Net.Text.{ipv4_text, hex_groups_text}
use Rattle.http_types.specs.declared.words.Addr.{Addr}
use Rattle.replay_text.specs.declared.parts.Conf.{Conf}
use Rattle.replay_text.specs.declared.parts.TreeLine.{TreeLine}
use Rattle.replay_text.specs.declared.parts.TreeLine.TheVariants as trees
use Rattle.replay_text.specs.declared.parts.EventLine.{EventLine}
use Rattle.replay_text.specs.declared.parts.EventLine.TheVariants as events
use Rattle.replay_text.specs.declared.parts.Script.{Script}
use Rattle.replay_words.specs.Escapes.{AreBytes}
use Rattle.replay_words.specs.Lines.{lines_of}
use Rattle.replay_words.specs.Words.{is_graphic, is_dot}
use Rattle.replay_words.specs.Numbers.{most_id, most_room, last_second}
use Rattle.replay_words.specs.Sums.{most_bytes}
use Rattle.replay_text.specs.Grammar.{is_path_among}

-- what is written as it is: graphic bytes, but for `%`, and for `-`, which alone would be no bytes
abbrev pub is_plain : ℕ → Bool
is_plain b = is_graphic b && (not (b == 37) && not (b == 45))

-- a byte as it is, or as `%` and two hexadecimal digits
abbrev pub printed_byte : ℕ → List ℕ
printed_byte b = if is_plain b then b ∷ [] else 37 ∷ digit_char (b / 16) ∷ digit_char (b % 16) ∷ []

abbrev pub printed : List ℕ → List ℕ
printed bytes = flat_map printed_byte bytes

-- bytes as a sum of one term, or of none
abbrev pub printed_sum : List ℕ → List ℕ
printed_sum [] = codes "-"
printed_sum (b ∷ bytes) = printed (b ∷ bytes)

-- an address as RFC 5952 writes it, without its dotted form, and a port
abbrev pub end_text : IpAddr → ℕ → List ℕ
end_text (Ip.V4 a) port = ipv4_text (ipv4_octets a) ++ 58 ∷ decimal port
end_text (Ip.V6 a) port = 91 ∷ (hex_groups_text (ipv6_segments a) ++ 93 ∷ 58 ∷ decimal port)

abbrev pub addr_text : Addr → List ℕ
addr_text a = end_text a.ip a.port

-- the words of a line of the tree
abbrev pub tree_words : TreeLine → List (List ℕ)
tree_words (trees.File path date bytes) = codes "file" ∷ printed path ∷ decimal date ∷ printed_sum bytes ∷ []
tree_words (trees.Folder path) = codes "folder" ∷ printed path ∷ []
tree_words (trees.Locked path) = codes "locked" ∷ printed path ∷ []

-- the words of an event
abbrev pub event_words : EventLine → List (List ℕ)
event_words (events.Open conn here there) = codes "open" ∷ decimal conn ∷ addr_text here ∷ addr_text there ∷ []
event_words (events.Bytes conn bytes) = codes "bytes" ∷ decimal conn ∷ printed_sum bytes ∷ []
event_words (events.End conn) = codes "end" ∷ decimal conn ∷ []
event_words (events.Room conn count) = codes "room" ∷ decimal conn ∷ decimal count ∷ []
event_words (events.File conn node) = codes "file" ∷ decimal conn ∷ decimal node ∷ []
event_words (events.FileFails conn node) = codes "file" ∷ decimal conn ∷ decimal node ∷ codes "fail" ∷ []
event_words (events.Run conn node) = codes "run" ∷ decimal conn ∷ decimal node ∷ []
event_words (events.Tick now) = codes "tick" ∷ decimal now ∷ []
event_words (events.Tree line) = codes "tree" ∷ tree_words line
event_words (events.TreeGone path) = codes "tree" ∷ codes "gone" ∷ printed path ∷ []
event_words events.Drain = codes "drain" ∷ []

-- words with one space between them
abbrev pub spaced : List (List ℕ) → List ℕ
spaced words = join_with_byte 32 words

-- the lines of a configuration: its path, its text, and the line that ends it
abbrev pub conf_lines : Conf → List (List ℕ)
conf_lines conf = spaced (codes "conf" ∷ printed conf.path ∷ []) ∷ (lines_of conf.bytes ++ codes "." ∷ [])

abbrev pub tree_lines : List TreeLine → List (List ℕ)
tree_lines tree = map (λ line. spaced (tree_words line)) tree

abbrev pub event_lines : List EventLine → List (List ℕ)
event_lines events = map (λ event. spaced (event_words event)) events

abbrev pub script_lines : Script → List (List ℕ)
script_lines s = flat_map conf_lines s.confs ++ codes "tree" ∷ (tree_lines s.tree ++ codes "." ∷ codes "events" ∷ event_lines s.events)

-- a line and its line feed
abbrev pub ended : List ℕ → List ℕ
ended line = line ++ 10 ∷ []

-- the script as a text
unfoldable pub script_text : Script → List ℕ
script_text s = flat_map ended (script_lines s)

-- which parts print

-- a path begins with a slash
abbrev pub IsPath : List ℕ → Type 0
IsPath path = (rest : List ℕ) × (path ≡ 47 ∷ rest) × AreBytes rest

-- lines with their line feeds, none of them `.`
pub record IsRaw (bytes : List ℕ) : Type 0 where
  pub whole : flat_map ended (lines_of bytes) ≡ bytes
  pub no_dot : list_any is_dot (lines_of bytes) ≡ false

-- configurations of different paths, after others
abbrev pub AreConfs : List Conf → List Conf → Type 0
AreConfs before [] = Unit {0}
AreConfs before (conf ∷ confs) = IsPath conf.path × (is_path_among before conf.path ≡ false) × IsRaw conf.bytes × AreConfs (before ++ conf ∷ []) confs

abbrev pub IsTreeLine : TreeLine → Type 0
IsTreeLine (trees.File path date bytes) = IsPath path × (date ≤ last_second) × AreBytes bytes
IsTreeLine (trees.Folder path) = IsPath path
IsTreeLine (trees.Locked path) = IsPath path

abbrev pub IsEnd : Addr → Type 0
IsEnd a = MatchIp a.ip IsIpv4Addr IsIpv6Addr × (a.port < 2 ^ 16)

abbrev pub IsEvent : EventLine → Type 0
IsEvent (events.Open conn here there) = (conn ≤ most_id) × IsEnd here × IsEnd there
IsEvent (events.Bytes conn bytes) = (conn ≤ most_id) × (0 < length bytes) × AreBytes bytes
IsEvent (events.End conn) = conn ≤ most_id
IsEvent (events.Room conn count) = (conn ≤ most_id) × (count ≤ most_room)
IsEvent (events.File conn node) = (conn ≤ most_id) × (node ≤ most_id)
IsEvent (events.FileFails conn node) = (conn ≤ most_id) × (node ≤ most_id)
IsEvent (events.Run conn node) = (conn ≤ most_id) × (node ≤ most_id)
IsEvent (events.Tick now) = now ≤ last_second
IsEvent (events.Tree line) = IsTreeLine line
IsEvent (events.TreeGone path) = IsPath path
IsEvent events.Drain = Unit {0}

-- how many bytes the sums of lines have
abbrev pub tree_size : TreeLine → ℕ
tree_size (trees.File path date bytes) = length bytes
tree_size (trees.Folder path) = 0
tree_size (trees.Locked path) = 0

abbrev pub event_size : EventLine → ℕ
event_size (events.Bytes conn bytes) = length bytes
event_size (events.Tree line) = tree_size line
event_size _ = 0

abbrev pub total_by : {A : Type 0} → (A → ℕ) → List A → ℕ
total_by size [] = 0
total_by size (x ∷ xs) = size x + total_by size xs

-- parts that are a script
pub record IsScript (s : Script) : Type 0 where
  pub some : 0 < length s.confs
  pub confs : AreConfs [] s.confs
  pub tree : AllByRecursion IsTreeLine s.tree
  pub events : AllByRecursion IsEvent s.events
  pub size : total_by tree_size s.tree + total_by event_size s.events ≤ most_bytes
