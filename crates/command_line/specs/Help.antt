-- What the program says of itself.
use Rattle.std.specs.Prelude.{ℕ, List, [], ◌∷◌, ◌++◌, flat_map, codes}
use Rattle.command_line.specs.declared.help.Topic.{Topic}
use Rattle.command_line.specs.declared.help.Topic.TheVariants as topics

-- its name and version
unfoldable pub version_text : List ℕ
version_text = codes "ngx 0.1.0\n"

-- a text of these lines
abbrev pub in_lines : List (List ℕ) → List ℕ
in_lines lines = flat_map (λ line. line ++ codes "\n") lines

-- the help of the program itself: what it does, its commands, examples and exit statuses
unfoldable pub program_help : List ℕ
program_help = in_lines (
    codes "Serve sites over HTTP/1.1 from nginx configuration text"
    ∷ codes ""
    ∷ codes "Usage: ngx <COMMAND>"
    ∷ codes ""
    ∷ codes "Commands:"
    ∷ codes "  check   Read a configuration and print its counts and what races, or its first fault"
    ∷ codes "  serve   Serve a configuration until it is stopped, or for N events of the sockets"
    ∷ codes "  replay  Run a script of connections and print what came of each"
    ∷ codes ""
    ∷ codes "Options:"
    ∷ codes "  -h, --help     Print help"
    ∷ codes "  -V, --version  Print version"
    ∷ codes ""
    ∷ codes "Examples:"
    ∷ codes "  ngx check /etc/nginx/nginx.conf"
    ∷ codes "  ngx serve examples/files/nginx.conf"
    ∷ codes "  ngx serve nginx.conf --turns 1000"
    ∷ codes "  ngx replay examples/hello.replay"
    ∷ codes ""
    ∷ codes "Exit status:"
    ∷ codes "  0   done"
    ∷ codes "  1   the configuration has a fault: `fault NUMBER KIND FILE:LINE WORD` is printed"
    ∷ codes "  2   no such command, or other words than it takes"
    ∷ codes "  3   it shows in which order subrequests run: `race SERVER $NAME set PLACES read PLACES` is printed"
    ∷ codes "  4   a file couldn't be read"
    ∷ codes "  5   the output was not taken"
    ∷ codes "  6   an address couldn't be listened on, or the sockets failed"
    ∷ codes "  7   no memory"
    ∷ codes "  8   the script has a fault: `script NUMBER KIND LINE` is printed"
    ∷ codes "  9   all turns were taken"
    ∷ codes "  10  a pattern of the configuration is too big"
    ∷ [])

-- the help of `check`, with what it takes, an example and its exit statuses
unfoldable pub check_help : List ℕ
check_help = in_lines (
    codes "Read a configuration and print its counts and what races, or its first fault"
    ∷ codes ""
    ∷ codes "Usage: ngx check <CONF>"
    ∷ codes ""
    ∷ codes "Arguments:"
    ∷ codes "  <CONF>  The path of the configuration"
    ∷ codes ""
    ∷ codes "Options:"
    ∷ codes "  -h, --help  Print help"
    ∷ codes ""
    ∷ codes "Examples:"
    ∷ codes "  ngx check /etc/nginx/nginx.conf"
    ∷ codes ""
    ∷ codes "Exit status:"
    ∷ codes "  0   done: `servers N locations M` is printed"
    ∷ codes "  1   the configuration has a fault: `fault NUMBER KIND FILE:LINE WORD` is printed"
    ∷ codes "  2   other words than it takes"
    ∷ codes "  3   it shows in which order subrequests run: `race SERVER $NAME set PLACES read PLACES` is printed"
    ∷ codes "  4   a file couldn't be read"
    ∷ codes "  5   the output was not taken"
    ∷ codes "  7   no memory"
    ∷ codes "  10  a pattern of the configuration is too big"
    ∷ [])

-- the help of `serve`
unfoldable pub serve_help : List ℕ
serve_help = in_lines (
    codes "Serve a configuration until it is stopped, or for N events of the sockets"
    ∷ codes ""
    ∷ codes "Usage: ngx serve [OPTIONS] <CONF>"
    ∷ codes ""
    ∷ codes "Arguments:"
    ∷ codes "  <CONF>  The path of the configuration"
    ∷ codes ""
    ∷ codes "Options:"
    ∷ codes "      --turns <N>  Stop after N events of the sockets, from 1 to 1000000000"
    ∷ codes "      --racy       Serve though it shows in which order subrequests run"
    ∷ codes "  -h, --help       Print help"
    ∷ codes ""
    ∷ codes "Examples:"
    ∷ codes "  ngx serve examples/files/nginx.conf"
    ∷ codes "  ngx serve nginx.conf --turns 1000"
    ∷ codes ""
    ∷ codes "Exit status:"
    ∷ codes "  0   done"
    ∷ codes "  1   the configuration has a fault: `fault NUMBER KIND FILE:LINE WORD` is printed"
    ∷ codes "  2   other words than it takes"
    ∷ codes "  3   it shows in which order subrequests run: `race SERVER $NAME set PLACES read PLACES` is printed"
    ∷ codes "  4   a file couldn't be read"
    ∷ codes "  5   the output was not taken"
    ∷ codes "  6   an address couldn't be listened on, or the sockets failed"
    ∷ codes "  7   no memory"
    ∷ codes "  9   all turns were taken"
    ∷ codes "  10  a pattern of the configuration is too big"
    ∷ [])

-- the help of `replay`
unfoldable pub replay_help : List ℕ
replay_help = in_lines (
    codes "Run a script of connections and print what came of each"
    ∷ codes ""
    ∷ codes "Usage: ngx replay [OPTIONS] <SCRIPT>"
    ∷ codes ""
    ∷ codes "Arguments:"
    ∷ codes "  <SCRIPT>  The path of the script"
    ∷ codes ""
    ∷ codes "Options:"
    ∷ codes "      --racy  Run though it shows in which order subrequests run"
    ∷ codes "  -h, --help  Print help"
    ∷ codes ""
    ∷ codes "Examples:"
    ∷ codes "  ngx replay examples/hello.replay"
    ∷ codes ""
    ∷ codes "Exit status:"
    ∷ codes "  0   done"
    ∷ codes "  1   the configuration has a fault: `fault NUMBER KIND FILE:LINE WORD` is printed"
    ∷ codes "  2   other words than it takes"
    ∷ codes "  3   it shows in which order subrequests run: `race SERVER $NAME set PLACES read PLACES` is printed"
    ∷ codes "  4   a file couldn't be read"
    ∷ codes "  5   the output was not taken"
    ∷ codes "  7   no memory"
    ∷ codes "  8   the script has a fault: `script NUMBER KIND LINE` is printed"
    ∷ codes "  10  a pattern of the configuration is too big"
    ∷ [])

-- the help of a topic
abbrev pub help_text : Topic → List ℕ
help_text topics.Program = program_help
help_text topics.Check = check_help
help_text topics.Serve = serve_help
help_text topics.Replay = replay_help
