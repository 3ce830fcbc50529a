-- Rows of connections: from the bytes that arrive to the bytes that are answered.
use Rattle.std.specs.Prelude.{◌≡◌, ℕ, Bool, true, false, List, [], ◌∷◌, ◌++◌, length, codes, refl, Some}
use Prim.Native.String.{String}
use Rattle.file_tree.specs.Tree.{Trees}
use Rattle.ngx_outside.specs.Views.{Start, Log}
use Rattle.meaning_rows.proofs.Opened.{opened}
use Rattle.meaning_rows.proofs.Samples.{plain, with_ssi, level, server, file, none, at, lit, ipv4, members, no_pattern}
use Rattle.answers_meaning.specs.Asking.{Service}
use Rattle.answers_meaning.specs.Answers.{responses, logs_in, close_in, answers}
use Rattle.site_views.specs.Views.Matching.{Prefix}
use Rattle.site_views.specs.Rewrites.Directive.{Return}
use Rattle.site_views.specs.Views.Locations.{NoMore}

abbrev pub hello : Service
hello = record {
  site = record { folder = []; servers = server (level plain []) (at (Prefix (codes "/")) plain (Return 200 (Some (lit "hi")) ∷ []) NoMore) ∷ [] };
  finds = no_pattern;
  members = members;
  local = record { ip = ipv4 127 0 0 1; port = 80 };
  peer = record { ip = ipv4 10 0 0 1; port = 5000 };
}

abbrev pub trees : Trees
trees number = none

abbrev pub start : ℕ → Start
start moment = record { moment = moment; tree = 0 }

-- two requests in one piece, the second a second later
row_two_requests : answers hello 0 trees (codes "GET / HTTP/1.1\r\nHost: a\r\n\r\nGET / HTTP/1.1\r\nHost: a\r\n\r\n") (start 0 ∷ start 1 ∷ start 2 ∷ []) ≡ codes "HTTP/1.1 200 OK\r\nServer: nginx\r\nDate: Thu, 01 Jan 1970 00:00:00 GMT\r\nContent-Type: text/plain\r\nContent-Length: 2\r\nConnection: keep-alive\r\n\r\nhi" ++ codes "HTTP/1.1 200 OK\r\nServer: nginx\r\nDate: Thu, 01 Jan 1970 00:00:01 GMT\r\nContent-Type: text/plain\r\nContent-Length: 2\r\nConnection: keep-alive\r\n\r\nhi"
unfolding opened
row_two_requests = refl

abbrev pub logs : String → List Log
logs input = logs_in (responses hello 0 trees (codes input) (start 0 ∷ start 0 ∷ start 0 ∷ []))

abbrev pub count : String → ℕ
count input = length (logs input)

abbrev pub closes : String → Bool
closes input = close_in (responses hello 0 trees (codes input) (start 0 ∷ start 0 ∷ start 0 ∷ []))

-- a body is dropped; after a broken one nothing is answered, and the connection is closed
row_body_dropped : count "POST / HTTP/1.1\r\nHost: a\r\nContent-Length: 3\r\n\r\nabcGET / HTTP/1.1\r\nHost: a\r\n\r\n" ≡ 2
unfolding opened
row_body_dropped = refl

row_two_stay : closes "POST / HTTP/1.1\r\nHost: a\r\nContent-Length: 3\r\n\r\nabcGET / HTTP/1.1\r\nHost: a\r\n\r\n" ≡ false
unfolding opened
row_two_stay = refl

row_body_broken : count "POST / HTTP/1.1\r\nHost: a\r\nTransfer-Encoding: chunked\r\n\r\nz\r\nGET / HTTP/1.1\r\nHost: a\r\n\r\n" ≡ 1
unfolding opened
row_body_broken = refl

row_broken_closes : closes "POST / HTTP/1.1\r\nHost: a\r\nTransfer-Encoding: chunked\r\n\r\nz\r\nGET / HTTP/1.1\r\nHost: a\r\n\r\n" ≡ true
unfolding opened
row_broken_closes = refl

-- a request that is refused, and one that closes
row_no_host : logs "GET / HTTP/1.1\r\n\r\nGET / HTTP/1.1\r\nHost: a\r\n\r\n" ≡ (400, 150) ∷ []
unfolding opened
row_no_host = refl

row_close : count "GET / HTTP/1.1\r\nHost: a\r\nConnection: close\r\n\r\nGET / HTTP/1.1\r\nHost: a\r\n\r\n" ≡ 1
unfolding opened
row_close = refl

row_close_closes : closes "GET / HTTP/1.1\r\nHost: a\r\nConnection: close\r\n\r\n" ≡ true
unfolding opened
row_close_closes = refl

-- and so after a page of parts
abbrev pub pages : Service
pages = record hello { site = record { folder = []; servers = server (level with_ssi []) NoMore ∷ [] } }

abbrev pub page_closes : String → Bool
page_closes input = close_in (responses pages 0 (λ number. file "/w/p.html" "a<!--# echo var=\"uri\" -->" none) (codes input) (start 0 ∷ start 0 ∷ []))

row_page_closes : page_closes "GET /p.html HTTP/1.1\r\nHost: a\r\nConnection: close\r\n\r\n" ∷ page_closes "GET /p.html HTTP/1.1\r\nHost: a\r\n\r\n" ∷ [] ≡ true ∷ false ∷ []
unfolding opened
row_page_closes = refl
