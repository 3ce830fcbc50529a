-- Rows of whole responses.
use Rattle.std.specs.Prelude.{◌≡◌, ℕ, true, false, List, [], ◌∷◌, ◌++◌, codes, replicate, refl, Some}
use Rattle.http_types.specs.declared.words.Method.TheVariants.{Head}
use Rattle.http_types.specs.declared.words.Version.TheVariants.{V10, V11}
use Rattle.meaning_rows.proofs.Opened.{opened}
use Rattle.meaning_rows.proofs.Samples.{plain, level, server, world, file, file_at, none, get, at, lit, main_with, request_with}
use Rattle.meaning_rows.proofs.Documents.{documents}
use Rattle.request_meaning.specs.Serving.{Reply}
use Rattle.request_meaning.specs.Replies.{main_reply}
use Rattle.request_meaning.specs.Responses.{response, keeps, log_of}
use Rattle.site_views.specs.Views.Matching.{Prefix}
use Rattle.site_views.specs.Rewrites.Directive.{Return}
use Rattle.site_views.specs.Views.Locations.{NoMore}

abbrev pub two_includes : Reply
two_includes = get documents (file "/w/page.html" "A<!--# include virtual=\"/b.html\" -->C<!--# include virtual=\"/d.html\" -->E" (file "/w/b.html" "B" (file "/w/d.html" "D" none))) "/page.html"

row_chunked : response two_includes 0 V11 false (keeps 0 true V11 two_includes.answer) ≡ codes "HTTP/1.1 200 OK\r\nServer: nginx\r\nDate: Thu, 01 Jan 1970 00:00:00 GMT\r\nContent-Type: text/html\r\nTransfer-Encoding: chunked\r\nConnection: keep-alive\r\n\r\n5\r\nABCDE\r\n0\r\n\r\n"
unfolding opened
row_chunked = refl

abbrev pub hi : Reply
hi = get (world (server (level plain []) (at (Prefix (codes "/")) plain (Return 200 (Some (lit "hi")) ∷ []) NoMore))) none "/"

row_text : response hi 0 V11 false (keeps 0 true V11 hi.answer) ≡ codes "HTTP/1.1 200 OK\r\nServer: nginx\r\nDate: Thu, 01 Jan 1970 00:00:00 GMT\r\nContent-Type: text/plain\r\nContent-Length: 2\r\nConnection: keep-alive\r\n\r\nhi"
unfolding opened
row_text = refl

abbrev pub small : Reply
small = get documents (file "/w/p.html" "abc" none) "/p.html"

-- in HTTP/1.0 the connection's close ends a body of unknown length
row_by_close : response small 0 V10 false (keeps 0 true V10 small.answer) ≡ codes "HTTP/1.1 200 OK\r\nServer: nginx\r\nDate: Thu, 01 Jan 1970 00:00:00 GMT\r\nContent-Type: text/html\r\nConnection: close\r\n\r\nabc"
unfolding opened
row_by_close = refl

abbrev pub head_only : Reply
head_only = main_reply documents (file "/w/p.html" "abc" none) (main_with Head (codes "/p.html") []) (request_with Head (codes "/p.html") [])

row_head : response head_only 0 V11 true (keeps 0 true V11 head_only.answer) ≡ codes "HTTP/1.1 200 OK\r\nServer: nginx\r\nDate: Thu, 01 Jan 1970 00:00:00 GMT\r\nContent-Type: text/html\r\nConnection: keep-alive\r\n\r\n"
unfolding opened
row_head = refl

row_empty : response (get documents (file "/w/p.html" "" none) "/p.html") 0 V11 false true ≡ codes "HTTP/1.1 200 OK\r\nServer: nginx\r\nDate: Thu, 01 Jan 1970 00:00:00 GMT\r\nContent-Type: text/html\r\nTransfer-Encoding: chunked\r\nConnection: keep-alive\r\n\r\n0\r\n\r\n"
unfolding opened
row_empty = refl

-- chunks are of 4096 bytes, and the rest
abbrev pub of_size : ℕ → Reply
of_size size = get documents (file_at (codes "/w/p.html") (replicate size 97) 0 none) "/p.html"

abbrev pub chunked_head : List ℕ
chunked_head = codes "HTTP/1.1 200 OK\r\nServer: nginx\r\nDate: Thu, 01 Jan 1970 00:00:00 GMT\r\nContent-Type: text/html\r\nTransfer-Encoding: chunked\r\nConnection: keep-alive\r\n\r\n"

row_one_chunk : response (of_size 4096) 0 V11 false true ≡ chunked_head ++ codes "1000\r\n" ++ replicate 4096 97 ++ codes "\r\n0\r\n\r\n"
unfolding opened
row_one_chunk = refl

row_chunk_and_rest : response (of_size 4097) 0 V11 false true ≡ chunked_head ++ codes "1000\r\n" ++ replicate 4096 97 ++ codes "\r\n1\r\na\r\n0\r\n\r\n"
unfolding opened
row_chunk_and_rest = refl

-- each byte of a body is logged once, however long the body is
row_long_log : log_of (record small { body = replicate 70000 97 }) false ≡ (200, 70000)
unfolding opened
row_long_log = refl
