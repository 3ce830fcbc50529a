-- What definitions answer, row by row: examples of the RFCs and of nginx's documentation. Each is computed by the check.
use Rattle.std.specs.Prelude.{◌≡◌, Bool, true, false, [], Ok, Err, Some, None, codes, refl}
use Rattle.std.specs.Fmt.{digits}
use Rattle.uri_text.specs.Target.{absolute_of, behind_root, decoded, kind_of, normal_of, path_and_query, path_from, path_of, resolved, segments, spelled}
use Rattle.uri_text.specs.declared.fault.UriFault.TheVariants.{BadEscape, Zero, AboveRoot, NotAPath}
use Rattle.resp_head.specs.Phrases.{page_phrase_of, phrase_in, phrase_of, phrases}
use Rattle.static_content.specs.Content.{content_for, refusal_of}
use Rattle.static_content.specs.declared.content.Content.TheVariants.{Send, Status, Slash}
use Rattle.http_types.specs.declared.words.Method.TheVariants.{Get, Head, Post, Other}
use Rattle.file_tree.specs.declared.job.Node.TheVariants.{File, Folder, Locked, Missing}
use Rattle.file_type.specs.Extension.{extension}
use Rattle.report_text.specs.declared.report.ConnState.TheVariants.{Idle}
use Rattle.report_text.specs.Lines.{ended, lines_text}
use Rattle.report_text.specs.Report.{Report, conn_text, conn_lines, conn_line, spaced, state_word, next_word, cause_or_dash, sent_line, sent_word}

-- targets: RFC 3986, sections 5.2.4 and 5.4.1 (against the base `/b/c/d;p`); nginx's documentation of `merge_slashes`

target-1 : normal_of (codes "/a/b/c/./../../g") true ≡ Ok (codes "/a/g", codes "")
unfolding normal_of absolute_of behind_root decoded kind_of path_and_query path_from path_of resolved segments spelled
target-1 = refl

target-2 : normal_of (codes "/b/c/g;x=1/./y") true ≡ Ok (codes "/b/c/g;x=1/y", codes "")
unfolding normal_of absolute_of behind_root decoded kind_of path_and_query path_from path_of resolved segments spelled
target-2 = refl

target-3 : normal_of (codes "/b/c/g;x=1/../y") true ≡ Ok (codes "/b/c/y", codes "")
unfolding normal_of absolute_of behind_root decoded kind_of path_and_query path_from path_of resolved segments spelled
target-3 = refl

target-4 : normal_of (codes "/b/c/..g") true ≡ Ok (codes "/b/c/..g", codes "")
unfolding normal_of absolute_of behind_root decoded kind_of path_and_query path_from path_of resolved segments spelled
target-4 = refl

target-5 : normal_of (codes "/b/c/g..") true ≡ Ok (codes "/b/c/g..", codes "")
unfolding normal_of absolute_of behind_root decoded kind_of path_and_query path_from path_of resolved segments spelled
target-5 = refl

target-6 : normal_of (codes "/b/c/./g/.") true ≡ Ok (codes "/b/c/g/", codes "")
unfolding normal_of absolute_of behind_root decoded kind_of path_and_query path_from path_of resolved segments spelled
target-6 = refl

target-7 : normal_of (codes "/b/c/..") true ≡ Ok (codes "/b/", codes "")
unfolding normal_of absolute_of behind_root decoded kind_of path_and_query path_from path_of resolved segments spelled
target-7 = refl

target-8 : normal_of (codes "/b/c/../..") true ≡ Ok (codes "/", codes "")
unfolding normal_of absolute_of behind_root decoded kind_of path_and_query path_from path_of resolved segments spelled
target-8 = refl

target-9 : normal_of (codes "/b/c/../../g") true ≡ Ok (codes "/g", codes "")
unfolding normal_of absolute_of behind_root decoded kind_of path_and_query path_from path_of resolved segments spelled
target-9 = refl

target-10 : normal_of (codes "/a//b/../c%20d") true ≡ Ok (codes "/a/c d", codes "")
unfolding normal_of absolute_of behind_root decoded kind_of path_and_query path_from path_of resolved segments spelled
target-10 = refl

target-11 : normal_of (codes "/a//b/../c%20d") false ≡ Ok (codes "/a//c d", codes "")
unfolding normal_of absolute_of behind_root decoded kind_of path_and_query path_from path_of resolved segments spelled
target-11 = refl

target-12 : normal_of (codes "/a//../b") true ≡ Ok (codes "/b", codes "")
unfolding normal_of absolute_of behind_root decoded kind_of path_and_query path_from path_of resolved segments spelled
target-12 = refl

target-13 : normal_of (codes "/a//../b") false ≡ Ok (codes "/a/b", codes "")
unfolding normal_of absolute_of behind_root decoded kind_of path_and_query path_from path_of resolved segments spelled
target-13 = refl

target-14 : normal_of (codes "/a%2Fb%2f%2E%2e/c") true ≡ Ok (codes "/a/c", codes "")
unfolding normal_of absolute_of behind_root decoded kind_of path_and_query path_from path_of resolved segments spelled
target-14 = refl

target-15 : normal_of (codes "//") true ≡ Ok (codes "/", codes "")
unfolding normal_of absolute_of behind_root decoded kind_of path_and_query path_from path_of resolved segments spelled
target-15 = refl

target-16 : normal_of (codes "//") false ≡ Ok (codes "//", codes "")
unfolding normal_of absolute_of behind_root decoded kind_of path_and_query path_from path_of resolved segments spelled
target-16 = refl

target-17 : normal_of (codes "/a%3fb?c%20=?d/../#e?f") true ≡ Ok (codes "/a?b", codes "c%20=?d/../")
unfolding normal_of absolute_of behind_root decoded kind_of path_and_query path_from path_of resolved segments spelled
target-17 = refl

target-18 : normal_of (codes "/#?x") true ≡ Ok (codes "/", codes "")
unfolding normal_of absolute_of behind_root decoded kind_of path_and_query path_from path_of resolved segments spelled
target-18 = refl

target-19 : normal_of (codes "http://h") true ≡ Ok (codes "/", codes "")
unfolding normal_of absolute_of behind_root decoded kind_of path_and_query path_from path_of resolved segments spelled
target-19 = refl

target-20 : normal_of (codes "http://h:8080?x") true ≡ Ok (codes "/", codes "x")
unfolding normal_of absolute_of behind_root decoded kind_of path_and_query path_from path_of resolved segments spelled
target-20 = refl

target-21 : normal_of (codes "http://h/a/./b#c") true ≡ Ok (codes "/a/b", codes "")
unfolding normal_of absolute_of behind_root decoded kind_of path_and_query path_from path_of resolved segments spelled
target-21 = refl

target-22 : normal_of (codes "/a%2") true ≡ Err BadEscape
unfolding normal_of absolute_of behind_root decoded kind_of path_and_query path_from path_of resolved segments spelled
target-22 = refl

target-23 : normal_of (codes "/%g0/../..") true ≡ Err BadEscape
unfolding normal_of absolute_of behind_root decoded kind_of path_and_query path_from path_of resolved segments spelled
target-23 = refl

target-24 : normal_of (codes "/..%") true ≡ Err BadEscape
unfolding normal_of absolute_of behind_root decoded kind_of path_and_query path_from path_of resolved segments spelled
target-24 = refl

target-25 : normal_of (codes "/%00") true ≡ Err Zero
unfolding normal_of absolute_of behind_root decoded kind_of path_and_query path_from path_of resolved segments spelled
target-25 = refl

target-26 : normal_of (codes "/..%00") false ≡ Err Zero
unfolding normal_of absolute_of behind_root decoded kind_of path_and_query path_from path_of resolved segments spelled
target-26 = refl

target-27 : normal_of (codes "/../x") true ≡ Err AboveRoot
unfolding normal_of absolute_of behind_root decoded kind_of path_and_query path_from path_of resolved segments spelled
target-27 = refl

target-28 : normal_of (codes "/%2e%2E") true ≡ Err AboveRoot
unfolding normal_of absolute_of behind_root decoded kind_of path_and_query path_from path_of resolved segments spelled
target-28 = refl

target-29 : normal_of (codes "/a/../../%00") true ≡ Err AboveRoot
unfolding normal_of absolute_of behind_root decoded kind_of path_and_query path_from path_of resolved segments spelled
target-29 = refl

target-30 : normal_of (codes "//../x") true ≡ Err AboveRoot
unfolding normal_of absolute_of behind_root decoded kind_of path_and_query path_from path_of resolved segments spelled
target-30 = refl

target-31 : normal_of (codes "") true ≡ Err NotAPath
unfolding normal_of absolute_of behind_root decoded kind_of path_and_query path_from path_of resolved segments spelled
target-31 = refl

target-32 : normal_of (codes "*") true ≡ Err NotAPath
unfolding normal_of absolute_of behind_root decoded kind_of path_and_query path_from path_of resolved segments spelled
target-32 = refl

target-33 : normal_of (codes "a/../..") true ≡ Err NotAPath
unfolding normal_of absolute_of behind_root decoded kind_of path_and_query path_from path_of resolved segments spelled
target-33 = refl

target-34 : normal_of (codes "?x") true ≡ Err NotAPath
unfolding normal_of absolute_of behind_root decoded kind_of path_and_query path_from path_of resolved segments spelled
target-34 = refl

target-35 : normal_of (codes "http:///a") true ≡ Err NotAPath
unfolding normal_of absolute_of behind_root decoded kind_of path_and_query path_from path_of resolved segments spelled
target-35 = refl

target-36 : normal_of (codes "http://a b/") true ≡ Err NotAPath
unfolding normal_of absolute_of behind_root decoded kind_of path_and_query path_from path_of resolved segments spelled
target-36 = refl

target-37 : normal_of (codes "HTTP://h/") true ≡ Err NotAPath
unfolding normal_of absolute_of behind_root decoded kind_of path_and_query path_from path_of resolved segments spelled
target-37 = refl

target-38 : normal_of (codes "https://h/") true ≡ Err NotAPath
unfolding normal_of absolute_of behind_root decoded kind_of path_and_query path_from path_of resolved segments spelled
target-38 = refl

-- phrases: the table of nginx's ngx_http_header_filter_module.c, and its error pages

phrase-200 : phrase_of 200 ≡ codes "OK"
unfolding phrase_of phrase_in phrases
phrase-200 = refl

phrase-206 : phrase_of 206 ≡ codes "Partial Content"
unfolding phrase_of phrase_in phrases
phrase-206 = refl

phrase-302 : phrase_of 302 ≡ codes "Moved Temporarily"
unfolding phrase_of phrase_in phrases
phrase-302 = refl

phrase-405 : phrase_of 405 ≡ codes "Not Allowed"
unfolding phrase_of phrase_in phrases
phrase-405 = refl

phrase-408 : phrase_of 408 ≡ codes "Request Time-out"
unfolding phrase_of phrase_in phrases
phrase-408 = refl

phrase-414 : phrase_of 414 ≡ codes "Request-URI Too Large"
unfolding phrase_of phrase_in phrases
phrase-414 = refl

phrase-503 : phrase_of 503 ≡ codes "Service Temporarily Unavailable"
unfolding phrase_of phrase_in phrases
phrase-503 = refl

phrase-299 : phrase_of 299 ≡ codes ""
unfolding phrase_of phrase_in phrases
phrase-299 = refl

page-phrase-302 : page_phrase_of 302 ≡ codes "Found"
unfolding phrase_of phrase_in phrases page_phrase_of
page-phrase-302 = refl

page-phrase-401 : page_phrase_of 401 ≡ codes "Authorization Required"
unfolding phrase_of phrase_in phrases page_phrase_of
page-phrase-401 = refl

page-phrase-404 : page_phrase_of 404 ≡ codes "Not Found"
unfolding phrase_of phrase_in phrases page_phrase_of
page-phrase-404 = refl

-- what is answered for a file

content-1 : content_for (File 5 0) Get false ≡ Send
unfolding content_for
content-1 = refl

content-2 : content_for (File 5 0) Head false ≡ Send
unfolding content_for
content-2 = refl

content-3 : content_for (File 5 0) Post false ≡ Status 405
unfolding content_for
content-3 = refl

content-4 : content_for (File 5 0) (Other (codes "PUT")) false ≡ Status 405
unfolding content_for
content-4 = refl

content-5 : content_for (File 5 0) Get true ≡ Status 404
unfolding content_for
content-5 = refl

content-6 : content_for Folder Get false ≡ Slash
unfolding content_for
content-6 = refl

content-7 : content_for Folder Post false ≡ Slash
unfolding content_for
content-7 = refl

content-8 : content_for Folder Get true ≡ Status 403
unfolding content_for
content-8 = refl

content-9 : content_for Folder (Other (codes "PUT")) true ≡ Status 405
unfolding content_for
content-9 = refl

content-10 : content_for Locked Get false ≡ Status 403
unfolding content_for
content-10 = refl

content-11 : content_for Locked Post true ≡ Status 404
unfolding content_for
content-11 = refl

content-12 : content_for Missing Head false ≡ Status 404
unfolding content_for
content-12 = refl

content-13 : content_for Missing Post true ≡ Status 404
unfolding content_for
content-13 = refl

content-14 : content_for Missing (Other (codes "PUT")) false ≡ Status 405
unfolding content_for
content-14 = refl

refused-put : refusal_of (Other (codes "PUT")) ≡ Some 405
refused-put = refl

refused-post : refusal_of Post ≡ None
refused-post = refl

-- extensions

extension-1 : extension (codes "/index.html") ≡ Some (codes "html")
extension-1 = refl

extension-2 : extension (codes "/a.gif/b.jpg") ≡ Some (codes "jpg")
extension-2 = refl

extension-3 : extension (codes "/a.gif/b") ≡ None
extension-3 = refl

extension-4 : extension (codes "/a.tar.gz") ≡ Some (codes "gz")
extension-4 = refl

extension-5 : extension (codes "/html") ≡ None
extension-5 = refl

extension-6 : extension (codes "/.html") ≡ Some (codes "html")
extension-6 = refl

extension-7 : extension (codes "/a.") ≡ Some (codes "")
extension-7 = refl

extension-8 : extension (codes "/a.html/") ≡ None
extension-8 = refl

extension-9 : extension (codes "a.gif") ≡ Some (codes "gif")
extension-9 = refl

extension-10 : extension (codes "") ≡ None
extension-10 = refl

-- what is printed of a connection that is idle: whether its link is to be closed

abbrev idle : Bool → Report
idle closes = record { conn = 1; state = Idle; closes = closes; cause = None; journal = []; sent = [] }

report-1 : conn_text (idle true) ≡ codes "conn 1 idle close -\nsent -\n"
unfolding conn_text conn_lines conn_line spaced state_word next_word cause_or_dash sent_line sent_word lines_text ended digits
report-1 = refl

report-2 : conn_text (idle false) ≡ codes "conn 1 idle keep -\nsent -\n"
unfolding conn_text conn_lines conn_line spaced state_word next_word cause_or_dash sent_line sent_word lines_text ended digits
report-2 = refl
