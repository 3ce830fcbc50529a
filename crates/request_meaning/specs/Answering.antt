-- What a request is answered: built-in pages, redirects, texts and files, with the filters that act on them.
use Rattle.std.specs.Prelude.{ℕ, ◌==◌, ◌&&◌, ◌||◌, Bool, true, false, not, List, [], ◌∷◌, ◌++◌, length, codes, decimal, bytes_eq, Option, None, Some, is_some, option_and_then, if◌then◌else◌}
use Rattle.std.specs.List.{list_any}
use Rattle.std.specs.Net.Text.{ip_text}
use Rattle.std.specs.declared.net.ip_addr.IpAddr.{IpAddr}
use Rattle.std.specs.declared.net.ip_addr.IpAddr.TheVariants.{V4, V6}
use Rattle.http_header.specs.HeaderMap.{get}
use Rattle.http_header.specs.FieldValue.{FieldValue}
use Rattle.http_types.specs.declared.words.Addr.{Addr}
use Rattle.httpdate.specs.Date.{parse_secs}
use Rattle.file_type.specs.Types.{type_of}
use Rattle.addition_filter.specs.filter_api.declared.facts.Facts.{Facts}
use Rattle.addition_filter.specs.filter_api.Members.{Member}
use Rattle.file_path.specs.ngx_variables.declared.request.Main.{Main}
use Rattle.file_path.specs.ngx_variables.declared.request.Request.{Request}
use Rattle.file_path.specs.ngx_variables.Grammar.{begins_with}
use Rattle.error_page.specs.resp_head.Head.{is_bodiless}
use Rattle.error_page.specs.Page.{page_of}
use Rattle.site_views.specs.Values.{Values, MediaTypes, Shown}
use Rattle.site_views.specs.Values.Shown.{OwnCode, Fixed, ByAnswer}
use Rattle.request_meaning.specs.Serving.{World, Asked, Standing, Answer, Prepared, Body, is_main, is_auth, is_head}
use Rattle.request_meaning.specs.Serving.Body.{NoBody, Plain, Filtered}

-- an error of one of these codes of a main request closes the connection after its response
abbrev pub is_closing : ℕ → Bool
is_closing code = (code == 400) || (code == 413) || (code == 414) || (code == 500) || (code == 501)

abbrev pub closes_by : Asked → ℕ → Bool
closes_by a code = a.closes || (is_main a.request && is_closing code)

-- nothing is sent as a body to HEAD (RFC 9110, 9.3.2), nor for a subrequest that is asked for its status alone
abbrev pub has_no_body : Main → Request → Bool
has_no_body main request = is_auth request || (is_main request && is_head main.method)

-- ---- built-in pages and redirects

-- the built-in page of a code, with the target of a redirect
unfoldable pub page_answer : Asked → Standing → (code : ℕ) → (to : Option (List ℕ)) → Answer
page_answer a s code to =
    record {
      status = code;
      main = a.main;
      request = s.request;
      values = s.values;
      kind = Some (codes "text/html");
      length = Some (length (page_of code));
      known = true;
      modified = None;
      location = to;
      closes = closes_by a code;
      gone = false;
      read = None;
    }

abbrev pub page_body : Asked → Standing → (code : ℕ) → Body
page_body a s code = if has_no_body a.main s.request then NoBody else Plain (page_of code)

unfoldable pub page_to : Asked → Standing → (code : ℕ) → (to : Option (List ℕ)) → Prepared
page_to a s code to = record { answer = page_answer a s code to; body = page_body a s code }

unfoldable pub page : Asked → Standing → (code : ℕ) → Prepared
page a s code = page_to a s code None

abbrev pub ip_host : IpAddr → List ℕ
ip_host (V4 a) = ip_text (V4 a)
ip_host (V6 a) = 91 ∷ ip_text (V6 a) ++ 93 ∷ []

abbrev pub host_or : List ℕ → Addr → List ℕ
host_or [] local = ip_host local.ip
host_or (b ∷ host) local = b ∷ host

-- the host of a redirect: the server's first name where the level says so, else the host that was asked for, and where that
-- is empty the address (#server_name_in_redirect); and its port (#port_in_redirect)
unfoldable pub redirect_host : Values → Main → List ℕ
redirect_host values main = host_or (if values.with_server_name then main.server_name else main.host) main.local

unfoldable pub redirect_port : Values → Main → List ℕ
redirect_port values main = if values.with_port && not (main.local.port == 80) then 58 ∷ decimal main.local.port else []

-- a target that is a path of the site is put after `http://` and the host (#absolute_redirect)
unfoldable pub absolute : Values → Main → List ℕ → List ℕ
absolute values main to =
    if begins_with 47 to && values.absolute then codes "http://" ++ redirect_host values main ++ redirect_port values main ++ to else to

abbrev pub redirect_target : Values → Main → Option (List ℕ) → Option (List ℕ)
redirect_target values main None = None
redirect_target values main (Some to) = Some (absolute values main to)

-- a redirect: its own status and the built-in page of that
unfoldable pub moved : Asked → Standing → (code : ℕ) → (to : Option (List ℕ)) → Prepared
moved a s code to = page_to a s code (redirect_target s.values a.main to)

-- the connection is closed without an answer
unfoldable pub closed_answer : Asked → Standing → Answer
closed_answer a s =
    record {
      status = 444;
      main = a.main;
      request = s.request;
      values = s.values;
      kind = None;
      length = Some 0;
      known = true;
      modified = None;
      location = None;
      closes = true;
      gone = true;
      read = None;
    }

abbrev pub closed : Asked → Standing → Prepared
closed a s = record { answer = closed_answer a s; body = NoBody }

-- ---- texts and files

-- the status that is shown: the answer's own, or by the error that was handled (#error_page)
abbrev pub shown_status : Option (ℕ × Shown) → ℕ → ℕ
shown_status None own = own
shown_status (Some (code, OwnCode)) own = code
shown_status (Some (code, Fixed n)) own = n
shown_status (Some (code, ByAnswer)) own = own

abbrev pub is_among : MediaTypes → List ℕ → Bool
is_among types kind = types.every || bytes_eq kind (codes "text/html") || list_any (bytes_eq kind) types.types

-- what the filters are told of a body with this status and media type
unfoldable pub facts_of : Standing → (status : ℕ) → (kind : List ℕ) → Facts
facts_of s status kind =
    record {
      ssi = s.values.ssi;
      ssi_type = is_among s.values.ssi_types kind;
      before = is_some s.values.before;
      after = is_some s.values.after;
      addition_type = is_among s.values.addition_types kind;
      status = status;
      main = is_main s.request;
    }

-- a filter acts on the body
abbrev pub is_filtered : World → Facts → Bool
is_filtered w facts = list_any (λ (m : Member). (m.machine facts).on) w.members

abbrev pub first_bytes : Option FieldValue → Option (List ℕ)
first_bytes None = None
first_bytes (Some value) = Some value.bytes

-- the date that If-Modified-Since names (RFC 9110, 13.1.3)
unfoldable pub since_date : Main → Option ℕ
since_date main = option_and_then parse_secs (first_bytes (get main.fields (codes "if-modified-since")))

abbrev pub same_date : Option ℕ → Option ℕ → Bool
same_date (Some a) (Some b) = a == b
same_date (Some a) None = false
same_date None date = false

-- a file of the main request that was not modified since then, and is sent as it is
unfoldable pub is_unmodified : Main → Request → (status : ℕ) → (filtered : Bool) → (date : Option ℕ) → Bool
is_unmodified main request status filtered date =
    is_main request && (status == 200) && not filtered && same_date date (since_date main)

-- the date of a file is told where it is sent, or is not modified, and no filter acts on it
abbrev pub shown_date : (status : ℕ) → (filtered : Bool) → Option ℕ → Option ℕ
shown_date status filtered date = if not filtered && ((status == 200) || (status == 304)) then date else None

-- the body is sent as it is, or as the filters make it; nothing where the status has no content (RFC 9110, 15.3.5 and
-- 15.4.5) or none is sent to the request
abbrev pub body_sent : (nothing filtered : Bool) → Facts → List ℕ → Body
body_sent nothing filtered facts bytes = if nothing then NoBody else (if filtered then Filtered facts bytes else Plain bytes)

abbrev pub read_of : (nothing : Bool) → Option ℕ → List ℕ → Option ℕ
read_of nothing None bytes = None
read_of nothing (Some date) bytes = if nothing then None else Some (length bytes)

-- nothing is sent
abbrev pub sends_nothing : Asked → Standing → (status : ℕ) → Bool
sends_nothing a s status = is_bodiless status || has_no_body a.main s.request

-- the answer with this status, which is shown
unfoldable pub answer_with : Asked → Standing → (status : ℕ) → (kind : List ℕ) → (filtered : Bool) → List ℕ → Option ℕ → Answer
answer_with a s status kind filtered bytes date =
    let bodiless = is_bodiless status in
    record {
      status = status;
      main = a.main;
      request = s.request;
      values = s.values;
      kind = if bodiless then None else Some kind;
      length = if bodiless || filtered then None else Some (length bytes);
      known = bodiless || not filtered;
      modified = shown_date status filtered date;
      location = None;
      closes = a.closes;
      gone = false;
      read = read_of (sends_nothing a s status) date bytes;
    }

abbrev pub prepared : Asked → Standing → (status : ℕ) → (kind : List ℕ) → (filtered : Bool) → Facts → List ℕ → Option ℕ → Prepared
prepared a s status kind filtered facts bytes date =
    record {
      answer = answer_with a s status kind filtered bytes date;
      body = body_sent (sends_nothing a s status) filtered facts bytes;
    }

-- A text or a file, with a date if it is a file, that the level answers with a status of its own. Where a filter acts on it
-- its length isn't known and its date isn't told.
unfoldable pub sent : World → Asked → Standing → (own : ℕ) → List ℕ → (date : Option ℕ) → Prepared
sent w a s own bytes date =
    let status = shown_status a.error own in
    let kind = type_of s.values.types s.request.path in
    let facts = facts_of s status kind in
    let filtered = is_filtered w facts in
    prepared a s (if is_unmodified a.main s.request status filtered date then 304 else status) kind filtered facts bytes date
