-- What the parts of a head make together.
use Rattle.std.proofs.Common.{◌≡◌, ℕ, ◌+◌, ◌-◌, ◌≤◌, Bool, true, false, not, ◌&&◌, ◌||◌, cond, eqb, ltb, List, [], ◌∷◌, length, take, drop, map, Option, Some, None, Result, Ok, Err, refl, sym, ap, ◌∙◌, subst, arith}
use Rattle.std.specs.Prelude.{codes}
use Rattle.std.specs.Result.{IfOk, is_ok}
use Rattle.std.specs.List.{flat_map, slice_range, All, AllByRecursion}
use Rattle.std.proofs.lemmas.Bool.{le-ltb}
use Rattle.std.proofs.lemmas.List.{drop-take, take-take}
use Rattle.std.proofs.lemmas.List.Elements.{recursion_from_All}
use Rattle.byte_text.specs.declared.memory.OutOfMemory.{OutOfMemory}
use Rattle.http_header.specs.Token.{lowercase}
use Rattle.uri_text.specs.Target.{normal_of, absolute_of}
use Rattle.req_head.specs.Rules.{host_is_bad, is_there, coding_is_other, length_is_bad, first_fault, fault_of}
use Rattle.req_head.specs.Options.{has_value, has_option}
use Rattle.req_head.specs.Known.{AreValues, IsKnown}
use Rattle.req_head.specs.declared.known.Known.{Known}
use Rattle.req_head.specs.declared.known.Values.{Values}
use Rattle.httparse.specs.Grammar.{RequestHead}
use Rattle.httparse.specs.Spans.{IsRequestAt, IsRequestWithin, IsHeaderWithin, span_bytes, header_bytes}
use Rattle.httparse.specs.declared.spans.HeaderSpan.{HeaderSpan}
use Rattle.httparse.specs.declared.spans.RequestSpans.{RequestSpans}
use Rattle.http_header.specs.FieldValue.{FieldValue}
use Rattle.http_header.specs.HeaderMap.{Entries, get_all}
use Rattle.http_types.specs.declared.words.Method.{Method}
use Rattle.http_types.specs.declared.words.Version.{Version}
use Rattle.http_types.specs.declared.words.BodyKind.{BodyKind}
use Rattle.http_types.specs.declared.words.BodyKind.TheVariants.{Chunked}
use Rattle.req_head.specs.Lines.{print_line, lines, whole_lines, after_empty}
use Rattle.req_head.specs.Reading.{Reading, Whole, Short, read_request}
use Rattle.req_head.specs.FirstLine.{asks_head}
use Rattle.req_head.specs.Fields.{with_fields, fields_of}
use Rattle.req_head.specs.Host.{host_of, without_port, named_host}
use Rattle.req_head.specs.Heads.{method_of, version_of, body_of, body_by_length, keeps, head_with, head_of, fault_with, fault_in}
use Rattle.req_head.specs.Step.{looked, tested, step_of, head_step}
use Rattle.req_head.specs.declared.head.Head.{Head as HeadParts}
use Rattle.req_head.specs.declared.head.HeadStep.{HeadStep}
use Rattle.req_head.specs.declared.head.HeadStep.TheVariants.{More, Head, Bad}
use Rattle.req_head.proofs.LineLemmas.{lines-whole_lines, whole_lines-is}
use Rattle.req_head.proofs.ScanLemmas.{count_is, length-whole_lines}

pub made : (method target host : List ℕ) (minor : ℕ) (fields : Entries FieldValue) (m : Method) (v : Version) (t : List ℕ) (b : BodyKind) (k : Bool)
    → m ≡ method_of method → v ≡ version_of minor → t ≡ target → host ≡ host_of target (get_all fields (codes "host"))
    → b ≡ body_of (get_all fields (codes "transfer-encoding")) (get_all fields (codes "content-length"))
    → k ≡ keeps minor (get_all fields (codes "connection")) (get_all fields (codes "expect"))
    → record { method = m; version = v; target = t; host = host; fields = fields; body = b; keep = k } ≡ head_with method target minor fields
unfolding head_with
made method target host minor fields m v t b k em ev et eh eb ek =
    λ i. record { method = em i; version = ev i; target = et i; host = eh i; fields = fields; body = eb i; keep = ek i }

-- the fields that the spans show
fields-shown : (text : List ℕ) (slots : List HeaderSpan) (s : RequestSpans) (h : RequestHead) (fields : Entries FieldValue) → IsRequestAt text slots s h
    → fields ≡ with_fields [] (map (header_bytes text) (take s.headers slots)) → fields ≡ fields_of h
unfolding fields_of
fields-shown text slots s h fields at e = e ∙ ap (with_fields []) at.fields

few_fields : (text : List ℕ) (slots : List HeaderSpan) (s : RequestSpans) (h : RequestHead) → IsRequestWithin text slots s → s.headers ≤ 64 → IsRequestAt text slots s h → ltb 64 (length h.fields) ≡ false
few_fields text slots s h w few at = le-ltb 64 (length h.fields) (omega (arith, count_is text slots s h w at))

-- what the parts show of the tests
fault-shown : (text : List ℕ) (slots : List HeaderSpan) (s : RequestSpans) (h : RequestHead) (target : List ℕ) (fields : Entries FieldValue) → IsRequestAt text slots s h
    → target ≡ span_bytes text s.path → fields ≡ with_fields [] (map (header_bytes text) (take s.headers slots)) → fault_with s.version target fields ≡ fault_in h
fault-shown text slots s h target fields at et ef =
    ap (λ z. fault_with z target fields) at.version ∙ ap (λ z. fault_with h.minor z fields) (et ∙ at.path) ∙ ap (fault_with h.minor h.target) (fields-shown text slots s h fields at ef)

step-shown : (seen : List ℕ) (h : RequestHead) (o : Option ℕ) → ltb 64 (length h.fields) ≡ false → o ≡ fault_in h → tested (asks_head seen) h o ≡ step_of seen (Whole h)
step-shown seen h o few e =
    ap (tested (asks_head seen) h) e ∙ sym (ap (λ t. cond t (Bad 400 (asks_head seen)) (tested (asks_head seen) h (fault_in h))) few)

pub refused_is : (seen text : List ℕ) (slots : List HeaderSpan) (s : RequestSpans) (target : List ℕ) (fields : Entries FieldValue) (o : Option ℕ) (code : ℕ) (ask : Bool)
    → IsRequestWithin text slots s → s.headers ≤ 64 → target ≡ span_bytes text s.path → fields ≡ with_fields [] (map (header_bytes text) (take s.headers slots))
    → o ≡ fault_with s.version target fields → o ≡ Some code → ask ≡ asks_head seen
    → (h : RequestHead) → IsRequestAt text slots s h → Bad code ask ≡ step_of seen (Whole h)
refused_is seen text slots s target fields o code ask w few et ef eo ec ea h at =
    ap (Bad code) ea ∙ step-shown seen h (Some code) (few_fields text slots s h w few at) (sym ec ∙ eo ∙ fault-shown text slots s h target fields at et ef)

pub passed_is : (seen text : List ℕ) (slots : List HeaderSpan) (s : RequestSpans) (method target : List ℕ) (fields : Entries FieldValue) (o : Option ℕ) (head : HeadParts)
    → IsRequestWithin text slots s → s.headers ≤ 64 → method ≡ span_bytes text s.method → target ≡ span_bytes text s.path → fields ≡ with_fields [] (map (header_bytes text) (take s.headers slots))
    → o ≡ fault_with s.version target fields → o ≡ None → head ≡ head_with method target s.version fields
    → (h : RequestHead) → IsRequestAt text slots s h → Head head s.len ≡ step_of seen (Whole h)
passed_is seen text slots s method target fields o head w few em et ef eo ec eh h at =
    let is : head ≡ head_of h =
    eh ∙ ap (λ z. head_with z target s.version fields) (em ∙ at.method) ∙ ap (λ z. head_with h.method z s.version fields) (et ∙ at.path)
    ∙ ap (λ z. head_with h.method h.target z fields) at.version ∙ ap (head_with h.method h.target h.minor) (fields-shown text slots s h fields at ef) in
    ap (λ z. Head z s.len) is ∙ ap (Head (head_of h)) at.len
    ∙ step-shown seen h None (few_fields text slots s h w few at) (sym ec ∙ eo ∙ fault-shown text slots s h target fields at et ef)

-- ---- whole lines

pub lines_short : (seen text : List ℕ) → length seen ≤ 8192 → text ≡ whole_lines seen → length text ≤ 8192
lines_short seen text h e = omega (arith, h, ap length e, length-whole_lines seen)

pub lines_whole : (seen text : List ℕ) → text ≡ whole_lines seen → whole_lines text ≡ text
lines_whole seen text e =
    ap whole_lines e ∙ whole_lines-is (whole_lines seen) ∙ ap (flat_map print_line) (lines-whole_lines seen) ∙ sym (whole_lines-is seen) ∙ sym e

-- ---- the whole

decided-is : (bytes : List ℕ) → head_step bytes ≡ step_of (looked bytes) (read_request (lines (looked bytes)))
unfolding head_step
decided-is bytes = refl

pub decided_by : (bytes seen text : List ℕ) (r : Reading RequestHead) (step : HeadStep) → seen ≡ looked bytes → text ≡ whole_lines seen → read_request (lines text) ≡ r
    → step ≡ step_of seen r → step ≡ head_step bytes
decided_by bytes seen text r step es et er e =
    e ∙ ap (step_of seen) (sym er ∙ ap (λ z. read_request (lines z)) et ∙ ap read_request (lines-whole_lines seen))
    ∙ ap (λ z. step_of z (read_request (lines z))) es ∙ sym (decided-is bytes)

pub empty-short : read_request (lines []) ≡ Short
unfolding read_request lines
empty-short = refl

pub empty-more : (bytes : List ℕ) → length bytes ≡ 0 → More ≡ head_step bytes
unfolding whole_lines lines looked after_empty
empty-more [] e = decided_by [] (looked []) (whole_lines (looked [])) Short More refl refl empty-short refl
empty-more (b ∷ bytes) e = absurd (omega arith)

pub ok_map : {A E : Type 0} (r : Result A E) (P Q : A → Type 0) → ((a : A) → P a → Q a) → IfOk r P → IfOk r Q
ok_map (Ok a) P Q f h = f a h
ok_map (Err e) P Q f h = tt

-- ---- from what is known of the fields

pub fault-known : (minor : ℕ) (target : List ℕ) (fields : Entries FieldValue) (h x c l t : Bool) (o : Option ℕ) → h ≡ host_is_bad minor (get_all fields (codes "host"))
    → x ≡ (is_there (get_all fields (codes "transfer-encoding")) && (eqb minor 0 || is_there (get_all fields (codes "content-length"))))
    → c ≡ coding_is_other (get_all fields (codes "transfer-encoding")) → l ≡ length_is_bad (get_all fields (codes "content-length")) → t ≡ is_ok (normal_of target true)
    → o ≡ first_fault h x c l (not t) → o ≡ fault_with minor target fields
unfolding fault_with fault_of
fault-known minor target fields h x c l t o eh ex ec el et e = e ∙ (λ i. first_fault (eh i) (ex i) (ec i) (el i) (not (et i)))

pub host-known : (target : List ℕ) (values : List FieldValue) (name cut t : List ℕ) → name ≡ named_host (absolute_of target) values → cut ≡ without_port name → t ≡ lowercase cut → t ≡ host_of target values
unfolding host_of
host-known target values name cut t en ec et = et ∙ ap lowercase (ec ∙ ap without_port en)

pub keeps-known : (minor : ℕ) (connection expect : List FieldValue) (a b c r : Bool) → a ≡ has_value (codes "100-continue") expect → b ≡ has_option (codes "close") connection → c ≡ has_option (codes "keep-alive") connection
    → r ≡ (not a && (not b && (eqb minor 1 || c))) → r ≡ keeps minor connection expect
unfolding keeps
keeps-known minor connection expect a b c r ea eb ec e = e ∙ (λ i. not (ea i) && (not (eb i) && (eqb minor 1 || ec i)))

pub chunked-known : (codings lengths : List FieldValue) (t : Bool) → t ≡ is_there codings → t ≡ true → Chunked ≡ body_of codings lengths
unfolding body_of
chunked-known codings lengths t e h = sym (ap (λ z. cond z Chunked (body_by_length lengths)) (sym e ∙ h))

pub sized-known : (codings lengths : List FieldValue) (t : Bool) (b : BodyKind) → t ≡ is_there codings → t ≡ false → b ≡ body_by_length lengths → b ≡ body_of codings lengths
unfolding body_of
sized-known codings lengths t b e h eb = eb ∙ sym (ap (λ z. cond z Chunked (body_by_length lengths)) (sym e ∙ h))

pub host_ok : (r : Result (List ℕ) OutOfMemory) (target name cut : List ℕ) (host : Values) → ((values : List FieldValue) → AreValues values host → name ≡ named_host (absolute_of target) values) → cut ≡ without_port name
    → IfOk r (λ t. t ≡ lowercase cut) → IfOk r (λ t. (values : List FieldValue) → AreValues values host → t ≡ host_of target values)
host_ok (Ok t) target name cut host en ec e = λ values are. host-known target values name cut t (en values are) ec e
host_ok (Err e) target name cut host en ec h = tt

-- ---- spans in the first bytes

shown_within : (text : List ℕ) (n a b : ℕ) → a ≤ b → b ≤ n → slice_range (take n text) a b ≡ slice_range text a b
shown_within text n a b l h =
    ap (λ z. take (b - a) (drop a (take z text))) (let e : n ≡ a + (n - a) = omega arith in e)
    ∙ ap (take (b - a)) (drop-take a (n - a) text)
    ∙ take-take (b - a) (n - a) (drop a text) (omega arith)

headers_within : (text : List ℕ) (n : ℕ) (s : HeaderSpan) → IsHeaderWithin n s → header_bytes (take n text) s ≡ header_bytes text s
headers_within text n s w = λ i. (shown_within text n s.name.start s.name.end w.0.0 w.0.1 i, shown_within text n s.value.start s.value.end w.1.0 w.1.1 i)

each_within : (text : List ℕ) (n : ℕ) (spans : List HeaderSpan) → AllByRecursion (IsHeaderWithin n) spans → map (header_bytes (take n text)) spans ≡ map (header_bytes text) spans
each_within text n [] all = refl
each_within text n (s ∷ spans) all = λ i. headers_within text n s all.0 i ∷ each_within text n spans all.1 i

pub spans_within : (text : List ℕ) (n : ℕ) (spans : List HeaderSpan) → All (IsHeaderWithin n) spans → map (header_bytes (take n text)) spans ≡ map (header_bytes text) spans
spans_within text n spans all = each_within text n spans (recursion_from_All (IsHeaderWithin n) spans all)

pub fields_within : (text : List ℕ) (n : ℕ) (spans : List HeaderSpan) (m : Entries FieldValue) → All (IsHeaderWithin n) spans → m ≡ with_fields [] (map (header_bytes (take n text)) spans)
    → m ≡ with_fields [] (map (header_bytes text) spans)
fields_within text n spans m all e = e ∙ ap (with_fields []) (spans_within text n spans all)

pub map_known : (text : List ℕ) (n : ℕ) (spans : List HeaderSpan) (m : Entries FieldValue) (k : Known) → All (IsHeaderWithin n) spans → m ≡ with_fields [] (map (header_bytes (take n text)) spans)
    → IsKnown (with_fields [] (map (header_bytes text) spans)) k → IsKnown m k
map_known text n spans m k all e h = subst (λ z. IsKnown z k) (sym (fields_within text n spans m all e)) h
