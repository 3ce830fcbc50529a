-- Reading one line: its parts are those of the grammar.
use Rattle.std.proofs.Common.{◌≡◌, ℕ, zero, suc, ◌<◌, ◌≤◌, Bool, true, false, not, ◌&&◌, cond, eqb, ltb, List, [], ◌∷◌, ◌++◌, length, Option, Some, None, refl, sym, ap, ◌∙◌, arith}
use Rattle.std.specs.Prelude.{codes, bytes_eq, IsUtf8, option_map}
use Rattle.std.specs.List.{list_all}
use Rattle.std.specs.Str.{is_utf8}
use Rattle.std.proofs.lemmas.Bool.{and_parts, and_from, ne_eqb, false≢true, lt-ltb, ltb-true, eqb-true, eq-eqb, not-true}
use Rattle.std.proofs.lemmas.List.Folds.{list_all-append}
use Rattle.std.proofs.lemmas.List.Sums.{AllPass-from_list_all, list_all-from_AllPass}
use Rattle.std.proofs.lemmas.Str.{IsUtf8-from_is_utf8, is_utf8-from_IsUtf8}
use Rattle.std.proofs.lemmas.Slice.Eq.{bytes_eq-Decides}
use Rattle.httparse.specs.Grammar.{print_version, Field, IsField, IsToken, AllPass, is_token, is_token_byte, is_uri_byte, is_value_byte}
use Rattle.req_head.specs.Lines.{Line}
use Rattle.req_head.specs.Reading.{cut_at, minor_of, is_target_text, RequestLine, versioned, targeted, split_line, request_line, split_field, field_line}
use Rattle.req_head.proofs.LineLemmas.{is_inner}

-- ---- tests on all bytes

pub all_by : (p q : ℕ → Bool) → ((b : ℕ) → p b ≡ true → q b ≡ true) → (bytes : List ℕ) → list_all p bytes ≡ true → list_all q bytes ≡ true
all_by p q f [] h = refl
all_by p q f (b ∷ bytes) h =
    let c = and_parts (p b) (list_all p bytes) h in
    and_from (q b) (list_all q bytes) (f b c.0) (all_by p q f bytes c.1)

pub passes : (p : ℕ → Bool) (bytes : List ℕ) → AllPass p bytes → list_all p bytes ≡ true
passes p bytes h = list_all-from_AllPass p bytes h

pub all_pass : (p : ℕ → Bool) (bytes : List ℕ) → list_all p bytes ≡ true → AllPass p bytes
all_pass p bytes h = AllPass-from_list_all p bytes h

-- ---- which bytes a class has not

other_byte : (p : ℕ → Bool) (b c : ℕ) → p c ≡ false → p b ≡ true → eqb b c ≡ false
other_byte p b c fails holds = ne_eqb b c (λ e. false≢true (sym fails ∙ ap p (sym e) ∙ holds))

token_not : (c : ℕ) → is_token_byte c ≡ false → (bytes : List ℕ) → list_all is_token_byte bytes ≡ true → list_all (λ b. not (eqb b c)) bytes ≡ true
token_not c fails bytes h = all_by is_token_byte (λ b. not (eqb b c)) (λ b t. ap not (other_byte is_token_byte b c fails t)) bytes h

space_no_token : is_token_byte 32 ≡ false
unfolding is_token_byte
space_no_token = refl

colon_no_token : is_token_byte 58 ≡ false
unfolding is_token_byte
colon_no_token = refl

lf_no_token : is_token_byte 10 ≡ false
unfolding is_token_byte
lf_no_token = refl

cr_no_token : is_token_byte 13 ≡ false
unfolding is_token_byte
cr_no_token = refl

inner_by : (p : ℕ → Bool) → p 10 ≡ false → p 13 ≡ false → (bytes : List ℕ) → list_all p bytes ≡ true → list_all is_inner bytes ≡ true
inner_by p no_lf no_cr bytes h =
    all_by p is_inner (λ b t. and_from (not (eqb b 10)) (not (eqb b 13)) (ap not (other_byte p b 10 no_lf t)) (ap not (other_byte p b 13 no_cr t))) bytes h

pub token_inner : (bytes : List ℕ) → list_all is_token_byte bytes ≡ true → list_all is_inner bytes ≡ true
token_inner bytes h = inner_by is_token_byte lf_no_token cr_no_token bytes h

pub target_inner : (bytes : List ℕ) → list_all is_uri_byte bytes ≡ true → list_all is_inner bytes ≡ true
target_inner bytes h = inner_by is_uri_byte refl refl bytes h

pub value_inner : (bytes : List ℕ) → list_all is_value_byte bytes ≡ true → list_all is_inner bytes ≡ true
value_inner bytes h = inner_by is_value_byte refl refl bytes h

pub both_inner : (a b : List ℕ) → list_all is_inner a ≡ true → list_all is_inner b ≡ true → list_all is_inner (a ++ b) ≡ true
both_inner a b x y = list_all-append is_inner a b ∙ and_from (list_all is_inner a) (list_all is_inner b) x y

-- ---- tokens and targets

is_token_from : (bytes : List ℕ) → IsToken bytes → is_token bytes ≡ true
is_token_from bytes h = and_from (ltb 0 (length bytes)) (list_all is_token_byte bytes) (lt-ltb 0 (length bytes) h.0) (passes is_token_byte bytes h.1)

token_from : (bytes : List ℕ) → is_token bytes ≡ true → IsToken bytes
token_from bytes h =
    let p = and_parts (ltb 0 (length bytes)) (list_all is_token_byte bytes) h in
    (ltb-true 0 (length bytes) p.0, all_pass is_token_byte bytes p.1)

abbrev IsTarget : List ℕ → Type 0
IsTarget target = ((0 < length target) × AllPass is_uri_byte target) × IsUtf8 target

is_target_from : (target : List ℕ) → IsTarget target → is_target_text target ≡ true
is_target_from target h =
    and_from (ltb 0 (length target)) (list_all is_uri_byte target && is_utf8 target) (lt-ltb 0 (length target) h.0.0)
    (and_from (list_all is_uri_byte target) (is_utf8 target) (passes is_uri_byte target h.0.1) (is_utf8-from_IsUtf8 target h.1))

target_from : (target : List ℕ) → is_target_text target ≡ true → IsTarget target
target_from target h =
    let p = and_parts (ltb 0 (length target)) (list_all is_uri_byte target && is_utf8 target) h in
    let q = and_parts (list_all is_uri_byte target) (is_utf8 target) p.1 in
    ((ltb-true 0 (length target) p.0, all_pass is_uri_byte target q.0), IsUtf8-from_is_utf8 target q.1)

-- ---- cuts

abbrev pub one_cut : Bool → ℕ → List ℕ → Option (List ℕ × List ℕ) → Option (List ℕ × List ℕ)
one_cut t b bytes o = cond t (Some ([], bytes)) (option_map (λ p. (b ∷ p.0, p.1)) o)

pub cut-found : (c : ℕ) (a b : List ℕ) → list_all (λ x. not (eqb x c)) a ≡ true → cut_at c (a ++ c ∷ b) ≡ Some (a, b)
cut-found c [] b h = ap (λ t. one_cut t c b (cut_at c b)) (eq-eqb c c refl)
cut-found c (x ∷ a) b h =
    let p = and_parts (not (eqb x c)) (list_all (λ x. not (eqb x c)) a) h in
    ap (λ t. one_cut t x (a ++ c ∷ b) (cut_at c (a ++ c ∷ b))) (not-true (eqb x c) p.0) ∙ ap (one_cut false x (a ++ c ∷ b)) (cut-found c a b p.1)

abbrev pub CutsTo : ℕ → List ℕ → Option (List ℕ × List ℕ) → Type 0
CutsTo c bytes None = Unit {0}
CutsTo c bytes (Some p) = bytes ≡ p.0 ++ c ∷ p.1

cut_step : (t : Bool) (c b : ℕ) (bytes : List ℕ) (o : Option (List ℕ × List ℕ)) → eqb b c ≡ t → CutsTo c bytes o
    → CutsTo c (b ∷ bytes) (one_cut t b bytes o)
cut_step true c b bytes o e h = ap (λ z. z ∷ bytes) (eqb-true b c e)
cut_step false c b bytes None e h = tt
cut_step false c b bytes (Some p) e h = ap (λ z. b ∷ z) h

pub cut-is : (c : ℕ) (bytes : List ℕ) → CutsTo c bytes (cut_at c bytes)
cut-is c [] = tt
cut-is c (b ∷ bytes) = cut_step (eqb b c) c b bytes (cut_at c bytes) refl (cut-is c bytes)

-- ---- the request line

minor_from : (minor : ℕ) → minor ≤ 1 → minor_of (print_version minor) ≡ Some minor
minor_from zero h = refl
minor_from (suc zero) h = refl
minor_from (suc (suc n)) h = absurd (omega arith)

abbrev MinorIs : List ℕ → Option ℕ → Type 0
MinorIs version None = Unit {0}
MinorIs version (Some minor) = (minor ≤ 1) × (version ≡ print_version minor)

minor_at : (s t : Bool) (version : List ℕ) → bytes_eq version (codes "HTTP/1.0") ≡ s → bytes_eq version (codes "HTTP/1.1") ≡ t
    → MinorIs version (cond s (Some 0) (cond t (Some 1) None))
minor_at true t version x y = (omega arith, (bytes_eq-Decides version (codes "HTTP/1.0")).0 x)
minor_at false true version x y = (omega arith, (bytes_eq-Decides version (codes "HTTP/1.1")).0 y)
minor_at false false version x y = tt

minor-is : (version : List ℕ) → MinorIs version (minor_of version)
minor-is version = minor_at (bytes_eq version (codes "HTTP/1.0")) (bytes_eq version (codes "HTTP/1.1")) version refl refl

-- the parts are those of the grammar
pub record IsLine (line : RequestLine) : Type 0 where
  pub method : IsToken line.method
  pub target : (0 < length line.target) × AllPass is_uri_byte line.target
  pub target_text : IsUtf8 line.target
  pub minor : line.minor ≤ 1

abbrev pub line_text : RequestLine → List ℕ
line_text line = line.method ++ 32 ∷ (line.target ++ 32 ∷ print_version line.minor)

target_not : (bytes : List ℕ) → list_all is_uri_byte bytes ≡ true → list_all (λ b. not (eqb b 32)) bytes ≡ true
target_not bytes h = all_by is_uri_byte (λ b. not (eqb b 32)) (λ b t. ap not (other_byte is_uri_byte b 32 refl t)) bytes h

versioned-from : (line : RequestLine) → IsLine line → versioned line.method line.target (Some line.minor) ≡ Some line
versioned-from line is =
    ap (λ z. cond z (Some line) None)
    (and_from (is_token line.method) (is_target_text line.target) (is_token_from line.method is.method) (is_target_from line.target (is.target, is.target_text)))

pub request_line-found : (line : RequestLine) → IsLine line → request_line (line_text line) ≡ Some line
unfolding request_line
request_line-found line is =
    let m = token_not 32 space_no_token line.method (passes is_token_byte line.method is.method.1) in
    let t = target_not line.target (passes is_uri_byte line.target is.target.1) in
    ap split_line (cut-found 32 line.method (line.target ++ 32 ∷ print_version line.minor) m)
    ∙ ap (targeted line.method) (cut-found 32 line.target (print_version line.minor) t)
    ∙ ap (versioned line.method line.target) (minor_from line.minor is.minor)
    ∙ versioned-from line is

abbrev pub LineIs : List ℕ → Option RequestLine → Type 0
LineIs text None = Unit {0}
LineIs text (Some line) = IsLine line × (text ≡ line_text line)

tested : (t : Bool) (method target : List ℕ) (minor : ℕ) (text : List ℕ) → (is_token method && is_target_text target) ≡ t → minor ≤ 1
    → text ≡ method ++ 32 ∷ (target ++ 32 ∷ print_version minor) → LineIs text (cond t (Some (record { method = method; target = target; minor = minor })) None)
tested true method target minor text e m h =
    let p = and_parts (is_token method) (is_target_text target) e in
    let u = target_from target p.1 in
    (record { method = token_from method p.0; target = u.0; target_text = u.1; minor = m }, h)
tested false method target minor text e m h = tt

versioned-is : (method target version text : List ℕ) (o : Option ℕ) → MinorIs version o → text ≡ method ++ 32 ∷ (target ++ 32 ∷ version) → LineIs text (versioned method target o)
versioned-is method target version text None m h = tt
versioned-is method target version text (Some minor) m h =
    tested (is_token method && is_target_text target) method target minor text refl m.0 (h ∙ ap (λ z. method ++ 32 ∷ (target ++ 32 ∷ z)) m.1)

targeted-is : (method rest text : List ℕ) (o : Option (List ℕ × List ℕ)) → CutsTo 32 rest o → text ≡ method ++ 32 ∷ rest → LineIs text (targeted method o)
targeted-is method rest text None c h = tt
targeted-is method rest text (Some p) c h = versioned-is method p.0 p.1 text (minor_of p.1) (minor-is p.1) (h ∙ ap (λ z. method ++ 32 ∷ z) c)

split-is : (text : List ℕ) (o : Option (List ℕ × List ℕ)) → CutsTo 32 text o → LineIs text (split_line o)
split-is text None c = tt
split-is text (Some p) c = targeted-is p.0 p.1 text (cut_at 32 p.1) (cut-is 32 p.1) c

pub request_line-is : (text : List ℕ) → LineIs text (request_line text)
unfolding request_line
request_line-is text = split-is text (cut_at 32 text) (cut-is 32 text)

-- ---- a field line

abbrev pub field_text : Field → List ℕ
field_text f = f.name ++ 58 ∷ f.raw

pub field_line-found : (f : Field) → IsField f → field_line (record { text = field_text f; end = f.end }) ≡ Some f
unfolding field_line
field_line-found f is =
    ap (split_field f.end) (cut-found 58 f.name f.raw (token_not 58 colon_no_token f.name (passes is_token_byte f.name is.name.1)))
    ∙ ap (λ z. cond z (Some f) None)
    (and_from (is_token f.name) (list_all is_value_byte f.raw) (is_token_from f.name is.name) (passes is_value_byte f.raw is.raw))

abbrev pub FieldIs : Line → Option Field → Type 0
FieldIs l None = Unit {0}
FieldIs l (Some f) = IsField f × (l.text ≡ field_text f) × (l.end ≡ f.end)

field_tested : (t : Bool) (l : Line) (p : List ℕ × List ℕ) → (is_token p.0 && list_all is_value_byte p.1) ≡ t → l.text ≡ p.0 ++ 58 ∷ p.1
    → FieldIs l (cond t (Some (record { name = p.0; raw = p.1; end = l.end })) None)
field_tested true l p e h =
    let q = and_parts (is_token p.0) (list_all is_value_byte p.1) e in
    (record { name = token_from p.0 q.0; raw = all_pass is_value_byte p.1 q.1 }, h, refl)
field_tested false l p e h = tt

split_field-is : (l : Line) (o : Option (List ℕ × List ℕ)) → CutsTo 58 l.text o → FieldIs l (split_field l.end o)
split_field-is l None c = tt
split_field-is l (Some p) c = field_tested (is_token p.0 && list_all is_value_byte p.1) l p refl c

pub field_line-is : (l : Line) → FieldIs l (field_line l)
unfolding field_line
field_line-is l = split_field-is l (cut_at 58 l.text) (cut-is 58 l.text)
