-- What the events do to the connection.
use Rattle.std.proofs.Common.{◌≡◌, ℕ, ◌+◌, ◌*◌, ◌<◌, ◌≤◌, min, Bool, true, ◌&&◌, List, [], ◌∷◌, ◌++◌, length, take, drop, refl, sym, ap, subst, ◌∙◌, arith, append_assoc, inl, inr, length-append}
use Rattle.std.specs.Prelude.{Contains, map, Some, ◌==◌, if◌then◌else◌}
use Rattle.std.proofs.lemmas.Bool.Decides.{nat_tests}
use Rattle.std.proofs.lemmas.List.{append-nil, take-append-drop, length-take}
use Rattle.ngx_outside.specs.Views.{Start, Log, Logged, Always, Went, Ran, Goes, no_bytes}
use Rattle.plain_core.specs.declared.conn.Request.{Request}
use Rattle.plain_core.specs.declared.conn.Life.{Life}
use Rattle.plain_core.specs.declared.conn.Life.TheVariants as life
use Rattle.plain_core.specs.Lines.{has_line, after_line, requests, answers, logs}
use Rattle.plain_core.specs.Shown.{shown_at, starts_in, logs_in, is_live_at, price_of, work_at}
use Rattle.plain_core.proofs.LineLaws.{requests-line}

live_is : (l : Life) → is_live_at l ≡ true → l ≡ life.Live
live_is life.Absent h = cc
live_is life.Live h = refl
live_is (life.Stopped cause) h = cc

empty_is : (xs : List ℕ) → (length xs == 0) ≡ true → xs ≡ []
empty_is [] h = refl
empty_is (x ∷ xs) h = let no : length (x ∷ xs) ≡ 0 = grind (arith, nat_tests) in absurd (omega arith)

-- what is past is logged, and is the first of all
logged_past : (past later : List Log) → Logged (map (λ l. Some l) past) (past ++ later)
logged_past past later = record { over = past; later = later; first = refl; told = inl refl }

-- what arrives raises the work that is left by its price
pub arrive_left : (reply input input' output bytes : List ℕ) (l : Life) (ended : Bool) (taken : ℕ) → taken ≡ min (length bytes) 4096 →
    input' ≡ input ++ take taken bytes → work_at reply l input' output ≤ work_at reply l input output + price_of reply * taken
arrive_left reply input input' output bytes life.Absent ended taken t e = omega arith
arrive_left reply input input' output bytes (life.Stopped cause) ended taken t e = omega arith
arrive_left reply input input' output bytes life.Live ended taken t e =
    let within : length (take taken bytes) ≡ taken = length-take taken bytes ∙ (omega arith) in
    let more : length input' ≡ length input + taken = ap length e ∙ length-append input (take taken bytes) ∙ ap (λ n. length input + n) within in
    let grown : price_of reply * length input' ≡ price_of reply * (length input + taken) = ap (λ n. price_of reply * n) more in
    omega arith

pub deadline_is : (reply input output : List ℕ) (l : Life) (journal : List Request) (ended : Bool) (due : ℕ) → is_live_at l ≡ true →
    (shown_at reply l input output journal ended due).deadline ≡ Some due
deadline_is reply input output life.Absent journal ended due h = cc
deadline_is reply input output life.Live journal ended due h = refl
deadline_is reply input output (life.Stopped cause) journal ended due h = cc

-- a live connection may be given up
pub timed_is : (reply input output : List ℕ) (l : Life) (journal : List Request) (ended : Bool) (due : ℕ) → is_live_at l ≡ true → (shown_at reply l input output journal ended due).course.timed ≡ true
timed_is reply input output life.Absent journal ended due h = cc
timed_is reply input output life.Live journal ended due h = refl
timed_is reply input output (life.Stopped cause) journal ended due h = cc

-- pending bytes that go
pub writes : (reply input output output' : List ℕ) (l : Life) (journal : List Request) (ended : Bool) (due due' count : ℕ) → 0 < count →
    count ≤ length (shown_at reply l input output journal ended due).pending → output' ≡ drop count output →
    Went Always (shown_at reply l input output journal ended due) (shown_at reply l input output' journal ended due') []
    (take count (shown_at reply l input output journal ended due).pending) []
writes reply input output output' life.Absent journal ended due due' count some within e = absurd (omega arith)
writes reply input output output' (life.Stopped cause) journal ended due due' count some within e = absurd (omega arith)
writes reply input output output' life.Live journal ended due due' count some within e = record {
  before = refl;
  after = refl;
  moved = record {
    starts = sym (append-nil (starts_in journal));
    raceless = refl;
    timed = refl;
    bytes = λ trees holds more later.
        ap (λ xs. xs ++ answers reply (requests (input ++ more) later)) (sym (take-append-drop count output))
        ∙ append_assoc (take count output) (drop count output) (answers reply (requests (input ++ more) later))
        ∙ ap (λ xs. take count output ++ (xs ++ answers reply (requests (input ++ more) later))) (sym e);
    logs = λ trees holds more later. refl;
    closes = λ trees holds more later. refl;
    heavy = λ trees holds more later h. cc;
  };
  logged = λ trees more later. logged_past (logs_in journal) (logs reply (requests (input ++ more) later));
}

-- a request that starts
run_live : (reply input input' output output' : List ℕ) (journal journal' : List Request) (ended ended' : Bool) (due due' node : ℕ) (now : Start) →
    output ≡ [] → has_line input ≡ true → input' ≡ after_line input → output' ≡ output ++ reply →
    starts_in journal' ≡ starts_in journal ++ now ∷ [] → logs_in journal' ≡ logs_in journal ++ (200, length reply) ∷ [] → node ≡ 0 →
    Contains (shown_at reply life.Live input output journal ended due).ready node
    × Ran now (shown_at reply life.Live input output journal ended due) (shown_at reply life.Live input' output' journal' ended' due')
run_live reply input input' output output' journal journal' ended ended' due due' node now none line i o s g n = (
  subst (λ (b : Bool). Contains (if b then 0 ∷ [] else []) node) (sym ready) first,
  Goes (now ∷ []) (inr refl) record {
    before = refl;
    after = refl;
    moved = record {
      starts = s;
      raceless = refl;
      timed = refl;
      bytes = λ trees holds more later.
          ap (λ xs. xs ++ answers reply (requests (input ++ more) (now ∷ later))) none
          ∙ ap (answers reply) (asked more later)
          ∙ ap (λ xs. xs ++ answers reply (requests (input' ++ more) later)) (sym (o ∙ ap (λ xs. xs ++ reply) none));
      logs = λ trees holds more later.
          ap (λ a. logs_in journal ++ logs reply a) (asked more later)
          ∙ sym (append_assoc (logs_in journal) ((200, length reply) ∷ []) (logs reply (requests (input' ++ more) later)))
          ∙ ap (λ past. past ++ logs reply (requests (input' ++ more) later)) (sym g);
      closes = λ trees holds more later. refl;
      heavy = λ trees holds more later h. cc;
    };
    logged = λ trees more later. logged_past (logs_in journal') (logs reply (requests (input' ++ more) later));
  },
)
  where
    ready : (no_bytes output && has_line input) ≡ true
    ready = ap (λ xs. no_bytes xs && has_line input) none ∙ line

    asked : (more : List ℕ) (later : List Start) → requests (input ++ more) (now ∷ later) ≡ now ∷ requests (input' ++ more) later
    asked more later = requests-line input more now later line ∙ ap (λ xs. now ∷ requests (xs ++ more) later) (sym i)

    first : Contains (0 ∷ []) node
    first = (0, omega arith, sym n)

pub runs : (reply reply' input input' output output' : List ℕ) (l l' : Life) (journal journal' : List Request) (ended ended' : Bool) (due due' node size : ℕ) (now : Start) →
    is_live_at l ≡ true → l' ≡ l → reply' ≡ reply → (length output == 0) ≡ true → has_line input ≡ true → drop size input ≡ after_line input →
    input' ≡ drop size input → output' ≡ output ++ reply → starts_in journal' ≡ starts_in journal ++ now ∷ [] → logs_in journal' ≡ logs_in journal ++ (200, length reply) ∷ [] → node ≡ 0 →
    Contains (shown_at reply l input output journal ended due).ready node
    × Ran now (shown_at reply l input output journal ended due) (shown_at reply' l' input' output' journal' ended' due')
runs reply reply' input input' output output' l l' journal journal' ended ended' due due' node size now live same r none line cut i o s g n =
    subst (λ (a : Life). Contains (shown_at reply a input output journal ended due).ready node × Ran now (shown_at reply a input output journal ended due) (shown_at reply' l' input' output' journal' ended' due'))
    (sym (live_is l live))
    (subst (λ (a : Life). Contains (shown_at reply life.Live input output journal ended due).ready node × Ran now (shown_at reply life.Live input output journal ended due) (shown_at reply' a input' output' journal' ended' due'))
    (sym (same ∙ live_is l live))
    (subst (λ (a : List ℕ). Contains (shown_at reply life.Live input output journal ended due).ready node × Ran now (shown_at reply life.Live input output journal ended due) (shown_at a life.Live input' output' journal' ended' due'))
    (sym r)
    (run_live reply input input' output output' journal journal' ended ended' due due' node now (empty_is output none) line (i ∙ cut) o s g n)))
