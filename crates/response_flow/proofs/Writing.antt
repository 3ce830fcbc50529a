-- Bytes of a response were written.
use Rattle.std.proofs.Common.{◌≡◌, ℕ, zero, suc, ◌+◌, ◌-◌, ◌<◌, ◌≤◌, Bool, true, false, ◌&&◌, cond, List, [], ◌∷◌, ◌++◌, length, take, drop, None, refl, sym, ap, ◌∙◌, subst, append_assoc, length-drop, arith}
use Rattle.std.specs.Prelude.{◌==◌, nat_le, nat_lt}
use Rattle.std.proofs.lemmas.List.{length-take}
use Rattle.std.proofs.lemmas.Bool.Decides.{nat_tests}
use Rattle.file_tree.specs.Tree.{Tree, Trees}
use Rattle.ngx_pattern.specs.Pattern.{Pattern as SetPattern}
use Rattle.site_model.specs.declared.site.Site.{Site}
use Rattle.request_meaning.specs.Serving.{World}
use Rattle.request_flow.specs.declared.flow.Flow.{Flow}
use Rattle.request_flow.specs.declared.flow.Stage.{Stage}
use Rattle.request_flow.specs.declared.flow.Stage.TheVariants.{Asked, Told, Reading, Came}
use Rattle.request_flow.specs.Flows.{StageBy, kept_most, one_rest, placed_most, shown_by, shown_most, stage_fits, stage_left, stage_opened, stage_rest, stage_written}
use Rattle.request_flow.specs.Reached.{StageReached}
use Rattle.request_flow.specs.Rests.{Rest}
use Rattle.page_response.specs.Pages.{bytes_left, nodes_asked, whole_length}
use Rattle.page_response.specs.declared.pages.Pages.{Pages}
use Rattle.response_flow.specs.Flights.{page_left, with_opened}
use Rattle.response_flow.specs.Writes.{Writes, with_bytes}

shown_within : (n k : ℕ) (xs : List ℕ) → n ≤ length (take k xs) → (n ≤ k) × (n ≤ length xs)
shown_within n k xs h = let e = length-take k xs in (omega (arith, e, h), omega (arith, e, h))

below : (a b : ℕ) → nat_le a b ≡ true → a ≤ b
below a b e = grind (arith, nat_tests)

at_most : (a b : ℕ) → a ≤ b → nat_le a b ≡ true
at_most a b e = grind (arith, nat_tests)

same_size : (a b : ℕ) → (a == b) ≡ true → a ≡ b
same_size a b e = grind (arith, nat_tests)

and_left : (a b : Bool) → (a && b) ≡ true → a ≡ true
and_left true b e = refl
and_left false b e = cc

and_right : (a b : Bool) → (a && b) ≡ true → b ≡ true
and_right true b e = e
and_right false b e = cc

and_both : (a b : Bool) → a ≡ true → b ≡ true → (a && b) ≡ true
and_both true b e f = f
and_both false b e f = cc

shown_placed : (n placed : ℕ) → n ≤ cond (nat_lt placed shown_most) placed shown_most → n ≤ placed
shown_placed n placed h = by (nat_lt placed shown_most) refl h
  where
    by : (t : Bool) → nat_lt placed shown_most ≡ t → n ≤ cond t placed shown_most → n ≤ placed
    by true e h = h
    by false e h = grind (arith, nat_tests)

-- the first ones of the shown bytes, and the rest
parts : (count n : ℕ) (out : List ℕ) → count ≤ length (take n out) → take count (take n out) ++ drop count out ≡ out
parts zero n out h = refl
parts (suc count) zero out h = absurd (omega (arith, h))
parts (suc count) (suc n) [] h = absurd (omega (arith, h))
parts (suc count) (suc n) (b ∷ out) h = ap (λ r. b ∷ r) (parts count n out (omega (arith, h)))

abbrev pub flow_after : Flow → ℕ → Flow
flow_after flow n = record { ask = flow.ask; stage = stage_written flow.stage n }

stage_falls : (flow : Flow) (n size : ℕ) → 0 < n → n ≤ size → n ≤ shown_by flow.stage → stage_fits flow.ask flow.stage size ≡ true → size - n + stage_left (flow_after flow n).stage (size - n) < size + stage_left flow.stage size
stage_falls flow n size some within shown fits = by flow.stage shown fits
  where
    by : (stage : Stage) → n ≤ shown_by stage → stage_fits flow.ask stage size ≡ true → size - n + stage_left (stage_written stage n) (size - n) < size + stage_left stage size
    by (Asked request wait) h f = omega (arith, some, within)
    by (Told request wait node) h f = omega (arith, some, within)
    by (Reading sending left) h f = omega (arith, some, within)
    by (Came sending left placed) h f =
        let p = shown_placed n placed h in
        omega (arith, some, within, p)

-- it is so beside fewer bytes
stage_stands : (flow : Flow) (n size : ℕ) → 0 < n → n ≤ size → n ≤ shown_by flow.stage → stage_fits flow.ask flow.stage size ≡ true → stage_fits flow.ask (stage_written flow.stage n) (size - n) ≡ true
stage_stands flow n size some within shown fits = by flow.stage shown fits
  where
    by : (stage : Stage) → n ≤ shown_by stage → stage_fits flow.ask stage size ≡ true → stage_fits flow.ask (stage_written stage n) (size - n) ≡ true
    by (Asked request wait) h f = absurd (let z = same_size size 0 (and_right _ (size == 0) f) in omega (arith, some, within, z))
    by (Told request wait node) h f = absurd (let z = same_size size 0 (and_right _ (size == 0) f) in omega (arith, some, within, z))
    by (Reading sending left) h f = and_both _ (nat_le (size - n) placed_most) (and_left _ (nat_le size placed_most) f) (at_most (size - n) placed_most (let z = below size placed_most (and_right _ (nat_le size placed_most) f) in omega (arith, z)))
    by (Came sending left placed) h f =
        let q = and_right _ ((nat_le placed size && nat_le placed placed_most) && nat_le size kept_most) f in
        let p = and_left (nat_le placed size && nat_le placed placed_most) (nat_le size kept_most) q in
        let k = below size kept_most (and_right (nat_le placed size && nat_le placed placed_most) (nat_le size kept_most) q) in
        let a = below placed size (and_left (nat_le placed size) (nat_le placed placed_most) p) in
        let b = below placed placed_most (and_right (nat_le placed size) (nat_le placed placed_most) p) in
        and_both _ ((nat_le (placed - n) (size - n) && nat_le (placed - n) placed_most) && nat_le (size - n) kept_most) (and_left _ ((nat_le placed size && nat_le placed placed_most) && nat_le size kept_most) f)
        (and_both (nat_le (placed - n) (size - n) && nat_le (placed - n) placed_most) (nat_le (size - n) kept_most)
        (and_both (nat_le (placed - n) (size - n)) (nat_le (placed - n) placed_most) (at_most (placed - n) (size - n) (omega (arith, a))) (at_most (placed - n) placed_most (omega (arith, b))))
        (at_most (size - n) kept_most (omega (arith, k))))

-- what was written changes nothing of what is to come
same_stage : (w : World) (patterns : List SetPattern) (site : Site) (tree : Tree) (stage : Stage) (n : ℕ) (item : _) → stage_rest w patterns site tree (stage_written stage n) item ≡ stage_rest w patterns site tree stage item
same_stage w patterns site tree (Asked request wait) n item = refl
same_stage w patterns site tree (Told request wait node) n item = refl
same_stage w patterns site tree (Reading sending left) n item = refl
same_stage w patterns site tree (Came sending left placed) n item = refl

pub same_reached : (w : World) (patterns : List SetPattern) (site : Site) (path : List ℕ) (stage : Stage) (n : ℕ) → StageReached w patterns site path stage → StageReached w patterns site path (stage_written stage n)
same_reached w patterns site path (Asked request wait) n r = r
same_reached w patterns site path (Told request wait node) n r = r
same_reached w patterns site path (Reading sending left) n r = tt
same_reached w patterns site path (Came sending left placed) n r = tt

pub same_by : (server len : ℕ) (stage : Stage) (n : ℕ) → StageBy server len stage → StageBy server len (stage_written stage n)
same_by server len (Asked request wait) n r = r
same_by server len (Told request wait node) n r = r
same_by server len (Reading sending left) n r = tt
same_by server len (Came sending left placed) n r = tt

-- the first of the bytes that are kept go
pub kept_writes : (r : Rest) (out out' : List ℕ) (n count : ℕ) → out' ≡ drop count out → count ≤ length (take n out) → Writes r r out out' (take count (take n out))
kept_writes r out out' n count e h = record {
  bytes_are =
      ap (λ o. o ++ r.bytes) (sym (parts count n out h) ∙ ap (λ d. take count (take n out) ++ d) (sym e))
      ∙ append_assoc (take count (take n out)) out' r.bytes;
  stays = refl;
  logs = refl;
  values = refl;
  subs = refl;
}

pub flow_writes : (w : World) (patterns : List SetPattern) (site : Site) (trees : Trees) (flow : Flow) (out out' : List ℕ) (count : ℕ) → out' ≡ drop count out → count ≤ length (take (shown_by flow.stage) out) →
    Writes (one_rest w patterns site flow trees) (one_rest w patterns site (flow_after flow count) trees) out out' (take count (take (shown_by flow.stage) out))
flow_writes w patterns site trees flow out out' count e h =
    subst (λ r. Writes (one_rest w patterns site flow trees) r out out' (take count (take (shown_by flow.stage) out))) (sym (same_stage w patterns site _ flow.stage count _))
    (kept_writes (one_rest w patterns site flow trees) out out' (shown_by flow.stage) count e h)

pub flow_falls : (flow : Flow) (out out' : List ℕ) (count : ℕ) → 0 < count → out' ≡ drop count out → count ≤ length (take (shown_by flow.stage) out) → stage_fits flow.ask flow.stage (length out) ≡ true →
    length out' + stage_left (flow_after flow count).stage (length out') < length out + stage_left flow.stage (length out)
flow_falls flow out out' count some e h fits =
    let s = shown_within count (shown_by flow.stage) out h in
    let size : length out' ≡ length out - count = ap length e ∙ length-drop count out in
    subst (λ k. k + stage_left (flow_after flow count).stage k < length out + stage_left flow.stage (length out)) (sym size) (stage_falls flow count (length out) some s.1 s.0 fits)

pub flow_stands : (flow : Flow) (out out' : List ℕ) (count : ℕ) → 0 < count → out' ≡ drop count out → count ≤ length (take (shown_by flow.stage) out) → stage_fits flow.ask flow.stage (length out) ≡ true →
    stage_fits flow.ask (stage_written flow.stage count) (length out') ≡ true
flow_stands flow out out' count some e h fits =
    let s = shown_within count (shown_by flow.stage) out h in
    let size : length out' ≡ length out - count = ap length e ∙ length-drop count out in
    subst (λ k. stage_fits flow.ask (stage_written flow.stage count) k ≡ true) (sym size) (stage_stands flow count (length out) some s.1 s.0 fits)

pub kept_falls : (out out' : List ℕ) (n count : ℕ) → 0 < count → out' ≡ drop count out → count ≤ length (take n out) → length out' < length out
kept_falls out out' n count some e h =
    let s = shown_within count n out h in
    let size : length out' ≡ length out - count = ap length e ∙ length-drop count out in
    omega (arith, some, size, s.1)

-- a page of which bytes were written
pub page_writes : (r q : Rest) (bytes : List ℕ) → r ≡ with_bytes bytes q → Writes r q [] [] bytes
page_writes r q bytes e = record {
  bytes_are = ap (λ (x : Rest). x.bytes) e;
  stays = ap (λ (x : Rest). x.stays) (sym e);
  logs = ap (λ (x : Rest). x.logs) (sym e);
  values = ap (λ (x : Rest). x.values) (sym e);
  subs = ap (λ (x : Rest). x.subs) (sym e);
}

abbrev mk : (bytes : List ℕ) → (status len nodes : ℕ) → Rest
mk bytes status len nodes = record { bytes = bytes; stays = true; logs = (status, len) ∷ []; values = None; subs = nodes - 1 }

pub page_left_written : (w : World) (patterns : List SetPattern) (site : Site) (trees : Trees) (p q : Pages) (bytes : List ℕ) → bytes_left w patterns site trees p ≡ bytes ++ bytes_left w patterns site trees q →
    whole_length w patterns site trees p ≡ whole_length w patterns site trees q → nodes_asked w patterns site trees p ≡ nodes_asked w patterns site trees q → q.status ≡ p.status →
    page_left w patterns site trees p ≡ with_bytes bytes (page_left w patterns site trees q)
page_left_written w patterns site trees p q bytes eb el en es =
    ap (λ b. mk b p.status (whole_length w patterns site trees p) (nodes_asked w patterns site trees p)) eb
    ∙ (ap (λ x. mk (bytes ++ bytes_left w patterns site trees q) x (whole_length w patterns site trees p) (nodes_asked w patterns site trees p)) (sym es)
    ∙ (ap (λ x. mk (bytes ++ bytes_left w patterns site trees q) q.status x (nodes_asked w patterns site trees p)) el
    ∙ ap (λ x. mk (bytes ++ bytes_left w patterns site trees q) q.status (whole_length w patterns site trees q) x) en))

-- with the subrequests that were asked before
pub writes_opened : (before after : Rest) (old new : ℕ) (out out' bytes : List ℕ) → new ≡ old → Writes before after out out' bytes → Writes (with_opened old before) (with_opened new after) out out' bytes
writes_opened before after old new out out' bytes e h = record {
  bytes_are = h.bytes_are;
  stays = h.stays;
  logs = h.logs;
  values = h.values;
  subs = both after.subs before.subs h.subs;
}
  where
    both : (a b : ℕ) → a ≡ b → a + new ≡ b + old
    both a b d = omega (arith, d, e)

pub opened_stays : (stage : Stage) (count : ℕ) → stage_opened (stage_written stage count) ≡ stage_opened stage
opened_stays (Asked request wait) count = refl
opened_stays (Told request wait node) count = refl
opened_stays (Reading sending left) count = refl
opened_stays (Came sending left placed) count = refl

-- nothing is written where nothing is kept
pub none_written : (count most : ℕ) (out : List ℕ) → length out ≡ 0 → 0 < count → count ≤ length (take most out) → ⊥
none_written count most out none some h =
    let e = length-take most out in
    omega (arith, none, some, h, e)
