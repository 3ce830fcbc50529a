-- A response goes on.
use Rattle.std.proofs.Common.{◌≡◌, ℕ, ◌+◌, ◌-◌, ◌^◌, ◌<◌, ◌≤◌, Bool, true, false, List, [], ◌∷◌, ◌++◌, cond, length, Option, None, Some, refl, sym, ap, ◌∙◌, subst, arith}
use Rattle.std.specs.Prelude.{nat_le, nat_lt, option_map}
use Rattle.std.proofs.lemmas.List.{append-nil}
use Rattle.std.proofs.lemmas.Bool.Decides.{nat_tests}
use Rattle.file_tree.specs.Tree.{Item, Tree, Trees, tree_of}
use Rattle.ngx_pattern.specs.Pattern.{Pattern as SetPattern}
use Rattle.site_model.specs.declared.site.Site.{Site}
use Rattle.request_meaning.specs.Counts.{most_subs}
use Rattle.request_meaning.specs.Serving.{World}
use Rattle.request_flow.specs.family_rest.Laws.{RowTellsStill}
use Rattle.subrequests.specs.Moved.{IsWhole, files, meant}
use Rattle.page_response.specs.Pages.{IsAllOver, IsSame, bytes_left, nodes_asked, whole_length}
use Rattle.page_response.specs.Ran.{Goes, RunsTo}
use Rattle.subrequests.specs.declared.family.Ran.{Ran as FamilyRan}
use Rattle.subrequests.specs.declared.family.Ran.TheVariants as ran
use Rattle.request_flow.specs.request_phases.declared.ground.Ground.{Ground}
use Rattle.page_response.specs.declared.pages.Pages.{Pages}
use Rattle.request_flow.specs.Rests.{Follows, Rest, no_rest}
use Rattle.access_flow.specs.Flows.{IsOpened, access_left}
use Rattle.access_flow.specs.declared.flow.AccessFlow.{AccessFlow}
use Rattle.request_flow.specs.Flows.{HasOpened, StageOpened, flow_fits, flow_rest, item_asked, placed_most, stage_opened, stage_rest}
use Rattle.request_flow.specs.declared.flow.Flow.{Flow}
use Rattle.request_flow.specs.declared.flow.Stage.{Stage}
use Rattle.request_flow.specs.declared.flow.Stage.TheVariants.{Asked, Told, Reading, Came}
use Rattle.std.specs.Global.{Box}
use Rattle.response_flow.specs.Continues.{Continues, IfOn, is_over}
use Rattle.response_flow.specs.Flights.{FlightFits, alone_rest, most_kept, page_left, with_opened}
use Rattle.response_flow.specs.declared.flight.Flight.{Flight}
use Rattle.response_flow.specs.declared.flight.PageFlow.{PageFlow}
use Rattle.response_flow.specs.declared.flight.Flight.TheVariants.{Alone, Asking, Page}
use Rattle.response_flow.specs.declared.flight.Onward.{Onward}
use Rattle.response_flow.specs.declared.flight.Ran.{Ran}
use Rattle.response_flow.specs.declared.flight.Ran.TheVariants as runs

-- the same is still to come
pub same_continues : (site : Site) (r : Rest) (out : List ℕ) (closing : Bool) → Continues site r r out out closing closing None None
same_continues site r out closing = record { bytes = refl; closes = refl; logged = refl; level = refl; heavy = refl }

pub follows_continues : (site : Site) (before after : Rest) (out out' : List ℕ) (closing closing' : Bool) (log : _) (number : _) →
    Follows site before after out out' closing closing' log number → Continues site before after out out' closing closing' log number
follows_continues site before after out out' closing closing' log number f = record {
  bytes = f.bytes;
  closes = f.closes;
  logged = f.logged;
  level = f.level;
  heavy = ap (nat_lt most_subs) f.subs;
}

-- ---- with the subrequests that were asked before

none_over : (n count : ℕ) → 0 ≡ n → count ≤ 255 → false ≡ nat_lt most_subs (n + count)
none_over n count e h = grind (arith, nat_tests, e, h)

pub lifted : (site : Site) (before after : Rest) (count : ℕ) (out out' : List ℕ) (closing closing' : Bool) (log : _) (number : _) →
    Follows site before after out out' closing closing' log number →
    Continues site (with_opened count before) (with_opened count after) out out' closing closing' log number
lifted site before after count out out' closing closing' log number f = record {
  bytes = f.bytes;
  closes = f.closes;
  logged = f.logged;
  level = f.level;
  heavy = ap (λ n. nat_lt most_subs (n + count)) f.subs;
}

pub counted : (site : Site) (before after : Rest) (count own : ℕ) (out out' : List ℕ) (closing closing' : Bool) (log : _) (number : _) → own ≡ count →
    Follows site before after out out' closing closing' log number →
    Continues site (with_opened count before) (with_opened own after) out out' closing closing' log number
counted site before after count own out out' closing closing' log number e f =
    subst (λ n. Continues site (with_opened count before) (with_opened n after) out out' closing closing' log number) (sym e) (lifted site before after count out out' closing closing' log number f)

-- where nothing more is asked
done_asking : (site : Site) (before after : Rest) (count own : ℕ) (out out' : List ℕ) (closing closing' : Bool) (log : _) (number : _) → 0 ≡ after.subs → count ≤ 255 → own ≤ 255 →
    Follows site before after out out' closing closing' log number →
    Continues site (with_opened count before) (with_opened own after) out out' closing closing' log number
done_asking site before after count own out out' closing closing' log number e few few' f = record {
  bytes = f.bytes;
  closes = f.closes;
  logged = f.logged;
  level = f.level;
  heavy = sym (none_over after.subs own e few') ∙ none_over before.subs count (e ∙ f.subs) few;
}

zero_few : 0 ≤ 255
zero_few = omega arith

stage_continues : (w : World) (patterns : List SetPattern) (site : Site) (tree : Tree) (stage : Stage) (item : Item) (before : Rest) (count : ℕ) (out out' : List ℕ) (closing closing' : Bool) (log : _) (number : _) →
    StageOpened count stage → count ≤ 255 → Follows site before (stage_rest w patterns site tree stage item) out out' closing closing' log number →
    Continues site (with_opened count before) (with_opened (stage_opened stage) (stage_rest w patterns site tree stage item)) out out' closing closing' log number
stage_continues w patterns site tree (Asked request wait) item before count out out' closing closing' log number o few f =
    counted site before _ count request.value.opened out out' closing closing' log number o f
stage_continues w patterns site tree (Told request wait node) item before count out out' closing closing' log number o few f =
    counted site before _ count request.value.opened out out' closing closing' log number o f
stage_continues w patterns site tree (Reading sending left) item before count out out' closing closing' log number o few f =
    done_asking site before _ count 0 out out' closing closing' log number refl few zero_few f
stage_continues w patterns site tree (Came sending left placed) item before count out out' closing closing' log number o few f =
    done_asking site before _ count 0 out out' closing closing' log number refl few zero_few f

-- a request alone goes on
pub alone_continues : (w : World) (patterns : List SetPattern) (site : Site) (trees : Trees) (before : Rest) (flow : Option (Box Flow)) (count : ℕ) (out out' : List ℕ) (closing closing' : Bool) (log : _) (number : _) →
    HasOpened count flow → count ≤ 255 → Follows site before (flow_rest w patterns site flow trees) out out' closing closing' log number →
    Continues site (with_opened count before) (alone_rest w patterns site flow trees) out out' closing closing' log number
alone_continues w patterns site trees before None count out out' closing closing' log number o few f = record {
  bytes = f.bytes;
  closes = f.closes;
  logged = f.logged;
  level = f.level;
  heavy = sym (none_over 0 0 refl zero_few) ∙ none_over before.subs count f.subs few;
}
alone_continues w patterns site trees before (Some flow) count out out' closing closing' log number o few f =
    stage_continues w patterns site (trees (tree_of flow.value.ask)) flow.value.stage (item_asked trees flow.value.ask) before count out out' closing closing' log number o few f

pub none_opened : (r : Rest) → with_opened 0 r ≡ r
none_opened r = ap (λ n. record { bytes = r.bytes; stays = r.stays; logs = r.logs; values = r.values; subs = n }) (plus_none r.subs)
  where
    plus_none : (n : ℕ) → n + 0 ≡ n
    plus_none n = omega arith

-- a subrequest is asked whether it is let in: one more was asked, and one less is still to be
pub asked_one : (site : Site) (before after opened : Rest) (count own : ℕ) (out out' : List ℕ) (closing closing' : Bool) → IsOpened opened after → own ≡ count + 1 →
    Follows site before after out out' closing closing' None None →
    Continues site (with_opened count before) (with_opened own opened) out out' closing closing' None None
asked_one site before after opened count own out out' closing closing' o e f = record {
  bytes = ap (λ b. out' ++ b) o.bytes ∙ f.bytes;
  closes = ap (λ b. cond b closing' true) o.stays ∙ f.closes;
  logged = o.logs ∙ f.logged;
  level = o.values ∙ f.level;
  heavy = ap (nat_lt most_subs) (one_more opened.subs after.subs before.subs o.subs e f.subs);
}
  where
    one_more : (opened after before : ℕ) → opened + 1 ≡ after → own ≡ count + 1 → after ≡ before → opened + own ≡ before + count
    one_more opened after before a b c = omega (arith, a, b, c)

-- the subrequest goes on
pub still_asked : (w : World) (patterns : List SetPattern) (site : Site) (trees : Trees) (old new : AccessFlow) (out out' : List ℕ) (closing : Bool) →
    access_left w patterns site trees new ≡ access_left w patterns site trees old → new.request.value.opened ≡ old.request.value.opened → out' ≡ out →
    Continues site (with_opened old.request.value.opened (access_left w patterns site trees old)) (with_opened new.request.value.opened (access_left w patterns site trees new)) out out' closing closing None None
still_asked w patterns site trees old new out out' closing left opened put =
    rw put (rw opened (rw left (same_continues site (with_opened old.request.value.opened (access_left w patterns site trees old)) out closing)))

-- the same of what is equal
pub same_said : (site : Site) (before r r' : Rest) (out out' : List ℕ) (closing c c' : Bool) (log log' : _) (number number' : _) → r' ≡ r → c' ≡ c → log' ≡ log → number' ≡ number →
    Continues site before r out out' closing c log number → Continues site before r' out out' closing c' log' number'
same_said site before r r' out out' closing c c' log log' number number' er ec el en f = rw er (rw ec (rw el (rw en f)))

abbrev mk : (bytes : List ℕ) → (status len nodes : ℕ) → Rest
mk bytes status len nodes = record { bytes = bytes; stays = true; logs = (status, len) ∷ []; values = None; subs = nodes - 1 }

-- a page that goes on
pub same_left : (w : World) (patterns : List SetPattern) (site : Site) (trees : Trees) (p q : Pages) → IsSame w patterns site trees p q → q.status ≡ p.status →
    page_left w patterns site trees p ≡ page_left w patterns site trees q
same_left w patterns site trees p q s e =
    ap (λ b. mk b p.status (whole_length w patterns site trees p) (nodes_asked w patterns site trees p)) s.bytes
    ∙ (ap (λ x. mk (bytes_left w patterns site trees q) x (whole_length w patterns site trees p) (nodes_asked w patterns site trees p)) (sym e)
    ∙ (ap (λ x. mk (bytes_left w patterns site trees q) q.status x (nodes_asked w patterns site trees p)) s.whole
    ∙ ap (λ x. mk (bytes_left w patterns site trees q) q.status (whole_length w patterns site trees q) x) s.nodes))

-- it asks for too many subrequests
pub too_many : (w : World) (patterns : List SetPattern) (site : Site) (trees : Trees) (p : Pages) → 1001 < nodes_asked w patterns site trees p → is_over (page_left w patterns site trees p) ≡ true
too_many w patterns site trees p h = by (nodes_asked w patterns site trees p) h
  where
    by : (n : ℕ) → 1001 < n → nat_lt most_subs (n - 1) ≡ true
    by n h = grind (arith, nat_tests, h)

-- a page that is over
pub ends : (rows : RowTellsStill) (w : World) (patterns : List SetPattern) (site : Site) (trees : Trees) (p : Pages) (before : Rest) (from out : List ℕ) (first closing : Bool) (size : ℕ) (level : Option ℕ) →
    IsWhole p.family → IsAllOver w patterns site trees p → out ≡ bytes_left w patterns site trees p → size ≡ whole_length w patterns site trees p →
    Continues site before (page_left w patterns site trees p) from [] first closing None level → Continues site before no_rest from out first closing (Some (p.status, size)) level
ends rows w patterns site trees p before from out first closing size level whole over put long c = record {
  bytes = append-nil out ∙ (put ∙ c.bytes);
  closes = c.closes;
  logged = ap (λ n. (p.status, n) ∷ []) long ∙ c.logged;
  level = c.level;
  heavy = few (length p.family.nodes) _ whole.few (rows.counts_over w (trees p.family.tree) (meant w patterns site (files trees p.family) p.family) p.family.vars over.0 over.1) ∙ c.heavy;
}
  where
    few : (nodes asked : ℕ) → nodes ≤ 1001 → asked ≡ 0 → false ≡ nat_lt most_subs (nodes + asked - 1)
    few nodes asked h e = grind (arith, nat_tests, h, e)

-- what was put or what is still to come, said of what is equal
pub moved : (site : Site) (before r q : Rest) (from out out' : List ℕ) (first closing : Bool) (level : Option ℕ) → r ≡ q → out ≡ out' →
    Continues site before r from out first closing None level → Continues site before q from out' first closing None level
moved site before r q from out out' first closing level er eo c = subst (λ x. Continues site before q from x first closing None level) eo (subst (λ x. Continues site before x from out first closing None level) er c)

-- a node that rests
pub rested : (patterns : List SetPattern) (g : Ground) (old p new : Pages) (r : FamilyRan) → old ≡ p → RunsTo patterns g old new r → r ≡ ran.Rests → Goes patterns g p new
rested patterns g old p new r eo h er = subst (λ x. Goes patterns g x new) eo (subst (RunsTo patterns g old new) er h)

-- a request alone fits
pub stage_few : (stage : Stage) (count : ℕ) → StageOpened count stage → count ≤ 255 → stage_opened stage ≤ 255
stage_few (Asked request wait) count o few = omega (arith, o, few)
stage_few (Told request wait node) count o few = omega (arith, o, few)
stage_few (Reading sending left) count o few = zero_few
stage_few (Came sending left placed) count o few = zero_few

pub fits_alone : (flow : Option (Box Flow)) (size count : ℕ) → flow_fits flow size ≡ true → HasOpened count flow → count ≤ 255 → FlightFits (option_map (λ f. Alone f) flow) size
unfolding placed_most most_kept
fits_alone None size count h o few = kept size h
  where
    kept : (n : ℕ) → nat_le n 98304 ≡ true → n ≤ 2 ^ 26
    kept n e = let l : n ≤ 98304 = grind (arith, nat_tests) in omega (arith, l)
fits_alone (Some flow) size count h o few = (h, stage_few flow.value.stage count o few)

-- what is less is less than more
pub lower : (ran : Ran) (size : Onward → ℕ) (a b : ℕ) → a ≤ b → IfOn ran (λ o. size o < a) → IfOn ran (λ o. size o < b)
lower (runs.On o) size a b h l = omega (arith, h, l)
lower runs.TooMany size a b h l = tt

-- the flight that is in a place, and the page in it
abbrev pub flight_in : Option Flight → Flight → Flight
flight_in None f = f
flight_in (Some g) f = g

abbrev pub page_in : Option Flight → PageFlow → PageFlow
page_in (Some (Page p)) q = p
page_in (Some (Alone f)) q = q
page_in (Some (Asking f)) q = q
page_in None q = q

pub no_bytes : (out : List ℕ) → length out ≡ 0 → out ≡ []
no_bytes [] e = refl
no_bytes (b ∷ out) e = absurd (omega arith)
