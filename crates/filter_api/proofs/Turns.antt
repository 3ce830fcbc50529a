use Rattle.std.proofs.Common.{◌≡◌, ℕ, Bool, true, false, cond, suc, ◌+◌, ◌<◌, List, [], ◌∷◌, ◌++◌, map, length, get_or, take, drop, refl, sym, ap, ◌∙◌, append_assoc, append-nil, arith, add-one}
use Rattle.std.proofs.Math.ListN.{set}
use Rattle.std.proofs.Math.Seq.{take-suc-set}
use Rattle.std.proofs.lemmas.List.{drop_more, drop-set-lt, get_or-map, length-map}
use Rattle.ssi_text.specs.declared.part.Part.{Part}
use Rattle.filter_api.specs.declared.stage.Stage.{Stage}
use Rattle.filter_api.specs.declared.facts.FilterState.{FilterState}
use Rattle.ssi_text.specs.Marks.{Mark, part_marks, marks}
use Rattle.filter_api.specs.Members.{Machine, feeds, fresh, whole, turned}
use Rattle.filter_api.proofs.Feeds.{feeds_state-append, feeds_out-append, marks-push}
use Rattle.filter_api.specs.Chains.{begun, stage_feeds, stage_ends, feeds_all, still}

-- the front of a list's rest
pub rest_at : {X : Type 0} (xs : List X) (i : ℕ) (x : X) → i < length xs → x ≡ get_or xs i x → drop i xs ≡ x ∷ drop (i + 1) xs
rest_at xs i x h e = drop_more xs i x h ∙ ap (λ y. y ∷ drop (i + 1) xs) (sym e)

pub map_at : {X Y : Type 0} (f : X → Y) (xs : List X) (i : ℕ) (x : X) → i < length xs → x ≡ get_or xs i x → f x ≡ get_or (map f xs) i (f x)
map_at f xs i x h e = ap f e ∙ sym (get_or-map f xs i x (f x) h)

take-set-more : {X : Type 0} (xs : List X) (i : ℕ) (x : X) → i < length xs → take (i + 1) (set xs i x) ≡ take i xs ++ x ∷ []
take-set-more xs i x h = rw add-one (take-suc-set xs i x h)

pub pass_turn : (ms : List Machine) (gs : List Stage) (i : ℕ) (m : Machine) (g : Stage) (ps : List Mark) → i < length ms → i < length gs → m ≡ get_or ms i m → g ≡ get_or gs i g → let a = stage_feeds m g ps in let gs' = set gs i a.0 in (take (i + 1) gs' ++ (feeds_all (drop (i + 1) ms) (drop (i + 1) gs') a.1).0 ≡ take i gs ++ (feeds_all (drop i ms) (drop i gs) ps).0) × ((feeds_all (drop (i + 1) ms) (drop (i + 1) gs') a.1).1 ≡ (feeds_all (drop i ms) (drop i gs) ps).1)
pass_turn ms gs i m g ps hm hg em eg =
    let a = stage_feeds m g ps in
    let b = feeds_all (drop (i + 1) ms) (drop (i + 1) gs) a.1 in
    let dm : drop i ms ≡ m ∷ drop (i + 1) ms = rest_at ms i m hm em in
    let dg : drop i gs ≡ g ∷ drop (i + 1) gs = rest_at gs i g hg eg in
    let same : drop (i + 1) (set gs i a.0) ≡ drop (i + 1) gs = drop-set-lt (i + 1) gs i a.0 (omega arith) in
    let all : feeds_all (drop i ms) (drop i gs) ps ≡ (a.0 ∷ b.0, b.1) = ap (λ x. feeds_all x (drop i gs) ps) dm ∙ ap (λ y. feeds_all (m ∷ drop (i + 1) ms) y ps) dg in
    let rest : feeds_all (drop (i + 1) ms) (drop (i + 1) (set gs i a.0)) a.1 ≡ b = ap (λ y. feeds_all (drop (i + 1) ms) y a.1) same in (
      ap (λ x. take (i + 1) (set gs i a.0) ++ x.0) rest ∙ ap (λ x. x ++ b.0) (take-set-more gs i a.0 hg) ∙ append_assoc (take i gs) (a.0 ∷ []) b.0 ∙ ap (λ x. take i gs ++ x.0) (sym all),
      ap (λ x. x.1) rest ∙ ap (λ x. x.1) (sym all),
    )

pub last_turn : (ms : List Machine) (gs : List Stage) (i : ℕ) (m : Machine) (g g' : Stage) (ps : List Mark) → i < length ms → i < length gs → m ≡ get_or ms i m → g ≡ get_or gs i g → still (drop (i + 1) ms) (drop (i + 1) (set gs i g')) (stage_ends m g ps) ≡ still (drop i ms) (drop i gs) ps
last_turn ms gs i m g g' ps hm hg em eg =
    let dm : drop i ms ≡ m ∷ drop (i + 1) ms = rest_at ms i m hm em in
    let dg : drop i gs ≡ g ∷ drop (i + 1) gs = rest_at gs i g hg eg in
    let same : drop (i + 1) (set gs i g') ≡ drop (i + 1) gs = drop-set-lt (i + 1) gs i g' (omega arith) in
    ap (λ y. still (drop (i + 1) ms) y (stage_ends m g ps)) same ∙ sym (ap (λ x. still x (drop i gs) ps) dm ∙ ap (λ y. still (m ∷ drop (i + 1) ms) y ps) dg)

-- The same for a list of values that are seen by f, with the new stage and the new parts under names.
pub pass_step : {X : Type 0} (f : X → Machine) (xs : List X) (gs : List Stage) (i : ℕ) (x : X) (g g' : Stage) (ps ps' : List Mark) (all : List Stage × List Mark)
    → i < length xs → i < length gs → x ≡ get_or xs i x → g ≡ get_or gs i g → g' ≡ (stage_feeds (f x) g ps).0 → ps' ≡ (stage_feeds (f x) g ps).1
    → take i gs ++ (feeds_all (drop i (map f xs)) (drop i gs) ps).0 ≡ all.0
    → (feeds_all (drop i (map f xs)) (drop i gs) ps).1 ≡ all.1
    → (take (i + 1) (set gs i g') ++ (feeds_all (drop (i + 1) (map f xs)) (drop (i + 1) (set gs i g')) ps').0 ≡ all.0) × ((feeds_all (drop (i + 1) (map f xs)) (drop (i + 1) (set gs i g')) ps').1 ≡ all.1)
pass_step f xs gs i x g g' ps ps' all hx hg ex eg e0 e1 i0 i1 =
    let ms = map f xs in
    let t = pass_turn ms gs i (f x) g ps (rw length-map hx) hg (map_at f xs i x hx ex) eg in (
      ap (λ y. take (i + 1) (set gs i y) ++ (feeds_all (drop (i + 1) ms) (drop (i + 1) (set gs i y)) ps').0) e0 ∙ ap (λ y. take (i + 1) (set gs i (stage_feeds (f x) g ps).0) ++ (feeds_all (drop (i + 1) ms) (drop (i + 1) (set gs i (stage_feeds (f x) g ps).0)) y).0) e1 ∙ t.0 ∙ i0,
      ap (λ y. (feeds_all (drop (i + 1) ms) (drop (i + 1) (set gs i y)) ps').1) e0 ∙ ap (λ y. (feeds_all (drop (i + 1) ms) (drop (i + 1) (set gs i (stage_feeds (f x) g ps).0)) y).1) e1 ∙ t.1 ∙ i1,
    )

pub last_step : {X : Type 0} (f : X → Machine) (xs : List X) (gs : List Stage) (i : ℕ) (x : X) (g g' : Stage) (ps ps' all : List Mark)
    → i < length xs → i < length gs → x ≡ get_or xs i x → g ≡ get_or gs i g → ps' ≡ stage_ends (f x) g ps
    → still (drop i (map f xs)) (drop i gs) ps ≡ all
    → still (drop (i + 1) (map f xs)) (drop (i + 1) (set gs i g')) ps' ≡ all
last_step f xs gs i x g g' ps ps' all hx hg ex eg e i0 =
    ap (λ y. still (drop (i + 1) (map f xs)) (drop (i + 1) (set gs i g')) y) e ∙ last_turn (map f xs) gs i (f x) g g' ps (rw length-map hx) hg (map_at f xs i x hx ex) eg ∙ i0

chosen_ends : (b : Bool) (m : Machine) (ps : List Mark) → stage_ends m (record { on = b; state = fresh }) ps ≡ cond b (whole m ps) ps
chosen_ends true m ps = refl
chosen_ends false m ps = refl

-- A chain that begins gives the composition.
pub still-begun : (ms : List Machine) (ps : List Mark) → still ms (begun ms) ps ≡ turned ms ps
still-begun [] ps = refl
still-begun (m ∷ ms) ps = ap (λ z. still ms (begun ms) z) (chosen_ends m.on m ps) ∙ still-begun ms (cond m.on (whole m ps) ps)

chosen_more : (m : Machine) (b : Bool) (s : FilterState) (ps qs : List Mark) → stage_ends m (record { on = b; state = s }) (ps ++ qs) ≡ (stage_feeds m (record { on = b; state = s }) ps).1 ++ stage_ends m (stage_feeds m (record { on = b; state = s }) ps).0 qs
chosen_more m true s ps qs =
    let a = feeds m s ps in
    ap (λ z. (feeds m s (ps ++ qs)).1 ++ m.finish z) (feeds_state-append m s ps qs) ∙ ap (λ z. z ++ m.finish (feeds m a.0 qs).0) (feeds_out-append m s ps qs) ∙ append_assoc a.1 (feeds m a.0 qs).1 (m.finish (feeds m a.0 qs).0)
chosen_more m false s ps qs = refl

-- What still comes of parts and more is what comes of the parts, and what still comes of more.
pub still-append : (ms : List Machine) (gs : List Stage) (ps qs : List Mark) → length ms ≡ length gs → still ms gs (ps ++ qs) ≡ (feeds_all ms gs ps).1 ++ still ms (feeds_all ms gs ps).0 qs
still-append [] gs ps qs e = refl
still-append (m ∷ ms) [] ps qs e = absurd (omega arith)
still-append (m ∷ ms) (g ∷ gs) ps qs e =
    let a = stage_feeds m g ps in
    ap (λ z. still ms gs z) (chosen_more m g.on g.state ps qs) ∙ still-append ms gs a.1 (stage_ends m a.0 qs) (omega arith)

pub length-feeds_all : (ms : List Machine) (gs : List Stage) (ps : List Mark) → length (feeds_all ms gs ps).0 ≡ length gs
length-feeds_all [] gs ps = refl
length-feeds_all (m ∷ ms) [] ps = refl
length-feeds_all (m ∷ ms) (g ∷ gs) ps = ap (λ n. suc n) (length-feeds_all ms gs (stage_feeds m g ps).1)

pub begun-map : {X : Type 0} (f : X → Machine) (xs : List X) → begun (map f xs) ≡ map (λ x. record { on = (f x).on; state = fresh }) xs
begun-map f [] = refl
begun-map f (x ∷ xs) = ap (λ z. (record { on = (f x).on; state = fresh }) ∷ z) (begun-map f xs)

pub length-begun : (ms : List Machine) → length (begun ms) ≡ length ms
length-begun [] = refl
length-begun (m ∷ ms) = ap (λ n. suc n) (length-begun ms)

-- A turn of a whole run: what came out and what still comes are the same as before it.
pub run_turn : (ms : List Machine) (gs0 gs gs' : List Stage) (ys : List Part) (p : Part) (o0 o o' : List Mark) → length ms ≡ length gs → gs' ≡ (feeds_all ms gs (part_marks p)).0 → o' ≡ o ++ (feeds_all ms gs (part_marks p)).1
    → ((more : List Mark) → o0 ++ still ms gs0 (marks ys ++ more) ≡ o ++ still ms gs more)
    → (more : List Mark) → o0 ++ still ms gs0 (marks (ys ++ p ∷ []) ++ more) ≡ o' ++ still ms gs' more
run_turn ms gs0 gs gs' ys p o0 o o' len eg eo inv more =
    let r = feeds_all ms gs (part_marks p) in
    ap (λ z. o0 ++ still ms gs0 (z ++ more)) (marks-push ys p) ∙ ap (λ z. o0 ++ still ms gs0 z) (append_assoc (marks ys) (part_marks p) more) ∙ inv (part_marks p ++ more) ∙ ap (λ z. o ++ z) (still-append ms gs (part_marks p) more len) ∙ sym (append_assoc o r.1 (still ms r.0 more)) ∙ ap (λ z. z ++ still ms r.0 more) (sym eo) ∙ ap (λ z. o' ++ still ms z more) (sym eg)

-- Its end.
pub run_end : (ms : List Machine) (gs0 gs : List Stage) (ys ps : List Part) (o0 o o' : List Mark) → gs0 ≡ begun ms → ys ≡ ps → o' ≡ o ++ still ms gs []
    → ((more : List Mark) → o0 ++ still ms gs0 (marks ys ++ more) ≡ o ++ still ms gs more)
    → o' ≡ o0 ++ turned ms (marks ps)
run_end ms gs0 gs ys ps o0 o o' eb ey eo inv =
    eo ∙ sym (inv []) ∙ ap (λ z. o0 ++ still ms gs0 z) (append-nil (marks ys) ∙ ap marks ey) ∙ ap (λ z. o0 ++ still ms z (marks ps)) eb ∙ ap (λ z. o0 ++ z) (still-begun ms (marks ps))

map_itself : {X : Type 0} (xs : List X) → map (λ y. y) xs ≡ xs
map_itself [] = refl
map_itself (x ∷ xs) = ap (λ z. x ∷ z) (map_itself xs)

pub all_yielded : {X : Type 0} (ys xs : List X) → map (λ y. y) ys ≡ xs → ys ≡ xs
all_yielded ys xs e = sym (map_itself ys) ∙ e
