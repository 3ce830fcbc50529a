-- Steps of a node are steps of its family, wherever its bytes go.
use Rattle.std.proofs.Common.{◌≡◌, ◌≢◌, ℕ, suc, ◌+◌, ◌==◌, Bool, true, false, cond, List, [], ◌∷◌, ◌++◌, Option, None, Some, refl, sym, ap, ◌∙◌, subst, append-nil, append_assoc, arith}
use Rattle.std.proofs.lemmas.Bool.Decides.{nat_tests}
use Rattle.acts.specs.Vars.{Vars, look}
use Rattle.acts.specs.Act.{Done, Get, Stat, Call, Write, Inner, settled}
use Rattle.file_tree.specs.Tree.{Tree, Item}
use Rattle.postpone_filter.specs.Row.{is_open, appended}
use Rattle.family_meaning.specs.request_meaning.Serving.{World, Serving, Answer, Child, Reply}
use Rattle.family_meaning.specs.request_meaning.Replies.{or_stub, script}
use Rattle.family_meaning.specs.Line.{Line, has_node, joined, opened, reply_of, with_bytes, with_stub, ended as line_reply}
use Rattle.family_meaning.specs.Line.Line.{Nil, Bytes, Gives, Waits, Stubs}
use Rattle.family_meaning.specs.Moves.{Quiet, Moves, AllEnd, IsGood, KeepsBody, Thinks as LineThinks}
use Rattle.family_meaning.specs.Moves.Thinks.{Here, Reads as LineReads, ThereBytes, ThereNode, ThereWait, ThereStub, InWait, InStub}
use Rattle.family_meaning.specs.Moves.Quiet.{Learns as LineLearns, Places as LinePlaces, Placed as LinePlaced, Merges as LineMerges, Opens as LineOpens, Asks as LineAsks, Hears as LineHears, Leaves as LineLeaves, Chooses as LineChooses, Parts as LineParts, Gone as LineGone, PastBytes, PastNode, PastWait, PastStub, Within as WithinWait, WithinStub as WithinLineStub}
use Rattle.family_meaning.specs.Moves.Moves.{Quietly, ByTable}
use Rattle.family_order.specs.Acts.{Does, Acts, Goes}
use Rattle.family_order.specs.Acts.Acts.{Thinks, Reads, Learns, Places, Placed, Merges, Opens, Asks, Within, Hears, Ends, WithinStub, Decides}
use Rattle.family_order.specs.Acts.Goes.{Stays, Acting, Alike, Leaving}
use Rattle.family_order.specs.Items.{Stance, stance_by, Family, IsWell, IsAlike, with_stance, doing, placing, opening, ending}
use Rattle.family_order.specs.Items.Stance.{Going, Waiting, Apart}
use Rattle.family_order.specs.Laws.{ShowsTheSame}
use Rattle.node_line.proofs.Joins.{joins, joins_under}
use Rattle.family_order.proofs.Wells.{well-doing}
use Rattle.family_rest.specs.Laws.{IsQuiet}
use Rattle.family_rest.specs.Opened.{opened_by, opened_going, opened_move, opened_quietly}
use Rattle.node_turn.specs.Turns.{TurnsTo, Works, PlacesAs}
use Rattle.node_turn.specs.Turns.Works.{Rests as WorksRest, Reads as WorksRead, Placed as WorksPlaced, Merges as WorksMerge}
use Rattle.node_line.specs.Stances.{Opening, Own, Seat, Spot, filling, owned, place_by, stance_at, stance_so, under}
use Rattle.node_line.specs.Stances.Own.{Beside, Below}
use Rattle.node_line.specs.Stances.Seat.{InRow, Inside}
use Rattle.node_line.specs.Stances.Spot.{Whole, Behind, After, For, Stubbed}
use Rattle.node_line.proofs.Keeping.{keeps_body, keeps_under}

then_goes : {w : World} {tree : Tree} {a b c : Family} {v v' v'' : Vars} → Goes w tree a v b v' → Goes w tree b v' c v'' → Goes w tree a v c v''
then_goes Stays h = h
then_goes (Acting x g) h = Acting x (then_goes g h)
then_goes (Leaving count g) h = Leaving count (then_goes g h)
then_goes (Alike e g) h = Alike e (then_goes g h)

zero_more : (n : ℕ) → n ≡ 0 + n
zero_more n = omega arith

in_turn : (a b c : ℕ) → a + (b + c) ≡ (a + b) + c
in_turn a b c = omega arith

then_opens : {w : World} {tree : Tree} {a b c : Family} {v v' v'' : Vars} (g : Goes w tree a v b v') (h : Goes w tree b v' c v'') → opened_going (then_goes g h) ≡ opened_going g + opened_going h
unfolding then_goes
then_opens Stays h = zero_more (opened_going h)
then_opens (Acting x g) h = ap (λ n. opened_by x + n) (then_opens g h) ∙ in_turn (opened_by x) (opened_going g) (opened_going h)
then_opens (Leaving count g) h = then_opens g h
then_opens (Alike e g) h = then_opens g h

-- ---- steps, with how many subrequests are opened by them

pub stays : {w : World} {tree : Tree} {a : Family} {v : Vars} → Opening w tree 0 a v a v
stays = record { goes = Stays; opens = refl }

pub alike : {w : World} {tree : Tree} {n : ℕ} {a b c : Family} {v v' : Vars} → IsAlike a b → Opening w tree n b v c v' → Opening w tree n a v c v'
alike e o = record { goes = Alike e o.goes; opens = o.opens }

pub acting : {w : World} {tree : Tree} {n : ℕ} {a b c : Family} {v v' v'' : Vars} (x : Acts w tree a v b v') → Opening w tree n b v' c v'' → Opening w tree (opened_by x + n) a v c v''
acting x o = record { goes = Acting x o.goes; opens = ap (λ n. opened_by x + n) o.opens }

pub then : {w : World} {tree : Tree} {m n : ℕ} {a b c : Family} {v v' v'' : Vars} → Opening w tree m a v b v' → Opening w tree n b v' c v'' → Opening w tree (m + n) a v c v''
then {m} {n} g h = record { goes = then_goes g.goes h.goes; opens = then_opens g.goes h.goes ∙ ap (λ k. k + opened_going h.goes) g.opens ∙ ap (λ k. m + k) h.opens }

pub same_count : {w : World} {tree : Tree} {m n : ℕ} {a b : Family} {v v' : Vars} → m ≡ n → Opening w tree m a v b v' → Opening w tree n a v b v'
same_count e o = record { goes = o.goes; opens = o.opens ∙ e }

pub eq_self : (n : ℕ) → (n == n) ≡ true
eq_self n = grind (arith, nat_tests)

-- ---- a line within others

under_thinks : (bytes : List ℕ) (a b : Line) (vars vars' : Vars) → LineThinks a vars b vars' → LineThinks (under bytes a) vars (under bytes b) vars'
unfolding under
under_thinks [] a b vars vars' t = t
under_thinks (c ∷ bytes) a b vars vars' t = ThereBytes (under_thinks bytes a b vars vars' t)

past_thinks : (ahead a b : Line) (vars vars' : Vars) → LineThinks a vars b vars' → LineThinks (joined ahead a) vars (joined ahead b) vars'
unfolding joined
past_thinks Nil a b vars vars' t = t
past_thinks (Bytes bytes ahead) a b vars vars' t = ThereBytes (past_thinks ahead a b vars vars' t)
past_thinks (Gives node left m ahead) a b vars vars' t = ThereNode (past_thinks ahead a b vars vars' t)
past_thinks (Waits node own left k ahead) a b vars vars' t = ThereWait (past_thinks ahead a b vars vars' t)
past_thinks (Stubs own stub ahead) a b vars vars' t = ThereStub (past_thinks ahead a b vars vars' t)

pub spot_thinks : (s : Spot) (a b : Line) (vars vars' : Vars) → LineThinks a vars b vars' → LineThinks (filling s a) vars (filling s b) vars'
spot_thinks Whole a b vars vars' t = t
spot_thinks (Behind bytes s) a b vars vars' t = spot_thinks s (under bytes a) (under bytes b) vars vars' (under_thinks bytes a b vars vars' t)
spot_thinks (After ahead s) a b vars vars' t = spot_thinks s (joined ahead a) (joined ahead b) vars vars' (past_thinks ahead a b vars vars' t)
spot_thinks (For node left k rest s) a b vars vars' t = spot_thinks s (Waits node a left k rest) (Waits node b left k rest) vars vars' (InWait t)
spot_thinks (Stubbed stub rest s) a b vars vars' t = spot_thinks s (Stubs a stub rest) (Stubs b stub rest) vars vars' (InStub t)

module _ (w : World) (tree : Tree) where
  -- a step that neither reads nor writes a variable, by which this many are opened
  pub record Step (count : ℕ) (a b : Line) : Type 0 where
    pub quiet : Quiet w tree a b
    pub counts : opened_quietly quiet ≡ count

  under_quiet : (count : ℕ) (bytes : List ℕ) (a b : Line) → Step count a b → Step count (under bytes a) (under bytes b)
  unfolding under
  under_quiet count [] a b q = q
  under_quiet count (c ∷ bytes) a b q = let r = under_quiet count bytes a b q in record { quiet = PastBytes r.quiet; counts = r.counts }

  past_quiet : (count : ℕ) (ahead a b : Line) → Step count a b → Step count (joined ahead a) (joined ahead b)
  unfolding joined
  past_quiet count Nil a b q = q
  past_quiet count (Bytes bytes ahead) a b q = let r = past_quiet count ahead a b q in record { quiet = PastBytes r.quiet; counts = r.counts }
  past_quiet count (Gives node left m ahead) a b q = let r = past_quiet count ahead a b q in record { quiet = PastNode r.quiet; counts = r.counts }
  past_quiet count (Waits node own left k ahead) a b q = let r = past_quiet count ahead a b q in record { quiet = PastWait r.quiet; counts = r.counts }
  past_quiet count (Stubs own stub ahead) a b q = let r = past_quiet count ahead a b q in record { quiet = PastStub r.quiet; counts = r.counts }

  pub spot_quiet : (count : ℕ) (s : Spot) (a b : Line) → Step count a b → Step count (filling s a) (filling s b)
  spot_quiet count Whole a b q = q
  spot_quiet count (Behind bytes s) a b q = spot_quiet count s (under bytes a) (under bytes b) (under_quiet count bytes a b q)
  spot_quiet count (After ahead s) a b q = spot_quiet count s (joined ahead a) (joined ahead b) (past_quiet count ahead a b q)
  spot_quiet count (For node left k rest s) a b q = spot_quiet count s (Waits node a left k rest) (Waits node b left k rest) (record { quiet = WithinWait q.quiet; counts = q.counts })
  spot_quiet count (Stubbed stub rest s) a b q = spot_quiet count s (Stubs a stub rest) (Stubs b stub rest) (record { quiet = WithinLineStub q.quiet; counts = q.counts })

  -- a byte is placed
  line_places : (text : List ℕ) (b : ℕ) (more : List ℕ) (node left : ℕ) (m : Serving Answer) (rest : Line) →
      Step 0 (under text (Gives node left (Write (b ∷ more) m) rest)) (under (text ++ b ∷ []) (Gives node left (Write more m) rest))
  unfolding under
  line_places [] b more node left m rest = record { quiet = LinePlaces {some = b ∷ []} {more = more}; counts = refl }
  line_places (c ∷ text) b more node left m rest = let q = line_places text b more node left m rest in record { quiet = PastBytes q.quiet; counts = q.counts }

-- bytes and then others
pub under_both : (first second : List ℕ) (line : Line) → under first (under second line) ≡ under (first ++ second) line
unfolding under
under_both [] second line = refl
under_both (b ∷ first) second line = ap (Bytes (b ∷ [])) (under_both first second line)

-- the reply of one node that has come to its answer
line_ended : (node left : ℕ) (text : List ℕ) (answer : Answer) → line_reply (under text (Gives node left (Done answer) Nil)) None ≡ Some (reply_of answer text)
unfolding under line_reply
line_ended node left [] answer = refl
line_ended node left (b ∷ text) answer = ap (with_bytes (b ∷ [])) (line_ended node left text answer)

-- ---- a node that goes on, of any family

module _ (w : World) (tree : Tree) (laws : ShowsTheSame) (at : ℕ) (f : Family) (goes_on : is_open at f.row.pieces ≡ true) where
  -- what it did before is forgotten
  pub again : (s t : Stance) → IsAlike (doing at s (doing at t f)) (doing at s f)
  again s t = laws.others (doing at s (doing at t f)) (with_stance at s f.stance) (λ j e. by j (j == at))
    where
      by : (j : ℕ) (b : Bool) → cond b s (cond b t (f.stance j)) ≡ cond b s (f.stance j)
      by j true = refl
      by j false = refl

  pub stands : (s : Stance) → Does (doing at s f) at s
  stands s = record { goes_on = goes_on; stands = ap (λ b. cond b s (f.stance at)) (eq_self at) }

  -- a step after which it is so
  pub stance_step : (count : ℕ) (s t : Stance) (vars vars' : Vars) (a : Acts w tree (doing at s f) vars (doing at t (doing at s f)) vars') → opened_by a ≡ count → Opening w tree count (doing at s f) vars (doing at t f) vars'
  stance_step count s t vars vars' a e = same_count (ap (λ k. k + 0) e ∙ no_more count) (acting a (alike (again t s) stays))
    where
      no_more : (n : ℕ) → n + 0 ≡ n
      no_more n = omega arith

  -- a step of a line of its own
  pub own_step : (count : ℕ) (own : Own) (a b : Line) (vars vars' : Vars) (m : Moves w tree a vars b vars') → opened_move m ≡ count → Opening w tree count (doing at (owned own a) f) vars (doing at (owned own b) f) vars'
  own_step count (Beside stub) a b vars vars' m e = stance_step count (Apart a stub) (Apart b stub) vars vars' (WithinStub at (stands (Apart a stub)) m) e
  own_step count (Below left k) a b vars vars' m e = stance_step count (Waiting a left k) (Waiting b left k) vars vars' (Within at (stands (Waiting a left k)) m) e

  -- of a part of it
  pub own_quiet : (count : ℕ) (own : Own) (s : Spot) (a b : Line) (vars : Vars) → Step w tree count a b → Opening w tree count (doing at (owned own (filling s a)) f) vars (doing at (owned own (filling s b)) f) vars
  own_quiet count own s a b vars q =
      let r = spot_quiet w tree count s a b q in
      own_step count own (filling s a) (filling s b) vars vars (Quietly r.quiet) r.counts

  pub own_thinks : (own : Own) (s : Spot) (a b : Line) (vars vars' : Vars) → LineThinks a vars b vars' → Opening w tree 0 (doing at (owned own (filling s a)) f) vars (doing at (owned own (filling s b)) f) vars'
  own_thinks own s a b vars vars' t = own_step 0 own (filling s a) (filling s b) vars vars' (ByTable (spot_thinks s a b vars vars' t)) refl

-- a node in its seat, where the node with the number `h` is it, or the one that has the line
module _ (w : World) (tree : Tree) (laws : ShowsTheSame) (h at : ℕ) (seat : Seat) (left : ℕ) (f : Family) (goes_on : is_open h f.row.pieces ≡ true) where
  abbrev pub now : Serving Answer → Family
  now m = doing h (stance_so seat at left m) f

  pub thinks_once : (m : Serving Answer) (vars : Vars) → Opening w tree 0 (now m) vars (now (settled m vars).0) (settled m vars).1
  thinks_once m vars = by seat
    where
      by : (s : Seat) → Opening w tree 0 (doing h (stance_so s at left m) f) vars (doing h (stance_so s at left (settled m vars).0) f) (settled m vars).1
      by InRow = stance_step w tree laws h f goes_on 0 (Going left m) (Going left (settled m vars).0) vars (settled m vars).1 (Thinks h (stands w tree laws h f goes_on (Going left m))) refl
      by (Inside own s rest) = own_thinks w tree laws h f goes_on own s (Gives at left m rest) (Gives at left (settled m vars).0 rest) vars (settled m vars).1 Here

  thinks : (m n : Serving Answer) (vars vars' : Vars) → settled m vars ≡ (n, vars') → Opening w tree 0 (now m) vars (now n) vars'
  thinks m n vars vars' e = subst (λ (s : Serving Answer × Vars). Opening w tree 0 (now m) vars (now s.0) s.1) e (thinks_once m vars)

  reads : (name : List ℕ) (k : Option (List ℕ) → Serving Answer) (vars : Vars) → Opening w tree 0 (now (Get name k)) vars (now (k (look vars name))) vars
  reads name k vars = by seat
    where
      by : (s : Seat) → Opening w tree 0 (doing h (stance_so s at left (Get name k)) f) vars (doing h (stance_so s at left (k (look vars name))) f) vars
      by InRow = stance_step w tree laws h f goes_on 0 (Going left (Get name k)) (Going left (k (look vars name))) vars vars (Reads h (stands w tree laws h f goes_on (Going left (Get name k)))) refl
      by (Inside own s rest) = own_thinks w tree laws h f goes_on own s (Gives at left (Get name k) rest) (Gives at left (k (look vars name)) rest) vars vars LineReads

  places_none : (k : Serving Answer) (vars : Vars) → Opening w tree 0 (now (Write [] k)) vars (now k) vars
  places_none k vars = by seat
    where
      by : (s : Seat) → Opening w tree 0 (doing h (stance_so s at left (Write [] k)) f) vars (doing h (stance_so s at left k) f) vars
      by InRow = stance_step w tree laws h f goes_on 0 (Going left (Write [] k)) (Going left k) vars vars (Placed h (stands w tree laws h f goes_on (Going left (Write [] k)))) refl
      by (Inside own s rest) = own_quiet w tree laws h f goes_on 0 own s (Gives at left (Write [] k) rest) (Gives at left k rest) vars (record { quiet = LinePlaced; counts = refl })

  merges : (first second : List ℕ) (k : Serving Answer) (vars : Vars) → Opening w tree 0 (now (Write first (Write second k))) vars (now (Write (first ++ second) k)) vars
  merges first second k vars = by seat
    where
      by : (s : Seat) → Opening w tree 0 (doing h (stance_so s at left (Write first (Write second k))) f) vars (doing h (stance_so s at left (Write (first ++ second) k)) f) vars
      by InRow =
          stance_step w tree laws h f goes_on 0 (Going left (Write first (Write second k))) (Going left (Write (first ++ second) k)) vars vars (Merges h (stands w tree laws h f goes_on (Going left (Write first (Write second k))))) refl
      by (Inside own s rest) = own_quiet w tree laws h f goes_on 0 own s (Gives at left (Write first (Write second k)) rest) (Gives at left (Write (first ++ second) k) rest) vars (record { quiet = LineMerges; counts = refl })

  pub works : (vars : Vars) (m n : Serving Answer) → Works vars m n → Opening w tree 0 (now m) vars (now n) vars
  works vars m _ WorksRest = stays
  works vars _ n (WorksRead {name} {k} q) = then (reads name k vars) (works vars (k (look vars name)) n q)
  works vars _ n (WorksPlaced {k} q) = then (places_none k vars) (works vars k n q)
  works vars _ n (WorksMerge {first} {second} {k} q) = then (merges first second k vars) (works vars (Write (first ++ second) k) n q)

  -- its phases go on, and then it by itself
  pub turns : (m n : Serving Answer) (vars vars' : Vars) → TurnsTo vars vars' m n → Opening w tree 0 (now m) vars (now n) vars'
  turns m n vars vars' t = then (thinks m t.turned vars vars' t.settles) (works vars' t.turned n t.works)

  -- its question is answered
  pub record Learning (path : List ℕ) (k : Item → Serving Answer) (vars : Vars) : Type 0 where
    pub act : Acts w tree (now (Stat path k)) vars (doing h (stance_so seat at left (k (tree path))) (now (Stat path k))) vars
    pub quiet : IsQuiet act
    pub none : opened_by act ≡ 0

-- ---- its question is answered

module _ (w : World) (tree : Tree) (laws : ShowsTheSame) (h at left : ℕ) (f : Family) (goes_on : is_open h f.row.pieces ≡ true) where
  pub learning : (seat : Seat) (path : List ℕ) (k : Item → Serving Answer) (vars : Vars) → Learning w tree laws h at seat left f goes_on path k vars
  learning InRow path k vars = record { act = Learns h (stands w tree laws h f goes_on (Going left (Stat path k))); quiet = tt; none = refl }
  learning (Inside (Beside stub) s rest) path k vars =
      let q = spot_quiet w tree 0 s (Gives at left (Stat path k) rest) (Gives at left (k (tree path)) rest) (record { quiet = LineLearns; counts = refl }) in
      record { act = WithinStub h (stands w tree laws h f goes_on (Apart (filling s (Gives at left (Stat path k) rest)) stub)) (Quietly q.quiet); quiet = tt; none = q.counts }
  learning (Inside (Below l p) s rest) path k vars =
      let q = spot_quiet w tree 0 s (Gives at left (Stat path k) rest) (Gives at left (k (tree path)) rest) (record { quiet = LineLearns; counts = refl }) in
      record { act = Within h (stands w tree laws h f goes_on (Waiting (filling s (Gives at left (Stat path k) rest)) l p)) (Quietly q.quiet); quiet = tt; none = q.counts }

-- ---- bytes of it are placed

joining : (w : World) (tree : Tree) (f : Family) (vars : Vars) (n left : ℕ) (bytes stub : List ℕ) (m : Serving Answer) → IsWell f → Does f n (Apart (Bytes bytes (Gives n left m Nil)) stub) →
    KeepsBody w tree (Bytes bytes (Gives n left m Nil)) → bytes ≢ [] → {g : Family} → Opening w tree 0 (doing n (Going left m) (placing n bytes f)) vars g vars → Opening w tree 0 f vars g vars
joining w tree f vars n left bytes stub m well does body some o =
    let j = joins w tree f vars n left bytes stub m well does body some in
    same_count (ap (λ k. k + 0) j.1) (acting j.0 o)

module _ (w : World) (tree : Tree) (laws : ShowsTheSame) (at left : ℕ) (f : Family) (goes_on : is_open at f.row.pieces ≡ true) where
  pub places : (some : List ℕ) (m n : Serving Answer) (vars : Vars) → PlacesAs some m n → is_open at (appended at some f.row).pieces ≡ true →
      Opening w tree 0 (doing at (Going left m) f) vars (doing at (Going left n) (placing at some f)) vars
  places some m n vars p goes_on' =
      let more : Serving Answer = Write p.more p.rest in
      let whole : Serving Answer = Write (some ++ p.more) p.rest in
      let g = placing at some f in
      subst (λ x. Opening w tree 0 (doing at (Going left x) f) vars (doing at (Going left n) g) vars) (sym p.writes)
      (acting (Places at some p.more (stands w tree laws at f goes_on (Going left whole)))
      (alike (again w tree laws at g goes_on' (Going left more) (Going left whole))
      (works w tree laws at at InRow left g goes_on' vars more n (p.works vars))))

  -- it is known that they are shown
  pub joins_row : (stub some : List ℕ) (m n : Serving Answer) (vars : Vars) → PlacesAs some m n → some ≢ [] → AllEnd IsGood m → IsWell f →
      is_open at (appended at some f.row).pieces ≡ true →
      Opening w tree 0 (doing at (Apart (under [] (Gives at left m Nil)) stub) f) vars (doing at (Going left n) (placing at some f)) vars
  unfolding under
  joins_row stub some m n vars p any good well goes_on' =
      let more : Serving Answer = Write p.more p.rest in
      let whole : Serving Answer = Write (some ++ p.more) p.rest in
      let before : Stance = Apart (Gives at left whole Nil) stub in
      let own = Bytes some (Gives at left more Nil) in
      let after : Stance = Apart own stub in
      let g = placing at some f in
      subst (λ x. Opening w tree 0 (doing at (Apart (Gives at left x Nil) stub) f) vars (doing at (Going left n) g) vars) (sym p.writes)
      (then (stance_step w tree laws at f goes_on 0 before after vars vars (WithinStub at (stands w tree laws at f goes_on before) (Quietly LinePlaces)) refl)
      (joining w tree (doing at after f) vars at left some stub more (well-doing at after f well refl) (stands w tree laws at f goes_on after)
      (keeps_body w tree some at left more (subst (λ x. AllEnd IsGood x) p.writes good)) any
      (alike (again w tree laws at g goes_on' (Going left more) after)
      (works w tree laws at at InRow left g goes_on' vars more n (p.works vars)))))

  -- so it is where its bytes wait one by one
  pub joins_withheld : (stub text : List ℕ) (m : Serving Answer) (vars : Vars) → text ≢ [] → AllEnd IsGood m → IsWell f → is_open at (appended at text f.row).pieces ≡ true →
      Opening w tree 0 (doing at (Apart (under text (Gives at left m Nil)) stub) f) vars (doing at (Going left m) (placing at text f)) vars
  joins_withheld stub text m vars any good well goes_on' =
      let after : Stance = Apart (under text (Gives at left m Nil)) stub in
      let j = joins_under w tree (doing at after f) vars at left stub m text (well-doing at after f well refl) (stands w tree laws at f goes_on after) (keeps_under w tree text at left m good) any in
      same_count (ap (λ k. k + 0) j.1) (acting j.0 (alike (again w tree laws at (placing at text f) goes_on' (Going left m) after) stays))

  -- its stub is in the place of its body
  pub decided : (stub text : List ℕ) (answer : Answer) (vars : Vars) (g : Family) → or_stub (Some stub) answer.status text ≡ stub → at ≢ f.root →
      IsAlike (ending at (placing at stub (doing at (Apart (under text (Gives at left (Done answer) Nil)) stub) f))) g →
      Opening w tree 0 (doing at (Apart (under text (Gives at left (Done answer) Nil)) stub) f) vars g vars
  decided stub text answer vars g chosen child same =
      let own = under text (Gives at left (Done answer) Nil) in
      let here = doing at (Apart own stub) f in
      acting (Decides at (reply_of answer text) (stands w tree laws at f goes_on (Apart own stub)) (line_ended at left text answer) child)
      (subst (λ bytes. Opening w tree 0 (ending at (placing at bytes here)) vars g vars) (sym chosen) (alike same stays))

-- ---- it is in a line of its own, or of another

module _ (w : World) (tree : Tree) (laws : ShowsTheSame) (h at left : ℕ) (f : Family) (goes_on : is_open h f.row.pieces ≡ true) (own : Own) (spot : Spot) (rest : Line) where
  -- after bytes that wait
  withheld : List ℕ → Serving Answer → Family
  withheld text m = doing h (owned own (filling (Behind text spot) (Gives at left m rest))) f

  holds_all : (text some more : List ℕ) (m : Serving Answer) (vars : Vars) → Opening w tree 0 (withheld text (Write (some ++ more) m)) vars (withheld (text ++ some) (Write more m)) vars
  unfolding withheld
  holds_all text [] more m vars = subst (λ t. Opening w tree 0 (withheld text (Write more m)) vars (withheld t (Write more m)) vars) (sym (append-nil text)) stays
  holds_all text (b ∷ some) more m vars =
      then (own_quiet w tree laws h f goes_on 0 own spot (under text (Gives at left (Write (b ∷ (some ++ more)) m) rest)) (under (text ++ b ∷ []) (Gives at left (Write (some ++ more) m) rest)) vars
      (line_places w tree text b (some ++ more) at left m rest))
      (subst (λ t. Opening w tree 0 (withheld (text ++ b ∷ []) (Write (some ++ more) m)) vars (withheld t (Write more m)) vars) (append_assoc text (b ∷ []) some)
      (holds_all (text ++ b ∷ []) some more m vars))

  -- its bytes come after them, one after another
  pub holds : (text some : List ℕ) (m n : Serving Answer) (vars : Vars) → PlacesAs some m n →
      Opening w tree 0 (doing h (stance_so (Inside own (Behind text spot) rest) at left m) f) vars (doing h (stance_so (Inside own (Behind (text ++ some) spot) rest) at left n) f) vars
  unfolding withheld
  holds text some m n vars p =
      subst (λ x. Opening w tree 0 (withheld text x) vars (withheld (text ++ some) n) vars) (sym p.writes)
      (then (holds_all text some p.more p.rest vars) (works w tree laws h at (Inside own (Behind (text ++ some) spot) rest) left f goes_on vars (Write p.more p.rest) n (p.works vars)))

  -- a subrequest opens right before it
  pub opens_inside : (number l : ℕ) (child : Child) (m : Serving Answer) (vars : Vars) → left ≡ suc l → child.stub ≡ None →
      Opening w tree 1 (doing h (owned own (filling spot (Gives at left (Inner child m) rest))) f) vars
      (doing h (owned own (filling spot (Gives number l (script w l child) (Gives at left m rest)))) f) vars
  unfolding joined
  opens_inside number l child m vars deep plain =
      subst (λ n. Opening w tree 1 (doing h (owned own (filling spot (Gives at n (Inner child m) rest))) f) vars (doing h (owned own (filling spot (Gives number l (script w l child) (Gives at n m rest)))) f) vars) (sym deep)
      (subst (λ line. Opening w tree 1 (doing h (owned own (filling spot (Gives at (suc l) (Inner child m) rest))) f) vars (doing h (owned own (filling spot line)) f) vars)
      (ap (λ s. with_stub s (Gives number l (script w l child) Nil) (Gives at (suc l) m rest)) plain)
      (own_quiet w tree laws h f goes_on 1 own spot (Gives at (suc l) (Inner child m) rest) (opened w number l child (Gives at (suc l) m rest)) vars (record { quiet = LineOpens number; counts = refl })))

  -- so too where it has a stub
  pub opens_any : (number l : ℕ) (child : Child) (m : Serving Answer) (vars : Vars) → left ≡ suc l →
      Opening w tree 1 (doing h (owned own (filling spot (Gives at left (Inner child m) rest))) f) vars
      (doing h (owned own (filling spot (opened w number l child (Gives at left m rest)))) f) vars
  opens_any number l child m vars deep =
      subst (λ n. Opening w tree 1 (doing h (owned own (filling spot (Gives at n (Inner child m) rest))) f) vars (doing h (owned own (filling spot (opened w number l child (Gives at n m rest)))) f) vars) (sym deep)
      (own_quiet w tree laws h f goes_on 1 own spot (Gives at (suc l) (Inner child m) rest) (opened w number l child (Gives at (suc l) m rest)) vars (record { quiet = LineOpens number; counts = refl }))

  pub asks_any : (number l : ℕ) (child : Child) (k : Reply → Serving Answer) (vars : Vars) → left ≡ suc l →
      Opening w tree 1 (doing h (owned own (filling spot (Gives at left (Call child k) rest))) f) vars
      (doing h (owned own (filling spot (Waits at (opened w number l child Nil) left k rest))) f) vars
  asks_any number l child k vars deep =
      subst (λ n. Opening w tree 1 (doing h (owned own (filling spot (Gives at n (Call child k) rest))) f) vars (doing h (owned own (filling spot (Waits at (opened w number l child Nil) n k rest))) f) vars) (sym deep)
      (own_quiet w tree laws h f goes_on 1 own spot (Gives at (suc l) (Call child k) rest) (Waits at (opened w number l child Nil) (suc l) k rest) vars (record { quiet = LineAsks number; counts = refl }))

  -- bytes that wait after others, with a line after them
  waiting : (text more : List ℕ) → Line → Family
  waiting text more line = doing h (owned own (filling (Behind text spot) (Bytes more line))) f

  -- they wait one by one
  parts : (text more : List ℕ) (line : Line) (vars : Vars) → Opening w tree 0 (waiting text more line) vars (doing h (owned own (filling (Behind (text ++ more) spot) line)) f) vars
  unfolding waiting under
  parts text [] line vars =
      subst (λ t. Opening w tree 0 (waiting text [] line) vars (doing h (owned own (filling (Behind t spot) line)) f) vars) (sym (append-nil text))
      (own_quiet w tree laws h f goes_on 0 own (Behind text spot) (Bytes [] line) line vars (record { quiet = LineGone; counts = refl }))
  parts text (b ∷ more) line vars =
      then (own_quiet w tree laws h f goes_on 0 own (Behind text spot) (Bytes (b ∷ more) line) (Bytes (b ∷ []) (Bytes more line)) vars (record { quiet = LineParts {some = b ∷ []} {more = more}; counts = refl }))
      (subst (λ x. Opening w tree 0 (doing h (owned own (filling spot x)) f) vars (doing h (owned own (filling (Behind (text ++ (b ∷ more)) spot) line)) f) vars) (sym (under_both text (b ∷ []) (Bytes more line)))
      (subst (λ t. Opening w tree 0 (waiting (text ++ b ∷ []) more line) vars (doing h (owned own (filling (Behind t spot) line)) f) vars) (append_assoc text (b ∷ []) more)
      (parts (text ++ b ∷ []) more line vars)))

  -- it has come to its answer, and its body or its stub is in its place
  pub chosen_inside : (stub text : List ℕ) (answer : Answer) (vars : Vars) →
      Opening w tree 0 (doing h (owned own (filling spot (Stubs (under text (Gives at left (Done answer) Nil)) stub rest))) f) vars
      (doing h (owned own (filling spot (under (or_stub (Some stub) answer.status text) (Gives at left (Done answer) rest)))) f) vars
  unfolding waiting under
  chosen_inside stub text answer vars =
      let line = under text (Gives at left (Done answer) Nil) in
      let chosen = or_stub (Some stub) answer.status text in
      then (own_quiet w tree laws h f goes_on 0 own spot (Stubs line stub rest) (Bytes chosen (Gives at left (Done answer) rest)) vars
      (record { quiet = LineChooses at left (reply_of answer text) (line_ended at left text answer); counts = refl }))
      (parts [] chosen (Gives at left (Done answer) rest) vars)

  -- it asks for the reply of one
  pub asks_inside : (number l : ℕ) (child : Child) (k : Reply → Serving Answer) (vars : Vars) → left ≡ suc l → child.stub ≡ None →
      Opening w tree 1 (doing h (owned own (filling spot (Gives at left (Call child k) rest))) f) vars
      (doing h (owned own (filling spot (Waits at (Gives number l (script w l child) Nil) left k rest))) f) vars
  unfolding joined
  asks_inside number l child k vars deep plain =
      subst (λ n. Opening w tree 1 (doing h (owned own (filling spot (Gives at n (Call child k) rest))) f) vars (doing h (owned own (filling spot (Waits at (Gives number l (script w l child) Nil) n k rest))) f) vars) (sym deep)
      (subst (λ line. Opening w tree 1 (doing h (owned own (filling spot (Gives at (suc l) (Call child k) rest))) f) vars (doing h (owned own (filling spot (Waits at line (suc l) k rest))) f) vars)
      (ap (λ s. with_stub s (Gives number l (script w l child) Nil) Nil) plain)
      (own_quiet w tree laws h f goes_on 1 own spot (Gives at (suc l) (Call child k) rest) (Waits at (opened w number l child Nil) (suc l) k rest) vars (record { quiet = LineAsks number; counts = refl })))

  -- it has come to its answer, and its bytes come to those before a line that has a node
  pub leaves_inside : (text more : List ℕ) (answer : Answer) (vars : Vars) → has_node rest ≡ true →
      Opening w tree 0 (doing h (owned own (filling (Behind text spot) (under more (Gives at left (Done answer) rest)))) f) vars
      (doing h (owned own (filling (Behind (text ++ more) spot) rest)) f) vars
  leaves_inside text more answer vars some =
      subst (λ line. Opening w tree 0 (doing h (owned own (filling spot (under text (under more (Gives at left (Done answer) rest))))) f) vars (doing h (owned own (filling spot line)) f) vars) (under_both text more rest)
      (own_quiet w tree laws h f goes_on 0 own (Behind more (Behind text spot)) (Gives at left (Done answer) rest) rest vars (record { quiet = LineLeaves some; counts = refl }))

  -- it hears the reply of a node that has come to its answer
  pub hears_inside : (node l : ℕ) (text : List ℕ) (answer : Answer) (k : Reply → Serving Answer) (vars : Vars) →
      Opening w tree 0 (doing h (owned own (filling spot (Waits at (under text (Gives node l (Done answer) Nil)) left k rest))) f) vars
      (doing h (owned own (filling spot (Gives at left (k (reply_of answer text)) rest))) f) vars
  hears_inside node l text answer k vars =
      own_quiet w tree laws h f goes_on 0 own spot (Waits at (under text (Gives node l (Done answer) Nil)) left k rest) (Gives at left (k (reply_of answer text)) rest) vars
      (record { quiet = LineHears (reply_of answer text) (line_ended node l text answer); counts = refl })

-- ---- another node in the row waits for it

module _ (w : World) (tree : Tree) (laws : ShowsTheSame) (h at left : ℕ) (f : Family) (goes_on : is_open h f.row.pieces ≡ true) (l : ℕ) (k : Reply → Serving Answer) where
  -- it is over, and the other hears its reply
  pub heard : (text : List ℕ) (answer : Answer) (vars : Vars) (g : Family) → IsAlike (doing h (Going l (k (reply_of answer text))) f) g →
      Opening w tree 0 (doing h (Waiting (under text (Gives at left (Done answer) Nil)) l k) f) vars g vars
  heard text answer vars g same =
      let own = under text (Gives at left (Done answer) Nil) in
      acting (Hears h (reply_of answer text) (stands w tree laws h f goes_on (Waiting own l k)) (line_ended at left text answer))
      (alike (again w tree laws h f goes_on (Going l (k (reply_of answer text))) (Waiting own l k)) (alike same stays))

-- a node asks for the reply of a subrequest
module _ (w : World) (tree : Tree) (laws : ShowsTheSame) (at left : ℕ) (f : Family) (goes_on : is_open at f.row.pieces ≡ true) where
  pub own_begins : (number : ℕ) (child : Child) → child.stub ≡ None → opened w number left child Nil ≡ under [] (Gives number left (script w left child) Nil)
  unfolding under joined
  own_begins number child plain = ap (λ s. with_stub s (Gives number left (script w left child) Nil) Nil) plain

  -- it has a stub, or none
  pub asks_so : (number : ℕ) (child : Child) (k : Reply → Serving Answer) (vars : Vars) →
      Opening w tree 1 (doing at (Going (suc left) (Call child k)) f) vars (doing at (Waiting (opened w number left child Nil) (suc left) k) f) vars
  asks_so number child k vars =
      acting (Asks at number (stands w tree laws at f goes_on (Going (suc left) (Call child k))))
      (alike (again w tree laws at f goes_on (Waiting (opened w number left child Nil) (suc left) k) (Going (suc left) (Call child k))) stays)

  pub asks : (number : ℕ) (child : Child) (k : Reply → Serving Answer) (vars : Vars) (g : Family) → child.stub ≡ None →
      IsAlike (doing at (Waiting (under [] (Gives number left (script w left child) Nil)) (suc left) k) f) g →
      Opening w tree 1 (doing at (Going (suc left) (Call child k)) f) vars g vars
  asks number child k vars g plain same =
      acting (Asks at number (stands w tree laws at f goes_on (Going (suc left) (Call child k))))
      (alike (again w tree laws at f goes_on (Waiting (opened w number left child Nil) (suc left) k) (Going (suc left) (Call child k)))
      (subst (λ own. Opening w tree 0 (doing at (Waiting own (suc left) k) f) vars g vars) (sym (own_begins number child plain)) (alike same stays)))

-- ---- its subrequest opens

module _ (w : World) (tree : Tree) (laws : ShowsTheSame) (at left : ℕ) (f : Family) (goes_on : is_open at f.row.pieces ≡ true) where
  -- how the subrequest begins
  pub begun_so : (number : ℕ) (child : Child) → stance_by child.stub w number left child ≡ stance_at number (place_by child.stub) left (script w left child)
  unfolding under
  begun_so number child = by child.stub
    where
      by : (s : Option (List ℕ)) → stance_by s w number left child ≡ stance_at number (place_by s) left (script w left child)
      by None = refl
      by (Some stub) = refl

  pub opens : (child : Child) (m : Serving Answer) (vars : Vars) (g : Family) →
      IsAlike (doing at (Going (suc left) m) (opening at (stance_by child.stub w f.row.nodes left child) (doing at (Going (suc left) (Inner child m)) f))) g →
      Opening w tree 1 (doing at (Going (suc left) (Inner child m)) f) vars g vars
  opens child m vars g same = acting (Opens at (stands w tree laws at f goes_on (Going (suc left) (Inner child m)))) (alike same stays)

  -- it is over
  pub over : (answer : Answer) (vars : Vars) (g : Family) → at ≢ f.root → IsAlike (ending at (doing at (Going left (Done answer)) f)) g → Opening w tree 0 (doing at (Going left (Done answer)) f) vars g vars
  over answer vars g child same = acting (Ends at (stands w tree laws at f goes_on (Going left (Done answer))) child) (alike same stays)
