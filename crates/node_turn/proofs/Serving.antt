-- The parts of a page in the acts of its node.
use Rattle.std.proofs.Common.{◌≡◌, ℕ, suc, ◌&&◌, ◌==◌, not, Bool, true, false, List, [], ◌∷◌, ◌++◌, length, Option, None, Some, is_some, refl, ap, ◌∙◌, subst, append_assoc}
use Rattle.acts.specs.Vars.{Vars}
use Rattle.acts.specs.Act.{Write}
use Rattle.request_reply.specs.request_meaning.Serving.{Serving, Answer}
use Rattle.std.proofs.lemmas.Bool.{eqb-true}
use Rattle.page_body.specs.Reading.{ReadsTo, Writing}
use Rattle.page_body.specs.Reading.ReadsTo.{Rests as ReadsRest, Reads as ReadsOne}
use Rattle.page_body.specs.Reading.Writing.{Whole, Piece}
use Rattle.page_body.specs.site_model.declared.site.Site.{Site}
use Rattle.request_reply.specs.request_meaning.Serving.{World}
use Rattle.request_reply.specs.request_phases.declared.state.Phases.{Phases}
use Rattle.page_body.specs.declared.page.Page.{Page}
use Rattle.node_turn.specs.Nodes.{answer_seen, captured_act, padded, from_source, hand, later, placed_act, served_act}
use Rattle.node_turn.specs.declared.answered.Answered.{Answered}
use Rattle.node_turn.specs.declared.node.Body.{Body}
use Rattle.node_turn.specs.Served.{is_spent}
use Rattle.node_turn.specs.Turns.{Works}
use Rattle.node_turn.specs.Turns.Works.{Rests, Reads, Placed, Merges}
use Rattle.node_turn.specs.declared.node.Source.{Source}

pub both : {vars : Vars} {m n k : Serving Answer} → Works vars m n → Works vars n k → Works vars m k
both Rests q = q
both (Reads p) q = Reads (both p q)
both (Placed p) q = Placed (both p q)
both (Merges p) q = Merges (both p q)

pub reads_work : {vars : Vars} {m n : Serving Answer} → ReadsTo Answer vars m n → Works vars m n
reads_work ReadsRest = Rests
reads_work (ReadsOne q) = Reads (reads_work q)

-- a text that is written in pieces is one text
merged : {vars : Vars} (before text : List ℕ) (m after : Serving Answer) → Writing Answer text m after → Works vars (Write before m) (Write (before ++ text) after)
merged before text _ after Whole = Merges Rests
merged {vars} before _ _ after (Piece {piece} {more} {m} q) =
    Merges (subst (λ t. Works vars (Write (before ++ piece) m) (Write t after)) (append_assoc before piece more) (merged (before ++ piece) more m after q))

pub written_work : {vars : Vars} (text : List ℕ) (m after : Serving Answer) → Writing Answer text m after → Works vars m (Write text after)
written_work text _ after Whole = Rests
written_work _ _ after (Piece {piece} {more} {m} q) = merged piece more m after q

pub writes : (vars : Vars) (text : List ℕ) (before after : Serving Answer) → ((m : Serving Answer) × ReadsTo Answer vars before m × Writing Answer text m after) → Works vars before (Write text after)
writes vars text before after x = both (reads_work x.1) (written_work text x.0 after x.2)

pub same_work : {vars : Vars} {m n : Serving Answer} → m ≡ n → Works vars m n
same_work {vars} {m} e = subst (Works vars m) e Rests

-- nothing comes of a source that is spent
no_more : {A : Type 0} (n : ℕ) → suc n ≡ 0 → A
no_more n e = cc

empty_is : (text : List ℕ) → (length text == 0) ≡ true → text ≡ []
empty_is [] e = refl
empty_is (b ∷ text) e = no_more (length text) (eqb-true (length (b ∷ text)) 0 e)

zero_is : (n : ℕ) → (n == 0) ≡ true → n ≡ 0
zero_is n e = eqb-true n 0 e

left_of : (a b : Bool) → (a && b) ≡ true → a ≡ true
left_of true b e = refl
left_of false b e = cc

right_of : (a b : Bool) → (a && b) ≡ true → b ≡ true
right_of true b e = e
right_of false b e = cc

pub spent : (s : Source) (file : List ℕ) → is_spent s ≡ true → from_source s file ≡ []
unfolding padded
spent s file e =
    ap (λ t. t ++ padded s.left file) (empty_is s.text (left_of (length s.text == 0) (s.left == 0 && not s.unread) e))
    ∙ ap (λ n. padded n file) (zero_is s.left (left_of (s.left == 0) (not s.unread) (right_of (length s.text == 0) (s.left == 0 && not s.unread) e)))

-- ---- pages that are there, and not

pub none_of : {A : Type 0} (o : Option A) → is_some o ≡ false → o ≡ None
none_of None e = refl
none_of (Some x) e = cc

pub some_of : {A : Type 0} (o : Option A) → is_some o ≡ true → (x : A) × (o ≡ Some x)
some_of None e = cc
some_of (Some x) e = (x, refl)

-- ---- bodies

module _ (w : World) (site : Site) (p : Phases) (left : ℕ) (b : Body) (answered : Answered) (source : Source) (page : Option Page)
    (same : (b.answered ≡ answered) × (b.source ≡ source) × (b.page ≡ page)) (file : List ℕ) where
  pub body_served : served_act w site p left (answer_seen site p b.answered) b.page (later b file) ≡ served_act w site p left (answer_seen site p answered) page (from_source source file)
  body_served =
      ap (λ (a : Answered). served_act w site p left (answer_seen site p a) b.page (later b file)) same.0
      ∙ (ap (λ (s : Source). served_act w site p left (answer_seen site p answered) b.page (from_source s file)) same.1
      ∙ ap (λ x. served_act w site p left (answer_seen site p answered) x (from_source source file)) same.2)

  pub body_captured : (name : List ℕ) → captured_act w site p left (answer_seen site p b.answered) b.page (later b file) name ≡ captured_act w site p left (answer_seen site p answered) page (from_source source file) name
  body_captured name =
      ap (λ (a : Answered). captured_act w site p left (answer_seen site p a) b.page (later b file) name) same.0
      ∙ (ap (λ (s : Source). captured_act w site p left (answer_seen site p answered) b.page (from_source s file) name) same.1
      ∙ ap (λ x. captured_act w site p left (answer_seen site p answered) x (from_source source file) name) same.2)

  pub body_placed : (bytes : List ℕ) → hand b ≡ bytes →
      placed_act w site p left (answer_seen site p b.answered) b.page (hand b) (later b file) ≡ placed_act w site p left (answer_seen site p answered) page bytes (from_source source file)
  body_placed bytes is =
      ap (λ (a : Answered). placed_act w site p left (answer_seen site p a) b.page (hand b) (later b file)) same.0
      ∙ (ap (λ (s : Source). placed_act w site p left (answer_seen site p answered) b.page (hand b) (from_source s file)) same.1
      ∙ (ap (λ x. placed_act w site p left (answer_seen site p answered) x (hand b) (from_source source file)) same.2
      ∙ ap (λ bytes. placed_act w site p left (answer_seen site p answered) page bytes (from_source source file)) is))
