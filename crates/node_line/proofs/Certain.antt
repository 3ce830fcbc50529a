-- Lines that come to some bytes, and to a good answer, whatever the table is.
use Rattle.std.proofs.Common.{◌≡◌, ◌≢◌, ℕ, nat_le, Bool, true, false, cond, List, [], ◌∷◌, ◌++◌, Option, None, Some, refl, sym, ap, ◌∙◌}
use Rattle.acts.specs.Vars.{Vars}
use Rattle.acts.specs.Act.{Done, Write}
use Rattle.file_tree.specs.Tree.{Tree}
use Rattle.family_meaning.specs.request_meaning.Serving.{World, Serving, Answer, Reply}
use Rattle.family_meaning.specs.request_meaning.Replies.{run, reply, or_stub}
use Rattle.family_meaning.specs.Line.{Line, Left, before, rest, joined, has_node, reply_of, status_of}
use Rattle.family_meaning.specs.Line.Line.{Nil, Bytes, Gives, Waits, Stubs}
use Rattle.family_meaning.specs.Moves.{AllEnd, IsGood, IsGoodLeft, KeepsBody, SomeBody}
use Rattle.family_meaning.proofs.Exacts.{body_stays, joined_rest}
use Rattle.node_line.specs.Stances.{under}
use Rattle.node_line.proofs.Keeping.{run_ends}

first_none : (xs ys : List ℕ) → xs ++ ys ≡ [] → xs ≡ []
first_none [] ys e = refl
first_none (x ∷ xs) ys e = cc

last_none : (xs ys : List ℕ) → xs ++ ys ≡ [] → ys ≡ []
last_none [] ys e = e
last_none (x ∷ xs) ys e = cc

module _ (w : World) (tree : Tree) where
  abbrev body : Line → Option Answer → Vars → List ℕ
  body line last vars = (rest w tree line last vars).body

  -- which answer comes before makes no difference to the bytes
  body_same : (line : Line) (a b : Option Answer) (vars : Vars) → body line a vars ≡ body line b vars
  unfolding rest
  body_same Nil a b vars = refl
  body_same (Bytes bytes line) a b vars = ap (λ z. bytes ++ z) (body_same line a b vars)
  body_same (Gives node left m line) a b vars = refl
  body_same (Waits node own left k line) a b vars = refl
  body_same (Stubs own stub line) a b vars = refl

  -- ---- some bytes

  pub some_first : (a b : Line) → SomeBody w tree a → SomeBody w tree (joined a b)
  some_first a b h vars e =
      let r = rest w tree a None vars in
      h vars (first_none r.body (body b r.answer r.vars) (sym (ap (λ (l : Left). l.body) (joined_rest w tree a b None vars)) ∙ e))

  pub some_last : (a b : Line) → SomeBody w tree b → SomeBody w tree (joined a b)
  some_last a b h vars e =
      let r = rest w tree a None vars in
      h r.vars (body_same b None r.answer r.vars ∙ last_none r.body (body b r.answer r.vars) (sym (ap (λ (l : Left). l.body) (joined_rest w tree a b None vars)) ∙ e))

  pub some_under : (bytes : List ℕ) (line : Line) → SomeBody w tree line → SomeBody w tree (under bytes line)
  unfolding under rest
  some_under [] line h = h
  some_under (b ∷ bytes) line h = λ vars e. cc

  pub some_text : (bytes : List ℕ) (line : Line) → bytes ≢ [] → SomeBody w tree (under bytes line)
  unfolding under rest
  some_text [] line h = λ vars e. h refl
  some_text (b ∷ bytes) line h = λ vars e. cc

  pub some_written : (node left : ℕ) (bytes : List ℕ) (m : Serving Answer) (line : Line) → bytes ≢ [] → SomeBody w tree (Gives node left (Write bytes m) line)
  unfolding rest run
  some_written node left [] m line h = λ vars e. h refl
  some_written node left (b ∷ bytes) m line h = λ vars e. cc

  -- a subrequest with a stub whose body is kept
  pub some_kept : (own : Line) (stub : List ℕ) (line : Line) → KeepsBody w tree own → SomeBody w tree own → SomeBody w tree (Stubs own stub line)
  unfolding rest
  some_kept own stub line k h vars e =
      let r = rest w tree own None vars in
      let good = k.good vars in
      let is : or_stub (Some stub) (status_of r.answer) r.body ≡ r.body = ap (λ a. or_stub (Some stub) (status_of a) r.body) good.there ∙ body_stays stub good.answer.status r.body good.good (h vars) in
      h vars (sym is ∙ first_none (or_stub (Some stub) (status_of r.answer) r.body) (body line r.answer r.vars) e)

  -- one whose stub isn't empty
  pub some_stub : (own : Line) (stub : List ℕ) (line : Line) → stub ≢ [] → SomeBody w tree (Stubs own stub line)
  unfolding rest
  some_stub own stub line h vars e =
      let r = rest w tree own None vars in
      by r.body (status_of r.answer) (first_none (or_stub (Some stub) (status_of r.answer) r.body) (body line r.answer r.vars) e)
    where
      of : (b : Bool) (x : ℕ) (xs : List ℕ) → cond b stub (x ∷ xs) ≡ [] → ⊥
      of true x xs z = h z
      of false x xs z = cc

      by : (xs : List ℕ) (status : ℕ) → or_stub (Some stub) status xs ≡ [] → ⊥
      by [] status z = h (empty status z)
        where
          empty : (status : ℕ) → or_stub (Some stub) status [] ≡ [] → stub ≡ []
          empty status z = z
      by (x ∷ xs) status z = of (nat_le 400 status) x xs z

  -- ---- a good answer

  -- a line that comes to one whatever comes before
  pub record EndsWell (line : Line) : Type 0 where
    pub node : has_node line ≡ true
    pub good : (last : Option Answer) (vars : Vars) → IsGoodLeft (rest w tree line last vars)

  pub well_kept : (line : Line) → EndsWell line → KeepsBody w tree line
  well_kept line h = record { node = h.node; good = h.good None }

  -- whatever is before it
  has_last : (a b : Line) → has_node b ≡ true → has_node (joined a b) ≡ true
  unfolding has_node joined
  has_last Nil b h = h
  has_last (Bytes bytes a) b h = has_last a b h
  has_last (Gives node left m a) b h = refl
  has_last (Waits node own left k a) b h = refl
  has_last (Stubs own stub a) b h = refl

  pub well_last : (a b : Line) → EndsWell b → EndsWell (joined a b)
  well_last a b h = record {
    node = has_last a b h.node;
    good = λ last vars.
        let r = rest w tree a last vars in
        let g = h.good r.answer r.vars in
        record { answer = g.answer; there = ap (λ (l : Left). l.answer) (joined_rest w tree a b last vars) ∙ g.there; good = g.good };
  }

  pub well_under : (bytes : List ℕ) (line : Line) → EndsWell line → EndsWell (under bytes line)
  unfolding under rest has_node
  well_under [] line h = h
  well_under (b ∷ bytes) line h =
      let k = well_under bytes line h in
      record { node = k.node; good = λ last vars. record { answer = (k.good last vars).answer; there = (k.good last vars).there; good = (k.good last vars).good } }

  pub well_gives : (node left : ℕ) (m : Serving Answer) → AllEnd IsGood m → EndsWell (Gives node left m Nil)
  unfolding rest has_node
  well_gives node left m h = record {
    node = refl;
    good = λ last vars. record { answer = (run tree (reply w tree left) m vars).result; there = refl; good = run_ends IsGood tree (reply w tree left) m vars h };
  }

  -- a line that comes to an answer, whatever comes before
  pub record Answers (line : Line) : Type 0 where
    pub node : has_node line ≡ true
    pub some : (last : Option Answer) (vars : Vars) → (answer : Answer) × ((rest w tree line last vars).answer ≡ Some answer)

  pub answers_last : (a b : Line) → Answers b → Answers (joined a b)
  answers_last a b h = record {
    node = has_last a b h.node;
    some = λ last vars.
        let r = rest w tree a last vars in
        let g = h.some r.answer r.vars in
        (g.0, ap (λ (l : Left). l.answer) (joined_rest w tree a b last vars) ∙ g.1);
  }

  pub answers_under : (bytes : List ℕ) (line : Line) → Answers line → Answers (under bytes line)
  unfolding under rest has_node
  answers_under [] line h = h
  answers_under (b ∷ bytes) line h =
      let k = answers_under bytes line h in
      record { node = k.node; some = λ last vars. ((k.some last vars).0, (k.some last vars).1) }

  pub answers_gives : (node left : ℕ) (m : Serving Answer) → Answers (Gives node left m Nil)
  unfolding rest has_node
  answers_gives node left m = record { node = refl; some = λ last vars. ((run tree (reply w tree left) m vars).result, refl) }

  pub answers_stub : (own : Line) (stub : List ℕ) → Answers own → Answers (Stubs own stub Nil)
  unfolding rest has_node
  answers_stub own stub h = record { node = refl; some = λ last vars. h.some None vars }

  -- a node that waits for the reply of one
  pub well_waits : (node left : ℕ) (own : Line) (k : Reply → Serving Answer) → Answers own → ((r : Reply) → AllEnd IsGood (k r)) → EndsWell (Waits node own left k Nil)
  unfolding rest has_node
  well_waits node left own k a h = record {
    node = refl;
    good = λ last vars.
        let r = rest w tree own None vars in
        let is = a.some None vars in
        record {
          answer = (run tree (reply w tree left) (k (reply_of is.0 r.body)) r.vars).result;
          there = ap (λ (o : Option Answer). let l : Left = elim o [
            | None ↦ rest w tree Nil None r.vars
            | Some answer ↦ let q = run tree (reply w tree left) (k (reply_of answer r.body)) r.vars in
                before q.body (rest w tree Nil (Some q.result) q.vars)
          ] in l.answer) is.1;
          good = run_ends IsGood tree (reply w tree left) (k (reply_of is.0 r.body)) r.vars (h (reply_of is.0 r.body));
        };
  }

  pub answers_waits : (node left : ℕ) (own : Line) (k : Reply → Serving Answer) → Answers own → Answers (Waits node own left k Nil)
  unfolding rest has_node
  answers_waits node left own k a = record {
    node = refl;
    some = λ last vars.
        let r = rest w tree own None vars in
        let is = a.some None vars in (
          (run tree (reply w tree left) (k (reply_of is.0 r.body)) r.vars).result,
          ap (λ (o : Option Answer). let l : Left = elim o [
            | None ↦ rest w tree Nil None r.vars
            | Some answer ↦ let q = run tree (reply w tree left) (k (reply_of answer r.body)) r.vars in
                before q.body (rest w tree Nil (Some q.result) q.vars)
          ] in l.answer) is.1,
        );
  }
