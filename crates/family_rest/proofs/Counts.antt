-- A step of a line that neither reads nor writes a variable keeps the subrequests that are opened or still asked for.
use Rattle.std.proofs.Common.{◌≡◌, ℕ, suc, ◌+◌, arith, List, [], ◌∷◌, ◌++◌, map, Option, None, Some, refl, sym, ap, ◌∙◌, append-nil}
use Rattle.file_tree.specs.Tree.{Tree}
use Rattle.acts.specs.Vars.{Vars, look, set}
use Rattle.acts.specs.Act.{Done, Get, Put, Stat, Call, Write, Inner, settled}
use Rattle.family_meaning.specs.request_meaning.Serving.{World, Serving, Child, Reply, Answer}
use Rattle.family_meaning.specs.request_meaning.Replies
use Rattle.family_meaning.specs.request_meaning.Replies.{Came, run, script, or_stub}
use Rattle.family_meaning.specs.request_meaning.Counts.{subs_in, child_subs}
use Rattle.family_meaning.specs.Line.{Line, Left, rest, before, joined, with_stub, with_bytes, some_reply, done_of, ended, reply_of}
use Rattle.family_meaning.specs.Line.Line.{Nil, Bytes, Gives, Waits, Stubs}
use Rattle.family_meaning.specs.Left.{subs_left, act_subs}
use Rattle.family_meaning.specs.Moves.{Quiet}
use Rattle.family_meaning.specs.Moves.Quiet.{Learns, Places, Placed, Merges, Opens, Asks, Hears, Leaves, Keeps, Decides, Chooses, Parts, Gone, PastBytes, PastNode, PastWait, Within, PastStub, WithinStub}
use Rattle.family_meaning.proofs.Exacts.{settled_run}
use Rattle.family_meaning.proofs.Orders.{quiet_same}
use Rattle.family_order.specs.Items.{Item, items}
use Rattle.family_order.specs.Items.Stance.{Going, Waiting, Apart, Hidden}
use Rattle.family_order.specs.Items.Item.{Byte, Node, Stub}
use Rattle.family_rest.specs.Opened.{opened_quietly}

-- where none is opened
pub none_more : (n : ℕ) → n ≡ 0 + n
none_more n = omega arith

swap : (a n b : ℕ) → a + (n + b) ≡ n + (a + b)
swap a n b = omega arith

-- what was settled asks for as many
pub settled_subs : {A : Type 0} (tree : Tree) (inner : Child → Vars → Came Answer) (count : Child → Vars → ℕ) (m : Serving A) (vars : Vars) →
    subs_in tree inner count m vars ≡ subs_in tree inner count (settled m vars).0 (settled m vars).1
unfolding subs_in settled
settled_subs tree inner count (Done a) vars = refl
settled_subs tree inner count (Get name k) vars = settled_subs tree inner count (k (look vars name)) vars
settled_subs tree inner count (Put name value m) vars = settled_subs tree inner count m (set name value vars)
settled_subs tree inner count (Stat path k) vars = refl
settled_subs tree inner count (Call child k) vars = refl
settled_subs tree inner count (Write bytes m) vars = refl
settled_subs tree inner count (Inner child m) vars = refl

-- ---- a line of which every node is over

some_inj : {A : Type 0} {a b : A} → Some a ≡ Some b → a ≡ b
some_inj e = cc

no_some : {A B : Type 0} {a : A} → None ≡ Some a → B
no_some e = cc

left_by : Vars → Reply → Left
left_by vars reply = record { answer = Some reply.answer; body = reply.body; vars = vars }

prefixed : (bytes : List ℕ) (r : Option Reply) (said : Reply) → with_bytes bytes r ≡ Some said → (inner : Reply) × (r ≡ Some inner) × (reply_of inner.answer (bytes ++ inner.body) ≡ said)
prefixed bytes None said e = no_some e
prefixed bytes (Some r) said e = (r, refl, some_inj e)

by_done : (d : Option Answer) (line : Line) (said : Reply) → (elim d [
  | None ↦ None
  | Some answer ↦ ended line (Some answer)
]) ≡ Some said → (answer : Answer) × (d ≡ Some answer) × (ended line (Some answer) ≡ Some said)
by_done None line said e = no_some e
by_done (Some answer) line said e = (answer, refl, e)

done_is : (m : Serving Answer) (answer : Answer) → done_of m ≡ Some answer → m ≡ Done answer
done_is (Done a) answer e = ap Done (some_inj e)
done_is (Get name k) answer e = no_some e
done_is (Put name value m) answer e = no_some e
done_is (Stat path k) answer e = no_some e
done_is (Call child k) answer e = no_some e
done_is (Write bytes m) answer e = no_some e
done_is (Inner child m) answer e = no_some e

some_same : (a : Option Answer) (said : Reply) (vars : Vars) → some_reply a ≡ Some said → (record { answer = a; body = []; vars = vars }) ≡ left_by vars said
unfolding left_by
some_same None said vars e = no_some e
some_same (Some answer) said vars e = ap (left_by vars) (some_inj e)

module _ (w : World) (tree : Tree) where
  -- it comes to its reply, and asks for nothing more
  record IsEnded (line : Line) (last : Option Answer) (vars : Vars) (said : Reply) : Type 0 where
    comes : rest w tree line last vars ≡ left_by vars said
    none : subs_left w tree line vars ≡ 0

  is_ended : (line : Line) (last : Option Answer) (vars : Vars) (said : Reply) → ended line last ≡ Some said → IsEnded line last vars said
  unfolding rest ended run left_by subs_left subs_in
  is_ended Nil last vars said e = record { comes = some_same last said vars e; none = refl }
  is_ended (Bytes bytes line) last vars said e =
      let p = prefixed bytes (ended line last) said e in
      let h = is_ended line last vars p.0 p.1 in
      record { comes = ap (before bytes) h.comes ∙ ap (left_by vars) p.2; none = h.none }
  is_ended (Gives node left m line) last vars said e =
      let p = by_done (done_of m) line said e in
      let d = done_is m p.0 p.1 in
      let h = is_ended line (Some p.0) vars said p.2 in
      record {
        comes = ap (λ n. let r = run tree (Replies.reply w tree left) n vars in before r.body (rest w tree line (Some r.result) r.vars)) d ∙ h.comes;
        none = ap (λ n. act_subs w tree left n vars + subs_left w tree line (run tree (Replies.reply w tree left) n vars).vars) d ∙ sym (none_more (subs_left w tree line vars)) ∙ h.none;
      }
  is_ended (Waits node own left k line) last vars said e = no_some e
  is_ended (Stubs own stub line) last vars said e = no_some e

  -- ---- lines one after another

  -- those of a node that waits for a line which comes to this, and of the line after it
  abbrev pub heard_subs : (left : ℕ) → (Reply → Serving Answer) → Line → Left → ℕ
  heard_subs left k line r = elim r.answer [
    | None ↦ subs_left w tree line r.vars
    | Some answer ↦ let m = k (reply_of answer r.body) in
        act_subs w tree left m r.vars + subs_left w tree line (run tree (Replies.reply w tree left) m r.vars).vars
  ]

  three : (a b c : ℕ) → a + (b + c) ≡ a + b + c
  three a b c = omega arith

  -- after a node that waits, and another line after that
  waits_joined : (left : ℕ) (k : Reply → Serving Answer) (a b : Line) → ((last : Option Answer) (vars : Vars) → subs_left w tree (joined a b) vars ≡ subs_left w tree a vars + subs_left w tree b (rest w tree a last vars).vars) →
      (answer : Option Answer) (body : List ℕ) (vars : Vars) → heard_subs left k (joined a b) (record { answer = answer; body = body; vars = vars })
      ≡ heard_subs left k a (record { answer = answer; body = body; vars = vars })
      + subs_left w tree b (elim answer as (λ _. Left) [
        | None ↦ rest w tree a None vars
        | Some answer ↦ let q = run tree (Replies.reply w tree left) (k (reply_of answer body)) vars in
            before q.body (rest w tree a (Some q.result) q.vars)
      ]).vars
  waits_joined left k a b e None body vars = e None vars
  waits_joined left k a b e (Some answer) body vars =
      let m = k (reply_of answer body) in
      let q = run tree (Replies.reply w tree left) m vars in
      ap (λ z. act_subs w tree left m vars + z) (e (Some q.result) q.vars)
      ∙ three (act_subs w tree left m vars) (subs_left w tree a q.vars) (subs_left w tree b (rest w tree a (Some q.result) q.vars).vars)

  joined_subs : (a b : Line) (last : Option Answer) (vars : Vars) → subs_left w tree (joined a b) vars ≡ subs_left w tree a vars + subs_left w tree b (rest w tree a last vars).vars
  unfolding rest joined subs_left
  joined_subs Nil b last vars = none_more (subs_left w tree b vars)
  joined_subs (Bytes bytes a) b last vars = joined_subs a b last vars
  joined_subs (Gives node left m a) b last vars =
      let r = run tree (Replies.reply w tree left) m vars in
      ap (λ z. act_subs w tree left m vars + z) (joined_subs a b (Some r.result) r.vars)
      ∙ three (act_subs w tree left m vars) (subs_left w tree a r.vars) (subs_left w tree b (rest w tree a (Some r.result) r.vars).vars)
  joined_subs (Waits node own left k a) b last vars =
      let r = rest w tree own None vars in
      ap (λ z. subs_left w tree own vars + z) (waits_joined left k a b (λ last' vars'. joined_subs a b last' vars') r.answer r.body r.vars)
      ∙ three (subs_left w tree own vars) (heard_subs left k a r) (subs_left w tree b (rest w tree (Waits node own left k a) last vars).vars)
  joined_subs (Stubs own stub a) b last vars =
      let r = rest w tree own None vars in
      ap (λ z. subs_left w tree own vars + z) (joined_subs a b r.answer r.vars)
      ∙ three (subs_left w tree own vars) (subs_left w tree a r.vars) (subs_left w tree b (rest w tree a r.answer r.vars).vars)

  -- for a node that waits, what is after it asks for as many, and as many are opened there
  waits_subs : (left n : ℕ) (k : Reply → Serving Answer) (line other : Vars → ℕ) → ((vars : Vars) → line vars ≡ n + other vars) → (answer : Option Answer) (body : List ℕ) (vars : Vars) →
      elim answer as (λ _. ℕ) [
        | None ↦ line vars
        | Some answer ↦ let m = k (reply_of answer body) in
            act_subs w tree left m vars + line (run tree (Replies.reply w tree left) m vars).vars
      ] ≡ n + elim answer as (λ _. ℕ) [
        | None ↦ other vars
        | Some answer ↦ let m = k (reply_of answer body) in
            act_subs w tree left m vars + other (run tree (Replies.reply w tree left) m vars).vars
      ]
  waits_subs left n k line other e None body vars = e vars
  waits_subs left n k line other e (Some answer) body vars =
      let m = k (reply_of answer body) in
      let r = run tree (Replies.reply w tree left) m vars in
      ap (λ z. act_subs w tree left m vars + z) (e r.vars) ∙ swap (act_subs w tree left m vars) n (other r.vars)

  -- ---- a subrequest that opens

  opens_by : (node left number : ℕ) (act m : Serving Answer) (stub : Option (List ℕ)) (line : Line) (vars : Vars) →
      (let r = run tree (Replies.reply w tree left) act vars in
      let q = run tree (Replies.reply w tree (suc left)) m r.vars in
      1 + act_subs w tree left act vars + act_subs w tree (suc left) m r.vars + subs_left w tree line q.vars)
      ≡ 1 + subs_left w tree (with_stub stub (Gives number left act Nil) (Gives node (suc left) m line)) vars
  unfolding rest joined subs_left
  opens_by node left number act m None line vars = omega arith
  opens_by node left number act m (Some stub) line vars = omega arith

  asks_by : (node left number : ℕ) (act : Serving Answer) (k : Reply → Serving Answer) (stub : Option (List ℕ)) (line : Line) (vars : Vars) →
      (let r = run tree (Replies.reply w tree left) act vars in
      let m = k (reply_of r.result (or_stub stub r.result.status r.body)) in
      let q = run tree (Replies.reply w tree (suc left)) m r.vars in
      1 + act_subs w tree left act vars + act_subs w tree (suc left) m r.vars + subs_left w tree line q.vars)
      ≡ 1 + subs_left w tree (Waits node (with_stub stub (Gives number left act Nil) Nil) (suc left) k line) vars
  unfolding rest joined subs_left
  asks_by node left number act k None line vars =
      let r = run tree (Replies.reply w tree left) act vars in
      let of : List ℕ → ℕ = λ body. (let m = k (reply_of r.result body) in
      1 + act_subs w tree left act vars + act_subs w tree (suc left) m r.vars + subs_left w tree line (run tree (Replies.reply w tree (suc left)) m r.vars).vars) in
      ap of (sym (append-nil r.body)) ∙ omega arith
  asks_by node left number act k (Some stub) line vars =
      let r = run tree (Replies.reply w tree left) act vars in
      let of : List ℕ → ℕ = λ body. (let m = k (reply_of r.result body) in
      1 + act_subs w tree left act vars + act_subs w tree (suc left) m r.vars + subs_left w tree line (run tree (Replies.reply w tree (suc left)) m r.vars).vars) in
      ap of (ap (or_stub (Some stub) r.result.status) (sym (append-nil r.body)) ∙ sym (append-nil (or_stub (Some stub) r.result.status (r.body ++ [])))) ∙ omega arith

  -- ---- a step

  pub quiet_subs : (line line' : Line) (q : Quiet w tree line line') (vars : Vars) → subs_left w tree line vars ≡ opened_quietly q + subs_left w tree line' vars
  unfolding rest run subs_left subs_in Replies.reply child_subs left_by
  quiet_subs _ _ (Learns {node} {left} {path} {k} {line}) vars = none_more (subs_left w tree (Gives node left (k (tree path)) line) vars)
  quiet_subs _ _ (Places {node} {left} {some} {more} {m} {line}) vars = none_more (subs_left w tree (Gives node left m line) vars)
  quiet_subs _ _ (Placed {node} {left} {m} {line}) vars = none_more (subs_left w tree (Gives node left m line) vars)
  quiet_subs _ _ (Merges {node} {left} {first} {second} {m} {line}) vars = none_more (subs_left w tree (Gives node left m line) vars)
  quiet_subs _ _ (Opens {node} {left} {child} {m} {line} number) vars = opens_by node left number (script w left child) m child.stub line vars
  quiet_subs _ _ (Asks {node} {left} {child} {k} {line} number) vars = asks_by node left number (script w left child) k child.stub line vars
  quiet_subs _ _ (Hears {node} {left} {own} {line} {k} said e) vars =
      let h = is_ended own None vars said e in
      ap (λ z. z + heard_subs left k line (rest w tree own None vars)) h.none ∙ ap (λ (r : Left). 0 + heard_subs left k line r) h.comes
  quiet_subs _ _ (Leaves h) vars = refl
  quiet_subs _ _ (Keeps {own} {line} k h) vars = sym (joined_subs own line None vars) ∙ none_more (subs_left w tree (joined own line) vars)
  quiet_subs _ _ (Decides {own} {line} {stub} said e h) vars =
      let i = is_ended own None vars said e in
      ap (λ z. z + subs_left w tree line (rest w tree own None vars).vars) i.none ∙ ap (λ (r : Left). 0 + subs_left w tree line r.vars) i.comes
  quiet_subs _ _ (Chooses {own} {line} {stub} node left said e) vars =
      let i = is_ended own None vars said e in
      ap (λ z. z + subs_left w tree line (rest w tree own None vars).vars) i.none
      ∙ ap (λ (r : Left). 0 + subs_left w tree line r.vars) i.comes
      ∙ ap (λ z. 0 + z) (none_more (subs_left w tree line vars))
  quiet_subs _ _ (Parts {line}) vars = none_more (subs_left w tree line vars)
  quiet_subs _ _ (Gone {line}) vars = none_more (subs_left w tree line vars)
  quiet_subs _ _ (PastBytes {line} {line'} q) vars = quiet_subs line line' q vars
  quiet_subs _ _ (PastNode {node} {left} {m} {line} {line'} q) vars =
      let r = run tree (Replies.reply w tree left) m vars in
      ap (λ z. act_subs w tree left m vars + z) (quiet_subs line line' q r.vars)
      ∙ swap (act_subs w tree left m vars) (opened_quietly q) (subs_left w tree line' r.vars)
  quiet_subs _ _ (PastWait {node} {left} {own} {line} {line'} {k} q) vars =
      let r = rest w tree own None vars in
      ap (λ z. subs_left w tree own vars + z) (waits_subs left (opened_quietly q) k (subs_left w tree line) (subs_left w tree line') (λ vars'. quiet_subs line line' q vars') r.answer r.body r.vars)
      ∙ swap (subs_left w tree own vars) (opened_quietly q) (heard_subs left k line' r)
  quiet_subs _ _ (Within {node} {left} {own} {own'} {line} {k} q) vars =
      ap (λ z. z + heard_subs left k line (rest w tree own None vars)) (quiet_subs own own' q vars)
      ∙ ap (λ (r : Left). opened_quietly q + subs_left w tree own' vars + heard_subs left k line r) (quiet_same w tree own own' q vars None)
      ∙ sym (three (opened_quietly q) (subs_left w tree own' vars) (heard_subs left k line (rest w tree own' None vars)))
  quiet_subs _ _ (PastStub {own} {line} {line'} {stub} q) vars =
      let r = rest w tree own None vars in
      ap (λ z. subs_left w tree own vars + z) (quiet_subs line line' q r.vars)
      ∙ swap (subs_left w tree own vars) (opened_quietly q) (subs_left w tree line' r.vars)
  quiet_subs _ _ (WithinStub {own} {own'} {line} {stub} q) vars =
      ap (λ z. z + subs_left w tree line (rest w tree own None vars).vars) (quiet_subs own own' q vars)
      ∙ ap (λ (r : Left). opened_quietly q + subs_left w tree own' vars + subs_left w tree line r.vars) (quiet_same w tree own own' q vars None)
      ∙ sym (three (opened_quietly q) (subs_left w tree own' vars) (subs_left w tree line (rest w tree own' None vars).vars))

  -- the first node reads and writes variables, or reads one
  pub here_subs : (node left : ℕ) (m : Serving Answer) (line : Line) (vars : Vars) →
      subs_left w tree (Gives node left m line) vars ≡ subs_left w tree (Gives node left (settled m vars).0 line) (settled m vars).1
  unfolding subs_left
  here_subs node left m line vars =
      ap (λ z. z + subs_left w tree line (run tree (Replies.reply w tree left) m vars).vars) (settled_subs tree (Replies.reply w tree left) (child_subs w tree left) m vars)
      ∙ ap (λ (r : Came Answer). act_subs w tree left (settled m vars).0 (settled m vars).1 + subs_left w tree line r.vars) (settled_run tree (Replies.reply w tree left) m vars)

  pub reads_subs : (node left : ℕ) (name : List ℕ) (k : Option (List ℕ) → Serving Answer) (line : Line) (vars : Vars) →
      subs_left w tree (Gives node left (Get name k) line) vars ≡ subs_left w tree (Gives node left (k (look vars name)) line) vars
  unfolding subs_left subs_in run
  reads_subs node left name k line vars = refl

  -- ---- by what a line has

  unfoldable pub items_subs : List Item → Vars → ℕ
  items_subs [] vars = 0
  items_subs (Byte b ∷ xs) vars = items_subs xs vars
  items_subs (Node n (Going left m) ∷ xs) vars =
      let r = run tree (Replies.reply w tree left) m vars in
      act_subs w tree left m vars + items_subs xs r.vars
  items_subs (Node n (Waiting own left k) ∷ xs) vars =
      let r = rest w tree own None vars in
      subs_left w tree own vars + elim r.answer [
        | None ↦ items_subs xs r.vars
        | Some answer ↦ let m = k (reply_of answer r.body) in
            act_subs w tree left m r.vars + items_subs xs (run tree (Replies.reply w tree left) m r.vars).vars
      ]
  items_subs (Node n (Apart own stub) ∷ xs) vars = items_subs xs vars
  items_subs (Node n Hidden ∷ xs) vars = items_subs xs vars
  items_subs (Stub own stub ∷ xs) vars =
      let r = rest w tree own None vars in
      subs_left w tree own vars + items_subs xs r.vars

  pub bytes_subs : (bytes : List ℕ) (xs : List Item) (vars : Vars) → items_subs (map Byte bytes ++ xs) vars ≡ items_subs xs vars
  unfolding items_subs
  bytes_subs [] xs vars = refl
  bytes_subs (b ∷ bytes) xs vars = bytes_subs bytes xs vars

  heard_line : (left : ℕ) (k : Reply → Serving Answer) (line other : Vars → ℕ) → ((vars : Vars) → line vars ≡ other vars) → (answer : Option Answer) (body : List ℕ) (vars : Vars) →
      elim answer as (λ _. ℕ) [
        | None ↦ line vars
        | Some answer ↦ let m = k (reply_of answer body) in
            act_subs w tree left m vars + line (run tree (Replies.reply w tree left) m vars).vars
      ] ≡ elim answer as (λ _. ℕ) [
        | None ↦ other vars
        | Some answer ↦ let m = k (reply_of answer body) in
            act_subs w tree left m vars + other (run tree (Replies.reply w tree left) m vars).vars
      ]
  heard_line left k line other e None body vars = e vars
  heard_line left k line other e (Some answer) body vars =
      let m = k (reply_of answer body) in
      ap (λ z. act_subs w tree left m vars + z) (e (run tree (Replies.reply w tree left) m vars).vars)

  pub line_subs : (line : Line) (vars : Vars) → subs_left w tree line vars ≡ items_subs (items line) vars
  unfolding items_subs items subs_left
  line_subs Nil vars = refl
  line_subs (Bytes bytes line) vars = line_subs line vars ∙ sym (bytes_subs bytes (items line) vars)
  line_subs (Gives node left m line) vars =
      let r = run tree (Replies.reply w tree left) m vars in
      ap (λ z. act_subs w tree left m vars + z) (line_subs line r.vars)
  line_subs (Waits node own left k line) vars =
      let r = rest w tree own None vars in
      ap (λ z. subs_left w tree own vars + z) (heard_line left k (subs_left w tree line) (items_subs (items line)) (λ vars'. line_subs line vars') r.answer r.body r.vars)
  line_subs (Stubs own stub line) vars =
      let r = rest w tree own None vars in
      ap (λ z. subs_left w tree own vars + z) (line_subs line r.vars)

  -- after others
  pub subs_past : (n : ℕ) (xs ys zs : List Item) → ((vars : Vars) → items_subs ys vars ≡ n + items_subs zs vars) → (vars : Vars) → items_subs (xs ++ ys) vars ≡ n + items_subs (xs ++ zs) vars
  unfolding items_subs
  subs_past n [] ys zs e vars = e vars
  subs_past n (Byte b ∷ xs) ys zs e vars = subs_past n xs ys zs e vars
  subs_past n (Node j (Going left m) ∷ xs) ys zs e vars =
      let r = run tree (Replies.reply w tree left) m vars in
      ap (λ z. act_subs w tree left m vars + z) (subs_past n xs ys zs e r.vars)
      ∙ swap (act_subs w tree left m vars) n (items_subs (xs ++ zs) r.vars)
  subs_past n (Node j (Waiting own left k) ∷ xs) ys zs e vars =
      let r = rest w tree own None vars in
      ap (λ z. subs_left w tree own vars + z) (waits_subs left n k (items_subs (xs ++ ys)) (items_subs (xs ++ zs)) (λ vars'. subs_past n xs ys zs e vars') r.answer r.body r.vars)
      ∙ swap (subs_left w tree own vars) n (elim r.answer as (λ _. ℕ) [
        | None ↦ items_subs (xs ++ zs) r.vars
        | Some answer ↦ let m = k (reply_of answer r.body) in
            act_subs w tree left m r.vars + items_subs (xs ++ zs) (run tree (Replies.reply w tree left) m r.vars).vars
      ])
  subs_past n (Node j (Apart own stub) ∷ xs) ys zs e vars = subs_past n xs ys zs e vars
  subs_past n (Node j Hidden ∷ xs) ys zs e vars = subs_past n xs ys zs e vars
  subs_past n (Stub own stub ∷ xs) ys zs e vars =
      let r = rest w tree own None vars in
      ap (λ z. subs_left w tree own vars + z) (subs_past n xs ys zs e r.vars)
      ∙ swap (subs_left w tree own vars) n (items_subs (xs ++ zs) r.vars)
