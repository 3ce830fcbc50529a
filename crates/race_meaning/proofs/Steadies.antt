-- A steady act gives the same for tables that agree.
use Rattle.std.proofs.Common.{◌≡◌, ℕ, Bool, true, false, cond, List, Option, Some, bytes_eq, refl, sym, ◌∙◌, ap, subst}
use Rattle.std.proofs.lemmas.Slice.Eq.{bytes_eq-Decides}
use Rattle.file_tree.specs.Tree.{Tree}
use Rattle.acts.specs.Vars.{Vars, look, set}
use Rattle.acts.specs.Act.{Done, Get, Put, Stat, Call, Write, Inner, ◌>>=◌}
use Rattle.acts.proofs.ActLaws.{look_after_set}
use Rattle.family_meaning.specs.request_meaning.Serving.{Serving, Child, Reply, Answer}
use Rattle.family_meaning.specs.request_meaning.Replies.{Came, run, after_bytes}
use Rattle.race_meaning.specs.Steady.{Names, Covers, along, Agree, Rules, Obeys, Shared, Steady, SameReply, InnerSame, any}

pub agree_through : {a : Names} {t v w : Vars} → Agree a t v → Agree a t w → Agree a v w
agree_through f g = record { at = λ x h. sym (f.at x h) ∙ g.at x h }

-- one variable more is known where both tables get the same value
set_at : (name other value : List ℕ) (v w : Vars) (known : Names) (e : Bool) → bytes_eq name other ≡ e → cond e true (known other) ≡ true →
    (known other ≡ true → look v other ≡ look w other) → cond e (Some value) (look v other) ≡ cond e (Some value) (look w other)
set_at name other value v w known true e h f = refl
set_at name other value v w known false e h f = f h

pub agree_set : {known : Names} {v w : Vars} (name value : List ℕ) → Agree known v w → Agree (along name known) (set name value v) (set name value w)
agree_set {known} {v} {w} name value f = record {
  at = λ other h.
      look_after_set name value v other ∙ set_at name other value v w known (bytes_eq name other) refl h (f.at other) ∙ sym (look_after_set name value w other);
}

-- a steady variable keeps its value
kept_at : (b c d : Option (List ℕ)) (e : Bool) → (e ≡ true → c ≡ b) → c ≡ d → c ≡ cond e b d
kept_at b c d true f g = f refl
kept_at b c d false f g = g

pub agree_kept : {names : Names} {t v : Vars} (name value : List ℕ) → Agree names t v → (names name ≡ true → Some value ≡ look t name) → Agree names t (set name value v)
agree_kept {names} {t} {v} name value f g = record {
  at = λ other h.
      kept_at (Some value) (look t other) (look v other) (bytes_eq name other)
      (λ e. let p : name ≡ other = (bytes_eq-Decides name other).0 e in
      sym (g (subst (λ z. names z ≡ true) (sym p) h) ∙ ap (look t) p))
      (f.at other h)
      ∙ sym (look_after_set name value v other);
}

same_after : {A : Type 0} (s : Shared) (b c : List ℕ) (r q : Came A) → b ≡ c → SameReply s r q → SameReply s (after_bytes b r) (after_bytes c q)
same_after s b c r q e h = record { result = h.result; body = cc (e, h.body); left = h.left; right = h.right }

pub run_same : {A : Type 0} (s : Shared) (tree : Tree) (inner : Child → Vars → Came Answer) → InnerSame s inner → (known : Names) (m : Serving A) (post : Names → A → Type 0) (v w : Vars) →
    Steady s known m post → Agree s.steady s.table v → Agree s.steady s.table w → Agree known v w →
    SameReply s (run tree inner m v) (run tree inner m w)
unfolding run
run_same s tree inner i known (Done a) post v w h l r e = record { result = refl; body = refl; left = l; right = r }
run_same s tree inner i known (Get name k) post v w h l r e =
    subst (λ b. SameReply s (run tree inner (k (look v name)) v) (run tree inner (k b) w)) (e.at name h.0)
    (run_same s tree inner i known (k (look v name)) post v w (h.1 (look v name)) l r e)
run_same s tree inner i known (Put name value m) post v w h l r e =
    run_same s tree inner i (along name known) m post (set name value v) (set name value w) h.1 (agree_kept name value l h.0) (agree_kept name value r h.0) (agree_set name value e)
run_same s tree inner i known (Stat path k) post v w h l r e =
    run_same s tree inner i s.steady (k (tree path)) post v w (h (tree path)) l r (agree_through l r)
run_same s tree inner i known (Call child k) post v w h l r e =
    let same = i child v w h.0 l r in
    let reply : Reply = record { answer = (inner child v).result; body = (inner child v).body } in
    let other : Reply = record { answer = (inner child w).result; body = (inner child w).body } in
    let equal : reply ≡ other = cc (same.result, same.body) in
    subst (λ a. SameReply s (run tree inner (k reply) (inner child v).vars) (run tree inner (k a) (inner child w).vars)) equal
    (run_same s tree inner i s.steady (k reply) post (inner child v).vars (inner child w).vars (h.1 reply) same.left same.right (agree_through same.left same.right))
run_same s tree inner i known (Write bytes m) post v w h l r e =
    same_after s bytes bytes (run tree inner m v) (run tree inner m w) refl (run_same s tree inner i s.steady m post v w h l r (agree_through l r))
run_same s tree inner i known (Inner child m) post v w h l r e =
    let same = i child v w h.0.0 l r in
    same_after s (inner child v).body (inner child w).body (run tree inner m (inner child v).vars) (run tree inner m (inner child w).vars) same.body
    (run_same s tree inner i s.steady m post (inner child v).vars (inner child w).vars h.1 same.left same.right (agree_through same.left same.right))

-- ---- one act and then another

along_covers : (e b c : Bool) → (b ≡ true → c ≡ true) → cond e true b ≡ true → cond e true c ≡ true
along_covers true b c f h = refl
along_covers false b c f h = f h

pub covers_along : (name : List ℕ) (a b : Names) → Covers a b → Covers (along name a) (along name b)
covers_along name a b c other h = along_covers (bytes_eq name other) (a other) (b other) (c other) h

-- what is so where little is known is so where more is
pub obeys_more : {A : Type 0} (r : Rules) (a b : Names) (m : Serving A) (post post' : Names → A → Type 0) →
    Covers a b → Obeys r a m post → ((now more : Names) (x : A) → Covers now more → post now x → post' more x) → Obeys r b m post'
obeys_more r a b (Done x) post post' c h f = f a b x c h
obeys_more r a b (Get name k) post post' c h f = (c name h.0, λ v. obeys_more r a b (k v) post post' c (h.1 v) f)
obeys_more r a b (Put name value m) post post' c h f = (h.0, obeys_more r (along name a) (along name b) m post post' (covers_along name a b c) h.1 f)
obeys_more r a b (Stat path k) post post' c h f = λ i. obeys_more r r.kept r.kept (k i) post post' (λ n e. e) (h i) f
obeys_more r a b (Call child k) post post' c h f = (h.0, λ q. obeys_more r r.kept r.kept (k q) post post' (λ n e. e) (h.1 q) f)
obeys_more r a b (Write bytes m) post post' c h f = obeys_more r r.kept r.kept m post post' (λ n e. e) h f
obeys_more r a b (Inner child m) post post' c h f = (h.0, obeys_more r r.kept r.kept m post post' (λ n e. e) h.1 f)

pub obeys_bind : {A B : Type 0} (r : Rules) (known : Names) (m : Serving A) (k : A → Serving B) (mid : Names → A → Type 0) (post : Names → B → Type 0) →
    Obeys r known m mid → ((now : Names) (a : A) → mid now a → Obeys r now (k a) post) → Obeys r known (m >>= k) post
unfolding ◌>>=◌
obeys_bind r known (Done a) k mid post h f = f known a h
obeys_bind r known (Get name g) k mid post h f = (h.0, λ b. obeys_bind r known (g b) k mid post (h.1 b) f)
obeys_bind r known (Put name value m) k mid post h f = (h.0, obeys_bind r (along name known) m k mid post h.1 f)
obeys_bind r known (Stat path g) k mid post h f = λ n. obeys_bind r r.kept (g n) k mid post (h n) f
obeys_bind r known (Call child g) k mid post h f = (h.0, λ n. obeys_bind r r.kept (g n) k mid post (h.1 n) f)
obeys_bind r known (Write bytes m) k mid post h f = obeys_bind r r.kept m k mid post h f
obeys_bind r known (Inner child m) k mid post h f = (h.0, obeys_bind r r.kept m k mid post h.1 f)

pub any_same : {A : Type 0} (s : Shared) (tree : Tree) (inner : Child → Vars → Came Answer) → InnerSame s inner → (known : Names) (m : Serving A) (v w : Vars) →
    Steady s known m any → Agree s.steady s.table v → Agree s.steady s.table w → Agree known v w →
    SameReply s (run tree inner m v) (run tree inner m w)
any_same s tree inner i known m v w h l r e = run_same s tree inner i known m any v w h l r e
