-- What is still to come, act by act.
use Rattle.std.proofs.Common.{◌≡◌, ℕ, List, [], None, refl, sym, ap, ◌∙◌, subst}
use Rattle.std.proofs.lemmas.List.{append-nil}
use Rattle.acts.specs.Vars.{Vars, look, set}
use Rattle.acts.specs.Act.{Done, Get, Put, Stat, Call, Write, Inner, ◌>>=◌, ◌>>◌, settled, settled_then}
use Rattle.acts.proofs.ActLaws.{settles_in_turn, settled_stays}
use Rattle.file_tree.specs.Tree.{Tree, Item}
use Rattle.request_meaning.specs.Serving.{World, Serving, Child, Answer, Prepared}
use Rattle.request_meaning.specs.Serving.Body.{NoBody, Plain}
use Rattle.request_meaning.specs.Bodies.{written}
use Rattle.request_meaning.specs.Counts.{subs_in}
use Rattle.request_meaning.specs.Replies.{Came, run, reply, most_depth}
use Rattle.family_meaning.specs.Flight.{Terms}
use Rattle.family_meaning.specs.Left.{act_subs}
use Rattle.family_meaning.proofs.Exacts.{settled_run}
use Rattle.reply_out.specs.request_reply.Replies.{body_seen}
use Rattle.reply_out.specs.request_reply.declared.reply.Body.{Body as CodeBody}
use Rattle.reply_out.specs.request_reply.declared.reply.Body.TheVariants as bodies
use Rattle.request_flow.specs.Rests.{Rest, finished, came_rest, act_rest}
use Rattle.request_flow.specs.Sents.{prepared_rest}

-- an act and what follows it settles as what the act settled as, and what follows
in_turn : {A B : Type 0} (m n : Serving A) (k : A → Serving B) (old new : Vars) → settled m old ≡ (n, new) → settled (m >>= k) old ≡ settled (n >>= k) new
in_turn m n k old new e =
    settles_in_turn m k old
    ∙ (ap (λ s. settled_then s.0 s.1 k) e
    ∙ sym (settles_in_turn n k new ∙ ap (λ s. settled_then s.0 s.1 k) (stays m n old new e)))
  where
    stays : {A : Type 0} (m n : Serving A) (old new : Vars) → settled m old ≡ (n, new) → settled n new ≡ (n, new)
    stays m n old new e = sym (ap (λ s. settled s.0 s.1) e) ∙ (settled_stays m old ∙ e)

-- reads and writes of variables ask for no subrequest
pub subs_settled : {A : Type 0} (tree : Tree) (inner : Child → Vars → Came Answer) (count : Child → Vars → ℕ) (m : Serving A) (vars : Vars) →
    subs_in tree inner count m vars ≡ subs_in tree inner count (settled m vars).0 (settled m vars).1
unfolding subs_in settled
subs_settled tree inner count (Done a) vars = refl
subs_settled tree inner count (Get name k) vars = subs_settled tree inner count (k (look vars name)) vars
subs_settled tree inner count (Put name value m) vars = subs_settled tree inner count m (set name value vars)
subs_settled tree inner count (Stat path k) vars = refl
subs_settled tree inner count (Call child k) vars = refl
subs_settled tree inner count (Write bytes m) vars = refl
subs_settled tree inner count (Inner child m) vars = refl

-- what is still to come where these acts are left
abbrev left_rest : World → Tree → Terms → Serving Answer → Vars → Rest
left_rest w tree t m vars = came_rest t (run tree (reply w tree most_depth) m vars) (act_subs w tree most_depth m vars)

left_settled : (w : World) (tree : Tree) (t : Terms) (m : Serving Answer) (vars : Vars) →
    left_rest w tree t m vars ≡ left_rest w tree t (settled m vars).0 (settled m vars).1
left_settled w tree t m vars =
    ap (λ r. came_rest t r (act_subs w tree most_depth m vars)) (settled_run tree (reply w tree most_depth) m vars)
    ∙ ap (came_rest t (run tree (reply w tree most_depth) (settled m vars).0 (settled m vars).1)) (subs_settled tree _ _ m vars)

after_phases : World → Prepared → Serving Answer
after_phases w p = written w most_depth [] p.answer p.body >> Done p.answer

finished_is : (w : World) (m : Serving Prepared) → finished w m ≡ (m >>= after_phases w)
unfolding finished after_phases
finished_is w m = refl

-- what follows phases settles with them
pub finished_settles : (w : World) (m n : Serving Prepared) (old new : Vars) → settled m old ≡ (n, new) → settled (finished w m) old ≡ settled (finished w n) new
finished_settles w m n old new e =
    ap (λ a. settled a old) (finished_is w m) ∙ (in_turn m n (after_phases w) old new e ∙ ap (λ a. settled a new) (sym (finished_is w n)))

-- what settles is what is left
pub act_settles : (w : World) (tree : Tree) (t : Terms) (m n : Serving Prepared) (old new : Vars) → settled m old ≡ (n, new) →
    act_rest w tree t m old ≡ act_rest w tree t n new
unfolding act_rest
act_settles w tree t m n old new e =
    left_settled w tree t (finished w m) old
    ∙ (ap (λ s. left_rest w tree t s.0 s.1)
    (finished_settles w m n old new e)
    ∙ sym (left_settled w tree t (finished w n) new))

-- a question to the files is answered by the tree
pub asks_rest : (w : World) (tree : Tree) (t : Terms) (path : List ℕ) (k : Item → Serving Prepared) (vars : Vars) →
    act_rest w tree t (Stat path k) vars ≡ act_rest w tree t (k (tree path)) vars
unfolding act_rest finished ◌>>=◌ run subs_in
asks_rest w tree t path k vars = refl

-- phases that are over
done_plain : (w : World) (tree : Tree) (t : Terms) (answer : Answer) (bytes : List ℕ) (vars : Vars) →
    act_rest w tree t (Done (record { answer = answer; body = Plain bytes })) vars ≡ prepared_rest t (record { answer = answer; body = Plain bytes }) vars
unfolding act_rest finished ◌>>=◌ written run subs_in
done_plain w tree t answer bytes vars =
    ap (λ b. came_rest t (record { result = answer; body = b; vars = vars }) 0) (append-nil bytes)

done_bare : (w : World) (tree : Tree) (t : Terms) (answer : Answer) (vars : Vars) →
    act_rest w tree t (Done (record { answer = answer; body = NoBody })) vars ≡ prepared_rest t (record { answer = answer; body = NoBody }) vars
unfolding act_rest finished ◌>>=◌ written run subs_in
done_bare w tree t answer vars = refl

done_by : (w : World) (tree : Tree) (t : Terms) (answer : Answer) (bytes : List ℕ) (body : CodeBody) (vars : Vars) →
    act_rest w tree t (Done (record { answer = answer; body = body_seen bytes None body })) vars
    ≡ prepared_rest t (record { answer = answer; body = body_seen bytes None body }) vars
done_by w tree t answer bytes bodies.Nothing vars = done_bare w tree t answer vars
done_by w tree t answer bytes (bodies.Page code) vars = done_plain w tree t answer _ vars
done_by w tree t answer bytes (bodies.Text text) vars = done_plain w tree t answer text vars
done_by w tree t answer bytes bodies.File vars = done_plain w tree t answer bytes vars

pub done_rest : (w : World) (tree : Tree) (t : Terms) (p : Prepared) (bytes : List ℕ) (body : CodeBody) (vars : Vars) → body_seen bytes None body ≡ p.body →
    act_rest w tree t (Done p) vars ≡ prepared_rest t p vars
done_rest w tree t p bytes body vars e =
    subst (λ b. act_rest w tree t (Done (record { answer = p.answer; body = b })) vars ≡ prepared_rest t (record { answer = p.answer; body = b }) vars) e
    (done_by w tree t p.answer bytes body vars)
