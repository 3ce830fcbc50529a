-- What follows the phases of a node.
use Rattle.std.proofs.Common.{◌≡◌, ◌==◌, ℕ, zero, suc, true, false, is_some, List, [], ◌∷◌, ◌++◌, length, Option, None, Some, refl, sym, ap, ◌∙◌, subst, append-nil}
use Rattle.acts.specs.Vars.{Vars}
use Rattle.acts.specs.Act.{Done, Write, Stat, ◌>>=◌, settled, settled_then}
use Rattle.acts.proofs.ActLaws.{settles_in_turn, settled_stays}
use Rattle.file_tree.specs.declared.job.Ask.{Ask}
use Rattle.node_turn.specs.Stages.{ask_or}
use Rattle.node_turn.specs.Nodes.{asked_path, path_or, IsFor, lender, lent, of_method, padded, told_item, len_of, told_length, bytes_for, body_then, after_phases, served_as, with_main}
use Rattle.file_tree.specs.Tree.{known_text, Item, text_of, tree_of, node_of}
use Rattle.file_tree.specs.declared.job.Node.{Node as FileNode}
use Rattle.file_tree.specs.declared.job.Node.TheVariants as files
use Rattle.page_body.specs.site_model.declared.site.Site.{Site}
use Rattle.request_reply.specs.request_meaning.Serving.{World, Serving, Answer, Prepared, Asked, Standing, Body as MeantBody}
use Rattle.request_reply.specs.request_meaning.Serving.Body.{NoBody, Plain, Filtered}
use Rattle.request_reply.specs.request_meaning.Answering.{sent, answer_with, page, page_to, page_answer, moved, closed_answer}
use Rattle.request_reply.specs.request_meaning.Bodies.{written}
use Rattle.request_reply.specs.rewrite_code.Places.{standing_seen}
use Rattle.request_reply.specs.request_phases.Rounds.{asked_in, prepared_as}
use Rattle.request_reply.specs.request_phases.declared.state.Conclusion.{Conclusion}
use Rattle.request_reply.specs.request_phases.declared.state.Conclusion.TheVariants as outcomes
use Rattle.request_reply.specs.request_phases.declared.state.Phases.{Phases}
use Rattle.request_reply.specs.request_meaning.Laws.{shipped}
use Rattle.request_reply.specs.request_phases.Rounds.{IsOfMain}
use Rattle.request_reply.specs.Replies.{FitsFile, IsReply, body_seen}
use Rattle.request_reply.specs.declared.reply.Body.{Body as CodeBody}
use Rattle.request_reply.specs.declared.reply.Reply.{Reply}
use Rattle.page_body.specs.ngx_variables.declared.request.Main.{Main}
use Rattle.filter_api.specs.declared.facts.Facts.{Facts}
use Rattle.page_body.specs.Pages.{filtered_rest}

-- ---- lengths

pub padded_length : (n : ℕ) (bytes : List ℕ) → length (padded n bytes) ≡ n
unfolding padded
padded_length zero bytes = refl
padded_length (suc n) [] = ap suc (padded_length n [])
padded_length (suc n) (b ∷ bytes) = ap suc (padded_length n bytes)

pub padded_whole : (bytes : List ℕ) → padded (length bytes) bytes ≡ bytes
unfolding padded
padded_whole [] = refl
padded_whole (b ∷ bytes) = ap (λ t. b ∷ t) (padded_whole bytes)

-- a file of which all is known
pub all_known : (known : List ℕ) (len : ℕ) (text : List ℕ) → (length known == 0) ≡ false → length known ≡ len → known ++ padded 0 text ≡ padded len (known_text known text)
unfolding padded
all_known [] len text some e = cc
all_known (b ∷ known) len text some e = append-nil (b ∷ known) ∙ (sym (padded_whole (b ∷ known)) ∙ ap (λ n. padded n (b ∷ known)) e)

pub told_text : (file : FileNode) (text : List ℕ) → text_of (told_item file text) ≡ padded (len_of file) text
unfolding padded
told_text (files.File len date) text = refl
told_text files.Folder text = refl
told_text files.Locked text = refl
told_text files.Missing text = refl

pub told_node : (file : FileNode) (text : List ℕ) → node_of (told_item file text) ≡ file
told_node (files.File len date) text = ap (λ n. files.File n date) (padded_length len text)
told_node files.Folder text = refl
told_node files.Locked text = refl
told_node files.Missing text = refl

-- how long a file was said to be before makes no difference
pub same_outcome : (w : World) (a : Asked) (s : Standing) (len : ℕ) (text : List ℕ) (o : Conclusion) →
    prepared_as w a s (padded len text) o ≡ prepared_as w a s (bytes_for (told_length len o) text) (told_length len o)
same_outcome w a s len text (outcomes.Text code t) = refl
same_outcome w a s len text (outcomes.File told date) = refl
same_outcome w a s len text (outcomes.Page code) = refl
same_outcome w a s len text (outcomes.Redirect code to) = refl
same_outcome w a s len text outcomes.Close = refl

pub fits : (o : Conclusion) (text : List ℕ) → FitsFile o (bytes_for o text)
fits (outcomes.Text code t) text = tt
fits (outcomes.File len date) text = padded_length len text
fits (outcomes.Page code) text = tt
fits (outcomes.Redirect code to) text = tt
fits outcomes.Close text = tt

-- ---- the answer is to the request of its phases

pub is_for : (w : World) (site : Site) (p : Phases) (bytes : List ℕ) (o : Conclusion) → IsFor site p (prepared_as w (asked_in p) (standing_seen site p.at) bytes o).answer
unfolding sent answer_with page page_to page_answer moved closed_answer
is_for w site p bytes (outcomes.Text code t) = record { main = refl; request = refl; values = refl }
is_for w site p bytes (outcomes.File len date) = record { main = refl; request = refl; values = refl }
is_for w site p bytes (outcomes.Page code) = record { main = refl; request = refl; values = refl }
is_for w site p bytes (outcomes.Redirect code to) = record { main = refl; request = refl; values = refl }
is_for w site p bytes outcomes.Close = record { main = refl; request = refl; values = refl }

-- ---- bodies

pub bare_so : (w : World) (left : ℕ) (ssi : Vars) (answer : Answer) (vars : Vars) → settled (body_then w left ssi answer NoBody) vars ≡ (Done answer, vars)
unfolding written ◌>>=◌ settled
bare_so w left ssi answer vars = refl

pub plain_so : (w : World) (left : ℕ) (ssi : Vars) (answer : Answer) (bytes : List ℕ) (vars : Vars) → settled (body_then w left ssi answer (Plain bytes)) vars ≡ (Write bytes (Done answer), vars)
unfolding written ◌>>=◌ settled
plain_so w left ssi answer bytes vars = refl

-- a body that filters make begins with nothing, and has settled
pub paged_so : (w : World) (left : ℕ) (ssi : Vars) (answer : Answer) (facts : Facts) (bytes : List ℕ) (vars : Vars) →
    settled (body_then w left ssi answer (Filtered facts bytes)) vars ≡ (filtered_rest w left ssi answer facts bytes, vars)
unfolding written ◌>>=◌ settled filtered_rest
paged_so w left ssi answer facts bytes vars = refl

-- a body and an answer that are the same
pub body_is : (w : World) (left : ℕ) (ssi : Vars) (p : Prepared) (answer : Answer) (body : MeantBody) → answer ≡ p.answer → body ≡ p.body → after_phases w left ssi p ≡ body_then w left ssi answer body
body_is w left ssi p answer body a b = ap (λ x. body_then w left ssi x p.body) (sym a) ∙ ap (body_then w left ssi answer) (sym b)

-- ---- in turn

-- an act and what follows it settles as what the act settled as, and what follows
pub in_turn : {A B : Type 0} (m n : Serving A) (k : A → Serving B) (old new : Vars) → settled m old ≡ (n, new) → settled (m >>= k) old ≡ settled (n >>= k) new
in_turn m n k old new e =
    settles_in_turn m k old
    ∙ (ap (λ s. settled_then s.0 s.1 k) e
    ∙ sym (settles_in_turn n k new ∙ ap (λ s. settled_then s.0 s.1 k) (stays m n old new e)))
  where
    stays : {A : Type 0} (m n : Serving A) (old new : Vars) → settled m old ≡ (n, new) → settled n new ≡ (n, new)
    stays m n old new e = sym (ap (λ s. settled s.0 s.1) e) ∙ (settled_stays m old ∙ e)

-- a question to the files has settled
pub asks_so : (w : World) (left : ℕ) (ssi : Vars) (path : List ℕ) (k : Item → Serving Prepared) (vars : Vars) →
    settled (served_as w left ssi (Stat path k)) vars ≡ (served_as w left ssi (Stat path k), vars)
unfolding ◌>>=◌ settled
asks_so w left ssi path k vars = refl

-- phases that are over
pub done_so : (w : World) (left : ℕ) (ssi : Vars) (p : Prepared) (vars : Vars) → settled (served_as w left ssi (Done p)) vars ≡ settled (after_phases w left ssi p) vars
unfolding ◌>>=◌
done_so w left ssi p vars = refl

-- what phases answer, by what is known of the reply
pub answers_so : (w : World) (left : ℕ) (ssi : Vars) (made : Prepared) (answer : Answer) (bytes : List ℕ) (facts : Option Facts) (body b : CodeBody) (vars : Vars) →
    answer ≡ made.answer → body_seen bytes facts body ≡ made.body → body ≡ b →
    settled (after_phases w left ssi made) vars ≡ settled (body_then w left ssi answer (body_seen bytes facts b)) vars
answers_so w left ssi made answer bytes facts body b vars a e h =
    ap (λ m. settled m vars) (body_is w left ssi made answer (body_seen bytes facts body) a e) ∙ ap (λ x. settled (body_then w left ssi answer (body_seen bytes facts x)) vars) h

-- a reply says what was prepared, by the outcome that it is made of
pub reply_so : (w : World) (site : Site) (p : Phases) (text : List ℕ) (reply : Reply) (o made : Conclusion) → made ≡ o → w.members ≡ shipped →
    ((w : World) (bytes : List ℕ) → w.members ≡ shipped → FitsFile made bytes → IsReply reply bytes (prepared_as w (asked_in p) (standing_seen site p.at) bytes made)) →
    IsReply reply (bytes_for o text) (prepared_as w (asked_in p) (standing_seen site p.at) (bytes_for o text) o)
reply_so w site p text reply o made e s h =
    subst (λ x. IsReply reply (bytes_for o text) (prepared_as w (asked_in p) (standing_seen site p.at) (bytes_for o text) x)) e
    (h w (bytes_for o text) s (subst (λ x. FitsFile x (bytes_for o text)) (sym e) (fits o text)))

-- a text with nothing of a file after it
pub none_behind : (bytes text : List ℕ) → bytes ++ padded 0 text ≡ bytes
unfolding padded
none_behind bytes text = append-nil bytes

-- phases that were lent a main request have it still, and give it back
pub given_back : (main other : Main) (p given after back : Phases) → given ≡ lent main p → IsOfMain given.main after.main → back ≡ record after { main = lender after.main other } → lent main back ≡ after
given_back main other p given after back g o b =
    ap (lent main) b
    ∙ ap (λ x. record after { main = x }) (sym (o ∙ ap (λ (q : Phases). record (q.main) { method = after.main.method }) g))

pub same_main : (main : Main) (p after : Phases) (given back : Main) (lended : Phases) → lended ≡ lent main p → given ≡ lender main p.main → IsOfMain lended.main after.main →
    back ≡ lender given after.main → back ≡ main
same_main main p after given back lended l g o b =
    b ∙ (ap (lender given) (o ∙ ap (λ (q : Phases). record (q.main) { method = after.main.method }) l)
    ∙ ap (λ (m : Main). lender m (of_method after.main.method main)) g)

-- phases that see a main request by their own method, with no copy of it
pub seen_main : (main one : Main) (p given : Phases) → one ≡ of_method p.main.method main → given ≡ record p { main = of_method main.method p.main } →
    with_main one given ≡ lent main p
seen_main main one p given o g = ap (λ (m : Main). with_main m given) o ∙ ap (with_main (of_method p.main.method main)) g

-- and what they are once the methods have changed places again
pub method_back : (main one : Main) (p given back : Phases) → one ≡ of_method p.main.method main → given ≡ record p { main = of_method main.method p.main } →
    back ≡ record given { main = of_method one.method given.main } → lent main back ≡ lent main p
method_back main one p given back o g b =
    ap (lent main) (b ∙ (ap (λ (m : Main). record given { main = of_method m.method given.main }) o ∙ ap (λ (q : Phases). record q { main = of_method p.main.method q.main }) g))

-- the path that a node asks for now
pub asked_or : (asked : Option (List ℕ)) (of : ℕ) (ask : Ask) → path_or asked (asked_path ask) ≡ asked_path (ask_or asked of ask)
asked_or None of ask = refl
asked_or (Some path) of ask = refl

-- and of which tree
pub asked_tree : (asked : Option (List ℕ)) (of : ℕ) (ask : Ask) → is_some asked ≡ true → tree_of (ask_or asked of ask) ≡ of
asked_tree None of ask e = cc
asked_tree (Some path) of ask e = refl
