-- The script's notices, one after another, and what its peers send.
use Rattle.std.proofs.Common.{◌≡◌, ℕ, ◌+◌, ◌<◌, Bool, true, false, cond, List, [], ◌∷◌, ◌++◌, length, get_or, set, refl, sym, ap, subst, ◌∙◌, inr}
use Rattle.std.specs.Prelude.{reverse}
use Rattle.std.proofs.lemmas.List.{reverse-append, reverse-reverse}
use Rattle.ngx_outside.specs.declared.links.Notice.{Notice}
use Rattle.ngx_outside.specs.declared.links.Notice.TheVariants as notice
use Rattle.ngx_outside.specs.declared.links.Input.{Input}
use Rattle.memory_links.specs.declared.links.ScriptedNotice.{ScriptedNotice}
use Rattle.memory_links.specs.declared.links.ScriptedNotice.TheVariants as scripted
use Rattle.memory_links.specs.declared.peer.Peer.{Peer}
use Rattle.memory_links.specs.Scripted.{IsReportOf, Sending, Reported, Plays}
use Rattle.memory_links.specs.Peers.{Sends, SendSame, Gives, OneGives, OneBegins, sends_of, sends_in, silent}
use Rattle.memory_links.proofs.Ids.{at_own, at_other, set_own, same_set, push_own, push_other}

-- no notice of the script is answered as the end
no_end : (is_open : ℕ → Bool) (s : ScriptedNotice) → IsReportOf is_open s notice.Ended → ⊥
no_end is_open (scripted.Opened local peer input ends window) h = h
no_end is_open (scripted.Readable id) h =
    elim (is_open id) as (λ b. notice.Ended ≡ cond b (notice.Readable id) notice.Nothing → ⊥) [ true ↦ (λ e. cc) | false ↦ (λ e. cc) ] h
no_end is_open (scripted.Writable id more) h =
    elim (is_open id) as (λ b. notice.Ended ≡ cond b (notice.Writable id) notice.Nothing → ⊥) [ true ↦ (λ e. cc) | false ↦ (λ e. cc) ] h
no_end is_open scripted.Nothing h = cc

-- a notice that is taken from the end of the list is the next one
pub reported_next : (is_open : ℕ → Bool) (old new : List ScriptedNotice) (s : ScriptedNotice) (n : Notice) (sends sends' : ℕ → Sends) → old ≡ new ++ s ∷ [] →
    IsReportOf is_open s n → Sending s n sends sends' → Reported is_open n (reverse old) (reverse new) sends sends'
reported_next is_open old new s n sends sends' e h k = record {
  scripted = s;
  next = ap reverse e ∙ reverse-append new (s ∷ []);
  report = h;
  sending = k;
}

pub plays_next : (is_open : ℕ → Bool) (old new : List ScriptedNotice) (s : ScriptedNotice) (n : Notice) (sends sends' : ℕ → Sends) → old ≡ new ++ s ∷ [] →
    IsReportOf is_open s n → Sending s n sends sends' → Plays is_open n (reverse old) (reverse new) sends sends'
plays_next is_open old new s n sends sends' e h k = pick n (reported_next is_open old new s n sends sends' e h k)
  where
    pick : (m : Notice) → Reported is_open m (reverse old) (reverse new) sends sends' → Plays is_open m (reverse old) (reverse new) sends sends'
    pick (notice.Opened id local peer) r = r
    pick (notice.Readable id) r = r
    pick (notice.Writable id) r = r
    pick notice.Nothing r = r
    pick notice.Failed r = inr r
    pick notice.Ended r = absurd (no_end is_open r.scripted r.report)

-- the script as it was given
pub given_script : (given kept : List ScriptedNotice) → kept ≡ reverse given → reverse kept ≡ given
given_script given kept e = ap reverse e ∙ reverse-reverse given

-- one peer is read
pub gives_set : (peers : List Peer) (i : ℕ) (p d : Peer) (r : Input) (buf : List ℕ) → i < length peers → Gives r buf (sends_of (get_or peers i d)) (sends_of p) →
    OneGives (i + 1) r buf (sends_in peers) (sends_in (set peers i p))
gives_set peers i p d r buf h g = record {
  own =
      subst (λ (a : Sends). Gives r buf a (sends_in (set peers i p) (i + 1))) (sym (at_own sends_of silent peers i d (i + 1) h refl))
      (subst (λ (b : Sends). Gives r buf (sends_of (get_or peers i d)) b) (sym (set_own sends_of silent peers i p (i + 1) h refl)) g);
  others = λ c ne. at_other sends_of silent peers i p c ne;
}

-- all still send the same where one does
pub send_same_set : (peers : List Peer) (i : ℕ) (p d : Peer) → i < length peers → sends_of p ≡ sends_of (get_or peers i d) →
    SendSame (sends_in peers) (sends_in (set peers i p))
send_same_set peers i p d h e = same_set sends_of silent peers i p d h e

-- one connects
pub begins_push : (peers new : List Peer) (p : Peer) (id : ℕ) → id ≡ length peers + 1 → new ≡ peers ++ p ∷ [] →
    OneBegins id (sends_of p) (sends_in peers) (sends_in new)
begins_push peers new p id e is =
    subst (λ (xs : List Peer). OneBegins id (sends_of p) (sends_in peers) (sends_in xs)) (sym is)
    record { own = push_own sends_of silent peers p id e; others = λ c ne. push_other sends_of silent peers p c (λ n. ne (n ∙ sym e)) }
