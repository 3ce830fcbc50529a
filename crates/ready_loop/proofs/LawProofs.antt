-- What the account of a connection comes to.
use Rattle.std.proofs.Common.{◌≡◌, Bool, true, false, ◌&&◌, List, [], ◌∷◌, ◌++◌, None, refl, sym, ap, ◌∙◌, subst}
use Rattle.std.proofs.Common.{arith}
use Rattle.link_service.specs.Standing.{Unused}
use Rattle.std.specs.Prelude.{is_none}
use Rattle.std.specs.List.{All, Contains}
use Rattle.std.proofs.lemmas.List.{append-nil}
use Rattle.std.proofs.lemmas.List.Elements.{All-nil, All-push, All-weaker, Contains-append_left, Contains-append_right, Contains-push}
use Rattle.ngx_outside.specs.Views.{ConnView, Start, IsSound, is_live}
use Rattle.ngx_outside.proofs.Tracks.{all_is_sent_when_shut}
use Rattle.link_service.specs.Seen.{Tick, Dated, Begun, Later, Started, start_at}
use Rattle.ready_loop.specs.Laws.{ClosedUnendedSentAll, ClosedUnstoppedSentAll, KeptBegins, StartsWereTold}

pub begins : KeptBegins
begins core links files unheld shut unused crowd now = record {
  fresh = λ c u. refl;
  terms = refl;
  link_marks = λ c. omega arith;
  file_marks = omega arith;
  refused_marks = omega arith;
  now = now;
  crowd = crowd;
  all = λ c. Unused (unheld c) (shut c) (unused c);
}

-- one that isn't held isn't to be closed
held_shut : (v : ConnView) → IsSound v → v.shut ≡ true → v.held ≡ true
held_shut v sound shut = go v.held refl
  where
    go : (t : Bool) → v.held ≡ t → v.held ≡ true
    go true e = e
    go false e = absurd (let f : false ≡ true = ap (λ (x : ConnView). x.shut) (sym (sound.absent e)) ∙ shut in cc)

-- one that is to be closed and wasn't stopped is live
unstopped_live : (v : ConnView) → IsSound v → v.shut ≡ true → v.cause ≡ None → is_live v ≡ true
unstopped_live v sound shut unstopped = ap (λ h. h && is_none v.cause) (held_shut v sound shut) ∙ ap (λ c. true && is_none c) unstopped

pub closed_sent_all : ClosedUnstoppedSentAll
closed_sent_all whole files ticks last came went found_end a sound shut unstopped raceless trees agree later =
    let live : is_live last ≡ true = unstopped_live last sound shut unstopped in
    ap (λ c. whole.bytes trees c (last.starts ++ later)) (sym (append-nil came)) ∙ a.tracked.on live raceless trees agree [] later ∙ ap (λ r. went ++ r) (sound.shut live shut trees later) ∙ append-nil went

pub closed_unended_sent_all : ClosedUnendedSentAll
closed_unended_sent_all whole files ticks last came went a sound shut unstopped raceless trees agree more later =
    all_is_sent_when_shut whole files.trees files.newest last came went a.tracked sound (unstopped_live last sound shut unstopped) shut (unended last.ended a.ends) raceless trees agree more later
  where
    unended : (t : Bool) → (t ≡ true → false ≡ true) → t ≡ false
    unended true h = absurd (let e : false ≡ true = h refl in cc)
    unended false h = refl

IsTold : List Tick → Start → Type 0
IsTold ticks s = (tick : Tick) × Contains ticks tick × (s ≡ start_at tick)

told : (since : List Tick) (starts : List Start) → Dated since starts → All (IsTold since) starts
unfolding IsTold
told _ _ (Begun tick) = All-nil (IsTold (tick ∷ []))
told _ _ (Later before starts tick d) = All-weaker (IsTold before) (IsTold (before ++ tick ∷ [])) (λ s t. (t.0, Contains-append_left before (tick ∷ []) t.0 t.1, t.2)) starts (told before starts d)
told _ _ (Started before starts tick start is d) = All-push (IsTold (before ++ tick ∷ [])) starts start (told (before ++ tick ∷ []) starts d) (tick, Contains-push before tick, is)

pub starts_told : StartsWereTold
unfolding IsTold
starts_told all starts d =
    All-weaker (IsTold (d.since ++ d.last ∷ [])) (IsTold all) (λ s t. (t.0, subst (λ xs. Contains xs t.0) (sym d.all) (Contains-append_right d.before (d.since ++ d.last ∷ []) t.0 t.1), t.2)) starts (told (d.since ++ d.last ∷ []) starts d.dated)
