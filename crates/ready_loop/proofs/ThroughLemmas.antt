-- What stays accounted for over turns, with the ticks that there were meanwhile.
use Rattle.std.proofs.Common.{◌≡◌, ℕ, ◌≤◌, true, inl, List, [], ◌∷◌, ◌++◌, map, refl, sym, ap, ◌∙◌, subst, append_assoc}
use Rattle.std.proofs.lemmas.List.{append-nil, map-append}
use Rattle.http_types.specs.declared.words.Addr.{Addr}
use Rattle.ngx_outside.specs.Linked.{LinkView, Same, Unchanged}
use Rattle.ngx_outside.specs.Records.{Adds}
use Rattle.ngx_outside.specs.Seen.{CoreSeen, LinksSeen, FilesSeen, ClockSeen}
use Rattle.ngx_outside.specs.Views.{Course}
use Rattle.link_service.specs.Seen.{Tick, AreTold}
use Rattle.link_service.specs.Standing.{Marks, Kept, Keeps, KeptThrough}
use Rattle.link_service.proofs.KeptLemmas.{kept_same, grown_same}
use Rattle.ready_loop.proofs.TurnLemmas.{kept_refused}

moments_of : List Tick → List ℕ
moments_of ticks = map (λ (t : Tick). t.moment) ticks

trees_of : List Tick → List ℕ
trees_of ticks = map (λ (t : Tick). t.tree) ticks

-- one more is told
longer : {A : Type 0} (f : Tick → A) (told : List A) (since : List Tick) (tick : Tick) → (told ++ map f since) ++ f tick ∷ [] ≡ told ++ map f (since ++ tick ∷ [])
longer f told since tick = append_assoc told (map f since) (f tick ∷ []) ∙ ap (λ x. told ++ x) (sym (map-append f since (tick ∷ [])))

-- no tick
told_none : (clock : ClockSeen) (files files' : FilesSeen) → files'.versions ≡ files.versions → AreTold [] clock clock files files'
told_none clock files files' same = record {
  moments = λ t. sym (append-nil clock.told);
  trees = λ told is. (told, sym same ∙ is, sym (append-nil told));
}

-- a tick more
told_more : (since : List Tick) (tick : Tick) (clock clock' clock'' : ClockSeen) (files files' files'' : FilesSeen) → clock'.tells ≡ clock.tells →
    (clock'.tells ≡ true → clock''.told ≡ clock'.told ++ tick.moment ∷ []) → Adds tick.tree files'.versions files''.versions → AreTold since clock clock' files files' → AreTold (since ++ tick ∷ []) clock clock'' files files''
told_more since tick clock clock' clock'' files files' files'' tells moment version a = record {
  moments = λ t. moment (tells ∙ t) ∙ ap (λ x. x ++ tick.moment ∷ []) (a.moments t) ∙ longer (λ (u : Tick). u.moment) clock.told since tick;
  trees = λ told is.
      let v = version told is in
      let b = a.trees v.0 v.1 in
      (b.0, b.1, v.2 ∙ ap (λ x. x ++ tick.tree ∷ []) b.2 ∙ longer (λ (u : Tick). u.tree) b.0 since tick);
}

-- the versions are told as before
told_between : (since : List Tick) (clock clock' : ClockSeen) (files files' files'' files''' : FilesSeen) → files'.versions ≡ files.versions → files'''.versions ≡ files''.versions →
    AreTold since clock clock' files' files'' → AreTold since clock clock' files files'''
told_between since clock clock' files files' files'' files''' before after a = record {
  moments = a.moments;
  trees = λ told is. (let b = a.trees told (sym after ∙ is) in (b.0, sym before ∙ b.1, b.2));
}

kept_end : (marks : Marks) (whole : ℕ → Addr → Addr → Course) (core : CoreSeen) (links : LinksSeen) (files : FilesSeen) (ticks ticks' : List Tick) → ticks ≡ ticks' → Kept marks whole core links files ticks → Kept marks whole core links files ticks'
kept_end marks whole core links files ticks ticks' e k = subst (Kept marks whole core links files) e k

pub through_none : (core : CoreSeen) (links : LinksSeen) (files : FilesSeen) (clock : ClockSeen) → KeptThrough core core links links files files clock clock
through_none core links files clock = record {
  since = [];
  told = told_none clock files files refl;
  kept = λ tl tf marks whole ticks k. kept_end marks whole core links files ticks (ticks ++ []) (sym (append-nil ticks)) k;
}

pub through_keeps : (core core' : CoreSeen) (links links' : LinksSeen) (files files' : FilesSeen) (clock : ClockSeen) → files'.versions ≡ files.versions → Keeps core core' links links' files files' → KeptThrough core core' links links' files files' clock clock
through_keeps core core' links links' files files' clock same keeps = record {
  since = [];
  told = told_none clock files files' same;
  kept = λ tl tf marks whole ticks k. kept_end marks whole core' links' files' ticks (ticks ++ []) (sym (append-nil ticks)) (keeps tl tf marks whole ticks k);
}

pub through_turn : (core core' core'' : CoreSeen) (links links' links'' : LinksSeen) (files files' files'' : FilesSeen) (clock clock' clock'' : ClockSeen) (tick : Tick) →
    links'.tells ≡ links.tells → files'.tells ≡ files.tells → clock'.tells ≡ clock.tells →
    (clock'.tells ≡ true → clock''.told ≡ clock'.told ++ tick.moment ∷ []) → Adds tick.tree files'.versions files''.versions →
    (links'.tells ≡ true → files'.tells ≡ true → (marks : Marks) (whole : ℕ → Addr → Addr → Course) (ticks : List Tick) → Kept marks whole core' links' files' ticks → Kept marks whole core'' links'' files'' (ticks ++ tick ∷ [])) →
    KeptThrough core core' links links' files files' clock clock' → KeptThrough core core'' links links'' files files'' clock clock''
through_turn core core' core'' links links' links'' files files' files'' clock clock' clock'' tick el ef ec moment version step t = record {
  since = t.since ++ tick ∷ [];
  told = told_more t.since tick clock clock' clock'' files files' files'' ec moment version t.told;
  kept = λ tl tf marks whole ticks k.
      kept_end marks whole core'' links'' files'' ((ticks ++ t.since) ++ tick ∷ []) (ticks ++ (t.since ++ tick ∷ [])) (append_assoc ticks t.since (tick ∷ []))
      (step (el ∙ tl) (ef ∙ tf) marks whole (ticks ++ t.since) (t.kept tl tf marks whole ticks k));
}

pub through_between : (core core' core'' core''' : CoreSeen) (links links' links'' links''' : LinksSeen) (files files' files'' files''' : FilesSeen) (clock clock' : ClockSeen) →
    links'.tells ≡ links.tells → files'.tells ≡ files.tells → links''.tells ≡ links'.tells → files''.tells ≡ files'.tells → files'.versions ≡ files.versions → files'''.versions ≡ files''.versions →
    Keeps core core' links links' files files' → KeptThrough core' core'' links' links'' files' files'' clock clock' → Keeps core'' core''' links'' links''' files'' files''' → KeptThrough core core''' links links''' files files''' clock clock'
through_between core core' core'' core''' links links' links'' links''' files files' files'' files''' clock clock' el ef el' ef' before after first t last = record {
  since = t.since;
  told = told_between t.since clock clock' files files' files'' files''' before after t.told;
  kept = λ tl tf marks whole ticks k. last (el' ∙ el ∙ tl) (ef' ∙ ef ∙ tf) marks whole (ticks ++ t.since) (t.kept (el ∙ tl) (ef ∙ tf) marks whole ticks (first tl tf marks whole ticks k));
}

-- listening changes nothing of what is kept
pub keeps_listening : (core : CoreSeen) (links links' : LinksSeen) (files : FilesSeen) → (links.tells ≡ true → Unchanged links.link links'.link) → Same links.used links'.used × Same links.is_open links'.is_open →
    (links.tells ≡ true → (links'.crowd ≡ links.crowd) × (links'.notices ≡ links.notices)) → ((id : ℕ) → links.link_faults id ≤ links'.link_faults id) → Keeps core core links links' files files
keeps_listening core links links' files told ids counts faults = λ tl tf marks whole ticks.
    let own = told tl 0 in
    kept_same marks whole core core links links' files files ticks 0
    (record { terms = refl; now = refl; counts = inl refl; views = λ d ne. refl; wires = λ d ne. told tl d; used = ids.0; opens = λ d ne. ids.1 d; faults = faults; store = grown_same files; crowd = λ e. e ∙ sym (counts tl).0 })
    refl (ids.1 0) (ap (λ (x : LinkView). x.local) own) (ap (λ (x : LinkView). x.peer) own) (ap (λ (x : LinkView). x.among) own) (ap (λ (x : LinkView). x.taken) own) (ap (λ (x : LinkView). x.sent) own) (ap (λ (x : LinkView). x.ended) own)

-- the links are told how many events were refused
pub through_told : (core core' : CoreSeen) (links links' links'' links''' : LinksSeen) (files files' : FilesSeen) (clock clock' : ClockSeen) (count : ℕ) →
    links'.tells ≡ links.tells → links''' ≡ record links'' { refused = count } → Keeps core core links links' files files → KeptThrough core core' links' links'' files files' clock clock' → KeptThrough core core' links links''' files files' clock clock'
through_told core core' links links' links'' links''' files files' clock clock' count el e first t = record {
  since = t.since;
  told = t.told;
  kept = λ tl tf marks whole ticks k.
      subst (λ l. Kept marks whole core' l files' (ticks ++ t.since)) (sym e)
      (kept_refused marks whole core' links'' files' (ticks ++ t.since) count (t.kept (el ∙ tl) tf marks whole ticks (first tl tf marks whole ticks k)));
}
