-- The events of a core still agree with what was answered.
use Rattle.std.proofs.Common.{◌≡◌, ℕ, Bool, true, false, List, [], ◌∷◌, ◌++◌, flat_map, length, Option, None, Some, refl, sym, subst, ap, ◌∙◌, append_assoc}
use Rattle.std.proofs.lemmas.List.{append-nil, take-append-le}
use Rattle.std.proofs.lemmas.Grind.{flat_map-append}
use Rattle.ngx_outside.specs.Linked.{GotWithin}
use Rattle.ngx_outside.specs.Records.{Given, LinkAnswer, FileAnswer, Tick, Adds, beside_link, got_of, of_files, of_clock}
use Rattle.ngx_outside.specs.declared.links.Input.{Input}
use Rattle.ngx_outside.specs.declared.links.Input.TheVariants as input
use Rattle.link_service.specs.Tellings.{Grew, Beside, StandBeside, of_link, alone, moments_told}

-- a list that is told is longer by nothing
grew_none : {A : Type 0} (before : Option (List A)) (now : List A) → before ≡ Some now → Grew before now []
grew_none before now e = record { earlier = now; told = e; longer = sym (append-nil now) }

grew_one : {A : Type 0} (a : A) (before after : Option (List A)) (now : List A) → Adds a before after → after ≡ Some now → Grew before now (a ∷ [])
grew_one a before after now adds e = let h = adds now e in record { earlier = h.0; told = h.1; longer = h.2 }

grew_then : {A : Type 0} (before between : Option (List A)) (now since later : List A) (h : Grew between now later) → Grew before h.earlier since → Grew before now (since ++ later)
grew_then before between now since later h g = record { earlier = g.earlier; told = g.told; longer = h.longer ∙ ap (λ x. x ++ later) g.longer ∙ append_assoc g.earlier since later }

-- nothing came
beside_same : {A B : Type 0} (come_of : Given → List B) (beside : A → List B) (events events' : Option (List Given)) (answers answers' : Option (List A)) → events' ≡ events → answers' ≡ answers → Beside come_of beside events events' answers answers'
beside_same come_of beside events events' answers answers' e a = record {
  matched = λ given answered is are. record {
    events_since = [];
    answers_since = [];
    events = grew_none events given (sym e ∙ is);
    answers = grew_none answers answered (sym a ∙ are);
    same = refl;
  };
}

-- an event came of something else
beside_event : {A B : Type 0} (come_of : Given → List B) (beside : A → List B) (event : Given) (events events' : Option (List Given)) (answers answers' : Option (List A)) → Adds event events events' → answers' ≡ answers → come_of event ≡ [] →
    Beside come_of beside events events' answers answers'
beside_event come_of beside event events events' answers answers' adds a none = record {
  matched = λ given answered is are. record {
    events_since = event ∷ [];
    answers_since = [];
    events = grew_one event events events' given adds is;
    answers = grew_none answers answered (sym a ∙ are);
    same = ap (λ x. x ++ []) none;
  };
}

-- an answer, of which no event comes
beside_answer : {A B : Type 0} (come_of : Given → List B) (beside : A → List B) (answer : A) (events events' : Option (List Given)) (answers answers' : Option (List A)) → events' ≡ events → Adds answer answers answers' → beside answer ≡ [] →
    Beside come_of beside events events' answers answers'
beside_answer come_of beside answer events events' answers answers' e adds none = record {
  matched = λ given answered is are. record {
    events_since = [];
    answers_since = answer ∷ [];
    events = grew_none events given (sym e ∙ is);
    answers = grew_one answer answers answers' answered adds are;
    same = sym (ap (λ x. x ++ []) none);
  };
}

-- an answer and its event
beside_both : {A B : Type 0} (come_of : Given → List B) (beside : A → List B) (event : Given) (answer : A) (events events' : Option (List Given)) (answers answers' : Option (List A)) → Adds event events events' → Adds answer answers answers' → come_of event ≡ beside answer →
    Beside come_of beside events events' answers answers'
beside_both come_of beside event answer events events' answers answers' added adds one = record {
  matched = λ given answered is are. record {
    events_since = event ∷ [];
    answers_since = answer ∷ [];
    events = grew_one event events events' given added is;
    answers = grew_one answer answers answers' answered adds are;
    same = ap (λ x. x ++ []) one;
  };
}

-- one after the other
beside_then : {A B : Type 0} {come_of : Given → List B} {beside : A → List B} {events events' events'' : Option (List Given)} {answers answers' answers'' : Option (List A)} →
    Beside come_of beside events events' answers answers' → Beside come_of beside events' events'' answers' answers'' → Beside come_of beside events events'' answers answers''
beside_then {come_of = come_of} {beside = beside} {events = events} {events' = events'} {answers = answers} {answers' = answers'} first second = record {
  matched = λ given answered is are.
      let s = second.matched given answered is are in
      let f = first.matched s.events.earlier s.answers.earlier s.events.told s.answers.told in
      record {
        events_since = f.events_since ++ s.events_since;
        answers_since = f.answers_since ++ s.answers_since;
        events = grew_then events events' given f.events_since s.events_since s.events f.events;
        answers = grew_then answers answers' answered f.answers_since s.answers_since s.answers f.answers;
        same = flat_map-append come_of f.events_since s.events_since ∙ ap (λ x. x ++ flat_map come_of s.events_since) f.same ∙ ap (λ x. flat_map beside f.answers_since ++ x) s.same ∙ sym (flat_map-append beside f.answers_since s.answers_since);
      };
}

-- nothing came of any
pub stand_same : (events events' : Option (List Given)) (links links' : Option (List LinkAnswer)) (files files' : Option (List FileAnswer)) (clock clock' : Option (List ℕ)) → events' ≡ events → links' ≡ links → files' ≡ files → clock' ≡ clock →
    StandBeside events events' links links' files files' clock clock'
stand_same events events' links links' files files' clock clock' e l f c = record {
  links_beside = beside_same of_link beside_link events events' links links' e l;
  files_beside = beside_same of_files alone events events' files files' e f;
  clock_beside = beside_same of_clock alone events events' clock clock' e c;
}

-- an event that comes of none
pub stand_event : (event : Given) (events events' : Option (List Given)) (links links' : Option (List LinkAnswer)) (files : Option (List FileAnswer)) (clock : Option (List ℕ)) → Adds event events events' → links' ≡ links → of_link event ≡ [] → of_files event ≡ [] → of_clock event ≡ [] →
    StandBeside events events' links links' files files clock clock
stand_event event events events' links links' files clock adds l not_link not_file not_clock = record {
  links_beside = beside_event of_link beside_link event events events' links links' adds l not_link;
  files_beside = beside_event of_files alone event events events' files files adds refl not_file;
  clock_beside = beside_event of_clock alone event events events' clock clock adds refl not_clock;
}

-- an answer of the links and its event
pub stand_linked : (event : Given) (answer : LinkAnswer) (events events' : Option (List Given)) (links links' : Option (List LinkAnswer)) (files : Option (List FileAnswer)) (clock : Option (List ℕ)) → Adds event events events' → Adds answer links links' →
    of_link event ≡ beside_link answer → of_files event ≡ [] → of_clock event ≡ [] → StandBeside events events' links links' files files clock clock
stand_linked event answer events events' links links' files clock added adds one not_file not_clock = record {
  links_beside = beside_both of_link beside_link event answer events events' links links' added adds one;
  files_beside = beside_event of_files alone event events events' files files added refl not_file;
  clock_beside = beside_event of_clock alone event events events' clock clock added refl not_clock;
}

-- an answer of the links of which no event comes
pub stand_answered : (answer : LinkAnswer) (events : Option (List Given)) (links links' : Option (List LinkAnswer)) (files : Option (List FileAnswer)) (clock : Option (List ℕ)) → Adds answer links links' → beside_link answer ≡ [] →
    StandBeside events events links links' files files clock clock
stand_answered answer events links links' files clock adds none = record {
  links_beside = beside_answer of_link beside_link answer events events links links' refl adds none;
  files_beside = beside_same of_files alone events events files files refl refl;
  clock_beside = beside_same of_clock alone events events clock clock refl refl;
}

-- an answer of the files and its event
pub stand_filed : (event : Given) (answer : FileAnswer) (events events' : Option (List Given)) (links : Option (List LinkAnswer)) (files files' : Option (List FileAnswer)) (clock : Option (List ℕ)) → Adds event events events' → Adds answer files files' →
    of_link event ≡ [] → of_files event ≡ answer ∷ [] → of_clock event ≡ [] → StandBeside events events' links links files files' clock clock
stand_filed event answer events events' links files files' clock added adds not_link one not_clock = record {
  links_beside = beside_event of_link beside_link event events events' links links added refl not_link;
  files_beside = beside_both of_files alone event answer events events' files files' added adds one;
  clock_beside = beside_event of_clock alone event events events' clock clock added refl not_clock;
}

-- a clock tells a moment
adds_moment : (tells tells' : Bool) (told told' : List ℕ) (moment : ℕ) → tells' ≡ tells → (tells ≡ true → told' ≡ told ++ moment ∷ []) → Adds moment (moments_told tells told) (moments_told tells' told')
adds_moment tells true told told' moment same more later e = (told, ap (λ t. moments_told t told) (sym same), sym (some_same e) ∙ more (sym same))
  where
    some_same : {A : Type 0} {x y : A} → Some x ≡ Some y → x ≡ y
    some_same e = cc
adds_moment tells false told told' moment same more later e = absurd (let f : None ≡ Some later = e in cc)

pub stand_ticked : (moment : ℕ) (events events' : Option (List Given)) (links : Option (List LinkAnswer)) (files : Option (List FileAnswer)) (tells tells' : Bool) (told told' : List ℕ) → Adds (Tick moment) events events' → tells' ≡ tells → (tells ≡ true → told' ≡ told ++ moment ∷ []) →
    StandBeside events events' links links files files (moments_told tells told) (moments_told tells' told')
stand_ticked moment events events' links files tells tells' told told' added same more = record {
  links_beside = beside_event of_link beside_link (Tick moment) events events' links links added refl refl;
  files_beside = beside_event of_files alone (Tick moment) events events' files files added refl refl;
  clock_beside = beside_both of_clock alone (Tick moment) moment events events' (moments_told tells told) (moments_told tells' told') added (adds_moment tells tells' told told' moment same more) refl;
}

-- one after the other
pub stand_then : {events events' events'' : Option (List Given)} {links links' links'' : Option (List LinkAnswer)} {files files' files'' : Option (List FileAnswer)} {clock clock' clock'' : Option (List ℕ)} →
    StandBeside events events' links links' files files' clock clock' → StandBeside events' events'' links' links'' files' files'' clock' clock'' → StandBeside events events'' links links'' files files'' clock clock''
stand_then first second = record {
  links_beside = beside_then first.links_beside second.links_beside;
  files_beside = beside_then first.files_beside second.files_beside;
  clock_beside = beside_then first.clock_beside second.clock_beside;
}

-- what a read got is a front of what its buffer starts with
pub got_front : (i : Input) (front rest : List ℕ) → GotWithin i (length front) → got_of i front ≡ got_of i (front ++ rest)
got_front (input.Got count) front rest h = sym (take-append-le count front rest h.1)
got_front input.NotYet front rest h = refl
got_front input.End front rest h = refl
got_front input.Failed front rest h = refl

pub stand_none : (events : Option (List Given)) (links : Option (List LinkAnswer)) (files : Option (List FileAnswer)) (clock : Option (List ℕ)) → StandBeside events events links links files files clock clock
stand_none events links files clock = stand_same events events links links files files clock clock refl refl refl refl

-- what came since a list was empty is all of it
from_start : {A : Type 0} (now since : List A) → Grew (Some []) now since → now ≡ since
from_start now since g = let none : [] ≡ g.earlier = cc in g.longer ∙ ap (λ xs. xs ++ since) (sym none)

-- so all that was given agrees with all that was answered
pub beside_from_start : {A B : Type 0} (come_of : Given → List B) (beside : A → List B) (events events' : Option (List Given)) (answers answers' : Option (List A)) →
    events ≡ Some [] → answers ≡ Some [] → Beside come_of beside events events' answers answers' →
    (given : List Given) (answered : List A) → events' ≡ Some given → answers' ≡ Some answered → flat_map come_of given ≡ flat_map beside answered
beside_from_start come_of beside events events' answers answers' none unheard b given answered is are =
    let m = b.matched given answered is are in
    ap (flat_map come_of) (from_start given m.events_since (subst (λ o. Grew o given m.events_since) none m.events)) ∙ m.same
    ∙ sym (ap (flat_map beside) (from_start answered m.answers_since (subst (λ o. Grew o answered m.answers_since) unheard m.answers)))

alone_all : (moments : List ℕ) → flat_map alone moments ≡ moments
alone_all [] = refl
alone_all (m ∷ moments) = ap (λ more. m ∷ more) (alone_all moments)

-- and its moments are those that the clock told
pub moments_from_start : (events events' : Option (List Given)) (tells tells' : Bool) (told told' : List ℕ) →
    events ≡ Some [] → tells ≡ true → tells' ≡ tells → told ≡ [] → Beside of_clock alone events events' (moments_told tells told) (moments_told tells' told') →
    (given : List Given) → events' ≡ Some given → flat_map of_clock given ≡ told'
moments_from_start events events' tells tells' told told' none tell stay untold b given is =
    beside_from_start of_clock alone events events' (moments_told tells told) (moments_told tells' told') none
    (ap (λ t. moments_told t told) tell ∙ ap (λ xs. Some xs) untold) b given told' is (ap (λ t. moments_told t told') (stay ∙ tell))
    ∙ alone_all told'
