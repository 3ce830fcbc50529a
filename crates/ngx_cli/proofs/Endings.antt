-- How the commands end.
use Rattle.std.specs.Prelude.{◌⊎◌}
use Rattle.std.proofs.Common.{◌≡◌, ◌∷◌, inl, inr, Bool, true, false, not, ◌&&◌, List, ℕ, [], ◌++◌, Ok, Err, refl, sym, subst, if◌then◌else◌}
use Rattle.ngx_outside.specs.Causes.{Rose}
use Rattle.ngx_outside.specs.Seen.{FilesSeen}
use Rattle.ready_loop.specs.declared.service.Ending.{Ending}
use Rattle.ready_loop.specs.declared.service.Ending.TheVariants as ending
use Rattle.conf_include.specs.Listings.{Names, IsNaming}
use Rattle.conf_include.specs.Asked.{IsAskedAt}
use Rattle.conf_include.specs.declared.main_file.PlacedFault.{PlacedFault}
use Rattle.conf_inherit.specs.Values.{has_items}
use Rattle.report_text.specs.Lines.{ended}
use Rattle.report_text.specs.Faults.{conf_fault_line}
use Rattle.site_service.specs.Serving.{Outside, Serving}
use Rattle.ngx_cli.specs.Sites.{Describes as IsDescribed, FailsIf, Reading, AreRaceless, conflicts_of, site_at}
use Rattle.ngx_cli.specs.Checks.{check_text}
use Rattle.ngx_cli.specs.declared.script.ScriptOutcome.{ScriptOutcome}
use Rattle.ngx_cli.specs.declared.script.ScriptOutcome.TheVariants as outcome
use Rattle.ngx_cli.specs.declared.site.ReadSite.{ReadSite}
use Rattle.ngx_cli.specs.declared.site.SiteError.{SiteError}
use Rattle.ngx_cli.specs.declared.site.SiteError.TheVariants as error
use Rattle.ngx_cli.specs.declared.status.Status.{Status}
use Rattle.ngx_cli.specs.declared.status.Status.TheVariants as status
use Rattle.ngx_cli.specs.Commands.{Output, Made, Printed, CutShort, ComesTo, Describes, Finds, Served, ServedFound, Played, Unread, IsFaultLine, OfFirst, OfFiles, OfMaker, IsCheckLine, OfSite, OfNoSite, IsRefusal, OfRaces, OfFault, FoundEnds, ReplayEnds, CheckEnds, ServeEnds, PutsText, served_status, status_of}

-- a site was served
pub served : (found : ReadSite) (racy : Bool) (o : Outside) (out : Output) (turns : ℕ) (e : Ending) → ServedFound found racy o out turns e → (e ≡ ending.Ended → o.links'.over ≡ true) → (e ≡ ending.ListenFault → Rose o.links.faults o.links'.faults) → (e ≡ ending.NextFault → Rose o.links.faults o.links'.faults) →
    FoundEnds found racy o out turns (served_status e)
served found racy o out turns ending.Ended s ends listen next = (ends refl, s)
served found racy o out turns ending.TurnsUsed s ends listen next = s
served found racy o out turns ending.ListenFault s ends listen next = (listen refl, inl s)
served found racy o out turns ending.NextFault s ends listen next = (next refl, inr s)

pub none_named : (found : ReadSite) → has_items (conflicts_of found) ≡ false → conflicts_of found ≡ []
none_named found h = empty (conflicts_of found) h
  where
    empty : {A : Type 0} (xs : List A) → has_items xs ≡ false → xs ≡ []
    empty [] h = refl
    empty (x ∷ xs) h = cc

-- no variable is named where it is said that none is
pub unnamed : (racy named : Bool) → racy ≡ named → not racy ≡ true → named ≡ false
unnamed true named e r = cc
unnamed false named e r = sym e

-- what was found at a path came to this
module _ (found : ReadSite) (racy : Bool) (o : Outside) (reading : FilesSeen) (made : Made) (out : Output) (path : List ℕ) (turns : ℕ) (finds : Finds o.files reading path found) where
  abbrev pub later : Outside
  later = record o { files = reading }

  whole : (e : Ending) → ServedFound found racy later out turns e → Served o out path turns racy e
  whole e s = record {
    found = found;
    reading = reading;
    described = finds;
    names = s.names;
    raceless = λ off. finds.raceless (none_named found (s.names off));
    serving = s.serving;
    printed = s.printed;
  }

  at_files : (files : FilesSeen) → files ≡ reading → Finds o.files files path found
  at_files files e = subst (λ f. Finds o.files f path found) (sym e) finds

  pub found_ends : (s : Status) → FoundEnds found racy later out turns s → ServeEnds o made out path turns racy s
  found_ends status.Done h = (h.0, whole ending.Ended h.1)
  found_ends status.TurnsUsed h = whole ending.TurnsUsed h
  found_ends status.Racy h = (h.0, record { found = found; described = at_files o.files' h.1.files; names = h.1.names; links = h.1.links; clock = h.1.clock; printed = h.1.printed })
  found_ends status.LinksFault h = (h.0, either h.1)
    where
      either : ServedFound found racy later out turns ending.ListenFault ⊎ ServedFound found racy later out turns ending.NextFault → Served o out path turns racy ending.ListenFault ⊎ Served o out path turns racy ending.NextFault
      either (inl s) = inl (whole ending.ListenFault s)
      either (inr s) = inr (whole ending.NextFault s)
  found_ends status.SinkFault h = record { rose = h.1.rose; text = h.1.text; due = OfRaces found (at_files o.files' h.0) h.1.due; front = h.1.front }
  found_ends status.OutOfMemory h = h
  found_ends status.Usage h = absurd h
  found_ends status.ConfFault h = absurd h
  found_ends status.FilesFault h = absurd h
  found_ends status.ScriptFault h = absurd h
  found_ends status.PatternFault h = absurd h

-- a text that was due couldn't be put
cut : (IsDue : List ℕ → Type 0) (out : Output) (text : List ℕ) → IsDue text → PutsText out text (Err status.SinkFault) → CutShort IsDue out
cut IsDue out text due p = record { rose = p.0; text = text; due = due; front = p.1 }

pub unput_found : (found : ReadSite) (racy : Bool) (o : Outside) (out : Output) (turns : ℕ) (s : Status) → o.files' ≡ o.files → PutsText out (check_text found) (Err s) → FoundEnds found racy o out turns s
unput_found found racy o out turns status.SinkFault e p = (e, cut (λ text. text ≡ check_text found) out (check_text found) refl p)
unput_found found racy o out turns status.OutOfMemory e p = p
unput_found found racy o out turns status.Done e p = absurd p
unput_found found racy o out turns status.Usage e p = absurd p
unput_found found racy o out turns status.Racy e p = absurd p
unput_found found racy o out turns status.ConfFault e p = absurd p
unput_found found racy o out turns status.FilesFault e p = absurd p
unput_found found racy o out turns status.LinksFault e p = absurd p
unput_found found racy o out turns status.ScriptFault e p = absurd p
unput_found found racy o out turns status.TurnsUsed e p = absurd p
unput_found found racy o out turns status.PatternFault e p = absurd p

pub unput_serving : (o : Outside) (made : Made) (out : Output) (path : List ℕ) (turns : ℕ) (racy : Bool) (text : List ℕ) (s : Status) → IsFaultLine o.files o.files' made path text → PutsText out text (Err s) → ServeEnds o made out path turns racy s
unput_serving o made out path turns racy text status.SinkFault due p = cut (IsRefusal o.files o.files' made path) out text (OfFault due) p
unput_serving o made out path turns racy text status.OutOfMemory due p = p
unput_serving o made out path turns racy text status.Done due p = absurd p
unput_serving o made out path turns racy text status.Usage due p = absurd p
unput_serving o made out path turns racy text status.Racy due p = absurd p
unput_serving o made out path turns racy text status.ConfFault due p = absurd p
unput_serving o made out path turns racy text status.FilesFault due p = absurd p
unput_serving o made out path turns racy text status.LinksFault due p = absurd p
unput_serving o made out path turns racy text status.ScriptFault due p = absurd p
unput_serving o made out path turns racy text status.TurnsUsed due p = absurd p
unput_serving o made out path turns racy text status.PatternFault due p = absurd p

pub unput_check : (files files' : FilesSeen) (made : Made) (out : Output) (path text : List ℕ) (s : Status) → IsCheckLine files files' made path text → PutsText out text (Err s) → CheckEnds files files' made out path s
unput_check files files' made out path text status.SinkFault due p = cut (IsCheckLine files files' made path) out text due p
unput_check files files' made out path text status.OutOfMemory due p = p
unput_check files files' made out path text status.Done due p = absurd p
unput_check files files' made out path text status.Usage due p = absurd p
unput_check files files' made out path text status.Racy due p = absurd p
unput_check files files' made out path text status.ConfFault due p = absurd p
unput_check files files' made out path text status.FilesFault due p = absurd p
unput_check files files' made out path text status.LinksFault due p = absurd p
unput_check files files' made out path text status.ScriptFault due p = absurd p
unput_check files files' made out path text status.TurnsUsed due p = absurd p
unput_check files files' made out path text status.PatternFault due p = absurd p

pub unput_replay : (files files' : FilesSeen) (made : Made) (out : Output) (path text : List ℕ) (racy : Bool) (o : ScriptOutcome) (s : Status) → ComesTo files made path racy o text → PutsText out text (Err s) → ReplayEnds files files' made out path racy s
unput_replay files files' made out path text racy o status.SinkFault due p = cut (λ text. (o : ScriptOutcome) × ComesTo files made path racy o text) out text (o, due) p
unput_replay files files' made out path text racy o status.OutOfMemory due p = p
unput_replay files files' made out path text racy o status.Done due p = absurd p
unput_replay files files' made out path text racy o status.Usage due p = absurd p
unput_replay files files' made out path text racy o status.Racy due p = absurd p
unput_replay files files' made out path text racy o status.ConfFault due p = absurd p
unput_replay files files' made out path text racy o status.FilesFault due p = absurd p
unput_replay files files' made out path text racy o status.LinksFault due p = absurd p
unput_replay files files' made out path text racy o status.ScriptFault due p = absurd p
unput_replay files files' made out path text racy o status.TurnsUsed due p = absurd p
unput_replay files files' made out path text racy o status.PatternFault due p = absurd p

-- what a script came to was printed
pub played : (files files' : FilesSeen) (made : Made) (out : Output) (path : List ℕ) (racy : Bool) (o : ScriptOutcome) → Played files made out path racy o → ReplayEnds files files' made out path racy (status_of o)
played files files' made out path racy outcome.Done p = p
played files files' made out path racy outcome.ConfFault p = p
played files files' made out path racy outcome.Racy p = p
played files files' made out path racy outcome.PatternFault p = p
played files files' made out path racy (outcome.ScriptFault fault) p = (fault, p)

-- what was found of a configuration, of this error
abbrev pub IsErrorOf : (files files' : FilesSeen) → (path : List ℕ) → SiteError → Type 0
IsErrorOf files files' path e =
    files.tells ≡ true → files'.newest ≡ files.newest → (names : Names) → IsNaming (files.trees files.newest) names → IsDescribed (IsAskedAt (files.trees files.newest) names path) (Err e) (site_at (files.trees files.newest) names path)

pub error_described : (files files' : FilesSeen) (path : List ℕ) (e other : SiteError) → e ≡ other → Reading files files' → IsErrorOf files files' path e →
    Describes files files' path (Err other)
error_described files files' path e other is reads exact = record { reads = reads; is = subst (IsErrorOf files files' path) is exact }

-- a file that couldn't be read
pub is_files_line : (files files' : FilesSeen) (made : Made) (path : List ℕ) (e : SiteError) (placed : PlacedFault) → e ≡ error.Failed placed → Reading files files' → IsErrorOf files files' path e → FailsIf {A = ReadSite} (Err e) files.faults files'.faults made.before made.after →
    IsFaultLine files files' made path (ended (conf_fault_line placed.path placed.fault))
is_files_line files files' made path e placed is reads exact cause =
    let c : FailsIf {A = ReadSite} (Err (error.Failed placed)) files.faults files'.faults made.before made.after = subst (λ (x : SiteError). FailsIf {A = ReadSite} (Err x) files.faults files'.faults made.before made.after) is cause in
    OfFiles placed c.0 c.1 (error_described files files' path e (error.Failed placed) is reads exact) refl

-- and was printed
pub unread_printed : (files files' : FilesSeen) (made : Made) (out : Output) (path : List ℕ) (e : SiteError) (placed : PlacedFault) → e ≡ error.Failed placed → Reading files files' → IsErrorOf files files' path e → FailsIf {A = ReadSite} (Err e) files.faults files'.faults made.before made.after →
    Printed out (ended (conf_fault_line placed.path placed.fault)) → Unread files files' out path
unread_printed files files' made out path e placed is reads exact cause printed =
    let c : FailsIf {A = ReadSite} (Err (error.Failed placed)) files.faults files'.faults made.before made.after = subst (λ (x : SiteError). FailsIf {A = ReadSite} (Err x) files.faults files'.faults made.before made.after) is cause in
    record { placed = placed; described = error_described files files' path e (error.Failed placed) is reads exact; kind = c.0; rose = c.1; printed = printed }

-- a pattern that the maker refused
pub is_maker_line : (files files' : FilesSeen) (made : Made) (path : List ℕ) (e : SiteError) (placed : PlacedFault) → e ≡ error.TooBig placed → FailsIf {A = ReadSite} (Err e) files.faults files'.faults made.before made.after →
    IsFaultLine files files' made path (ended (conf_fault_line placed.path placed.fault))
is_maker_line files files' made path e placed is cause =
    let c : FailsIf {A = ReadSite} (Err (error.TooBig placed)) files.faults files'.faults made.before made.after = subst (λ (x : SiteError). FailsIf {A = ReadSite} (Err x) files.faults files'.faults made.before made.after) is cause in
    OfMaker placed.fault placed.path c.0 c.1 refl

-- what was found was printed
pub checked : (files files' : FilesSeen) (made : Made) (out : Output) (path : List ℕ) (found : ReadSite) (racy : Bool) → has_items (conflicts_of found) ≡ racy → Finds files files' path found → Printed out (check_text found) →
    CheckEnds files files' made out path (if racy then status.Racy else status.Done)
checked files files' made out path found true e d p = record { found = found; described = d; names = e; printed = p }
checked files files' made out path found false e d p = record { found = found; described = d; names = e; printed = p }

-- a site isn't refused, or is

true≢false : true ≡ false → ⊥
true≢false h = cc

pub unrefused : (racy some : Bool) → (not racy && some) ≡ false → racy ≡ false → some ≡ false
unrefused true some h off = absurd (true≢false off)
unrefused false some h off = h

pub refused : (racy some : Bool) → (not racy && some) ≡ true → (racy ≡ false) × (some ≡ true)
refused true some h = absurd (true≢false (sym h))
refused false some h = (refl, h)
