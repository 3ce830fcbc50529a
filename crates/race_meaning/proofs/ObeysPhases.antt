-- The phases of a request obey: what their values read is kept, and an auth subrequest is all that they ask for.
use Rattle.std.proofs.Common.{◌≡◌, ℕ, zero, suc, ◌&&◌, ◌||◌, not, Bool, true, false, List, [], ◌∷◌, ◌++◌, Option, None, Some, find, refl, subst, if◌then◌else◌}
use Rattle.std.specs.List.{list_any}
use Rattle.file_tree.specs.Tree.{Item}
use Rattle.acts.specs.Vars.{Vars}
use Rattle.acts.specs.Act.{Done, Write, ◌>>=◌}
use Rattle.family_meaning.specs.file_path.Located.{Located}
use Rattle.family_meaning.specs.file_path.Located.Located.{TooLong, NotThere, At}
use Rattle.http_types.specs.declared.words.Method.{Method}
use Rattle.ngx_variables.specs.declared.request.Main.{Main}
use Rattle.ngx_variables.specs.declared.request.FileRoot.{FileRoot}
use Rattle.ngx_variables.specs.declared.request.Request.{Request}
use Rattle.ngx_variables.specs.declared.request.Role.{Role}
use Rattle.ngx_variables.specs.declared.request.Role.TheVariants.{Auth}
use Rattle.ngx_variables.specs.Paths.{text_of}
use Rattle.static_content.specs.Content.{refusal_of}
use Rattle.family_meaning.specs.site_views.Values.{Values, Text, IndexName, Tries, LastTry, Shown, PageRule, PageTarget}
use Rattle.family_meaning.specs.site_views.Values.LastTry.{ToPath, ToLocation, ToCode}
use Rattle.family_meaning.specs.site_views.Values.PageTarget.{AtPath, AtLocation, AtUrl}
use Rattle.access_rules.specs.Rule.{decision}
use Rattle.family_meaning.specs.site_views.Rewrites.FileTest.{IsFile}
use Rattle.family_meaning.specs.site_views.Views.{LevelView}
use Rattle.family_meaning.specs.site_views.Search.{Found, search, named}
use Rattle.family_meaning.specs.request_meaning.Serving.{World, Serving, Asked, Standing, Answer, Prepared, From, is_main, is_main_role, writes}
use Rattle.family_meaning.specs.request_meaning.Serving.From.{Start, Find, Named}
use Rattle.family_meaning.specs.request_meaning.Serving.Body.{NoBody, Plain}
use Rattle.family_meaning.specs.request_meaning.Cuts.{Target}
use Rattle.family_meaning.specs.request_meaning.Rewriting.{passes, Passed, Ran, with_groups, in_level, program_run}
use Rattle.family_meaning.specs.request_meaning.Rewriting.Ran.{Ends, Returns, Redirects, Drops, Breaks}
use Rattle.family_meaning.specs.request_meaning.Answering
use Rattle.family_meaning.specs.request_meaning.Answering.{page, has_no_body, moved, closed, sent, sends_nothing, facts_of, body_sent, answer_with}
use Rattle.family_meaning.specs.request_meaning.Errors.{Decided, decided, Outcome, Next, main_with, page_method, page_at, page_moved, error_page, by_rule, closing, may_apply, rule_for, failed, outcome_next}
use Rattle.family_meaning.specs.request_meaning.Errors.Outcome.{Text as TextOutcome, File, Fails, Gives, Moves, Closes, Seeks, GoesTo, GoesToNamed}
use Rattle.family_meaning.specs.request_meaning.Errors.Next.{Answered, Changed}
use Rattle.family_meaning.specs.request_meaning.Access.{Verdict, set_fit, sets, auth_verdict, is_said, verdict}
use Rattle.family_meaning.specs.request_meaning.Access.Verdict.{LetsIn, Denies}
use Rattle.family_meaning.specs.request_meaning.Contents.{item_at, item, with_item, with_text, file, no_index, goes_to, index_at, index_name, indexed, by_method, content, with_path, last_try, is_found, try_at, try_name, tried, by_tries, precontent}
use Rattle.family_meaning.specs.request_meaning.Phases.{after_program, by_verdict, access, in_location, is_too_large, entered, located, find_config, standing, at_named, phases_from, round, until, rounds}
use Rattle.family_meaning.specs.request_meaning.Bodies
use Rattle.family_meaning.specs.request_meaning.Bodies.{body, written, filtered_marks}
use Rattle.family_meaning.specs.request_meaning.Documents.{begun}
use Rattle.family_meaning.specs.request_meaning.Laws.{AllBlocks}
use Rattle.race_meaning.specs.Reads.{in_text, in_tries, in_last, in_target, in_values}
use Rattle.race_meaning.specs.Steady.{Names, Rules}
use Rattle.race_meaning.proofs.Obeying
use Rattle.race_meaning.proofs.Obeying.{or_left, or_right, covers_same, from_done, from_put, from_stat, from_call, from_write, from_bind, from_if, anything, Known, KnownPlace, known_text, from_fit_value, from_target, from_located}
use Rattle.race_meaning.proofs.ObeysPrograms
use Rattle.race_meaning.proofs.ObeysPrograms.{AllSets, SetFits, EachPrivate, from_program}

-- a level whose values are fit, and whose program too
pub record LevelFits (kept fixed : Names) (value : Main → List ℕ → Option (List ℕ)) (V : Values → Type 0) (M : Main → Type 0) (level : LevelView) : Type 0 where
  pub values : V level.values
  pub blocks : AllBlocks V level.program
  pub private : EachPrivate kept (λ name. false) 0 level.program
  pub sets : AllSets (SetFits fixed value M) level.program

abbrev pub AllAuthSets : (List ℕ → Type 0) → List (List ℕ × Text) → Type 0
AllAuthSets P [] = Unit {0}
AllAuthSets P (s ∷ others) = P s.0 × AllAuthSets P others

-- what a request may ask of access: an auth subrequest may be asked for, every variable may be read, and none that is fixed is set
pub record AuthFits (kept fixed : Names) (asks : Role → Bool) (v : Values) : Type 0 where
  pub asked : asks Auth ≡ true
  pub known : (name : List ℕ) → kept name ≡ true
  pub sets : AllAuthSets (λ name. fixed name ≡ false) v.auth_sets

-- What is asked of a server and of the body filters: R is so of the request's role, V of the values of all levels, T of the
-- place of files, M of the main request, and Fits of a body that is written for it.
pub record Fit (w : World) (left : ℕ) (kept fixed : Names) (value : Main → List ℕ → Option (List ℕ)) (asks : Role → Bool)
    (R : Role → Type 0) (V : Values → Type 0) (T : Option FileRoot → Type 0) (M : Main → Type 0) (Fits : Main → Serving (Unit {0}) → Type 0) : Type 0 where
  pub place_has : (v : Values) → V v → T (Some v.place)
  pub place_known : (o : Option FileRoot) → T o → KnownPlace kept o
  pub reads : (v : Values) → V v → (name : List ℕ) → in_values name v ≡ true → kept name ≡ true
  pub auths : (r : Role) (v : Values) → R r → V v → is_main_role r ≡ true → AuthFits kept fixed asks v
  pub page_main : (r : Role) (main : Main) (method : Method) → R r → M main → M (main_with (is_main_role r) main method)
  pub own : LevelFits kept fixed value V M w.server.level
  pub found : (path : List ℕ) (f : Found) → search w.finds w.server.locations path ≡ Some f → LevelFits kept fixed value V M f.level
  pub names : (name : List ℕ) (l : LevelView) → named w.server name ≡ Some l → LevelFits kept fixed value V M l
  pub done : (main : Main) → Fits main (Done tt)
  pub written : (main : Main) (bytes : List ℕ) → Fits main (writes bytes)
  pub body : (main : Main) (s : Standing) (status : ℕ) (kind bytes : List ℕ) (ssi : Vars) → M main → R s.request.role → V s.values → T s.request.place → has_no_body main s.request ≡ false →
      Fits main (Write [] (Bodies.body w (begun main s.request s.values left ssi) (filtered_marks w (facts_of s status kind) bytes)))

module _ {w : World} {left : ℕ} {kept fixed : Names} {value : Main → List ℕ → Option (List ℕ)} {asks : Role → Bool}
    {R : Role → Type 0} {V : Values → Type 0} {T : Option FileRoot → Type 0} {M : Main → Type 0} {Fits : Main → Serving (Unit {0}) → Type 0}
    (fit : Fit w left kept fixed value asks R V T M Fits)
  where
    abbrev rules : Main → Rules
    rules main = record { kept = kept; fixed = fixed; value = value main; main = main; asks = asks }

    abbrev Good : {A : Type 0} → Main → (A → Type 0) → Serving A → Type 0
    Good main post m = Obeying.From (rules main) kept post m

    abbrev Ok : Standing → Type 0
    Ok s = R s.request.role × (V s.values × T s.request.place)

    abbrev OkRan : Ran → Type 0
    OkRan r = ObeysPrograms.OkRan w kept fixed value asks R V T M fit.place_has fit.place_known r

    abbrev OkDecided : Decided → Type 0
    OkDecided d = Ok d.at

    abbrev OkFrom : From → Type 0
    OkFrom Start = Unit {0}
    OkFrom Find = Unit {0}
    OkFrom (Named values name) = V values

    abbrev pub OkAsked : Asked → Type 0
    OkAsked a = R a.request.role × (OkFrom a.from × M a.main)

    abbrev pub OkPrepared : Main → Prepared → Type 0
    OkPrepared main p = (ssi : Vars) → Fits main (written w left ssi p.answer p.body)

    -- a round that begins elsewhere than at the server's program has the main request as it was
    abbrev pub SameMain : Main → Main → From → Type 0
    SameMain main other Start = Unit {0}
    SameMain main other Find = other ≡ main
    SameMain main other (Named values name) = other ≡ main

    abbrev pub OkNext : Main → Next → Type 0
    OkNext main (Answered p) = OkPrepared main p
    OkNext main (Changed s a) = Ok s × (OkAsked a × SameMain main a.main a.from)

    -- ---- texts of the level

    in_place : (s : Standing) → Ok s → KnownPlace kept s.request.place
    in_place s h = fit.place_known s.request.place h.1.1

    place_text : (v : Values) → V v → Known kept (text_of v.place)
    place_text v h = fit.place_known (Some v.place) (fit.place_has v h)

    -- ---- files

    good_item_at : (main : Main) (l : Located) → Good main anything (item_at l)
    good_item_at main TooLong = from_done _ tt
    good_item_at main NotThere = from_done _ tt
    good_item_at main (At path) = from_stat (λ i. from_done _ tt)

    good_item : (main : Main) (s : Standing) (uri : List ℕ) → Ok s → Good main anything (item main s uri)
    unfolding item
    good_item main s uri h = from_bind (from_located main s.request s.values.place uri (place_text s.values h.1.0) (in_place s h)) (λ l _. good_item_at main l)

    good_with_item : (main : Main) (s : Standing) (o : Option Item) (k : Item → Serving Decided) → Ok s → ((i : Item) → Good main OkDecided (k i)) → Good main OkDecided (with_item s o k)
    good_with_item main s None k h f = from_done _ h
    good_with_item main s (Some i) k h f = f i

    good_with_text : {A : Type 0} (main : Main) (s : Standing) (o : Option A) (k : A → Serving Decided) → Ok s → ((a : A) → Good main OkDecided (k a)) → Good main OkDecided (with_text s o k)
    good_with_text main s None k h f = from_done _ h
    good_with_text main s (Some a) k h f = f a

    good_file : (main : Main) (s : Standing) → Ok s → Good main OkDecided (file main s)
    unfolding file
    good_file main s h = from_bind (good_item main s s.request.path h) (λ i _. good_with_item main s i _ h (λ i. from_done _ h))

    good_no_index : (main : Main) (s : Standing) → Ok s → Good main OkDecided (no_index main s)
    unfolding no_index
    good_no_index main s h = from_bind (good_item main s s.request.path h) (λ i _. good_with_item main s i _ h (λ i. from_done _ h))

    either : {A : Type 0} {main : Main} {post : A → Type 0} (b : Bool) (m n : Serving A) → Good main post m → Good main post n → Good main post (if b then m else n)
    either true m n h g = h
    either false m n h g = g

    good_index_at : (main : Main) (s : Standing) (path : List ℕ) (i : Item) (others : Serving Decided) → Ok s → Good main OkDecided others → Good main OkDecided (index_at s path i others)
    good_index_at main s path i others h g = either (passes IsFile i) (goes_to s path) others (from_done _ h) g

    good_try_at : (main : Main) (s : Standing) (name : List ℕ) (i : Item) (others : Serving Decided) → Good main OkDecided (content main (with_path name s)) → Good main OkDecided others → Good main OkDecided (try_at main s name i others)
    good_try_at main s name i others h g = either (is_found name i) (content main (with_path name s)) others h g

    good_index_name : (main : Main) (s : Standing) (is_path : Bool) (name : List ℕ) (others : Serving Decided) → Ok s → Good main OkDecided others → Good main OkDecided (index_name main s is_path name others)
    unfolding index_name
    good_index_name main s is_path name others h g =
        from_if is_path (λ _. from_done _ h)
        (λ _. from_bind (good_item main s (s.request.path ++ name) h) (λ i _. good_with_item main s i _ h (λ i. good_index_at main s (s.request.path ++ name) i others h g)))

    abbrev InIndex : List ℕ → List IndexName → Bool
    InIndex name names = list_any (λ (i : IndexName). in_text name i.text) names

    good_indexed : (main : Main) (s : Standing) (names : List IndexName) → ((name : List ℕ) → InIndex name names ≡ true → kept name ≡ true) → Ok s → Good main OkDecided (indexed main s names)
    unfolding indexed
    good_indexed main s [] f h = good_no_index main s h
    good_indexed main s (n ∷ names) f h =
        from_bind (from_fit_value main s.request n.text (known_text kept n.text (λ name e. f name (or_left (in_text name n.text) (InIndex name names) e))) (in_place s h)) (λ name _.
        good_with_text main s name _ h (λ name.
        good_index_name main s n.is_path name (indexed main s names) h (good_indexed main s names (λ name e. f name (or_right (in_text name n.text) (InIndex name names) e)) h)))

    -- what a level's values read is kept
    abbrev InPages : List ℕ → List PageRule → Bool
    InPages name pages = list_any (λ (r : PageRule). in_target name r.target) pages

    abbrev InAuths : List ℕ → List (List ℕ × Text) → Bool
    InAuths name sets = list_any (λ (s : List ℕ × Text). in_text name s.1) sets

    index_kept : (v : Values) → V v → (name : List ℕ) → InIndex name v.index ≡ true → kept name ≡ true
    unfolding in_values
    index_kept v h name e = fit.reads v h name (or_left ((((in_text name (text_of v.place)) || (InIndex name v.index)) || (in_tries name v.tries)) || (InPages name v.pages)) (InAuths name v.auth_sets) (or_left (((in_text name (text_of v.place)) || (InIndex name v.index)) || (in_tries name v.tries)) (InPages name v.pages) (or_left ((in_text name (text_of v.place)) || (InIndex name v.index)) (in_tries name v.tries) (or_right (in_text name (text_of v.place)) (InIndex name v.index) e))))

    tries_kept : (v : Values) → V v → (name : List ℕ) → in_tries name v.tries ≡ true → kept name ≡ true
    unfolding in_values
    tries_kept v h name e = fit.reads v h name (or_left ((((in_text name (text_of v.place)) || (InIndex name v.index)) || (in_tries name v.tries)) || (InPages name v.pages)) (InAuths name v.auth_sets) (or_left (((in_text name (text_of v.place)) || (InIndex name v.index)) || (in_tries name v.tries)) (InPages name v.pages) (or_right ((in_text name (text_of v.place)) || (InIndex name v.index)) (in_tries name v.tries) e)))

    pages_kept : (v : Values) → V v → (name : List ℕ) → InPages name v.pages ≡ true → kept name ≡ true
    unfolding in_values
    pages_kept v h name e = fit.reads v h name (or_left ((((in_text name (text_of v.place)) || (InIndex name v.index)) || (in_tries name v.tries)) || (InPages name v.pages)) (InAuths name v.auth_sets) (or_right (((in_text name (text_of v.place)) || (InIndex name v.index)) || (in_tries name v.tries)) (InPages name v.pages) e))

    good_by_method : (main : Main) (s : Standing) (code : Option ℕ) → Ok s → Good main OkDecided (by_method main s code)
    good_by_method main s (Some code) h = from_done _ h
    good_by_method main s None h = from_if _ (λ _. good_indexed main s s.values.index (index_kept s.values h.1.0) h) (λ _. good_file main s h)

    good_content : (main : Main) (s : Standing) → Ok s → Good main OkDecided (content main s)
    unfolding content
    good_content main s h = good_by_method main s (refusal_of s.request.method) h

    good_last_try : (main : Main) (s : Standing) (last : LastTry) → ((name : List ℕ) → in_last name last ≡ true → kept name ≡ true) → Ok s → Good main OkDecided (last_try main s last)
    unfolding last_try
    good_last_try main s (ToPath text) f h = from_bind (from_target main s.request text (known_text kept text f) (in_place s h)) (λ t _. good_with_text main s t _ h (λ t. from_done _ h))
    good_last_try main s (ToLocation name) f h = from_done _ h
    good_last_try main s (ToCode code) f h = from_done _ h

    good_try_name : (main : Main) (s : Standing) (name : List ℕ) (others : Serving Decided) → Ok s → Good main OkDecided others → Good main OkDecided (try_name main s name others)
    unfolding try_name
    good_try_name main s name others h g =
        from_bind (good_item main s name h) (λ i _. good_with_item main s i _ h (λ i. good_try_at main s name i others (good_content main (with_path name s) h) g))

    good_tried : (main : Main) (s : Standing) (names : List Text) (last : LastTry) → ((name : List ℕ) → (list_any (in_text name) names || in_last name last) ≡ true → kept name ≡ true) → Ok s → Good main OkDecided (tried main s names last)
    unfolding tried
    good_tried main s [] last f h = good_last_try main s last f h
    good_tried main s (n ∷ names) last f h =
        from_bind (from_fit_value main s.request n (known_text kept n (λ name e. f name (or_left (in_text name n || list_any (in_text name) names) (in_last name last) (or_left (in_text name n) (list_any (in_text name) names) e)))) (in_place s h)) (λ name _.
        good_with_text main s name _ h (λ name. good_try_name main s name (tried main s names last) h (good_tried main s names last
        (λ other e. f other (more (in_text other n) (list_any (in_text other) names) (in_last other last) e)) h)))
      where
        more : (a b c : Bool) → (b || c) ≡ true → ((a || b) || c) ≡ true
        more true b c e = refl
        more false b c e = e

    good_by_tries : (main : Main) (s : Standing) (tries : Option Tries) → ((name : List ℕ) → in_tries name tries ≡ true → kept name ≡ true) → Ok s → Good main OkDecided (by_tries main s tries)
    good_by_tries main s None f h = good_content main s h
    good_by_tries main s (Some t) f h = good_tried main s t.names t.last f h

    good_precontent : (main : Main) (s : Standing) → Ok s → Good main OkDecided (precontent main s)
    unfolding precontent
    good_precontent main s h = good_by_tries main s s.values.tries (tries_kept s.values h.1.0) h

    -- ---- access

    all_known : (text : Text) → ((name : List ℕ) → kept name ≡ true) → Known kept text
    all_known text f = known_text kept text (λ name e. f name)

    all_place : (place : Option FileRoot) → ((name : List ℕ) → kept name ≡ true) → KnownPlace kept place
    all_place None f = tt
    all_place (Some place) f = all_known (text_of place) f

    unfixed : {B : Type 0} (b : Bool) → b ≡ false → b ≡ true → B
    unfixed true h e = cc
    unfixed false h e = cc

    good_set_fit : (main : Main) (name : List ℕ) (text : Option (List ℕ)) (others : Serving Bool) → fixed name ≡ false → Good main anything others → Good main anything (set_fit name text others)
    unfolding ◌>>=◌
    good_set_fit main name None others e g = from_done _ tt
    good_set_fit main name (Some text) others e g = from_put (λ q. unfixed (fixed name) e q) g

    good_sets : (main : Main) (request : Request) (list : List (List ℕ × Text)) → ((name : List ℕ) → kept name ≡ true) → AllAuthSets (λ name. fixed name ≡ false) list → Good main anything (sets main request list)
    unfolding sets
    good_sets main request [] f a = from_done _ tt
    good_sets main request (s ∷ others) f a =
        from_bind (from_fit_value main request s.1 (all_known s.1 f) (all_place request.place f)) (λ text _. good_set_fit main s.0 text (sets main request others) a.0 (good_sets main request others f a.1))

    good_auth_verdict : (main : Main) (values : Values) (denied : Bool) (path : Option (List ℕ)) → AuthFits kept fixed asks values → Good main anything (auth_verdict main values denied path)
    unfolding auth_verdict
    good_auth_verdict main values denied None a = from_done _ tt
    good_auth_verdict main values denied (Some path) a =
        from_bind {mid = anything} (from_call (a.asked, refl) (λ r. from_done _ tt)) (λ reply _. from_bind (good_sets main reply.answer.request values.auth_sets a.known a.sets) (λ fit _. from_done _ tt))

    good_verdict : (main : Main) (values : Values) → AuthFits kept fixed asks values → Good main anything (verdict main values)
    unfolding verdict
    good_verdict main values a =
        let said = decision values.rules main.peer.ip in
        let asked : Serving Verdict = auth_verdict main values (is_said said false) values.auth in
        let denies = is_said said false && (if values.any then false else true) in
        either (is_said said true && values.any) (Done LetsIn) (if denies then Done (Denies 403) else asked) (from_done _ tt)
        (either denies (Done (Denies 403)) asked (from_done _ tt) (good_auth_verdict main values (is_said said false) values.auth a))

    good_by_verdict : (a : Asked) (s : Standing) (v : Verdict) → Ok s → Good a.main OkDecided (by_verdict a s v)
    good_by_verdict a s LetsIn h = good_precontent a.main s h
    good_by_verdict a s (Denies code) h = from_done _ h

    good_access : (a : Asked) (s : Standing) → Ok s → Good a.main OkDecided (access a s)
    unfolding access
    good_access a s h =
        from_if (is_main s.request)
        (λ is. from_bind (good_verdict a.main s.values (fit.auths s.request.role s.values h.0 h.1.0 is)) (λ v _. good_by_verdict a s v h))
        (λ _. good_precontent a.main s h)

    -- ---- locations

    pub good_after : (a : Asked) (at_server : Bool) (r : Ran) (k : Passed → Serving Decided) → OkRan r → ((p : Passed) → Ok p.at → Good a.main OkDecided (k p)) → Good a.main OkDecided (after_program at_server r k)
    good_after a at_server (Ends p) k h f = f p h
    good_after a at_server (Returns s code text) k h f = from_done _ h
    good_after a at_server (Redirects s code to) k h f = from_done _ h
    good_after a at_server (Drops s) k h f = from_done _ h
    good_after a at_server (Breaks s first) k h f = from_done _ h

    good_program : (main : Main) → M main → (level : LevelView) (s : Standing) → LevelFits kept fixed value V M level → Ok s → Good main OkRan (program_run w main level.program s)
    good_program main m level s l h = from_program w kept fixed value asks R V T M fit.place_has fit.place_known main m level.program s l.private l.sets l.blocks h

    good_in_location : (a : Asked) (level : LevelView) (s : Standing) → M a.main → LevelFits kept fixed value V M level → R s.request.role → Good a.main OkDecided (in_location w a level s)
    unfolding in_location
    good_in_location a level s m l r =
        from_bind (good_program a.main m level (in_level level.values s) l (r, (l.values, fit.place_has level.values l.values)))
        (λ ran h. good_after a false ran _ h (λ p hp. either p.seeks (Done (decided p.at Seeks)) (access a p.at) (from_done _ hp) (good_access a p.at hp)))

    good_entered : (a : Asked) (values : Values) (s : Standing) (k : Serving Decided) → V values → R s.request.role → Good a.main OkDecided k → Good a.main OkDecided (entered w a values s k)
    unfolding entered
    good_entered a values s k v r g =
        let large : Serving Decided = Done (decided (in_level values s) (Fails 413)) in
        either (values.internal && not s.inside) (Done (decided (in_level values s) (Fails 404))) (if is_too_large w s.request values then large else k) (from_done _ (r, (v, fit.place_has values v)))
        (either (is_too_large w s.request values) large k (from_done _ (r, (v, fit.place_has values v))) g)

    grouped : (groups : Option (List (List ℕ))) (request : Request) → R request.role → R (with_groups groups request).role
    grouped None request h = h
    grouped (Some groups) request h = h

    good_located_level : (a : Asked) (s : Standing) (f : Option Found) → M a.main → ((g : Found) → f ≡ Some g → LevelFits kept fixed value V M g.level) → R s.request.role → Good a.main OkDecided (located w a s f)
    unfolding located
    good_located_level a s None m l r = good_entered a w.server.level.values s _ fit.own.values r (good_access a (in_level w.server.level.values s) (r, (fit.own.values, fit.place_has w.server.level.values fit.own.values)))
    good_located_level a s (Some f) m l r =
        let s' = record s { request = with_groups f.groups s.request } in
        good_entered a f.level.values s' _ (l f refl).values (grouped f.groups s.request r) (good_in_location a f.level s' m (l f refl) (grouped f.groups s.request r))

    pub good_find_config : (a : Asked) (s : Standing) → M a.main → R s.request.role → Good a.main OkDecided (find_config w a s)
    unfolding find_config
    good_find_config a s m r = good_located_level a s (search w.finds w.server.locations s.request.path) m (λ g e. fit.found s.request.path g e) r

    good_at_named : (a : Asked) (values : Values) (l : Option LevelView) → M a.main → ((level : LevelView) → l ≡ Some level → LevelFits kept fixed value V M level) → R a.request.role → V values → Good a.main OkDecided (at_named w a values l)
    good_at_named a values None m l r v = from_done _ (r, (v, fit.place_has values v))
    good_at_named a values (Some level) m l r v = good_in_location a level (standing a values) m (l level refl) r

    pub good_phases : (a : Asked) (from : From) → M a.main → R a.request.role → OkFrom from → Good a.main OkDecided (phases_from w a from)
    unfolding phases_from
    good_phases a Start m r o =
        from_bind (good_program a.main m w.server.level (standing a w.server.level.values) fit.own (r, (fit.own.values, fit.place_has w.server.level.values fit.own.values)))
        (λ ran h. good_after a true ran _ h (λ p hp. good_find_config a p.at m hp.0))
    good_phases a Find m r o = good_find_config a (standing a w.server.level.values) m r
    good_phases a (Named values name) m r o = good_at_named a values (named w.server name) m (λ level e. fit.names name level e) r o

    -- ---- answers

    good_made : (main : Main) (nothing : Bool) (answer : Answer) (bytes : List ℕ) → OkPrepared main (record { answer = answer; body = if nothing then NoBody else Plain bytes })
    unfolding written
    good_made main true answer bytes ssi = fit.done main
    good_made main false answer bytes ssi = fit.written main bytes

    no_body : (a b : Bool) → (a || b) ≡ false → b ≡ false
    no_body true b e = cc
    no_body false b e = e

    ok_sent_by : (a : Asked) (s : Standing) (nothing filtered : Bool) (status shown : ℕ) (kind bytes : List ℕ) (filters : Bool) (date : Option ℕ) → (nothing ≡ false → has_no_body a.main s.request ≡ false) → M a.main → Ok s →
        OkPrepared a.main (record { answer = answer_with a s status kind filters bytes date; body = body_sent nothing filtered (facts_of s shown kind) bytes })
    unfolding written answer_with
    ok_sent_by a s true filtered status shown kind bytes filters date n m h ssi = fit.done a.main
    ok_sent_by a s false true status shown kind bytes filters date n m h ssi = fit.body a.main s shown kind bytes ssi m h.0 h.1.0 h.1.1 (n refl)
    ok_sent_by a s false false status shown kind bytes filters date n m h ssi = fit.written a.main bytes

    ok_page : (a : Asked) (s : Standing) (code : ℕ) (to : Option (List ℕ)) → OkPrepared a.main (Answering.page_to a s code to)
    unfolding Answering.page_to
    ok_page a s code to = good_made a.main (has_no_body a.main s.request) _ _

    pub ok_plain_page : (a : Asked) (s : Standing) (code : ℕ) → OkPrepared a.main (page a s code)
    unfolding page
    ok_plain_page a s code = ok_page a s code None

    ok_moved : (a : Asked) (s : Standing) (code : ℕ) (to : Option (List ℕ)) → OkPrepared a.main (moved a s code to)
    unfolding moved
    ok_moved a s code to = ok_page a s code _

    ok_closed : (a : Asked) (s : Standing) → OkPrepared a.main (closed a s)
    unfolding written
    ok_closed a s ssi = fit.done a.main

    ok_sent : (a : Asked) (s : Standing) (own_code : ℕ) (bytes : List ℕ) (date : Option ℕ) → M a.main → Ok s → OkPrepared a.main (sent w a s own_code bytes date)
    unfolding sent
    ok_sent a s own_code bytes date m h = ok_sent_by a s _ _ _ _ _ bytes _ date (λ e. no_body _ (has_no_body a.main s.request) e) m h

    -- ---- errors and rounds

    abbrev some_target : Option PageRule → List ℕ → Bool
    some_target None name = false
    some_target (Some r) name = in_target name r.target

    good_error_page : (a : Asked) (s : Standing) (code : ℕ) (shown : Shown) (t : PageTarget) → ((name : List ℕ) → in_target name t ≡ true → kept name ≡ true) → M a.main → Ok s → Good a.main (OkNext a.main) (error_page a s code shown t)
    unfolding error_page
    good_error_page a s code shown (AtPath text) f m h = from_bind (from_target a.main s.request text (known_text kept text f) (in_place s h)) (λ t _. from_done _ (ok_page_at t))
      where
        ok_page_at : (t : Option Target) → OkNext a.main (page_at a s code shown t)
        ok_page_at None = ok_plain_page (closing a code) s 500
        ok_page_at (Some t) = (h, ((h.0, (tt, fit.page_main s.request.role a.main (page_method s.request.method) h.0 m)), tt))
    good_error_page a s code shown (AtLocation name) f m h = from_done _ (h, ((h.0, (h.1.0, m)), refl))
    good_error_page a s code shown (AtUrl text) f m h = from_bind (from_fit_value a.main s.request text (known_text kept text f) (in_place s h)) (λ to _. from_done _ (ok_page_moved to))
      where
        ok_page_moved : (to : Option (List ℕ)) → OkNext a.main (page_moved a s code shown to)
        ok_page_moved None = ok_plain_page (closing a code) s 500
        ok_page_moved (Some to) = ok_moved (closing a code) s _ (Some to)

    good_by_rule : (a : Asked) (s : Standing) (code : ℕ) (r : Option PageRule) → ((name : List ℕ) → some_target r name ≡ true → kept name ≡ true) → M a.main → Ok s → Good a.main (OkNext a.main) (by_rule a s code r)
    good_by_rule a s code None f m h = from_done _ (ok_plain_page a s code)
    good_by_rule a s code (Some r) f m h = good_error_page a s code r.shown r.target f m h

    -- the rule that is found is one of the level's
    found_in : (b : Bool) (r : PageRule) (o : Option PageRule) (name : List ℕ) (later : Bool) → (some_target o name ≡ true → later ≡ true) → some_target (if b then Some r else o) name ≡ true → (in_target name r.target || later) ≡ true
    found_in true r o name later f e = or_left (in_target name r.target) later e
    found_in false r o name later f e = or_right (in_target name r.target) later (f e)

    find_in : (pages : List PageRule) (test : PageRule → Bool) (name : List ℕ) → some_target (find test pages) name ≡ true → InPages name pages ≡ true
    find_in [] test name e = e
    find_in (r ∷ pages) test name e = found_in (test r) r (find test pages) name (InPages name pages) (find_in pages test name) e

    none_target : (b : Bool) (o : Option PageRule) (name : List ℕ) → some_target (if b then o else None) name ≡ true → some_target o name ≡ true
    none_target true o name e = e
    none_target false o name e = Obeying.no_false e

    rule_in : (pages : List PageRule) (code : ℕ) (name : List ℕ) → some_target (rule_for pages code) name ≡ true → InPages name pages ≡ true
    unfolding rule_for
    rule_in pages code name e = find_in pages _ name (none_target _ _ name e)

    good_failed : (changes : ℕ) (a : Asked) (s : Standing) (code : ℕ) → M a.main → Ok s → Good a.main (OkNext a.main) (failed changes a s code)
    unfolding failed
    good_failed changes a s code m h =
        good_by_rule a s code (if may_apply changes a s.values then rule_for s.values.pages code else None)
        (λ name e. pages_kept s.values h.1.0 name (rule_in s.values.pages code name (none_target (may_apply changes a s.values) (rule_for s.values.pages code) name e))) m h

    good_outcome : (changes : ℕ) (a : Asked) (s : Standing) (o : Outcome) → M a.main → Ok s → Good a.main (OkNext a.main) (outcome_next w changes a s o)
    unfolding outcome_next
    good_outcome changes a s (TextOutcome code bytes) m h = from_done _ (ok_sent a s code bytes None m h)
    good_outcome changes a s (File bytes date) m h = from_done _ (ok_sent a s 200 bytes (Some date) m h)
    good_outcome changes a s (Fails code) m h = good_failed changes a s code m h
    good_outcome changes a s (Gives code) m h = from_done _ (ok_plain_page a s code)
    good_outcome changes a s (Moves code to) m h = from_done _ (ok_moved a s code to)
    good_outcome changes a s Closes m h = from_done _ (ok_closed a s)
    good_outcome changes a s Seeks m h = from_done _ (h, ((h.0, (tt, m)), refl))
    good_outcome changes a s (GoesTo path args) m h = from_done _ (h, ((h.0, (tt, m)), tt))
    good_outcome changes a s (GoesToNamed name) m h = from_done _ (h, ((h.0, (h.1.0, m)), refl))

    pub good_decided : (changes : ℕ) (a : Asked) (d : Decided) → M a.main → OkDecided d → Good a.main (OkNext a.main) (outcome_next w changes a d.at d.outcome)
    good_decided changes a d m h = good_outcome changes a d.at d.outcome m h

    pub good_round : (changes : ℕ) (a : Asked) → OkAsked a → Good a.main (OkNext a.main) (round w changes a)
    unfolding round
    good_round changes a h = from_bind (good_phases a a.from h.1.1 h.0 h.1.0) (λ d hd. good_outcome changes a d.at d.outcome h.1.1 hd)

    -- ---- rounds in which the main request stays as it is

    module _ (same : (main other : Main) → M main → M other → other ≡ main) where
      good_until : (main : Main) (again : Standing → Asked → Serving Prepared) (next : Next) → OkNext main next → ((s : Standing) (b : Asked) → Ok s → OkAsked b → Good main (OkPrepared main) (again s b)) →
          Good main (OkPrepared main) (until again next)
      good_until main again (Answered p) h f = from_done _ h
      good_until main again (Changed s a) h f = f s a h.0 h.1.0

      as_main : {A : Type 0} (P : Main → A → Type 0) (main other : Main) (m : Serving A) → main ≡ other → Good main (P main) m → Good other (P other) m
      as_main P main other m e h = subst (λ x. Good x (P x) m) e h

      pub good_rounds : (changes : ℕ) (a : Asked) → OkAsked a → Good a.main (OkPrepared a.main) (rounds w changes a)
      unfolding rounds
      good_rounds zero a h =
          from_bind (good_round 0 a h) (λ next hn. good_until a.main _ next hn (λ s b hs hb.
          as_main OkPrepared b.main a.main (Done (page b s 500)) (same a.main b.main h.1.1 hb.1.1) (from_done _ (ok_plain_page b s 500))))
      good_rounds (suc changes) a h =
          from_bind (good_round (suc changes) a h) (λ next hn. good_until a.main _ next hn (λ s b hs hb.
          as_main OkPrepared b.main a.main (rounds w changes b) (same a.main b.main h.1.1 hb.1.1) (good_rounds changes b hb)))
