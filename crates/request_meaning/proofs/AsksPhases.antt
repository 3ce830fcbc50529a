-- What the phases of a request ask for: nothing but auth subrequests.
use Rattle.std.proofs.Common.{◌≡◌, ℕ, zero, suc, ◌==◌, ◌&&◌, not, Bool, true, false, List, [], ◌∷◌, ◌++◌, Option, None, Some, refl, if◌then◌else◌}
use Rattle.file_tree.specs.Tree.{Item}
use Rattle.acts.specs.Vars.{Vars}
use Rattle.acts.specs.Act.{Done}
use Rattle.file_path.specs.Located.{Located}
use Rattle.file_path.specs.Located.Located.{TooLong, NotThere, At}
use Rattle.file_path.specs.ngx_variables.declared.request.Main.{Main}
use Rattle.file_path.specs.ngx_variables.declared.request.Request.{Request}
use Rattle.file_path.specs.ngx_variables.declared.request.Role.{Role}
use Rattle.file_path.specs.ngx_variables.declared.request.FileRoot.TheVariants.{Whole}
use Rattle.file_path.specs.ngx_variables.Grammar.{begins_with}
use Rattle.file_path.specs.Located.{located as located_path}
use Rattle.static_content.specs.Content.{refusal_of}
use Rattle.site_views.specs.Pattern.{Span, groups_in}
use Rattle.site_views.specs.Values.{Values, Text, IndexName, Tries, LastTry, Shown, PageRule, PageTarget}
use Rattle.site_views.specs.Values.LastTry.{ToPath, ToLocation, ToCode}
use Rattle.site_views.specs.Values.PageTarget.{AtPath, AtLocation, AtUrl}
use Rattle.site_views.specs.Rewrites.{FileTest, Test, Flag, Directive, Program}
use Rattle.site_views.specs.Rewrites.FileTest.{IsFile}
use Rattle.access_rules.specs.Rule.{decision}
use Rattle.site_views.specs.Rewrites.Test.{IsSet, Equals, Matches, OnFile}
use Rattle.site_views.specs.Rewrites.Flag.{NoFlag, Last, Break, Redirect, Permanent}
use Rattle.site_views.specs.Rewrites.Directive.{Set, If, Rewrite, Return, Stop}
use Rattle.site_views.specs.Views.{LevelView}
use Rattle.site_views.specs.Search.{Found, search, named}
use Rattle.request_meaning.specs.Serving.{World, Serving, Child, Asked, Standing, Answer, Prepared, From, is_main, is_main_role}
use Rattle.request_meaning.specs.Serving.From.{Start, Find, Named}
use Rattle.request_meaning.specs.Serving.Body.{NoBody, Plain}
use Rattle.request_meaning.specs.Cuts.{Target, rewritten_args, ends_in_question}
use Rattle.request_meaning.specs.Rewriting.{passes, Tested, asked_at, test_at, tested, Passed, Ran, Step, with_groups, matched, in_level, in_block, set_step, if_step, is_redirect, return_step, return_text, returned, rewrite_moves, rewrite_goes, is_moved, move_code, rewrite_to, rewrite_step, step, stays_first, on, rewritten, begins_at, program_run}
use Rattle.request_meaning.specs.Rewriting.Tested.{Says, Unfit}
use Rattle.request_meaning.specs.Rewriting.Ran.{Ends, Returns, Redirects, Drops, Breaks}
use Rattle.request_meaning.specs.Rewriting.Step.{Goes, Stops}
use Rattle.request_meaning.specs.Answering
use Rattle.request_meaning.specs.Answering.{page, page_body, has_no_body, moved, closed, sent, sends_nothing, facts_of, is_filtered, body_sent, answer_with}
use Rattle.request_meaning.specs.Errors.{Decided, decided, Outcome, Next, page_at, page_moved, error_page, by_rule, closing, failed, outcome_next}
use Rattle.request_meaning.specs.Errors.Outcome.{Text as TextOutcome, File, Fails, Gives, Moves, Closes, Seeks, GoesTo, GoesToNamed}
use Rattle.request_meaning.specs.Errors.Next.{Answered, Changed}
use Rattle.request_meaning.specs.Access.{Verdict, auth_child, set_fit, sets, auth_verdict, is_said, verdict}
use Rattle.request_meaning.specs.Access.Verdict.{LetsIn, Denies}
use Rattle.request_meaning.specs.Contents.{item_at, item, with_item, with_text, file, no_index, goes_to, index_at, index_name, indexed, by_method, content, with_path, last_try, is_found, try_at, try_name, tried, by_tries, precontent}
use Rattle.request_meaning.specs.Phases.{after_program, by_verdict, access, in_location, is_too_large, entered, located, find_config, standing, at_named, phases_from, round, until, rounds}
use Rattle.request_meaning.specs.Bodies.{body, written, filtered_marks}
use Rattle.request_meaning.specs.Documents.{begun}
use Rattle.request_meaning.specs.Laws.{anything, BlockHas, AllBlocks, LevelHas}
use Rattle.request_meaning.proofs.Asks.{Only, only_done, only_put, only_stat, only_call, only_write, only_bind, only_if, only_value, only_target, only_fit_value, only_located}

-- R is so of the request's role, V of the values of all levels; an auth subrequest may be asked for, and what the filters make
-- of a body asks for what may be asked for.
module _ (w : World) (left : ℕ) (P : Child → Type 0) (R : Role → Type 0) (V : Values → Type 0)
    (may_auth : (main : Main) (path : List ℕ) (r : Role) (v : Values) → R r → V v → is_main_role r ≡ true → v.auth ≡ Some path → P (auth_child main path))
    (own : LevelHas V w.server.level)
    (found_has : (path : List ℕ) (f : Found) → search w.finds w.server.locations path ≡ Some f → LevelHas V f.level)
    (named_has : (name : List ℕ) (l : LevelView) → named w.server name ≡ Some l → LevelHas V l)
    (bodies : (s : Standing) (answer : Answer) (status : ℕ) (kind bytes : List ℕ) (ssi : Vars) → V s.values →
    Only P anything (body w (begun answer.main answer.request answer.values left ssi) (filtered_marks w (facts_of s status kind) bytes)))
  where
    abbrev Ok : Standing → Type 0
    Ok s = R s.request.role × V s.values

    abbrev OkRan : Ran → Type 0
    OkRan (Ends p) = Ok p.at
    OkRan (Returns s code text) = Ok s
    OkRan (Redirects s code to) = Ok s
    OkRan (Drops s) = Ok s
    OkRan (Breaks s first) = Ok s

    abbrev OkStep : Step → Type 0
    OkStep (Goes skip p) = Ok p.at
    OkStep (Stops ran) = OkRan ran

    abbrev OkDecided : Decided → Type 0
    OkDecided d = Ok d.at

    abbrev OkFrom : From → Type 0
    OkFrom Start = Unit {0}
    OkFrom Find = Unit {0}
    OkFrom (Named values name) = V values

    abbrev OkAsked : Asked → Type 0
    OkAsked a = R a.request.role × OkFrom a.from

    abbrev OkPrepared : Prepared → Type 0
    OkPrepared p = (ssi : Vars) → Only P anything (written w left ssi p.answer p.body)

    abbrev OkNext : Next → Type 0
    OkNext (Answered p) = OkPrepared p
    OkNext (Changed s a) = Ok s × OkAsked a

    -- ---- rewriting

    only_asked_at : (test : FileTest) (l : Located) → Only P anything (asked_at test l)
    unfolding asked_at
    only_asked_at test TooLong = only_done _ tt
    only_asked_at test NotThere = only_done _ tt
    only_asked_at test (At path) = only_stat (λ i. only_done _ tt)

    only_test_at : (test : FileTest) (main : Main) (text : Option (List ℕ)) → Only P anything (test_at test main text)
    only_test_at test main None = only_done _ tt
    only_test_at test main (Some text) = only_asked_at test (located_path (Whole []) text [] main.folder)

    only_tested : (main : Main) (request : Request) (t : Test) → Only P anything (tested w main request t)
    unfolding tested
    only_tested main request (IsSet variable) = only_bind (only_value main request (variable ∷ [])) (λ a _. only_done _ tt)
    only_tested main request (Equals variable text) = only_bind (only_value main request (variable ∷ [])) (λ a _. only_bind (only_fit_value main request text) (λ b _. only_done _ tt))
    only_tested main request (Matches variable pattern) = only_bind (only_value main request (variable ∷ [])) (λ a _. only_done _ tt)
    only_tested main request (OnFile test path) = only_bind (only_fit_value main request path) (λ a _. only_test_at test main a)

    only_set_step : (first : Bool) (name : List ℕ) (p : Passed) (text : Option (List ℕ)) → Ok p.at → Only P OkStep (set_step first name p text)
    only_set_step first name p None h = only_done _ h
    only_set_step first name p (Some text) h = only_bind {mid = anything} (only_put (only_done _ tt)) (λ a _. only_done _ h)

    ok_matched : (groups : Option (List (List ℕ))) (p : Passed) → Ok p.at → Ok (matched groups p).at
    ok_matched None p h = h
    ok_matched (Some groups) p h = h

    ok_block : (values : Option Values) (test : Test) (negated : Bool) (block : ℕ) (p : Passed) → BlockHas V (If test negated block values) → Ok p.at → Ok (in_block values p).at
    ok_block None test negated block p b h = h
    ok_block (Some values) test negated block p b h = (h.0, b)

    ok_either : (b : Bool) (x y : Step) → OkStep x → OkStep y → OkStep (if b then x else y)
    ok_either true x y h g = h
    ok_either false x y h g = g

    ok_if_step : (test : Test) (negated : Bool) (block : ℕ) (values : Option Values) (p : Passed) (t : Tested) → BlockHas V (If test negated block values) → Ok p.at → OkStep (if_step negated block values p t)
    ok_if_step test negated block values p Unfit b h = h
    ok_if_step test negated block values p (Says holds groups) b h =
        ok_either (if negated then not holds else holds) (Goes 0 (in_block values (matched groups p))) (Goes block (matched groups p))
        (ok_block values test negated block (matched groups p) b (ok_matched groups p h)) (ok_matched groups p h)

    ok_return_step : (code : ℕ) (p : Passed) (text : Option (List ℕ)) → Ok p.at → OkStep (return_step code p text)
    ok_return_step code p text h =
        ok_either (code == 444) (Stops (Drops p.at)) (if is_redirect code then Stops (Redirects p.at code text) else Stops (Returns p.at code text)) h
        (ok_either (is_redirect code) (Stops (Redirects p.at code text)) (Stops (Returns p.at code text)) h h)

    only_return_text : (main : Main) (request : Request) (text : Option Text) → Only P anything (return_text main request text)
    unfolding return_text
    only_return_text main request None = only_done _ tt
    only_return_text main request (Some text) = only_bind (only_fit_value main request text) (λ a _. only_done _ tt)

    ok_returned : (code : ℕ) (p : Passed) (text : Option (Option (List ℕ))) → Ok p.at → OkStep (returned code p text)
    ok_returned code p None h = h
    ok_returned code p (Some text) h = ok_return_step code p text h

    ok_goes : (flag : Flag) (p : Passed) (path args : List ℕ) → Ok p.at → OkStep (rewrite_goes flag p path args)
    ok_goes NoFlag p path args h = h
    ok_goes Last p path args h = h
    ok_goes Break p path args h = h
    ok_goes Redirect p path args h = h
    ok_goes Permanent p path args h = h

    ok_rewrite_to : (to : Text) (is_url : Bool) (flag : Flag) (p : Passed) (t : Option Target) → Ok p.at → OkStep (rewrite_to to is_url flag p t)
    ok_rewrite_to to is_url flag p None h = h
    ok_rewrite_to to is_url flag p (Some t) h =
        let args = rewritten_args p.at.request.args t.args (ends_in_question to) in
        ok_either (is_moved is_url flag) (rewrite_moves p (move_code flag) t.path args) (if begins_with 47 t.path then rewrite_goes flag p t.path args else Stops (Breaks p.at false)) h
        (ok_either (begins_with 47 t.path) (rewrite_goes flag p t.path args) (Stops (Breaks p.at false)) (ok_goes flag p t.path args h) h)

    only_rewrite_step : (main : Main) (to : Text) (is_url : Bool) (flag : Flag) (p : Passed) (spans : Option (List Span)) → Ok p.at → Only P OkStep (rewrite_step main to is_url flag p spans)
    unfolding rewrite_step
    only_rewrite_step main to is_url flag p None h = only_done _ h
    only_rewrite_step main to is_url flag p (Some spans) h =
        let now = matched (Some (groups_in p.at.request.path spans)) p in
        only_bind (only_target main now.at.request to) (λ t _. only_done _ (ok_rewrite_to to is_url flag now t h))

    only_step : (main : Main) (first : Bool) (p : Passed) (d : Directive) → BlockHas V d → Ok p.at → Only P OkStep (step w main first p d)
    unfolding step
    only_step main first p (Set name text) b h = only_bind (only_fit_value main p.at.request text) (λ bytes _. only_set_step first name p bytes h)
    only_step main first p (If test negated block values) b h = only_bind (only_tested main p.at.request test) (λ told _. only_done _ (ok_if_step test negated block values p told b h))
    only_step main first p (Rewrite pattern to is_url flag) b h = only_rewrite_step main to is_url flag p (w.finds pattern p.at.request.path) h
    only_step main first p (Return code text) b h = only_bind (only_return_text main p.at.request text) (λ bytes _. only_done _ (ok_returned code p bytes h))
    only_step main first p Stop b h = only_done _ h

    only_on : (s : Step) (k : ℕ → Passed → Serving Ran) → OkStep s → ((skip : ℕ) (q : Passed) → Ok q.at → Only P OkRan (k skip q)) → Only P OkRan (on s k)
    only_on (Goes skip p) k h f = f skip p h
    only_on (Stops ran) k h f = only_done _ h

    only_rewritten : (main : Main) (first : Bool) (skip : ℕ) (program : Program) (p : Passed) → AllBlocks V program → Ok p.at → Only P OkRan (rewritten w main first skip program p)
    unfolding rewritten
    only_rewritten main first skip [] p b h = only_done _ h
    only_rewritten main first (suc skip) (d ∷ program) p b h = only_rewritten main false skip program p b.1 h
    only_rewritten main first zero (d ∷ program) p b h =
        only_bind (only_step main first p d b.0 h) (λ s hs. only_on s _ hs (λ skip q hq. only_rewritten main (stays_first first d) skip program q b.1 hq))

    only_program : (main : Main) (program : Program) (s : Standing) → AllBlocks V program → Ok s → Only P OkRan (program_run w main program s)
    unfolding program_run
    only_program main program s b h = only_rewritten main true 0 program (begins_at s) b h

    -- ---- files

    only_item_at : (l : Located) → Only P anything (item_at l)
    only_item_at TooLong = only_done _ tt
    only_item_at NotThere = only_done _ tt
    only_item_at (At path) = only_stat (λ i. only_done _ tt)

    only_item : (main : Main) (s : Standing) (uri : List ℕ) → Only P anything (item main s uri)
    unfolding item
    only_item main s uri = only_bind (only_located main s.request s.values.place uri) (λ l _. only_item_at l)

    only_with_item : (s : Standing) (o : Option Item) (k : Item → Serving Decided) → Ok s → ((i : Item) → Only P OkDecided (k i)) → Only P OkDecided (with_item s o k)
    only_with_item s None k h f = only_done _ h
    only_with_item s (Some i) k h f = f i

    only_with_text : {A : Type 0} (s : Standing) (o : Option A) (k : A → Serving Decided) → Ok s → ((a : A) → Only P OkDecided (k a)) → Only P OkDecided (with_text s o k)
    only_with_text s None k h f = only_done _ h
    only_with_text s (Some a) k h f = f a

    only_file : (main : Main) (s : Standing) → Ok s → Only P OkDecided (file main s)
    unfolding file
    only_file main s h = only_bind (only_item main s s.request.path) (λ i _. only_with_item s i _ h (λ i. only_done _ h))

    only_no_index : (main : Main) (s : Standing) → Ok s → Only P OkDecided (no_index main s)
    unfolding no_index
    only_no_index main s h = only_bind (only_item main s s.request.path) (λ i _. only_with_item s i _ h (λ i. only_done _ h))

    either : {A : Type 0} {post : A → Type 0} (b : Bool) (m n : Serving A) → Only P post m → Only P post n → Only P post (if b then m else n)
    either true m n h g = h
    either false m n h g = g

    only_index_at : (s : Standing) (path : List ℕ) (i : Item) (others : Serving Decided) → Ok s → Only P OkDecided others → Only P OkDecided (index_at s path i others)
    only_index_at s path i others h g = either (passes IsFile i) (goes_to s path) others (only_done _ h) g

    only_try_at : (main : Main) (s : Standing) (name : List ℕ) (i : Item) (others : Serving Decided) → Only P OkDecided (content main (with_path name s)) → Only P OkDecided others → Only P OkDecided (try_at main s name i others)
    only_try_at main s name i others h g = either (is_found name i) (content main (with_path name s)) others h g

    only_index_name : (main : Main) (s : Standing) (is_path : Bool) (name : List ℕ) (others : Serving Decided) → Ok s → Only P OkDecided others → Only P OkDecided (index_name main s is_path name others)
    unfolding index_name
    only_index_name main s is_path name others h g =
        only_if is_path (λ _. only_done _ h)
        (λ _. only_bind (only_item main s (s.request.path ++ name)) (λ i _. only_with_item s i _ h (λ i. only_index_at s (s.request.path ++ name) i others h g)))

    only_indexed : (main : Main) (s : Standing) (names : List IndexName) → Ok s → Only P OkDecided (indexed main s names)
    unfolding indexed
    only_indexed main s [] h = only_no_index main s h
    only_indexed main s (n ∷ names) h =
        only_bind (only_fit_value main s.request n.text) (λ name _. only_with_text s name _ h (λ name. only_index_name main s n.is_path name (indexed main s names) h (only_indexed main s names h)))

    only_by_method : (main : Main) (s : Standing) (code : Option ℕ) → Ok s → Only P OkDecided (by_method main s code)
    only_by_method main s (Some code) h = only_done _ h
    only_by_method main s None h = only_if _ (λ _. only_indexed main s s.values.index h) (λ _. only_file main s h)

    only_content : (main : Main) (s : Standing) → Ok s → Only P OkDecided (content main s)
    unfolding content
    only_content main s h = only_by_method main s (refusal_of s.request.method) h

    only_last_try : (main : Main) (s : Standing) (last : LastTry) → Ok s → Only P OkDecided (last_try main s last)
    unfolding last_try
    only_last_try main s (ToPath text) h = only_bind (only_target main s.request text) (λ t _. only_with_text s t _ h (λ t. only_done _ h))
    only_last_try main s (ToLocation name) h = only_done _ h
    only_last_try main s (ToCode code) h = only_done _ h

    only_try_name : (main : Main) (s : Standing) (name : List ℕ) (others : Serving Decided) → Ok s → Only P OkDecided others → Only P OkDecided (try_name main s name others)
    unfolding try_name
    only_try_name main s name others h g =
        only_bind (only_item main s name) (λ i _. only_with_item s i _ h (λ i. only_try_at main s name i others (only_content main (with_path name s) h) g))

    only_tried : (main : Main) (s : Standing) (names : List Text) (last : LastTry) → Ok s → Only P OkDecided (tried main s names last)
    unfolding tried
    only_tried main s [] last h = only_last_try main s last h
    only_tried main s (n ∷ names) last h =
        only_bind (only_fit_value main s.request n) (λ name _. only_with_text s name _ h (λ name. only_try_name main s name (tried main s names last) h (only_tried main s names last h)))

    only_by_tries : (main : Main) (s : Standing) (tries : Option Tries) → Ok s → Only P OkDecided (by_tries main s tries)
    only_by_tries main s None h = only_content main s h
    only_by_tries main s (Some t) h = only_tried main s t.names t.last h

    only_precontent : (main : Main) (s : Standing) → Ok s → Only P OkDecided (precontent main s)
    unfolding precontent
    only_precontent main s h = only_by_tries main s s.values.tries h

    -- ---- access

    only_set_fit : (name : List ℕ) (text : Option (List ℕ)) (others : Serving Bool) → Only P anything others → Only P anything (set_fit name text others)
    only_set_fit name None others g = only_done _ tt
    only_set_fit name (Some text) others g = only_bind {mid = anything} (only_put (only_done _ tt)) (λ a _. g)

    only_sets : (main : Main) (request : Request) (list : List (List ℕ × Text)) → Only P anything (sets main request list)
    unfolding sets
    only_sets main request [] = only_done _ tt
    only_sets main request (s ∷ others) = only_bind (only_fit_value main request s.1) (λ text _. only_set_fit s.0 text (sets main request others) (only_sets main request others))

    only_auth_verdict : (main : Main) (values : Values) (denied : Bool) (path : Option (List ℕ)) → ((p : List ℕ) → path ≡ Some p → P (auth_child main p)) → Only P anything (auth_verdict main values denied path)
    unfolding auth_verdict
    only_auth_verdict main values denied None may = only_done _ tt
    only_auth_verdict main values denied (Some path) may =
        only_bind {mid = anything} (only_call (may path refl) (λ r. only_done _ tt)) (λ reply _. only_bind (only_sets main reply.answer.request values.auth_sets) (λ fit _. only_done _ tt))

    only_verdict : (main : Main) (values : Values) → ((p : List ℕ) → values.auth ≡ Some p → P (auth_child main p)) → Only P anything (verdict main values)
    unfolding verdict
    only_verdict main values may =
        let said = decision values.rules main.peer.ip in
        let asked : Serving Verdict = auth_verdict main values (is_said said false) values.auth in
        let denies = is_said said false && (if values.any then false else true) in
        either (is_said said true && values.any) (Done LetsIn) (if denies then Done (Denies 403) else asked) (only_done _ tt)
        (either denies (Done (Denies 403)) asked (only_done _ tt) (only_auth_verdict main values (is_said said false) values.auth may))

    only_by_verdict : (a : Asked) (s : Standing) (v : Verdict) → Ok s → Only P OkDecided (by_verdict a s v)
    only_by_verdict a s LetsIn h = only_precontent a.main s h
    only_by_verdict a s (Denies code) h = only_done _ h

    only_access : (a : Asked) (s : Standing) → Ok s → Only P OkDecided (access a s)
    unfolding access
    only_access a s h =
        only_if (is_main s.request)
        (λ is. only_bind (only_verdict a.main s.values (λ path e. may_auth a.main path s.request.role s.values h.0 h.1 is e)) (λ v _. only_by_verdict a s v h))
        (λ _. only_precontent a.main s h)

    -- ---- locations

    only_after : (at_server : Bool) (r : Ran) (k : Passed → Serving Decided) → OkRan r → ((p : Passed) → Ok p.at → Only P OkDecided (k p)) → Only P OkDecided (after_program at_server r k)
    only_after at_server (Ends p) k h f = f p h
    only_after at_server (Returns s code text) k h f = only_done _ h
    only_after at_server (Redirects s code to) k h f = only_done _ h
    only_after at_server (Drops s) k h f = only_done _ h
    only_after at_server (Breaks s first) k h f = only_done _ h

    only_in_location : (a : Asked) (level : LevelView) (s : Standing) → LevelHas V level → R s.request.role → Only P OkDecided (in_location w a level s)
    unfolding in_location
    only_in_location a level s l r =
        only_bind (only_program a.main level.program (in_level level.values s) l.1 (r, l.0))
        (λ ran h. only_after false ran _ h (λ p hp. either p.seeks (Done (decided p.at Seeks)) (access a p.at) (only_done _ hp) (only_access a p.at hp)))

    only_entered : (a : Asked) (values : Values) (s : Standing) (k : Serving Decided) → V values → R s.request.role → Only P OkDecided k → Only P OkDecided (entered w a values s k)
    unfolding entered
    only_entered a values s k v r g =
        let large : Serving Decided = Done (decided (in_level values s) (Fails 413)) in
        either (values.internal && not s.inside) (Done (decided (in_level values s) (Fails 404))) (if is_too_large w s.request values then large else k) (only_done _ (r, v))
        (either (is_too_large w s.request values) large k (only_done _ (r, v)) g)

    grouped : (groups : Option (List (List ℕ))) (request : Request) → R request.role → R (with_groups groups request).role
    grouped None request h = h
    grouped (Some groups) request h = h

    only_located_level : (a : Asked) (s : Standing) (f : Option Found) → ((g : Found) → f ≡ Some g → LevelHas V g.level) → R s.request.role → Only P OkDecided (located w a s f)
    unfolding located
    only_located_level a s None l r = only_entered a w.server.level.values s _ own.0 r (only_access a (in_level w.server.level.values s) (r, own.0))
    only_located_level a s (Some f) l r =
        let s' = record s { request = with_groups f.groups s.request } in
        only_entered a f.level.values s' _ (l f refl).0 (grouped f.groups s.request r) (only_in_location a f.level s' (l f refl) (grouped f.groups s.request r))

    only_find_config : (a : Asked) (s : Standing) → R s.request.role → Only P OkDecided (find_config w a s)
    unfolding find_config
    only_find_config a s r = only_located_level a s (search w.finds w.server.locations s.request.path) (λ g e. found_has s.request.path g e) r

    only_at_named : (a : Asked) (values : Values) (l : Option LevelView) → ((level : LevelView) → l ≡ Some level → LevelHas V level) → R a.request.role → V values → Only P OkDecided (at_named w a values l)
    only_at_named a values None l r v = only_done _ (r, v)
    only_at_named a values (Some level) l r v = only_in_location a level (standing a values) (l level refl) r

    only_phases : (a : Asked) (from : From) → R a.request.role → OkFrom from → Only P OkDecided (phases_from w a from)
    unfolding phases_from
    only_phases a Start r o =
        only_bind (only_program a.main w.server.level.program (standing a w.server.level.values) own.1 (r, own.0))
        (λ ran h. only_after true ran _ h (λ p hp. only_find_config a p.at hp.0))
    only_phases a Find r o = only_find_config a (standing a w.server.level.values) r
    only_phases a (Named values name) r o = only_at_named a values (named w.server name) (λ level e. named_has name level e) r o

    -- ---- answers

    only_made : (nothing : Bool) (answer : Answer) (bytes : List ℕ) → OkPrepared (record { answer = answer; body = if nothing then NoBody else Plain bytes })
    unfolding written
    only_made true answer bytes ssi = only_done _ tt
    only_made false answer bytes ssi = only_write (only_done _ tt)

    only_sent_by : (s : Standing) (nothing filtered : Bool) (answer : Answer) (status : ℕ) (kind bytes : List ℕ) → V s.values → OkPrepared (record { answer = answer; body = body_sent nothing filtered (facts_of s status kind) bytes })
    unfolding written
    only_sent_by s true filtered answer status kind bytes v ssi = only_done _ tt
    only_sent_by s false true answer status kind bytes v ssi = only_write (bodies s answer status kind bytes ssi v)
    only_sent_by s false false answer status kind bytes v ssi = only_write (only_done _ tt)

    ok_page : (a : Asked) (s : Standing) (code : ℕ) (to : Option (List ℕ)) → OkPrepared (Answering.page_to a s code to)
    unfolding Answering.page_to
    ok_page a s code to = only_made (has_no_body a.main s.request) _ _

    ok_plain_page : (a : Asked) (s : Standing) (code : ℕ) → OkPrepared (page a s code)
    unfolding page
    ok_plain_page a s code = ok_page a s code None

    ok_moved : (a : Asked) (s : Standing) (code : ℕ) (to : Option (List ℕ)) → OkPrepared (moved a s code to)
    unfolding moved
    ok_moved a s code to = ok_page a s code _

    ok_closed : (a : Asked) (s : Standing) → OkPrepared (closed a s)
    unfolding written
    ok_closed a s ssi = only_done _ tt

    ok_sent : (a : Asked) (s : Standing) (own_code : ℕ) (bytes : List ℕ) (date : Option ℕ) → V s.values → OkPrepared (sent w a s own_code bytes date)
    unfolding sent
    ok_sent a s own_code bytes date v = only_sent_by s _ _ _ _ _ bytes v

    -- ---- errors and rounds

    only_error_page : (a : Asked) (s : Standing) (code : ℕ) (shown : Shown) (t : PageTarget) → Ok s → Only P OkNext (error_page a s code shown t)
    unfolding error_page
    only_error_page a s code shown (AtPath text) h = only_bind (only_target a.main s.request text) (λ t _. only_done _ (ok_page_at t))
      where
        ok_page_at : (t : Option Target) → OkNext (page_at a s code shown t)
        ok_page_at None = ok_plain_page (closing a code) s 500
        ok_page_at (Some t) = (h, (h.0, tt))
    only_error_page a s code shown (AtLocation name) h = only_done _ (h, (h.0, h.1))
    only_error_page a s code shown (AtUrl text) h = only_bind (only_fit_value a.main s.request text) (λ to _. only_done _ (ok_page_moved to))
      where
        ok_page_moved : (to : Option (List ℕ)) → OkNext (page_moved a s code shown to)
        ok_page_moved None = ok_plain_page (closing a code) s 500
        ok_page_moved (Some to) = ok_moved (closing a code) s _ (Some to)

    only_by_rule : (a : Asked) (s : Standing) (code : ℕ) (r : Option PageRule) → Ok s → Only P OkNext (by_rule a s code r)
    only_by_rule a s code None h = only_done _ (ok_plain_page a s code)
    only_by_rule a s code (Some r) h = only_error_page a s code r.shown r.target h

    only_failed : (changes : ℕ) (a : Asked) (s : Standing) (code : ℕ) → Ok s → Only P OkNext (failed changes a s code)
    unfolding failed
    only_failed changes a s code h = only_by_rule a s code _ h

    only_outcome : (changes : ℕ) (a : Asked) (s : Standing) (o : Outcome) → Ok s → Only P OkNext (outcome_next w changes a s o)
    unfolding outcome_next
    only_outcome changes a s (TextOutcome code bytes) h = only_done _ (ok_sent a s code bytes None h.1)
    only_outcome changes a s (File bytes date) h = only_done _ (ok_sent a s 200 bytes (Some date) h.1)
    only_outcome changes a s (Fails code) h = only_failed changes a s code h
    only_outcome changes a s (Gives code) h = only_done _ (ok_plain_page a s code)
    only_outcome changes a s (Moves code to) h = only_done _ (ok_moved a s code to)
    only_outcome changes a s Closes h = only_done _ (ok_closed a s)
    only_outcome changes a s Seeks h = only_done _ (h, (h.0, tt))
    only_outcome changes a s (GoesTo path args) h = only_done _ (h, (h.0, tt))
    only_outcome changes a s (GoesToNamed name) h = only_done _ (h, (h.0, h.1))

    only_round : (changes : ℕ) (a : Asked) → OkAsked a → Only P OkNext (round w changes a)
    unfolding round
    only_round changes a h = only_bind (only_phases a a.from h.0 h.1) (λ d hd. only_outcome changes a d.at d.outcome hd)

    only_until : (again : Standing → Asked → Serving Prepared) (next : Next) → OkNext next → ((s : Standing) (b : Asked) → Ok s → OkAsked b → Only P OkPrepared (again s b)) → Only P OkPrepared (until again next)
    only_until again (Answered p) h f = only_done _ h
    only_until again (Changed s a) h f = f s a h.0 h.1

    pub only_rounds : (changes : ℕ) (a : Asked) → OkAsked a → Only P OkPrepared (rounds w changes a)
    unfolding rounds
    only_rounds zero a h = only_bind (only_round 0 a h) (λ next hn. only_until _ next hn (λ s b hs hb. only_done _ (ok_plain_page b s 500)))
    only_rounds (suc changes) a h = only_bind (only_round (suc changes) a h) (λ next hn. only_until _ next hn (λ s b hs hb. only_rounds changes b hb))
