-- The programs of a server obey: what their directives read was set before them, or is kept.
use Rattle.std.proofs.Common.{◌≡◌, ◌⊎◌, inl, inr, ℕ, zero, suc, ◌≤◌, ◌==◌, ◌||◌, not, Bool, true, false, cond, List, [], ◌∷◌, bytes_eq, Option, None, Some, refl, ◌∙◌, ap, le_trans, le_refl, zero-le, not-suc-le-zero, if◌then◌else◌, arith}
use Rattle.std.specs.List.{list_all}
use Rattle.acts.specs.Act.{◌>>=◌}
use Rattle.family_meaning.specs.file_path.Located.{Located, located as located_path}
use Rattle.family_meaning.specs.file_path.Located.Located.{TooLong, NotThere, At}
use Rattle.ngx_variables.specs.declared.request.Main.{Main}
use Rattle.ngx_variables.specs.declared.request.FileRoot.{FileRoot}
use Rattle.ngx_variables.specs.declared.request.FileRoot.TheVariants.{Whole}
use Rattle.ngx_variables.specs.declared.request.Request.{Request}
use Rattle.ngx_variables.specs.declared.request.Role.{Role}
use Rattle.ngx_variables.specs.Grammar.{begins_with}
use Rattle.family_meaning.specs.site_views.Pattern.{Pattern, Span, groups_in}
use Rattle.family_meaning.specs.site_views.Values.{Values, Text}
use Rattle.family_meaning.specs.site_views.Rewrites.{FileTest, Test, Flag, Directive, Program}
use Rattle.family_meaning.specs.site_views.Rewrites.Test.{IsSet, Equals, Matches, OnFile}
use Rattle.family_meaning.specs.site_views.Rewrites.Flag.{NoFlag, Last, Break, Redirect, Permanent}
use Rattle.family_meaning.specs.site_views.Rewrites.Directive.{Set, If, Rewrite, Return, Stop}
use Rattle.family_meaning.specs.request_meaning.Serving.{World, Serving, Standing}
use Rattle.family_meaning.specs.request_meaning.Cuts.{Target, rewritten_args, ends_in_question}
use Rattle.family_meaning.specs.request_meaning.Rewriting.{Tested, asked_at, test_at, tested, Passed, Ran, Step, matched, in_block, set_step, if_step, is_redirect, return_step, return_text, returned, rewrite_moves, rewrite_goes, is_moved, move_code, rewrite_to, rewrite_step, step, stays_first, on, rewritten, begins_at, program_run}
use Rattle.family_meaning.specs.request_meaning.Rewriting.Tested.{Says, Unfit}
use Rattle.family_meaning.specs.request_meaning.Rewriting.Ran.{Ends, Returns, Redirects, Drops, Breaks}
use Rattle.family_meaning.specs.request_meaning.Rewriting.Step.{Goes, Stops}
use Rattle.family_meaning.specs.request_meaning.Laws.{BlockHas, AllBlocks}
use Rattle.race_meaning.specs.Reads.{is_piece, in_text, in_some, in_test, in_directive, block_after, settled_after, is_private_in}
use Rattle.race_meaning.specs.Named.{is_steady_piece}
use Rattle.race_meaning.specs.Steady.{Names, Covers, along, Rules}
use Rattle.race_meaning.proofs.Steadies.{covers_along}
use Rattle.race_meaning.proofs.Obeying.{and_left, and_right, or_left, or_right, no_false, covers_same, covers_more, From, from_done, from_bind, from_run, Run, run_done, run_bind, run_after, run_put, run_stat, anything, KnownPlace, known_text, more_text, more_place, steady_text, IsFit, from_value, from_target, from_fit_value}

-- ---- programs

abbrev pub AllSets : (List ℕ → Text → Type 0) → Program → Type 0
AllSets P [] = Unit {0}
AllSets P (Set name text ∷ program) = P name text × AllSets P program
AllSets P (If test negated block values ∷ program) = AllSets P program
AllSets P (Rewrite pattern to is_url flag ∷ program) = AllSets P program
AllSets P (Return code text ∷ program) = AllSets P program
AllSets P (Stop ∷ program) = AllSets P program

-- a `set` of a fixed name gives it its value, whatever the request
pub record SetFits (fixed : Names) (value : Main → List ℕ → Option (List ℕ)) (M : Main → Type 0) (name : List ℕ) (text : Text) : Type 0 where
  pub steady : fixed name ≡ true → list_all is_steady_piece text ≡ true
  pub gives : (main : Main) → M main → fixed name ≡ true → Some (steady_text main text) ≡ value main name

-- each variable is kept, or private in the program
abbrev pub EachPrivate : Names → (settled : Names) → (block : ℕ) → Program → Type 0
EachPrivate kept settled block program = (name : List ℕ) → (kept name ≡ true) ⊎ (is_private_in name (settled name) block program ≡ true)

-- ---- what is known after a directive

abbrev next_known : Names → Names → Directive → Names
next_known kept known (Set name text) = along name known
next_known kept known (If (OnFile test path) negated block values) = kept
next_known kept known (If (IsSet variable) negated block values) = known
next_known kept known (If (Equals variable text) negated block values) = known
next_known kept known (If (Matches variable pattern) negated block values) = known
next_known kept known (Rewrite pattern to is_url flag) = known
next_known kept known (Return code text) = known
next_known kept known Stop = known

abbrev settled_next : Names → ℕ → Directive → Names
settled_next settled block d name = settled_after name (settled name) block d

covers_or : (t b c : Bool) → (b ≡ true → c ≡ true) → (t || b) ≡ true → cond t true c ≡ true
covers_or true b c f e = refl
covers_or false b c f e = f e

next_settled : (kept known settled : Names) (block : ℕ) (d : Directive) → Covers settled known → Covers (settled_next settled block d) (next_known kept known d)
next_settled kept known settled zero (Set other text) c name e = covers_or (bytes_eq other name) (settled name) (known name) (c name) e
next_settled kept known settled (suc block) (Set other text) c name e = covers_more other known name (c name e)
next_settled kept known settled zero (If (OnFile test path) negated size values) c name e = no_false e
next_settled kept known settled (suc block) (If (OnFile test path) negated size values) c name e = no_false e
next_settled kept known settled zero (If (IsSet variable) negated size values) c name e = c name e
next_settled kept known settled (suc block) (If (IsSet variable) negated size values) c name e = c name e
next_settled kept known settled zero (If (Equals variable text) negated size values) c name e = c name e
next_settled kept known settled (suc block) (If (Equals variable text) negated size values) c name e = c name e
next_settled kept known settled zero (If (Matches variable pattern) negated size values) c name e = c name e
next_settled kept known settled (suc block) (If (Matches variable pattern) negated size values) c name e = c name e
next_settled kept known settled zero (Rewrite pattern to is_url flag) c name e = c name e
next_settled kept known settled (suc block) (Rewrite pattern to is_url flag) c name e = c name e
next_settled kept known settled zero (Return code text) c name e = c name e
next_settled kept known settled (suc block) (Return code text) c name e = c name e
next_settled kept known settled zero Stop c name e = c name e
next_settled kept known settled (suc block) Stop c name e = c name e

-- a directive in a block settles nothing
skipped_settled : (settled : Names) (block : ℕ) (d : Directive) → Covers (settled_next settled (suc block) d) settled
skipped_settled settled block (Set other text) name e = e
skipped_settled settled block (If (OnFile test path) negated size values) name e = no_false e
skipped_settled settled block (If (IsSet variable) negated size values) name e = e
skipped_settled settled block (If (Equals variable text) negated size values) name e = e
skipped_settled settled block (If (Matches variable pattern) negated size values) name e = e
skipped_settled settled block (Rewrite pattern to is_url flag) name e = e
skipped_settled settled block (Return code text) name e = e
skipped_settled settled block Stop name e = e

next_kept : (kept known : Names) (d : Directive) → Covers kept known → Covers kept (next_known kept known d)
next_kept kept known (Set name text) c = λ other e. covers_more name known other (c other e)
next_kept kept known (If (OnFile test path) negated size values) c = covers_same kept
next_kept kept known (If (IsSet variable) negated size values) c = c
next_kept kept known (If (Equals variable text) negated size values) c = c
next_kept kept known (If (Matches variable pattern) negated size values) c = c
next_kept kept known (Rewrite pattern to is_url flag) c = c
next_kept kept known (Return code text) c = c
next_kept kept known Stop c = c

-- how many directives may be skipped after it
abbrev jump : Directive → ℕ
jump (Set name text) = 0
jump (If test negated block values) = block
jump (Rewrite pattern to is_url flag) = 0
jump (Return code text) = 0
jump Stop = 0

jump_within : (block : ℕ) (d : Directive) → jump d ≤ block_after block d
jump_within block (Set name text) = zero-le
jump_within block (If test negated size values) = omega arith
jump_within block (Rewrite pattern to is_url flag) = zero-le
jump_within block (Return code text) = zero-le
jump_within block Stop = zero-le

skip_within : (skip block : ℕ) (d : Directive) → suc skip ≤ suc block → skip ≤ block_after (suc block) d
skip_within skip block (Set name text) h = omega (arith, h)
skip_within skip block (If test negated size values) h = omega (arith, h)
skip_within skip block (Rewrite pattern to is_url flag) h = omega (arith, h)
skip_within skip block (Return code text) h = omega (arith, h)
skip_within skip block Stop h = omega (arith, h)

-- what the directive reads is known
read_known : (kept known settled : Names) (block : ℕ) (d : Directive) (program : Program) → Covers kept known → Covers settled known → EachPrivate kept settled block (d ∷ program) →
    (name : List ℕ) → in_directive name d ≡ true → known name ≡ true
unfolding is_private_in
read_known kept known settled block d program k s each name e = by (each name)
  where
    settled_by : (t r : Bool) → r ≡ true → (t || not r) ≡ true → t ≡ true
    settled_by true r h g = refl
    settled_by false true h g = no_false g
    settled_by false false h g = no_false h

    by : (kept name ≡ true) ⊎ (is_private_in name (settled name) block (d ∷ program) ≡ true) → known name ≡ true
    by (inl h) = k name h
    by (inr h) =
        s name (settled_by (settled name) (in_directive name d) e
        (and_left (settled name || not (in_directive name d)) (is_private_in name (settled_after name (settled name) block d) (block_after block d) program) h))

later_private : (kept settled : Names) (block : ℕ) (d : Directive) (program : Program) → EachPrivate kept settled block (d ∷ program) → EachPrivate kept (settled_next settled block d) (block_after block d) program
unfolding is_private_in
later_private kept settled block d program each name = by (each name)
  where
    by : (kept name ≡ true) ⊎ (is_private_in name (settled name) block (d ∷ program) ≡ true) →
        (kept name ≡ true) ⊎ (is_private_in name (settled_after name (settled name) block d) (block_after block d) program ≡ true)
    by (inl h) = inl h
    by (inr h) = inr (and_right (settled name || not (in_directive name d)) (is_private_in name (settled_after name (settled name) block d) (block_after block d) program) h)

-- ---- programs that run

-- R is so of the request's role, V of the values of all levels, T of the place of files, M of the main request.
module _ (w : World) (kept fixed : Names) (value : Main → List ℕ → Option (List ℕ)) (asks : Role → Bool)
    (R : Role → Type 0) (V : Values → Type 0) (T : Option FileRoot → Type 0) (M : Main → Type 0)
    (place_has : (v : Values) → V v → T (Some v.place))
    (place_known : (o : Option FileRoot) → T o → KnownPlace kept o)
  where
    abbrev pub rules : Main → Rules
    rules main = record { kept = kept; fixed = fixed; value = value main; main = main; asks = asks }

    abbrev pub Ok : Standing → Type 0
    Ok s = R s.request.role × (V s.values × T s.request.place)

    abbrev pub OkRan : Ran → Type 0
    OkRan (Ends p) = Ok p.at
    OkRan (Returns s code text) = Ok s
    OkRan (Redirects s code to) = Ok s
    OkRan (Drops s) = Ok s
    OkRan (Breaks s first) = Ok s

    abbrev OkStep : Names → Directive → Names → Step → Type 0
    OkStep known d now (Goes skip p) = Ok p.at × (Covers (next_known kept known d) now × (skip ≤ jump d))
    OkStep known d now (Stops ran) = OkRan ran × Covers kept now

    abbrev Ended : Names → Ran → Type 0
    Ended now ran = Covers kept now × OkRan ran

    -- after a test of a file less is known
    abbrev after_test : Names → Test → Names
    after_test known (OnFile test path) = kept
    after_test known (IsSet variable) = known
    after_test known (Equals variable text) = known
    after_test known (Matches variable pattern) = known

    run_asked_at : (main : Main) (known : Names) (test : FileTest) (l : Located) → Covers kept known → Run (rules main) known (λ now t. Covers kept now) (asked_at test l)
    unfolding asked_at
    run_asked_at main known test TooLong c = run_done _ c
    run_asked_at main known test NotThere c = run_done _ c
    run_asked_at main known test (At path) c = run_stat (λ i. run_done _ (covers_same kept))

    run_test_at : (main : Main) (known : Names) (test : FileTest) (text : Option (List ℕ)) → Covers kept known → Run (rules main) known (λ now t. Covers kept now) (test_at test main text)
    run_test_at main known test None c = run_done _ c
    run_test_at main known test (Some text) c = run_asked_at main known test (located_path (Whole []) text [] main.folder) c

    run_tested : (main : Main) (request : Request) (known : Names) (t : Test) → Covers kept known → ((name : List ℕ) → in_test name t ≡ true → known name ≡ true) → KnownPlace known request.place →
        Run (rules main) known (λ now told. Covers (after_test known t) now) (tested w main request t)
    unfolding tested in_text
    run_tested main request known (IsSet variable) c f l =
        run_after (from_value main request (variable ∷ []) (known_text known (variable ∷ []) (λ name e. f name (one (is_piece name variable) e))) l) (λ now a g _. run_done _ g)
      where
        one : (b : Bool) → (b || false) ≡ true → b ≡ true
        one true e = e
        one false e = e
    run_tested main request known (Equals variable text) c f l =
        run_after (from_value main request (variable ∷ []) (known_text known (variable ∷ []) (λ name e. f name (or_left (is_piece name variable) (in_text name text) (one (is_piece name variable) e)))) l) (λ now a g _.
        run_after (from_fit_value main request text (more_text known now text g (known_text known text (λ name e. f name (or_right (is_piece name variable) (in_text name text) e)))) (more_place known now request.place g l))
        (λ now' b g' _. run_done _ (λ name e. g' name (g name e))))
      where
        one : (b : Bool) → (b || false) ≡ true → b ≡ true
        one true e = e
        one false e = e
    run_tested main request known (Matches variable pattern) c f l =
        run_after (from_value main request (variable ∷ []) (known_text known (variable ∷ []) (λ name e. f name (one (is_piece name variable) e))) l) (λ now a g _. run_done _ g)
      where
        one : (b : Bool) → (b || false) ≡ true → b ≡ true
        one true e = e
        one false e = e
    run_tested main request known (OnFile test path) c f l =
        run_after (from_fit_value main request path (known_text known path f) l) (λ now a g _. run_test_at main now test a (λ name e. g name (c name e)))

    -- ---- steps

    ok_matched : (groups : Option (List (List ℕ))) (p : Passed) → Ok p.at → Ok (matched groups p).at
    ok_matched None p h = h
    ok_matched (Some groups) p h = h

    ok_block : (values : Option Values) (test : Test) (negated : Bool) (block : ℕ) (p : Passed) → BlockHas V (If test negated block values) → Ok p.at → Ok (in_block values p).at
    ok_block None test negated block p b h = h
    ok_block (Some values) test negated block p b h = (h.0, (b, place_has values b))

    either_step : (known : Names) (d : Directive) (now : Names) (b : Bool) (x y : Step) → OkStep known d now x → OkStep known d now y → OkStep known d now (if b then x else y)
    either_step known d now true x y h g = h
    either_step known d now false x y h g = g

    tested_known : (known : Names) (t : Test) (negated : Bool) (block : ℕ) (values : Option Values) (now : Names) → Covers (after_test known t) now → Covers (next_known kept known (If t negated block values)) now
    tested_known known (OnFile test path) negated block values now c = c
    tested_known known (IsSet variable) negated block values now c = c
    tested_known known (Equals variable text) negated block values now c = c
    tested_known known (Matches variable pattern) negated block values now c = c

    ok_if_step : (known : Names) (test : Test) (negated : Bool) (block : ℕ) (values : Option Values) (now : Names) (p : Passed) (t : Tested) → Covers kept now → Covers (next_known kept known (If test negated block values)) now →
        BlockHas V (If test negated block values) → Ok p.at → OkStep known (If test negated block values) now (if_step negated block values p t)
    ok_if_step known test negated block values now p Unfit k c b h = (h, k)
    ok_if_step known test negated block values now p (Says holds groups) k c b h =
        either_step known (If test negated block values) now (if negated then not holds else holds) (Goes 0 (in_block values (matched groups p))) (Goes block (matched groups p))
        (ok_block values test negated block (matched groups p) b (ok_matched groups p h), (c, zero-le)) (ok_matched groups p h, (c, le_refl block))

    run_set_step : (main : Main) (m : M main) (known : Names) (first : Bool) (name : List ℕ) (text : Text) (now : Names) (p : Passed) (bytes : Option (List ℕ)) →
        SetFits fixed value M name text → IsFit main text bytes → Covers kept known → Covers known now → Ok p.at → Run (rules main) now (OkStep known (Set name text)) (set_step first name p bytes)
    unfolding ◌>>=◌
    run_set_step main m known first name text now p None f t k c h = run_done _ (h, λ other e. c other (k other e))
    run_set_step main m known first name text now p (Some bytes) f t k c h =
        run_put (λ e. ap Some (t (f.steady e)) ∙ f.gives main m e) (run_done _ (h, (covers_along name known now c, zero-le)))

    ok_return_step : (known : Names) (d : Directive) (now : Names) (code : ℕ) (p : Passed) (text : Option (List ℕ)) → Covers kept now → Ok p.at → OkStep known d now (return_step code p text)
    ok_return_step known d now code p text k h =
        either_step known d now (code == 444) (Stops (Drops p.at)) (if is_redirect code then Stops (Redirects p.at code text) else Stops (Returns p.at code text)) (h, k)
        (either_step known d now (is_redirect code) (Stops (Redirects p.at code text)) (Stops (Returns p.at code text)) (h, k) (h, k))

    ok_returned : (known : Names) (d : Directive) (now : Names) (code : ℕ) (p : Passed) (text : Option (Option (List ℕ))) → Covers kept now → Ok p.at → OkStep known d now (returned code p text)
    ok_returned known d now code p None k h = (h, k)
    ok_returned known d now code p (Some text) k h = ok_return_step known d now code p text k h

    from_return_text : (main : Main) (request : Request) (known : Names) (text : Option Text) → ((name : List ℕ) → in_some name text ≡ true → known name ≡ true) → KnownPlace known request.place →
        From (rules main) known anything (return_text main request text)
    unfolding return_text
    from_return_text main request known None f l = from_done _ tt
    from_return_text main request known (Some text) f l = from_bind (from_fit_value main request text (known_text known text f) l) (λ a _. from_done _ tt)

    ok_goes : (known : Names) (d : Directive) (now : Names) (flag : Flag) (p : Passed) (path args : List ℕ) → Covers kept now → Covers (next_known kept known d) now → Ok p.at → OkStep known d now (rewrite_goes flag p path args)
    ok_goes known d now NoFlag p path args k c h = (h, (c, zero-le))
    ok_goes known d now Last p path args k c h = (h, k)
    ok_goes known d now Break p path args k c h = (h, k)
    ok_goes known d now Redirect p path args k c h = (h, k)
    ok_goes known d now Permanent p path args k c h = (h, k)

    ok_rewrite_to : (known : Names) (d : Directive) (now : Names) (to : Text) (is_url : Bool) (flag : Flag) (p : Passed) (t : Option Target) → Covers kept now → Covers (next_known kept known d) now → Ok p.at →
        OkStep known d now (rewrite_to to is_url flag p t)
    ok_rewrite_to known d now to is_url flag p None k c h = (h, k)
    ok_rewrite_to known d now to is_url flag p (Some t) k c h =
        let args = rewritten_args p.at.request.args t.args (ends_in_question to) in
        either_step known d now (is_moved is_url flag) (rewrite_moves p (move_code flag) t.path args) (if begins_with 47 t.path then rewrite_goes flag p t.path args else Stops (Breaks p.at false)) (h, k)
        (either_step known d now (begins_with 47 t.path) (rewrite_goes flag p t.path args) (Stops (Breaks p.at false)) (ok_goes known d now flag p t.path args k c h) (h, k))

    run_rewrite_step : (main : Main) (known : Names) (pattern : Pattern) (to : Text) (is_url : Bool) (flag : Flag) (p : Passed) (spans : Option (List Span)) → Covers kept known →
        ((name : List ℕ) → in_text name to ≡ true → known name ≡ true) → Ok p.at → Run (rules main) known (OkStep known (Rewrite pattern to is_url flag)) (rewrite_step main to is_url flag p spans)
    unfolding rewrite_step
    run_rewrite_step main known pattern to is_url flag p None k f h = run_done _ (h, (covers_same known, zero-le))
    run_rewrite_step main known pattern to is_url flag p (Some spans) k f h =
        let now = matched (Some (groups_in p.at.request.path spans)) p in
        run_after (from_target main now.at.request to (known_text known to f) (more_place kept known p.at.request.place k (place_known p.at.request.place h.1.1)))
        (λ later t c _. run_done _ (ok_rewrite_to known (Rewrite pattern to is_url flag) later to is_url flag now t (λ name e. c name (k name e)) c h))

    run_step : (main : Main) (m : M main) (known : Names) (first : Bool) (p : Passed) (d : Directive) → Covers kept known → ((name : List ℕ) → in_directive name d ≡ true → known name ≡ true) →
        AllSets (SetFits fixed value M) (d ∷ []) → BlockHas V d → Ok p.at → Run (rules main) known (OkStep known d) (step w main first p d)
    unfolding step in_directive
    run_step main m known first p (Set name text) k f s b h =
        run_after (from_fit_value main p.at.request text (known_text known text f) (more_place kept known p.at.request.place k (place_known p.at.request.place h.1.1)))
        (λ now bytes c t. run_set_step main m known first name text now p bytes s.0 t k c h)
    run_step main m known first p (If test negated block values) k f s b h =
        run_bind (run_tested main p.at.request known test k f (more_place kept known p.at.request.place k (place_known p.at.request.place h.1.1)))
        (λ now told c. run_done _ (ok_if_step known test negated block values now p told (kept_after test now c) (tested_known known test negated block values now c) b h))
      where
        kept_after : (t : Test) (now : Names) → Covers (after_test known t) now → Covers kept now
        kept_after (OnFile test path) now c = c
        kept_after (IsSet variable) now c = λ name e. c name (k name e)
        kept_after (Equals variable text) now c = λ name e. c name (k name e)
        kept_after (Matches variable pattern) now c = λ name e. c name (k name e)
    run_step main m known first p (Rewrite pattern to is_url flag) k f s b h = run_rewrite_step main known pattern to is_url flag p (w.finds pattern p.at.request.path) k f h
    run_step main m known first p (Return code text) k f s b h =
        run_after (from_return_text main p.at.request known text f (more_place kept known p.at.request.place k (place_known p.at.request.place h.1.1)))
        (λ now bytes c _. run_done _ (ok_returned known (Return code text) now code p bytes (λ name e. c name (k name e)) h))
    run_step main m known first p Stop k f s b h = run_done _ (h, k)

    run_on : (main : Main) (known : Names) (d : Directive) (now : Names) (s : Step) (k : ℕ → Passed → Serving Ran) → OkStep known d now s →
        ((skip : ℕ) (q : Passed) → Ok q.at → Covers (next_known kept known d) now → skip ≤ jump d → Run (rules main) now Ended (k skip q)) → Run (rules main) now Ended (on s k)
    run_on main known d now (Goes skip p) k h f = f skip p h.0 h.1.0 h.1.1
    run_on main known d now (Stops ran) k h f = run_done _ (h.1, h.0)

    first_set : (P : List ℕ → Text → Type 0) (d : Directive) (program : Program) → AllSets P (d ∷ program) → AllSets P (d ∷ [])
    first_set P (Set name text) program h = (h.0, tt)
    first_set P (If test negated block values) program h = tt
    first_set P (Rewrite pattern to is_url flag) program h = tt
    first_set P (Return code text) program h = tt
    first_set P Stop program h = tt

    later_sets : (P : List ℕ → Text → Type 0) (d : Directive) (program : Program) → AllSets P (d ∷ program) → AllSets P program
    later_sets P (Set name text) program h = h.1
    later_sets P (If test negated block values) program h = h
    later_sets P (Rewrite pattern to is_url flag) program h = h
    later_sets P (Return code text) program h = h
    later_sets P Stop program h = h

    pub run_rewritten : (main : Main) (m : M main) (known settled : Names) (first : Bool) (skip block : ℕ) (program : Program) (p : Passed) →
        Covers kept known → Covers settled known → skip ≤ block → EachPrivate kept settled block program → AllSets (SetFits fixed value M) program → AllBlocks V program → Ok p.at →
        Run (rules main) known Ended (rewritten w main first skip program p)
    unfolding rewritten
    run_rewritten main m known settled first skip block [] p k s l e a b h = run_done _ (k, h)
    run_rewritten main m known settled first (suc skip) zero (d ∷ program) p k s l e a b h = absurd (not-suc-le-zero l)
    run_rewritten main m known settled first (suc skip) (suc block) (d ∷ program) p k s l e a b h =
        run_rewritten main m known (settled_next settled (suc block) d) false skip (block_after (suc block) d) program p k (λ name g. s name (skipped_settled settled block d name g))
        (skip_within skip block d l) (later_private kept settled (suc block) d program e) (later_sets _ d program a) b.1 h
    run_rewritten main m known settled first zero block (d ∷ program) p k s l e a b h =
        run_bind (run_step main m known first p d k (read_known kept known settled block d program k s e) (first_set _ d program a) b.0 h)
        (λ now t ht. run_on main known d now t _ ht (λ skip q hq c j.
        run_rewritten main m now (settled_next settled block d) (stays_first first d) skip (block_after block d) program q
        (λ name g. c name (next_kept kept known d k name g)) (λ name g. c name (next_settled kept known settled block d s name g))
        (le_trans j (jump_within block d)) (later_private kept settled block d program e) (later_sets _ d program a) b.1 hq))

    pub from_program : (main : Main) (m : M main) (program : Program) (s : Standing) → EachPrivate kept (λ name. false) 0 program → AllSets (SetFits fixed value M) program → AllBlocks V program → Ok s →
        From (rules main) kept OkRan (program_run w main program s)
    unfolding program_run
    from_program main m program s e a b h = from_run (run_rewritten main m kept (λ name. false) true 0 0 program (begins_at s) (covers_same kept) (λ name g. no_false g) zero-le e a b h)
