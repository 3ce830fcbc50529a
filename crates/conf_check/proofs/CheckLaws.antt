-- The first fault of a level, step by step.
use Rattle.std.proofs.Common.{◌≡◌, ℕ, List, [], ◌∷◌, ◌++◌, Option, Result, Ok, Err, refl, sym, ap, ◌∙◌, subst, bytes_eq, Bool, false}
use Rattle.std.specs.List.{list_any}
use Rattle.conf_text.specs.declared.directive.Directive.{Directive}
use Rattle.conf_text.specs.declared.fault.FaultKind.{FaultKind}
use Rattle.conf_text.specs.declared.fault.ConfFault.{ConfFault}
use Rattle.http_types.specs.declared.words.Addr.{Addr}
use Rattle.conf_block.specs.declared.role.Content.{Content}
use Rattle.conf_block.specs.Forest.{Forest, End, Branch, forest_of}
use Rattle.conf_check.specs.declared.error.ReadError.{ReadError}
use Rattle.conf_check.specs.declared.error.ReadError.TheVariants as reads
use Rattle.conf_check.specs.Gives.{◌>>=◌, ◌>>◌, sound, faulty, FailsBy}
use Rattle.conf_check.specs.Patterns.{pattern_fault}
use Rattle.conf_block.specs.Roles.{content_inside}
use Rattle.std.specs.BTreeSet.{BTreeSet}
use Rattle.conf_check.specs.Ends.{Key, has_end}
use Rattle.conf_check.specs.Ends.{with_end}
use Rattle.conf_block.specs.declared.location.Kind.{Kind}
use Rattle.conf_check.specs.declared.locations.LocationSet.{LocationSet}
use Rattle.conf_check.specs.LocationSet.{has_location}
use Rattle.conf_check.specs.Before.{Remembers}
use Rattle.conf_check.specs.Checked.{fault_in, default_by, checked}

pub then-ok : {A B : Type 0} (r : Result A ConfFault) (x : A) (next : Result B ConfFault) → r ≡ Ok x → (r >> next) ≡ next
unfolding ◌>>◌
then-ok r x next e = ap (λ r. r >> next) e

then-err : {A B : Type 0} (r : Result A ConfFault) (f : ConfFault) (next : Result B ConfFault) → r ≡ Err f → (r >> next) ≡ Err f
unfolding ◌>>◌
then-err r f next e = ap (λ r. r >> next) e

pub bind-ok : {A B : Type 0} (r : Result A ConfFault) (x : A) (f : A → Result B ConfFault) → r ≡ Ok x → (r >>= f) ≡ f x
unfolding ◌>>=◌
bind-ok r x f e = ap (λ r. r >>= f) e

bind-err : {A B : Type 0} (r : Result A ConfFault) (fault : ConfFault) (f : A → Result B ConfFault) → r ≡ Err fault → (r >>= f) ≡ Err fault
unfolding ◌>>=◌
bind-err r fault f e = ap (λ r. r >>= f) e

-- a fault stays the first, whatever follows
pub reads-then : {A B : Type 0} (R : Type 0) (e : ReadError) (r : Result A ConfFault) (next : Result B ConfFault) → FailsBy R e r → FailsBy R e (r >> next)
reads-then R (reads.Fault f) r next h = then-err r f next h
reads-then R (reads.TooBig f) r next h = h
reads-then R reads.OutOfMemory r next h = tt

pub reads-same : {A : Type 0} (R : Type 0) (e : ReadError) (r s : Result A ConfFault) → r ≡ s → FailsBy R e r → FailsBy R e s
reads-same R e r s same h = subst (FailsBy R e) same h

pub reads-bind : {A B : Type 0} (R : Type 0) (e : ReadError) (r : Result A ConfFault) (f : A → Result B ConfFault) → FailsBy R e r → FailsBy R e (r >>= f)
reads-bind R (reads.Fault fault) r f h = bind-err r fault f h
reads-bind R (reads.TooBig fault) r f h = h
reads-bind R reads.OutOfMemory r f h = tt

pub reads-alone : {A : Type 0} (R : Type 0) (e : ReadError) (r : Result A ConfFault) → FailsBy ⊥ e r → FailsBy R e r
reads-alone R (reads.Fault f) r h = h
reads-alone R (reads.TooBig f) r h = absurd h.0
reads-alone R reads.OutOfMemory r h = tt

pub reads-weaker : {A : Type 0} (R S : Type 0) (e : ReadError) (r : Result A ConfFault) → (R → S) → FailsBy R e r → FailsBy S e r
reads-weaker R S (reads.Fault f) r weaker h = h
reads-weaker R S (reads.TooBig f) r weaker h = (weaker h.0, h.1)
reads-weaker R S reads.OutOfMemory r weaker h = tt

-- the same addresses
pub same_ends : (ends others : Addr → Bool) → ((q : Addr) → ends q ≡ others q) → ends ≡ others
same_ends ends others h = λ i q. h q i

-- the directives of a level

abbrev Ends : Type 0
Ends = Addr → Bool

abbrev Names : Type 0
Names = List ℕ → Bool

-- what is asked for after a directive that has no fault of its own, and after one whose patterns have none
abbrev after : (known : Names) (marked : Ends) (here : Content) (earlier : List Directive) (d : Directive) (block beside : Forest) → Result Ends ConfFault
after known marked here earlier d block beside =
    checked known (with_end (default_by here d) marked) (content_inside here d) [] block >>= (λ inner. checked known inner here (earlier ++ d ∷ []) beside)

abbrev behind : (known : Names) (marked : Ends) (here : Content) (earlier : List Directive) (d : Directive) (block beside : Forest) → Result Ends ConfFault
behind known marked here earlier d block beside = faulty d (pattern_fault known here d) >> after known marked here earlier d block beside

checked-step : (known : Names) (marked : Ends) (here : Content) (earlier : List Directive) (d : Directive) (block beside : Forest)
    → checked known marked here earlier (Branch d block beside) ≡ (faulty d (fault_in known marked here earlier d) >> behind known marked here earlier d block beside)
unfolding checked
checked-step known marked here earlier d block beside = refl

checked-none : (known : Names) (marked : Ends) (here : Content) (earlier : List Directive) → checked known marked here earlier End ≡ Ok marked
unfolding checked
checked-none known marked here earlier = refl

-- The directives that were passed have no fault, these names, addresses and locations are kept of them, and `marked` are the
-- addresses that have a default server now.
pub record Standing (known : Names) (first marked : Ends) (here : Content) (names : List (List ℕ)) (addrs : BTreeSet Key) (locations : LocationSet) (rest level : List Directive) : Type 0 where
  pub earlier : List Directive
  pub kept : Remembers names addrs locations earlier
  pub same : checked known marked here earlier (forest_of rest) ≡ checked known first here [] (forest_of level)

pub standing-begin : (known : Names) (first : Ends) (here : Content) (names : List (List ℕ)) (addrs : BTreeSet Key) (locations : LocationSet) (level : List Directive)
    → names ≡ [] → ((q : Addr) → has_end addrs q ≡ false) → ((kind : Kind) (text : List ℕ) → has_location locations kind text ≡ false)
    → Standing known first first here names addrs locations level level
standing-begin known first here names addrs locations level n a l =
    record { earlier = []; kept = record { once = λ name t. ap (λ ns. list_any (λ n. bytes_eq n name) ns) n; listens = a; located = l }; same = refl }

pub standing-end : (known : Names) (first marked : Ends) (here : Content) (names : List (List ℕ)) (addrs : BTreeSet Key) (locations : LocationSet) (rest level : List Directive)
    → Standing known first marked here names addrs locations rest level → forest_of rest ≡ End → checked known first here [] (forest_of level) ≡ Ok marked
standing-end known first marked here names addrs locations rest level s e = sym s.same ∙ ap (checked known marked here s.earlier) e ∙ checked-none known marked here s.earlier

-- what the directive's own fault is asked for
abbrev pub IsOwn : (known : Names) (marked : Ends) (here : Content) (names : List (List ℕ)) (addrs : BTreeSet Key) (locations : LocationSet) (d : Directive) → Option FaultKind → Type 0
IsOwn known marked here names addrs locations d kind = (earlier : List Directive) → Remembers names addrs locations earlier → kind ≡ fault_in known marked here earlier d

-- a directive is the first of those that are left, with this fault of its own
pub record At (known : Names) (first marked : Ends) (here : Content) (names : List (List ℕ)) (addrs : BTreeSet Key) (locations : LocationSet) (d : Directive) (kind : Option FaultKind) (block beside rest level : List Directive) : Type 0 where
  pub standing : Standing known first marked here names addrs locations rest level
  pub forest : forest_of rest ≡ Branch d (forest_of block) (forest_of beside)
  pub own : IsOwn known marked here names addrs locations d kind

whole : {known : Names} {first marked : Ends} {here : Content} {names : List (List ℕ)} {addrs : BTreeSet Key} {locations : LocationSet} {d : Directive} {kind : Option FaultKind} {block beside rest level : List Directive}
    → (at : At known first marked here names addrs locations d kind block beside rest level)
    → (faulty d kind >> behind known marked here at.standing.earlier d (forest_of block) (forest_of beside)) ≡ checked known first here [] (forest_of level)
whole {known} {first} {marked} {here} {names} {addrs} {locations} {d} {kind} {block} {beside} {rest} {level} at =
    let earlier = at.standing.earlier in
    ap (λ k. faulty d k >> behind known marked here earlier d (forest_of block) (forest_of beside)) (at.own earlier at.standing.kept)
    ∙ sym (checked-step known marked here earlier d (forest_of block) (forest_of beside)) ∙ sym (ap (checked known marked here earlier) at.forest) ∙ at.standing.same

pub standing-fail : {known : Names} {first marked : Ends} {here : Content} {names : List (List ℕ)} {addrs : BTreeSet Key} {locations : LocationSet} {d : Directive} {kind : Option FaultKind} {block beside rest level : List Directive}
    → (R : Type 0) (error : ReadError) → (at : At known first marked here names addrs locations d kind block beside rest level) → FailsBy R error (faulty d kind) → FailsBy R error (checked known first here [] (forest_of level))
standing-fail {known} {first} {marked} {here} {names} {addrs} {locations} {d} {kind} {block} {beside} {rest} {level} R error at h =
    let next = behind known marked here at.standing.earlier d (forest_of block) (forest_of beside) in
    reads-same R error (faulty d kind >> next) (checked known first here [] (forest_of level)) (whole at) (reads-then R error (faulty d kind) next h)

-- where the directive has no fault of its own, its patterns decide
own-right : {known : Names} {first marked : Ends} {here : Content} {names : List (List ℕ)} {addrs : BTreeSet Key} {locations : LocationSet} {d : Directive} {kind : Option FaultKind} {block beside rest level : List Directive}
    → (at : At known first marked here names addrs locations d kind block beside rest level) → faulty d kind ≡ sound
    → behind known marked here at.standing.earlier d (forest_of block) (forest_of beside) ≡ checked known first here [] (forest_of level)
own-right {known} {first} {marked} {here} {names} {addrs} {locations} {d} {kind} {block} {beside} {rest} {level} at h =
    sym (then-ok (faulty d kind) tt (behind known marked here at.standing.earlier d (forest_of block) (forest_of beside)) h) ∙ whole at

pub standing-flawed : {known : Names} {first marked : Ends} {here : Content} {names : List (List ℕ)} {addrs : BTreeSet Key} {locations : LocationSet} {d : Directive} {kind : Option FaultKind} {block beside rest level : List Directive}
    → (R : Type 0) (error : ReadError) → (at : At known first marked here names addrs locations d kind block beside rest level) → faulty d kind ≡ sound
    → FailsBy R error (faulty d (pattern_fault known here d)) → FailsBy R error (checked known first here [] (forest_of level))
standing-flawed {known} {first} {marked} {here} {names} {addrs} {locations} {d} {kind} {block} {beside} {rest} {level} R error at h f =
    let next = after known marked here at.standing.earlier d (forest_of block) (forest_of beside) in
    reads-same R error (faulty d (pattern_fault known here d) >> next) (checked known first here [] (forest_of level)) (own-right at h) (reads-then R error (faulty d (pattern_fault known here d)) next f)

-- then its block decides, and then what follows
own-passed : {known : Names} {first marked : Ends} {here : Content} {names : List (List ℕ)} {addrs : BTreeSet Key} {locations : LocationSet} {d : Directive} {kind : Option FaultKind} {block beside rest level : List Directive}
    → (at : At known first marked here names addrs locations d kind block beside rest level) → faulty d kind ≡ sound → faulty d (pattern_fault known here d) ≡ sound
    → (then : Ends) → (addr : Option Addr) → addr ≡ default_by here d → ((q : Addr) → then q ≡ with_end addr marked q) → (content : Content) → content ≡ content_inside here d
    → (checked known then content [] (forest_of block) >>= (λ inner. checked known inner here (at.standing.earlier ++ d ∷ []) (forest_of beside))) ≡ checked known first here [] (forest_of level)
own-passed {known} {first} {marked} {here} {names} {addrs} {locations} {d} {kind} {block} {beside} {rest} {level} at h p then addr a t content w =
    let next : Ends → Content → Result Ends ConfFault = λ ends content. checked known ends content [] (forest_of block) >>= (λ inner. checked known inner here (at.standing.earlier ++ d ∷ []) (forest_of beside)) in
    let ends : then ≡ with_end (default_by here d) marked = same_ends then (with_end addr marked) t ∙ ap (λ o. with_end o marked) a in
    ap (λ ends. next ends content) ends ∙ ap (next (with_end (default_by here d) marked)) w
    ∙ sym (then-ok (faulty d (pattern_fault known here d)) tt (next (with_end (default_by here d) marked) (content_inside here d)) p) ∙ own-right at h

pub standing-inner : {known : Names} {first marked : Ends} {here : Content} {names : List (List ℕ)} {addrs : BTreeSet Key} {locations : LocationSet} {d : Directive} {kind : Option FaultKind} {block beside rest level : List Directive}
    → (R : Type 0) (error : ReadError) → (at : At known first marked here names addrs locations d kind block beside rest level) → faulty d kind ≡ sound → faulty d (pattern_fault known here d) ≡ sound
    → (then : Ends) → (addr : Option Addr) → addr ≡ default_by here d → ((q : Addr) → then q ≡ with_end addr marked q) → (content : Content) → content ≡ content_inside here d
    → FailsBy R error (checked known then content [] (forest_of block)) → FailsBy R error (checked known first here [] (forest_of level))
standing-inner {known} {first} {marked} {here} {names} {addrs} {locations} {d} {kind} {block} {beside} {rest} {level} R error at h p then addr a t content w f =
    let next : Ends → Result Ends ConfFault = λ inner. checked known inner here (at.standing.earlier ++ d ∷ []) (forest_of beside) in
    reads-same R error (checked known then content [] (forest_of block) >>= next) (checked known first here [] (forest_of level)) (own-passed at h p then addr a t content w)
    (reads-bind R error (checked known then content [] (forest_of block)) next f)

pub standing-more : {known : Names} {first marked : Ends} {here : Content} {names : List (List ℕ)} {addrs : BTreeSet Key} {locations : LocationSet} {d : Directive} {kind : Option FaultKind} {block beside rest level : List Directive}
    → (at : At known first marked here names addrs locations d kind block beside rest level) → faulty d kind ≡ sound → faulty d (pattern_fault known here d) ≡ sound
    → (then : Ends) → (addr : Option Addr) → addr ≡ default_by here d → ((q : Addr) → then q ≡ with_end addr marked q) → (content : Content) → content ≡ content_inside here d
    → (inner : Ends) → checked known then content [] (forest_of block) ≡ Ok inner
    → (names' : List (List ℕ)) (addrs' : BTreeSet Key) (locations' : LocationSet)
    → ((earlier : List Directive) → Remembers names addrs locations earlier → Remembers names' addrs' locations' (earlier ++ d ∷ []))
    → Standing known first inner here names' addrs' locations' beside level
standing-more {known} {first} {marked} {here} {names} {addrs} {locations} {d} {kind} {block} {beside} {rest} {level} at h p then addr a t content w inner b names' addrs' locations' add = record {
  earlier = at.standing.earlier ++ d ∷ [];
  kept = add at.standing.earlier at.standing.kept;
  same = sym (bind-ok (checked known then content [] (forest_of block)) inner (λ inner. checked known inner here (at.standing.earlier ++ d ∷ []) (forest_of beside)) b) ∙ own-passed at h p then addr a t content w;
}
