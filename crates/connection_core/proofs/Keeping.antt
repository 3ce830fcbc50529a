-- Whether the requests of each connection are kept.
use Rattle.std.proofs.Common.{◌≡◌, ℕ, zero, suc, Bool, List, [], ◌∷◌, ◌++◌, length, take, refl, ap, sym, ◌∙◌, subst, arith}
use Rattle.std.specs.List.{insert, remove}
use Rattle.http_connection.specs.declared.conn.Conn.{Conn}
use Rattle.connection_core.specs.Table.{AllKeep, AllTicked}
use Rattle.connection_core.proofs.Held.{Seat}
use Rattle.connection_core.proofs.Ends.{Gap, conns_put, conns_cut}

keep_of_two : (keeps : Bool) (front back : List Conn) → AllKeep keeps front → AllKeep keeps back → AllKeep keeps (front ++ back)
keep_of_two keeps [] back a b = b
keep_of_two keeps (conn ∷ front) back a b = (a.0, keep_of_two keeps front back a.1 b)

keep_front : (keeps : Bool) (front back : List Conn) → AllKeep keeps (front ++ back) → AllKeep keeps front
keep_front keeps [] back a = tt
keep_front keeps (conn ∷ front) back a = (a.0, keep_front keeps front back a.1)

keep_back : (keeps : Bool) (front back : List Conn) → AllKeep keeps (front ++ back) → AllKeep keeps back
keep_back keeps [] back a = a
keep_back keeps (conn ∷ front) back a = keep_back keeps front back a.1

-- that of one connection among them
pub keep_at : (keeps : Bool) (front : List Conn) (here : Conn) (back conns : List Conn) → conns ≡ front ++ here ∷ back → AllKeep keeps conns → here.journal.keeps ≡ keeps
keep_at keeps front here back conns whole all = (keep_back keeps front (here ∷ back) (subst (AllKeep keeps) whole all)).0

-- one changes, and keeps its requests as before
pub set_keep : (keeps : Bool) (front : List Conn) (here there : Conn) (back conns conns' : List Conn) → conns ≡ front ++ here ∷ back → conns' ≡ front ++ there ∷ back → there.journal.keeps ≡ here.journal.keeps →
    AllKeep keeps conns → AllKeep keeps conns'
set_keep keeps front here there back conns conns' whole whole' same all =
    let parts = subst (AllKeep keeps) whole all in
    let behind = keep_back keeps front (here ∷ back) parts in
    subst (AllKeep keeps) (sym whole') (keep_of_two keeps front (there ∷ back) (keep_front keeps front (here ∷ back) parts) (same ∙ behind.0, behind.1))

-- one is held more
pub put_keep : (keeps : Bool) (c at : ℕ) (ids : List ℕ) (conns conns' : List Conn) (conn : Conn) (g : Gap c at ids conns) → conns' ≡ insert conns at conn → conn.journal.keeps ≡ keeps → AllKeep keeps conns → AllKeep keeps conns'
put_keep keeps c at ids conns conns' conn g e is all =
    let parts = subst (AllKeep keeps) g.whole all in
    subst (AllKeep keeps) (sym (e ∙ conns_put c at ids conns conn g)) (keep_of_two keeps g.front (conn ∷ g.back) (keep_front keeps g.front g.back parts) (is, keep_back keeps g.front g.back parts))

-- one is held no more
pub cut_keep : (keeps : Bool) (c at : ℕ) (ids : List ℕ) (conns conns' : List Conn) (s : Seat c at ids conns) → conns' ≡ remove conns at → AllKeep keeps conns → AllKeep keeps conns'
cut_keep keeps c at ids conns conns' s e all =
    let p = s.placed in
    let parts = subst (AllKeep keeps) p.whole all in
    subst (AllKeep keeps) (sym (e ∙ conns_cut c at ids conns s)) (keep_of_two keeps p.front p.back (keep_front keeps p.front (p.here ∷ p.back) parts) (keep_back keeps p.front (p.here ∷ p.back) parts).1)

-- the clock tells a moment
pub ticked_keep : (keeps : Bool) (now : ℕ) (conns conns' : List Conn) → AllTicked now conns conns' → AllKeep keeps conns → AllKeep keeps conns'
ticked_keep keeps now [] [] a all = tt
ticked_keep keeps now [] (new ∷ conns') a all = absurd a
ticked_keep keeps now (old ∷ conns) [] a all = absurd a
ticked_keep keeps now (old ∷ conns) (new ∷ conns') a all = (a.0.keeps ∙ all.0, ticked_keep keeps now conns conns' a.1 all.1)

-- as many are held after it
pub ticked_size : (now : ℕ) (conns conns' : List Conn) → AllTicked now conns conns' → length conns' ≡ length conns
ticked_size now [] [] a = refl
ticked_size now [] (new ∷ conns') a = absurd a
ticked_size now (old ∷ conns) [] a = absurd a
ticked_size now (old ∷ conns) (new ∷ conns') a = ap suc (ticked_size now conns conns' a.1)

-- all of them come first
pub taken : (n : ℕ) (conns rest : List Conn) → length conns ≡ n → take n (conns ++ rest) ≡ conns
taken zero [] rest e = refl
taken zero (conn ∷ conns) rest e = absurd (omega (arith, e))
taken (suc n) [] rest e = absurd (omega (arith, e))
taken (suc n) (conn ∷ conns) rest e = ap (λ r. conn ∷ r) (taken n conns rest (omega (arith, e)))
