-- What the core shows of each connection is sound.
use Rattle.std.proofs.Common.{◌≡◌, ℕ, true, false, cond, eqb, List, [], ◌∷◌, refl}
use Rattle.std.specs.Prelude.{map}
use Rattle.ngx_outside.specs.Views.{start_of, log_of, IsSound, nobody}
use Rattle.http_connection.specs.declared.conn.Conn.{Conn}
use Rattle.http_connection.specs.Conn.{view_of, AllSound, AllExact, IsExact}
use Rattle.http_connection.specs.Rests.{Serves}
use Rattle.connection_core.specs.Table.{view_in, journal_in}

nobody_sound : IsSound nobody
nobody_sound = record {
  unsent = λ h. refl;
  unready = λ h. refl;
  unasked = λ h. refl;
  unread = λ h. refl;
  untimed = λ h. refl;
  stopped = λ cause h e. cc;
  absent = λ h. refl;
  roomy = λ room h. cc;
  silent = λ h. cc;
  reads = λ h s none. cc;
  idle = λ h trees later. refl;
  logged = λ h trees later. refl;
  shut = λ h s trees later. refl;
  shuts = λ h trees later. cc;
  closes = λ l h e trees more later. cc;
}

pub sound_in : AllSound → (serves : Serves) (ids : List ℕ) (conns : List Conn) (c : ℕ) → IsSound (view_in serves ids conns c)
sound_in all serves [] conns c = nobody_sound
sound_in all serves (id ∷ ids) [] c = nobody_sound
sound_in all serves (id ∷ ids) (conn ∷ conns) c =
    elim (eqb id c) as (λ t. IsSound (cond t (view_of serves conn) (view_in serves ids conns c))) [ true ↦ all serves conn | false ↦ sound_in all serves ids conns c ]

nobody_exact : IsExact nobody
nobody_exact = record {
  rests = λ l s. cc;
  ends = λ i e. cc;
  busy = λ l b trees start later none logs. cc;
}

pub exact_in : AllExact → (serves : Serves) (ids : List ℕ) (conns : List Conn) (c : ℕ) → IsExact (view_in serves ids conns c)
exact_in all serves [] conns c = nobody_exact
exact_in all serves (id ∷ ids) [] c = nobody_exact
exact_in all serves (id ∷ ids) (conn ∷ conns) c =
    elim (eqb id c) as (λ t. IsExact (cond t (view_of serves conn) (view_in serves ids conns c))) [ true ↦ all serves conn | false ↦ exact_in all serves ids conns c ]

pub started_in : (serves : Serves) (ids : List ℕ) (conns : List Conn) (c : ℕ) → map start_of (journal_in ids conns c) ≡ (view_in serves ids conns c).starts
started_in serves [] conns c = refl
started_in serves (id ∷ ids) [] c = refl
started_in serves (id ∷ ids) (conn ∷ conns) c =
    elim (eqb id c) as (λ t. map start_of (cond t conn.journal.past.entries (journal_in ids conns c)) ≡ (cond t (view_of serves conn) (view_in serves ids conns c)).starts) [ true ↦ refl | false ↦ started_in serves ids conns c ]

pub logged_in : (serves : Serves) (ids : List ℕ) (conns : List Conn) (c : ℕ) → map log_of (journal_in ids conns c) ≡ (view_in serves ids conns c).logs
logged_in serves [] conns c = refl
logged_in serves (id ∷ ids) [] c = refl
logged_in serves (id ∷ ids) (conn ∷ conns) c =
    elim (eqb id c) as (λ t. map log_of (cond t conn.journal.past.entries (journal_in ids conns c)) ≡ (cond t (view_of serves conn) (view_in serves ids conns c)).logs) [ true ↦ refl | false ↦ logged_in serves ids conns c ]

pub raceless_in : (serves : Serves) (ids : List ℕ) (conns : List Conn) (c : ℕ) → serves.served.raceless ≡ true → (view_in serves ids conns c).raceless ≡ true
raceless_in serves [] conns c h = refl
raceless_in serves (id ∷ ids) [] c h = refl
raceless_in serves (id ∷ ids) (conn ∷ conns) c h =
    elim (eqb id c) as (λ t. (cond t (view_of serves conn) (view_in serves ids conns c)).raceless ≡ true) [ true ↦ h | false ↦ raceless_in serves ids conns c h ]
