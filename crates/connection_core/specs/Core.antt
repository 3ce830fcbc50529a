-- What the core shows.
use Rattle.std.specs.Prelude.{◌≡◌, ℕ, Bool, true, List, map, None, Contains}
use Rattle.http_types.specs.declared.words.Addr.{Addr}
use Rattle.ngx_outside.specs.Views.{ConnView, Course, Start, start_of, log_of, IsSound}
use Rattle.ngx_outside.specs.declared.event.Entry.{Entry}
use Rattle.ngx_outside.specs.Seen.{Terms, CoreSeen}
use Rattle.http_connection.specs.Conn.{fresh_course, IsExact}
use Rattle.http_connection.specs.Rests.{Serves}
use Rattle.connection_core.specs.Table.{serves_with, view_in, journal_in, left_in, listens_there, most_held, price_each}
use Rattle.ngx_pattern.specs.Pattern.{Pattern as SetPattern}
use Rattle.pattern_search.specs.Found.{patterns_seen}
use Rattle.site_model.specs.declared.site.Site.{Site}
use Rattle.site_views.specs.Views.{ServerView}
use Rattle.site_whole.specs.Whole.{whole}
use Rattle.http_connection.specs.race_meaning.Named.{IsRaceless}
use Rattle.connection_core.specs.declared.hub.Hub.{Hub}

-- what its connections are served: the site, with its patterns
abbrev pub serves_at : Hub → Serves
serves_at h = serves_with h.space.patterns h.table.served

-- what it shows of each connection
abbrev pub view_at : Hub → ℕ → ConnView
view_at h = view_in (serves_at h) h.table.ids.items h.table.conns.items

-- the requests that were started on each
abbrev pub journal_at : Hub → ℕ → List Entry
journal_at h = journal_in h.table.ids.items h.table.conns.items

-- the numbers of those that are held
abbrev pub conns_held : Hub → List ℕ
conns_held h = h.table.ids.items

-- what is to come on one that is opened now, with these ends
abbrev pub fresh_at : Hub → Addr → Addr → Course
fresh_at h local peer =
    fresh_course h.table.served.raceless h.space.patterns h.table.served.site local peer

abbrev pub now_at : Hub → Start
now_at h = record { moment = h.moment; tree = h.tree }

abbrev pub left_at : Hub → ℕ
left_at h = left_in h.table.conns.items

abbrev pub price_at : Hub → ℕ
price_at h = price_each

abbrev pub refused_at : Hub → ℕ
refused_at h = h.refused

-- What a core of a site with these patterns keeps to: each connection is served by the site at its
-- two ends, where one of the site's servers listens at its local end; at most 512 are held at once.
-- `raceless` says that the race check named no variable of the site, and `keeps` that the requests of
-- each connection are kept, to be told.
abbrev pub site_terms : (raceless keeps : Bool) → List SetPattern → Site → Terms
site_terms raceless keeps patterns site = record {
  fresh = fresh_course raceless patterns site;
  serves = listens_there patterns site;
  limit = most_held;
  price = price_each;
  keeps = keeps;
}

-- what it keeps to
abbrev pub terms_at : Hub → Terms
terms_at h =
    site_terms h.table.served.raceless h.table.keeps h.space.patterns h.table.served.site

-- the race check names no variable of any server of a site with these patterns
abbrev pub IsRacelessSite : List SetPattern → Site → Type 0
IsRacelessSite patterns site =
    (server : ServerView) → Contains (whole (patterns_seen patterns) site).servers server →
    IsRaceless server

-- all that it shows; it doesn't tell the events that it was given
abbrev pub seen_at : Hub → CoreSeen
seen_at h =
    record {
      view = view_at h;
      conns = conns_held h;
      terms = terms_at h;
      now = now_at h;
      left = left_at h;
      refused = refused_at h;
      events = None;
    }

-- what is so of each connection that a core shows: it is sound and exact, its journal tells when
-- its requests started and what is logged of each, and where the race check named no variable of
-- the site the order of steps can't change its bytes
pub record IsShown (h : Hub) (c : ℕ) : Type 0 where
  pub sound : IsSound (view_at h c)
  pub exact : IsExact (view_at h c)
  pub started : map start_of (journal_at h c) ≡ (view_at h c).starts
  pub logged : map log_of (journal_at h c) ≡ (view_at h c).logs
  pub raceless : h.table.served.raceless ≡ true → (view_at h c).raceless ≡ true

abbrev pub AllShown : Type 0
AllShown = (h : Hub) (c : ℕ) → IsShown h c
