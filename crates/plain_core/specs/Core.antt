-- What the core shows.
use Rattle.std.specs.Prelude.{ℕ, true, List, None}
use Rattle.http_types.specs.declared.words.Addr.{Addr}
use Rattle.ngx_outside.specs.Views.{ConnView, Course, Start}
use Rattle.ngx_outside.specs.Seen.{Terms, CoreSeen}
use Rattle.plain_core.specs.declared.plain.PlainCore.{PlainCore}
use Rattle.plain_core.specs.Held.{view_of, conns_of, fresh_of, now_of, left_of, price_at, refused_of}

abbrev pub view_at : PlainCore → ℕ → ConnView
view_at core = view_of core.state

abbrev pub conns_held : PlainCore → List ℕ
conns_held core = conns_of core.state

abbrev pub fresh_at : PlainCore → Addr → Addr → Course
fresh_at core = fresh_of core.state

-- the text that each line is answered by
abbrev pub reply_of : PlainCore → List ℕ
reply_of core = core.state.conn.reply

abbrev pub now_at : PlainCore → Start
now_at core = now_of core.state

abbrev pub left_at : PlainCore → ℕ
left_at core = left_of core.state

abbrev pub price_now : PlainCore → ℕ
price_now core = price_at core.state

abbrev pub refused_at : PlainCore → ℕ
refused_at core = refused_of core.state

-- it answers at each local end, and holds one connection at most
abbrev pub terms_at : PlainCore → Terms
terms_at core = record
    { fresh = fresh_at core; serves = λ local. true; limit = 1; price = price_now core; keeps = true }

-- all that it shows; it doesn't tell the events that it was given
abbrev pub seen_at : PlainCore → CoreSeen
seen_at core =
    record {
      view = view_at core;
      conns = conns_held core;
      terms = terms_at core;
      now = now_at core;
      left = left_at core;
      refused = refused_at core;
      events = None;
    }
