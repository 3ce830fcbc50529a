-- What a response is asked with.
use Rattle.family_meaning.specs.Flight.{Terms}
use Rattle.request_meaning.specs.Serving.{is_head}
use Rattle.reply_out.specs.declared.terms.Terms.{Terms as CodeTerms}
use Rattle.reply_out.specs.request_opening.declared.asked.Opening.{Opening}

-- what a response is asked with
abbrev pub terms_seen : CodeTerms → Terms
terms_seen t = record {
  moment = t.moment;
  version = t.version;
  no_body = t.no_body;
  before = t.before;
  head_keeps = t.head_keeps;
}

abbrev pub terms_at : Opening → Terms
terms_at o =
    record {
      moment = o.moment;
      version = o.head.version;
      no_body = is_head o.head.method;
      before = o.before;
      head_keeps = o.head.keep;
    }
