use Rattle.std.proofs.Common.{sym, ◌∙◌, get_or}
use Rattle.uri_text.proofs.Escaping.{escape_of-start, escape_of-more, escape_byte-escaped, escape_byte-kept}
use Rattle.uri_text.proofs.escape.append_escapes.Goals as goal
use Rattle.uri_text.proofs.escape.append_escapes.Goals.{then-must_be_escaped+in_ok-extend, else-must_be_escaped+in_ok-push}

pub loop-byte-init : goal.loop-byte-init
loop-byte-init c = escape_of-start c.reserve.new.self

pub loop-byte-preserved : goal.loop-byte-preserved
loop-byte-preserved c =
    let path = c.args.path.now in
    let i = c.loop-byte.byte-index in
    elim c.if-must_be_escaped.branch [
      | then-must_be_escaped+in_ok-extend w ↦ rw (w.out-is, w.in_ok-extend.ensures.ok)
          (escape_of-more c.reserve.new.self c.loop-byte.out _ path i c.loop-byte.invariant c.loop-byte-test.true
          (w.as_bytes.ensures.value ∙ w.percent_encode_byte.ensures ∙ escape_byte-escaped (get_or path i 0) (sym c.must_be_escaped.ensures ∙ w.if-must_be_escaped.true)))
      | else-must_be_escaped+in_ok-push w ↦ rw (w.out-is, w.in_ok-push.ensures.ok)
          (escape_of-more c.reserve.new.self c.loop-byte.out _ path i c.loop-byte.invariant c.loop-byte-test.true
          (escape_byte-kept (get_or path i 0) (sym c.must_be_escaped.ensures ∙ w.if-must_be_escaped.false)))
    ]
