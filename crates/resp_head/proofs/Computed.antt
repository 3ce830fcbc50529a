-- The definitions compute: to unfold these words is enough at a written-out head.
use Rattle.std.proofs.Common.{◌≡◌, false, true, codes, refl, Some, None}
use Rattle.std.specs.Bool.{⊤}
use Rattle.std.specs.Fmt.{digits}
use Rattle.http_moment.proofs.Computed.{date_on_literals}
use Rattle.resp_head.specs.Phrases.{phrases, phrase_in, phrase_of}
use Rattle.resp_head.specs.Values.{value_byte, value_text, hex_digit, escape, location_byte, location_text}
use Rattle.resp_head.specs.Head.{crlf, field_line, field_lines, status_line, server_field, date_field, type_field, length_field, modified_field, location_field, chunked_field, connection_field, optional, is_bodiless, type_fields, length_fields, modified_fields, location_fields, transfer_fields, fields_with, head_with, fields_of, head_of}

-- what an answer unfolds to compute the text of a head
unfoldable pub head_on_literals : ⊤
unfolding date_on_literals digits phrases phrase_in phrase_of value_byte value_text hex_digit escape location_byte location_text crlf field_line field_lines status_line server_field date_field type_field length_field modified_field location_field chunked_field connection_field optional is_bodiless type_fields length_fields modified_fields location_fields transfer_fields fields_with head_with fields_of head_of
head_on_literals = tt

pub example : head_of (record { status = 200; moment = 0; kind = Some (codes "text/plain"); length = Some 2; modified = None; location = Some (codes "/a b"); chunked = false; keep = true }) ≡ codes "HTTP/1.1 200 OK\r\nServer: nginx\r\nDate: Thu, 01 Jan 1970 00:00:00 GMT\r\nContent-Type: text/plain\r\nContent-Length: 2\r\nLocation: /a%20b\r\nConnection: keep-alive\r\n\r\n"
unfolding head_on_literals
example = refl
