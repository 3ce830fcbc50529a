-- What the head of a reply would say beside its status.
use Rattle.std.specs.Prelude.{◌≡◌, option_map}
use Rattle.request_reply.specs.declared.reply.Reply.{Reply}
use Rattle.node_turn.specs.declared.said.Said.{Said}

-- as a reply has it
abbrev pub said_by : Reply → Said
said_by reply = record {
  kind = option_map (λ t. t.now) reply.kind;
  length = reply.length;
  known = reply.known;
  modified = reply.modified;
  location = reply.location;
  closes = reply.closes;
  gone = reply.gone;
  read = reply.read;
}

abbrev pub IsSaidBy : Reply → Said → Type 0
IsSaidBy reply said = said ≡ said_by reply
