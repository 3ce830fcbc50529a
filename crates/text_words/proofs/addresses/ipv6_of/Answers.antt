use Rattle.std.proofs.Common.{sym}
use Rattle.text_words.proofs.AddressLaws.{ipv6_found, ipv6_none}
use Rattle.text_words.proofs.addresses.ipv6_of.Goals as goal

pub returns-in-Ok : goal.returns-in-Ok
returns-in-Ok c = sym (ipv6_found c.args.text.now _ c.in-Ok.ensures)

pub returns-in-Err : goal.returns-in-Err
returns-in-Err c = sym (ipv6_none c.args.text.now c.in-Err.ensures)
