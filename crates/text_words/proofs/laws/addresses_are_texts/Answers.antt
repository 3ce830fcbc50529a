use Rattle.text_words.proofs.AddressLaws.{ipv4_both, ipv6_both}
use Rattle.text_words.proofs.laws.addresses_are_texts.Goals as goal

pub returns-clause-ipv4 : goal.returns-clause-ipv4
returns-clause-ipv4 c = ipv4_both

pub returns-clause-ipv6 : goal.returns-clause-ipv6
returns-clause-ipv6 c = ipv6_both
