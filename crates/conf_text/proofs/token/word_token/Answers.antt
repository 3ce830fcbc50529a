use Rattle.std.proofs.Common.{◌∙◌}
use Rattle.conf_text.proofs.TokenLaws.{BeginsWord, token-read_whole, token-read_faulty}
use Rattle.conf_text.proofs.token.word_token.Goals as goal

pub returns-in_ok-text-in-None : goal.returns-in_ok-text-in-None
returns-in_ok-text-in-None c =
    let begins : BeginsWord c.args.first = record { no_space = c.requires.space; no_hash = c.requires.comment; no_semicolon = c.requires.semicolon; no_open = c.requires.open; no_close = c.requires.close } in
    token-read_whole _ _ _ _ _ _ _ _ _ c.requires.here begins c.in-None.is (c.in_ok-text-in-None.ensures ∙ c.as_slice.ensures) c.in_ok-read_word.ensures

pub returns-in-Some : goal.returns-in-Some
returns-in-Some c =
    let begins : BeginsWord c.args.first = record { no_space = c.requires.space; no_hash = c.requires.comment; no_semicolon = c.requires.semicolon; no_open = c.requires.open; no_close = c.requires.close } in
    token-read_faulty _ _ _ _ _ _ _ _ _ c.requires.here begins c.in-Some.is c.in_ok-read_word.ensures
