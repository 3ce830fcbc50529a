use Rattle.std.proofs.Common.{arith}
use Rattle.conf_text.proofs.StepLaws.{reads-bare, reads-led, bare-semicolon, bare-open, bare-close_top, bare-close, bare-end_top, bare-end, bare-wrong, led-semicolon, led-open, led-open_deep, led-close, led-end, led-wrong}
use Rattle.conf_text.proofs.reader.step_of.Goals as goal

pub returns-in-Semicolon : goal.returns-in-Semicolon
returns-in-Semicolon c = λ all line rest line' rest' r.
    let read = reads-bare _ _ _ _ all line rest line' rest' c.in-Bare.is c.in-Semicolon.is r in
    bare-semicolon _ _ _ all _ read.0

pub returns-in-Open : goal.returns-in-Open
returns-in-Open c = λ all line rest line' rest' r.
    let read = reads-bare _ _ _ _ all line rest line' rest' c.in-Bare.is c.in-Open.is r in
    bare-open _ _ _ all _ read.0

pub returns-then-depth-eq0 : goal.returns-then-depth-eq0
returns-then-depth-eq0 c = λ all line rest line' rest' r.
    let read = reads-bare _ _ _ _ all line rest line' rest' c.in-Bare.is c.in-Close.is r in
    bare-close_top _ _ _ all _ c.if-depth-eq0.true read.0

pub returns-else-depth-eq0 : goal.returns-else-depth-eq0
returns-else-depth-eq0 c = λ all line rest line' rest' r.
    let read = reads-bare _ _ _ _ all line rest line' rest' c.in-Bare.is c.in-Close.is r in
    (bare-close _ _ _ all _ c.if-depth-eq0.false read.0, (read.1, omega arith))

pub returns-then-depth-eq0-2 : goal.returns-then-depth-eq0-2
returns-then-depth-eq0-2 c = λ all line rest line' rest' r.
    let read = reads-bare _ _ _ _ all line rest line' rest' c.in-Bare.is c.in-End.is r in
    bare-end_top _ _ _ all _ c.if-depth-eq0-2.true read

pub returns-else-depth-eq0-2 : goal.returns-else-depth-eq0-2
returns-else-depth-eq0-2 c = λ all line rest line' rest' r.
    let read = reads-bare _ _ _ _ all line rest line' rest' c.in-Bare.is c.in-End.is r in
    bare-end _ _ _ all _ c.if-depth-eq0-2.false read

pub returns-in-Wrong : goal.returns-in-Wrong
returns-in-Wrong c = λ all line rest line' rest' r.
    let read = reads-bare _ _ _ _ all line rest line' rest' c.in-Bare.is c.in-Wrong.is r in
    bare-wrong _ _ _ _ all _ read

pub returns-in-Semicolon-sign : goal.returns-in-Semicolon-sign
returns-in-Semicolon-sign c = λ all line rest line' rest' r.
    let read = reads-led _ _ _ _ _ _ _ all line rest line' rest' c.in-Led.is c.in-Semicolon-sign.is r in
    (led-semicolon _ _ _ _ _ _ all _ read.0, (read.1, c.requires))

pub returns-then-depth-lt-DEEPEST : goal.returns-then-depth-lt-DEEPEST
returns-then-depth-lt-DEEPEST c = λ all line rest line' rest' r.
    let read = reads-led _ _ _ _ _ _ _ all line rest line' rest' c.in-Led.is c.in-Open-sign.is r in
    (led-open _ _ _ _ _ _ all _ c.if-depth-lt-DEEPEST.true read.0, (read.1, omega arith))

pub returns-else-depth-lt-DEEPEST : goal.returns-else-depth-lt-DEEPEST
returns-else-depth-lt-DEEPEST c = λ all line rest line' rest' r.
    let read = reads-led _ _ _ _ _ _ _ all line rest line' rest' c.in-Led.is c.in-Open-sign.is r in
    led-open_deep _ _ _ _ _ _ all _ (omega arith) read.0

pub returns-in-Close-sign : goal.returns-in-Close-sign
returns-in-Close-sign c = λ all line rest line' rest' r.
    let read = reads-led _ _ _ _ _ _ _ all line rest line' rest' c.in-Led.is c.in-Close-sign.is r in
    led-close _ _ _ _ _ _ all _ read.0

pub returns-in-End-sign : goal.returns-in-End-sign
returns-in-End-sign c = λ all line rest line' rest' r.
    let read = reads-led _ _ _ _ _ _ _ all line rest line' rest' c.in-Led.is c.in-End-sign.is r in
    led-end _ _ _ _ _ _ all _ read

pub returns-in-Wrong-sign : goal.returns-in-Wrong-sign
returns-in-Wrong-sign c = λ all line rest line' rest' r.
    let read = reads-led _ _ _ _ _ _ _ all line rest line' rest' c.in-Led.is c.in-Wrong-sign.is r in
    led-wrong _ _ _ _ _ _ _ all _ read
