use Rattle.std.proofs.Common.{sym, ap}
use Rattle.body_frame.specs.State.{body_of, rest_body}
use Rattle.body_frame.proofs.state.BodyState.new.Goals as goal

pub returns-in-Empty : goal.returns-in-Empty
unfolding body_of rest_body
returns-in-Empty c = λ text. ap (λ k. body_of k text) (sym c.in-Empty.is)

pub returns-in-Length : goal.returns-in-Length
unfolding body_of rest_body
returns-in-Length c = λ text. ap (λ k. body_of k text) (sym c.in-Length.is)

pub returns-in-Chunked : goal.returns-in-Chunked
unfolding body_of rest_body
returns-in-Chunked c = λ text. ap (λ k. body_of k text) (sym c.in-Chunked.is)
