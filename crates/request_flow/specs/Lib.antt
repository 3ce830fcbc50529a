pub mod Terms
pub mod Padded
pub mod Rests
pub mod Flows
pub mod Sents
pub mod Pages
pub mod Reached
pub use Rattle.reply_out.specs.answers_meaning as answers_meaning
pub use Rattle.family_rest.specs.family_order as family_order
pub use Rattle.family_rest.specs as family_rest
pub use Rattle.family_rest.specs.race_meaning as race_meaning
pub use Rattle.reply_out.specs as reply_out
pub use Rattle.reply_out.specs.request_opening as request_opening
pub use Rattle.reply_out.specs.request_phases as request_phases
pub use Rattle.reply_out.specs.rewrite_code as rewrite_code
