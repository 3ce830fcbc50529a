mod Splits
mod Evals
mod Tokens
pub mod Settles
mod Builtins
mod Alone
mod Seams
