mod Told
mod Inner
mod Reaching
