mod Values
mod Acts
mod Programs
mod Cuts
mod Alone
