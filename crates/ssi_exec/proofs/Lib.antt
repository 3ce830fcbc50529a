mod Acts
mod Alone
mod Inside
mod Ifs
mod Wordings
mod Texts
