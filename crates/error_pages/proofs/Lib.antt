mod Rules
mod Nexts
