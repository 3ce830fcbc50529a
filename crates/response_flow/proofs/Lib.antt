mod Begins
mod Goes
mod Writing
mod Wanting
mod Showing
mod Tails
mod Ending
mod Wents
