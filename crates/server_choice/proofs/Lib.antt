mod Put
mod Stars
mod Addresses
mod Firsts
mod Best
mod Chosen
mod Adding
mod Covered
