mod Moves
mod Keeps
mod Told
