mod Finding
mod Same
mod Unique
