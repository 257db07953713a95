mod Counting
mod Appending
mod Lines
