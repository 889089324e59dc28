mod Heights
mod Inserts
mod Together
