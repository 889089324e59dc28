mod Groves
mod Crowns
mod Parts
mod Rows
mod Seedlings
mod Planted
mod Laid
mod Orders
