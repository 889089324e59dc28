mod Numbers
mod DigitCounts
mod SheetTexts
mod PlainRows
mod HaveRead
mod EndRows
mod Refusals
mod Entries
pub mod Lemmas
