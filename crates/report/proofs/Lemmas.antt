-- The lemmas of this crate that the layers above may cite.
pub use Rattle.report.proofs.Streams.{part_of_first, text_whole}
pub use Rattle.report.proofs.Texts.{on_err}
