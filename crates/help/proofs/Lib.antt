mod HelpTurns
pub mod Lemmas
