pub mod Called
mod BlameCounts
pub mod Blames
pub mod Passes
pub mod Entered
pub mod LlxCalls
pub mod VlxCalls
pub mod ScxCalls
pub mod Meets
pub mod Closes
pub mod Copies
pub mod AllBack
pub mod Crowds
mod Took
mod Versions
mod UpkeepKept
mod DictCalls
mod AloneCalls
mod StepKinds
mod WholeCalls
mod OpenCalls
mod OpenSteps
mod OpenBegins
mod StraightGet
mod Begun
mod InWords
mod CallStays
mod Rested
mod LookUps
mod LastingLearns
mod LastingMeets
mod SlotTrees
mod LastingEnds
