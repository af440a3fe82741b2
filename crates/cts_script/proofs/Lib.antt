pub mod Draws
pub mod Limits
pub mod PlainSteps
pub mod PlainReplays
pub mod StepLists
pub mod ReplayLists
pub mod Lists
pub mod Valid
mod Rows
mod ScriptRows
mod ReplayRows
pub mod WrittenWords
pub mod WrittenLines
pub mod WrittenText
pub mod WrittenInstance
pub mod WrittenSteps
pub mod WrittenScripts
