pub mod Ends
pub mod Input
pub mod Kinds
pub mod Log
pub mod Memos
pub mod Near
pub mod Notes
pub mod Outcome
pub mod Reading
pub mod Replay
pub mod Right
pub mod Runs
pub mod Streams
pub mod Synthesised
pub mod Text
pub mod Trunk
pub mod TrunkWords
pub mod Verdict
pub mod Words
pub mod Written
pub use Rattle.cts_plain.specs.Synthesis
pub use Rattle.cts_near.specs.Synthesis as NearSynthesis
pub use Rattle.cts_script.specs.Generator
pub use Rattle.cts_script.specs.Text as InstanceText
pub use Rattle.cts_check.specs.Verdict as CheckedVerdict
pub use Rattle.cts_memo.specs.Tables
pub use Rattle.cts_memo.specs.Numbers
pub use Rattle.cts_memo.specs.Sound
pub use Rattle.cts_script.specs.Scripts
pub use Rattle.cts_history.specs.Legal
pub use Rattle.cts_history.specs.Replies
pub use Rattle.cts_history.specs.History
pub use Rattle.cts_trunk.specs.Laid
pub use Rattle.cts_trunk.specs.Lines as TrunkLines
pub use Rattle.cts_undo.specs.Replay as Undoing
pub use Rattle.cts_script.specs.Replays
pub use Rattle.cts_undo.specs.Answers as ReplayAnswers
pub use Rattle.cts_undo.specs.ReplayText
pub use Rattle.cts_notes.specs.Front
pub use Rattle.cts_notes.specs.Status
pub use Rattle.cts_notes.specs.Notes as RefusalNotes
