-- A replay: what its input spells, and the text for it.
use Rattle.std.specs.Prelude.{◌≡◌, ℕ, ◌≤◌, List, ◌++◌, length, Result, Ok}
use Rattle.cts_instance.specs.declared.parts.Parts.{Parts}
use Rattle.cts_read.specs.Grammar.{◌>>=◌, Refusal}
use Rattle.cts_read.specs.Whole.{instance_of}
use Rattle.cts_notes.specs.Front.{input_limit}
use Rattle.cts_report.specs.Report.{report_text}
use Rattle.cts_edit.specs.declared.edit.Entry.{Entry}
use Rattle.cts_undo.specs.Replay.{opening}
use Rattle.cts_script.specs.declared.replay.ReplayStep.{ReplayStep}
use Rattle.cts_script.specs.Replays.{replay_at}
use Rattle.cts_session.specs.Desks.{version_of}
use Rattle.cts_undo.specs.declared.reply.ReplayReply.{ReplayReply}
use Rattle.cts_undo.specs.Answers.{AreReplies, after_steps}
use Rattle.cts_undo.specs.ReplayText.{replay_text}
use Rattle.cts_top.specs.declared.stop.Answer.{Answer}
use Rattle.cts_top.specs.Text.{TellsSynthesis}

-- the instance at the front of a text and the steps of a replay, which are all that follows it; or the first line that offends
-- and its first cause
unfoldable pub replayed_of : List ℕ → Result (Parts × List ReplayStep) Refusal
replayed_of bytes = do
  taken ← instance_of bytes
  asked ← replay_at taken.1
  Ok (taken.0.0, asked)

-- The input is not too long, and spells this instance and then these steps.
pub record SpellsReplay (bytes : List ℕ) (i : Parts) (asked : List ReplayStep) : Type 0 where
  pub within : length bytes ≤ input_limit
  pub read : replayed_of bytes ≡ Ok (i, asked)

-- the changes that are done after all steps
abbrev pub done_at_end : Parts → List ReplayStep → List Entry
done_at_end i asked = (after_steps (opening i) asked).done

-- the instance with the sinks after them
abbrev pub version_at_end : Parts → List ReplayStep → Parts
version_at_end i asked = version_of i (done_at_end i asked)

-- The text for these changes and replies, and its kind: after them stands the text for a synthesis of the version.
pub record TellsReplayed (version : Parts) (done : List Entry) (replies : List ReplayReply) (kind : Answer) (text : List ℕ) : Type 0 where
  pub report : List ℕ
  pub tells : TellsSynthesis report_text version kind report
  pub told : text ≡ replay_text done replies ++ report

-- The text for a replay: the changes that are done at its end, the right reply to each step, and the text for the synthesis of
-- the sinks after these changes.
pub record TellsReplay (i : Parts) (asked : List ReplayStep) (kind : Answer) (text : List ℕ) : Type 0 where
  pub replies : List ReplayReply
  pub right : AreReplies (opening i) asked replies
  pub told : TellsReplayed (version_at_end i asked) (done_at_end i asked) replies kind text
