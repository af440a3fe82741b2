-- What holds of edits and their inverses, and of the replies to the steps of every replay.
use Rattle.std.specs.Prelude.{◌≡◌, List}
use Rattle.cts_units.specs.declared.params.Sink.{Sink}
use Rattle.cts_units.specs.Ids.{HasDistinctIds}
use Rattle.cts_edit.specs.declared.edit.Edit.{Edit}
use Rattle.cts_edit.specs.Edits.{applied}
use Rattle.cts_undo.specs.declared.inverse.Inverse.{Inverse}
use Rattle.cts_undo.specs.Inverses.{IsInverse, Meets, taken_back}
use Rattle.cts_undo.specs.Replay.{State}
use Rattle.cts_script.specs.declared.replay.ReplayStep.{ReplayStep}
use Rattle.cts_undo.specs.declared.reply.ReplayReply.{ReplayReply}
use Rattle.cts_undo.specs.Answers.{AreReplies, after_steps}
use Rattle.cts_undo.specs.ReplayText.{replay_text}

-- An edit that these sinks may meet, as each that is accepted, has an inverse, however many sinks there are.
abbrev pub EditsHaveInverses : Type 0
EditsHaveInverses = (sinks : List Sink) (edit : Edit) → Meets edit sinks → (inverse : Inverse) × IsInverse sinks edit inverse

-- the edit and then its inverse give the sinks back, their places and their order included
abbrev pub InversesTakeBack : Type 0
InversesTakeBack =
    (sinks : List Sink) (edit : Edit) (inverse : Inverse) → HasDistinctIds (λ sink. sink.id) sinks → Meets edit sinks
    → IsInverse sinks edit inverse → taken_back inverse (applied edit sinks) ≡ sinks

-- the steps have one list of replies at most, from any state on
abbrev pub RepliesAreOne : Type 0
RepliesAreOne =
    (s : State) (steps : List ReplayStep) (replies others : List ReplayReply) → AreReplies s steps replies
    → AreReplies s steps others → replies ≡ others

-- so the steps have one text: that of what is done after them and of the replies
abbrev pub TextIsOne : Type 0
TextIsOne =
    (s : State) (steps : List ReplayStep) (replies others : List ReplayReply) → AreReplies s steps replies
    → AreReplies s steps others
    → replay_text (after_steps s steps).done replies ≡ replay_text (after_steps s steps).done others
