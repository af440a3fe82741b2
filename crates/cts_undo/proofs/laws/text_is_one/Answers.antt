use Rattle.std.proofs.Common.{ap}
use Rattle.cts_undo.specs.Answers.{after_steps}
use Rattle.cts_undo.specs.ReplayText.{replay_text}
use Rattle.cts_undo.proofs.OneReply.{replies_one}
use Rattle.cts_undo.proofs.laws.text_is_one.Goals as goal

pub returns : goal.returns
returns c = λ s steps replies others are also. ap (replay_text (after_steps s steps).done) (replies_one s steps replies others are also)
