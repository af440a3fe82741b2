use Rattle.cts_notes.proofs.Wording.{AreTaken}
use Rattle.cts_notes.proofs.words.words_of.Given as goal

abbrev pub invariant-loop-number : goal.invariant-loop-number
invariant-loop-number g l = record {
  words : AreTaken (g.A.Arguments.told l.arguments) l.words.items l.number;
}
