use Rattle.cts_notes.proofs.Noting.{noted, noted_in_part}
use Rattle.cts_draw.proofs.drawing.draw.Goals as goal

pub returns-clause-draws : goal.returns-clause-draws
returns-clause-draws g c = (
  c.answer-ending.result,
  c.answer-ending.ensures,
  c.status_of.ensures,
  noted c.write_note.result c.write_note.ensures,
  noted_in_part c.write_note.result c.write_note.ensures,
)
