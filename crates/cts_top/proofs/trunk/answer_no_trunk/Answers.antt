use Rattle.std.proofs.Common.{codes, refl}
use Rattle.cts_trunk.specs.declared.trunk.TrunkEnd.TheVariants as end
use Rattle.cts_top.specs.declared.stop.Answer.TheVariants as answer
use Rattle.cts_top.specs.Trunk.{IsNoTrunkLine}
use Rattle.cts_top.proofs.Writing.{answers_by}
use Rattle.cts_top.proofs.trunk.answer_no_trunk.Goals as goal

pub returns-in-Buffer : goal.returns-in-Buffer
returns-in-Buffer g c =
    rw (c.in-Buffer.is, c.ended.ensures)
    (answers_by (IsNoTrunkLine end.Buffer) _ _ _ _ answer.NoTrunk (codes "no trunk: buffer\n") c.write_line.result (refl, refl)
    c.write_line.ensures)

pub returns-in-Many : goal.returns-in-Many
returns-in-Many g c =
    rw (c.in-Many.is, c.ended-in-Many.ensures)
    (answers_by (IsNoTrunkLine end.Many) _ _ _ _ answer.NoTrunk (codes "no trunk: many\n") c.write_line-in-Many.result (refl, refl)
    c.write_line-in-Many.ensures)

pub returns-in-Beyond : goal.returns-in-Beyond
returns-in-Beyond g c =
    rw (c.in-Beyond.is, c.ended-in-Beyond.ensures)
    (answers_by (IsNoTrunkLine end.Beyond) _ _ _ _ answer.NoTrunk (codes "no trunk: beyond\n") c.write_line-in-Beyond.result (refl, refl)
    c.write_line-in-Beyond.ensures)
