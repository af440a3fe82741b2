use Rattle.cts_report.proofs.words.put_place.Goals as goal

pub halves-requires : goal.halves-requires
halves-requires g c = c.requires

pub returns : goal.returns
returns g c = rw c.halves.ensures.point at c.put_point.ensures
