use Rattle.cts_report_reader.proofs.PointLoops.{one_corner_found, one_corner_missed}
use Rattle.cts_report_reader.proofs.points.one_corner.Goals as goal

pub returns-in-Some-clause-found : goal.returns-in-Some-clause-found
returns-in-Some-clause-found c = one_corner_found c.args.bytes.now c.in-Some.corner c.in-Some.rest c.one.result c.one.ensures c.in-Some.ensures.found

pub returns-in-None-clause-found : goal.returns-in-None-clause-found
returns-in-None-clause-found c = one_corner_missed c.args.bytes.now c.in-None.ensures.found
