use Rattle.std.proofs.Common.{map}
use Rattle.cts_io.proofs.Chains.{◌▸◌}
use Rattle.cts_report_reader.specs.Seen.{seen_point}
use Rattle.cts_picture.specs.Dots.{seen_dot}
use Rattle.cts_picture.proofs.Ways.{way_in_print}
use Rattle.cts_picture.proofs.wire.put_way.Goals as goal

pub returns : goal.returns
returns g c =
    rw (way_in_print (seen_dot c.args.upper) (map seen_point c.args.corners.now) (seen_dot c.args.lower))
    (c.put_dot.ensures ▸ c.put_points.ensures ▸ c.put_dot-2.ensures)
