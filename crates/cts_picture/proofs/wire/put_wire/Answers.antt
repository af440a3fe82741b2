use Rattle.std.proofs.Common.{sym}
use Rattle.cts_io.proofs.Chains.{◌▸◌}
use Rattle.cts_picture.specs.Wires.{wire_text}
use Rattle.cts_picture.proofs.wire.put_wire.Goals as goal

pub returns : goal.returns
unfolding wire_text
returns g c =
    rw (sym c.route_length-route.ensures, sym c.delay_class.ensures)
    (c.put_whole.ensures ▸ c.put_dash.ensures ▸ c.put.ensures ▸ c.put_course.ensures ▸ c.put_title.ensures)
