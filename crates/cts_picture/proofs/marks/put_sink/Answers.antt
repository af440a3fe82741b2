use Rattle.std.proofs.Common.{◌∙◌, ◌^◌, ◌≤◌, ap, arith}
use Rattle.cts_io.proofs.Chains.{◌▸◌}
use Rattle.cts_picture.specs.Frame.{drawn}
use Rattle.cts_picture.specs.Sheet.{sink_text}
use Rattle.cts_picture.proofs.Found.{whole}
use Rattle.cts_picture.proofs.marks.put_sink.Goals as goal

few : 10 ^ 8 ≤ 200000000
few = omega arith

pub returns : goal.returns
unfolding sink_text
returns g c =
    let x = c.drawn.ensures.same ∙ ap drawn (whole c.args.pin.x (10 ^ 8) few c.requires.x_low c.requires.x_high) in
    let y = c.drawn-2.ensures.same ∙ ap drawn (whole c.args.pin.y (10 ^ 8) few c.requires.y_low c.requires.y_high) in
    (rw x at c.put_coordinate.ensures) ▸ (rw y at c.put_coordinate-2.ensures) ▸ c.put.ensures
