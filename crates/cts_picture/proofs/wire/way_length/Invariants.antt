use Rattle.std.proofs.Common.{◌≡◌, ◌+◌, ◌*◌, ◌^◌, ◌≤◌, [], ◌∷◌, ◌++◌, drop, map}
use Rattle.cts_report_reader.specs.Seen.{seen_point}
use Rattle.cts_picture.specs.Dots.{seen_dot}
use Rattle.cts_picture.specs.Drawable.{IsDot}
use Rattle.cts_picture.specs.Wires.{way_length}
use Rattle.cts_picture.proofs.wire.way_length.Given as goal

abbrev pub invariant-loop-corner : goal.invariant-loop-corner
invariant-loop-corner l =
    (l.length + way_length (seen_dot l.at) (map seen_point (drop l.corner-index l.corners) ++ seen_dot l.lower ∷ [])
    ≡ way_length (seen_dot l.fn.upper) (map seen_point l.corners ++ seen_dot l.lower ∷ []))
    × (l.length ≤ l.corner-index * (2 * 10 ^ 9)) × IsDot l.at
