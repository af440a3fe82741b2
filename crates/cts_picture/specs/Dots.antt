-- The points of a picture as those of a report.
use Rattle.std.specs.Prelude.{ℤ}
use Rattle.cts_report.specs.Printed.{PrintedPoint}
use Rattle.cts_picture.specs.declared.wire.Dot.{Dot}
use Rattle.cts_picture.specs.Frame.{drawn}

abbrev pub seen_dot : Dot → PrintedPoint
seen_dot dot = record { x = dot.x; y = dot.y }

-- a place in nm
abbrev pub drawn_point : ℤ → ℤ → PrintedPoint
drawn_point x y = record { x = drawn x; y = drawn y }
