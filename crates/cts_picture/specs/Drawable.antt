-- Reports that can be drawn: every report that was read is one.
use Rattle.std.specs.Prelude.{ℕ, ◌^◌, ◌<◌, ◌≤◌, ℤ, pos, ◌≤ℤ◌, length, All, Option, IfSome}
use Rattle.cts_report_reader.specs.declared.node.ReportNode.{ReportNode}
use Rattle.cts_report_reader.specs.declared.totals.ReportArrivals.{ReportArrivals}
use Rattle.cts_report_reader.specs.declared.totals.ReportTotals.{ReportTotals}
use Rattle.cts_report_reader.specs.declared.report.Report.{Report}
use Rattle.cts_report_reader.specs.Nodes.{IsSeenNode, seen_arrival}
use Rattle.cts_picture.specs.declared.wire.Scale.{Scale}
use Rattle.cts_picture.specs.declared.wire.Dot.{Dot}

-- an arrival that is told has at most 38 digits
abbrev pub IsDrawableArrival : Option ℕ → Type 0
IsDrawableArrival told = IfSome told (λ arrival. arrival < 10 ^ 38)

-- its numbers have at most 38 digits, and its corners lie where a die can lie
pub record IsDrawableNode (node : ReportNode) : Type 0 where
  pub seen : IsSeenNode node
  pub load : node.load < 10 ^ 38
  pub delay : node.delay < 10 ^ 38
  pub arrival : IsDrawableArrival (seen_arrival node.kind)
  pub slew : node.slew < 10 ^ 38
  pub few : length node.corners ≤ 65536

pub record HasDrawableArrivals (arrivals : ReportArrivals) : Type 0 where
  pub greatest : arrivals.greatest < 10 ^ 38
  pub least : arrivals.least < 10 ^ 38

pub record HasDrawableTotals (totals : ReportTotals) : Type 0 where
  pub wire_total : totals.wire_total < 10 ^ 38
  pub greatest : totals.greatest < 10 ^ 38
  pub least : totals.least < 10 ^ 38
  pub arrivals : IfSome totals.arrivals HasDrawableArrivals
  pub skew : totals.skew < 10 ^ 38
  pub bound : totals.bound < 10 ^ 38

pub record IsDrawable (report : Report) : Type 0 where
  pub nodes : All IsDrawableNode report.nodes.items
  pub totals : HasDrawableTotals report.totals

-- a point where a die can lie, in 10^-4 µm
pub record IsDot (dot : Dot) : Type 0 where
  pub x : dot.x ≤ 10 ^ 9
  pub y : dot.y ≤ 10 ^ 9

-- classes of delay that are not empty
pub record IsScale (scale : Scale) : Type 0 where
  pub start : scale.start < 10 ^ 38
  pub step : 1 ≤ scale.step

-- a point where a die can lie, in nm
pub record IsPlace (x y : ℤ) : Type 0 where
  pub x_low : pos 0 ≤ℤ x
  pub x_high : x ≤ℤ pos (10 ^ 8)
  pub y_low : pos 0 ≤ℤ y
  pub y_high : y ≤ℤ pos (10 ^ 8)

-- the corners of a rectangle where a die can lie, in nm
pub record IsOutline (x1 y1 x2 y2 : ℤ) : Type 0 where
  pub x_low : pos 0 ≤ℤ x1
  pub x_order : x1 ≤ℤ x2
  pub x_high : x2 ≤ℤ pos (10 ^ 8)
  pub y_low : pos 0 ≤ℤ y1
  pub y_order : y1 ≤ℤ y2
  pub y_high : y2 ≤ℤ pos (10 ^ 8)
