-- The measures of a picture, in 10^-4 µm: the unit in which the last digit of a report's coordinates counts.
use Rattle.std.specs.Prelude.{ℕ, zero, suc, ◌+◌, ◌-◌, ◌*◌, ◌/◌, ◌^◌, ◌≤◌, min, max, nat_le, if◌then◌else◌, ℤ, unsigned_abs}
use Rattle.cts_geom.specs.declared.bounds.Die.{Die}
use Rattle.cts_picture.specs.declared.frame.Frame.{Frame}

-- a coordinate in nm, which is not below 0 in a valid instance
abbrev pub drawn : ℤ → ℕ
drawn x = 10 * unsigned_abs x

-- the longer side of the die
abbrev pub longer_side : Die → ℕ
longer_side die = max (drawn die.x2 - drawn die.x1) (drawn die.y2 - drawn die.y1)

-- how many of the thinnest wires side by side are as wide as the longer side is long, where so many sinks are drawn
abbrev pub wires_across : ℕ → ℕ
wires_across sinks = if nat_le sinks 64 then 600 else (if nat_le sinks 2048 then 1200 else 3000)

-- a bar that is ten times as long, where the longer side is twice that at least
abbrev pub longer : ℕ → ℕ → ℕ
longer bar side = if nat_le (20 * bar) side then 10 * bar else bar

-- the same so many times
unfoldable pub lengthened : ℕ → ℕ → ℕ → ℕ
lengthened zero bar side = bar
lengthened (suc times) bar side = lengthened times (longer bar side) side

-- the scale bar: the greatest power of ten in nm that is at most half of the longer side, or 1 nm
abbrev pub bar_of : ℕ → ℕ
bar_of side = lengthened 8 10 side

-- the measures for a die and so many sinks
abbrev pub frame_of : Die → ℕ → Frame
frame_of die sinks = record {
  x1 = drawn die.x1;
  y1 = drawn die.y1;
  x2 = drawn die.x2;
  y2 = drawn die.y2;
  line = longer_side die / 500 + 1;
  stroke = longer_side die / wires_across sinks + 1;
  bar = bar_of (longer_side die);
}

-- the free space around the die, on each side
abbrev pub margin : Frame → ℕ
margin frame = 25 * frame.line

-- the picture of the die and what lies in it, with its margins
abbrev pub width : Frame → ℕ
width frame = (frame.x2 - frame.x1) + 2 * margin frame

abbrev pub height : Frame → ℕ
height frame = (frame.y2 - frame.y1) + 2 * margin frame

-- its height on the page, where the page has a width of 1000
abbrev pub height_on_page : Frame → ℕ
height_on_page frame = min 1000 (1000 * height frame / width frame + 1)

-- the corners are in order, and all numbers of a length that a die can have
pub record IsFrame (frame : Frame) : Type 0 where
  pub x_order : frame.x1 ≤ frame.x2
  pub x_high : frame.x2 ≤ 10 ^ 9
  pub y_order : frame.y1 ≤ frame.y2
  pub y_high : frame.y2 ≤ 10 ^ 9
  pub line_low : 1 ≤ frame.line
  pub line_high : frame.line ≤ 10 ^ 8
  pub stroke_high : frame.stroke ≤ 10 ^ 10
  pub bar_high : frame.bar ≤ 10 ^ 10
