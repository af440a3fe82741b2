-- The text of a trunk with repeaters, line by line, each with its line feed. It is of version 1 in instances of version 2 too,
-- and has no arrivals.
use Rattle.std.specs.Prelude.{ℕ, ◌+◌, ◌^◌, ◌≤◌, List, [], ◌∷◌, ◌++◌, length, codes, All}
use Rattle.cts_geom.specs.Points.{IsSpotInRange, point_of}
use Rattle.cts_units.specs.Delay.{slew_of}
use Rattle.cts_report.specs.Lines.{whole, length_in_um, capacitance, time, answer, point_words, text_of_lines}
use Rattle.cts_report.specs.Report.{printed_point, printed_time, IsOnSheet}
use Rattle.cts_trunk.specs.declared.trunk.Repeater.{Repeater}
use Rattle.cts_trunk.specs.declared.trunk.Trunk.{Trunk}

-- the line of the repeater of this number
unfoldable pub repeater_line : ℕ → Repeater → List ℕ
repeater_line number repeater =
    whole (codes "repeater ") number ++ codes " at" ++ point_words (printed_point (point_of repeater.place))
    ++ length_in_um (codes " length ") repeater.length ++ capacitance (codes " load ") repeater.load
    ++ time (codes " delay ") (printed_time repeater.delay) ++ time (codes " slew ") (slew_of repeater.stage) ++ codes "\n"

-- the lines of repeaters that are numbered from `number` on
unfoldable pub repeater_lines : ℕ → List Repeater → List (List ℕ)
repeater_lines number [] = []
repeater_lines number (repeater ∷ repeaters) = repeater_line number repeater ∷ repeater_lines (number + 1) repeaters

-- the line that says how many repeaters there are
unfoldable pub count_line : ℕ → List ℕ
count_line count = whole (codes "repeaters ") count ++ codes "\n"

-- the line of the root
unfoldable pub root_line : ℕ → ℕ → List ℕ
root_line delay stage =
    time (codes "root delay ") (printed_time delay) ++ time (codes " slew ") (slew_of stage) ++ codes "\n"

-- the lines on the whole tree, and the last line
unfoldable pub closing_lines : Trunk → List (List ℕ)
closing_lines trunk =
    root_line trunk.root_delay trunk.root_stage
    ∷ (time (codes "delay greatest ") (printed_time trunk.greatest) ++ codes "\n")
    ∷ (time (codes "delay least ") (printed_time trunk.least) ++ codes "\n")
    ∷ (time (codes "skew ") (printed_time trunk.skew) ++ codes "\n")
    ∷ (capacitance (codes "source load ") trunk.source_load ++ codes "\n")
    ∷ answer (codes "load met") trunk.load_met
    ∷ answer (codes "slew met") trunk.slew_met
    ∷ codes "end\n"
    ∷ []

unfoldable pub trunk_lines : Trunk → List (List ℕ)
trunk_lines trunk =
    codes "cts trunk 1\n" ∷ count_line (length trunk.repeaters) ∷ (repeater_lines 1 trunk.repeaters ++ closing_lines trunk)

abbrev pub trunk_text : Trunk → List ℕ
trunk_text trunk = text_of_lines (trunk_lines trunk)

-- a repeater's place is on the sheet, and its times have at most 38 digits in print
pub record IsPrintableRepeater (repeater : Repeater) : Type 0 where
  pub in_range : IsSpotInRange repeater.place
  pub place : IsOnSheet (point_of repeater.place)
  pub delay : repeater.delay ≤ 10 ^ 37
  pub stage : repeater.stage ≤ 2 ^ 120

-- so have those of the whole; what `lay_trunk` gives can be printed
pub record IsPrintableTrunk (trunk : Trunk) : Type 0 where
  pub each_repeater : All IsPrintableRepeater trunk.repeaters
  pub root_delay : trunk.root_delay ≤ 10 ^ 37
  pub root_stage : trunk.root_stage ≤ 2 ^ 120
  pub greatest : trunk.greatest ≤ 10 ^ 37
  pub least : trunk.least ≤ 10 ^ 37
  pub skew : trunk.skew ≤ 10 ^ 37
