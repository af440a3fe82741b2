-- What the rules say of a report that was read.
use Rattle.std.specs.Prelude.{ℕ, ◌<◌, Option, Some, None}
use Rattle.cts_instance.specs.declared.parts.Parts.{Parts}
use Rattle.cts_elmore.specs.declared.figures.Figures.{Figures}
use Rattle.cts_elmore.specs.Figures.{AreFigures}
use Rattle.cts_report.specs.Printed.{Printed}
use Rattle.cts_check.specs.declared.verdict.Rule.{Rule}
use Rattle.cts_check.specs.declared.verdict.Verdict.{Verdict}
use Rattle.cts_check.specs.declared.verdict.Verdict.TheVariants.{Yes, NotText, Wrong}
use Rattle.cts_check.specs.Rules.{rank, Meets, IsFirstBroken}
use Rattle.cts_check.specs.Told.{told_nodes}

-- the report meets every rule at every number, and its tree has figures
pub record MeetsRules (i : Parts) (printed : Printed) : Type 0 where
  pub meets : (rule : Rule) (k : ℕ) → Meets i printed rule k
  pub figures : Figures
  pub are_figures : AreFigures i (told_nodes i.sinks printed.nodes) figures

abbrev pub Judges : Parts → Printed → Verdict → Type 0
Judges i printed Yes = MeetsRules i printed
Judges i printed (NotText line) = ⊥
Judges i printed (Wrong rule node) = IsFirstBroken i printed rule node

-- the report meets every rule before one
abbrev pub MeetsBefore : Parts → Printed → ℕ → Type 0
MeetsBefore i printed count = (rule : Rule) → rank rule < count → (k : ℕ) → Meets i printed rule k

-- the first of the four rules before the limits that is broken, or none
abbrev pub IsFirstOfFour : Parts → Printed → Option (Rule × ℕ) → Type 0
IsFirstOfFour i printed None = MeetsBefore i printed 4
IsFirstOfFour i printed (Some broken) = IsFirstBroken i printed broken.0 broken.1
