-- What a draw gives: the tree of a version, or why there is none.
use Rattle.std.specs.Prelude.{◌≡◌, ◌⊎◌, ℕ, List, All, length}
use Rattle.cts_instance.specs.declared.parts.Parts.{Parts}
use Rattle.cts_instance.specs.Validity.{IsValid}
use Rattle.cts_topo.specs.Topology.{shape_of}
use Rattle.cts_up.specs.Plan.{IsLeastBeyond as IsBeyondInPlan}
use Rattle.cts_elmore.specs.Figures.{AreFigures, AreFiguresInRange}
use Rattle.cts_elmore.specs.Sound.{IsSound, StandsInDie}
use Rattle.cts_plain.specs.declared.end.NoTree.{NoTree}
use Rattle.cts_plain.specs.declared.end.NoTree.TheVariants.{Beyond, Cut}
use Rattle.cts_plain.specs.declared.end.NoTree.TheVariants.{NoMemory as no_memory}
use Rattle.cts_plain.specs.Synthesis.{IsSynthesis, beyond, cut, made}
use Rattle.cts_plain.specs.declared.totals.Totals.{Totals}
use Rattle.cts_plain.specs.Totals.{AreTotalsOver}
use Rattle.cts_memo.specs.declared.entry.MemoEntry.{MemoEntry}
use Rattle.cts_memo.specs.Numbers.{AreKnown}
use Rattle.cts_memo.specs.Sound.{max_entries}
use Rattle.cts_edit.specs.declared.edit.Entry.{Entry}
use Rattle.cts_session.specs.declared.draw.Drawn.{Drawn}
use Rattle.cts_session.specs.declared.draw.VersionTotals.{VersionTotals}
use Rattle.cts_session.specs.declared.draw.TreeEnd.{TreeEnd}
use Rattle.cts_session.specs.declared.draw.TreeEnd.TheVariants.{None as no_tree, NoMemory}
use Rattle.cts_session.specs.Desks.{version_of}

-- The tree of a version of the sinks, with its figures.
pub record IsTreeOf (i : Parts) (number : ℕ) (drawn : Drawn) : Type 0 where
  pub version : drawn.version ≡ number
  pub valid : IsValid i
  pub tree : IsSynthesis i (made drawn.tree)
  pub figures : AreFigures i drawn.tree drawn.figures
  pub sound : IsSound i drawn.tree
  pub one_each : length drawn.figures.nodes ≡ length drawn.tree
  pub in_range : AreFiguresInRange drawn.figures
  pub in_die : All (StandsInDie i.die) drawn.tree

-- the version is the one after these edits
abbrev pub IsDrawn : Parts → List Entry → Drawn → Type 0
IsDrawn base edits drawn = IsTreeOf (version_of base edits) (length edits) drawn

-- the skew and the wire of an instance's synthesis
abbrev pub AreTotals : Parts → Totals → Type 0
AreTotals i totals = AreTotalsOver i (shape_of i.sinks) totals

-- those of a version of the sinks
pub record AreTotalsOf (i : Parts) (number : ℕ) (summed : VersionTotals) : Type 0 where
  pub version : summed.version ≡ number
  pub totals : AreTotals i summed.totals

-- the version is the one after these edits
abbrev pub IsSummedUp : Parts → List Entry → VersionTotals → Type 0
IsSummedUp base edits summed = AreTotalsOf (version_of base edits) (length edits) summed

-- The version after these edits has no tree: the synthesis of its sinks comes to a node that is beyond, or cut. Or memory ran
-- out.
abbrev pub EndsDraw : Parts → List Entry → TreeEnd → Type 0
EndsDraw base edits (no_tree version (Beyond node)) = (version ≡ length edits) × IsSynthesis (version_of base edits) (beyond node)
EndsDraw base edits (no_tree version (Cut node)) = (version ≡ length edits) × IsSynthesis (version_of base edits) (cut node)
EndsDraw base edits (no_tree version no_memory) = ⊥
EndsDraw base edits NoMemory = Unit {0}

-- how a draw of a version ends that has no tree
abbrev pub end_at : ℕ → NoTree → TreeEnd
end_at version (Beyond node) = no_tree version (Beyond node)
end_at version (Cut node) = no_tree version (Cut node)
end_at version no_memory = NoMemory

-- a memo has a number for every node of an instance's tree, or is full
abbrev pub KnowsTree : Parts → List MemoEntry → Type 0
KnowsTree i entries = (length entries ≡ max_entries) ⊎ AreKnown entries i.sinks (shape_of i.sinks)

-- The same where there is no tree, but for a node that is beyond in the plan.
abbrev pub KnowsUntil : Parts → List MemoEntry → NoTree → Type 0
KnowsUntil i entries (Beyond node) = IsBeyondInPlan i.params i.sinks (shape_of i.sinks) node ⊎ KnowsTree i entries
KnowsUntil i entries (Cut node) = KnowsTree i entries
KnowsUntil i entries no_memory = Unit {0}

-- and the same of a draw that ends so
abbrev pub KnowsAtEnd : Parts → List MemoEntry → TreeEnd → Type 0
KnowsAtEnd i entries (no_tree version why) = KnowsUntil i entries why
KnowsAtEnd i entries NoMemory = Unit {0}
