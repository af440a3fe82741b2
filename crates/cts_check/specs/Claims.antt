-- The figures that a report prints of its nodes, as the types of the code hold them.
use Rattle.std.specs.Prelude.{◌≡◌, ℕ, ◌+◌, ◌*◌, ◌<◌, List, length, map, slice_get, slice_index_or, Option, Some, None, IfSome, MatchOption}
use Rattle.cts_units.specs.Delay.{slew_of}
use Rattle.cts_instance.specs.declared.version.Version.{Version}
use Rattle.cts_elmore.specs.declared.figures.NodeFigure.{NodeFigure}
use Rattle.cts_elmore.specs.declared.figures.Figures.{Figures}
use Rattle.cts_elmore.specs.Figures.{IsFigureInRange}
use Rattle.cts_report.specs.Printed.{PrintedKind, sink_leaf, pair_node, PrintedNode}
use Rattle.cts_report_reader.specs.declared.node.ReportNode.{ReportNode}
use Rattle.cts_report_reader.specs.Bounds.{IsPrintedPlace}
use Rattle.cts_report_reader.specs.Nodes.{IsSeenNode, seen_node}
use Rattle.cts_report_reader.specs.Seen.{seen_point}
use Rattle.cts_report_reader.specs.Totals.{seen_totals}
use Rattle.cts_report_reader.specs.declared.totals.ReportTotals.{ReportTotals}
use Rattle.cts_report.specs.Report.{printed_time, printed_totals}
use Rattle.cts_check.specs.declared.told.Claim.{Claim}

-- the residue of a pair
abbrev pub claimed_residue : PrintedKind → Option ℕ
claimed_residue (sink_leaf id) = None
claimed_residue (pair_node left right buffer residue) = Some residue

abbrev pub claim_of : PrintedNode → Claim
claim_of p = record { load = p.load; residue = claimed_residue p.kind; delay = p.delay; arrival = p.arrival; slew = p.slew }

-- the figures in a node of a report
abbrev pub claim_seen : ReportNode → Claim
claim_seen node = claim_of (seen_node node)

abbrev pub claims_seen : List ReportNode → List Claim
claims_seen nodes = map claim_seen nodes

-- a node with coordinates as a die can have, whose place is a spot
pub record IsTellable (node : ReportNode) : Type 0 where
  pub seen : IsSeenNode node
  pub place : IsPrintedPlace (seen_point node.place)

-- What is printed of a node are these figures of it. A leaf's arrival is its delay and twice the offset that its sink wants.
pub record IsClaimOf (claim : Claim) (figure : NodeFigure) : Type 0 where
  pub load : claim.load ≡ figure.below
  pub delay : claim.delay ≡ printed_time figure.delay
  pub slew : claim.slew ≡ slew_of figure.stage
  pub residue : IfSome claim.residue (λ residue. residue ≡ printed_time figure.residue)
  pub arrival : IfSome claim.arrival (λ arrival. arrival ≡ printed_time (figure.delay + 2 * figure.offset))

-- what is printed of the node of this number, if there is one, are its figures
abbrev pub IsClaimedAt : List Claim → List NodeFigure → ℕ → Type 0
IsClaimedAt claims figures k = MatchOption (slice_get claims k) (Unit {0}) (λ claim. IfSome (slice_get figures k) (IsClaimOf claim))

-- there is such a node, and its figures are those of a tree within the limits
pub record CanBeCompared (claims : List Claim) (figures : List NodeFigure) (k : ℕ) : Type 0 where
  pub claimed : k < length claims
  pub there : k < length figures
  pub in_range : (d : NodeFigure) → IsFigureInRange (slice_index_or figures k d)

-- what is printed of the node of this number are its figures; past the last node, what is printed of the whole tree are those
-- that a report of this version has
abbrev pub Agrees : Version → List Claim → ReportTotals → Figures → ℕ → Type 0
Agrees version claims totals figures k =
    MatchOption (slice_get claims k) (seen_totals totals ≡ printed_totals version figures)
    (λ claim. IfSome (slice_get figures.nodes k) (IsClaimOf claim))
