-- What the definitions of this crate say of one another.
use Rattle.std.specs.Prelude.{◌≡◌, ℕ, ◌+◌, ◌*◌, ◌≤◌, ◌⊎◌, max, ℤ}
use Rattle.std.specs.Int.{abs_diff}
use Rattle.cts_geom.specs.RegionLaws.{IsBoxed, IsSegment}
use Rattle.cts_units.specs.declared.params.Sink.{Sink}
use Rattle.cts_units.specs.declared.params.Wire.{Wire}
use Rattle.cts_units.specs.declared.params.Params.{Params}
use Rattle.cts_units.specs.Limits.{IsWire}
use Rattle.cts_merge.specs.declared.side.Side.{Side}
use Rattle.cts_merge.specs.declared.side.Finished.{Finished}
use Rattle.cts_merge.specs.LeastPair.{HasLeastPair, Spans, Covers}
use Rattle.cts_merge.specs.Side.{delay_through}
use Rattle.cts_merge.specs.MergingRegion.{HasEnds}
use Rattle.cts_merge.specs.Merge.{IsLeaf, IsMergePair, IsMerged, IsBeyond}
use Rattle.cts_merge.specs.Balance.{IsBalancePair, IsBeyondBalance, IsBalanced}

-- the difference of the two delays of a pair of lengths
abbrev pub residue_of : Wire → Side → Side → ℕ → ℕ → ℕ
residue_of wire a b ea eb = abs_diff (delay_through wire a ea) (delay_through wire b eb)

-- Twice the difference that a merge leaves has a bound that is below what one unit more on both wires would add.
abbrev pub MergeResidueIsBounded : Type 0
MergeResidueIsBounded =
    (wire : Wire) (a b : Side) (ea eb : ℕ) → IsMergePair wire a b ea eb → IsWire wire
    → 2 * residue_of wire a b ea eb ≤ wire.r * (wire.c * (2 * (ea + eb) + 1) + 2 * a.load + 2 * b.load)

-- Twice the difference that a balance leaves is at most what one unit more would add to a wire of the longer
-- length into the greater load.
abbrev pub BalanceResidueIsBounded : Type 0
BalanceResidueIsBounded =
    (wire : Wire) (a b : Side) (la lb xa xb : ℕ) → IsBalancePair wire a la b lb xa xb → IsWire wire
    → 2 * residue_of wire a b xa xb ≤ wire.r * (wire.c * (2 * max xa xb + 1) + 2 * max a.load b.load)

-- two sides have a least pair over every gap, and over all routes
abbrev pub MergePairExists : Type 0
MergePairExists =
    (wire : Wire) (a b : Side) (gap : ℕ) → IsWire wire
    → HasLeastPair (delay_through wire a) (delay_through wire b) (Spans gap)

abbrev pub BalancePairExists : Type 0
BalancePairExists =
    (wire : Wire) (a b : Side) (la lb : ℕ) → IsWire wire
    → HasLeastPair (delay_through wire a) (delay_through wire b) (Covers la lb)

-- and one alone
abbrev pub MergePairIsOne : Type 0
MergePairIsOne =
    (wire : Wire) (a b : Side) (ea eb xa xb : ℕ) → IsMergePair wire a b ea eb → IsMergePair wire a b xa xb
    → (ea ≡ xa) × (eb ≡ xb)

abbrev pub BalancePairIsOne : Type 0
BalancePairIsOne =
    (wire : Wire) (a b : Side) (la lb ea eb xa xb : ℕ) → IsBalancePair wire a la b lb ea eb → IsBalancePair wire a la b lb xa xb
    → (ea ≡ xa) × (eb ≡ xb)

-- a sink has one leaf
abbrev pub LeafIsOne : Type 0
LeafIsOne = (sink : Sink) (p q : Finished) → IsLeaf sink p → IsLeaf sink q → p ≡ q

-- two sides have one pair
abbrev pub MergedIsOne : Type 0
MergedIsOne = (params : Params) (a b : Side) (p q : Finished) → IsMerged params a b p → IsMerged params a b q → p ≡ q

-- and no pair where they are beyond
abbrev pub MergedIsNotBeyond : Type 0
MergedIsNotBeyond = (params : Params) (a b : Side) (p : Finished) → IsMerged params a b p → IsBeyond params a b → ⊥

-- all sinks have a leaf, and all sides a pair, or else they are beyond
abbrev pub LeafExists : Type 0
LeafExists = (sink : Sink) → (leaf : Finished) × IsLeaf sink leaf

abbrev pub SidesMergeOrAreBeyond : Type 0
SidesMergeOrAreBeyond =
    (params : Params) (a b : Side) → IsWire params.wire
    → ((pair : Finished) × IsMerged params a b pair) ⊎ IsBeyond params a b

abbrev pub BalancedIsNotBeyond : Type 0
BalancedIsNotBeyond =
    (wire : Wire) (a : Side) (la : ℕ) (b : Side) (lb xa xb : ℕ) → IsBalanced wire a la b lb xa xb
    → IsBeyondBalance wire a la b lb → ⊥

-- the merging region by its four ends
abbrev pub MergedRegionHasEnds : Type 0
MergedRegionHasEnds =
    (params : Params) (a b : Side) (p : Finished) → IsMerged params a b p
    → HasEnds a.region p.ea b.region p.eb p.side.region

-- merging keeps points and segments at 45 degrees to the axes
abbrev pub MergingKeepsSegments : Type 0
MergingKeepsSegments =
    (params : Params) (a b : Side) (p : Finished) → IsMerged params a b p → IsSegment a.region → IsSegment b.region
    → IsSegment p.side.region

-- a merging region lies in every box that holds both regions
abbrev pub MergingStaysInBox : Type 0
MergingStaysInBox =
    (params : Params) (a b : Side) (p : Finished) → IsMerged params a b p
    → (x1 x2 y1 y2 : ℤ) → IsBoxed x1 x2 y1 y2 a.region → IsBoxed x1 x2 y1 y2 b.region
    → IsBoxed x1 x2 y1 y2 p.side.region
