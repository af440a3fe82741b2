-- A merge joins two regions over their gap, or leaves one of them where it is.
use Rattle.std.proofs.Common.{ℕ, inl, inr}
use Rattle.cts_geom.specs.declared.regions.Region.{Region}
use Rattle.cts_geom.specs.RegionLaws.{IsTight}
use Rattle.cts_geom.specs.Regions.{gap_of}
use Rattle.cts_geom.proofs.MeetLemmas.{meet-segment, meet-boxed}
use Rattle.cts_merge.specs.LeastPair.{Spans}
use Rattle.cts_merge.specs.Laws.{MergingKeepsSegments, MergingStaysInBox}

tight : (a b : Region) (ea eb : ℕ) → Spans (gap_of a b) ea eb → IsTight a ea b eb
tight a b ea eb ok =
    elim ok [
      | inl across ↦ inl across
      | inr snakes ↦ elim snakes [
        | inl second ↦ inr (inl second.0)
        | inr first ↦ inr (inr first.0)
      ]
    ]

pub merging_segment : MergingKeepsSegments
merging_segment params a b p merged segment_a segment_b =
    meet-segment a.region p.ea b.region p.eb p.side.region merged.region
    (tight a.region b.region p.ea p.eb merged.least.admissible) segment_a segment_b

pub merging_in_box : MergingStaysInBox
merging_in_box params a b p merged x1 x2 y1 y2 in_a in_b =
    meet-boxed x1 x2 y1 y2 a.region p.ea b.region p.eb p.side.region merged.region
    (tight a.region b.region p.ea p.eb merged.least.admissible) in_a in_b
