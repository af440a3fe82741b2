-- The ends of a merging region.
use Rattle.std.proofs.Common.{◌≡◌, ℕ, ◌+◌, ◌≤◌, pos, ◌+ℤ◌, ◌-ℤ◌, refl, sym, subst, arith}
use Rattle.std.proofs.lemmas.Int.{ints, clamps}
use Rattle.std.specs.Int.{int_min, int_max}
use Rattle.cts_geom.specs.declared.regions.Region.{Region}
use Rattle.cts_geom.specs.Regions.{IsMeet, gap_of}
use Rattle.cts_geom.proofs.RegionLemmas.{IsReachedBoth, reached_from_gap, meet_is}
use Rattle.cts_merge.specs.MergingRegion.{HasEnds}
use Rattle.cts_merge.specs.Laws.{MergedRegionHasEnds}
use Rattle.cts_merge.proofs.Merges.{meet_unique}

-- what two rectangles share, each widened by its length
pub record Box (a : Region) (ea : ℕ) (b : Region) (eb : ℕ) : Type 0 where
  pub region : Region
  pub ends : HasEnds a ea b eb region
  pub meet : IsMeet a ea b eb region

pub box_of : (a : Region) (ea : ℕ) (b : Region) (eb : ℕ) → gap_of a b ≤ ea + eb → Box a ea b eb
box_of a ea b eb reach =
    let both : IsReachedBoth a b (ea + eb) = reached_from_gap a b (ea + eb) reach in
    let box : Region = record {
      u1 = int_max (a.u1 -ℤ pos ea) (b.u1 -ℤ pos eb);
      u2 = int_min (a.u2 +ℤ pos ea) (b.u2 +ℤ pos eb);
      v1 = int_max (a.v1 -ℤ pos ea) (b.v1 -ℤ pos eb);
      v2 = int_min (a.v2 +ℤ pos ea) (b.v2 +ℤ pos eb);
      u_ordered = omega (arith, ints, clamps);
      v_ordered = omega (arith, ints, clamps);
    } in
    record {
      region = box;
      ends = record { u1 = refl; u2 = refl; v1 = refl; v2 = refl };
      meet = meet_is a ea b eb box (record { u1 = refl; u2 = refl; v1 = refl; v2 = refl });
    }

-- a merging region has those ends
pub meet_ends : (a : Region) (ea : ℕ) (b : Region) (eb : ℕ) (region : Region) → gap_of a b ≤ ea + eb
    → IsMeet a ea b eb region → HasEnds a ea b eb region
meet_ends a ea b eb region reach meet =
    let box : Box a ea b eb = box_of a ea b eb reach in
    let same : region ≡ box.region = meet_unique a b region box.region ea eb ea eb refl refl meet box.meet in
    subst (λ (r : Region). HasEnds a ea b eb r) (sym same) box.ends

pub merged_ends : MergedRegionHasEnds
merged_ends params a b p merged =
    meet_ends a.region p.ea b.region p.eb p.side.region (omega (arith, merged.least.admissible)) merged.region
