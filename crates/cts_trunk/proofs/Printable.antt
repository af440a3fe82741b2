-- What is laid can be printed.
use Rattle.std.proofs.Common.{◌≡◌, ℕ, ◌+◌, ◌*◌, ◌<◌, ◌≤◌, true, List, map, length, get_or, sym, ap, subst, ◌∙◌, arith}
use Rattle.std.specs.List.{range_with_len}
use Rattle.std.proofs.lemmas.Int.{ints}
use Rattle.std.proofs.lemmas.List.{length-map}
use Rattle.std.proofs.lemmas.List.Elements.{filter_passes}
use Rattle.cts_geom.specs.declared.points.Half.{Half}
use Rattle.cts_geom.specs.declared.bounds.Die.{Die}
use Rattle.cts_geom.specs.Points.{point_of}
use Rattle.cts_units.specs.declared.params.Buffer.{Buffer}
use Rattle.cts_units.specs.Limits.{max_delay}
use Rattle.cts_block.specs.FreePoints.{IsHalfInDie}
use Rattle.cts_tree.specs.declared.nodes.TreeNode.{TreeNode}
use Rattle.cts_instance.specs.declared.parts.Parts.{Parts}
use Rattle.cts_instance.specs.Validity.{IsDie, IsValid}
use Rattle.cts_elmore.specs.declared.figures.Figures.{Figures}
use Rattle.cts_elmore.specs.Figures.{AreFiguresInRange}
use Rattle.cts_report.specs.Report.{IsOnSheet}
use Rattle.cts_trunk.specs.declared.places.Stand.{Stand}
use Rattle.cts_trunk.specs.declared.sums.Reach.{Reach}
use Rattle.cts_trunk.specs.declared.trunk.Trunk.{Trunk}
use Rattle.cts_trunk.specs.Assembled.{IsTrunkWith, nowhere, unreached}
use Rattle.cts_trunk.specs.Extended.{Span}
use Rattle.cts_trunk.specs.Lines.{IsPrintableRepeater, IsPrintableTrunk}
use Rattle.cts_trunk.specs.Places.{chosen, is_free_at}
use Rattle.cts_trunk.specs.Road.{AreStands}
use Rattle.cts_trunk.specs.TrunkSums.{AreReaches, cuts_of}
use Rattle.cts_trunk.specs.Way.{point_along}
use Rattle.cts_trunk.proofs.Freedom.{free_from}
use Rattle.cts_trunk.proofs.Reaches.{cut_at}
use Rattle.cts_trunk.proofs.Roads.{spot_in_range}

on_sheet : (die : Die) → IsDie die → (p : Half) → IsHalfInDie die p → IsOnSheet p
on_sheet die is p inside = record {
  x = omega (arith, ints, inside.x.at_least, is.x_low);
  y = omega (arith, ints, inside.y.at_least, is.y_low);
}

module _ (i : Parts) (valid : IsValid i) (way : List Half) (step count : ℕ) (places : List Stand)
    (are : AreStands i.blocks i.die way step count places) where
  -- each place is in the die, since it is free
  in_die_at : (d : ℕ) → is_free_at i.blocks i.die way d ≡ true → IsHalfInDie i.die (point_along way d)
  unfolding is_free_at
  in_die_at d free = (free_from i.blocks i.die (point_along way d) free).in_die

  place_in_die : (k : ℕ) → k < length places → IsHalfInDie i.die (point_of (get_or places k nowhere).place)
  place_in_die k h =
      let s : Stand = get_or places k nowhere in
      let long : length (cuts_of places) ≡ length places = length-map places (λ (p : Stand). p.length) in
      let cut : get_or (chosen (λ n. is_free_at i.blocks i.die way (2 * n)) step count) k 0 ≡ s.length =
      ap (λ cuts. get_or cuts k 0) (sym are.lengths) ∙ cut_at places k nowhere h in
      let free : is_free_at i.blocks i.die way (2 * get_or (chosen (λ n. is_free_at i.blocks i.die way (2 * n)) step count) k 0) ≡ true =
      filter_passes (λ n. is_free_at i.blocks i.die way (2 * n)) (map (λ m. m * step) (range_with_len 1 count)) k 0
      (omega (arith, h, long, ap length are.lengths)) in
      let here : IsHalfInDie i.die (point_along way (2 * s.length)) =
      subst (λ n. IsHalfInDie i.die (point_along way (2 * n))) cut (in_die_at _ free) in
      subst (IsHalfInDie i.die) (sym (are.places k nowhere h)) here

  pub printable : (buffer : Buffer) (wires : List Span) (reaches : List Reach) → AreReaches i buffer wires (length places + 1) reaches
      → (nodes : List TreeNode) (figures : Figures) (old : ℕ) → AreFiguresInRange figures → (trunk : Trunk)
      → IsTrunkWith i nodes figures places reaches old trunk → IsPrintableTrunk trunk
  printable buffer wires reaches reach nodes figures old range trunk is =
      let last : (get_or reaches (length places) unreached).delay ≤ max_delay = reach.each_within (length places) unreached (omega arith) in
      let last_stage = (reach.each_wire (length places) unreached (omega arith)).stage_le in
      record {
        each_repeater = λ k d h.
            let within : k < length places = omega (arith, h, is.repeaters.long) in
            let inside : IsHalfInDie i.die (point_of (get_or places k nowhere).place) = place_in_die k within in
            let delay : (get_or reaches k unreached).delay ≤ max_delay = reach.each_within k unreached (omega (arith, within)) in
            let stage = (reach.each_wire k unreached (omega (arith, within))).stage_le in
            subst IsPrintableRepeater (sym (is.repeaters.each_stand k d within)) (record {
              in_range = spot_in_range i.die valid.die (get_or places k nowhere).place inside;
              place = on_sheet i.die valid.die (point_of (get_or places k nowhere).place) inside;
              delay = omega (arith, delay);
              stage = omega (arith, delay, stage);
            });
        root_delay = omega (arith, is.values.root_delay, last);
        root_stage = omega (arith, is.values.root_stage, last, last_stage);
        greatest = omega (arith, is.values.greatest, last, range.greatest_within);
        least = omega (arith, is.values.least, last, range.least_within);
        skew = omega (arith, is.values.skew_is, range.skew_within);
      }
