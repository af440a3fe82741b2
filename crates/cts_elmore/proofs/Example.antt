-- The definitions, computed on a worked tree: leaves of 5, 6 and 4 zF under wires of 5, 5 and 7 nm, the first two below a
-- buffer with 2 nm of wire above it, and 5 nm from the source, all at 1 µΩ and 1 zF per nm. The source has 2 µΩ, and the
-- buffer 3 zF, 1 µΩ and an intrinsic delay of 4.
use Rattle.std.proofs.Common.{◌≡◌, ℕ, pos, [], ◌∷◌, map, Some, None, refl}
use Rattle.cts_units.specs.declared.params.Sink.{Sink}
use Rattle.cts_units.specs.Delay.{wire_delay_of, buffer_delay_of}
use Rattle.cts_postorder.specs.BinaryTree.{BinaryTree, tip, fork, label}
use Rattle.cts_postorder.specs.Occurrence.{occurrences, tips}
use Rattle.cts_tree.specs.declared.nodes.NodeKind.{NodeKind}
use Rattle.cts_tree.specs.declared.nodes.NodeKind.TheVariants.{Leaf, Pair}
use Rattle.cts_tree.specs.declared.nodes.TreeNode.{TreeNode}
use Rattle.cts_instance.specs.declared.parts.Parts.{Parts}
use Rattle.cts_instance.specs.declared.version.Version.TheVariants.{Two}
use Rattle.cts_elmore.specs.Loads.{load_below, reached, source_load, leaf_pins}
use Rattle.cts_elmore.specs.Delays.{delay_at, stage_at}
use Rattle.cts_elmore.specs.Skew.{greatest_of, least_of, greatest_below, greatest_delay_below, leaf_delays, leaf_arrivals, residue, skew, bound}

abbrev sink : ℕ → ℕ → ℕ → Sink
sink id cap offset = record { id = id; x = pos 0; y = pos 0; cap = cap; offset = offset }

abbrev instance : Parts
instance = record {
  version = Two;
  die = record { x1 = pos 0; y1 = pos 0; x2 = pos 20; y2 = pos 20 };
  source_x = pos 0;
  source_y = pos 0;
  source_r = 2;
  params = record {
    wire = record { r = 1; c = 1 };
    library = record { cin = 3; rout = 1; intrinsic = 4 } ∷ [];
    insert_at = 20;
  };
  load_limit = 100;
  slew_limit = 100;
  sinks = sink 7 5 0 ∷ sink 8 6 0 ∷ sink 9 4 0 ∷ [];
  blocks = [];
}

abbrev node : NodeKind → ℕ → TreeNode
node kind wire = record {
  kind = kind;
  place = record { u = pos 0; v = pos 0 };
  wire = wire;
  route = record { corners = []; length = wire };
}

abbrev left : BinaryTree TreeNode
left = fork (tip (node (Leaf 7 0) 5)) (tip (node (Leaf 8 1) 5)) (node (Pair 0 1 (Some 0)) 2)

abbrev right : BinaryTree TreeNode
right = tip (node (Leaf 9 2) 7)

abbrev whole : BinaryTree TreeNode
whole = fork left right (node (Pair 2 3 None) 5)

-- 5 + 5 + 5 + 6 below the buffer, whose input alone is reached from the root: 2 + 3 + 7 + 4
example_loads : map (λ o. load_below instance o.here) (occurrences [] whole) ≡ 5 ∷ 6 ∷ 21 ∷ 4 ∷ 16 ∷ []
unfolding load_below reached occurrences label
example_loads = refl

example_source_load : source_load instance whole ≡ 21
unfolding load_below reached label
example_source_load = refl

-- 84 from the source and 185 of the root's wire; then 16 of the buffer's wire, its 8 + 42, and 75 and 85; or 105
example_delays : map (delay_at instance whole) (occurrences [] whole) ≡ 410 ∷ 420 ∷ 285 ∷ 374 ∷ 269 ∷ []
unfolding delay_at load_below reached occurrences label wire_delay_of buffer_delay_of
example_delays = refl

-- the buffer's 42 begins a stage
example_stages : map (stage_at instance whole) (occurrences [] whole) ≡ 117 ∷ 127 ∷ 285 ∷ 374 ∷ 269 ∷ []
unfolding stage_at load_below reached occurrences label wire_delay_of
example_stages = refl

-- 50 + 85 below the buffer, and 16 above it
example_greatest : map (λ o. greatest_below instance o.here) (occurrences [] whole) ≡ 0 ∷ 0 ∷ 135 ∷ 0 ∷ 151 ∷ []
unfolding greatest_below greatest_of load_below reached occurrences tips label wire_delay_of buffer_delay_of
example_greatest = refl

-- 85 - 75, and 16 + 135 - 105
example_residues : map (λ o. residue instance o.here) (occurrences [] whole) ≡ 0 ∷ 0 ∷ 10 ∷ 0 ∷ 46 ∷ []
unfolding residue greatest_below greatest_of load_below reached occurrences tips label wire_delay_of buffer_delay_of
example_residues = refl

-- 420 - 374
example_skew : skew instance whole ≡ 46
unfolding skew greatest_of least_of delay_at load_below reached tips label wire_delay_of buffer_delay_of
example_skew = refl

-- 46 + 10
example_bound : bound instance whole ≡ 56
unfolding bound residue greatest_below greatest_of load_below reached tips label wire_delay_of buffer_delay_of
example_bound = refl

-- Where an offset is wanted, delays and arrivals differ: leaves of 5 zF each under wires of 3 and 7 nm, of which the first
-- wants its edge earlier by 40, below 3 nm of wire from a source without resistance.
abbrev early : Parts
early = record instance { source_r = 0; sinks = sink 1 5 40 ∷ sink 2 5 0 ∷ [] }

abbrev two : BinaryTree TreeNode
two = fork (tip (node (Leaf 1 0) 3)) (tip (node (Leaf 2 1) 7)) (node (Pair 0 1 None) 3)

early_pins : leaf_pins early (node (Leaf 1 0) 3 ∷ node (Leaf 2 1) 7 ∷ node (Pair 0 1 None) 3 ∷ [])
    ≡ record { cap = 5; offset = 40 } ∷ record { cap = 5; offset = 0 } ∷ []
early_pins = refl

-- 129 of the root's wire, and 39 or 119
early_delays : leaf_delays early two ≡ 168 ∷ 248 ∷ []
unfolding delay_at load_below reached tips label wire_delay_of buffer_delay_of
early_delays = refl

-- 168 + 2 * 40, and 248
early_arrivals : leaf_arrivals early two ≡ 248 ∷ 248 ∷ []
unfolding delay_at load_below reached tips label wire_delay_of buffer_delay_of
early_arrivals = refl

-- 80 + 39, or 119; of delays alone 119 is the greatest too
early_greatest : map (λ o. greatest_below early o.here) (occurrences [] two) ≡ 80 ∷ 0 ∷ 119 ∷ []
unfolding greatest_below greatest_of load_below reached occurrences tips label wire_delay_of buffer_delay_of
early_greatest = refl

early_greatest_delays : map (λ o. greatest_delay_below early o.here) (occurrences [] two) ≡ 0 ∷ 0 ∷ 119 ∷ []
unfolding greatest_delay_below greatest_of load_below reached occurrences tips label wire_delay_of buffer_delay_of
early_greatest_delays = refl

-- 119 - 119, where the delays differ by 80
early_residue : residue early two ≡ 0
unfolding residue greatest_below greatest_of load_below reached tips label wire_delay_of buffer_delay_of
early_residue = refl

early_skew : skew early two ≡ 0
unfolding skew greatest_of least_of delay_at load_below reached tips label wire_delay_of buffer_delay_of
early_skew = refl

early_bound : bound early two ≡ 0
unfolding bound residue greatest_below greatest_of load_below reached tips label wire_delay_of buffer_delay_of
early_bound = refl
