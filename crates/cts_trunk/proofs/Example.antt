-- The definitions, computed on a worked trunk: a sink of 5 zF at the end of a wire of 10 nm from a source without resistance,
-- at 1 µΩ and 1 zF per nm, with repeaters of 3 zF and 1 µΩ every 4 nm.
use Rattle.std.proofs.Common.{◌≡◌, ℕ, ℤ, pos, List, [], ◌∷◌, map, refl}
use Rattle.cts_units.specs.declared.params.Buffer.{Buffer}
use Rattle.cts_units.specs.Delay.{wire_delay_of, buffer_delay_of}
use Rattle.cts_block.specs.declared.blocks.Block.{Block}
use Rattle.cts_block.specs.declared.blocks.Kind.TheVariants as kind
use Rattle.cts_postorder.specs.BinaryTree.{tip, label}
use Rattle.cts_tree.specs.declared.nodes.NodeKind.TheVariants.{Leaf}
use Rattle.cts_tree.specs.declared.nodes.TreeNode.{TreeNode}
use Rattle.cts_instance.specs.declared.parts.Parts.{Parts}
use Rattle.cts_instance.specs.declared.version.Version.TheVariants.{One}
use Rattle.cts_elmore.specs.Loads.{load_below}
use Rattle.cts_trunk.specs.Way.{point_along}
use Rattle.cts_trunk.specs.Places.{is_free_at, stands}
use Rattle.cts_trunk.specs.Extended.{spans, trunk_of, load_on, delay_on, stage_on}

abbrev repeater : Buffer
repeater = record { cin = 3; rout = 1; intrinsic = 0 }

-- at this height, with these blocks
abbrev instance : ℕ → List Block → Parts
instance y blocks = record {
  version = One;
  die = record { x1 = pos 0; y1 = pos 0; x2 = pos 20; y2 = pos 20 };
  source_x = pos 0;
  source_y = pos y;
  source_r = 0;
  params = record { wire = record { r = 1; c = 1 }; library = repeater ∷ []; insert_at = 100 };
  load_limit = 100;
  slew_limit = 100;
  sinks = record { id = 1; x = pos 10; y = pos y; cap = 5; offset = 0 } ∷ [];
  blocks = blocks;
}

abbrev leaf : ℤ → ℤ → TreeNode
leaf u v = record {
  kind = Leaf 1 0;
  place = record { u = u; v = v };
  wire = 10;
  route = record { corners = []; length = 10 };
}

-- both places are free
example_stands : stands (instance 0 []) (leaf (pos 10) (pos 10)) 4 ≡ 4 ∷ 8 ∷ []
unfolding stands is_free_at point_along
example_stands = refl

-- 3 + 4 twice, and 5 + 2
example_loads : map (load_on (instance 0 []) repeater (trunk_of (instance 0 []) (tip (leaf (pos 10) (pos 10))) repeater (4 ∷ 8 ∷ []))) (0 ∷ 1 ∷ 2 ∷ [])
    ≡ 7 ∷ 7 ∷ 7 ∷ []
unfolding spans load_below label
example_loads = refl

-- 40 of the first wire, 14 + 40, and 14 + 24
example_delays : map (delay_on (instance 0 []) repeater (trunk_of (instance 0 []) (tip (leaf (pos 10) (pos 10))) repeater (4 ∷ 8 ∷ []))) (0 ∷ 1 ∷ 2 ∷ [])
    ≡ 40 ∷ 94 ∷ 132 ∷ []
unfolding spans delay_on load_below label wire_delay_of buffer_delay_of
example_delays = refl

example_stages : map (stage_on (instance 0 []) repeater (trunk_of (instance 0 []) (tip (leaf (pos 10) (pos 10))) repeater (4 ∷ 8 ∷ []))) (0 ∷ 1 ∷ 2 ∷ [])
    ≡ 40 ∷ 54 ∷ 38 ∷ []
unfolding spans stage_on load_below label wire_delay_of
example_stages = refl

-- a block around (4, 5) leaves (8, 5) alone
abbrev block : Block
block = record { kind = kind.Buffer; x1 = pos 3; y1 = pos 2; x2 = pos 5; y2 = pos 8 }

example_blocked : stands (instance 5 (block ∷ [])) (leaf (pos 15) (pos 5)) 4 ≡ 8 ∷ []
unfolding stands is_free_at point_along
example_blocked = refl

-- 112 of the first wire, and 14 + 24
example_blocked_delays : map (delay_on (instance 5 (block ∷ [])) repeater (trunk_of (instance 5 (block ∷ [])) (tip (leaf (pos 15) (pos 5))) repeater (8 ∷ [])))
    (0 ∷ 1 ∷ []) ≡ 112 ∷ 150 ∷ []
unfolding spans delay_on load_below label wire_delay_of buffer_delay_of
example_blocked_delays = refl

example_blocked_load : load_on (instance 5 (block ∷ [])) repeater (trunk_of (instance 5 (block ∷ [])) (tip (leaf (pos 15) (pos 5))) repeater (8 ∷ [])) 0 ≡ 11
unfolding spans load_below label
example_blocked_load = refl
