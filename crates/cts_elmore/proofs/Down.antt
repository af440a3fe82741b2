-- One step of the pass downward: what a pair hands down to its two parts, from its figures.
use Rattle.std.proofs.Common.{◌≡◌, ℕ, ◌+◌, ◌*◌, ◌<◌, ◌≤◌, ◌↔◌, Bool, true, false, ◌||◌, List, [], ◌∷◌, length, get_or, slice_get, Option, Some, None, IsTrue, refl, sym, ap, ap₂, ◌∙◌, arith}
use Rattle.std.specs.Prelude.{if◌then◌else◌, is_some}
use Rattle.std.specs.Option.{option_map_or, option_and_then}
use Rattle.std.proofs.lemmas.Option.{slice_get-get_or}
use Rattle.cts_units.specs.declared.params.Buffer.{Buffer}
use Rattle.cts_units.specs.Delay.{wire_delay_of, buffer_delay_of, slew_of}
use Rattle.cts_units.specs.Choice.{added_delay_of, seen_load_of}
use Rattle.cts_units.specs.Limits.{max_length, max_delay}
use Rattle.cts_postorder.specs.BinaryTree.{BinaryTree, tip, fork, label, is_tip}
use Rattle.cts_postorder.specs.Occurrence.{Occurrence, occurrence}
use Rattle.cts_tree.specs.declared.nodes.NodeKind.{NodeKind}
use Rattle.cts_tree.specs.declared.nodes.NodeKind.TheVariants.{Leaf, Pair}
use Rattle.cts_tree.specs.declared.nodes.TreeNode.{TreeNode}
use Rattle.cts_tree.specs.Nodes.{buffer_of}
use Rattle.cts_instance.specs.declared.parts.Parts.{Parts}
use Rattle.cts_elmore.specs.declared.figures.NodeFigure.{NodeFigure}
use Rattle.cts_elmore.specs.declared.descent.Output.{Output}
use Rattle.cts_elmore.specs.Fits.{NamesBuffer}
use Rattle.cts_elmore.specs.Loads.{buffer_at, is_buffered, load_below, source_load}
use Rattle.cts_elmore.specs.Delays.{wire_delay, buffer_delay, output_delay, source_delay, delay_at, stage_at}
use Rattle.cts_elmore.specs.Skew.{greatest_below, residue}
use Rattle.cts_elmore.specs.Limits.{IsPairOver, IsRootOver, long_left, long_right, long_root, great_leaf_delay}
use Rattle.cts_elmore.specs.Figures.{IsNodeFigure, IsFigureInRange}
use Rattle.cts_elmore.specs.Outputs.{stage_after, IsHandedTo, IsOutput, IsPartFigure, IsSourceOutput, LoadIsMet, SlewIsMet}
use Rattle.cts_elmore.specs.Subtrees.{IsKnownBelow}
use Rattle.cts_elmore.proofs.Paths.{delay_at_root, delay_at_part, stage_at_root, stage_at_part}
use Rattle.cts_elmore.proofs.Below.{greatest_at_pair}
use Rattle.cts_elmore.proofs.Rising.{not_above, added_at_pair, through_is, offset_le}

-- A node's figures, and what bounds its delays: the arrivals at the leaves below it are within the limits.
pub record IsRight (i : Parts) (root : BinaryTree TreeNode) (o : Occurrence TreeNode) (f : NodeFigure) : Type 0 where
  pub figure : IsNodeFigure i root o f
  pub soon : f.delay + greatest_below i o.here ≤ max_delay
  pub stage_le : f.stage ≤ f.delay

-- so the figures are in range
pub residue_le : (i : Parts) (t : BinaryTree TreeNode) → residue i t ≤ greatest_below i t
unfolding residue
residue_le i (tip n) = omega arith
residue_le i (fork l r n) = omega (arith, greatest_at_pair i l r n)

pub figure_in_range : (i : Parts) (root : BinaryTree TreeNode) (o : Occurrence TreeNode) (f : NodeFigure) → IsRight i root o f
    → IsFigureInRange f
figure_in_range i root o f right = record {
  residue_within = omega (arith, right.figure.residue_is, residue_le i o.here, right.soon);
  delay_within = omega (arith, right.soon);
  stage_within = omega (arith, right.stage_le, right.soon);
  arrival_within = omega (arith, right.figure.offset, offset_le i o.here, right.soon);
}

-- the stage below a pair
stage_goes_on : (i : Parts) (l r : BinaryTree TreeNode) (n : TreeNode) (below stage : ℕ) → below ≡ load_below i (fork l r n)
    → stage_after i.params.library (buffer_of n.kind) below stage
    ≡ (if is_buffered i (fork l r n) then output_delay i (fork l r n) else stage)
stage_goes_on i l r n below stage is = by_buffer (buffer_of n.kind)
  where
    by_library : (o : Option Buffer) → option_map_or (λ (b : Buffer). 2 * b.rout * below) o stage
        ≡ (if is_some o then option_map_or (λ (b : Buffer). 2 * b.rout * load_below i (fork l r n)) o 0 else stage)
    by_library None = refl
    by_library (Some b) = ap (λ load. 2 * b.rout * load) is

    by_buffer : (o : Option ℕ) → stage_after i.params.library o below stage
        ≡ (if is_some (option_and_then (slice_get i.params.library) o)
        then option_map_or (λ (b : Buffer). 2 * b.rout * load_below i (fork l r n)) (option_and_then (slice_get i.params.library) o) 0
        else stage)
    by_buffer None = refl
    by_buffer (Some index) = by_library (slice_get i.params.library index)

-- no stage is later than the delay
stage_after_le : (library : List Buffer) (buffer : Option ℕ) (load stage delay : ℕ) → stage ≤ delay
    → stage_after library buffer load stage ≤ delay + added_delay_of library buffer load
unfolding buffer_delay_of
stage_after_le library None load stage delay h = omega (arith, h)
stage_after_le library (Some index) load stage delay h = by_library (slice_get library index)
  where
    by_library : (o : Option Buffer) → option_map_or (λ (b : Buffer). 2 * b.rout * load) o stage
        ≤ delay + option_map_or (λ (b : Buffer). buffer_delay_of b load) o 0
    by_library None = omega (arith, h)
    by_library (Some b) = omega arith

module _ (i : Parts) (root : BinaryTree TreeNode) where
  -- the delay of a wire, told by the kind and the load below
  through_wire : (t : BinaryTree TreeNode) (g : NodeFigure) (kind : NodeKind) (len : ℕ) → IsKnownBelow i t g
      → (label t).kind ≡ kind → (label t).wire ≡ len
      → wire_delay_of i.params.wire.r i.params.wire.c len (seen_load_of i.params.library (buffer_of kind) g.below) ≡ wire_delay i t
  through_wire t g kind len is kind_is len_is =
      through_is i t len (seen_load_of i.params.library (buffer_of kind) g.below) len_is
      (ap (λ k. seen_load_of i.params.library (buffer_of k) g.below) (sym kind_is) ∙ is.seen)

  -- what is handed down to a node gives it right figures, through its wire
  pub handed_right : (o : Occurrence TreeNode) (output : Output) → IsHandedTo i root o output → (g : NodeFigure) (kind : NodeKind)
      (len : ℕ) (f : NodeFigure) → IsKnownBelow i o.here g → (label o.here).kind ≡ kind → (label o.here).wire ≡ len
      → IsPartFigure i.params kind len g output f → IsRight i root o f
  handed_right o output handed g kind len f known kind_is len_is part =
      let through : wire_delay_of i.params.wire.r i.params.wire.c len (seen_load_of i.params.library (buffer_of kind) g.below)
      ≡ wire_delay i o.here =
      through_wire o.here g kind len known kind_is len_is in
      let delay : f.delay ≡ delay_at i root o = part.delay ∙ ap (λ x. output.delay + x) through ∙ handed.delay in
      record {
        figure = record {
          below = part.below ∙ known.below;
          residue_is = part.residue ∙ known.residue_is;
          delay = delay;
          stage = part.stage ∙ ap (λ x. output.stage + x) through ∙ handed.stage;
          offset = part.offset ∙ known.offset;
        };
        soon = omega (arith, delay, handed.soon);
        stage_le = omega (arith, part.stage, part.delay, handed.stage_le);
      }

  -- the source's output, to the root
  pub root_handed : (resistance load : ℕ) (output : Output) → IsSourceOutput resistance load output → resistance ≡ i.source_r
      → load ≡ source_load i root → ¬ IsRootOver i root → IsHandedTo i root (occurrence [] root) output
  root_handed resistance load output is resistance_is load_is not_over =
      let source : 2 * resistance * load ≡ source_delay i root = ap₂ (λ x y. 2 * x * y) resistance_is load_is in
      let arrives : source_delay i root + wire_delay i root + greatest_below i root ≤ max_delay =
      not_above _ max_delay (λ above. not_over (great_leaf_delay above)) in
      record {
        delay = ap (λ x. x + wire_delay i root) (is.delay ∙ source) ∙ sym (delay_at_root i root);
        stage = ap (λ x. x + wire_delay i root) (is.stage ∙ source) ∙ sym (stage_at_root i root);
        stage_le = omega (arith, is.delay, is.stage);
        short = not_above _ max_length (λ above. not_over (long_root above));
        soon = omega (arith, delay_at_root i root, arrives);
      }

  -- a pair's output, to its part at either side
  module _ (l r : BinaryTree TreeNode) (n : TreeNode) (above : List (BinaryTree TreeNode)) (here : NodeFigure) (output : Output)
      (right : IsRight i root (occurrence above (fork l r n)) here)
      (out : IsOutput i.params.library (buffer_of n.kind) here output) where
    part_handed : (t : BinaryTree TreeNode) → (label t).wire ≤ max_length
        → greatest_below i t + wire_delay i t + buffer_delay i (fork l r n) ≤ greatest_below i (fork l r n)
        → IsHandedTo i root (occurrence (fork l r n ∷ above) t) output
    part_handed t short deepest =
        let top : BinaryTree TreeNode = fork l r n in
        let added : added_delay_of i.params.library (buffer_of n.kind) here.below ≡ buffer_delay i top =
        added_at_pair i l r n here.below right.figure.below in
        let delay : output.delay ≡ delay_at i root (occurrence above top) + buffer_delay i top =
        out.delay ∙ ap₂ (λ x y. x + y) right.figure.delay added in
        let after : output.stage ≡ (if is_buffered i top then output_delay i top else stage_at i root (occurrence above top)) =
        out.stage ∙ stage_goes_on i l r n here.below here.stage right.figure.below
        ∙ ap (λ x. if is_buffered i top then output_delay i top else x) right.figure.stage in
        record {
          delay = ap (λ x. x + wire_delay i t) delay ∙ sym (delay_at_part i root top t above);
          stage = ap (λ x. x + wire_delay i t) after ∙ sym (stage_at_part i root top t above);
          stage_le = omega (
            arith,
            out.stage,
            out.delay,
            stage_after_le i.params.library (buffer_of n.kind) here.below here.stage here.delay right.stage_le,
          );
          short = short;
          soon = omega (arith, delay_at_part i root top t above, right.figure.delay, deepest, right.soon);
        }

    module _ (not_over : ¬ IsPairOver i (fork l r n)) where
      pub left_handed : IsHandedTo i root (occurrence (fork l r n ∷ above) l) output
      left_handed =
          part_handed l (not_above _ max_length (λ long. not_over (long_left long))) (omega (arith, greatest_at_pair i l r n))

      pub right_handed : IsHandedTo i root (occurrence (fork l r n ∷ above) r) output
      right_handed =
          part_handed r (not_above _ max_length (λ long. not_over (long_right long))) (omega (arith, greatest_at_pair i l r n))

-- whether a kind is a leaf's
abbrev pub is_leaf : NodeKind → Bool
is_leaf (Leaf id sink) = true
is_leaf (Pair left right buffer) = false

not_some : {A : Type 0} (o : Option A) → o ≡ None → ¬ IsTrue (is_some o)
not_some None e = λ t. cc
not_some (Some x) e = cc

is_some_at : (library : List Buffer) (index : ℕ) (o : Option Buffer) → index < length library → o ≡ slice_get library index
    → IsTrue (is_some o)
is_some_at library index (Some b) h e = refl
is_some_at library index None h e =
    let d : Buffer = record { cin = 0; rout = 0; intrinsic = 0 } in
    let found : slice_get library index ≡ Some (get_or library index d) = slice_get-get_or library index d h in cc

-- the limits of an instance at a node, told by its kind
module _ (i : Parts) (t : BinaryTree TreeNode) (kind : NodeKind) (names : NamesBuffer i.params.library kind)
    (buffer_is : buffer_at i t ≡ option_and_then (slice_get i.params.library) (buffer_of kind)) where
  pub load_told : (limit load : ℕ) → load ≡ load_below i t
      → (LoadIsMet limit kind load) ↔ (IsTrue (is_buffered i t) → load_below i t ≤ limit)
  load_told limit load is = by_kind kind names buffer_is
    where
      by_kind : (k : NodeKind) → NamesBuffer i.params.library k → buffer_at i t ≡ option_and_then (slice_get i.params.library) (buffer_of k)
          → (LoadIsMet limit k load) ↔ (IsTrue (is_buffered i t) → load_below i t ≤ limit)
      by_kind (Leaf id sink) named e = ((λ u buffered. absurd (not_some (buffer_at i t) e buffered)), (λ met. tt))
      by_kind (Pair left right None) named e = ((λ u buffered. absurd (not_some (buffer_at i t) e buffered)), (λ met. tt))
      by_kind (Pair left right (Some index)) named e = (
        (λ met buffered. omega (arith, met, is)),
        (λ met. omega (arith, is, met (is_some_at i.params.library index (buffer_at i t) named e))),
      )

  pub slew_told : (limit stage : ℕ) → is_tip t ≡ is_leaf kind
      → (SlewIsMet limit kind stage) ↔ (IsTrue (is_tip t || is_buffered i t) → slew_of stage ≤ 10 * limit)
  slew_told limit stage leaf = by_kind kind names buffer_is leaf
    where
      ends : (b c : Bool) → b ≡ true → IsTrue (b || c)
      ends true c e = refl
      ends false c e = cc

      buffered_ends : (b c : Bool) → IsTrue c → IsTrue (b || c)
      buffered_ends true c e = refl
      buffered_ends false c e = e

      goes_on : (b c : Bool) → b ≡ false → IsTrue (b || c) → IsTrue c
      goes_on true c e h = cc
      goes_on false c e h = h

      by_kind : (k : NodeKind) → NamesBuffer i.params.library k → buffer_at i t ≡ option_and_then (slice_get i.params.library) (buffer_of k)
          → is_tip t ≡ is_leaf k
          → (SlewIsMet limit k stage) ↔ (IsTrue (is_tip t || is_buffered i t) → slew_of stage ≤ 10 * limit)
      by_kind (Leaf id sink) named e leaf = ((λ met last. met), (λ met. met (ends (is_tip t) (is_buffered i t) leaf)))
      by_kind (Pair left right None) named e leaf = (
        (λ u last. absurd (not_some (buffer_at i t) e (goes_on (is_tip t) (is_buffered i t) leaf last))),
        (λ met. tt),
      )
      by_kind (Pair left right (Some index)) named e leaf = (
        (λ met last. met),
        (λ met. met (buffered_ends (is_tip t) (is_buffered i t) (is_some_at i.params.library index (buffer_at i t) named e))),
      )
