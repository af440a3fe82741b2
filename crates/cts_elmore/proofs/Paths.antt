-- Loads, delays and stages one step down: what a pair adds to its parts' loads, and to the sums along their paths.
use Rattle.std.proofs.Common.{◌≡◌, ℕ, ◌+◌, Bool, true, false, not, List, [], ◌∷◌, Option, Some, None, ap, ◌∙◌, arith}
use Rattle.std.specs.Option.{is_some, option_map_or}
use Rattle.std.specs.Prelude.{if◌then◌else◌, sum_by, find, take_while}
use Rattle.std.proofs.lemmas.List.Sums.{sum_by-append, sum_by-cons, take_while-cons}
use Rattle.cts_units.specs.declared.params.Buffer.{Buffer}
use Rattle.cts_postorder.specs.BinaryTree.{BinaryTree, tip, fork}
use Rattle.cts_postorder.specs.Occurrence.{occurrence}
use Rattle.cts_tree.specs.declared.nodes.TreeNode.{TreeNode}
use Rattle.cts_instance.specs.declared.parts.Parts.{Parts}
use Rattle.cts_elmore.specs.Loads.{buffer_at, is_buffered, pin_load, wire_load, reached, load_below, load_seen}
use Rattle.cts_elmore.specs.Delays.{wire_delay, buffer_delay, output_delay, source_delay, delay_at, stage_at}

-- a buffer's input stands for all that is reached through it
at_buffer : {A : Type 0} (f : A → ℕ) (o : Option Buffer) (rest : List A)
    → option_map_or (λ (b : Buffer). b.cin) o 0 + sum_by f (if is_some o then [] else rest)
    ≡ option_map_or (λ (b : Buffer). b.cin) o (sum_by f rest)
at_buffer f None rest = omega arith
at_buffer f (Some b) rest = omega arith

-- A stage begins at a pair that is buffered. Else it goes on through the pair's own wire, and begins further up.
from_last : {A : Type 0} (f g : A → ℕ) (b : Bool) (pair t : A) (last : Option A) (wires : List A) (source : ℕ)
    → option_map_or f (if b then Some pair else last) source + sum_by g (t ∷ (if not b then pair ∷ wires else []))
    ≡ (if b then f pair else option_map_or f last source + sum_by g (pair ∷ wires)) + g t
from_last f g true pair t last wires source = omega arith
from_last f g false pair t last wires source =
    omega (arith, sum_by-cons g t (pair ∷ wires))

module _ (i : Parts) where
  -- what is reached from a pair through one of its parts
  through_part : (t : BinaryTree TreeNode)
      → sum_by (λ p. wire_load i p + pin_load i p) (t ∷ (if is_buffered i t then [] else reached i t))
      ≡ load_seen i t + wire_load i t
  unfolding reached load_below
  through_part (tip n) = omega arith
  through_part (fork l r n) =
      let drawn : BinaryTree TreeNode → ℕ = λ p. wire_load i p + pin_load i p in
      let rest : List (BinaryTree TreeNode) = reached i (fork l r n) in
      sum_by-cons drawn (fork l r n) (if is_buffered i (fork l r n) then [] else rest)
      ∙ omega (arith, at_buffer drawn (buffer_at i (fork l r n)) rest)

  -- the load of a pair is what is seen of its two parts, and their wires
  pub load_at_pair : (l r : BinaryTree TreeNode) (n : TreeNode)
      → load_below i (fork l r n) ≡ load_seen i l + wire_load i l + (load_seen i r + wire_load i r)
  unfolding load_below reached
  load_at_pair l r n =
      sum_by-append (λ p. wire_load i p + pin_load i p) (l ∷ (if is_buffered i l then [] else reached i l))
      (r ∷ (if is_buffered i r then [] else reached i r))
      ∙ omega (arith, through_part l, through_part r)

  -- the delay at the root
  pub delay_at_root : (root : BinaryTree TreeNode)
      → delay_at i root (occurrence [] root) ≡ source_delay i root + wire_delay i root
  unfolding delay_at
  delay_at_root root = omega arith

  -- the delay at a part
  pub delay_at_part : (root pair t : BinaryTree TreeNode) (up : List (BinaryTree TreeNode))
      → delay_at i root (occurrence (pair ∷ up) t)
      ≡ delay_at i root (occurrence up pair) + buffer_delay i pair + wire_delay i t
  unfolding delay_at
  delay_at_part root pair t up =
      omega (
        arith,
        sum_by-cons (wire_delay i) t (pair ∷ up),
        sum_by-cons (wire_delay i) pair up,
        sum_by-cons (buffer_delay i) pair up,
      )

  pub stage_at_root : (root : BinaryTree TreeNode)
      → stage_at i root (occurrence [] root) ≡ source_delay i root + wire_delay i root
  unfolding stage_at
  stage_at_root root = omega arith

  pub stage_at_part : (root pair t : BinaryTree TreeNode) (up : List (BinaryTree TreeNode))
      → stage_at i root (occurrence (pair ∷ up) t)
      ≡ (if is_buffered i pair then output_delay i pair else stage_at i root (occurrence up pair)) + wire_delay i t
  unfolding stage_at
  stage_at_part root pair t up =
      let goes_on : BinaryTree TreeNode → Bool = λ p. not (is_buffered i p) in
      ap (λ ws. option_map_or (output_delay i) (find (is_buffered i) (pair ∷ up)) (source_delay i root) + sum_by (wire_delay i) (t ∷ ws))
      (take_while-cons goes_on pair up)
      ∙ from_last (output_delay i) (wire_delay i) (is_buffered i pair) pair t (find (is_buffered i) up) (take_while goes_on up)
      (source_delay i root)
