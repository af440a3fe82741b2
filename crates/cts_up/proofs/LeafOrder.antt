-- The sinks of a shape in the order of its leaves.
use Rattle.std.proofs.Common.{◌≡◌, ℕ, zero, suc, ◌+◌, ◌<◌, List, [], ◌∷◌, ◌++◌, take, length, map, get_or, slice_get, Some, sym, ap, ◌∙◌, arith, append-nil}
use Rattle.std.specs.List.{All}
use Rattle.std.proofs.lemmas.List.{length-map, get_or-map, map_push}
use Rattle.std.proofs.lemmas.Option.{slice_get-get_or, same_Some}
use Rattle.std.proofs.lemmas.Int.{ints}
use Rattle.cts_units.specs.declared.params.Sink.{Sink}
use Rattle.cts_geom.specs.Coordinate.{IsCoordinate}
use Rattle.cts_topo.specs.Sinks.{IsPlaced}
use Rattle.cts_topo.specs.declared.shape.ShapeNode.{ShapeNode}
use Rattle.cts_topo.specs.declared.shape.ShapeNode.TheVariants.{Leaf, Pair}
use Rattle.cts_topo.specs.Shape.{leaf_sinks}
use Rattle.cts_topo.proofs.Counts.{named_within, leaves_more}

-- a leaf's sink stands after those of the leaves before it
pub leaf_at : (nodes : List ShapeNode) (k : ℕ) (e : ShapeNode) (s d : ℕ) → k < length nodes → get_or nodes k e ≡ Leaf s
    → (length (leaf_sinks (take k nodes)) < length (leaf_sinks nodes))
    × (get_or (leaf_sinks nodes) (length (leaf_sinks (take k nodes))) d ≡ s)
leaf_at [] k e s d h is = absurd (omega arith)
leaf_at (Leaf t ∷ nodes) zero e s d h is = (omega arith, ap named is)
  where
    named : ShapeNode → ℕ
    named (Leaf u) = u
    named (Pair l r) = 0
leaf_at (Pair l r ∷ nodes) zero e s d h is = cc
leaf_at (Leaf t ∷ nodes) (suc k) e s d h is =
    let rest = leaf_at nodes k e s d (omega arith) is in
    (omega (arith, rest.0), rest.1)
leaf_at (Pair l r ∷ nodes) (suc k) e s d h is = leaf_at nodes k e s d (omega arith) is

-- the sinks of the first k nodes' leaves
abbrev pub AreNamed : List Sink → List ShapeNode → ℕ → List Sink → Type 0
AreNamed sinks nodes k named = map Some named ≡ map (slice_get sinks) (leaf_sinks (take k nodes))

module _ (sinks : List Sink) (nodes : List ShapeNode) (fine : All (λ sink. sink < length sinks) (leaf_sinks nodes)) where
  module _ (k : ℕ) (h : k < length nodes) (e : ShapeNode) (named : List Sink) (are : AreNamed sinks nodes k named) where
    pub named_at_leaf : (s : ℕ) (d : Sink) → get_or nodes k e ≡ Leaf s → AreNamed sinks nodes (k + 1) (named ++ get_or sinks s d ∷ [])
    named_at_leaf s d here =
        let within : s < length sinks = named_within (length sinks) nodes fine k e s h here in
        map_push Some named (get_or sinks s d)
        ∙ ap (λ os. os ++ Some (get_or sinks s d) ∷ []) are
        ∙ ap (λ o. map (slice_get sinks) (leaf_sinks (take k nodes)) ++ o ∷ []) (sym (slice_get-get_or sinks s d within))
        ∙ sym (map_push (slice_get sinks) (leaf_sinks (take k nodes)) s)
        ∙ ap (map (slice_get sinks)) (sym (leaves_more nodes k e h ∙ ap (λ n. leaf_sinks (take k nodes) ++ leaf_sinks (n ∷ [])) here))

    pub named_at_pair : (l r : ℕ) → get_or nodes k e ≡ Pair l r → AreNamed sinks nodes (k + 1) named
    named_at_pair l r here =
        are
        ∙ ap (map (slice_get sinks)) (sym (leaves_more nodes k e h ∙ ap (λ n. leaf_sinks (take k nodes) ++ leaf_sinks (n ∷ [])) here ∙ append-nil _))

  module _ (named : List Sink) (are : map Some named ≡ map (slice_get sinks) (leaf_sinks nodes)) (k : ℕ) (h : k < length nodes)
      (e : ShapeNode) (s : ℕ) (here : get_or nodes k e ≡ Leaf s) (leaves : ℕ) (counted : leaves ≡ length (leaf_sinks (take k nodes))) where
    pub leaf_listed : leaves < length named
    leaf_listed =
        omega (
          arith,
          counted,
          (leaf_at nodes k e s 0 h here).0,
          sym (length-map named Some) ∙ ap length are ∙ length-map (leaf_sinks nodes) (slice_get sinks),
        )

    -- the sink listed for a leaf is the one that it names
    pub listed_is : (d d' : Sink) → get_or named leaves d ≡ get_or sinks s d'
    listed_is d d' =
        let within : s < length sinks = named_within (length sinks) nodes fine k e s h here in
        let found = leaf_at nodes k e s 0 h here in
        same_Some _ _ (
        sym (get_or-map Some named leaves d (Some d) leaf_listed)
        ∙ ap (λ os. get_or os leaves (Some d)) are
        ∙ ap (λ i. get_or (map (slice_get sinks) (leaf_sinks nodes)) i (Some d)) counted
        ∙ get_or-map (slice_get sinks) (leaf_sinks nodes) (length (leaf_sinks (take k nodes))) 0 (Some d) (found.0)
        ∙ ap (slice_get sinks) (found.1)
        ∙ slice_get-get_or sinks s d' within
        )

    -- it is found at the number of the leaves before it
    pub found_is : (d : Sink) (at : ℕ) → at ≡ leaves → slice_get sinks s ≡ Some (get_or named at d)
    found_is d at is =
        slice_get-get_or sinks s d (named_within (length sinks) nodes fine k e s h here)
        ∙ ap Some (sym (ap (λ i. get_or named i d) is ∙ listed_is d d))

-- the coordinates of a sink are in range
pub x_is_coordinate : (sink : Sink) → IsPlaced sink → IsCoordinate sink.x
x_is_coordinate sink placed = record { low = omega (arith, ints, placed.x_low); high = omega (arith, ints, placed.x_high) }

pub y_is_coordinate : (sink : Sink) → IsPlaced sink → IsCoordinate sink.y
y_is_coordinate sink placed = record { low = omega (arith, ints, placed.y_low); high = omega (arith, ints, placed.y_high) }
