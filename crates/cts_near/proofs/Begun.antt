-- The parts over the sinks, before any join.
use Rattle.std.proofs.lemmas.Bool.{cases_lt}
use Rattle.std.proofs.Common.{◌≡◌, ◌≢◌, inl, inr, length-append, ℕ, zero, suc, ◌+◌, ◌<◌, ◌≤◌, List, [], ◌∷◌, ◌++◌, length, get_or, slice_get, sym, ap, subst, ◌∙◌, arith, IsPermutation}
use Rattle.std.specs.List.Sorted.{IsNonDecreasingBy}
use Rattle.std.proofs.lemmas.List.{get_or-map, get_or_push, length-map}
use Rattle.std.proofs.Math.ListN.{get_or-append}
use Rattle.std.proofs.lemmas.List.FromFn.{get_or-map-range_with_len, length-map-range_with_len}
use Rattle.std.proofs.lemmas.List.Sorted.{All-permutation, length_permutation}
use Rattle.cts_units.specs.declared.params.Sink.{Sink}
use Rattle.cts_units.specs.declared.params.Params.{Params}
use Rattle.cts_units.specs.Ids.{HasDistinctIds}
use Rattle.cts_topo.specs.declared.shape.ShapeNode.{ShapeNode}
use Rattle.cts_topo.specs.declared.shape.ShapeNode.TheVariants.{Leaf, Pair}
use Rattle.cts_topo.proofs.Shuffles.{Shuffled, shuffled_of, map-Shuffled}
use Rattle.cts_near.specs.declared.subtree.Subtree.{Subtree}
use Rattle.cts_near.specs.Parts.{single, Part, AreSinkParts}
use Rattle.cts_near.specs.Search.{AreBounds}
use Rattle.cts_near.specs.Forest.{tree_at, part_of, parts_of, IsMade, IsForest, IsLeafSubtree, AreLeafSubtrees, leaves, IsBegun}
use Rattle.cts_near.proofs.Members.{all-Shuffled}
use Rattle.cts_near.proofs.Names.{AreNamed, named-Shuffled, sinks_named}
use Rattle.cts_near.proofs.Plans.{sinks_made}
use Rattle.cts_near.proofs.Trees.{tree_at-leaf}
use Rattle.cts_near.proofs.Places.{AreRising}
use Rattle.cts_near.proofs.Moves.{all_at}

pub leaf_subtrees_more : (sinks : List Sink) (k : ℕ) (ss : List Subtree) (sink : Sink) (s : Subtree) → k < length sinks
    → AreLeafSubtrees sinks k ss → ((d : Sink) → sink ≡ get_or sinks k d) → IsLeafSubtree sink k s
    → AreLeafSubtrees sinks (k + 1) (ss ++ s ∷ [])
leaf_subtrees_more sinks k ss sink s h are read here = record {
  count = simp length-append (omega (arith, are.count));
  each = λ i d e w. elim (cases_lt i k) [
    | inl before ↦
        subst (λ (t : Subtree). IsLeafSubtree (get_or sinks i d) i t) (sym (get_or-append ss (s ∷ []) e i (omega (arith, are.count))))
        (are.each i d e before)
    | inr after ↦
        let last : k ≡ i = omega arith in
        subst (λ j. IsLeafSubtree (get_or sinks j d) j (get_or (ss ++ s ∷ []) j e)) last
        (subst (λ (t : Subtree). IsLeafSubtree (get_or sinks k d) k t) (sym (get_or_push ss s e k are.count))
        (subst (λ (x : Sink). IsLeafSubtree x k s) (read d) here))
  ];
}

leaf_read : (count k : ℕ) (d : ShapeNode) → k < count → get_or (leaves count) k d ≡ Leaf k
leaf_read count k d h = get_or-map-range_with_len (λ sink. Leaf sink) 0 count k k d h (omega arith)

length-leaves : (count : ℕ) → length (leaves count) ≡ count
length-leaves count = length-map-range_with_len (λ sink. Leaf sink) 0 count

leaf_at : (count k : ℕ) → k < count → tree_at (leaves count) k ≡ single k
leaf_at count k h =
    tree_at-leaf (leaves count) k k (Leaf 0) (omega (arith, length-leaves count)) (leaf_read count k (Leaf 0) h)

leaf_parts : (count place : ℕ) (sinks : List Sink) (ss : List Subtree) → length ss ≡ length sinks → place + length sinks ≤ count
    → ((k : ℕ) (d : Sink) (e : Subtree) → k < length sinks → IsLeafSubtree (get_or sinks k d) (place + k) (get_or ss k e))
    → AreSinkParts place sinks (parts_of (leaves count) ss)
leaf_parts count place [] [] long fits each = tt
leaf_parts count place [] (s ∷ ss) long fits each = absurd (omega arith)
leaf_parts count place (x ∷ sinks) [] long fits each = absurd (omega arith)
leaf_parts count place (x ∷ sinks) (s ∷ ss) long fits each =
    let here : IsLeafSubtree x (place + 0) s = each 0 x s (omega arith) in
    let number : s.node ≡ place = omega (arith, here.node) in (
      record {
        tree = ap (tree_at (leaves count)) number ∙ leaf_at count place (omega arith);
        name = here.name;
        leaf = here.leaf;
        is_leaf = here.is_leaf;
        side = here.side;
      },
      leaf_parts count (place + 1) sinks ss (omega arith) (omega arith)
          (λ k d e h.
          let next : place + suc k ≡ place + 1 + k = omega arith in
          subst (λ j. IsLeafSubtree (get_or sinks k d) j (get_or ss k e)) next (each (suc k) d e (omega arith))),
    )

-- distinct names, by place
names_apart : (ps : List Part) → AreNamed ps → (i j : ℕ) (d : Part) → i < j → j < length ps
    → (get_or ps i d).name ≢ (get_or ps j d).name
names_apart [] named i j d less h = absurd (omega arith)
names_apart (p ∷ ps) named i zero d less h = absurd (omega arith)
names_apart (p ∷ ps) named zero (suc j) d less h = all_at (λ (q : Part). p.name ≢ q.name) ps (named.0) j d (omega arith)
names_apart (p ∷ ps) named (suc i) (suc j) d less h = names_apart ps (named.1) i j d (omega arith) (omega arith)

rises : (joins : List ShapeNode) (ss : List Subtree) → AreNamed (parts_of joins ss) → IsNonDecreasingBy (λ (s : Subtree). s.name) ss
    → AreRising ss
rises joins ss named sorted i j d less h =
    let p : Part = part_of joins d in
    let first : get_or (parts_of joins ss) i p ≡ part_of joins (get_or ss i d) = get_or-map (part_of joins) ss i d p (omega arith) in
    let second : get_or (parts_of joins ss) j p ≡ part_of joins (get_or ss j d) = get_or-map (part_of joins) ss j d p h in
    let apart : (get_or (parts_of joins ss) i p).name ≢ (get_or (parts_of joins ss) j p).name =
    names_apart (parts_of joins ss) named i j p less (omega (arith, length-map ss (part_of joins))) in
    let other : (get_or ss i d).name ≢ (get_or ss j d).name =
    λ e. apart (ap (λ (x : Part). x.name) first ∙ e ∙ sym (ap (λ (x : Part). x.name) second)) in
    omega (arith, sorted i j d (omega arith) h, other)

node_is : (sinks : List Sink) (ss : List Subtree) → AreLeafSubtrees sinks (length sinks) ss → (k : ℕ) (e : Subtree)
    → k < length sinks → (get_or ss k e).node ≡ k
node_is [] ss are k e h = absurd (omega arith)
node_is (x ∷ sinks) ss are k e h = (are.each k x e h).node

module _ (sinks : List Sink) (ss sorted : List Subtree) (are : AreLeafSubtrees sinks (length sinks) ss)
    (permuted : IsPermutation ss sorted) where
  abbrev joins : List ShapeNode
  joins = leaves (length sinks)

  over : AreSinkParts 0 sinks (parts_of joins ss)
  over =
      leaf_parts (length sinks) 0 sinks ss are.count (omega arith)
      (λ k d e h.
      let place : k ≡ 0 + k = omega arith in
      subst (λ j. IsLeafSubtree (get_or sinks k d) j (get_or ss k e)) place (are.each k d e h))

  shuffled : Shuffled (parts_of joins ss) (parts_of joins sorted)
  shuffled = map-Shuffled (part_of joins) (shuffled_of ss sorted permuted)

  pub is_begun : IsBegun sinks (parts_of joins sorted)
  is_begun = record { in_order = parts_of joins ss; over_sinks = over; shuffled = shuffled }

  pub long : length sorted ≡ length sinks
  long = omega (arith, length_permutation ss sorted permuted, are.count)

  pub forest_begins : (params : Params) (bounds : List ℕ) → HasDistinctIds (λ (s : Sink). s.id) sinks
      → IsNonDecreasingBy (λ (s : Subtree). s.name) sorted → AreBounds sorted bounds → IsForest params sinks joins sorted bounds
  forest_begins params bounds distinct by_name bounded = record {
    earlier = λ k l r d h is.
        let leaf : get_or joins k d ≡ Leaf k = leaf_read (length sinks) k d (omega (arith, length-leaves (length sinks))) in
        let never : Leaf k ≡ Pair l r = sym leaf ∙ is in
        absurd (cc);
    named = All-permutation (λ (s : Subtree). s.node < length joins) ss sorted permuted
        (λ k d h.
        omega (arith, node_is sinks ss are k d (omega (arith, are.count)), are.count, length-leaves (length sinks)));
    rising = rises joins sorted (named-Shuffled shuffled (sinks_named 0 sinks (parts_of joins ss) over distinct)) by_name;
    made = all-Shuffled (IsMade params sinks) shuffled
        (sinks_made params sinks 0 sinks (parts_of joins ss) over
        (λ k. let place : 0 + k ≡ k = omega arith in ap (slice_get sinks) place));
    bounded = bounded;
    count = omega (arith, long, length-leaves (length sinks));
  }
