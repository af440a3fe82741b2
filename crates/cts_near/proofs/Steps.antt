-- One step of the joining.
use Rattle.std.proofs.Common.{◌≡◌, ℕ, ◌+◌, ◌<◌, inl, inr, List, [], ◌∷◌, ◌++◌, length, get_or, set, sym, ap, subst, ◌∙◌, arith, length-append}
use Rattle.std.specs.List.{All, AllByRecursion, remove}
use Rattle.std.proofs.lemmas.Bool.{cases_lt}
use Rattle.std.proofs.lemmas.List.{get_or-map, get_or_push, length-set, length-map}
use Rattle.std.proofs.Math.ListN.{get_or-append}
use Rattle.std.proofs.Math.Seq.{map-set_same}
use Rattle.std.proofs.lemmas.List.Edits.{length-remove}
use Rattle.std.proofs.lemmas.List.Elements.{All-from_recursion, All-weaker}
use Rattle.std.proofs.lemmas.List.Quantifiers.{all_pairs_remove}
use Rattle.cts_units.specs.declared.params.Sink.{Sink}
use Rattle.cts_units.specs.declared.params.Params.{Params}
use Rattle.cts_units.specs.Limits.{IsParams}
use Rattle.cts_topo.specs.declared.shape.ShapeNode.{ShapeNode}
use Rattle.cts_topo.specs.declared.shape.ShapeNode.TheVariants.{Pair}
use Rattle.cts_topo.proofs.Shuffles.{Shuffled}
use Rattle.cts_merge.specs.declared.side.Finished.{Finished}
use Rattle.cts_merge.specs.Side.{IsMergeable}
use Rattle.cts_merge.specs.Merge.{IsMerged, IsBeyond}
use Rattle.cts_up.specs.Sinks.{AreSinksInRange}
use Rattle.cts_up.proofs.Sides.{sides_merge}
use Rattle.cts_near.specs.declared.subtree.Subtree.{Subtree}
use Rattle.cts_near.specs.Parts.{pair, Part, joined}
use Rattle.cts_near.specs.Closest.{AreClosest}
use Rattle.cts_near.specs.Near.{without, after_join}
use Rattle.cts_near.specs.NearShape.{numbered}
use Rattle.cts_near.specs.Search.{AreBounds, AreClosestPlaces}
use Rattle.cts_near.specs.Forest.{tree_at, part_of, parts_of, IsMade, NamesEarlier, IsForest, IsStep, IsStuck}
use Rattle.cts_near.proofs.Members.{all-Shuffled, all_contained}
use Rattle.cts_near.proofs.Names.{joined_name}
use Rattle.cts_near.proofs.Plans.{joined_made, after_made}
use Rattle.cts_near.proofs.OtherBounds.{all_replaced}
use Rattle.cts_near.proofs.Trees.{tree_at-new}
use Rattle.cts_near.proofs.Places.{AreRising, part_at, closest_parts, rising_named}
use Rattle.cts_near.proofs.Moves.{moved, parts_replaced}

-- a subtree put in the place of one of its name
rising_replaced : (xs : List Subtree) (i j : ℕ) (x d : Subtree) → AreRising xs → x.name ≡ (get_or xs i d).name → j < length xs
    → AreRising (remove (set xs i x) j)
rising_replaced xs i j x d rising name h =
    all_pairs_remove (λ (s t : Subtree). s.name < t.name) (set xs i x) j (omega (arith, length-set xs i x))
    (λ p q e less inside.
    let long : length (set xs i x) ≡ length xs = length-set xs i x in
    omega (arith, rising p q e less (omega (arith, long)), kept p e (omega (arith, long)), kept q e (omega (arith, long))))
  where
    kept : (k : ℕ) (e : Subtree) → k < length xs → (get_or (set xs i x) k e).name ≡ (get_or xs k e).name
    kept k e w =
        sym (get_or-map (λ (s : Subtree). s.name) (set xs i x) k e 0 (omega (arith, length-set xs i x)))
        ∙ ap (λ ns. get_or ns k 0) (map-set_same (λ (s : Subtree). s.name) xs i x d name)
        ∙ get_or-map (λ (s : Subtree). s.name) xs k e 0 w

-- one join more, of two earlier ones
earlier_push : (joins : List ShapeNode) (a b : ℕ) → NamesEarlier joins → a < length joins → b < length joins
    → NamesEarlier (joins ++ Pair a b ∷ [])
earlier_push joins a b earlier ha hb k l r d h is =
    elim (cases_lt k (length joins)) [
      | inl before ↦ earlier k l r d before (sym (get_or-append joins (Pair a b ∷ []) d k before) ∙ is)
      | inr after ↦
          let last : length joins ≡ k = omega (arith, length-append joins (Pair a b ∷ [])) in
          let names : Pair a b ≡ Pair l r = sym (get_or_push joins (Pair a b) d k last) ∙ is in
          let left : a ≡ l = cc in
          let right : b ≡ r = cc in
          (omega arith, omega arith)
    ]

module _ (params : Params) (sinks : List Sink) (ok : IsParams params) (are : AreSinksInRange sinks) where
  pub made_mergeable : (part : Part) → IsMade params sinks part → IsMergeable part.side
  made_mergeable part made =
      subst IsMergeable (sym made.side) (sides_merge params sinks (numbered 0 part.tree) made.finished made.made ok are)

  mergeable_of : (joins : List ShapeNode) (xs : List Subtree) → AllByRecursion (IsMade params sinks) (parts_of joins xs)
      → AllByRecursion (λ (s : Subtree). IsMergeable s.side) xs
  mergeable_of joins [] made = tt
  mergeable_of joins (x ∷ xs) made = (made_mergeable (part_of joins x) (made.0), mergeable_of joins xs (made.1))

  module _ (joins : List ShapeNode) (xs : List Subtree) (bounds : List ℕ) (forest : IsForest params sinks joins xs bounds) where
    pub all_mergeable : All (λ (s : Subtree). IsMergeable s.side) xs
    all_mergeable = All-from_recursion (λ (s : Subtree). IsMergeable s.side) xs (mergeable_of joins xs forest.made)

    module _ (i j : ℕ) (a b : Subtree) (places : AreClosestPlaces xs i j) (a_is : a ≡ get_or xs i a) (b_is : b ≡ get_or xs j b) where
      abbrev parts : List Part
      parts = parts_of joins xs

      first_in : i < length xs
      first_in = omega (arith, places.in_order, places.within)

      pub a_mergeable : IsMergeable a.side
      a_mergeable = subst (λ (s : Subtree). IsMergeable s.side) (sym a_is) (all_mergeable i a first_in)

      pub b_mergeable : IsMergeable b.side
      b_mergeable = subst (λ (s : Subtree). IsMergeable s.side) (sym b_is) (all_mergeable j b places.within)

      closest : AreClosest parts (part_of joins a) (part_of joins b)
      closest = closest_parts xs forest.rising joins i j a b places a_is b_is

      a_named : a.node < length joins
      a_named = subst (λ (s : Subtree). s.node < length joins) (sym a_is) (forest.named i a first_in)

      b_named : b.node < length joins
      b_named = subst (λ (s : Subtree). s.node < length joins) (sym b_is) (forest.named j b places.within)

      pub is_stuck : IsBeyond params a.side b.side → IsStuck params parts
      is_stuck over = record { a = part_of joins a; b = part_of joins b; closest = closest; over = over }

      module _ (f : Finished) (merged : IsMerged params a.side b.side f) where
        -- the join and the subtree that the step makes
        abbrev joins' : List ShapeNode
        joins' = joins ++ Pair a.node b.node ∷ []

        abbrev new : Subtree
        new = record { name = a.name; node = length joins; side = f.side }

        abbrev xs' : List Subtree
        xs' = remove (set xs i new) j

        new_part : part_of joins' new ≡ joined (part_of joins a) (part_of joins b) f.side
        new_part =
            ap (λ t. record { tree = t; name = a.name; side = f.side }) (tree_at-new joins a.node b.node a_named b_named)
            ∙ ap (λ n. record { tree = pair (tree_at joins a.node) (tree_at joins b.node); name = n; side = f.side })
            (sym (joined_name (part_of joins a) (part_of joins b) f.side closest.in_order))

        left : Shuffled (after_join parts (part_of joins a) (part_of joins b) f) (parts_of joins' xs')
        left =
            let A : Part = part_of joins a in
            let B : Part = part_of joins b in
            let x : Part = part_of joins' new in
            let first : get_or parts i A ≡ A =
            part_at xs forest.rising joins i a A first_in ∙ ap (part_of joins) (sym a_is) in
            let second : get_or parts j B ≡ B =
            part_at xs forest.rising joins j b B places.within ∙ ap (part_of joins) (sym b_is) in
            let long : length parts ≡ length xs = length-map xs (part_of joins) in
            let all : Shuffled (x ∷ without (get_or parts j B).name (without (get_or parts i A).name parts)) (remove (set parts i x) j) =
            moved parts i j A B x (rising_named joins xs forest.rising) places.in_order (omega (arith, long, places.within)) in
            let named : Shuffled (x ∷ without B.name (without A.name parts)) (remove (set parts i x) j) =
            subst (λ (p : Part). Shuffled (x ∷ without B.name (without p.name parts)) (remove (set parts i x) j)) first
            (subst (λ (q : Part). Shuffled (x ∷ without q.name (without (get_or parts i A).name parts)) (remove (set parts i x) j)) second all) in
            subst (λ ps. Shuffled (after_join parts A B f) ps)
            (sym (parts_replaced joins (Pair a.node b.node) xs i j new forest.named))
            (subst (λ (p : Part). Shuffled (p ∷ without B.name (without A.name parts)) (remove (set parts i x) j)) new_part named)

        pub is_step : IsStep params parts (parts_of joins' xs')
        is_step = record {
          a = part_of joins a;
          b = part_of joins b;
          closest = closest;
          pair = f;
          merged = merged;
          left = left;
        }

        pub pair_mergeable : IsMergeable f.side
        pair_mergeable =
            made_mergeable (joined (part_of joins a) (part_of joins b) f.side)
            (joined_made params sinks (part_of joins a) (part_of joins b) f
            (all_contained (IsMade params sinks) parts (part_of joins a) forest.made closest.first)
            (all_contained (IsMade params sinks) parts (part_of joins b) forest.made closest.second) merged)

        pub fewer : length xs' + 1 ≡ length xs
        fewer =
            omega (
              arith,
              length-remove (set xs i new) j (omega (arith, length-set xs i new, places.within)),
              length-set xs i new,
            )

        pub is_forest : (bounds' : List ℕ) → AreBounds xs' bounds' → IsForest params sinks joins' xs' bounds'
        is_forest bounds' bounded =
            let longer : length joins' ≡ length joins + 1 = length-append joins (Pair a.node b.node ∷ []) in
            record {
              earlier = earlier_push joins a.node b.node forest.earlier a_named b_named;
              named = all_replaced (λ (s : Subtree). s.node < length joins') xs i j new
                  (All-weaker (λ (s : Subtree). s.node < length joins) (λ (s : Subtree). s.node < length joins')
                  (λ s h. omega (arith, longer)) xs forest.named) (omega (arith, longer));
              rising = rising_replaced xs i j new a forest.rising (ap (λ (s : Subtree). s.name) a_is) places.within;
              made = all-Shuffled (IsMade params sinks) left
                  (after_made params sinks parts (part_of joins a) (part_of joins b) f forest.made closest.first closest.second merged);
              bounded = bounded;
              count = omega (arith, longer, fewer, forest.count);
            }

        -- the same of the lists that the step leaves
        module _ (pushed joins'' : List ShapeNode) (count node : ℕ) (xs'' : List Subtree) (pushed_is : pushed ≡ joins')
            (joins_are : joins'' ≡ pushed) (count_is : count ≡ length joins) (node_is : node ≡ count)
            (xs_are : xs'' ≡ remove (set xs i (record { name = a.name; node = node; side = f.side })) j) where
          joins_new : joins'' ≡ joins'
          joins_new = joins_are ∙ pushed_is

          xs_new : xs'' ≡ xs'
          xs_new = xs_are ∙ ap (λ n. remove (set xs i (record { name = a.name; node = n; side = f.side })) j) (node_is ∙ count_is)

          pub left_forest : (bounds'' : List ℕ) → AreBounds xs'' bounds'' → IsForest params sinks joins'' xs'' bounds''
          left_forest bounds'' bounded =
              subst (λ ns. IsForest params sinks ns xs'' bounds'') (sym joins_new)
              (subst (λ ss. IsForest params sinks joins' ss bounds'') (sym xs_new)
              (is_forest bounds'' (subst (λ ss. AreBounds ss bounds'') xs_new bounded)))

          pub left_step : IsStep params parts (parts_of joins'' xs'')
          left_step =
              subst (λ ns. IsStep params parts (parts_of ns xs'')) (sym joins_new)
              (subst (λ ss. IsStep params parts (parts_of joins' ss)) (sym xs_new) is_step)

          pub left_fewer : length xs'' + 1 ≡ length xs
          left_fewer = omega (arith, ap length xs_new, fewer)
