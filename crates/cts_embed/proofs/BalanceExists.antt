-- Every placed tree has a balanced tree or a node that is beyond.
use Rattle.std.proofs.Common.{◌≡◌, ℕ, ◌+◌, ◌-◌, ◌*◌, ◌⊎◌, inl, inr, pos, List, [], ◌∷◌, ◌++◌, map, length, get_or, Option, None, Some, refl, sym, subst, arith}
use Rattle.std.specs.List.{Contains, AllZip}
use Rattle.std.specs.Option.{MatchOption}
use Rattle.std.proofs.lemmas.Bool.{cases_lt}
use Rattle.std.proofs.lemmas.List.Elements.{All-append, All-contains, Contains-append_left, Contains-append_right}
use Rattle.std.proofs.lemmas.Option.{slice_get-get_or}
use Rattle.cts_units.specs.declared.params.Sink.{Sink}
use Rattle.cts_units.specs.declared.params.Params.{Params}
use Rattle.cts_units.specs.declared.params.Wire.{Wire}
use Rattle.cts_units.specs.Choice.{added_delay_of, seen_load_of}
use Rattle.cts_units.specs.Limits.{IsWire, max_delay, max_length, max_load}
use Rattle.cts_units.proofs.WireDelay.{wire_delay_rises}
use Rattle.cts_merge.specs.LeastPair.{HasLeastPair, Covers}
use Rattle.cts_merge.proofs.BalancePairs.{covers_exists}
use Rattle.cts_merge.proofs.Rising.{Rises}
use Rattle.cts_postorder.specs.BinaryTree.{BinaryTree, tip, fork, label, size, labels, subtrees, IsNumbered}
use Rattle.cts_postorder.specs.Occurrence.{Occurrence, occurrence, occurrences}
use Rattle.cts_postorder.specs.PostOrder.{IsPostOrder}
use Rattle.cts_postorder.proofs.Lists.{Whole, whole_of, length_pos}
use Rattle.cts_postorder.proofs.Zips.{all_zip-append}
use Rattle.cts_tree.specs.declared.nodes.NodeKind.{NodeKind}
use Rattle.cts_tree.specs.declared.nodes.NodeKind.TheVariants.{Leaf, Pair}
use Rattle.cts_tree.specs.declared.nodes.TreeNode.{TreeNode}
use Rattle.cts_tree.specs.Nodes.{children_of, tree_children, buffer_of}
use Rattle.cts_instance.specs.declared.parts.Parts.{Parts}
use Rattle.cts_embed.specs.declared.node.NodeBalance.{NodeBalance}
use Rattle.cts_embed.specs.Balance.{IsBalance, IsBeyondBalance, IsLeafBalance, IsPairBalance, IsPairBeyond, IsRootWithin, delay_below, delay_through, least_below, load_below, sink_of, source_load_of}
use Rattle.cts_embed.specs.BalancedTree.{IsBalancedNode, IsBalancedTree, IsLeastBeyond, IsWireLength}
use Rattle.cts_embed.specs.Fitting.{Fits, NamesWithin}
use Rattle.cts_embed.specs.Laws.{PlacedTreesAreBalancedOrBeyond}
use Rattle.cts_embed.proofs.Beyond.{none_beyond}
use Rattle.cts_embed.proofs.Splits.{HasFirst, first_stays, first_later, first_at_end, least_of_first}

-- ---- one pair
delay_rises : (wire : Wire) (node : NodeBalance) → IsWire wire → Rises (delay_through wire node)
delay_rises wire node w = record {
  rises = λ x y longer. omega (arith, wire_delay_rises wire.r wire.c node.load x y w.r_low w.c_low longer);
}

pair_or_beyond : (params : Params) (buffer : Option ℕ) (a : NodeBalance) (la : ℕ) (b : NodeBalance) (lb : ℕ) → IsWire params.wire
    → ((pair : NodeBalance) × IsPairBalance params buffer a la b lb pair) ⊎ IsPairBeyond params buffer a la b lb
pair_or_beyond params buffer a la b lb ok =
    let wires : HasLeastPair (delay_through params.wire a) (delay_through params.wire b) (Covers la lb) =
    covers_exists (delay_through params.wire a) (delay_through params.wire b) (delay_rises params.wire a ok) (delay_rises params.wire b ok) la lb in
    let load : ℕ = load_below params.wire a b wires.ea wires.eb in
    let greatest : ℕ = delay_below params.wire a b wires.ea wires.eb + added_delay_of params.library buffer load in
    elim (cases_lt max_length wires.ea) [
      | inl long ↦ inr (record { xa = wires.ea; xb = wires.eb; wires = wires.least; over = inl long })
      | inr left ↦ elim (cases_lt max_length wires.eb) [
        | inl long ↦ inr (record { xa = wires.ea; xb = wires.eb; wires = wires.least; over = inr (inl long) })
        | inr right ↦ elim (cases_lt max_load load) [
          | inl heavy ↦ inr (record { xa = wires.ea; xb = wires.eb; wires = wires.least; over = inr (inr (inl heavy)) })
          | inr light ↦ elim (cases_lt max_delay greatest) [
            | inl slow ↦ inr (record { xa = wires.ea; xb = wires.eb; wires = wires.least; over = inr (inr (inr slow)) })
            | inr fast ↦
                inl (
                  record {
                    greatest = greatest;
                    least = least_below params.wire a b wires.ea wires.eb + added_delay_of params.library buffer load;
                    load = seen_load_of params.library buffer load;
                    left_wire = wires.ea;
                    right_wire = wires.eb;
                    wires = a.wires + b.wires + wires.ea + wires.eb;
                  },
                  record {
                    wires = wires.least;
                    load = refl;
                    greatest = refl;
                    least = refl;
                    total = refl;
                    left_within = omega arith;
                    right_within = omega arith;
                    load_within = omega arith;
                    greatest_within = omega arith;
                  },
                )
          ]
        ]
      ]
    ]

-- a value past the end of the list
no_sink : Sink
no_sink = record { id = 0; x = pos 0; y = pos 0; cap = 0; offset = 0 }

module _ (parts : Parts) where
  -- ---- the balance, upward
  abbrev Beyond : BinaryTree TreeNode → Type 0
  Beyond t = IsBeyondBalance parts.params parts.sinks t

  abbrev IsNamed : TreeNode → Type 0
  IsNamed node = NamesWithin (length parts.sinks) (length parts.params.library) node.kind

  leaf_sink : (kind : NodeKind) → children_of kind ≡ None → NamesWithin (length parts.sinks) (length parts.params.library) kind
      → (sink : Sink) × (sink_of parts.sinks kind ≡ Some sink)
  unfolding NamesWithin
  leaf_sink (Leaf id s) e named = (get_or parts.sinks s no_sink, slice_get-get_or parts.sinks s no_sink named)
  leaf_sink (Pair l r buffer) e named = absurd (cc)

  leaf_balanced : (n : TreeNode) (sink : Sink) → sink_of parts.sinks n.kind ≡ Some sink
      → (b : NodeBalance) × IsBalance parts.params parts.sinks (tip n) b
  unfolding IsBalance
  leaf_balanced n sink is =
      let b : NodeBalance = record { greatest = 2 * sink.offset; least = 2 * sink.offset; load = sink.cap; left_wire = 0; right_wire = 0; wires = 0 } in
      let leaf : IsLeafBalance sink b = record { greatest = refl; least = refl; load = refl; left_wire = refl; right_wire = refl; total = refl } in
      (b, subst (λ o. MatchOption o ⊥ (λ s. IsLeafBalance s b)) (sym is) leaf)

  balance_or_beyond : IsWire parts.params.wire → (offset : ℕ) (t : BinaryTree TreeNode) → IsNumbered tree_children offset t
      → ((n : TreeNode) → Contains (labels t) n → IsNamed n)
      → ((b : NodeBalance) × IsBalance parts.params parts.sinks t b) ⊎ HasFirst Beyond (subtrees t)
  unfolding IsBalance IsBeyondBalance IsNumbered labels subtrees
  balance_or_beyond wire offset (tip n) numbered named =
      let sink = leaf_sink n.kind numbered (named n (0, omega arith, refl)) in
      inl (leaf_balanced n sink.0 sink.1)
  balance_or_beyond wire offset (fork l r n) numbered named =
      let t : BinaryTree TreeNode = fork l r n in
      elim (balance_or_beyond wire offset l numbered.0 (λ m there. named m
      (Contains-append_left (labels l ++ labels r) (n ∷ []) m (Contains-append_left (labels l) (labels r) m there)))) [
        | inr first ↦ inr (first_stays Beyond (subtrees l ++ subtrees r) (t ∷ []) (first_stays Beyond (subtrees l) (subtrees r) first))
        | inl left ↦ elim (balance_or_beyond wire (offset + size l) r numbered.1 (λ m there. named m
            (Contains-append_left (labels l ++ labels r) (n ∷ []) m (Contains-append_right (labels l) (labels r) m there)))) [
              | inr first ↦ inr (first_stays Beyond (subtrees l ++ subtrees r) (t ∷ [])
                  (first_later Beyond (subtrees l) (subtrees r) (none_beyond parts.params parts.sinks l left.0 left.1) first))
              | inl right ↦ elim (pair_or_beyond parts.params (buffer_of n.kind) left.0 (label l).route.length right.0 (label r).route.length wire) [
                | inl pair ↦ inl (pair.0, (left.0, right.0, left.1, right.1, pair.1))
                | inr over ↦ inr (first_at_end Beyond (subtrees l ++ subtrees r) t
                    (All-append (λ u. ¬ Beyond u) (subtrees l) (subtrees r) (none_beyond parts.params parts.sinks l left.0 left.1)
                    (none_beyond parts.params parts.sinks r right.0 right.1))
                    (left.0, right.0, left.1, right.1, over))
              ]
            ]
      ]

  -- ---- the wires, from the balance
  with_wire : TreeNode → ℕ → TreeNode
  with_wire n len = record { kind = n.kind; place = n.place; wire = len; route = n.route }

  wired : (up : List (BinaryTree TreeNode)) (t : BinaryTree TreeNode) (b : NodeBalance) → IsBalance parts.params parts.sinks t b → (len : ℕ)
      → IsWireLength parts up t len → (nodes : List TreeNode) × AllZip (IsBalancedNode parts) (occurrences up t) nodes
  unfolding IsBalance IsWireLength occurrences label with_wire
  wired up (tip n) b is len above =
      (with_wire n len ∷ [], (record { kind = refl; place = refl; route = refl; wire = above }, tt))
  wired up (fork l r n) b is len above =
      let t : BinaryTree TreeNode = fork l r n in
      let R : Occurrence TreeNode → TreeNode → Type 0 = IsBalancedNode parts in
      let left = wired (t ∷ up) l is.0 is.2 b.left_wire (b, is, inl (refl, refl)) in
      let right = wired (t ∷ up) r is.1 is.3 b.right_wire (b, is, inr (refl, refl)) in (
        left.0 ++ right.0 ++ with_wire n len ∷ [],
        all_zip-append R (occurrences (t ∷ up) l ++ occurrences (t ∷ up) r) (occurrence up t ∷ []) (left.0 ++ right.0) (with_wire n len ∷ [])
            (all_zip-append R (occurrences (t ∷ up) l) (occurrences (t ∷ up) r) left.0 right.0 left.1 right.1)
            (record { kind = refl; place = refl; route = refl; wire = above }, tt),
      )

  -- ---- the root
  root_within : (len : ℕ) (root : NodeBalance) → IsRootWithin parts len root ⊎ ¬ IsRootWithin parts len root
  root_within len root =
      let load : ℕ = source_load_of parts.params.wire root len in
      elim (cases_lt max_length len) [
        | inl long ↦ inr (λ is. let le = is.wire in absurd (omega (arith, le, long)))
        | inr short ↦ elim (cases_lt max_load load) [
          | inl heavy ↦ inr (λ is. let le = is.load in absurd (omega (arith, le, heavy)))
          | inr light ↦ elim (cases_lt max_delay (2 * parts.source_r * load + delay_through parts.params.wire root len)) [
            | inl slow ↦ inr (λ is. let le = is.delay in absurd (omega (arith, le, slow)))
            | inr fast ↦ inl (record { wire = omega arith; load = omega arith; delay = omega arith })
          ]
        ]
      ]

module _ (parts : Parts) (placed : List TreeNode) (ok : IsPostOrder (map tree_children placed)) where
  pub w : Whole tree_children placed
  w = whole_of tree_children placed ok

  pub balanced_tree : (b : NodeBalance) → IsBalance parts.params parts.sinks w.tree b → IsRootWithin parts (label w.tree).route.length b
      → (tree : List TreeNode) × IsBalancedTree parts placed tree
  unfolding IsWireLength
  balanced_tree b is within =
      let nodes = wired parts [] w.tree b is (label w.tree).route.length refl in (
        nodes.0,
        record {
          within = record { root = w.tree; balance = b; whole = record { whole = w.root_is; balanced = is }; within = within };
          nodes = subst (λ os. AllZip (IsBalancedNode parts) os nodes.0) (sym w.occurrences_are) nodes.1;
        },
      )

  beyond_at_root : (b : NodeBalance) → IsBalance parts.params parts.sinks w.tree b → ¬ IsRootWithin parts (label w.tree).route.length b
      → IsLeastBeyond parts placed (length placed - 1)
  beyond_at_root b is over =
      inr (record {
        last = let some = length_pos tree_children placed ok in omega (arith, some);
        root = w.tree;
        balance = b;
        whole = record { whole = w.root_is; balanced = is };
        over = over;
      })

  tree_or_beyond : IsWire parts.params.wire → Fits parts placed
      → ((tree : List TreeNode) × IsBalancedTree parts placed tree) ⊎ ((k : ℕ) × IsLeastBeyond parts placed k)
  tree_or_beyond wire fits =
      elim (balance_or_beyond parts wire 0 w.tree w.numbered (λ n there. All-contains (IsNamed parts) placed n fits.names
      (subst (λ ns. Contains ns n) w.labels_are there))) [
        | inr first ↦
            let least = least_of_first tree_children placed (Beyond parts)
            (subst (HasFirst (Beyond parts)) (sym w.trees_are) first) in
            inr (least.0, inl least.1)
        | inl balance ↦ elim (root_within parts (label w.tree).route.length balance.0) [
          | inl within ↦ inl (balanced_tree balance.0 balance.1 within)
          | inr over ↦ inr (length placed - 1, beyond_at_root balance.0 balance.1 over)
        ]
      ]

pub balanced_or_beyond : PlacedTreesAreBalancedOrBeyond
balanced_or_beyond parts placed wire ok fits = tree_or_beyond parts placed ok wire fits
