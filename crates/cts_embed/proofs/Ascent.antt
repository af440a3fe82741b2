-- The pass of the balance from the leaves up: it keeps a balance of each tree that waits, and sets the wires below each pair.
use Rattle.std.proofs.Common.{◌≡◌, ℕ, ◌+◌, ◌-◌, ◌<◌, ◌≤◌, List, [], ◌∷◌, ◌++◌, map, set, take, drop, length, get_or, slice_get, Option, Some, MatchOption, refl, sym, ap, subst, ◌∙◌, arith, length-set}
use Rattle.std.specs.Prelude.{IfSome}
use Rattle.std.specs.List.{All, AllZip}
use Rattle.std.proofs.lemmas.List.{length-map}
use Rattle.cts_units.specs.declared.params.Params.{Params}
use Rattle.cts_units.specs.declared.params.Sink.{Sink}
use Rattle.cts_postorder.specs.BinaryTree.{BinaryTree}
use Rattle.cts_postorder.specs.PostOrder.{IsPostOrder, NamesFrom, trees_of}
use Rattle.cts_postorder.specs.Pass.{IsLeastFailure}
use Rattle.cts_postorder.specs.Waiting.{AreWaiting, StandsAt}
use Rattle.cts_postorder.proofs.Lists.{Whole, whole_of}
use Rattle.cts_postorder.proofs.Upward.{up_more, least_failure}
use Rattle.cts_postorder.proofs.Waiting.{waiting_at_start}
use Rattle.cts_tree.specs.declared.nodes.NodeKind.TheVariants.{Leaf, Pair}
use Rattle.cts_tree.specs.declared.nodes.TreeNode.{TreeNode}
use Rattle.cts_tree.specs.Nodes.{children_from, tree_children, children_of}
use Rattle.cts_instance.specs.declared.parts.Parts.{Parts}
use Rattle.cts_instance.specs.Validity.{IsValid}
use Rattle.cts_elmore.specs.declared.pin_list.Pin.{Pin}
use Rattle.cts_elmore.specs.Loads.{pin_of, leaf_pins}
use Rattle.cts_elmore.proofs.LeafPins.{taken_pair}
use Rattle.cts_embed.specs.declared.node.NodeBalance.{NodeBalance}
use Rattle.cts_embed.specs.Balance.{IsBalance, IsBeyondBalance, IsLeafBalance, IsPairBalance, IsPairBeyond}
use Rattle.cts_embed.specs.BalancedTree.{IsBalancedStretch}
use Rattle.cts_embed.specs.declared.end.BalanceEnd.TheVariants.{Beyond}
use Rattle.cts_embed.specs.Ends.{StretchEnds}
use Rattle.cts_embed.specs.Fitting.{Fits}
use Rattle.cts_embed.specs.Range.{IsInRange}
use Rattle.cts_embed.proofs.Assembled.{assembled}
use Rattle.cts_embed.proofs.HandedDown.{AreWired, wired_at_start, wired_at_leaf, wired_at_pair, wired_all}
use Rattle.cts_embed.proofs.Pins.{some_left, pin_taken, pins_left, sinks_small}
use Rattle.cts_embed.proofs.Steps as steps
use Rattle.cts_embed.proofs.Steps.{tree_found, stood}
use Rattle.cts_embed.proofs.Unique.{balanced_not_beyond}
use Rattle.cts_embed.proofs.Wired.{with_wire, wires_of, wires_of-set, AreSameButWires, same_set, same_long, same_route, kind_read}

-- In a stretch whose children are counted from `first` on: the balances wait, each tree before number k has one, and the
-- wires below the pairs before it are set; `now` are the nodes then, which are the placed ones otherwise.
pub record IsAscent (parts : Parts) (first : ℕ) (nodes : List TreeNode) (k : ℕ) (waiting : List NodeBalance) (now : List TreeNode) : Type 0 where
  pub waits : AreWaiting (children_from first) nodes (IsBalance parts.params parts.sinks) k waiting
  pub balances : List NodeBalance
  pub balanced : AllZip (IsBalance parts.params parts.sinks) (take k (trees_of (children_from first) nodes)) balances
  pub wired : AreWired parts first nodes k (wires_of now)
  pub same : AreSameButWires nodes now

-- the same under the names that the code gives to what waits and to the nodes
pub ascent_named : (parts : Parts) (first : ℕ) (nodes : List TreeNode) (k : ℕ) (waiting rest : List NodeBalance) (b node : NodeBalance)
    (now next : List TreeNode) → waiting ≡ rest → b ≡ node → now ≡ next → IsAscent parts first nodes k (rest ++ node ∷ []) next
    → IsAscent parts first nodes k (waiting ++ b ∷ []) now
ascent_named parts first nodes k waiting rest b node now next waiting_is b_is now_is ascent =
    subst (λ ns. IsAscent parts first nodes k (waiting ++ b ∷ []) ns) (sym now_is)
    (subst (λ v. IsAscent parts first nodes k (waiting ++ v ∷ []) next) (sym b_is)
    (subst (λ vs. IsAscent parts first nodes k (vs ++ node ∷ []) next) (sym waiting_is) ascent))

module _ (parts : Parts) (first : ℕ) (nodes : List TreeNode) (ok : IsPostOrder (map (children_from first) nodes)) where
  pub ascent_at_start : (waiting : List NodeBalance) → waiting ≡ [] → IsAscent parts first nodes 0 waiting nodes
  ascent_at_start waiting none = record {
    waits = subst (AreWaiting (children_from first) nodes (IsBalance parts.params parts.sinks) 0) (sym none)
        (waiting_at_start (children_from first) nodes (IsBalance parts.params parts.sinks) ok);
    balances = [];
    balanced = tt;
    wired = wired_at_start parts first nodes ok (wires_of nodes) (length-map nodes (λ (n : TreeNode). n.wire));
    same = refl;
  }

  module _ (k : ℕ) (waiting : List NodeBalance) (now : List TreeNode) (ascent : IsAscent parts first nodes k waiting now) where
    module _ (h : k < length nodes) where
      w : Whole (children_from first) nodes
      w = whole_of (children_from first) nodes ok

      abbrev here : BinaryTree TreeNode
      here = get_or (trees_of (children_from first) nodes) k w.tree

      found : slice_get (trees_of (children_from first) nodes) k ≡ Some here
      found = tree_found (children_from first) nodes k here w.tree h refl

      -- one node more
      ascent_next : (left : List NodeBalance) (b : NodeBalance) (next : List TreeNode)
          → StandsAt (children_from first) nodes (IsBalance parts.params parts.sinks) k b
          → AreWaiting (children_from first) nodes (IsBalance parts.params parts.sinks) (k + 1) (left ++ b ∷ [])
          → AreWired parts first nodes (k + 1) (wires_of next) → AreSameButWires nodes next
          → IsAscent parts first nodes (k + 1) (left ++ b ∷ []) next
      ascent_next left b next stands waits wired same = record {
        waits = waits;
        balances = ascent.balances ++ b ∷ [];
        balanced = up_more (children_from first) (IsBalance parts.params parts.sinks) nodes k here w.tree ascent.balances b h refl ascent.balanced
            (stood (children_from first) (IsBalance parts.params parts.sinks) nodes k here w.tree b h refl stands);
        wired = wired;
        same = same;
      }

      -- the first that is beyond
      first_beyond : IfSome (slice_get (trees_of (children_from first) nodes) k) (IsBeyondBalance parts.params parts.sinks)
          → IsLeastFailure (children_from first) nodes (IsBeyondBalance parts.params parts.sinks) k
      first_beyond beyond =
          least_failure (children_from first) (IsBalance parts.params parts.sinks) (IsBeyondBalance parts.params parts.sinks)
          (λ t b. balanced_not_beyond parts.params parts.sinks t b) nodes ascent.balances k here ascent.balanced found
          (subst (λ o. IfSome o (IsBeyondBalance parts.params parts.sinks)) found beyond)

      -- at a leaf, which takes the next of the pins that are left
      module _ (fits : Fits parts nodes) (pins : List Pin) (are : pins ≡ leaf_pins parts (drop k nodes)) (id s : ℕ) (e : TreeNode)
          (read : (get_or now k e).kind ≡ Leaf id s) where
        leaf : (get_or nodes k e).kind ≡ Leaf id s
        leaf = kind_read nodes now ascent.same k e h (Leaf id s) read

        pub pin_waits : 1 ≤ length pins
        pin_waits = some_left parts nodes fits k e h pins are id s leaf

        module _ (pin : Pin) (rest : List Pin) (taken : pins ≡ pin ∷ rest) where
          pub pins_after_leaf : rest ≡ leaf_pins parts (drop (k + 1) nodes)
          pins_after_leaf = pins_left parts nodes fits k e h pins are id s leaf pin rest taken

          pub ascent_at_leaf : (d : Sink) (balance : NodeBalance) → ((sink : Sink) → pin_of sink ≡ pin → IsLeafBalance sink balance)
              → IsAscent parts first nodes (k + 1) (waiting ++ balance ∷ []) now
          ascent_at_leaf d balance is =
              let within : s < length parts.sinks =
              steps.leaf_names (length parts.sinks) (length parts.params.library) id s _ leaf (fits.names k e h) in
              let of_sink : IsLeafBalance (get_or parts.sinks s d) balance =
              is (get_or parts.sinks s d) (pin_taken parts nodes fits k e h pins are id s leaf pin rest taken d) in
              ascent_next waiting balance now
              (steps.leaf_stands first parts.params parts.sinks nodes ok k h waiting ascent.waits id s e leaf within d balance of_sink)
              (steps.leaf_next first parts.params parts.sinks nodes ok k h waiting ascent.waits id s e leaf within d balance of_sink)
              (wired_at_leaf parts first nodes ok k (wires_of now) ascent.wired e h id s leaf) ascent.same

      -- at a pair
      module _ (l r : ℕ) (buffer : Option ℕ) (e : TreeNode) (read : (get_or now k e).kind ≡ Pair l r buffer) where
        kind : (get_or nodes k e).kind ≡ Pair l r buffer
        kind = kind_read nodes now ascent.same k e h (Pair l r buffer) read

        -- which takes none of the pins
        pub pins_after_pair : (pins : List Pin) → pins ≡ leaf_pins parts (drop k nodes) → pins ≡ leaf_pins parts (drop (k + 1) nodes)
        pins_after_pair pins are = taken_pair parts nodes k e h pins are l r buffer kind

        pub counted : All (NamesFrom tree_children first) nodes → (first ≤ l) × (first ≤ r)
        counted numbered = subst (λ (o : Option (ℕ × ℕ)). IfSome o (λ (c : ℕ × ℕ). (first ≤ c.0) × (first ≤ c.1))) (ap children_of kind) (numbered k e h)

        left_below : l - first < length nodes
        left_below = steps.left_within first parts.params parts.sinks nodes ok k h waiting ascent.waits l r buffer e kind

        right_below : r - first < length nodes
        right_below = steps.right_within first parts.params parts.sinks nodes ok k h waiting ascent.waits l r buffer e kind

        pub left_within : l - first < length now
        left_within = omega (arith, left_below, same_long nodes now ascent.same)

        pub right_within : r - first < length now
        right_within = omega (arith, right_below, same_long nodes now ascent.same)

        pub right_within_set : (n : TreeNode) → r - first < length (set now (l - first) n)
        right_within_set n = omega (arith, right_within, length-set now (l - first) n)

        pub two_ready : 2 ≤ length waiting
        two_ready = steps.two_ready first parts.params parts.sinks nodes ok k h waiting ascent.waits l r buffer e kind

        pub buffer_named : Fits parts nodes → (lent : Params) → lent ≡ parts.params
            → MatchOption buffer (Unit {0}) (λ index. index < length lent.library)
        buffer_named fits lent same =
            subst (λ (params : Params). MatchOption buffer (Unit {0}) (λ index. index < length params.library)) (sym same)
            (steps.pair_names (length parts.sinks) (length parts.params.library) l r buffer _ kind (fits.names k e h))

        -- over the two latest that wait
        module _ (rest : List NodeBalance) (a b : NodeBalance) (taken : waiting ≡ rest ++ a ∷ b ∷ []) where
          pub left_ready : IsValid parts → Fits parts nodes → IsInRange a
          left_ready valid fits =
              steps.left_ready first parts.params parts.sinks nodes ok k h waiting ascent.waits l r buffer e kind rest a b taken valid.params
              (sinks_small parts valid) fits.few

          pub right_ready : IsValid parts → Fits parts nodes → IsInRange b
          right_ready valid fits =
              steps.right_ready first parts.params parts.sinks nodes ok k h waiting ascent.waits l r buffer e kind rest a b taken valid.params
              (sinks_small parts valid) fits.few

          -- the lengths of their routes are read of the nodes as they are now
          module _ (lent : Params) (same : lent ≡ parts.params) (f g : TreeNode) where
            abbrev la : ℕ
            la = (get_or now (l - first) f).route.length

            abbrev lb : ℕ
            lb = (get_or now (r - first) g).route.length

            pub pair_beyond : IsPairBeyond lent buffer a la b lb → StretchEnds parts first nodes (Beyond (first + k))
            pair_beyond over =
                let number : first + k - first ≡ k = omega arith in (
                  omega arith,
                  subst (IsLeastFailure (children_from first) nodes (IsBeyondBalance parts.params parts.sinks)) (sym number)
                      (first_beyond (steps.pair_beyond first parts.params parts.sinks nodes ok k h waiting ascent.waits l r buffer e kind rest a b
                      taken f g la lb (same_route nodes now ascent.same (l - first) f left_below)
                      (same_route nodes now ascent.same (r - first) g right_below) lent same over)),
                )

            pub ascent_at_pair : (pair : NodeBalance) → IsPairBalance lent buffer a la b lb pair → (x y : TreeNode)
                → IsAscent parts first nodes (k + 1) (rest ++ pair ∷ [])
                (set (set now (l - first) (with_wire (get_or now (l - first) x) pair.left_wire)) (r - first)
                (with_wire (get_or (set now (l - first) (with_wire (get_or now (l - first) x) pair.left_wire)) (r - first) y) pair.right_wire))
            ascent_at_pair pair is x y =
                let one_set : List TreeNode = set now (l - first) (with_wire (get_or now (l - first) x) pair.left_wire) in
                let both : List TreeNode = set one_set (r - first) (with_wire (get_or one_set (r - first) y) pair.right_wire) in
                let one : AreSameButWires nodes one_set = same_set nodes now ascent.same (l - first) x pair.left_wire in
                let wires : set (set (wires_of now) (l - first) pair.left_wire) (r - first) pair.right_wire ≡ wires_of both =
                sym (wires_of-set one_set (r - first) (get_or one_set (r - first) y) pair.right_wire
                ∙ ap (λ ws. set ws (r - first) pair.right_wire) (wires_of-set now (l - first) (get_or now (l - first) x) pair.left_wire)) in
                let stands : StandsAt (children_from first) nodes (IsBalance parts.params parts.sinks) k pair =
                steps.pair_stands first parts.params parts.sinks nodes ok k h waiting ascent.waits l r buffer e kind rest a b taken
                f g la lb (same_route nodes now ascent.same (l - first) f left_below) (same_route nodes now ascent.same (r - first) g right_below)
                lent same pair is in
                ascent_next rest pair both stands
                (steps.pair_next first parts.params parts.sinks nodes ok k h waiting ascent.waits l r buffer e kind rest a b taken
                f g la lb (same_route nodes now ascent.same (l - first) f left_below) (same_route nodes now ascent.same (r - first) g right_below)
                lent same pair is)
                (subst (AreWired parts first nodes (k + 1)) wires
                (wired_at_pair parts first nodes ok k (wires_of now) ascent.wired e h l r buffer kind pair stands))
                (same_set nodes one_set one (r - first) y pair.right_wire)

    -- at the end the wires below all pairs are set
    pub ascent_all : length nodes ≤ k → IsBalancedStretch parts first nodes now
    ascent_all whole =
        assembled parts (children_from first) nodes ok now ascent.same
        (wired_all parts first nodes ok k (wires_of now) ascent.wired whole)
