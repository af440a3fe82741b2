-- The balance makes one thing of a tree, and a pair that is balanced is not beyond.
use Rattle.std.proofs.Common.{◌≡◌, ℕ, ◌+◌, ◌≤◌, inl, inr, List, [], ◌∷◌, Option, Some, None, refl, sym, ap, subst, ◌∙◌, arith}
use Rattle.std.specs.Int.{abs_diff}
use Rattle.std.specs.Option.{MatchOption}
use Rattle.cts_units.specs.declared.params.Sink.{Sink}
use Rattle.cts_units.specs.declared.params.Params.{Params}
use Rattle.cts_units.specs.Choice.{added_delay_of, seen_load_of}
use Rattle.cts_merge.specs.LeastPair.{IsNoLater, IsLeastPair, Covers}
use Rattle.cts_merge.proofs.Unique.{least_unique}
use Rattle.cts_postorder.specs.BinaryTree.{BinaryTree, tip, fork, label}
use Rattle.cts_postorder.specs.Occurrence.{Occurrence, occurrences_of}
use Rattle.cts_postorder.proofs.Zips.{all_zip-one}
use Rattle.cts_tree.specs.declared.nodes.NodeKind.{NodeKind}
use Rattle.cts_tree.specs.declared.nodes.TreeNode.{TreeNode}
use Rattle.cts_tree.specs.declared.route.Route.{Route}
use Rattle.cts_geom.specs.declared.points.Spot.{Spot}
use Rattle.cts_tree.specs.Nodes.{tree_children, buffer_of}
use Rattle.cts_instance.specs.declared.parts.Parts.{Parts}
use Rattle.cts_embed.specs.declared.node.NodeBalance.{NodeBalance}
use Rattle.cts_embed.specs.Balance.{IsBalance, IsBeyondBalance, IsLeafBalance, IsPairBalance, IsPairBeyond, delay_through, load_below, delay_below, least_below}
use Rattle.cts_embed.specs.BalancedTree.{IsWireLength, IsBalancedNode}
use Rattle.cts_embed.specs.Laws.{BalanceIsOne, BalancedTreeIsOne}

node_same : (p q : NodeBalance) → p.greatest ≡ q.greatest → p.least ≡ q.least → p.load ≡ q.load → p.left_wire ≡ q.left_wire
    → p.right_wire ≡ q.right_wire → p.wires ≡ q.wires → p ≡ q
node_same p q greatest least load left right wires =
    ap (λ (x : ℕ). record p { greatest = x }) greatest
    ∙ ap (λ (x : ℕ). record p { greatest = q.greatest; least = x }) least
    ∙ ap (λ (x : ℕ). record p { greatest = q.greatest; least = q.least; load = x }) load
    ∙ ap (λ (x : ℕ). record q { left_wire = x; right_wire = p.right_wire; wires = p.wires }) left
    ∙ ap (λ (x : ℕ). record q { right_wire = x; wires = p.wires }) right ∙ ap (λ (x : ℕ). record q { wires = x }) wires

leaf_same : (sink : Option Sink) (p q : NodeBalance) → MatchOption sink ⊥ (λ s. IsLeafBalance s p)
    → MatchOption sink ⊥ (λ s. IsLeafBalance s q) → p ≡ q
leaf_same None p q hp hq = absurd hp
leaf_same (Some s) p q hp hq =
    node_same p q (hp.greatest ∙ sym hq.greatest) (hp.least ∙ sym hq.least) (hp.load ∙ sym hq.load) (hp.left_wire ∙ sym hq.left_wire)
    (hp.right_wire ∙ sym hq.right_wire) (hp.total ∙ sym hq.total)

-- over two children and two routes
module _ (params : Params) (buffer : Option ℕ) (a : NodeBalance) (la : ℕ) (b : NodeBalance) (lb : ℕ) where
  load_same : (x y u v : ℕ) → (x ≡ u) × (y ≡ v) → load_below params.wire a b x y ≡ load_below params.wire a b u v
  load_same x y u v same = ap (λ (e : ℕ). load_below params.wire a b e y) same.0 ∙ ap (λ (e : ℕ). load_below params.wire a b u e) same.1

  delay_same : (x y u v : ℕ) → (x ≡ u) × (y ≡ v) → delay_below params.wire a b x y ≡ delay_below params.wire a b u v
  delay_same x y u v same = ap (λ (e : ℕ). delay_below params.wire a b e y) same.0 ∙ ap (λ (e : ℕ). delay_below params.wire a b u e) same.1

  least_same : (x y u v : ℕ) → (x ≡ u) × (y ≡ v) → least_below params.wire a b x y ≡ least_below params.wire a b u v
  least_same x y u v same = ap (λ (e : ℕ). least_below params.wire a b e y) same.0 ∙ ap (λ (e : ℕ). least_below params.wire a b u e) same.1

  pair_one : (p q : NodeBalance) → IsPairBalance params buffer a la b lb p → IsPairBalance params buffer a la b lb q → p ≡ q
  pair_one p q hp hq =
      let wires : (p.left_wire ≡ q.left_wire) × (p.right_wire ≡ q.right_wire) =
      least_unique (delay_through params.wire a) (delay_through params.wire b) (Covers la lb) p.left_wire p.right_wire q.left_wire q.right_wire hp.wires hq.wires in
      let load = load_same p.left_wire p.right_wire q.left_wire q.right_wire wires in
      let delay = delay_same p.left_wire p.right_wire q.left_wire q.right_wire wires in
      let least = least_same p.left_wire p.right_wire q.left_wire q.right_wire wires in
      let seen = ap (seen_load_of params.library buffer) load in
      let added = ap (added_delay_of params.library buffer) load in
      node_same p q (omega (arith, hp.greatest, hq.greatest, delay, added)) (omega (arith, hp.least, hq.least, least, added))
      (hp.load ∙ seen ∙ sym hq.load) (wires.0) (wires.1) (omega (arith, hp.total, hq.total, wires.0, wires.1))

  pair_not_beyond : (p : NodeBalance) → IsPairBalance params buffer a la b lb p → ¬ IsPairBeyond params buffer a la b lb
  pair_not_beyond p hp x =
      let wires : (p.left_wire ≡ x.xa) × (p.right_wire ≡ x.xb) =
      least_unique (delay_through params.wire a) (delay_through params.wire b) (Covers la lb) p.left_wire p.right_wire x.xa x.xb hp.wires x.wires in
      let load = load_same p.left_wire p.right_wire x.xa x.xb wires in
      let delay = delay_same p.left_wire p.right_wire x.xa x.xb wires in
      let added = ap (added_delay_of params.library buffer) load in
      elim x.over [
        | inl first ↦ absurd (omega (arith, hp.left_within, wires.0))
        | inr others ↦ elim others [
          | inl second ↦ absurd (omega (arith, hp.right_within, wires.1))
          | inr rest ↦ elim rest [
            | inl loaded ↦ absurd (omega (arith, hp.load_within, load))
            | inr slow ↦ absurd (omega (arith, hp.greatest, hp.greatest_within, delay, added))
          ]
        ]
      ]

-- the same two children under another name
over : (P : NodeBalance → NodeBalance → Type 0) (a b c d : NodeBalance) → a ≡ c → b ≡ d → P c d → P a b
over P a b c d first second h =
    subst (λ (x : NodeBalance). P x b) (sym first) (subst (λ (x : NodeBalance). P c x) (sym second) h)

pub balance_one : BalanceIsOne
unfolding IsBalance
balance_one params sinks (tip n) p q hp hq = leaf_same _ p q hp hq
balance_one params sinks (fork l r n) p q hp hq =
    let first : hp.0 ≡ hq.0 = balance_one params sinks l hp.0 hq.0 hp.2 hq.2 in
    let second : hp.1 ≡ hq.1 = balance_one params sinks r hp.1 hq.1 hp.3 hq.3 in
    pair_one params (buffer_of n.kind) hp.0 (label l).route.length hp.1 (label r).route.length p q hp.4
    (over (λ a b. IsPairBalance params (buffer_of n.kind) a (label l).route.length b (label r).route.length q) hp.0 hp.1 hq.0 hq.1 first second hq.4)

pub balanced_not_beyond : (params : Params) (sinks : List Sink) (t : BinaryTree TreeNode) (p : NodeBalance)
    → IsBalance params sinks t p → ¬ IsBeyondBalance params sinks t
unfolding IsBalance IsBeyondBalance
balanced_not_beyond params sinks (tip n) p hp = λ q. q
balanced_not_beyond params sinks (fork l r n) p hp = λ q.
    let first : hp.0 ≡ q.0 = balance_one params sinks l hp.0 q.0 hp.2 q.2 in
    let second : hp.1 ≡ q.1 = balance_one params sinks r hp.1 q.1 hp.3 q.3 in
    pair_not_beyond params (buffer_of n.kind) hp.0 (label l).route.length hp.1 (label r).route.length p hp.4
    (over (λ a b. IsPairBeyond params (buffer_of n.kind) a (label l).route.length b (label r).route.length) hp.0 hp.1 q.0 q.1 first second q.4)

-- two sides that are equally slow over their routes keep them
equal_keep : (f g : ℕ → ℕ) (la lb xa xb : ℕ) → IsLeastPair f g (Covers la lb) xa xb → f la ≡ g lb → la ≡ lb → xa ≡ xb
equal_keep f g la lb xa xb p same routes =
    let there : IsNoLater (abs_diff (f xa) (g xb)) (xa + xb) xa (abs_diff (f la) (g lb)) (la + lb) la =
    p.no_later la lb (inl (refl, omega arith)) in
    let total : xa + xb ≤ la + lb = there.by_total (omega (arith, same, there.by_difference)) in
    elim p.admissible [ inl kept ↦ omega (arith, kept.0, kept.1, total) | inr kept ↦ omega (arith, kept.0, kept.1, total) ]

-- where the two parts of a pair are one tree, so are the lengths of their wires
equal_parts : (params : Params) (sinks : List Sink) (l r : BinaryTree TreeNode) (n : TreeNode) (p : NodeBalance)
    → IsBalance params sinks (fork l r n) p → l ≡ r → p.left_wire ≡ p.right_wire
unfolding IsBalance
equal_parts params sinks l r n p hp same =
    let sides : hp.0 ≡ hp.1 =
    balance_one params sinks r hp.0 hp.1 (subst (λ (t : BinaryTree TreeNode). IsBalance params sinks t hp.0) same hp.2) hp.3 in
    let routes : (label l).route.length ≡ (label r).route.length = ap (λ (t : BinaryTree TreeNode). (label t).route.length) same in
    let delays : delay_through params.wire hp.0 (label l).route.length ≡ delay_through params.wire hp.1 (label r).route.length =
    ap (λ (x : NodeBalance). delay_through params.wire x (label l).route.length) sides ∙ ap (delay_through params.wire hp.1) routes in
    equal_keep (delay_through params.wire hp.0) (delay_through params.wire hp.1) (label l).route.length (label r).route.length
    p.left_wire p.right_wire hp.4.wires delays routes

pub wire_one : (parts : Parts) (up : List (BinaryTree TreeNode)) (t : BinaryTree TreeNode) (x y : ℕ) → IsWireLength parts up t x
    → IsWireLength parts up t y → x ≡ y
unfolding IsWireLength
wire_one parts [] t x y hx hy = hx ∙ sym hy
wire_one parts (tip n ∷ up) t x y hx hy = absurd hx
wire_one parts (fork l r n ∷ up) t x y hx hy =
    let same : hx.0 ≡ hy.0 = balance_one parts.params parts.sinks (fork l r n) hx.0 hy.0 hx.1 hy.1 in
    let left : hx.0.left_wire ≡ hy.0.left_wire = ap (λ (p : NodeBalance). p.left_wire) same in
    let right : hx.0.right_wire ≡ hy.0.right_wire = ap (λ (p : NodeBalance). p.right_wire) same in
    elim hx.2 [
      | inl p ↦ elim hy.2 [
        | inl q ↦ p.1 ∙ left ∙ sym (q.1)
        | inr q ↦ p.1 ∙ equal_parts parts.params parts.sinks l r n hx.0 hx.1 (sym (p.0) ∙ q.0) ∙ right ∙ sym (q.1)
      ]
      | inr p ↦ elim hy.2 [
        | inl q ↦ p.1 ∙ sym (equal_parts parts.params parts.sinks l r n hx.0 hx.1 (sym (q.0) ∙ p.0)) ∙ left ∙ sym (q.1)
        | inr q ↦ p.1 ∙ right ∙ sym (q.1)
      ]
    ]

tree_node_same : (p q : TreeNode) → p.kind ≡ q.kind → p.place ≡ q.place → p.wire ≡ q.wire → p.route ≡ q.route → p ≡ q
tree_node_same p q kind place wire route =
    let with_kind : NodeKind → TreeNode = λ x. record { kind = x; place = p.place; wire = p.wire; route = p.route } in
    let with_place : Spot → TreeNode = λ x. record { kind = q.kind; place = x; wire = p.wire; route = p.route } in
    let with_wire : ℕ → TreeNode = λ x. record { kind = q.kind; place = q.place; wire = x; route = p.route } in
    let with_route : Route → TreeNode = λ x. record { kind = q.kind; place = q.place; wire = q.wire; route = x } in
    ap with_kind kind ∙ ap with_place place ∙ ap with_wire wire ∙ ap with_route route

node_one : (parts : Parts) (o : Occurrence TreeNode) (p q : TreeNode) → IsBalancedNode parts o p → IsBalancedNode parts o q → p ≡ q
node_one parts o p q hp hq =
    tree_node_same p q (hp.kind ∙ sym hq.kind) (hp.place ∙ sym hq.place) (wire_one parts o.above o.here p.wire q.wire hp.wire hq.wire)
    (hp.route ∙ sym hq.route)

pub balanced_tree_one : BalancedTreeIsOne
balanced_tree_one parts placed tree other p q =
    all_zip-one (IsBalancedNode parts) (λ o m n. node_one parts o m n) (occurrences_of tree_children placed) tree other p.nodes q.nodes
