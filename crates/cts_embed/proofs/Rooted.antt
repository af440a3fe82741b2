-- A balanced stretch that is the whole of a placed tree, and the root's own wire, which is set last.
use Rattle.std.proofs.Common.{◌≡◌, ℕ, ◌+◌, ◌-◌, ◌<◌, inl, List, [], ◌∷◌, ◌++◌, map, set, length, get_or, refl, sym, ap, subst, ◌∙◌, arith, length-append}
use Rattle.std.specs.Prelude.{IfSome}
use Rattle.std.specs.List.{All, AllZip}
use Rattle.std.proofs.lemmas.List.Elements.{All-append, All-cons, All-nil, All-head, All-tail}
use Rattle.cts_postorder.specs.BinaryTree.{BinaryTree, tip, fork, label, labels, size, root_number, IsNumbered}
use Rattle.cts_postorder.specs.PostOrder.{IsPostOrder, NamesFrom, root_of}
use Rattle.cts_postorder.specs.Occurrence.{Occurrence, occurrence, occurrences, occurrences_of}
use Rattle.cts_postorder.specs.Pass.{IsLeastFailure}
use Rattle.cts_postorder.proofs.Lists.{Whole, whole_of, length_pos, length-occurrences_of}
use Rattle.cts_postorder.proofs.Places.{get_or-occurrences-root}
use Rattle.cts_postorder.proofs.Sizes.{length-occurrences, root_number-next}
use Rattle.cts_postorder.proofs.Stretches.{names_from}
use Rattle.cts_postorder.proofs.Zips.{all_zip-at}
use Rattle.cts_tree.specs.declared.nodes.TreeNode.{TreeNode}
use Rattle.cts_tree.specs.Nodes.{children_from, tree_children}
use Rattle.cts_tree.proofs.Stretches.{whole_from_start}
use Rattle.cts_instance.specs.declared.parts.Parts.{Parts}
use Rattle.cts_embed.specs.declared.end.BalanceEnd.{BalanceEnd}
use Rattle.cts_embed.specs.declared.end.BalanceEnd.TheVariants.{Beyond, NoMemory}
use Rattle.cts_embed.specs.declared.node.NodeBalance.{NodeBalance}
use Rattle.cts_embed.specs.Balance.{IsBalance, IsBeyondBalance}
use Rattle.cts_embed.specs.BalancedTree.{IsWireLength, IsWireBelow, IsBalancedNode, IsBalancedBelow, IsBalancedStretch, IsStretchBalance}
use Rattle.cts_embed.specs.Ends.{BalanceEnds, StretchEnds}
use Rattle.cts_embed.proofs.Wired.{with_wire, AreSameButWires, same_long}

-- from number 0 on the stretch is the whole tree
pub whole_post_order : (nodes : List TreeNode) → IsPostOrder (map tree_children nodes) → IsPostOrder (map (children_from 0) nodes)
whole_post_order nodes = subst (λ kids. IsPostOrder (map kids nodes)) (sym whole_from_start)

-- a tree that is numbered from a number on names no lower one
pub names_from_first : (first : ℕ) (t : BinaryTree TreeNode) → IsNumbered tree_children first t
    → All (NamesFrom tree_children first) (labels t)
names_from_first first t numbered = names_from tree_children t first first (omega arith) numbered

pub whole_balance : (parts : Parts) (nodes : List TreeNode) (b : NodeBalance) → IsStretchBalance parts 0 nodes b
    → IfSome (root_of tree_children nodes) (λ t. IsBalance parts.params parts.sinks t b)
whole_balance parts nodes b =
    subst (λ kids. IfSome (root_of kids nodes) (λ t. IsBalance parts.params parts.sinks t b)) whole_from_start

pub whole_ends : (parts : Parts) (nodes : List TreeNode) (end : BalanceEnd) → StretchEnds parts 0 nodes end → BalanceEnds parts nodes end
whole_ends parts nodes (Beyond node) ends =
    let number : node - 0 ≡ node = omega arith in
    inl (subst (IsLeastFailure tree_children nodes (IsBeyondBalance parts.params parts.sinks)) number
    (subst (λ kids. IsLeastFailure kids nodes (IsBeyondBalance parts.params parts.sinks) (node - 0)) whole_from_start (ends.1)))
whole_ends parts nodes NoMemory ends = tt

pub whole_stretch : (parts : Parts) (nodes now : List TreeNode) → IsBalancedStretch parts 0 nodes now
    → AllZip (IsBalancedBelow parts) (occurrences_of tree_children nodes) now
whole_stretch parts nodes now =
    subst (λ kids. AllZip (IsBalancedBelow parts) (occurrences_of kids nodes) now) whole_from_start

-- another item in place of the last one
last_set : {A B : Type 0} (R S : A → B → Type 0) (P : A → Type 0) → ((x : A) (y : B) → P x → R x y → S x y) → (xs : List A) (x : A)
    (ys : List B) (y : B) → All P xs → AllZip R (xs ++ x ∷ []) ys → S x y → AllZip S (xs ++ x ∷ []) (set ys (length xs) y)
last_set R S P then [] x [] y all zip here = absurd zip
last_set R S P then [] x (v ∷ []) y all zip here = (here, tt)
last_set R S P then [] x (v ∷ w ∷ ys) y all zip here = absurd (zip.1)
last_set R S P then (u ∷ xs) x [] y all zip here = absurd zip
last_set R S P then (u ∷ xs) x (v ∷ ys) y all zip here =
    (then u v (All-head P u xs all) (zip.0), last_set R S P then xs x ys y (All-tail P u xs all) (zip.1) here)

-- a pair is above it
abbrev IsBelowPair : Occurrence TreeNode → Type 0
IsBelowPair o = (pair : BinaryTree TreeNode) × (up : List (BinaryTree TreeNode)) × (o.above ≡ pair ∷ up)

all_below : (t pair : BinaryTree TreeNode) (up : List (BinaryTree TreeNode)) → All IsBelowPair (occurrences (pair ∷ up) t)
unfolding occurrences
all_below (tip n) pair up = All-cons IsBelowPair _ [] (pair, up, refl) (All-nil IsBelowPair)
all_below (fork l r n) pair up =
    let top : BinaryTree TreeNode = fork l r n in
    All-append IsBelowPair _ (occurrence (pair ∷ up) top ∷ [])
    (All-append IsBelowPair _ _ (all_below l top (pair ∷ up)) (all_below r top (pair ∷ up)))
    (All-cons IsBelowPair _ [] (pair, up, refl) (All-nil IsBelowPair))

module _ (parts : Parts) where
  -- there the length of its wire is known
  known : (o : Occurrence TreeNode) (node : TreeNode) → IsBelowPair o → IsBalancedBelow parts o node → IsBalancedNode parts o node
  unfolding IsWireBelow
  known o node below is = record {
    kind = is.kind;
    place = is.place;
    route = is.route;
    wire = subst (λ up. IsWireLength parts up o.here node.wire) (sym (below.2))
        (subst (λ up. IsWireBelow parts up o.here node.wire) (below.2) is.wire);
  }

  with_last : (t : BinaryTree TreeNode) (now : List TreeNode) (node : TreeNode)
      → AllZip (IsBalancedBelow parts) (occurrences [] t) now → IsBalancedNode parts (occurrence [] t) node
      → AllZip (IsBalancedNode parts) (occurrences [] t) (set now (size t - 1) node)
  unfolding occurrences size
  with_last (tip n) now node below here =
      last_set (IsBalancedBelow parts) (IsBalancedNode parts) IsBelowPair known [] (occurrence [] (tip n)) now node
      (All-nil IsBelowPair) below here
  with_last (fork l r n) now node below here =
      let top : BinaryTree TreeNode = fork l r n in
      let front : List (Occurrence TreeNode) = occurrences (top ∷ []) l ++ occurrences (top ∷ []) r in
      let long : length front ≡ size l + size r + 1 - 1 =
      simp length-append (omega (arith, length-occurrences (top ∷ []) l, length-occurrences (top ∷ []) r)) in
      subst (λ i. AllZip (IsBalancedNode parts) (front ++ occurrence [] top ∷ []) (set now i node)) long
      (last_set (IsBalancedBelow parts) (IsBalancedNode parts) IsBelowPair known front (occurrence [] top) now node
      (All-append IsBelowPair _ _ (all_below l top []) (all_below r top [])) below here)

  module _ (nodes : List TreeNode) (ok : IsPostOrder (map tree_children nodes)) (now : List TreeNode)
      (below : AllZip (IsBalancedBelow parts) (occurrences_of tree_children nodes) now) (same : AreSameButWires nodes now) where
    w : Whole tree_children nodes
    w = whole_of tree_children nodes ok

    -- with the root's wire too they are the nodes of the balanced tree
    pub rooted : (d : TreeNode) (len : ℕ) → IfSome (root_of tree_children nodes) (λ t. len ≡ (label t).route.length)
        → AllZip (IsBalancedNode parts) (occurrences_of tree_children nodes)
        (set now (length now - 1) (with_wire (get_or now (length now - 1) d) len))
    unfolding IsWireLength
    rooted d len is =
        let o : Occurrence TreeNode = occurrence [] w.tree in
        let last : ℕ = length now - 1 in
        let long : length now ≡ length nodes = same_long nodes now same in
        let some : 0 < length nodes = length_pos tree_children nodes ok in
        let number : size w.tree - 1 ≡ last = omega (arith, w.size_is) in
        let place : last ≡ root_number 0 w.tree = omega (arith, w.size_is, root_number-next 0 w.tree) in
        let there : get_or (occurrences_of tree_children nodes) last o ≡ o =
        ap (λ os. get_or os last o) w.occurrences_are ∙ ap (λ i. get_or (occurrences [] w.tree) i o) place
        ∙ get_or-occurrences-root [] w.tree o in
        let own : IsBalancedBelow parts o (get_or now last d) =
        subst (λ x. IsBalancedBelow parts x (get_or now last d)) there
        (all_zip-at (IsBalancedBelow parts) (occurrences_of tree_children nodes) now last o d below
        (omega (arith, length-occurrences_of tree_children nodes ok))) in
        let here : IsBalancedNode parts o (with_wire (get_or now last d) len) = record {
          kind = own.kind;
          place = own.place;
          route = own.route;
          wire = subst (λ x. IfSome x (λ (t : BinaryTree TreeNode). len ≡ (label t).route.length)) w.root_is is;
        } in
        subst (λ os. AllZip (IsBalancedNode parts) os (set now last (with_wire (get_or now last d) len))) (sym w.occurrences_are)
        (subst (λ i. AllZip (IsBalancedNode parts) (occurrences [] w.tree) (set now i (with_wire (get_or now last d) len))) number
        (with_last w.tree now (with_wire (get_or now last d) len)
        (subst (λ os. AllZip (IsBalancedBelow parts) os now) w.occurrences_are below) here))
