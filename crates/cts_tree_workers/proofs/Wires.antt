-- The nodes of a balanced part as they stand in a greater one, and the wire of the part's root.
use Rattle.std.proofs.Common.{◌≡◌, ℕ, ◌+◌, ◌-◌, List, [], ◌∷◌, ◌++◌, set, length, get_or, sym, ap, subst, ◌∙◌, arith, length-append}
use Rattle.std.specs.List.{AllZip}
use Rattle.std.proofs.lemmas.Slice.Zip.{AllZip-long}
use Rattle.cts_postorder.specs.BinaryTree.{BinaryTree, tip, fork, size, root_number}
use Rattle.cts_postorder.specs.Occurrence.{Occurrence, occurrence, occurrences}
use Rattle.cts_postorder.proofs.Places.{get_or-occurrences-root}
use Rattle.cts_postorder.proofs.Sizes.{size_pos, length-occurrences, root_number-next}
use Rattle.cts_postorder.proofs.Zips.{all_zip-at, all_zip-append}
use Rattle.cts_tree.specs.declared.nodes.TreeNode.{TreeNode}
use Rattle.cts_instance.specs.declared.parts.Parts.{Parts}
use Rattle.cts_embed.specs.BalancedTree.{IsWireLength, IsWireBelow, IsBalancedBelow}
use Rattle.cts_embed.proofs.Wired.{with_wire}

-- A list that is related to another one, where each item of a third one follows it, and its last item is another one.
last_set : {A B C : Type 0} (R : A → B → Type 0) (S : C → B → Type 0) (xs : List A) (x : A) (us : List C) (u : C) (ys : List B) (y : B)
    → AllZip (λ a c. (b : B) → R a b → S c b) xs us → AllZip R (xs ++ x ∷ []) ys → S u y
    → AllZip S (us ++ u ∷ []) (set ys (length xs) y)
last_set R S [] x [] u [] y then all here = absurd all
last_set R S [] x [] u (v ∷ []) y then all here = (here, tt)
last_set R S [] x [] u (v ∷ w ∷ ys) y then all here = absurd (all.1)
last_set R S [] x (c ∷ us) u ys y then all here = absurd then
last_set R S (a ∷ xs) x [] u ys y then all here = absurd then
last_set R S (a ∷ xs) x (c ∷ us) u [] y then all here = absurd all
last_set R S (a ∷ xs) x (c ∷ us) u (v ∷ ys) y then all here =
    (then.0 v (all.0), last_set R S xs x us u ys y (then.1) (all.1) here)

module _ (parts : Parts) where
  -- the nearest pair alone tells the length of a wire
  nearest : (p : BinaryTree TreeNode) (up more : List (BinaryTree TreeNode)) (t : BinaryTree TreeNode) (len : ℕ)
      → IsWireBelow parts (p ∷ up) t len → IsWireBelow parts (p ∷ more) t len
  unfolding IsWireLength IsWireBelow
  nearest (tip n) up more t len is = absurd is
  nearest (fork l r n) up more t len is = is

  -- what is known of a node of the part is known of it in the greater one
  abbrev Follows : Occurrence TreeNode → Occurrence TreeNode → Type 0
  Follows o p = (node : TreeNode) → IsBalancedBelow parts o node → IsBalancedBelow parts p node

  follows : (p : BinaryTree TreeNode) (up more : List (BinaryTree TreeNode)) (t : BinaryTree TreeNode)
      → Follows (occurrence (p ∷ up) t) (occurrence (p ∷ more) t)
  follows p up more t node is = record {
    kind = is.kind;
    place = is.place;
    route = is.route;
    wire = nearest p up more t node.wire is.wire;
  }

  all_follow : (t p : BinaryTree TreeNode) (up more : List (BinaryTree TreeNode))
      → AllZip Follows (occurrences (p ∷ up) t) (occurrences (p ∷ more) t)
  unfolding occurrences
  all_follow (tip n) p up more = (follows p up more (tip n), tt)
  all_follow (fork l r n) p up more =
      let top : BinaryTree TreeNode = fork l r n in
      all_zip-append Follows _ (occurrence (p ∷ up) top ∷ []) _ (occurrence (p ∷ more) top ∷ [])
      (all_zip-append Follows _ _ _ _ (all_follow l top (p ∷ up) (p ∷ more)) (all_follow r top (p ∷ up) (p ∷ more)))
      (follows p up more top, tt)

  -- the last node of a part carries its root
  pub last_below : (t : BinaryTree TreeNode) (nodes : List TreeNode) (d : TreeNode) → AllZip (IsBalancedBelow parts) (occurrences [] t) nodes
      → IsBalancedBelow parts (occurrence [] t) (get_or nodes (length nodes - 1) d)
  last_below t nodes d all =
      let o : Occurrence TreeNode = occurrence [] t in
      let long : length nodes ≡ length (occurrences [] t) = AllZip-long (IsBalancedBelow parts) (occurrences [] t) nodes all in
      let last : root_number 0 t ≡ length nodes - 1 = omega (arith, long, length-occurrences [] t, root_number-next 0 t) in
      let there : get_or (occurrences [] t) (length nodes - 1) o ≡ o =
      ap (λ i. get_or (occurrences [] t) i o) (sym last) ∙ get_or-occurrences-root [] t o in
      subst (λ x. IsBalancedBelow parts x (get_or nodes (length nodes - 1) d)) there
      (all_zip-at (IsBalancedBelow parts) (occurrences [] t) nodes (length nodes - 1) o d all
      (omega (arith, long, length-occurrences [] t, size_pos t)))

  by_tree : (t : BinaryTree TreeNode) (up : List (BinaryTree TreeNode)) (nodes : List TreeNode) (node : TreeNode)
      → IsBalancedBelow parts (occurrence up t) node → AllZip (IsBalancedBelow parts) (occurrences [] t) nodes
      → AllZip (IsBalancedBelow parts) (occurrences up t) (set nodes (size t - 1) node)
  unfolding occurrences size
  by_tree (tip n) up nodes node here all =
      last_set (IsBalancedBelow parts) (IsBalancedBelow parts) [] (occurrence [] (tip n)) [] (occurrence up (tip n)) nodes node tt all here
  by_tree (fork l r n) up nodes node here all =
      let top : BinaryTree TreeNode = fork l r n in
      let front : List (Occurrence TreeNode) = occurrences (top ∷ []) l ++ occurrences (top ∷ []) r in
      let long : length front ≡ size l + size r + 1 - 1 =
      simp length-append (omega (arith, length-occurrences (top ∷ []) l, length-occurrences (top ∷ []) r)) in
      subst (λ i. AllZip (IsBalancedBelow parts) (occurrences up top) (set nodes i node)) long
      (last_set (IsBalancedBelow parts) (IsBalancedBelow parts) front (occurrence [] top)
      (occurrences (top ∷ up) l ++ occurrences (top ∷ up) r) (occurrence up top) nodes node
      (all_zip-append Follows _ _ _ _ (all_follow l top [] up) (all_follow r top [] up)) all here)

  -- with the wire of its root the part stands below the pairs above it
  pub part_in_greater : (t : BinaryTree TreeNode) (up : List (BinaryTree TreeNode)) (len : ℕ) (nodes : List TreeNode) (d : TreeNode)
      → IsWireBelow parts up t len → AllZip (IsBalancedBelow parts) (occurrences [] t) nodes
      → AllZip (IsBalancedBelow parts) (occurrences up t) (set nodes (length nodes - 1) (with_wire (get_or nodes (length nodes - 1) d) len))
  part_in_greater t up len nodes d is all =
      let node : TreeNode = with_wire (get_or nodes (length nodes - 1) d) len in
      let own : IsBalancedBelow parts (occurrence [] t) (get_or nodes (length nodes - 1) d) = last_below t nodes d all in
      let here : IsBalancedBelow parts (occurrence up t) node =
      record { kind = own.kind; place = own.place; route = own.route; wire = is } in
      let long : length nodes ≡ length (occurrences [] t) = AllZip-long (IsBalancedBelow parts) (occurrences [] t) nodes all in
      let last : size t - 1 ≡ length nodes - 1 = omega (arith, long, length-occurrences [] t) in
      subst (λ i. AllZip (IsBalancedBelow parts) (occurrences up t) (set nodes i node)) last (by_tree t up nodes node here all)
