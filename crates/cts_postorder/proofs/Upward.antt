-- An upward pass: a value for each tree in the order of their numbers, told from those of its parts.
use Rattle.std.proofs.Common.{◌≡◌, ℕ, ◌+◌, ◌<◌, ◌≤◌, List, [], ◌∷◌, ◌++◌, map, take, length, get_or, slice_get, Option, Some, None, inl, inr, sym, ap, subst, ◌∙◌, arith, get_or-take, take_all}
use Rattle.std.specs.List.{All, AllZip}
use Rattle.std.proofs.lemmas.List.{take_more, length-take-le}
use Rattle.std.proofs.lemmas.Bool.{cases_lt}
use Rattle.std.proofs.lemmas.Option.{slice_get-get_or, slice_get_within, get_or_from_slice_get}
use Rattle.std.proofs.lemmas.Slice.Zip.{AllZip-long}
use Rattle.cts_postorder.specs.BinaryTree.{BinaryTree, tip, fork, label, size}
use Rattle.cts_postorder.specs.PostOrder.{IsPostOrder, tree_over, trees_of}
use Rattle.cts_postorder.specs.Pass.{IsLeastFailure}
use Rattle.cts_postorder.proofs.Zips.{all_zip-push, all_zip-at}
use Rattle.cts_postorder.proofs.Growth.{length-trees_of, trees_of-at, label-tree}
use Rattle.cts_postorder.proofs.Failures.{size-tree}
use Rattle.cts_postorder.proofs.Lists.{IsPair, is_pair}

-- The pair of number k: its parts have lower numbers, they carry the nodes there, and stand in the relation to their values so far, and with a
-- value for the pair itself there is one more.
pub record UpAtPair {N V : Type 0} (kids : N → Option (ℕ × ℕ)) (nodes : List N) (R : BinaryTree N → V → Type 0)
    (k : ℕ) (p : ℕ × ℕ) (n : N) (out : List V) : Type 0 where
  pub left : BinaryTree N
  pub right : BinaryTree N
  pub left_below : p.0 < k
  pub right_below : p.1 < k
  pub left_value : (v : V) → R left (get_or out (p.0) v)
  pub right_value : (v : V) → R right (get_or out (p.1) v)
  pub left_label : (d : N) → label left ≡ get_or nodes (p.0) d
  pub right_label : (d : N) → label right ≡ get_or nodes (p.1) d
  pub left_size : size left ≤ k
  pub right_size : size right ≤ k
  pub here : slice_get (trees_of kids nodes) k ≡ Some (fork left right n)
  pub next : (v : V) → R (fork left right n) v → AllZip R (take (k + 1) (trees_of kids nodes)) (out ++ v ∷ [])

module _ {N V : Type 0} (kids : N → Option (ℕ × ℕ)) (R : BinaryTree N → V → Type 0) where
  -- there is a value for each node so far
  pub up_long : (nodes : List N) (k : ℕ) (out : List V) → k ≤ length nodes
      → AllZip R (take k (trees_of kids nodes)) out → length out ≡ k
  up_long nodes k out h all =
      AllZip-long R (take k (trees_of kids nodes)) out all
      ∙ length-take-le k (trees_of kids nodes) (omega (arith, length-trees_of kids nodes))

  -- one more value: that of the tree at the next number
  pub up_more : (nodes : List N) (k : ℕ) (t d : BinaryTree N) (out : List V) (v : V) → k < length nodes
      → get_or (trees_of kids nodes) k d ≡ t → AllZip R (take k (trees_of kids nodes)) out → R t v
      → AllZip R (take (k + 1) (trees_of kids nodes)) (out ++ v ∷ [])
  up_more nodes k t d out v h is all here =
      let trees : List (BinaryTree N) = trees_of kids nodes in
      let more : take (k + 1) trees ≡ take k trees ++ t ∷ [] =
      take_more trees k d (omega (arith, length-trees_of kids nodes)) ∙ ap (λ u. take k trees ++ u ∷ []) is in
      subst (λ ts. AllZip R ts (out ++ v ∷ [])) (sym more) (all_zip-push R (take k trees) out t v all here)

  -- the tree at a leaf
  pub leaf_here : (nodes : List N) (k : ℕ) (e : N) (d : BinaryTree N) → k < length nodes → kids (get_or nodes k e) ≡ None
      → get_or (trees_of kids nodes) k d ≡ tip (get_or nodes k e)
  unfolding tree_over
  leaf_here nodes k e d h leaf =
      trees_of-at kids nodes k e d h ∙ ap (λ c. tree_over c (take k (trees_of kids nodes)) (get_or nodes k e)) leaf

  pub up_at_leaf : (nodes : List N) (k : ℕ) (e : N) (out : List V) (v : V) → k < length nodes
      → kids (get_or nodes k e) ≡ None → AllZip R (take k (trees_of kids nodes)) out → R (tip (get_or nodes k e)) v
      → AllZip R (take (k + 1) (trees_of kids nodes)) (out ++ v ∷ [])
  up_at_leaf nodes k e out v h leaf all here =
      up_more nodes k (tip (get_or nodes k e)) (tip e) out v h (leaf_here nodes k e (tip e) h leaf) all here

  pub up_at_pair : (nodes : List N) → IsPostOrder (map kids nodes) → (k : ℕ) (e : N) (p : ℕ × ℕ) (out : List V)
      → k < length nodes → kids (get_or nodes k e) ≡ Some p → AllZip R (take k (trees_of kids nodes)) out
      → UpAtPair kids nodes R k p (get_or nodes k e) out
  up_at_pair nodes ok k e p out h pair all =
      let n : N = get_or nodes k e in
      let trees : List (BinaryTree N) = trees_of kids nodes in
      let v : IsPair kids nodes k p n = is_pair kids nodes ok k e p h pair in
      let long : length trees ≡ length nodes = length-trees_of kids nodes in
      let front : length (take k trees) ≡ k = length-take-le k trees (omega arith) in
      let at : (i : ℕ) (t : BinaryTree N) (u : V) → i < k → get_or trees i (tip e) ≡ t → R t (get_or out i u) =
      λ i t u w is. subst (λ s. R s (get_or out i u)) (get_or-take k trees i (tip e) w ∙ is)
      (all_zip-at R (take k trees) out i (tip e) u all (omega arith)) in
      let small : (i : ℕ) (t : BinaryTree N) → i < k → get_or trees i (tip e) ≡ t → size t ≤ k =
      λ i t w is. omega (arith, size-tree kids nodes ok i (tip e) (omega arith), ap size is) in
      record {
        left = v.left;
        right = v.right;
        left_below = v.left_below;
        right_below = v.right_below;
        left_value = λ u. at (p.0) v.left u v.left_below (v.left_tree (tip e));
        right_value = λ u. at (p.1) v.right u v.right_below (v.right_tree (tip e));
        left_label = λ d. ap label (sym (v.left_tree (tip d))) ∙ label-tree kids nodes (p.0) (tip d) d (omega (arith, v.left_below));
        right_label = λ d. ap label (sym (v.right_tree (tip d))) ∙ label-tree kids nodes (p.1) (tip d) d (omega (arith, v.right_below));
        left_size = small (p.0) v.left v.left_below (v.left_tree (tip e));
        right_size = small (p.1) v.right v.right_below (v.right_tree (tip e));
        here = slice_get-get_or trees k (tip e) (omega arith) ∙ ap Some (v.tree (tip e));
        next = λ u here. up_more nodes k (fork v.left v.right n) (tip e) out u h (v.tree (tip e)) all here;
      }

  -- at the end there is a value for each tree
  pub up_all : (nodes : List N) (k : ℕ) (out : List V) → length nodes ≤ k → AllZip R (take k (trees_of kids nodes)) out
      → AllZip R (trees_of kids nodes) out
  up_all nodes k out h all =
      subst (λ ts. AllZip R ts out) (take_all k (trees_of kids nodes) (omega (arith, length-trees_of kids nodes))) all

-- An upward pass that stops at the first failure. A tree that has a value does not fail.
module _ {N V : Type 0} (kids : N → Option (ℕ × ℕ)) (R : BinaryTree N → V → Type 0) (Fails : BinaryTree N → Type 0)
    (sound : (t : BinaryTree N) (v : V) → R t v → ¬ Fails t) where
  none_fail : (ts : List (BinaryTree N)) (out : List V) → AllZip R ts out → All (λ t. ¬ Fails t) ts
  none_fail ts [] all = λ k d h. absurd (omega (arith, AllZip-long R ts [] all))
  none_fail ts (v ∷ out) all = λ k d h. sound (get_or ts k d) (get_or (v ∷ out) k v) (all_zip-at R ts (v ∷ out) k d v all h)

  -- where the next tree fails, its number is the least
  pub least_failure : (nodes : List N) (out : List V) (k : ℕ) (t : BinaryTree N)
      → AllZip R (take k (trees_of kids nodes)) out → slice_get (trees_of kids nodes) k ≡ Some t → Fails t
      → IsLeastFailure kids nodes Fails k
  least_failure nodes out k t all here fails =
      record { tree = t; found = here; fails = fails; none_before = none_fail (take k (trees_of kids nodes)) out all }

  -- where every tree has a value no number fails
  pub none_left : (nodes : List N) (out : List V) (k : ℕ) → AllZip R (trees_of kids nodes) out
      → ¬ IsLeastFailure kids nodes Fails k
  none_left nodes out k all f =
      let trees : List (BinaryTree N) = trees_of kids nodes in
      let within : k < length trees = slice_get_within trees k f.tree f.found in
      let is : get_or trees k f.tree ≡ f.tree = get_or_from_slice_get trees k f.tree f.tree f.found in
      none_fail trees out all k f.tree within (subst Fails (sym is) f.fails)

-- the least number that fails is one
module _ {N : Type 0} (kids : N → Option (ℕ × ℕ)) (Fails : BinaryTree N → Type 0) where
  not_before : (nodes : List N) (j k : ℕ) → IsLeastFailure kids nodes Fails j → IsLeastFailure kids nodes Fails k
      → ¬ (j < k)
  not_before nodes j k f g h =
      let trees : List (BinaryTree N) = trees_of kids nodes in
      let within : k < length trees = slice_get_within trees k g.tree g.found in
      let front : length (take k trees) ≡ k = length-take-le k trees (omega arith) in
      let is : get_or (take k trees) j f.tree ≡ f.tree =
      get_or-take k trees j f.tree h ∙ get_or_from_slice_get trees j f.tree f.tree f.found in
      g.none_before j f.tree (omega arith) (subst Fails (sym is) f.fails)

  pub least_failure_unique : (nodes : List N) (j k : ℕ) → IsLeastFailure kids nodes Fails j
      → IsLeastFailure kids nodes Fails k → j ≡ k
  least_failure_unique nodes j k f g =
      elim (cases_lt j k) [
        | inl h ↦ absurd (not_before nodes j k f g h)
        | inr h ↦ elim (cases_lt k j) [
          | inl w ↦ absurd (not_before nodes k j g f w)
          | inr w ↦ omega arith
        ]
      ]
