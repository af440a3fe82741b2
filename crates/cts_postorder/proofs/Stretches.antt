-- Stretches of a tree's nodes: those of one of its subtrees, whose numbers are counted from the first of them on.
use Rattle.std.proofs.Common.{◌≡◌, ℕ, ◌+◌, ◌-◌, ◌≤◌, List, [], ◌∷◌, ◌++◌, map, take, drop, length, get_or, Option, Some, None, refl, sym, ap, ap₂, subst, ◌∙◌, arith, append_assoc, take_at}
use Rattle.std.specs.Prelude.{IfSome}
use Rattle.std.specs.List.{All}
use Rattle.std.specs.Option.{option_map_or}
use Rattle.std.proofs.lemmas.List.{drop_at}
use Rattle.std.proofs.lemmas.List.Elements.{All-append, All-cons, All-nil}
use Rattle.cts_postorder.specs.BinaryTree.{BinaryTree, tip, fork, size, labels, subtrees, root_number, IsNumbered}
use Rattle.cts_postorder.specs.PostOrder.{IsPostOrder, NamesFrom, trees_of, root_of}
use Rattle.cts_postorder.specs.Occurrence.{occurrence, occurrences, occurrences_of}
use Rattle.cts_postorder.proofs.Lists.{Whole, whole_of, root_of-labels}
use Rattle.cts_postorder.proofs.Places.{get_or-root}
use Rattle.cts_postorder.proofs.Sizes.{size_pos, length-labels, root_number-next}
use Rattle.cts_postorder.proofs.Spelling.{trees_of-labels, IsPostOrder-labels}

-- the children that a node names, counted from the number `first` on
abbrev pub counted_from : ℕ → Option (ℕ × ℕ) → Option (ℕ × ℕ)
counted_from first None = None
counted_from first (Some children) = Some (children.0 - first, children.1 - first)

-- nodes that spell this tree
pub record IsSpelled {N : Type 0} (kids : N → Option (ℕ × ℕ)) (nodes : List N) (t : BinaryTree N) : Type 0 where
  pub post_order : IsPostOrder (map kids nodes)
  pub long : length nodes ≡ size t
  pub trees_are : trees_of kids nodes ≡ subtrees t
  pub root_is : root_of kids nodes ≡ Some t
  pub occurrences_are : occurrences_of kids nodes ≡ occurrences [] t

pub spelled : {N : Type 0} (kids : N → Option (ℕ × ℕ)) (t : BinaryTree N) → IsNumbered kids 0 t → IsSpelled kids (labels t) t
unfolding occurrences_of
spelled kids t numbered = record {
  post_order = IsPostOrder-labels kids t numbered;
  long = length-labels t;
  trees_are = trees_of-labels kids t numbered;
  root_is = root_of-labels kids t numbered;
  occurrences_are = ap (λ o. option_map_or (occurrences []) o []) (root_of-labels kids t numbered);
}

names_any : (children : Option (ℕ × ℕ)) → IfSome children (λ (c : ℕ × ℕ). (0 ≤ c.0) × (0 ≤ c.1))
names_any None = tt
names_any (Some children) = (omega arith, omega arith)

-- no node names a number below 0
pub all_from_start : {N : Type 0} (kids : N → Option (ℕ × ℕ)) (nodes : List N) → All (NamesFrom kids 0) nodes
all_from_start kids nodes k d h = names_any (kids (get_or nodes k d))

module _ {N : Type 0} (kids : N → Option (ℕ × ℕ)) where
  -- a tree that is numbered from an offset on names no lower number
  pub names_from : (t : BinaryTree N) (first offset : ℕ) → first ≤ offset → IsNumbered kids offset t
      → All (NamesFrom kids first) (labels t)
  unfolding labels IsNumbered
  names_from (tip n) first offset h numbered =
      let Fine : N → Type 0 = NamesFrom kids first in
      All-cons Fine n [] (subst (λ o. IfSome o (λ (c : ℕ × ℕ). (first ≤ c.0) × (first ≤ c.1))) (sym numbered) tt) (All-nil Fine)
  names_from (fork l r n) first offset h numbered =
      let Fine : N → Type 0 = NamesFrom kids first in
      let above : first ≤ offset + size l = omega arith in
      let left : first ≤ root_number offset l = omega (arith, root_number-next offset l, size_pos l) in
      let right : first ≤ root_number (offset + size l) r = omega (arith, root_number-next (offset + size l) r, size_pos r) in
      All-append Fine (labels l ++ labels r) (n ∷ [])
      (All-append Fine (labels l) (labels r) (names_from l first offset h (numbered.0))
      (names_from r first (offset + size l) above (numbered.1)))
      (All-cons Fine n []
      (subst (λ o. IfSome o (λ (c : ℕ × ℕ). (first ≤ c.0) × (first ≤ c.1))) (sym (numbered.2)) (left, right)) (All-nil Fine))

  -- where `from` names the same children, counted from `first` on, it numbers a tree from an offset less by so much
  module _ (first : ℕ) (from : N → Option (ℕ × ℕ)) (counts : (n : N) → from n ≡ counted_from first (kids n)) where
    rebased_at : (t : BinaryTree N) (offset : ℕ) → IsNumbered kids (first + offset) t → IsNumbered from offset t
    unfolding IsNumbered
    rebased_at (tip n) offset numbered = counts n ∙ ap (counted_from first) numbered
    rebased_at (fork l r n) offset numbered =
        let a : ℕ = root_number (first + offset) l in
        let b : ℕ = root_number (first + offset + size l) r in
        let further : first + offset + size l ≡ first + (offset + size l) = omega arith in
        let left : a - first ≡ root_number offset l =
        omega (arith, root_number-next (first + offset) l, root_number-next offset l) in
        let right : b - first ≡ root_number (offset + size l) r =
        omega (arith, root_number-next (first + offset + size l) r, root_number-next (offset + size l) r) in (
          rebased_at l offset (numbered.0),
          rebased_at r (offset + size l) (subst (λ o. IsNumbered kids o r) further (numbered.1)),
          counts n ∙ ap (counted_from first) (numbered.2) ∙ ap₂ (λ x y. Some (x, y)) left right,
        )

    pub rebased : (t : BinaryTree N) → IsNumbered kids first t → IsNumbered from 0 t
    rebased t numbered =
        let start : first ≡ first + 0 = omega arith in rebased_at t 0 (subst (λ o. IsNumbered kids o t) start numbered)

    -- so that the nodes of the tree alone spell it
    pub stretch_spelled : (t : BinaryTree N) → IsNumbered kids first t → IsSpelled from (labels t) t
    stretch_spelled t numbered = spelled from t (rebased t numbered)

-- The nodes of a whole tree whose root is a pair with the children p: those of its left part, then those of its right part,
-- then the root. The left part is numbered from 0 on, the right part from the number after it on.
pub record IsJoined {N : Type 0} (kids : N → Option (ℕ × ℕ)) (nodes : List N) (p : ℕ × ℕ) (n : N) : Type 0 where
  pub left : BinaryTree N
  pub right : BinaryTree N
  pub left_size : size left ≡ p.0 + 1
  pub right_size : size left + size right ≡ p.1 + 1
  pub long : length nodes ≡ p.1 + 2
  pub nodes_are : nodes ≡ labels left ++ labels right ++ n ∷ []
  pub left_nodes : take (p.0 + 1) nodes ≡ labels left
  pub later_nodes : drop (p.0 + 1) nodes ≡ labels right ++ n ∷ []
  pub left_numbered : IsNumbered kids 0 left
  pub right_numbered : IsNumbered kids (p.0 + 1) right
  pub root_is : root_of kids nodes ≡ Some (fork left right n)
  pub occurrences_are : occurrences_of kids nodes
      ≡ occurrences (fork left right n ∷ []) left ++ occurrences (fork left right n ∷ []) right
      ++ occurrence [] (fork left right n) ∷ []

module _ {N : Type 0} (kids : N → Option (ℕ × ℕ)) where
  joined_tree : (t : BinaryTree N) → IsNumbered kids 0 t → (e : N) (p : ℕ × ℕ)
      → kids (get_or (labels t) (length (labels t) - 1) e) ≡ Some p
      → IsJoined kids (labels t) p (get_or (labels t) (length (labels t) - 1) e)
  unfolding labels size root_number IsNumbered occurrences
  joined_tree (tip n) numbered e p pair =
      let some : kids n ≡ Some p = pair in cc
  joined_tree (fork l r n) numbered e p pair =
      let nodes : List N = labels l ++ labels r ++ n ∷ [] in
      let s : IsSpelled kids nodes (fork l r n) = spelled kids (fork l r n) numbered in
      let long : length nodes ≡ size l + size r + 1 = s.long in
      let last : length nodes - 1 ≡ size l + size r = omega arith in
      let root : get_or nodes (length nodes - 1) e ≡ n =
      ap (λ k. get_or nodes k e) last
      ∙ get_or-root (labels l) (labels r) n (size l) (size r) e (length-labels l) (length-labels r) in
      let names : Some p ≡ Some (root_number 0 l, root_number (0 + size l) r) = sym pair ∙ ap kids root ∙ numbered.2 in
      let named : p ≡ (root_number 0 l, root_number (0 + size l) r) = cc in
      let left_size : size l ≡ p.0 + 1 = omega (arith, ap (λ (q : ℕ × ℕ). q.0) named, root_number-next 0 l) in
      let right_size : size l + size r ≡ p.1 + 1 =
      omega (arith, ap (λ (q : ℕ × ℕ). q.1) named, root_number-next (0 + size l) r) in
      let group : nodes ≡ labels l ++ (labels r ++ n ∷ []) = append_assoc (labels l) (labels r) (n ∷ []) in
      let count : length (labels l) ≡ p.0 + 1 = omega (arith, left_size, length-labels l) in
      let start : 0 + size l ≡ p.0 + 1 = omega (arith, left_size) in
      subst (IsJoined kids nodes p) (sym root) (record {
        left = l;
        right = r;
        left_size = left_size;
        right_size = right_size;
        long = omega (arith, long, right_size);
        nodes_are = refl;
        left_nodes = ap (take (p.0 + 1)) group ∙ take_at (labels l) (labels r ++ n ∷ []) (p.0 + 1) count;
        later_nodes = ap (drop (p.0 + 1)) group ∙ drop_at (labels l) (labels r ++ n ∷ []) (p.0 + 1) count;
        left_numbered = numbered.0;
        right_numbered = subst (λ o. IsNumbered kids o r) start (numbered.1);
        root_is = s.root_is;
        occurrences_are = s.occurrences_are;
      })

  -- the last node of a list in post-order tells where its left part ends
  pub joined_at : (nodes : List N) → IsPostOrder (map kids nodes) → (e : N) (p : ℕ × ℕ)
      → kids (get_or nodes (length nodes - 1) e) ≡ Some p → IsJoined kids nodes p (get_or nodes (length nodes - 1) e)
  joined_at nodes ok e p pair =
      let w : Whole kids nodes = whole_of kids nodes ok in
      subst (λ ns. IsJoined kids ns p (get_or ns (length ns - 1) e)) w.labels_are
      (joined_tree w.tree w.numbered e p (subst (λ ns. kids (get_or ns (length ns - 1) e) ≡ Some p) (sym w.labels_are) pair))
