-- An upward pass that writes, at each pair, the values of its two parts.
use Rattle.std.proofs.Common.{◌≡◌, ◌≢◌, ℕ, ◌+◌, ◌-◌, ◌<◌, ◌≤◌, ◌⊎◌, inl, inr, ⊎_elim, List, [], ◌∷◌, map, set, length, get_or, Option, Some, None, sym, ap, subst, ◌∙◌, arith, get_or-set_same, get_or-set_other, length-set, zero-add}
use Rattle.std.specs.List.{AllZip}
use Rattle.std.proofs.lemmas.Bool.{cases_lt}
use Rattle.cts_postorder.specs.BinaryTree.{BinaryTree, fork, root_number}
use Rattle.cts_postorder.specs.PostOrder.{IsPostOrder, root_of}
use Rattle.cts_postorder.specs.Occurrence.{Occurrence, occurrence, occurrences, occurrences_of}
use Rattle.cts_postorder.proofs.Zips.{all_zip-from}
use Rattle.cts_postorder.proofs.Sizes.{size_pos, root_number-next}
use Rattle.cts_postorder.proofs.Places.{get_or-occurrences-root}
use Rattle.cts_postorder.proofs.Parents.{ParentOf, parent_of}
use Rattle.cts_postorder.proofs.Lists.{Whole, whole_of, length_pos, IsPair, length-occurrences_of}

-- a number of a part of a pair that comes before number k; `e` stands for a node past the end
pub record IsPartBefore {N : Type 0} (kids : N → Option (ℕ × ℕ)) (nodes : List N) (e : N) (k number : ℕ) : Type 0 where
  pub pair : ℕ
  pub children : ℕ × ℕ
  pub before : pair < k
  pub names : kids (get_or nodes pair e) ≡ Some children
  pub child : (number ≡ children.0) ⊎ (number ≡ children.1)

-- There is a place for each node, and the value at each part of a pair before k is right, that is, one that `IsValue`
-- relates to the subtree and the pairs above it.
pub record ArePartsRight {N V : Type 0} (kids : N → Option (ℕ × ℕ)) (nodes : List N) (e : N)
    (IsValue : Occurrence N → V → Type 0) (k : ℕ) (out : List V) : Type 0 where
  pub long : length out ≡ length nodes
  pub right : (number : ℕ) (v : V) (o : Occurrence N) → IsPartBefore kids nodes e k number
      → IsValue (get_or (occurrences_of kids nodes) number o) (get_or out number v)

module _ {N : Type 0} (kids : N → Option (ℕ × ℕ)) (nodes : List N) (e : N) (k number : ℕ) where
  -- a part of a pair before the next number is one of a pair before this number, or one of the pair here
  part_before : IsPartBefore kids nodes e (k + 1) number
      → IsPartBefore kids nodes e k number
      ⊎ ((p : ℕ × ℕ) × (kids (get_or nodes k e) ≡ Some p) × ((number ≡ p.0) ⊎ (number ≡ p.1)))
  part_before part =
      elim (cases_lt part.pair k) [
        | inl w ↦ inl (record { pair = part.pair; children = part.children; before = w; names = part.names; child = part.child })
        | inr w ↦
            let here : part.pair ≡ k = omega (arith, part.before) in
            inr (part.children, ap (λ j. kids (get_or nodes j e)) (sym here) ∙ part.names, part.child)
      ]

  at_leaf : kids (get_or nodes k e) ≡ None → IsPartBefore kids nodes e (k + 1) number → IsPartBefore kids nodes e k number
  at_leaf leaf part =
      elim (part_before part) [
        | inl before ↦ before
        | inr here ↦ let clash : kids (get_or nodes k e) ≡ Some here.0 = here.1 in cc
      ]

  at_pair : (p : ℕ × ℕ) → kids (get_or nodes k e) ≡ Some p → IsPartBefore kids nodes e (k + 1) number
      → IsPartBefore kids nodes e k number ⊎ ((number ≡ p.0) ⊎ (number ≡ p.1))
  at_pair p pair part =
      elim (part_before part) [
        | inl before ↦ inl before
        | inr here ↦
            let names : kids (get_or nodes k e) ≡ Some here.0 = here.1 in
            let same : here.0 ≡ p = cc in
            inr (subst (λ (c : ℕ × ℕ). (number ≡ c.0) ⊎ (number ≡ c.1)) same here.2)
      ]

-- each node but the root is a part of a pair
part_of : {N : Type 0} (kids : N → Option (ℕ × ℕ)) (nodes : List N) → IsPostOrder (map kids nodes) → (e : N) (k number : ℕ)
    → length nodes ≤ k → number + 1 < length nodes → IsPartBefore kids nodes e k number
part_of kids nodes ok e k number whole h =
    let w : Whole kids nodes = whole_of kids nodes ok in
    let v : ParentOf kids 0 w.tree number e = parent_of kids w.tree 0 number e w.numbered (omega (arith, w.size_is)) in
    record {
      pair = v.pair;
      children = v.children;
      before = omega (arith, v.within, w.size_is);
      names = ap (λ ns. kids (get_or ns v.pair e)) (sym w.labels_are) ∙ v.names;
      child = subst (λ j. (j ≡ v.children.0) ⊎ (j ≡ v.children.1)) (zero-add number) v.child;
    }

same_or_not : (i j : ℕ) → (i ≡ j) ⊎ (i ≢ j)
same_or_not i j =
    elim (cases_lt i j) [
      | inl h ↦ inr (omega arith)
      | inr h ↦ elim (cases_lt j i) [ inl w ↦ inr (omega arith) | inr w ↦ inl (omega arith) ]
    ]

module _ {N V : Type 0} (kids : N → Option (ℕ × ℕ)) (IsValue : Occurrence N → V → Type 0) (nodes : List N) (e : N)
    (out : List V) where
  -- what stands at a number, under the names of its parts
  right_at : (o q : Occurrence N) (v x : V) → o ≡ q → v ≡ x → IsValue q x → IsValue o v
  right_at o q v x here there is =
      subst (λ (p : Occurrence N). IsValue p v) (sym here) (subst (λ (y : V). IsValue q y) (sym there) is)

  -- before the first node nothing is written
  pub parts_at_start : length out ≡ length nodes → ArePartsRight kids nodes e IsValue 0 out
  parts_at_start long = record { long = long; right = λ number v o part. absurd (omega (arith, part.before)) }

  module _ (k : ℕ) (parts : ArePartsRight kids nodes e IsValue k out) where
    -- nor at a leaf
    pub parts_at_leaf : kids (get_or nodes k e) ≡ None → ArePartsRight kids nodes e IsValue (k + 1) out
    parts_at_leaf leaf = record {
      long = parts.long;
      right = λ number v o part. parts.right number v o (at_leaf kids nodes e k number leaf part);
    }

    -- at a pair the values of its two parts are written
    pub parts_at_pair : (p : ℕ × ℕ) (a b : V) → kids (get_or nodes k e) ≡ Some p → (pair : IsPair kids nodes k p (get_or nodes k e))
        → k < length nodes
        → IsValue (occurrence (fork pair.left pair.right (get_or nodes k e) ∷ pair.above) pair.left) a
        → IsValue (occurrence (fork pair.left pair.right (get_or nodes k e) ∷ pair.above) pair.right) b
        → ArePartsRight kids nodes e IsValue (k + 1) (set (set out (p.0) a) (p.1) b)
    parts_at_pair p a b names pair h a_is b_is =
        let left_below : p.0 < k = pair.left_below in
        let right_below : p.1 < k = pair.right_below in
        let apart : p.0 < p.1 = omega (arith, pair.left_number, pair.right_number, size_pos pair.right) in
        let out_long : length out ≡ length nodes = parts.long in
        let first : List V = set out (p.0) a in
        let first_long : length first ≡ length out = length-set out (p.0) a in
        let both : List V = set first (p.1) b in
        let os : List (Occurrence N) = occurrences_of kids nodes in
        let at_left : (v : V) → get_or both (p.0) v ≡ a =
        λ v. get_or-set_other first (p.1) (p.0) b v (omega arith) ∙ get_or-set_same out (p.0) a v (omega arith) in
        let at_right : (v : V) → get_or both (p.1) v ≡ b =
        λ v. get_or-set_same first (p.1) b v (omega arith) in
        let elsewhere : (number : ℕ) (v : V) → number ≢ p.0 → number ≢ p.1 → get_or both number v ≡ get_or out number v =
        λ number v not_left not_right.
        get_or-set_other first (p.1) number b v not_right ∙ get_or-set_other out (p.0) number a v not_left in
        record {
          long = length-set first (p.1) b ∙ first_long ∙ out_long;
          right = λ number v o part.
              elim (same_or_not number (p.0)) [
                | inl is ↦
                    right_at (get_or os number o) _ (get_or both number v) a
                    (ap (λ i. get_or os i o) is ∙ pair.at_left o) (ap (λ i. get_or both i v) is ∙ at_left v) a_is
                | inr not_left ↦ elim (same_or_not number (p.1)) [
                  | inl is ↦
                      right_at (get_or os number o) _ (get_or both number v) b
                      (ap (λ i. get_or os i o) is ∙ pair.at_right o) (ap (λ i. get_or both i v) is ∙ at_right v) b_is
                  | inr not_right ↦
                      subst (IsValue (get_or os number o)) (sym (elsewhere number v not_left not_right))
                      (parts.right number v o (⊎_elim (λ d. d) (λ c. absurd (⊎_elim not_left not_right c))
                      (at_pair kids nodes e k number p names part)))
                ]
              ];
        }

    -- at the end the root's value is written, and all are right
    pub parts_all : IsPostOrder (map kids nodes) → length nodes ≤ k → (root : BinaryTree N) (x : V)
        → root_of kids nodes ≡ Some root → IsValue (occurrence [] root) x
        → AllZip IsValue (occurrences_of kids nodes) (set out (length nodes - 1) x)
    parts_all ok whole root x root_is is =
        let w : Whole kids nodes = whole_of kids nodes ok in
        let some : 0 < length nodes = length_pos kids nodes ok in
        let named : Some w.tree ≡ Some root = sym w.root_is ∙ root_is in
        let same : w.tree ≡ root = cc in
        let last : ℕ = length nodes - 1 in
        let all : List V = set out last x in
        let os : List (Occurrence N) = occurrences_of kids nodes in
        let count : length os ≡ length nodes = length-occurrences_of kids nodes ok in
        let out_long : length out ≡ length nodes = parts.long in
        all_zip-from IsValue os all (count ∙ sym (length-set out last x ∙ out_long))
        (λ number o v h.
        elim (cases_lt (number + 1) (length nodes)) [
          | inl u ↦
              subst (IsValue (get_or os number o)) (sym (get_or-set_other out last number x v (omega arith)))
              (parts.right number v o (part_of kids nodes ok e k number whole u))
          | inr u ↦
              let place : number ≡ last = omega arith in
              let own : number ≡ root_number 0 w.tree = omega (arith, root_number-next 0 w.tree, w.size_is) in
              let here : get_or os number o ≡ occurrence [] root =
              ap (λ xs. get_or xs number o) w.occurrences_are ∙ ap (λ i. get_or (occurrences [] w.tree) i o) own
              ∙ get_or-occurrences-root [] w.tree o ∙ ap (occurrence []) same in
              right_at (get_or os number o) (occurrence [] root) (get_or all number v) x here
              (ap (λ i. get_or all i v) place ∙ get_or-set_same out last x v (omega arith)) is
        ])
