-- A downward pass: each node hands values to its two parts, from the root on.
use Rattle.std.proofs.Common.{◌≡◌, ◌≢◌, ℕ, ◌+◌, ◌<◌, ◌≤◌, ◌⊎◌, inl, inr, ⊎_elim, List, [], ◌∷◌, map, set, length, get_or, Option, Some, None, sym, ap, subst, ◌∙◌, arith, get_or-set_same, get_or-set_other, length-set, zero-add, ◌-◌}
use Rattle.std.specs.List.{AllZip}
use Rattle.std.proofs.lemmas.Bool.{cases_lt}
use Rattle.cts_postorder.specs.BinaryTree.{BinaryTree, fork, root_number}
use Rattle.cts_postorder.specs.PostOrder.{IsPostOrder, root_of}
use Rattle.cts_postorder.specs.Occurrence.{Occurrence, occurrence, occurrences, occurrences_of}
use Rattle.cts_postorder.proofs.Zips.{all_zip-from}
use Rattle.cts_postorder.proofs.Sizes.{size_pos, root_number-next}
use Rattle.cts_postorder.proofs.Places.{get_or-occurrences-root}
use Rattle.cts_postorder.proofs.Parents.{ParentOf, parent_of}
use Rattle.cts_postorder.proofs.Lists.{Whole, whole_of, IsPair, length-occurrences_of}

-- In a downward pass that has come down to the number k, the value at a number is due where it is the root's, or that
-- of a part of a pair from k on. `e` stands for a node past the end.
pub data IsDue {N : Type 0} (kids : N → Option (ℕ × ℕ)) (nodes : List N) (e : N) (k number : ℕ) : Type 0 where
  root : number + 1 ≡ length nodes → IsDue kids nodes e k number
  part : (i : ℕ) (p : ℕ × ℕ) → k ≤ i → i < length nodes → kids (get_or nodes i e) ≡ Some p
      → (number ≡ p.0) ⊎ (number ≡ p.1) → IsDue kids nodes e k number

-- The state of a downward pass: there is a place for each node, and each value that is due is right, that is, one that
-- `IsValue` relates to the subtree and the pairs above it.
pub record IsSettled {N V : Type 0} (kids : N → Option (ℕ × ℕ)) (nodes : List N) (e : N)
    (IsValue : Occurrence N → V → Type 0) (k : ℕ) (out : List V) : Type 0 where
  pub long : length out ≡ length nodes
  pub right : (number : ℕ) (v : V) (o : Occurrence N) → IsDue kids nodes e k number
      → IsValue (get_or (occurrences_of kids nodes) number o) (get_or out number v)

module _ {N : Type 0} (kids : N → Option (ℕ × ℕ)) where
  -- what is due at the counter itself: every node is the root, or a part of a later pair
  pub due_next : (nodes : List N) → IsPostOrder (map kids nodes) → (e : N) (k : ℕ) → k < length nodes
      → IsDue kids nodes e (k + 1) k
  due_next nodes ok e k h =
      let w : Whole kids nodes = whole_of kids nodes ok in
      elim (cases_lt (k + 1) (length nodes)) [
        | inl u ↦
            let v : ParentOf kids 0 w.tree k e = parent_of kids w.tree 0 k e w.numbered (omega (arith, w.size_is)) in
            part v.pair v.children (omega (arith, v.later)) (omega (arith, v.within, w.size_is))
            (ap (λ ns. kids (get_or ns v.pair e)) (sym w.labels_are) ∙ v.names)
            (subst (λ j. (j ≡ v.children.0) ⊎ (j ≡ v.children.1)) (zero-add k) v.child)
        | inr u ↦ root (omega arith)
      ]

  -- before the first step only the root is due
  pub due_at_start : (nodes : List N) (e : N) (k number : ℕ) → length nodes ≤ k → IsDue kids nodes e k number
      → number + 1 ≡ length nodes
  due_at_start nodes e k number h (root is) = is
  due_at_start nodes e k number h (part i p from within names child) = absurd (omega arith)

  -- at a leaf nothing more comes due
  pub due_at_leaf : (nodes : List N) (e : N) (k number : ℕ) → kids (get_or nodes k e) ≡ None
      → IsDue kids nodes e k number → IsDue kids nodes e (k + 1) number
  due_at_leaf nodes e k number leaf (root is) = root is
  due_at_leaf nodes e k number leaf (part i p from within names child) =
      elim (cases_lt k i) [
        | inl w ↦ part i p (omega arith) within names child
        | inr w ↦
            let here : i ≡ k = omega arith in
            let clash : kids (get_or nodes i e) ≡ None = ap (λ j. kids (get_or nodes j e)) here ∙ leaf in cc
      ]

  -- at a pair its two parts come due
  pub due_at_pair : (nodes : List N) (e : N) (k number : ℕ) (p : ℕ × ℕ) → kids (get_or nodes k e) ≡ Some p
      → IsDue kids nodes e k number → IsDue kids nodes e (k + 1) number ⊎ ((number ≡ p.0) ⊎ (number ≡ p.1))
  due_at_pair nodes e k number p pair (root is) = inl (root is)
  due_at_pair nodes e k number p pair (part i q from within names child) =
      elim (cases_lt k i) [
        | inl w ↦ inl (part i q (omega arith) within names child)
        | inr w ↦
            let here : i ≡ k = omega arith in
            let pair_here : kids (get_or nodes i e) ≡ Some p = ap (λ j. kids (get_or nodes j e)) here ∙ pair in
            let same : q ≡ p = cc in
            inr (subst (λ (c : ℕ × ℕ). (number ≡ c.0) ⊎ (number ≡ c.1)) same child)
      ]

same_or_not : (i j : ℕ) → (i ≡ j) ⊎ (i ≢ j)
same_or_not i j =
    elim (cases_lt i j) [
      | inl h ↦ inr (omega arith)
      | inr h ↦ elim (cases_lt j i) [ inl w ↦ inr (omega arith) | inr w ↦ inl (omega arith) ]
    ]

module _ {N V : Type 0} (kids : N → Option (ℕ × ℕ)) (IsValue : Occurrence N → V → Type 0) where
  -- what stands at a number, under the names of its parts
  right_at : (o q : Occurrence N) (v x : V) → o ≡ q → v ≡ x → IsValue q x → IsValue o v
  right_at o q v x here there is =
      subst (λ (p : Occurrence N). IsValue p v) (sym here) (subst (λ (y : V). IsValue q y) (sym there) is)

  -- the pass begins with the root's value at the end of the list
  pub settled_at_start : (nodes : List N) → IsPostOrder (map kids nodes) → (e : N) (k : ℕ) (out : List V) (t : BinaryTree N)
      → root_of kids nodes ≡ Some t → length nodes ≤ k → length out ≡ length nodes
      → ((v : V) → IsValue (occurrence [] t) (get_or out (length nodes - 1) v)) → IsSettled kids nodes e IsValue k out
  settled_at_start nodes ok e k out t root_is h long top =
      let w : Whole kids nodes = whole_of kids nodes ok in
      let names : Some w.tree ≡ Some t = sym w.root_is ∙ root_is in
      let whole : w.tree ≡ t = cc in
      record {
        long = long;
        right = λ number v o due.
            let last : number + 1 ≡ length nodes = due_at_start kids nodes e k number h due in
            let place : number ≡ length nodes - 1 = omega arith in
            let own : number ≡ root_number 0 w.tree = omega (arith, root_number-next 0 w.tree, w.size_is) in
            let here : get_or (occurrences_of kids nodes) number o ≡ occurrence [] t =
            ap (λ os. get_or os number o) w.occurrences_are ∙ ap (λ i. get_or (occurrences [] w.tree) i o) own
            ∙ get_or-occurrences-root [] w.tree o ∙ ap (occurrence []) whole in
            right_at (get_or (occurrences_of kids nodes) number o) (occurrence [] t) (get_or out number v)
            (get_or out (length nodes - 1) v) here (ap (λ i. get_or out i v) place) (top v);
      }

  -- the value at the counter is right
  pub settled_here : (nodes : List N) → IsPostOrder (map kids nodes) → (e : N) (k : ℕ) (out : List V) → k < length nodes
      → IsSettled kids nodes e IsValue (k + 1) out
      → (v : V) (o : Occurrence N) → IsValue (get_or (occurrences_of kids nodes) k o) (get_or out k v)
  settled_here nodes ok e k out h s v o = s.right k v o (due_next kids nodes ok e k h)

  -- at a leaf nothing is written
  pub settled_at_leaf : (nodes : List N) (e : N) (k : ℕ) (out : List V) → kids (get_or nodes k e) ≡ None
      → IsSettled kids nodes e IsValue (k + 1) out → IsSettled kids nodes e IsValue k out
  settled_at_leaf nodes e k out leaf s = record {
    long = s.long;
    right = λ number v o due. s.right number v o (due_at_leaf kids nodes e k number leaf due);
  }

  -- at a pair the values of its two parts are written
  pub settled_at_pair : (nodes : List N) (e : N) (k : ℕ) (p : ℕ × ℕ) (out : List V) (a b : V)
      → kids (get_or nodes k e) ≡ Some p → (pair : IsPair kids nodes k p (get_or nodes k e)) → k < length nodes
      → IsValue (occurrence (fork pair.left pair.right (get_or nodes k e) ∷ pair.above) pair.left) a
      → IsValue (occurrence (fork pair.left pair.right (get_or nodes k e) ∷ pair.above) pair.right) b
      → IsSettled kids nodes e IsValue (k + 1) out
      → IsSettled kids nodes e IsValue k (set (set out (p.0) a) (p.1) b)
  settled_at_pair nodes e k p out a b names pair h a_is b_is s =
      let left_below : p.0 < k = pair.left_below in
      let right_below : p.1 < k = pair.right_below in
      let apart : p.0 < p.1 = omega (arith, pair.left_number, pair.right_number, size_pos pair.right) in
      let out_long : length out ≡ length nodes = s.long in
      let first : List V = set out (p.0) a in
      let first_long : length first ≡ length out = length-set out (p.0) a in
      let both : List V = set first (p.1) b in
      let occurrences : List (Occurrence N) = occurrences_of kids nodes in
      let at_left : (v : V) → get_or both (p.0) v ≡ a =
      λ v. get_or-set_other first (p.1) (p.0) b v (omega arith) ∙ get_or-set_same out (p.0) a v (omega arith) in
      let at_right : (v : V) → get_or both (p.1) v ≡ b =
      λ v. get_or-set_same first (p.1) b v (omega arith) in
      let elsewhere : (number : ℕ) (v : V) → number ≢ p.0 → number ≢ p.1 → get_or both number v ≡ get_or out number v =
      λ number v not_left not_right.
      get_or-set_other first (p.1) number b v not_right ∙ get_or-set_other out (p.0) number a v not_left in
      record {
        long = length-set first (p.1) b ∙ first_long ∙ out_long;
        right = λ number v o due.
            elim (same_or_not number (p.0)) [
              | inl is ↦
                  right_at (get_or occurrences number o) _ (get_or both number v) a
                  (ap (λ i. get_or occurrences i o) is ∙ pair.at_left o) (ap (λ i. get_or both i v) is ∙ at_left v) a_is
              | inr not_left ↦ elim (same_or_not number (p.1)) [
                | inl is ↦
                    right_at (get_or occurrences number o) _ (get_or both number v) b
                    (ap (λ i. get_or occurrences i o) is ∙ pair.at_right o) (ap (λ i. get_or both i v) is ∙ at_right v) b_is
                | inr not_right ↦
                    subst (IsValue (get_or occurrences number o)) (sym (elsewhere number v not_left not_right))
                    (s.right number v o (⊎_elim (λ d. d) (λ c. absurd (⊎_elim not_left not_right c))
                    (due_at_pair kids nodes e k number p names due)))
              ]
            ];
      }

  -- at the end every value is right
  pub settled_all : (nodes : List N) → IsPostOrder (map kids nodes) → (e : N) (out : List V)
      → IsSettled kids nodes e IsValue 0 out → AllZip IsValue (occurrences_of kids nodes) out
  settled_all nodes ok e out s =
      let count : length (occurrences_of kids nodes) ≡ length nodes = length-occurrences_of kids nodes ok in
      let out_long : length out ≡ length nodes = s.long in
      all_zip-from IsValue (occurrences_of kids nodes) out (count ∙ sym out_long)
      (λ k o v h. s.right k v o (due_later nodes e k (due_next kids nodes ok e k (omega arith))))
    where
      due_later : (nodes : List N) (e : N) (k : ℕ) → IsDue kids nodes e (k + 1) k → IsDue kids nodes e 0 k
      due_later nodes e k (root is) = root is
      due_later nodes e k (part i p from within names child) = part i p (omega arith) within names child
