-- A pass downward with a stack of what it hands to the nodes that are still to come: its start, one step at a leaf, one at a pair.
use Rattle.std.proofs.Common.{◌≡◌, ℕ, ◌+◌, ◌-◌, ◌<◌, ◌≤◌, List, [], ◌∷◌, ◌++◌, map, take, drop, length, get_or, reverse, Option, Some, None, refl, sym, ap, subst, ◌∙◌, arith}
use Rattle.std.specs.List.{AllZip}
use Rattle.std.proofs.lemmas.List.{drop_more, drop_all, take_more, take-append-drop, length-take-le, map-append, length-map, reverse-append, length-reverse}
use Rattle.std.proofs.lemmas.Slice.Zip.{AllZip-long}
use Rattle.cts_postorder.specs.PostOrder.{IsPostOrderFrom, IsPostOrder}
use Rattle.cts_postorder.specs.Stack.{stack_after}
use Rattle.cts_postorder.proofs.Stacks.{IsJoin, post_splits}
use Rattle.cts_postorder.proofs.Lists.{length_pos}

-- the stack once these nodes are read, of which the first has the number k
unfoldable pub stack_from : List (Option (ℕ × ℕ)) → List ℕ → ℕ → List ℕ
stack_from [] stack k = stack
stack_from (children ∷ nodes) stack k = stack_from nodes (stack_after children stack k) (k + 1)

-- In a pass downward that has come to the number k: the values for the nodes before k whose pair is k or a later one, the
-- value for the nearest node last. These nodes are the ones that wait once those before k are read in post-order.
abbrev pub AreHanded : {N V : Type 0} → (N → Option (ℕ × ℕ)) → List N → (ℕ → V → Type 0) → ℕ → List V → Type 0
AreHanded kids nodes R k values = AllZip R (stack_from (map kids (take k nodes)) [] 0) (reverse values)

-- what a node leaves on the stack below its own number
abbrev left_of : Option (ℕ × ℕ) → List ℕ → List ℕ
left_of None stack = stack
left_of (Some children) stack = drop 2 stack

after_is : (children : Option (ℕ × ℕ)) (stack : List ℕ) (k : ℕ) → stack_after children stack k ≡ k ∷ left_of children stack
after_is None stack k = refl
after_is (Some children) stack k = refl

-- a pair takes the numbers of its children
taken : (stack : List ℕ) (p : ℕ × ℕ) → IsJoin (Some p) stack → stack ≡ p.1 ∷ p.0 ∷ left_of (Some p) stack
taken [] p join = absurd join
taken (b ∷ []) p join = absurd join
taken (b ∷ a ∷ below) p join = ap (λ (q : ℕ × ℕ). q.1 ∷ q.0 ∷ below) (sym join)

one_left : (stack rest : List ℕ) (a k : ℕ) → IsPostOrderFrom [] stack k → stack ≡ a ∷ rest → stack ≡ a ∷ []
unfolding IsPostOrderFrom
one_left [] rest a k reads is = absurd reads
one_left (b ∷ []) rest a k reads is = let same : b ≡ a = cc in ap (λ x. x ∷ []) same
one_left (c ∷ b ∷ stack) rest a k reads is = absurd reads

-- one node more is read
stack_from-more : (nodes : List (Option (ℕ × ℕ))) (children : Option (ℕ × ℕ)) (stack : List ℕ) (k : ℕ)
    → stack_from (nodes ++ children ∷ []) stack k ≡ stack_after children (stack_from nodes stack k) (k + length nodes)
unfolding stack_from
stack_from-more [] children stack k = ap (stack_after children stack) (omega arith)
stack_from-more (c ∷ nodes) children stack k =
    stack_from-more nodes children (stack_after c stack k) (k + 1)
    ∙ ap (stack_after children (stack_from nodes (stack_after c stack k) (k + 1))) (omega arith)

-- the nodes after those that are read
reads_on : (nodes more : List (Option (ℕ × ℕ))) (stack : List ℕ) (k : ℕ) → IsPostOrderFrom (nodes ++ more) stack k
    → IsPostOrderFrom more (stack_from nodes stack k) (k + length nodes)
unfolding stack_from
reads_on [] more stack k reads = subst (IsPostOrderFrom more stack) (omega arith) reads
reads_on (c ∷ nodes) more stack k reads =
    subst (IsPostOrderFrom more (stack_from nodes (stack_after c stack k) (k + 1))) (omega arith)
    (reads_on nodes more (stack_after c stack k) (k + 1) ((post_splits c (nodes ++ more) stack k reads).1))

module _ {N : Type 0} (kids : N → Option (ℕ × ℕ)) (nodes : List N) (ok : IsPostOrder (map kids nodes)) where
  abbrev stack_at : ℕ → List ℕ
  stack_at k = stack_from (map kids (take k nodes)) [] 0

  length_at : (k : ℕ) → k ≤ length nodes → 0 + length (map kids (take k nodes)) ≡ k
  length_at k h = omega (arith, length-map (take k nodes) kids, length-take-le k nodes h)

  reads_at : (k : ℕ) → k ≤ length nodes → IsPostOrderFrom (map kids (drop k nodes)) (stack_at k) k
  reads_at k h =
      let parts : map kids nodes ≡ map kids (take k nodes) ++ map kids (drop k nodes) =
      ap (map kids) (sym (take-append-drop k nodes)) ∙ map-append kids (take k nodes) (drop k nodes) in
      subst (IsPostOrderFrom (map kids (drop k nodes)) (stack_at k)) (length_at k h)
      (reads_on (map kids (take k nodes)) (map kids (drop k nodes)) [] 0
      (subst (λ cs. IsPostOrderFrom cs [] 0) parts ok))

  -- the node of the number k
  module _ (k : ℕ) (e : N) (h : k < length nodes) where
    joins_at : IsJoin (kids (get_or nodes k e)) (stack_at k)
    joins_at =
        (post_splits (kids (get_or nodes k e)) (map kids (drop (k + 1) nodes)) (stack_at k) k
        (subst (λ ns. IsPostOrderFrom (map kids ns) (stack_at k) k) (drop_more nodes k e h) (reads_at k (omega (arith, h))))).0

    stack_next : stack_at (k + 1) ≡ k ∷ left_of (kids (get_or nodes k e)) (stack_at k)
    stack_next =
        let c : Option (ℕ × ℕ) = kids (get_or nodes k e) in
        ap (λ ns. stack_from (map kids ns) [] 0) (take_more nodes k e h)
        ∙ ap (λ cs. stack_from cs [] 0) (map-append kids (take k nodes) (get_or nodes k e ∷ []))
        ∙ stack_from-more (map kids (take k nodes)) c [] 0
        ∙ ap (stack_after c (stack_at k)) (length_at k (omega (arith, h)))
        ∙ after_is c (stack_at k) k

  module _ {V : Type 0} (R : ℕ → V → Type 0) where
    -- before the first step only the root's value is there
    pub handed_at_start : (e : N) (v : V) → R (length nodes - 1) v → AreHanded kids nodes R (length nodes) (v ∷ [])
    handed_at_start e v here =
        let n : ℕ = length nodes in
        let some : 0 < n = length_pos kids nodes ok in
        let last : n - 1 + 1 ≡ n = omega arith in
        let top : stack_at n ≡ (n - 1) ∷ left_of (kids (get_or nodes (n - 1) e)) (stack_at (n - 1)) =
        ap stack_at (sym last) ∙ stack_next (n - 1) e (omega (arith, some)) in
        let none : IsPostOrderFrom [] (stack_at n) n =
        subst (λ ns. IsPostOrderFrom (map kids ns) (stack_at n) n) (drop_all n nodes (omega arith)) (reads_at n (omega arith)) in
        subst (λ s. AllZip R s (v ∷ [])) (sym (one_left (stack_at n) (left_of (kids (get_or nodes (n - 1) e)) (stack_at (n - 1))) (n - 1) n none top))
        (here, tt)

    module _ (k : ℕ) (e : N) (h : k < length nodes) (values : List V) (w : AreHanded kids nodes R (k + 1) values) where
      from_top : AllZip R (k ∷ left_of (kids (get_or nodes k e)) (stack_at k)) (reverse values)
      from_top = subst (λ s. AllZip R s (reverse values)) (stack_next k e h) w

      pub some_handed : 0 < length values
      some_handed =
          omega (
            arith,
            AllZip-long R (k ∷ left_of (kids (get_or nodes k e)) (stack_at k)) (reverse values) from_top,
            length-reverse values,
          )

      module _ (rest : List V) (v : V) (is : values ≡ rest ++ v ∷ []) where
        split : AllZip R (k ∷ left_of (kids (get_or nodes k e)) (stack_at k)) (v ∷ reverse rest)
        split =
            subst (AllZip R (k ∷ left_of (kids (get_or nodes k e)) (stack_at k))) (ap reverse is ∙ reverse-append rest (v ∷ []))
            from_top

        -- the node takes the last value
        pub handed_here : R k v
        handed_here = split.0

        -- a leaf leaves the others
        pub handed_at_leaf : kids (get_or nodes k e) ≡ None → AreHanded kids nodes R k rest
        handed_at_leaf leaf = subst (λ c. AllZip R (left_of c (stack_at k)) (reverse rest)) leaf (split.1)

        -- a pair puts one for each of its children in its place
        pub handed_at_pair : (p : ℕ × ℕ) → kids (get_or nodes k e) ≡ Some p → (a b : V) → R (p.0) a → R (p.1) b
            → AreHanded kids nodes R k (rest ++ a ∷ b ∷ [])
        handed_at_pair p pair a b left right =
            let below : AllZip R (left_of (Some p) (stack_at k)) (reverse rest) =
            subst (λ c. AllZip R (left_of c (stack_at k)) (reverse rest)) pair (split.1) in
            let stack_is : stack_at k ≡ p.1 ∷ p.0 ∷ left_of (Some p) (stack_at k) =
            taken (stack_at k) p (subst (λ c. IsJoin c (stack_at k)) pair (joins_at k e h)) in
            subst (λ s. AllZip R s (reverse (rest ++ a ∷ b ∷ []))) (sym stack_is)
            (subst (AllZip R (p.1 ∷ p.0 ∷ left_of (Some p) (stack_at k))) (sym (reverse-append rest (a ∷ b ∷ [])))
            (right, (left, below)))
