-- One step of an ascent: what is known of the node at the next number, by the sides that wait.
use Rattle.std.proofs.Common.{◌≡◌, ℕ, ◌+◌, ◌-◌, ◌<◌, ◌≤◌, List, [], ◌∷◌, ◌++◌, take, length, get_or, slice_get, Option, Some, None, MatchOption, Result, Ok, Err, IfOk, IfErr, refl, sym, ap, subst, ◌∙◌, arith, append_assoc, take_all}
use Rattle.std.proofs.lemmas.List.{take_more}
use Rattle.std.specs.Prelude.{IfSome}
use Rattle.std.specs.List.{AllZip}
use Rattle.std.proofs.lemmas.Option.{slice_get-get_or}
use Rattle.cts_units.specs.declared.params.Sink.{Sink}
use Rattle.cts_units.specs.declared.params.Params.{Params}
use Rattle.cts_units.specs.Limits.{IsParams}
use Rattle.cts_postorder.specs.BinaryTree.{BinaryTree, tip, fork}
use Rattle.cts_postorder.specs.PostOrder.{trees_of}
use Rattle.cts_postorder.specs.Pass.{IsLeastFailure}
use Rattle.cts_postorder.specs.Waiting.{StandsAt, AreWaiting}
use Rattle.cts_postorder.proofs.Growth.{length-trees_of}
use Rattle.cts_postorder.proofs.Lists.{IsPair, is_pair}
use Rattle.cts_postorder.proofs.Upward.{leaf_here, up_more, least_failure}
use Rattle.cts_postorder.proofs.Waiting.{AtPair, waiting_at_leaf, waiting_at_pair, two_wait}
use Rattle.cts_topo.specs.declared.shape.ShapeNode.{ShapeNode}
use Rattle.cts_topo.specs.declared.shape.ShapeNode.TheVariants.{Leaf, Pair}
use Rattle.cts_topo.specs.Shape.{children_from, leaf_sinks, IsStretchOver}
use Rattle.cts_merge.specs.declared.side.Side.{Side}
use Rattle.cts_merge.specs.declared.side.Finished.{Finished}
use Rattle.cts_merge.specs.declared.side.Beyond.{Beyond}
use Rattle.cts_merge.specs.Side.{IsMergeable}
use Rattle.cts_merge.specs.Merge.{IsLeaf, IsMerged, IsBeyond}
use Rattle.cts_up.specs.Sinks.{IsSinkInRange, AreSinksInRange}
use Rattle.cts_up.specs.Plan.{IsFinished, IsBeyondPair}
use Rattle.cts_up.specs.Ascending.{IsAscent, IsSide}
use Rattle.cts_up.proofs.LeafOrder.{leaf_listed, found_is}
use Rattle.cts_up.proofs.Leaves.{sink_has}
use Rattle.cts_up.proofs.Sides.{sides_merge}

pub if_found : {A : Type 0} (P Q : A → Type 0) (o : Option A) → ((x : A) → P x → Q x) → IfSome o P → IfSome o Q
if_found P Q None to is = tt
if_found P Q (Some x) to is = to x is

-- what holds of a result for each number that a stretch may begin at
pub each_ok : (At : ℕ → Type 0) (P : ℕ → Finished → Type 0) (result : Result Finished Beyond)
    → ((first : ℕ) → At first → IfOk result (P first)) → IfOk result (λ f. (first : ℕ) → At first → P first f)
each_ok At P (Ok f) all = all
each_ok At P (Err x) all = tt

pub each_err : (At P : ℕ → Type 0) (result : Result Finished Beyond) → ((first : ℕ) → At first → IfErr result (λ _. P first))
    → IfErr result (λ _. (first : ℕ) → At first → P first)
each_err At P (Ok f) all = tt
each_err At P (Err x) all = all

-- The parameters, the sinks, the nodes of a stretch over them, and the node of number k.
module _ (params : Params) (sinks : List Sink) (first : ℕ) (nodes : List ShapeNode) (k : ℕ) (h : k < length nodes) where
  abbrev kids : ShapeNode → Option (ℕ × ℕ)
  kids = children_from first

  abbrev trees : List (BinaryTree ShapeNode)
  trees = trees_of kids nodes

  abbrev pub Here : Finished → Type 0
  Here f = StandsAt kids nodes (IsFinished params sinks) k f

  abbrev pub BeyondHere : Type 0
  BeyondHere = IfSome (slice_get (trees_of kids nodes) k) (IsBeyondPair params sinks)

  found : (number : ℕ) (t : BinaryTree ShapeNode) → number < length nodes → ((d : BinaryTree ShapeNode) → get_or trees number d ≡ t)
      → slice_get trees number ≡ Some t
  found number t within is = slice_get-get_or trees number t (omega (arith, length-trees_of kids nodes)) ∙ ap Some (is t)

  side_here : (f : Finished) → Here f → StandsAt kids nodes (IsSide params sinks) k f.side
  side_here f is =
      if_found (λ t. IsFinished params sinks t f) (λ t. IsSide params sinks t f.side) (slice_get (trees_of kids nodes) k)
      (λ t finished. (f, finished, refl)) is

  -- a leaf is finished by what its sink gives
  pub leaf_stands : (s : ℕ) (e : ShapeNode) → get_or nodes k e ≡ Leaf s → (sink : Sink) → slice_get sinks s ≡ Some sink
      → (f : Finished) → IsLeaf sink f → Here f
  unfolding IsFinished
  leaf_stands s e here sink named f leaf =
      let of_sink : IsFinished params sinks (tip (Leaf s)) f =
      subst (λ (o : Option Sink). MatchOption o ⊥ (λ x. IsLeaf x f)) (sym named) leaf in
      let finished : IsFinished params sinks (tip (get_or nodes k e)) f =
      subst (λ m. IsFinished params sinks (tip m) f) (sym here) of_sink in
      subst (λ o. IfSome o (λ t. IsFinished params sinks t f))
      (sym (found k (tip (get_or nodes k e)) h (λ d. leaf_here kids (IsFinished params sinks) nodes k e d h (ap kids here))))
      finished

  -- what stands here is one more value
  module _ {V : Type 0} (R : BinaryTree ShapeNode → V → Type 0) (values : List V) (before : AllZip R (take k trees) values) where
    some_tree : BinaryTree ShapeNode
    some_tree = tip (Leaf 0)

    tree_here : slice_get trees k ≡ Some (get_or trees k some_tree)
    tree_here = slice_get-get_or trees k some_tree (omega (arith, h, length-trees_of kids nodes))

    pub one_more : (v : V) → StandsAt kids nodes R k v → AllZip R (take (k + 1) trees) (values ++ v ∷ [])
    one_more v is =
        up_more kids R nodes k (get_or trees k some_tree) some_tree values v h refl before
        (subst (λ o. IfSome o (λ t. R t v)) tree_here is)

    pub beyond_least : ((t : BinaryTree ShapeNode) (v : V) → R t v → ¬ IsBeyondPair params sinks t) → BeyondHere
        → IsLeastFailure kids nodes (IsBeyondPair params sinks) k
    beyond_least sound over =
        least_failure kids R (IsBeyondPair params sinks) sound nodes values k (get_or trees k some_tree) before tree_here
        (subst (λ o. IfSome o (IsBeyondPair params sinks)) tree_here over)

  -- the sides that wait
  module _ (ok : IsStretchOver (length sinks) first nodes) (waiting : List Side) (before : AreWaiting kids nodes (IsSide params sinks) k waiting)
      (e : ShapeNode) where
    pub leaf_waits : (s : ℕ) → get_or nodes k e ≡ Leaf s → (f : Finished) → Here f
        → AreWaiting kids nodes (IsSide params sinks) (k + 1) (waiting ++ f.side ∷ [])
    leaf_waits s here f is =
        waiting_at_leaf kids nodes (IsSide params sinks) k e h waiting before (ap kids here) f.side (side_here f is)

    module _ (left right : ℕ) (here : get_or nodes k e ≡ Pair left right) where
      pair : IsPair kids nodes k (left - first, right - first) (get_or nodes k e)
      pair = is_pair kids nodes ok.post_order k e (left - first, right - first) h (ap kids here)

      pair_found : slice_get trees k ≡ Some (fork pair.left pair.right (get_or nodes k e))
      pair_found = found k (fork pair.left pair.right (get_or nodes k e)) h pair.tree

      pub two_ready : 2 ≤ length waiting
      two_ready = two_wait kids nodes (IsSide params sinks) k e h waiting before (left - first, right - first) (ap kids here)

      -- the sides of the two parts
      module _ (rest : List Side) (a b : Side) (taken : waiting ≡ rest ++ a ∷ b ∷ []) where
        values : AtPair kids nodes (IsSide params sinks) k (left - first, right - first) rest a b
        values = waiting_at_pair kids nodes (IsSide params sinks) k e h waiting before (left - first, right - first) (ap kids here) rest a b taken

        left_is : IsSide params sinks pair.left a
        left_is =
            subst (λ o. IfSome o (λ t. IsSide params sinks t a)) (found (left - first) pair.left (omega (arith, h, pair.left_below)) pair.left_tree)
            values.left_value

        right_is : IsSide params sinks pair.right b
        right_is =
            subst (λ o. IfSome o (λ t. IsSide params sinks t b)) (found (right - first) pair.right (omega (arith, h, pair.right_below)) pair.right_tree)
            values.right_value

        pub left_ready : IsParams params → AreSinksInRange sinks → IsMergeable a
        left_ready ranged are =
            subst IsMergeable (left_is.2) (sides_merge params sinks pair.left (left_is.0) (left_is.1) ranged are)

        pub right_ready : IsParams params → AreSinksInRange sinks → IsMergeable b
        right_ready ranged are =
            subst IsMergeable (right_is.2) (sides_merge params sinks pair.right (right_is.0) (right_is.1) ranged are)

        of_sides : (P : Side → Side → Type 0) → P a b → P (left_is.0).side (right_is.0).side
        of_sides P p =
            subst (λ (x : Side). P x (right_is.0).side) (sym (left_is.2)) (subst (λ (y : Side). P a y) (sym (right_is.2)) p)

        pub pair_stands : (result : Result Finished Beyond) → IfOk result (λ f. IsMerged params a b f) → IfOk result Here
        unfolding IsFinished
        pair_stands (Ok f) merged =
            subst (λ o. IfSome o (λ t. IsFinished params sinks t f)) (sym pair_found)
            (left_is.0, right_is.0, left_is.1, right_is.1, of_sides (λ x y. IsMerged params x y f) merged)
        pair_stands (Err x) merged = tt

        pub pair_waits : (result : Result Finished Beyond) → IfOk result Here
            → IfOk result (λ f. AreWaiting kids nodes (IsSide params sinks) (k + 1) (rest ++ f.side ∷ []))
        pair_waits (Ok f) is = values.next f.side (side_here f is)
        pair_waits (Err x) is = tt

        pub pair_beyond : (result : Result Finished Beyond) → IfErr result (λ _. IsBeyond params a b) → IfErr result (λ _. BeyondHere)
        unfolding IsBeyondPair
        pair_beyond (Ok f) over = tt
        pair_beyond (Err x) over =
            subst (λ o. IfSome o (IsBeyondPair params sinks)) (sym pair_found)
            (left_is.0, right_is.0, left_is.1, right_is.1, of_sides (IsBeyond params) over)

-- The sink of a leaf that an ascent stands before.
module _ (params : Params) (sinks : List Sink) (first : ℕ) (nodes : List ShapeNode) (k : ℕ) (h : k < length nodes)
    (named : List Sink) (leaves : ℕ) (waiting : List Side)
    (before : IsAscent params sinks first nodes k named leaves waiting)
    (s : ℕ) (e : ShapeNode) (here : get_or nodes k e ≡ Leaf s) where
  pub sink_listed : leaves < length named
  sink_listed = leaf_listed sinks nodes before.stretch.within named before.each_named k h e s here leaves before.counted

  module _ (sink : Sink) (read : sink ≡ get_or named leaves sink) where
    pub sink_named : slice_get sinks s ≡ Some sink
    sink_named = found_is sinks nodes before.stretch.within named before.each_named k h e s here leaves before.counted sink leaves refl ∙ ap Some (sym read)

    pub sink_ready : AreSinksInRange sinks → IsSinkInRange sink
    sink_ready are = sink_has IsSinkInRange sinks (Leaf s) sink are.each sink_named

-- the two latest of a list, and the others
pub latest_two : (waiting : List Side) (rest : ℕ) (a b : Side) → rest + 2 ≡ length waiting → a ≡ get_or waiting rest a
    → b ≡ get_or waiting (rest + 1) b → waiting ≡ take rest waiting ++ a ∷ b ∷ []
latest_two waiting rest a b long first second =
    let last : take (rest + 1 + 1) waiting ≡ take (rest + 1) waiting ++ b ∷ [] =
    take_more waiting (rest + 1) b (omega arith) ∙ ap (λ (x : Side). take (rest + 1) waiting ++ x ∷ []) (sym second) in
    let earlier : take (rest + 1) waiting ≡ take rest waiting ++ a ∷ [] =
    take_more waiting rest a (omega arith) ∙ ap (λ (x : Side). take rest waiting ++ x ∷ []) (sym first) in
    sym (take_all (rest + 1 + 1) waiting (omega arith)) ∙ last ∙ ap (λ xs. xs ++ b ∷ []) earlier
    ∙ append_assoc (take rest waiting) (a ∷ []) (b ∷ [])

-- an ascent that has passed a pair
pub pair_passed : (params : Params) (sinks : List Sink) (first : ℕ) (nodes : List ShapeNode) (k : ℕ) (named : List Sink) (leaves : ℕ)
    (waiting rest left : List Side) → IsAscent params sinks first nodes k named leaves waiting
    → leaves ≡ length (leaf_sinks (take (k + 1) nodes)) → left ≡ rest → (result : Result Finished Beyond)
    → IfOk result (λ f. AreWaiting (children_from first) nodes (IsSide params sinks) (k + 1) (rest ++ f.side ∷ []))
    → IfOk result (λ f. IsAscent params sinks first nodes (k + 1) named leaves (left ++ f.side ∷ []))
pair_passed params sinks first nodes k named leaves waiting rest left before counted same (Err x) waits = tt
pair_passed params sinks first nodes k named leaves waiting rest left before counted same (Ok f) waits =
    record {
      stretch = before.stretch;
      each_named = before.each_named;
      counted = counted;
      each_waits = subst (λ (sides : List Side). AreWaiting (children_from first) nodes (IsSide params sinks) (k + 1) (sides ++ f.side ∷ [])) (sym same) waits;
    }
