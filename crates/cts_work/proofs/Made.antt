-- Nodes that were made without the memo, one after another.
use Rattle.std.proofs.Common.{◌≡◌, ℕ, ◌+◌, ◌-◌, ◌<◌, ◌≤◌, inl, inr, List, [], ◌∷◌, ◌++◌, length, get_or, Result, Ok, Err, IfOk, sym, ap, subst, arith, length-append}
use Rattle.std.proofs.lemmas.Bool.{cases_lt}
use Rattle.std.proofs.lemmas.List.{get_or_at, get_or_append_left, get_or_default}
use Rattle.std.proofs.Math.Seq.{get_or-append_right}
use Rattle.cts_units.specs.declared.params.Sink.{Sink}
use Rattle.cts_postorder.specs.BinaryTree.{tip, fork}
use Rattle.cts_postorder.specs.PostOrder.{trees_of}
use Rattle.cts_postorder.proofs.Growth.{length-trees_of}
use Rattle.cts_postorder.proofs.Zips.{all_zip-from}
use Rattle.cts_topo.specs.Shape.{children}
use Rattle.cts_topo.specs.declared.shape.ShapeNode.TheVariants.{Leaf, Pair}
use Rattle.cts_merge.specs.declared.side.Finished.{Finished}
use Rattle.cts_merge.specs.Merge.{IsBeyond, IsLeaf, IsMerged}
use Rattle.cts_merge.specs.Side.{IsMergeable}
use Rattle.cts_up.specs.declared.end.UpEnd.{UpEnd}
use Rattle.cts_up.specs.declared.end.UpEnd.TheVariants.{Beyond, NoMemory}
use Rattle.cts_up.specs.Plan.{IsBeyondPair, IsFinished, IsPlan}
use Rattle.cts_up.proofs.Sides.{sides_merge}
use Rattle.cts_up.proofs.Unique.{finished_not_beyond, finished_one}
use Rattle.cts_memo.specs.Keys.{IsNarrow}
use Rattle.cts_memo.specs.Passes.{params_of}
use Rattle.cts_work.specs.declared.plan.Plan.{Plan}
use Rattle.cts_work.specs.declared.work.Work.{Work}
use Rattle.cts_work.specs.Built.{IsPairAt, tree_at}
use Rattle.cts_work.specs.Plans.{nodes_of}
use Rattle.cts_work.specs.Work.{AreMade, EndsAt, EndsIn, IsBeyondAt, IsMadeAt, IsReady}
use Rattle.cts_work.proofs.Builts.{params_within}
use Rattle.cts_work.proofs.Leaves.{finished_leaf, finished_narrow, leaf_finished}
use Rattle.cts_work.proofs.Parts.{ends_at}

module _ (work : Work) where
  -- what an earlier node is
  pub made_child : (first k : ℕ) (fs : List Finished) (i : ℕ) (d : Finished) → AreMade work first fs → first + length fs ≡ k → first ≤ i → i < k
      → IsMadeAt work i (get_or fs (i - first) d)
  made_child first k fs i d made long from below =
      let here : first + (i - first) ≡ i = omega arith in
      subst (λ j. IsMadeAt work j (get_or fs (i - first) d)) here (made.each (i - first) d (omega arith))

  -- and one that was read from its place
  pub made_read : (first k : ℕ) (fs : List Finished) (i : ℕ) (f : Finished) → ((d : Finished) → f ≡ get_or fs (i - first) d) → AreMade work first fs
      → first + length fs ≡ k → first ≤ i → i < k → IsMadeAt work i f
  made_read first k fs i f is made long from below = subst (IsMadeAt work i) (sym (is f)) (made_child first k fs i f made long from below)

  -- nothing is made yet
  pub none_made : (first : ℕ) (fs : List Finished) → fs ≡ [] → AreMade work first fs
  none_made first fs none = record { each = λ i d h. absurd (omega (arith, ap length none)) }

  -- one node more
  pub made_push : (first k : ℕ) (fs : List Finished) (f : Finished) → AreMade work first fs → first + length fs ≡ k → IsMadeAt work k f
      → AreMade work first (fs ++ f ∷ [])
  made_push first k fs f made long here = record {
    each = λ i d h. elim (cases_lt i (length fs)) [
      | inl w ↦ subst (IsMadeAt work (first + i)) (sym (get_or_append_left fs (f ∷ []) d i w)) (made.each i d w)
      | inr w ↦
          let last : length fs ≡ i = omega (arith, h, length-append fs (f ∷ [])) in
          let at : k ≡ first + i = omega (arith, long, last) in
          subst (IsMadeAt work (first + i)) (sym (get_or_at fs f [] d i last)) (subst (λ j. IsMadeAt work j f) at here)
    ];
  }

  -- one that was made isn't beyond, so the first that is beyond is the least
  made_not_beyond : (first k : ℕ) (fs : List Finished) → AreMade work first fs → first + length fs ≡ k
      → (j : ℕ) → first ≤ j → j < k → ¬ IsBeyondAt work j
  made_not_beyond first k [] made long j from below = absurd (omega (arith, long))
  made_not_beyond first k (f ∷ fs) made long j from below =
      finished_not_beyond (params_of work.memo.now) work.sinks.now (tree_at work.nodes.now j) (get_or (f ∷ fs) (j - first) f)
      (made_child first k (f ∷ fs) j f made long from below)

  pub made_end : (first k root : ℕ) (fs : List Finished) (end : UpEnd) → AreMade work first fs → first + length fs ≡ k → k ≤ root
      → EndsAt work k end → EndsIn work first root end
  made_end first k root fs end made long below ends =
      ends_at work first k root end (omega (arith, long)) (made_not_beyond first k fs made long) below ends

  -- the nodes of a part more
  pub made_append : (first k : ℕ) (fs gs : List Finished) → AreMade work first fs → first + length fs ≡ k → AreMade work k gs
      → AreMade work first (fs ++ gs)
  made_append first k fs gs made long more = record {
    each = λ i d h. elim (cases_lt i (length fs)) [
      | inl w ↦ subst (IsMadeAt work (first + i)) (sym (get_or_append_left fs gs d i w)) (made.each i d w)
      | inr w ↦
          let there : k + (i - length fs) ≡ first + i = omega (arith, long, w) in
          subst (IsMadeAt work (first + i)) (sym (get_or-append_right fs gs i d w))
          (subst (λ j. IsMadeAt work j (get_or gs (i - length fs) d)) there
          (more.each (i - length fs) d (omega (arith, h, w, length-append fs gs))))
    ];
  }

  -- the end of a part is that of all nodes up to it
  pub end_after : (first k root all : ℕ) (fs : List Finished) (end : UpEnd) → AreMade work first fs → first + length fs ≡ k → root ≤ all
      → EndsIn work k root end → EndsIn work first all end
  end_after first k root all fs (Beyond node) made long below ends = (
    omega (arith, ends.0),
    record {
      from = omega (arith, ends.1.from, long);
      beyond = ends.1.beyond;
      none_before = λ j from before. elim (cases_lt j k) [
        | inl w ↦ made_not_beyond first k fs made long j from w
        | inr w ↦ ends.1.none_before j w before
      ];
    },
  )
  end_after first k root all fs NoMemory made long below ends = tt

  -- all nodes are the plan
  module _ (fs : List Finished) (long : length fs ≡ length work.nodes.now) (made : AreMade work 0 fs) where
    from_zero : (k : ℕ) (f : Finished) → IsMadeAt work (0 + k) f → IsMadeAt work k f
    from_zero k f here = let same : 0 + k ≡ k = omega arith in subst (λ j. IsMadeAt work j f) same here

    pub plan_of_made : IsPlan (params_of work.memo.now) work.sinks.now work.nodes.now fs
    plan_of_made =
        all_zip-from (IsFinished (params_of work.memo.now) work.sinks.now) (trees_of children work.nodes.now) fs
        (omega (arith, length-trees_of children work.nodes.now, long))
        (λ k d e h. subst (λ t. IsFinished (params_of work.memo.now) work.sinks.now t (get_or fs k e))
        (get_or_default (trees_of children work.nodes.now) k (tip (Leaf 0)) d h)
        (from_zero k (get_or fs k e) (made.each k e (omega (arith, length-trees_of children work.nodes.now, long, h)))))

  pub planned : (r : Result Plan UpEnd) → IfOk r (λ v. length (nodes_of v) ≡ length work.nodes.now) → IfOk r (λ v. AreMade work 0 (nodes_of v))
      → IfOk r (λ v. IsPlan (params_of work.memo.now) work.sinks.now work.nodes.now (nodes_of v))
  planned (Ok v) long made = plan_of_made (nodes_of v) long made
  planned (Err end) long made = tt

  -- a node's side can be merged
  pub made_merges : (k : ℕ) (f : Finished) → IsReady work → IsMadeAt work k f → IsMergeable f.side
  made_merges k f ready made =
      sides_merge (params_of work.memo.now) work.sinks.now (tree_at work.nodes.now k) f made (params_within work.memo.now) ready.sinks

  -- a leaf's numbers are those of a sink
  pub leaf_narrow : (k s : ℕ) (f : Finished) → tree_at work.nodes.now k ≡ tip (Leaf s) → IsReady work → IsMadeAt work k f → IsNarrow f.side
  leaf_narrow k s f here ready made =
      finished_narrow (params_of work.memo.now) work.sinks.now s f (params_within work.memo.now) ready.sinks
      (subst (λ t. IsFinished (params_of work.memo.now) work.sinks.now t f) here made)

  -- a leaf is what its sink gives
  module _ (k s : ℕ) (d : Sink) (f : Finished) (within : s < length work.sinks.now) (here : tree_at work.nodes.now k ≡ tip (Leaf s)) where
    pub made_leaf : IsLeaf (get_or work.sinks.now s d) f → IsMadeAt work k f
    made_leaf leaf =
        subst (λ t. IsFinished (params_of work.memo.now) work.sinks.now t f) (sym here)
        (finished_leaf (params_of work.memo.now) work.sinks.now s f d within leaf)

    pub leaf_made : IsMadeAt work k f → IsLeaf (get_or work.sinks.now s d) f
    leaf_made made =
        leaf_finished (params_of work.memo.now) work.sinks.now s f d within
        (subst (λ t. IsFinished (params_of work.memo.now) work.sinks.now t f) here made)

  -- a pair is what the sides of its two parts give
  module _ (k left right : ℕ) (a b : Finished) (here : IsPairAt work.nodes.now k left right) (first : IsMadeAt work left a) (second : IsMadeAt work right b) where
    merged_pair : (f : Finished) → IsMerged (params_of work.memo.now) a.side b.side f
        → IsFinished (params_of work.memo.now) work.sinks.now (fork (tree_at work.nodes.now left) (tree_at work.nodes.now right) (Pair left right)) f
    unfolding IsFinished
    merged_pair f merged = (a, b, first, second, merged)

    beyond_pair : IsBeyond (params_of work.memo.now) a.side b.side
        → IsBeyondPair (params_of work.memo.now) work.sinks.now (fork (tree_at work.nodes.now left) (tree_at work.nodes.now right) (Pair left right))
    unfolding IsBeyondPair
    beyond_pair over = (a, b, first, second, over)

    pair_merged : (f : Finished)
        → IsFinished (params_of work.memo.now) work.sinks.now (fork (tree_at work.nodes.now left) (tree_at work.nodes.now right) (Pair left right)) f
        → IsMerged (params_of work.memo.now) a.side b.side f
    unfolding IsFinished
    pair_merged f whole =
        let one : whole.0 ≡ a = finished_one (params_of work.memo.now) work.sinks.now (tree_at work.nodes.now left) (whole.0) a (whole.2) first in
        let two : whole.1 ≡ b = finished_one (params_of work.memo.now) work.sinks.now (tree_at work.nodes.now right) (whole.1) b (whole.3) second in
        subst (λ (p : Finished × Finished). IsMerged (params_of work.memo.now) p.0.side p.1.side f) (λ z. (one z, two z)) (whole.4)

    pub made_pair : (f : Finished) → IsMerged (params_of work.memo.now) a.side b.side f → IsMadeAt work k f
    made_pair f merged = subst (λ t. IsFinished (params_of work.memo.now) work.sinks.now t f) (sym here) (merged_pair f merged)

    pub made_beyond : IsBeyond (params_of work.memo.now) a.side b.side → IsBeyondAt work k
    made_beyond over = subst (IsBeyondPair (params_of work.memo.now) work.sinks.now) (sym here) (beyond_pair over)

    pub pair_made : (f : Finished) → IsMadeAt work k f → IsMerged (params_of work.memo.now) a.side b.side f
    pair_made f made = pair_merged f (subst (λ t. IsFinished (params_of work.memo.now) work.sinks.now t f) here made)
