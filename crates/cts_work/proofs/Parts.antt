-- The nodes of a part one after another.
use Rattle.std.proofs.Common.{◌≡◌, ℕ, zero, suc, ◌+◌, ◌-◌, ◌^◌, ◌<◌, ◌≤◌, ◌⊎◌, inl, inr, Bool, List, [], ◌∷◌, ◌++◌, map, take, drop, length, get_or, slice_get, count_by, Option, Some, None, IsSome, is_some, refl, sym, ap, ◌∙◌, subst, arith, get_or-take, length-append}
use mathlib.Core.List.{IsPrefix}
use Rattle.std.specs.List.{All, AllZip}
use Rattle.std.proofs.lemmas.Bool.{cases_lt}
use Rattle.std.proofs.lemmas.List.{take_more, take_all, get_or-drop, get_or_at, get_or_append_left, get_or_default, length-drop, length-take-le}
use Rattle.std.proofs.lemmas.List.Elements.{All-cons}
use Rattle.std.proofs.lemmas.Option.{slice_get-get_or, slice_get_cases, slice_get_within, get_or_from_slice_get}
use Rattle.cts_postorder.specs.BinaryTree.{BinaryTree, tip, size}
use Rattle.cts_postorder.specs.PostOrder.{root_of, trees_of}
use Rattle.cts_postorder.proofs.Failures.{size-tree}
use Rattle.cts_postorder.proofs.Growth.{length-trees_of}
use Rattle.cts_postorder.proofs.Lists.{Whole, whole_of}
use Rattle.cts_postorder.proofs.Nested.{nested}
use Rattle.cts_postorder.proofs.Sizes.{size_pos}
use Rattle.cts_postorder.proofs.Zips.{all_zip-from}
use Rattle.cts_topo.specs.declared.shape.ShapeNode.{ShapeNode}
use Rattle.cts_topo.specs.declared.shape.ShapeNode.TheVariants.{Leaf}
use Rattle.cts_topo.specs.Shape.{children, IsShapeOver}
use Rattle.cts_topo.proofs.Ranks.{count_by-cons}
use Rattle.cts_topo.proofs.Counts.{length-shape}
use Rattle.cts_merge.specs.declared.side.Finished.{Finished}
use Rattle.cts_up.specs.declared.end.UpEnd.{UpEnd}
use Rattle.cts_up.specs.declared.end.UpEnd.TheVariants.{Beyond, NoMemory}
use Rattle.cts_up.specs.Ends.{Ends}
use Rattle.cts_up.specs.Plan.{IsFinished, IsBeyondPair, IsPlan}
use Rattle.cts_up.proofs.Unique.{finished_not_beyond}
use Rattle.cts_memo.specs.declared.entry.MemoEntry.{MemoEntry}
use Rattle.cts_memo.specs.Numbers.{number_of, is_missing, missing, missing_in, AreKnown}
use Rattle.cts_memo.specs.Passes.{params_of}
use Rattle.cts_memo.specs.Sound.{max_entries}
use Rattle.cts_memo.proofs.Missing.{count_by-append}
use Rattle.cts_work.specs.declared.node.Built.{Built}
use Rattle.cts_work.specs.declared.work.Work.{Work}
use Rattle.cts_work.specs.Built.{IsBuilt, tree_at}
use Rattle.cts_work.specs.Work.{AreBuilt, EndsAt, EndsIn, IsBeyondAt, IsBuiltAt, IsPart, IsReady, StartsFrom, missing_at, missing_from}
use Rattle.cts_work.specs.Known.{IsAtPlace, StandAt, picked}
use Rattle.cts_work.proofs.Builts.{built_stays}
use Rattle.cts_work.proofs.Misses.{missing_earlier}
use Rattle.cts_work.proofs.Picked.{length-picked, picked-at, picked-push, picked_stays, places_push, places_stay}

-- a part has a first node
pub part_ordered : (nodes : List ShapeNode) (first root : ℕ) → IsPart nodes first root → first ≤ root
part_ordered nodes first root part = omega (arith, part.whole, size_pos (tree_at nodes root))

-- the whole is a part
pub whole_is_part : (nodes : List ShapeNode) (count root : ℕ) → IsShapeOver count nodes → root + 1 ≡ length nodes → IsPart nodes 0 root
unfolding root_of
whole_is_part nodes count root ok long =
    let w : Whole children nodes = whole_of children nodes ok.post_order in
    let place : root ≡ length nodes - 1 = omega (arith, long) in
    let last : get_or (trees_of children nodes) root (tip (Leaf 0)) ≡ w.tree =
    get_or_from_slice_get (trees_of children nodes) root w.tree (tip (Leaf 0)) (ap (slice_get (trees_of children nodes)) place ∙ w.root_is) in
    record { within = omega (arith, long); whole = omega (arith, long, ap size last, w.size_is) }

-- the number after the last node fits a word
pub next_fits : (work : Work) (root : ℕ) → IsReady work → root < length work.nodes.now → root + 1 < 2 ^ 32
next_fits work root ready h =
    omega (arith, h, length-shape (length work.sinks.now) work.nodes.now ready.shape, ready.sinks.few)

-- no node of a part has nodes below it that aren't in the part
pub starts_from : (nodes : List ShapeNode) (count first root k : ℕ) → IsShapeOver count nodes → IsPart nodes first root → first ≤ k → k ≤ root
    → StartsFrom nodes first k
starts_from nodes count first root k ok part from below =
    let reach : root + 1 ≤ k + size (tree_at nodes root) = omega (arith, part.whole) in
    let inner = nested children nodes ok.post_order (tip (Leaf 0)) root k part.within below reach in
    omega (arith, part.whole, inner)

-- no node is below the first number
pub starts_first : (nodes : List ShapeNode) (count : ℕ) → IsShapeOver count nodes → (k : ℕ) → k < length nodes → StartsFrom nodes 0 k
starts_first nodes count ok k h = omega (arith, size-tree children nodes ok.post_order k (tip (Leaf 0)) h)

module _ (work : Work) where
  -- what an earlier node is made of
  pub child_at : (seen : List MemoEntry) (first k : ℕ) (bs : List Built) (i : ℕ) (d : Built) → AreBuilt work seen first bs → first + length bs ≡ k
      → first ≤ i → i < k → IsBuiltAt work seen i (get_or bs (i - first) d)
  child_at seen first k bs i d built long from below =
      let here : first + (i - first) ≡ i = omega arith in
      subst (λ j. IsBuiltAt work seen j (get_or bs (i - first) d)) here (built.each (i - first) d (omega arith))

  pub earlier_at : (seen : List MemoEntry) (k : ℕ) (bs : List Built) (i : ℕ) (d : Built) → AreBuilt work seen 0 bs → length bs ≡ k → i < k
      → IsBuiltAt work seen i (get_or bs i d)
  earlier_at seen k bs i d built long below =
      let here : 0 + i ≡ i = omega arith in
      subst (λ j. IsBuiltAt work seen j (get_or bs i d)) here (built.each i d (omega arith))

  -- all that is known stays
  pub built_all_stay : (seen longer : List MemoEntry) (first : ℕ) (bs : List Built) → IsPrefix seen longer → length longer ≤ max_entries
      → AreBuilt work seen first bs → AreBuilt work longer first bs
  built_all_stay seen longer first bs more short built = record {
    each = λ i d h. built_stays (params_of work.memo.now) work.sinks.now seen longer (tree_at work.nodes.now (first + i)) (get_or bs i d) more short
        (built.each i d h);
  }

  -- nothing is made yet
  pub none_built : (seen : List MemoEntry) (first : ℕ) (bs : List Built) → bs ≡ [] → AreBuilt work seen first bs
  none_built seen first bs none = record { each = λ i d h. absurd (omega (arith, ap length none)) }

  -- one node more
  pub built_push : (seen longer : List MemoEntry) (first k : ℕ) (bs : List Built) (b : Built) → IsPrefix seen longer → length longer ≤ max_entries
      → AreBuilt work seen first bs → first + length bs ≡ k → IsBuiltAt work longer k b → AreBuilt work longer first (bs ++ b ∷ [])
  built_push seen longer first k bs b more short built long here = record {
    each = λ i d h. elim (cases_lt i (length bs)) [
      | inl w ↦
          subst (IsBuiltAt work longer (first + i)) (sym (get_or_append_left bs (b ∷ []) d i w))
          ((built_all_stay seen longer first bs more short built).each i d w)
      | inr w ↦
          let last : length bs ≡ i = omega (arith, h, length-append bs (b ∷ [])) in
          let at : k ≡ first + i = omega (arith, long, last) in
          subst (IsBuiltAt work longer (first + i)) (sym (get_or_at bs b [] d i last)) (subst (λ j. IsBuiltAt work longer j b) at here)
    ];
  }

  -- the node of an earlier number at its place
  pub part_at : (seen : List MemoEntry) (first k : ℕ) (nodes : List Built) (tree : List ℕ) (i p : ℕ) → StandAt nodes tree (AreBuilt work seen first)
      → first + length tree ≡ k → first ≤ i → i < k → p ≡ get_or tree (i - first) p → IsAtPlace nodes (IsBuiltAt work seen i) p
  part_at seen first k nodes tree i p stand long from below is =
      let h : i - first < length tree = omega (arith, long, from, below) in
      let within : p < length nodes = subst (λ (q : ℕ). q < length nodes) (sym is) (stand.0 (i - first) p h) in
      let count : first + length (picked nodes tree) ≡ k = omega (arith, long, length-picked nodes tree (stand.0)) in
      elim (slice_get_cases nodes p).1 [
        | inl w ↦
            let at : get_or (picked nodes tree) (i - first) w.0 ≡ w.0 =
            picked-at nodes tree (i - first) p w.0 (stand.0) h ∙ ap (λ q. get_or nodes q w.0) (sym is) ∙ w.3 in
            (w.0, w.2, subst (IsBuiltAt work seen i) at (child_at seen first k (picked nodes tree) i w.0 (stand.1) count from below))
        | inr w ↦ absurd (omega (arith, within, w.0))
      ]

  -- none stands yet
  pub none_stand : (seen : List MemoEntry) (first : ℕ) (nodes : List Built) (tree : List ℕ) → tree ≡ [] → StandAt nodes tree (AreBuilt work seen first)
  none_stand seen first nodes tree none = (
    λ i d h. absurd (omega (arith, h, ap length none)),
    none_built seen first (picked nodes tree) (ap (picked nodes) none),
  )

  -- one node more at its place
  pub stand_push : (seen longer : List MemoEntry) (first k : ℕ) (nodes more : List Built) (tree : List ℕ) (p : ℕ)
      → IsPrefix seen longer → length longer ≤ max_entries → IsPrefix nodes more → StandAt nodes tree (AreBuilt work seen first)
      → first + length tree ≡ k → IsAtPlace more (IsBuiltAt work longer k) p → StandAt more (tree ++ p ∷ []) (AreBuilt work longer first)
  stand_push seen longer first k nodes more tree p later short grown stand long here =
      let count : first + length (picked nodes tree) ≡ k = omega (arith, long, length-picked nodes tree (stand.0)) in
      let together : picked more (tree ++ p ∷ []) ≡ picked nodes tree ++ here.0 ∷ [] =
      picked-push more tree p here.0 (here.1) ∙ ap (λ bs. bs ++ here.0 ∷ []) (picked_stays nodes more grown tree (stand.0)) in (
        places_push more tree p (places_stay nodes more grown tree (stand.0)) (slice_get_within more p here.0 (here.1)),
        subst (AreBuilt work longer first) (sym together)
            (built_push seen longer first k (picked nodes tree) here.0 later short (stand.1) count (here.2)),
      )

  -- one that was made isn't beyond
  not_beyond : (seen : List MemoEntry) (k : ℕ) (b : Built) → IsBuiltAt work seen k b → ¬ IsBeyondAt work k
  not_beyond seen k b built = finished_not_beyond (params_of work.memo.now) work.sinks.now (tree_at work.nodes.now k) b.finished built.finished

  pub none_beyond : (seen : List MemoEntry) (first k : ℕ) (bs : List Built) → AreBuilt work seen first bs → first + length bs ≡ k
      → (j : ℕ) → first ≤ j → j < k → ¬ IsBeyondAt work j
  none_beyond seen first k [] built long j from below = absurd (omega (arith, long))
  none_beyond seen first k (b ∷ bs) built long j from below =
      not_beyond seen j (get_or (b ∷ bs) (j - first) b) (child_at seen first k (b ∷ bs) j b built long from below)

  -- so the first that is beyond is the least
  pub ends_at : (first k root : ℕ) (end : UpEnd) → first ≤ k → ((j : ℕ) → first ≤ j → j < k → ¬ IsBeyondAt work j) → k ≤ root → EndsAt work k end
      → EndsIn work first root end
  ends_at first k root (Beyond node) from none below ends = (
    omega (arith, ends.0),
    record {
      from = omega (arith, ends.0);
      beyond = subst (IsBeyondAt work) (sym (ends.0)) (ends.1);
      none_before = λ j after before. none j after (omega (arith, ends.0));
    },
  )
  ends_at first k root NoMemory from none below ends = tt

  pub ends_here : (seen : List MemoEntry) (first k root : ℕ) (bs : List Built) (end : UpEnd) → AreBuilt work seen first bs → first + length bs ≡ k
      → k ≤ root → EndsAt work k end → EndsIn work first root end
  ends_here seen first k root bs end built long below ends =
      ends_at first k root end (omega (arith, long)) (none_beyond seen first k bs built long) below ends

  -- also where another part comes before
  pub ends_after : (seen : List MemoEntry) (first k root all : ℕ) (bs : List Built) (end : UpEnd) → AreBuilt work seen first bs → first + length bs ≡ k
      → root ≤ all → EndsIn work k root end → EndsIn work first all end
  ends_after seen first k root all bs (Beyond node) built long below ends = (
    omega (arith, ends.0),
    record {
      from = omega (arith, ends.1.from, long);
      beyond = ends.1.beyond;
      none_before = λ j from before. elim (cases_lt j k) [
        | inl w ↦ none_beyond seen first k bs built long j from w
        | inr w ↦ ends.1.none_before j w before
      ];
    },
  )
  ends_after seen first k root all bs NoMemory built long below ends = tt

  -- the pairs that are missing among one node more
  missing_next : (seen : List MemoEntry) (first k : ℕ) → first ≤ k → k < length work.nodes.now
      → missing_from work seen first (k + 1 - first) ≡ missing_from work seen first (k - first) + missing_at work seen k
  missing_next seen first k from h =
      let trees : List (BinaryTree ShapeNode) = trees_of children work.nodes.now in
      let rest : List (BinaryTree ShapeNode) = drop first trees in
      let one : k + 1 - first ≡ (k - first) + 1 = omega arith in
      let place : first + (k - first) ≡ k = omega arith in
      let long : k - first < length rest = omega (arith, length-drop first trees, length-trees_of children work.nodes.now, h) in
      let here : get_or rest (k - first) (tip (Leaf 0)) ≡ tree_at work.nodes.now k =
      get_or-drop first trees (k - first) (tip (Leaf 0)) ∙ ap (λ j. get_or trees j (tip (Leaf 0))) place in
      ap (λ n. missing_from work seen first n) one
      ∙ ap (missing_in seen work.sinks.now) (take_more rest (k - first) (tip (Leaf 0)) long ∙ ap (λ t. take (k - first) rest ++ t ∷ []) here)
      ∙ count_by-append (is_missing seen work.sinks.now) (take (k - first) rest) (tree_at work.nodes.now k ∷ [])

  pub merges_next : (seen longer : List MemoEntry) (first k start before after : ℕ) → first ≤ k → k < length work.nodes.now
      → IsPrefix seen longer → before ≤ start + missing_from work seen first (k - first)
      → after ≤ before + missing_at work longer k → after ≤ start + missing_from work seen first (k + 1 - first)
  merges_next seen longer first k start before after from h more made now =
      omega (
        arith,
        made,
        missing_earlier seen longer work.sinks.now (tree_at work.nodes.now k) before after more now,
        missing_next seen first k from h,
      )

  -- no more are missing in a front
  count-front : (p : BinaryTree ShapeNode → Bool) (ts : List (BinaryTree ShapeNode)) (k m : ℕ) → k ≤ m
      → count_by p (take k ts) ≤ count_by p (take m ts)
  count-front p [] k m h = omega (arith, ap (count_by p) (take_all k [] (omega arith)), ap (count_by p) (take_all m [] (omega arith)))
  count-front p (t ∷ ts) zero m h = omega arith
  count-front p (t ∷ ts) (suc k) zero h = absurd (omega arith)
  count-front p (t ∷ ts) (suc k) (suc m) h =
      omega (arith, count_by-cons p t (take k ts), count_by-cons p t (take m ts), count-front p ts k m (omega arith))

  pub merges_within : (seen : List MemoEntry) (first few many start after : ℕ) → few ≤ many
      → after ≤ start + missing_from work seen first few → after ≤ start + missing_from work seen first many
  merges_within seen first few many start after h made =
      omega (arith, made, count-front (is_missing seen work.sinks.now) (drop first (trees_of children work.nodes.now)) few many h)

  -- the whole is a part
  module _ (nodes : List ShapeNode) (same : work.nodes.now ≡ nodes) (root : ℕ) (long : root + 1 ≡ length work.nodes.now) where
    pub whole_part : IsReady work → IsPart work.nodes.now 0 root
    whole_part ready = whole_is_part work.nodes.now (length work.sinks.now) root ready.shape long

    trees_all : take (root + 1 - 0) (drop 0 (trees_of children work.nodes.now)) ≡ trees_of children nodes
    trees_all =
        take_all (root + 1 - 0) (trees_of children work.nodes.now) (omega (arith, long, length-trees_of children work.nodes.now))
        ∙ ap (trees_of children) same

    pub merges_in_all : (seen : List MemoEntry) (start after : ℕ) → after ≤ start + missing_from work seen 0 (root + 1 - 0)
        → after ≤ start + missing seen work.sinks.now nodes
    merges_in_all seen start after made = omega (arith, made, ap (missing_in seen work.sinks.now) trees_all)

    pub ends_in_all : (end : UpEnd) → EndsIn work 0 root end → Ends (params_of work.memo.now) work.sinks.now nodes end
    ends_in_all (Beyond node) ends =
        let trees : List (BinaryTree ShapeNode) = trees_of children work.nodes.now in
        let within : node < length trees = omega (arith, ends.0, long, length-trees_of children work.nodes.now) in
        subst (λ ns. Ends (params_of work.memo.now) work.sinks.now ns (Beyond node)) same
        (record {
          tree = tree_at work.nodes.now node;
          found = slice_get-get_or trees node (tip (Leaf 0)) within;
          fails = ends.1.beyond;
          none_before = λ j d h.
              let below : j < node = omega (arith, length-take-le node trees (omega arith)) in
              let at : get_or (take node trees) j d ≡ tree_at work.nodes.now j =
              get_or-take node trees j d below ∙ get_or_default trees j d (tip (Leaf 0)) (omega arith) in
              subst (λ t. ¬ IsBeyondPair (params_of work.memo.now) work.sinks.now t) (sym at) (ends.1.none_before j (omega arith) below);
        })
    ends_in_all NoMemory ends = tt

    module _ (seen : List MemoEntry) (bs : List Built) (count : 0 + length bs ≡ root + 1) (built : AreBuilt work seen 0 bs) where
      abbrev pub R : BinaryTree ShapeNode → Built → Type 0
      R = IsBuilt (params_of work.memo.now) work.sinks.now seen

      from_zero : (k : ℕ) (b : Built) → IsBuiltAt work seen (0 + k) b → IsBuiltAt work seen k b
      from_zero k b here = let same : 0 + k ≡ k = omega arith in subst (λ j. IsBuiltAt work seen j b) same here

      pub all_built : AllZip R (trees_of children nodes) bs
      all_built =
          subst (λ ns. AllZip R (trees_of children ns) bs) same
          (all_zip-from R (trees_of children work.nodes.now) bs (omega (arith, length-trees_of children work.nodes.now, long, count))
          (λ k d e h. subst (λ t. R t (get_or bs k e))
          (get_or_default (trees_of children work.nodes.now) k (tip (Leaf 0)) d h)
          (from_zero k (get_or bs k e) (built.each k e (omega (arith, length-trees_of children work.nodes.now, long, count, h))))))

      -- what the nodes are made of is the plan
      plan_of : (ts : List (BinaryTree ShapeNode)) (cs : List Built) → AllZip R ts cs
          → AllZip (IsFinished (params_of work.memo.now) work.sinks.now) ts (map (λ b. b.finished) cs)
      plan_of [] [] all = tt
      plan_of [] (b ∷ cs) all = absurd all
      plan_of (t ∷ ts) [] all = absurd all
      plan_of (t ∷ ts) (b ∷ cs) all = (all.0.finished, plan_of ts cs (all.1))

      pub plan_made : (plan : List Finished) → plan ≡ map (λ b. b.finished) bs → IsPlan (params_of work.memo.now) work.sinks.now nodes plan
      plan_made plan is = subst (IsPlan (params_of work.memo.now) work.sinks.now nodes) (sym is) (plan_of (trees_of children nodes) bs all_built)

      -- all have numbers, unless the list is full
      known_or_full : (ts : List (BinaryTree ShapeNode)) (cs : List Built) → AllZip R ts cs
          → (length seen ≡ max_entries) ⊎ All (λ t. IsSome (number_of seen work.sinks.now t)) ts
      known_or_full [] [] all = inr (λ k d h. absurd (omega arith))
      known_or_full [] (b ∷ cs) all = absurd all
      known_or_full (t ∷ ts) [] all = absurd all
      known_or_full (t ∷ ts) (b ∷ cs) all = by b.number refl (all.0) (known_or_full ts cs (all.1))
        where
          by : (o : Option ℕ) → b.number ≡ o → R t b
              → (length seen ≡ max_entries) ⊎ All (λ t. IsSome (number_of seen work.sinks.now t)) ts
              → (length seen ≡ max_entries) ⊎ All (λ t. IsSome (number_of seen work.sinks.now t)) (t ∷ ts)
          by None is here rest = inl (here.full is)
          by (Some n) is here rest = elim rest [
            | inl full ↦ inl full
            | inr known ↦ inr (All-cons (λ u. IsSome (number_of seen work.sinks.now u)) t ts (ap is_some (here.number ∙ is)) known)
          ]

      pub all_known : (length seen ≡ max_entries) ⊎ AreKnown seen work.sinks.now nodes
      all_known = known_or_full (trees_of children nodes) bs all_built
