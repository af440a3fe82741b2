-- The tips below a pair: greatest and least arrivals and delays, and the bound, from those of the pair's two parts.
use Rattle.std.proofs.Common.{◌≡◌, ℕ, ◌+◌, ◌*◌, ◌<◌, ◌≤◌, min, max, [], ◌∷◌, ◌++◌, map, take, length, get_or, refl, sym, ap, subst, ◌∙◌, arith, length-append}
use Rattle.std.specs.Prelude.{sum_by}
use Rattle.std.specs.List.{All}
use Rattle.std.proofs.lemmas.List.{map-append, take_at, length-map}
use Rattle.std.proofs.lemmas.List.Elements.{All-cons, All-nil, All-append, All-map, All-weaker}
use Rattle.std.proofs.lemmas.List.Sums.{sum_by-cons, sum_by_push}
use Rattle.std.proofs.lemmas.Simd.{map-map}
use Rattle.cts_postorder.specs.BinaryTree.{BinaryTree, tip, fork}
use Rattle.cts_postorder.specs.Occurrence.{Occurrence, occurrence, tips}
use Rattle.cts_postorder.proofs.Tips.{some_tip, tips_below}
use Rattle.cts_tree.specs.declared.nodes.TreeNode.{TreeNode}
use Rattle.cts_instance.specs.declared.parts.Parts.{Parts}
use Rattle.cts_elmore.specs.Loads.{offset_at}
use Rattle.cts_elmore.specs.Delays.{wire_delay, buffer_delay, source_delay, delay_at}
use Rattle.cts_elmore.specs.Skew.{greatest_of, least_of, delay_down, arrival_down, greatest_below, least_below, greatest_delay_below, least_delay_below, residue, arrival_at, leaf_delays, leaf_arrivals, skew, bound}
use Rattle.cts_elmore.proofs.Numbers.{map_same, greatest_of-append, least_of-append, greatest_of-shift, least_of-shift}

module _ {N : Type 0} where
  -- the same tip with one pair more above it
  abbrev under : BinaryTree N → Occurrence N → Occurrence N
  under top o = occurrence (o.above ++ top ∷ []) o.here

  tips_under : (top t : BinaryTree N) → tips (top ∷ []) t ≡ map (under top) (tips [] t)
  tips_under top t = tips_below [] (top ∷ []) t

  -- below a pair there are all pairs above a tip but the last, and the tip itself
  take_under : (top : BinaryTree N) (o : Occurrence N)
      → take (length (o.above ++ top ∷ [])) (o.here ∷ o.above ++ top ∷ []) ≡ o.here ∷ o.above
  take_under top o =
      let long : length (o.above ++ top ∷ []) ≡ length (o.here ∷ o.above) = simp length-append (omega arith) in
      ap (λ n. take n (o.here ∷ o.above ++ top ∷ [])) long ∙ take_at (o.here ∷ o.above) (top ∷ []) (length (o.here ∷ o.above)) refl

  -- the path of each tip ends with the tree itself
  module _ (f : BinaryTree N → ℕ) where
    abbrev EndsWith : BinaryTree N → Occurrence N → Type 0
    EndsWith t o = sum_by f (o.here ∷ o.above) ≡ sum_by f (take (length o.above) (o.here ∷ o.above)) + f t

    ends_under : (top : BinaryTree N) (o : Occurrence N) → EndsWith top (under top o)
    ends_under top o =
        let all : sum_by f (o.here ∷ o.above ++ top ∷ []) ≡ f o.here + (sum_by f o.above + f top) =
        sum_by-cons f o.here (o.above ++ top ∷ []) ∙ ap (λ s. f o.here + s) (sum_by_push f o.above top) in
        let front : sum_by f (take (length (o.above ++ top ∷ [])) (o.here ∷ o.above ++ top ∷ [])) ≡ f o.here + sum_by f o.above =
        ap (sum_by f) (take_under top o) ∙ sum_by-cons f o.here o.above in
        omega (arith, all, front)

    pub ends_with : (t : BinaryTree N) → All (EndsWith t) (tips [] t)
    unfolding tips
    ends_with (tip n) = All-cons (EndsWith (tip n)) (occurrence [] (tip n)) [] (omega arith) (All-nil (EndsWith (tip n)))
    ends_with (fork l r n) =
        let top : BinaryTree N = fork l r n in
        let part : (t : BinaryTree N) → All (EndsWith top) (tips (top ∷ []) t) =
        λ t. subst (All (EndsWith top)) (sym (tips_under top t))
        (All-map (EndsWith top) (under top) (tips [] t) (λ k d h. ends_under top (get_or (tips [] t) k d))) in
        All-append (EndsWith top) (tips (top ∷ []) l) (tips (top ∷ []) r) (part l) (part r)

module _ (i : Parts) where
  -- What is added on the way from a pair to the tips of one of its parts: the part's wire and the pair's buffer. And on the way
  -- from the source to the root: the source's resistance and the root's wire.
  abbrev added : BinaryTree TreeNode → BinaryTree TreeNode → ℕ
  added top t = wire_delay i t + buffer_delay i top

  abbrev led : BinaryTree TreeNode → ℕ
  led root = source_delay i root + wire_delay i root

  -- a number of each tip that grows as its delay does, by a pair more above it
  abbrev Moves : (Occurrence TreeNode → ℕ) → Type 0
  Moves f =
      (top t : BinaryTree TreeNode) (o : Occurrence TreeNode) → EndsWith (wire_delay i) t o → f (under top o) ≡ f o + added top t

  delay_moves : Moves (delay_down i)
  delay_moves top t o ends =
      omega (
        arith,
        ends,
        sum_by_push (buffer_delay i) o.above top,
        ap (sum_by (wire_delay i)) (take_under top o),
      )

  arrival_moves : Moves (arrival_down i)
  arrival_moves top t o ends = omega (arith, delay_moves top t o ends)

  -- such numbers at the tips of a pair's part, and the greatest and the least of them at the tips of the pair
  module _ (f : Occurrence TreeNode → ℕ) (moves : Moves f) where
    through : (top t : BinaryTree TreeNode) → map f (tips (top ∷ []) t) ≡ map (λ o. f o + added top t) (tips [] t)
    through top t =
        ap (map f) (tips_under top t) ∙ map-map f (under top) (tips [] t)
        ∙ map_same (λ o. f (under top o)) (λ o. f o + added top t) (tips [] t)
        (All-weaker (EndsWith (wire_delay i) t) (λ o. f (under top o) ≡ f o + added top t) (moves top t)
        (tips [] t) (ends_with (wire_delay i) t))

    greatest_over_pair : (l r : BinaryTree TreeNode) (n : TreeNode)
        → greatest_of (map f (tips [] (fork l r n)))
        ≡ max (greatest_of (map f (tips [] l)) + wire_delay i l) (greatest_of (map f (tips [] r)) + wire_delay i r)
        + buffer_delay i (fork l r n)
    unfolding tips
    greatest_over_pair l r n =
        let top : BinaryTree TreeNode = fork l r n in
        let part : (t : BinaryTree TreeNode) → greatest_of (map f (tips (top ∷ []) t)) ≡ greatest_of (map f (tips [] t)) + added top t =
        λ t. ap greatest_of (through top t) ∙ greatest_of-shift f (added top t) (tips [] t) (some_tip [] t) in
        ap greatest_of (map-append f (tips (top ∷ []) l) (tips (top ∷ []) r))
        ∙ greatest_of-append (map f (tips (top ∷ []) l)) (map f (tips (top ∷ []) r))
        ∙ omega (arith, part l, part r)

    least_over_pair : (l r : BinaryTree TreeNode) (n : TreeNode)
        → least_of (map f (tips [] (fork l r n)))
        ≡ min (least_of (map f (tips [] l)) + wire_delay i l) (least_of (map f (tips [] r)) + wire_delay i r)
        + buffer_delay i (fork l r n)
    unfolding tips
    least_over_pair l r n =
        let top : BinaryTree TreeNode = fork l r n in
        let part : (t : BinaryTree TreeNode) → least_of (map f (tips (top ∷ []) t)) ≡ least_of (map f (tips [] t)) + added top t =
        λ t. ap least_of (through top t) ∙ least_of-shift f (added top t) (tips [] t) (some_tip [] t) in
        let some : (t : BinaryTree TreeNode) → 0 < length (map f (tips (top ∷ []) t)) =
        λ t. omega (arith, length-map (tips (top ∷ []) t) f, some_tip (top ∷ []) t) in
        ap least_of (map-append f (tips (top ∷ []) l) (tips (top ∷ []) r))
        ∙ least_of-append (map f (tips (top ∷ []) l)) (map f (tips (top ∷ []) r)) (some l) (some r)
        ∙ omega (arith, part l, part r)

  -- a leaf's arrival begins with twice its offset, and its delay with 0
  pub greatest_at_tip : (n : TreeNode) → greatest_below i (tip n) ≡ 2 * offset_at i (tip n)
  unfolding greatest_below greatest_of tips
  greatest_at_tip n = omega arith

  pub least_at_tip : (n : TreeNode) → least_below i (tip n) ≡ 2 * offset_at i (tip n)
  unfolding least_below least_of tips
  least_at_tip n = omega arith

  pub greatest_delay_at_tip : (n : TreeNode) → greatest_delay_below i (tip n) ≡ 0
  unfolding greatest_delay_below greatest_of tips
  greatest_delay_at_tip n = refl

  pub least_delay_at_tip : (n : TreeNode) → least_delay_below i (tip n) ≡ 0
  unfolding least_delay_below least_of tips
  least_delay_at_tip n = refl

  -- the later of the two parts, through their wires and the pair's buffer
  pub greatest_at_pair : (l r : BinaryTree TreeNode) (n : TreeNode)
      → greatest_below i (fork l r n)
      ≡ max (greatest_below i l + wire_delay i l) (greatest_below i r + wire_delay i r) + buffer_delay i (fork l r n)
  unfolding greatest_below
  greatest_at_pair l r n = greatest_over_pair (arrival_down i) arrival_moves l r n

  pub least_at_pair : (l r : BinaryTree TreeNode) (n : TreeNode)
      → least_below i (fork l r n)
      ≡ min (least_below i l + wire_delay i l) (least_below i r + wire_delay i r) + buffer_delay i (fork l r n)
  unfolding least_below
  least_at_pair l r n = least_over_pair (arrival_down i) arrival_moves l r n

  pub greatest_delay_at_pair : (l r : BinaryTree TreeNode) (n : TreeNode)
      → greatest_delay_below i (fork l r n)
      ≡ max (greatest_delay_below i l + wire_delay i l) (greatest_delay_below i r + wire_delay i r) + buffer_delay i (fork l r n)
  unfolding greatest_delay_below
  greatest_delay_at_pair l r n = greatest_over_pair (delay_down i) delay_moves l r n

  pub least_delay_at_pair : (l r : BinaryTree TreeNode) (n : TreeNode)
      → least_delay_below i (fork l r n)
      ≡ min (least_delay_below i l + wire_delay i l) (least_delay_below i r + wire_delay i r) + buffer_delay i (fork l r n)
  unfolding least_delay_below
  least_delay_at_pair l r n = least_over_pair (delay_down i) delay_moves l r n

  pub bound_at_tip : (n : TreeNode) → bound i (tip n) ≡ 0
  unfolding bound greatest_of tips
  bound_at_tip n = refl

  -- the pair's own residue comes to the greater bound of its parts
  pub bound_at_pair : (l r : BinaryTree TreeNode) (n : TreeNode)
      → bound i (fork l r n) ≡ max (bound i l) (bound i r) + residue i (fork l r n)
  unfolding bound tips
  bound_at_pair l r n =
      let top : BinaryTree TreeNode = fork l r n in
      let residues : Occurrence TreeNode → ℕ = λ o. sum_by (residue i) o.above in
      let part : (t : BinaryTree TreeNode) → greatest_of (map residues (tips (top ∷ []) t))
      ≡ greatest_of (map residues (tips [] t)) + residue i top =
      λ t. ap (λ os. greatest_of (map residues os)) (tips_under top t)
      ∙ ap greatest_of (map-map residues (under top) (tips [] t)
      ∙ map_same (λ o. residues (under top o)) (λ o. residues o + residue i top) (tips [] t)
      (λ k d h. sum_by_push (residue i) (get_or (tips [] t) k d).above top))
      ∙ greatest_of-shift residues (residue i top) (tips [] t) (some_tip [] t) in
      ap greatest_of (map-append residues (tips (top ∷ []) l) (tips (top ∷ []) r))
      ∙ greatest_of-append (map residues (tips (top ∷ []) l)) (map residues (tips (top ∷ []) r))
      ∙ omega (arith, part l, part r)

  -- The delay of a leaf is the one at the root, and the one down from the root. So is its arrival.
  module _ (f g : Occurrence TreeNode → ℕ) (root : BinaryTree TreeNode)
      (down : (o : Occurrence TreeNode) → EndsWith (wire_delay i) root o → g o ≡ f o + led root) where
    from_source : map g (tips [] root) ≡ map (λ o. f o + led root) (tips [] root)
    from_source =
        map_same g (λ o. f o + led root) (tips [] root)
        (All-weaker (EndsWith (wire_delay i) root) (λ o. g o ≡ f o + led root) down (tips [] root) (ends_with (wire_delay i) root))

    greatest_from_source : greatest_of (map g (tips [] root)) ≡ greatest_of (map f (tips [] root)) + led root
    greatest_from_source = ap greatest_of from_source ∙ greatest_of-shift f (led root) (tips [] root) (some_tip [] root)

    least_from_source : least_of (map g (tips [] root)) ≡ least_of (map f (tips [] root)) + led root
    least_from_source = ap least_of from_source ∙ least_of-shift f (led root) (tips [] root) (some_tip [] root)

  delay_led : (root : BinaryTree TreeNode) (o : Occurrence TreeNode) → EndsWith (wire_delay i) root o
      → delay_at i root o ≡ delay_down i o + led root
  unfolding delay_at
  delay_led root o ends = omega (arith, ends)

  arrival_led : (root : BinaryTree TreeNode) (o : Occurrence TreeNode) → EndsWith (wire_delay i) root o
      → arrival_at i root o ≡ arrival_down i o + led root
  arrival_led root o ends = omega (arith, delay_led root o ends)

  pub greatest_delay : (root : BinaryTree TreeNode)
      → greatest_of (leaf_delays i root) ≡ greatest_delay_below i root + (source_delay i root + wire_delay i root)
  unfolding greatest_delay_below
  greatest_delay root = greatest_from_source (delay_down i) (delay_at i root) root (delay_led root)

  pub least_delay : (root : BinaryTree TreeNode)
      → least_of (leaf_delays i root) ≡ least_delay_below i root + (source_delay i root + wire_delay i root)
  unfolding least_delay_below
  least_delay root = least_from_source (delay_down i) (delay_at i root) root (delay_led root)

  pub greatest_arrival : (root : BinaryTree TreeNode)
      → greatest_of (leaf_arrivals i root) ≡ greatest_below i root + (source_delay i root + wire_delay i root)
  unfolding greatest_below
  greatest_arrival root = greatest_from_source (arrival_down i) (arrival_at i root) root (arrival_led root)

  pub least_arrival : (root : BinaryTree TreeNode)
      → least_of (leaf_arrivals i root) ≡ least_below i root + (source_delay i root + wire_delay i root)
  unfolding least_below
  least_arrival root = least_from_source (arrival_down i) (arrival_at i root) root (arrival_led root)

  -- arrivals below a node lie as close together as its bound says
  pub spread_below : (t : BinaryTree TreeNode) → greatest_below i t ≤ least_below i t + bound i t
  unfolding residue
  spread_below (tip n) = omega (arith, greatest_at_tip n, least_at_tip n)
  spread_below (fork l r n) =
      omega (
        arith,
        greatest_at_pair l r n,
        least_at_pair l r n,
        bound_at_pair l r n,
        spread_below l,
        spread_below r,
      )

  pub skew_within : (root : BinaryTree TreeNode) → skew i root ≤ bound i root
  unfolding skew
  skew_within root = omega (arith, greatest_arrival root, least_arrival root, spread_below root)
