-- Stretches of nodes: what a pair's place says of its two parts, and stretches put one after another.
use Rattle.std.proofs.Common.{◌≡◌, ℕ, ◌+◌, ◌-◌, ◌<◌, ◌≤◌, inl, inr, List, [], ◌∷◌, ◌++◌, map, take, set, length, get_or, length-append, Result, Ok, Err, refl, sym, ap, subst, ◌∙◌, arith}
use Rattle.std.specs.Result.{IfOk, IfErr}
use Rattle.std.proofs.lemmas.Bool.{cases_lt}
use Rattle.std.proofs.lemmas.List.{get_or_append_left, get_or-append_right, get_or-drop, get_or_default, length-drop}
use Rattle.cts_geom.specs.declared.points.Spot.{Spot}
use Rattle.cts_geom.specs.Points.{IsSpotInRange}
use Rattle.cts_postorder.specs.BinaryTree.{BinaryTree, tip, fork, label, size}
use Rattle.cts_postorder.specs.PostOrder.{IsPostOrder, trees_of, tree_over}
use Rattle.cts_postorder.specs.Occurrence.{Occurrence, occurrence, occurrences_of}
use Rattle.cts_postorder.proofs.Failures.{greatest_failure}
use Rattle.cts_postorder.proofs.Growth.{length-trees_of, label-tree, trees_of-at}
use Rattle.cts_postorder.proofs.Zips.{all_zip-at, all_zip-from}
use Rattle.cts_postorder.proofs.Sizes.{size_pos}
use Rattle.cts_postorder.proofs.Lists.{IsPair, is_pair, length-occurrences_of, trees_of-here}
use Rattle.cts_topo.specs.declared.shape.ShapeNode.{ShapeNode}
use Rattle.cts_topo.specs.declared.shape.ShapeNode.TheVariants.{Leaf, Pair}
use Rattle.cts_topo.specs.Shape.{children}
use Rattle.cts_merge.specs.declared.side.Finished.{Finished}
use Rattle.cts_up.specs.declared.site.Site.{Site}
use Rattle.cts_up.specs.Plan.{IsFinished}
use Rattle.cts_tree.specs.declared.nodes.TreeNode.{TreeNode}
use Rattle.cts_elmore.proofs.InDie.{in_die_in_range}
use Rattle.cts_instance.specs.declared.parts.Parts.{Parts}
use Rattle.cts_instance.specs.Validity.{IsValid}
use Rattle.cts_embed.specs.declared.end.EmbedEnd.{EmbedEnd}
use Rattle.cts_embed.specs.declared.end.EmbedEnd.TheVariants.{Cut, NoMemory}
use Rattle.cts_embed.specs.Ends.{EmbedEnds}
use Rattle.cts_embed.specs.Places.{IsRouteStart}
use Rattle.cts_embed.specs.PlacedTree.{IsCutFrom, IsCutNode, IsPlacedFrom, IsPlacedNode, IsPlacedTree}
use Rattle.cts_embed.proofs.Starts.{start_in_die}
use Rattle.cts_embed.proofs.OnePlace.{none_cut}
use Rattle.cts_embed.proofs.SitesOfPlans.{FinishedAt, finished_at}
use Rattle.cts_embed.specs.Stretches.{IsReady, IsStretch, IsPlacedAt, ArePlaced, IsLastCut, StretchEnds}

pub begins_before : (nodes : List ShapeNode) (first root : ℕ) → IsStretch nodes first root → first ≤ root
begins_before nodes first root all =
    let d : BinaryTree ShapeNode = tip (Leaf 0) in
    omega (arith, all d, size_pos (get_or (trees_of children nodes) root d))

-- a leaf is all of its tree
pub leaf_stretch : (nodes : List ShapeNode) (first root sink : ℕ) (e : ShapeNode) → root < length nodes → get_or nodes root e ≡ Leaf sink
    → IsStretch nodes first root → first ≡ root
unfolding tree_over size
leaf_stretch nodes first root sink e within is all =
    let d : BinaryTree ShapeNode = tip e in
    let t : BinaryTree ShapeNode = get_or (trees_of children nodes) root d in
    let one : size t ≡ 1 =
    ap size (trees_of-at children nodes root e d within)
    ∙ ap (λ n. size (tree_over (children n) (take root (trees_of children nodes)) n)) is in
    omega (arith, one, all d)

module _ (parts : Parts) (nodes : List ShapeNode) (sites : List Site) (root : ℕ) (from : Spot) (ready : IsReady parts nodes sites root from) where
  ok : IsPostOrder (map children nodes)
  ok = ready.shape.post_order

  pub ready_in_range : IsValid parts → IsSpotInRange from
  ready_in_range valid =
      let none : Occurrence ShapeNode = occurrence [] (tip (Leaf 0)) in
      in_die_in_range parts.die from valid.die
      (start_in_die parts (get_or (occurrences_of children nodes) root none).above from valid (ready.start none))

  pub label_here : (o : Occurrence ShapeNode) (e : ShapeNode)
      → label (get_or (occurrences_of children nodes) root o).here ≡ get_or nodes root e
  label_here o e =
      ap label (sym (trees_of-here children nodes ok root (tip e) o ready.within)) ∙ label-tree children nodes root (tip e) e ready.within

  -- what is finished of the node, by its site
  abbrev pub at_site : (site : Site) → site ≡ get_or sites root site → FinishedAt parts nodes (ready.are_sites.0) root site
  at_site site is = finished_at parts nodes sites ready.are_sites root ready.within site is

  module _ (e : ShapeNode) (site : Site) (is : site ≡ get_or sites root site) where
    abbrev pub f : Finished
    f = (at_site site is).node

    made_here : (o : Occurrence ShapeNode) → IsFinished parts.params parts.sinks (get_or (occurrences_of children nodes) root o).here f
    made_here o =
        subst (λ t. IsFinished parts.params parts.sinks t f) (trees_of-here children nodes ok root o.here o ready.within)
        (subst (IsFinished parts.params parts.sinks (get_or (trees_of children nodes) root o.here)) (sym (at_site site is).is_node)
        (all_zip-at (IsFinished parts.params parts.sinks) (trees_of children nodes) (ready.are_sites.0) root o.here f (ready.are_sites.1)
        (omega (arith, ready.within, length-trees_of children nodes))))

    pub placed_here : (node : TreeNode) → IsPlacedFrom parts (get_or nodes root e) f from node → IsPlacedAt parts nodes root node
    placed_here node here o = record {
      from = from;
      start = ready.start o;
      finished = f;
      made = made_here o;
      placed = subst (λ n. IsPlacedFrom parts n f from node) (sym (label_here o e)) here;
    }

    pub cut_here : IsCutFrom parts (get_or nodes root e) f from → IsLastCut parts nodes root root root
    cut_here cut = record {
      at_least = omega arith;
      at_most = omega arith;
      cut = λ o. record {
        from = from;
        start = ready.start o;
        finished = f;
        made = made_here o;
        cut = subst (λ n. IsCutFrom parts n f from) (sym (label_here o e)) cut;
      };
      none_after = λ j o after within. absurd (omega (arith, after, within));
    }

  -- both parts of a pair start at its place
  module _ (first left right : ℕ) (e : ShapeNode) (is : get_or nodes root e ≡ Pair left right) (all : IsStretch nodes first root)
      (node : TreeNode) (placed : IsPlacedAt parts nodes root node) where
    abbrev n : ShapeNode
    n = get_or nodes root e

    pair : IsPair children nodes root (left, right) n
    pair = is_pair children nodes ok root e (left, right) ready.within (ap children is)

    pub right_next : right + 1 ≡ root
    right_next = pair.right_number

    pub left_stretch : IsStretch nodes first left
    unfolding size
    left_stretch d =
        let whole : first + size (get_or (trees_of children nodes) root d) ≡ root + 1 = all d in
        let same : size (get_or (trees_of children nodes) root d) ≡ size pair.left + size pair.right + 1 = ap size (pair.tree d) in
        omega (arith, whole, same, pair.left_number, ap size (pair.left_tree d))

    pub right_stretch : IsStretch nodes (left + 1) right
    right_stretch d = omega (arith, pair.left_number, pair.right_number, ap size (pair.right_tree d))

    pub in_order : (first ≤ left) × (left < right)
    in_order =
        let d : BinaryTree ShapeNode = tip e in (
          omega (arith, left_stretch d, size_pos (get_or (trees_of children nodes) left d)),
          omega (arith, right_stretch d, size_pos (get_or (trees_of children nodes) right d)),
        )

    below : IsRouteStart parts (fork pair.left pair.right n ∷ pair.above) node.place
    unfolding IsRouteStart label
    below =
        let none : Occurrence ShapeNode = occurrence [] (tip e) in
        let own : IsPlacedNode parts (occurrence pair.above (fork pair.left pair.right n)) node =
        subst (λ (o : Occurrence ShapeNode). IsPlacedNode parts o node) (pair.own none) (placed none) in
        (own.from, own.start, record { node = own.finished; finished = own.made; is_place = own.placed.place })

    pub left_ready : IsReady parts nodes sites left node.place
    left_ready = record {
      shape = ready.shape;
      are_sites = ready.are_sites;
      within = omega (arith, ready.within, pair.left_below);
      start = λ o. subst (λ (q : Occurrence ShapeNode). IsRouteStart parts q.above node.place) (sym (pair.at_left o)) below;
    }

    pub right_ready : IsReady parts nodes sites right node.place
    right_ready = record {
      shape = ready.shape;
      are_sites = ready.are_sites;
      within = omega (arith, ready.within, pair.right_below);
      start = λ o. subst (λ (q : Occurrence ShapeNode). IsRouteStart parts q.above node.place) (sym (pair.at_right o)) below;
    }

module _ (parts : Parts) (nodes : List ShapeNode) where
  -- one node is a stretch
  pub placed_one : (number : ℕ) (node : TreeNode) → IsPlacedAt parts nodes number node → ArePlaced parts nodes number number (node ∷ [])
  placed_one number node is = record {
    long = omega arith;
    each = λ k e h o.
        let first : k ≡ 0 = omega (arith, h) in
        let number_is : number ≡ number + k = omega (arith, first) in
        subst (λ i. IsPlacedNode parts (get_or (occurrences_of children nodes) (number + k) o) (get_or (node ∷ []) i e)) (sym first)
        (subst (λ i. IsPlacedNode parts (get_or (occurrences_of children nodes) i o) node) number_is (is o));
  }

  -- two stretches make one
  pub placed_joined : (first mid next last : ℕ) (xs ys : List TreeNode) → next ≡ mid + 1 → ArePlaced parts nodes first mid xs
      → ArePlaced parts nodes next last ys → ArePlaced parts nodes first last (xs ++ ys)
  placed_joined first mid next last xs ys next_is front back = record {
    long = omega (arith, length-append xs ys, front.long, back.long, next_is);
    each = λ k e h o. elim (cases_lt k (length xs)) [
      | inl w ↦
          subst (IsPlacedNode parts (get_or (occurrences_of children nodes) (first + k) o)) (sym (get_or_append_left xs ys e k w))
          (front.each k e w o)
      | inr w ↦
          let at : next + (k - length xs) ≡ first + k = omega (arith, w, front.long, next_is) in
          subst (IsPlacedNode parts (get_or (occurrences_of children nodes) (first + k) o))
          (sym (get_or-append_right xs ys (length xs) k e refl w))
          (subst (λ i. IsPlacedNode parts (get_or (occurrences_of children nodes) i o) (get_or ys (k - length xs) e)) at
          (back.each (k - length xs) e (omega (arith, h, w, length-append xs ys)) o))
    ];
  }

  -- a placed node is not cut
  not_cut : (o : Occurrence ShapeNode) (node : TreeNode) → IsPlacedNode parts o node → ¬ IsCutNode parts o
  not_cut o node is = none_cut parts (o ∷ []) (node ∷ []) (is, tt) 0 o (omega arith)

  none_among : (first last : ℕ) (placed : List TreeNode) → ArePlaced parts nodes first last placed → (j : ℕ)
      (o : Occurrence ShapeNode) → first ≤ j → j ≤ last → ¬ IsCutNode parts (get_or (occurrences_of children nodes) j o)
  none_among first last [] are j o after before = absurd (omega (arith, after, before, are.long))
  none_among first last (e ∷ placed) are j o after before =
      let at : first + (j - first) ≡ j = omega (arith, after) in
      subst (λ i. ¬ IsCutNode parts (get_or (occurrences_of children nodes) i o)) at
      (not_cut (get_or (occurrences_of children nodes) (first + (j - first)) o) (get_or (e ∷ placed) (j - first) e)
      (are.each (j - first) e (omega (arith, after, before, are.long)) o))

  -- what is cut last in the back of a stretch is cut last in it
  pub ends_in_back : (first mid last : ℕ) (end : EmbedEnd) → first ≤ mid → StretchEnds parts nodes mid last end
      → StretchEnds parts nodes first last end
  ends_in_back first mid last (Cut k) h c = record {
    at_least = omega (arith, h, c.at_least);
    at_most = c.at_most;
    cut = c.cut;
    none_after = c.none_after;
  }
  ends_in_back first mid last NoMemory h c = tt

  -- and what is cut last in the front of it, where the back is placed
  pub ends_in_front : (first mid next last : ℕ) (placed : List TreeNode) (end : EmbedEnd) → next ≡ mid + 1 → mid ≤ last
      → ArePlaced parts nodes next last placed → StretchEnds parts nodes first mid end → StretchEnds parts nodes first last end
  ends_in_front first mid next last placed (Cut k) next_is h are c = record {
    at_least = c.at_least;
    at_most = omega (arith, h, c.at_most);
    cut = c.cut;
    none_after = λ j o after before. elim (cases_lt mid j) [
      | inl w ↦ none_among next last placed are j o (omega (arith, w, next_is)) before
      | inr w ↦ c.none_after j o after w
    ];
  }
  ends_in_front first mid next last placed NoMemory next_is h are c = tt

  -- a leaf is a stretch
  pub placed_leaf : (first root : ℕ) (below own : List TreeNode) (node : TreeNode) → first ≡ root → length below ≡ root - first
      → length own ≡ 1 → IsPlacedAt parts nodes root node → ArePlaced parts nodes first root (below ++ set own 0 node)
  placed_leaf first root (x ∷ below) own node is none one placed = absurd (omega (arith, is, none))
  placed_leaf first root [] [] node is none one placed = absurd (omega (arith, one))
  placed_leaf first root [] (x ∷ y ∷ own) node is none one placed = absurd (omega (arith, one))
  placed_leaf first root [] (x ∷ []) node is none one placed =
      subst (λ f. ArePlaced parts nodes f root (node ∷ [])) (sym is) (placed_one root node placed)

  -- and a pair after its parts is
  pub placed_pair : (first right root : ℕ) (below own : List TreeNode) (node : TreeNode) → right + 1 ≡ root → length own ≡ 1
      → ArePlaced parts nodes first right below → IsPlacedAt parts nodes root node
      → ArePlaced parts nodes first root (below ++ set own 0 node)
  placed_pair first right root below [] node next one parts_are placed = absurd (omega (arith, one))
  placed_pair first right root below (x ∷ y ∷ own) node next one parts_are placed = absurd (omega (arith, one))
  placed_pair first right root below (x ∷ []) node next one parts_are placed =
      placed_joined first right root root below (node ∷ []) (sym next) parts_are (placed_one root node placed)

  -- where a pair is placed, what is cut last in its parts is cut last in its tree
  pub ends_below : (first right root : ℕ) (node : TreeNode) (end : EmbedEnd) → right + 1 ≡ root → IsPlacedAt parts nodes root node
      → StretchEnds parts nodes first right end → StretchEnds parts nodes first root end
  ends_below first right root node end next placed ends =
      ends_in_front first right root root (node ∷ []) end (sym next) (omega (arith, next)) (placed_one root node placed) ends

  module _ (ok : IsPostOrder (map children nodes)) (last : ℕ) (last_is : last + 1 ≡ length nodes) where
    -- the stretch of all nodes is the placed tree
    pub all_placed : (placed : List TreeNode) → ArePlaced parts nodes 0 last placed → IsPlacedTree parts nodes placed
    all_placed placed are =
        let os : List (Occurrence ShapeNode) = occurrences_of children nodes in
        let long : length os ≡ length placed = omega (arith, length-occurrences_of children nodes ok, last_is, are.long) in
        all_zip-from (IsPlacedNode parts) os placed long
        (λ k o e h. subst (λ i. IsPlacedNode parts (get_or os i o) (get_or placed k e)) (let at : 0 + k ≡ k = omega arith in at)
        (are.each k e (omega (arith, h, long)) o))

    pub all_ends : (end : EmbedEnd) → StretchEnds parts nodes 0 last end → EmbedEnds parts nodes end
    all_ends (Cut k) c =
        let os : List (Occurrence ShapeNode) = occurrences_of children nodes in
        let none : Occurrence ShapeNode = occurrence [] (tip (Leaf 0)) in
        let o : Occurrence ShapeNode = get_or os k none in
        let within : k < length nodes = omega (arith, c.at_most, last_is) in
        let long : length os ≡ length nodes = length-occurrences_of children nodes ok in
        greatest_failure children nodes (IsCutNode parts) ok k o within (get_or_default os k o none (omega (arith, within, long)))
        (c.cut none)
        (λ j d h. subst (λ (q : Occurrence ShapeNode). ¬ IsCutNode parts q) (sym (get_or-drop (k + 1) os j d))
        (c.none_after (k + 1 + j) d (omega arith) (omega (arith, h, length-drop (k + 1) os, long, last_is))))
    all_ends NoMemory c = tt

-- what follows of a result from two facts of it
pub ok_both : {X E : Type 0} (r : Result X E) (P Q S : X → Type 0) → ((x : X) → P x → Q x → S x) → IfOk r P → IfOk r Q → IfOk r S
ok_both (Ok x) P Q S then p q = then x p q
ok_both (Err e) P Q S then p q = tt

pub err_weaker : {X E : Type 0} (r : Result X E) (P S : E → Type 0) → ((e : E) → P e → S e) → IfErr r P → IfErr r S
err_weaker (Ok x) P S then p = tt
err_weaker (Err e) P S then p = then e p
