-- The loop of the pass downward: what holds once it has come down to a number.
use Rattle.std.proofs.Common.{◌≡◌, ℕ, ◌+◌, ◌-◌, ◌*◌, ◌^◌, ◌<◌, ◌≤◌, ◌↔◌, Bool, true, false, ◌&&◌, ◌||◌, List, [], ◌∷◌, ◌++◌, append_assoc, map, set, drop, leb, length, get_or, slice_get, Option, Some, None, IsTrue, refl, sym, ap, ap₂, subst, ◌∙◌, arith}
use Rattle.std.specs.Prelude.{IfSome}
use Rattle.std.specs.List.{All, AllZip}
use Rattle.std.specs.Option.{option_and_then}
use Rattle.std.proofs.lemmas.List.{drop-set, drop_more, drop_all, map-append, length-map, get_or-map}
use Rattle.std.proofs.lemmas.Bool.{leb-true, le-leb}
use Rattle.std.proofs.lemmas.List.Elements.{All-cons, All-head, All-tail, All-nil, All-map}
use Rattle.std.proofs.lemmas.Slice.Zip.{AllZip-long}
use Rattle.cts_units.specs.declared.params.Params.{Params}
use Rattle.cts_units.specs.Choice.{seen_load_of}
use Rattle.cts_units.specs.Delay.{slew_of}
use Rattle.cts_units.specs.Limits.{max_length, max_load, max_delay}
use Rattle.cts_postorder.specs.BinaryTree.{BinaryTree, tip, fork, label, is_tip, subtrees}
use Rattle.cts_postorder.specs.PostOrder.{IsPostOrder, trees_of, root_of}
use Rattle.cts_postorder.specs.Occurrence.{Occurrence, occurrence, occurrences, occurrences_of}
use Rattle.cts_postorder.proofs.Growth.{length-trees_of, label-tree}
use Rattle.cts_postorder.proofs.Sizes.{root_number-next}
use Rattle.cts_postorder.proofs.Upward.{leaf_here}
use Rattle.cts_postorder.proofs.Lists.{Whole, whole_of, length-occurrences_of, trees_of-here, IsPair, is_pair}
use Rattle.cts_postorder.proofs.Handed.{AreHanded, handed_at_start, some_handed, handed_here, handed_at_leaf, handed_at_pair}
use Rattle.cts_postorder.proofs.Places.{get_or-occurrences-root}
use Rattle.cts_postorder.proofs.Zips.{all_zip-at, all_zip-all, all_zip-weaker, all_zip-map_left}
use Rattle.cts_tree.specs.declared.nodes.NodeKind.{NodeKind}
use Rattle.cts_tree.specs.declared.nodes.NodeKind.TheVariants.{Leaf, Pair}
use Rattle.cts_tree.specs.declared.nodes.TreeNode.{TreeNode}
use Rattle.cts_tree.specs.Nodes.{children_of_from, children_from, buffer_of, tree_children}
use Rattle.cts_tree.proofs.Stretches.{whole_from_start}
use Rattle.cts_instance.specs.declared.parts.Parts.{Parts}
use Rattle.cts_instance.specs.Validity.{IsValid}
use Rattle.cts_elmore.specs.declared.figures.NodeFigure.{NodeFigure}
use Rattle.cts_elmore.specs.declared.drive.Drive.{Drive}
use Rattle.cts_elmore.specs.declared.descent.Output.{Output}
use Rattle.cts_elmore.specs.declared.descent.Descent.{Descent}
use Rattle.cts_elmore.specs.declared.descent.Met.{Met}
use Rattle.cts_elmore.specs.Fits.{FitsInstance, NamesBuffer}
use Rattle.cts_elmore.specs.Loads.{buffer_at, is_buffered, load_below, load_seen, source_load}
use Rattle.cts_elmore.specs.Delays.{stage_at}
use Rattle.cts_elmore.specs.Limits.{IsPairOver, IsOverAtPair, great_load, great_source_load, MeetsLoadAt, MeetsSlewAt}
use Rattle.cts_elmore.specs.Figures.{IsNodeFigure, IsFigureInRange}
use Rattle.cts_elmore.specs.Outputs.{IsOutput, IsPartFigure, IsSourceOutput, LoadIsMet, SlewIsMet, IsHandedTo, IsHandedDown, IsPartDescent, IsDescentBelow, IsDescent}
use Rattle.cts_elmore.specs.Subtrees.{IsKnownBelow, IsDrive}
use Rattle.cts_elmore.proofs.Rising.{not_above, load_seen_le}
use Rattle.cts_postorder.proofs.Waiting.{all_zip-set}
use Rattle.cts_elmore.proofs.Down.{IsRight, handed_right, root_handed, left_handed, right_handed, figure_in_range, is_leaf, load_told, slew_told}

-- one more answer, for one more item at the front
pub both : {P Q : Type 0} (b c : Bool) → (IsTrue b ↔ P) → (IsTrue c ↔ Q) → IsTrue (b && c) ↔ (Q × P)
both true c p q = ((λ t. (q.0 t, p.0 refl)), (λ all. q.1 (all.0)))
both false c p q = ((λ t. let never : IsTrue false = t in cc), (λ all. p.1 (all.1)))

-- a fact of each item from a number on
more : {X : Type 0} (P : X → Type 0) (xs : List X) (k : ℕ) (d : X) → k < length xs
    → (P (get_or xs k d) × All P (drop (k + 1) xs)) ↔ All P (drop k xs)
more P xs k d h = (
  (λ all. subst (All P) (sym (drop_more xs k d h)) (All-cons P (get_or xs k d) (drop (k + 1) xs) (all.0) (all.1))),
  (λ all.
      let split : All P (get_or xs k d ∷ drop (k + 1) xs) = subst (All P) (drop_more xs k d h) all in
      (All-head P (get_or xs k d) (drop (k + 1) xs) split, All-tail P (get_or xs k d) (drop (k + 1) xs) split)),
)

pub through : {P Q : Type 0} {b : Bool} → (IsTrue b ↔ P) → (P ↔ Q) → IsTrue b ↔ Q
through p q = ((λ t. q.0 (p.0 t)), (λ all. p.1 (q.1 all)))

-- a fact of what a function gives
before_map : {X Y : Type 0} (P : Y → Type 0) (f : X → Y) (xs : List X) → All P (map f xs) → All (λ x. P (f x)) xs
before_map P f xs all = λ k d h.
    subst P (get_or-map f xs k d (f d) h) (all k (f d) (omega (arith, h, length-map xs f)))

-- a subtree's occurrence, with more pairs above
abbrev pub below : List (BinaryTree TreeNode) → Occurrence TreeNode → Occurrence TreeNode
below up o = occurrence (o.above ++ up) o.here

occurrences_below : (above up : List (BinaryTree TreeNode)) (t : BinaryTree TreeNode)
    → map (below up) (occurrences above t) ≡ occurrences (above ++ up) t
unfolding occurrences
occurrences_below above up (tip n) = refl
occurrences_below above up (fork l r n) =
    let top : BinaryTree TreeNode = fork l r n in
    let ls : List (Occurrence TreeNode) = occurrences (top ∷ above) l in
    let rs : List (Occurrence TreeNode) = occurrences (top ∷ above) r in
    map-append (below up) (ls ++ rs) (occurrence above top ∷ [])
    ∙ ap (λ os. os ++ occurrence (above ++ up) top ∷ []) (map-append (below up) ls rs)
    ∙ ap₂ (λ a b. a ++ b ++ occurrence (above ++ up) top ∷ []) (occurrences_below (top ∷ above) up l) (occurrences_below (top ∷ above) up r)

module _ (i : Parts) (root : BinaryTree TreeNode) where
  -- the limits of the instance at a subtree
  abbrev pub LoadMet : BinaryTree TreeNode → Type 0
  LoadMet t = MeetsLoadAt i t

  abbrev pub SlewMet : Occurrence TreeNode → Type 0
  SlewMet o = MeetsSlewAt i root o

-- what is handed down to the node of a number of a stretch, which stands below the pairs `up` of a whole tree
abbrev pub IsHandedAt : Parts → ℕ → List TreeNode → BinaryTree TreeNode → List (BinaryTree TreeNode) → ℕ → Output → Type 0
IsHandedAt i first nodes root up number output =
    (o : Occurrence TreeNode) → IsHandedTo i root (below up (get_or (occurrences_of (children_from first) nodes) number o)) output

-- The state: the figures from the number on are right, the outputs for the nodes before it are there, and whether the limits are
-- met from the number on.
pub record Down (i : Parts) (first : ℕ) (nodes : List TreeNode) (root : BinaryTree TreeNode) (up : List (BinaryTree TreeNode))
    (k : ℕ) (figures : List NodeFigure) (outputs : List Output) (load_met slew_met : Bool) : Type 0 where
  pub right : AllZip (λ o f. IsRight i root (below up o) f) (drop k (occurrences_of (children_from first) nodes)) (drop k figures)
  pub handed : AreHanded (children_from first) nodes (IsHandedAt i first nodes root up) k outputs
  pub load : IsTrue load_met ↔ All (MeetsLoadAt i) (drop k (trees_of (children_from first) nodes))
  pub slew : IsTrue slew_met ↔ All (λ o. MeetsSlewAt i root (below up o)) (drop k (occurrences_of (children_from first) nodes))

-- wherever the stretch stands, if it takes this output there
abbrev pub IsTaken : Parts → ℕ → List TreeNode → Output → BinaryTree TreeNode → List (BinaryTree TreeNode) → Type 0
IsTaken i first nodes above root up =
    IfSome (root_of (children_from first) nodes) (λ t. IsHandedTo i root (occurrence up t) above)

abbrev pub IsDown : Parts → ℕ → List TreeNode → Output → ℕ → List NodeFigure → List Output → Bool → Bool → Type 0
IsDown i first nodes above k figures outputs load_met slew_met =
    (root : BinaryTree TreeNode) (up : List (BinaryTree TreeNode)) → IsTaken i first nodes above root up
    → Down i first nodes root up k figures outputs load_met slew_met

module _ (i : Parts) (valid : IsValid i) (first : ℕ) (nodes : List TreeNode) (ok : IsPostOrder (map (children_from first) nodes))
    (fits : FitsInstance i nodes) where
  pub top : Whole (children_from first) nodes
  top = whole_of (children_from first) nodes ok

  -- somewhere the stretch takes its output, and there the state is this
  taken : (above : Output) (root : BinaryTree TreeNode) (up : List (BinaryTree TreeNode)) → IsTaken i first nodes above root up
      → IsHandedTo i root (occurrence up top.tree) above
  taken above root up is = subst (λ o. IfSome o (λ t. IsHandedTo i root (occurrence up t) above)) top.root_is is

  pub somewhere : (above : Output) → IfSome (root_of (children_from first) nodes) (λ t. IsHandedDown i t above)
      → IsHandedDown i top.tree above
  somewhere above is = subst (λ o. IfSome o (λ t. IsHandedDown i t above)) top.root_is is

  pub down_somewhere : (above : Output) (is : IfSome (root_of (children_from first) nodes) (λ t. IsHandedDown i t above)) (k : ℕ)
      (figures : List NodeFigure) (outputs : List Output) (b c : Bool) → IsDown i first nodes above k figures outputs b c
      → Down i first nodes (somewhere above is).root (somewhere above is).up k figures outputs b c
  down_somewhere above is k figures outputs b c down =
      down (somewhere above is).root (somewhere above is).up
      (subst (λ o. IfSome o (λ t. IsHandedTo i (somewhere above is).root (occurrence (somewhere above is).up t) above)) (sym top.root_is)
      (somewhere above is).handed)

  -- there are figures of each node
  known_long : (figures : List NodeFigure) → AllZip (IsKnownBelow i) (trees_of (children_from first) nodes) figures
      → length figures ≡ length nodes
  known_long figures known =
      AllZip-long (IsKnownBelow i) (trees_of (children_from first) nodes) figures known ∙ length-trees_of (children_from first) nodes

  -- what is known of a node's figures stays where its delays alone are written
  still_known : (number : ℕ) (d old new : NodeFigure) (figures : List NodeFigure)
      → AllZip (IsKnownBelow i) (trees_of (children_from first) nodes) figures → number < length nodes → get_or figures number d ≡ old
      → new.below ≡ old.below → new.residue ≡ old.residue → new.offset ≡ old.offset
      → AllZip (IsKnownBelow i) (trees_of (children_from first) nodes) (set figures number new)
  still_known number d old new figures known h is below residue_is offset_is =
      let here : IsKnownBelow i (get_or (trees_of (children_from first) nodes) number top.tree) old =
      subst (IsKnownBelow i (get_or (trees_of (children_from first) nodes) number top.tree)) is
      (all_zip-at (IsKnownBelow i) (trees_of (children_from first) nodes) figures number top.tree d known
      (omega (arith, h, length-trees_of (children_from first) nodes))) in
      all_zip-set (IsKnownBelow i) (trees_of (children_from first) nodes) figures number top.tree new known (record {
        below = below ∙ here.below;
        residue_is = residue_is ∙ here.residue_is;
        offset = offset_is ∙ here.offset;
        seen = ap (seen_load_of i.params.library (buffer_of (label (get_or (trees_of (children_from first) nodes) number top.tree)).kind)) below ∙ here.seen;
        not_over = here.not_over;
      })

  -- a number of the loop, at its head
  module _ (root : BinaryTree TreeNode) (up : List (BinaryTree TreeNode)) (m : ℕ) (some : 0 < m) (within : m ≤ length nodes)
      (figures : List NodeFigure) (outputs : List Output) (b c : Bool) (down : Down i first nodes root up m figures outputs b c)
      (known : AllZip (IsKnownBelow i) (trees_of (children_from first) nodes) figures) where
    inside : m - 1 < length nodes
    inside = omega arith

    one_more : m ≡ m - 1 + 1
    one_more = omega arith

    state : Down i first nodes root up (m - 1 + 1) figures outputs b c
    state = subst (λ j. Down i first nodes root up j figures outputs b c) one_more down

    pub kept : m - 1 < length figures
    kept = omega (arith, inside, known_long figures known)

    -- there is an output for this node
    pub some_output : 0 < length outputs
    some_output =
        some_handed (children_from first) nodes ok (IsHandedAt i first nodes root up) (m - 1) (label top.tree) inside outputs state.handed

    module _ (rest : List Output) (above : Output) (outputs_are : outputs ≡ rest ++ above ∷ []) where
      handed : (o : Occurrence TreeNode) → IsHandedTo i root (below up (get_or (occurrences_of (children_from first) nodes) (m - 1) o)) above
      handed =
          handed_here (children_from first) nodes ok (IsHandedAt i first nodes root up) (m - 1) (label top.tree) inside outputs state.handed
          rest above outputs_are

      pub delay_within : above.delay ≤ 2 ^ 119
      delay_within = omega (arith, (handed (occurrence [] top.tree)).delay, (handed (occurrence [] top.tree)).soon)

      pub stage_within : above.stage ≤ 2 ^ 119
      stage_within = omega (arith, (handed (occurrence [] top.tree)).stage_le, delay_within)

      node_is : (e : TreeNode) (o : Occurrence TreeNode)
          → label (get_or (occurrences_of (children_from first) nodes) (m - 1) o).here ≡ get_or nodes (m - 1) e
      node_is e o =
          ap label (sym (trees_of-here (children_from first) nodes ok (m - 1) top.tree o inside))
          ∙ label-tree (children_from first) nodes (m - 1) top.tree e inside

      pub short : (e : TreeNode) → (get_or nodes (m - 1) e).wire ≤ max_length
      short e =
          let o : Occurrence TreeNode = occurrence [] top.tree in
          let here : (label (get_or (occurrences_of (children_from first) nodes) (m - 1) o).here).wire ≤ max_length = (handed o).short in
          omega (arith, here, ap (λ (n : TreeNode). n.wire) (node_is e o))

      known_here : (o : Occurrence TreeNode) (d g : NodeFigure) → g ≡ get_or figures (m - 1) d
          → IsKnownBelow i (get_or (occurrences_of (children_from first) nodes) (m - 1) o).here g
      known_here o d g g_is =
          subst (λ t. IsKnownBelow i t g) (trees_of-here (children_from first) nodes ok (m - 1) top.tree o inside)
          (subst (IsKnownBelow i (get_or (trees_of (children_from first) nodes) (m - 1) top.tree)) (sym g_is)
          (all_zip-at (IsKnownBelow i) (trees_of (children_from first) nodes) figures (m - 1) top.tree d known
          (omega (arith, inside, length-trees_of (children_from first) nodes))))

      pub seen_small : (params : Params) → params ≡ i.params → (e : TreeNode) (d g : NodeFigure)
          → g ≡ get_or figures (m - 1) d
          → seen_load_of params.library (buffer_of (get_or nodes (m - 1) e).kind) g.below ≤ max_load
      seen_small params params_is e d g g_is =
          let o : Occurrence TreeNode = occurrence [] top.tree in
          let t : BinaryTree TreeNode = (get_or (occurrences_of (children_from first) nodes) (m - 1) o).here in
          let is : IsKnownBelow i t g = known_here o d g g_is in
          let told : seen_load_of params.library (buffer_of (get_or nodes (m - 1) e).kind) g.below ≡ load_seen i t =
          ap (λ (p : Params). seen_load_of p.library (buffer_of (get_or nodes (m - 1) e).kind) g.below) params_is
          ∙ ap (λ (n : TreeNode). seen_load_of i.params.library (buffer_of n.kind) g.below) (sym (node_is e o)) ∙ is.seen in
          omega (arith, told, load_seen_le i valid t is.not_over)

      -- the figures of this node
      module _ (params : Params) (params_is : params ≡ i.params) (e f : TreeNode) (d g : NodeFigure)
          (g_is : g ≡ get_or figures (m - 1) d) (here : NodeFigure)
          (here_is : IsPartFigure params (get_or nodes (m - 1) e).kind (get_or nodes (m - 1) f).wire g above here) where
        right_here : (o : Occurrence TreeNode) → IsRight i root (below up (get_or (occurrences_of (children_from first) nodes) (m - 1) o)) here
        right_here o =
            handed_right i root (below up (get_or (occurrences_of (children_from first) nodes) (m - 1) o)) above (handed o) g (get_or nodes (m - 1) e).kind (get_or nodes (m - 1) f).wire here (known_here o d g g_is)
            (ap (λ (n : TreeNode). n.kind) (node_is e o)) (ap (λ (n : TreeNode). n.wire) (node_is f o))
            (subst (λ (p : Params). IsPartFigure p (get_or nodes (m - 1) e).kind (get_or nodes (m - 1) f).wire g above here)
            params_is here_is)

        pub delay_small : here.delay ≤ max_delay
        delay_small = omega (arith, (right_here (occurrence [] top.tree)).soon)

        pub stage_small : here.stage ≤ max_delay
        stage_small = omega (arith, (right_here (occurrence [] top.tree)).stage_le, delay_small)

        -- what is known from below stays
        pub known_next : AllZip (IsKnownBelow i) (trees_of (children_from first) nodes) (set figures (m - 1) here)
        known_next = still_known (m - 1) d g here figures known inside (sym g_is) here_is.below here_is.residue here_is.offset

        all_right : AllZip (λ o f. IsRight i root (below up o) f) (drop (m - 1) (occurrences_of (children_from first) nodes)) (drop (m - 1) (set figures (m - 1) here))
        all_right =
            let o : Occurrence TreeNode = occurrence [] top.tree in
            subst (AllZip (λ o f. IsRight i root (below up o) f) (drop (m - 1) (occurrences_of (children_from first) nodes))) (sym (drop-set figures (m - 1) here kept))
            (subst (λ os. AllZip (λ o f. IsRight i root (below up o) f) os (here ∷ drop (m - 1 + 1) figures))
            (sym (drop_more (occurrences_of (children_from first) nodes) (m - 1) o (omega (arith, inside, length-occurrences_of (children_from first) nodes ok))))
            (right_here o, state.right))

        -- the limits at this node, told by its kind
        module _ (t : BinaryTree TreeNode) (t_is : (d : BinaryTree TreeNode) → get_or (trees_of (children_from first) nodes) (m - 1) d ≡ t)
            (buffer_is : buffer_at i t ≡ option_and_then (slice_get i.params.library) (buffer_of (get_or nodes (m - 1) e).kind))
            (leaf : is_tip t ≡ is_leaf (get_or nodes (m - 1) e).kind) (load_limit slew_limit : ℕ) (load_limit_is : load_limit ≡ i.load_limit)
            (slew_limit_is : slew_limit ≡ i.slew_limit) (x y : Bool)
            (load_met : IsTrue x ↔ LoadIsMet load_limit (get_or nodes (m - 1) e).kind here.below)
            (slew_met : IsTrue y ↔ SlewIsMet slew_limit (get_or nodes (m - 1) e).kind here.stage) where
          abbrev kind : NodeKind
          kind = (get_or nodes (m - 1) e).kind

          names : NamesBuffer i.params.library kind
          names = fits.buffers (m - 1) e inside

          abbrev at : Occurrence TreeNode
          at = get_or (occurrences_of (children_from first) nodes) (m - 1) (occurrence [] t)

          at_is : at.here ≡ t
          at_is = sym (trees_of-here (children_from first) nodes ok (m - 1) t (occurrence [] t) inside) ∙ t_is t

          below_is : here.below ≡ load_below i t
          below_is = (right_here (occurrence [] t)).figure.below ∙ ap (load_below i) at_is

          load_here : IsTrue x ↔ MeetsLoadAt i t
          load_here =
              let told : (LoadIsMet i.load_limit kind here.below) ↔ MeetsLoadAt i t =
              load_told i t kind names buffer_is i.load_limit here.below below_is in
              let met : IsTrue x ↔ LoadIsMet i.load_limit kind here.below =
              subst (λ l. IsTrue x ↔ LoadIsMet l kind here.below) load_limit_is load_met in
              ((λ yes. told.0 (met.0 yes)), (λ all. met.1 (told.1 all)))

          slew_here : IsTrue y ↔ MeetsSlewAt i root (below up at)
          slew_here =
              let told : (SlewIsMet i.slew_limit kind here.stage) ↔ (IsTrue (is_tip t || is_buffered i t) → slew_of here.stage ≤ 10 * i.slew_limit) =
              slew_told i t kind names buffer_is i.slew_limit here.stage leaf in
              let met : IsTrue y ↔ SlewIsMet i.slew_limit kind here.stage =
              subst (λ l. IsTrue y ↔ SlewIsMet l kind here.stage) slew_limit_is slew_met in
              let stage : here.stage ≡ stage_at i root (below up at) = (right_here (occurrence [] t)).figure.stage in (
                (λ yes last.
                    subst (λ s. slew_of s ≤ 10 * i.slew_limit) stage
                    (told.0 (met.0 yes) (subst (λ u. IsTrue (is_tip u || is_buffered i u)) at_is last))),
                (λ all. met.1 (told.1 (λ last.
                    subst (λ s. slew_of s ≤ 10 * i.slew_limit) (sym stage)
                    (all (subst (λ u. IsTrue (is_tip u || is_buffered i u)) (sym at_is) last))))),
              )

          -- one number further down
          next : (left : List Output) → AreHanded (children_from first) nodes (IsHandedAt i first nodes root up) (m - 1) left
              → Down i first nodes root up (m - 1) (set figures (m - 1) here) left (b && x) (c && y)
          next left handed_on = record {
            right = all_right;
            handed = handed_on;
            load = through
                (both b x state.load (subst (λ u. IsTrue x ↔ MeetsLoadAt i u) (sym (t_is t)) load_here))
                (more (MeetsLoadAt i) (trees_of (children_from first) nodes) (m - 1) t (omega (arith, length-trees_of (children_from first) nodes)));
            slew = through (both c y state.slew slew_here)
                (more (λ o. MeetsSlewAt i root (below up o)) (occurrences_of (children_from first) nodes) (m - 1) (occurrence [] t)
                (omega (arith, length-occurrences_of (children_from first) nodes ok)));
          }

        -- at a leaf
        pub down_at_leaf : (id sink : ℕ) → (get_or nodes (m - 1) e).kind ≡ Leaf id sink → (load_limit slew_limit : ℕ)
            → load_limit ≡ i.load_limit → slew_limit ≡ i.slew_limit → (x y : Bool)
            → (IsTrue x ↔ LoadIsMet load_limit (get_or nodes (m - 1) e).kind here.below)
            → (IsTrue y ↔ SlewIsMet slew_limit (get_or nodes (m - 1) e).kind here.stage)
            → Down i first nodes root up (m - 1) (set figures (m - 1) here) rest (b && x) (c && y)
        down_at_leaf id sink kind_is load_limit slew_limit load_limit_is slew_limit_is x y load_met slew_met =
            let n : TreeNode = get_or nodes (m - 1) e in
            let childless : children_from first n ≡ None = ap (children_of_from first) kind_is in
            let t_is : (d : BinaryTree TreeNode) → get_or (trees_of (children_from first) nodes) (m - 1) d ≡ tip n =
            λ d. leaf_here (children_from first) (IsKnownBelow i) nodes (m - 1) e d inside childless in
            let buffer_is : None ≡ option_and_then (slice_get i.params.library) (buffer_of n.kind) =
            sym (ap (λ kind. option_and_then (slice_get i.params.library) (buffer_of kind)) kind_is) in
            next (tip n) t_is buffer_is (sym (ap is_leaf kind_is)) load_limit slew_limit load_limit_is slew_limit_is x y
            load_met slew_met rest
            (handed_at_leaf (children_from first) nodes ok (IsHandedAt i first nodes root up) (m - 1) e inside outputs state.handed rest above outputs_are childless)

        -- at a pair, by the numbers of its parts
        module _ (left right : ℕ) (buffer : Option ℕ) (kind_is : (get_or nodes (m - 1) e).kind ≡ Pair left right buffer) where
          parts_named : (children_from first) (get_or nodes (m - 1) e) ≡ Some (left - first, right - first)
          parts_named = ap (children_of_from first) kind_is

          pair : IsPair (children_from first) nodes (m - 1) (left - first, right - first) (get_or nodes (m - 1) e)
          pair = is_pair (children_from first) nodes ok (m - 1) e (left - first, right - first) inside parts_named

          right_pair : IsRight i root (occurrence (pair.above ++ up) (fork pair.left pair.right (get_or nodes (m - 1) e))) here
          right_pair = subst (λ o. IsRight i root (below up o) here) (pair.own (occurrence [] top.tree)) (right_here (occurrence [] top.tree))

          sound : ¬ IsOverAtPair i pair.left pair.right (get_or nodes (m - 1) e)
          sound =
              subst (λ t. ¬ IsPairOver i t)
              (sym (trees_of-here (children_from first) nodes ok (m - 1) top.tree (occurrence [] top.tree) inside) ∙ pair.tree top.tree)
              (known_here (occurrence [] top.tree) d g g_is).not_over

          pub below_small : here.below ≤ max_load
          below_small =
              omega (
                arith,
                right_pair.figure.below,
                not_above (load_below i (fork pair.left pair.right (get_or nodes (m - 1) e))) max_load (λ above. sound (great_load above)),
              )

          pub down_at_pair : (output : Output) → IsOutput params.library buffer here output → (one two : List Output) → one ≡ rest ++ output ∷ [] → two ≡ one ++ output ∷ []
              → (load_limit slew_limit : ℕ) → load_limit ≡ i.load_limit → slew_limit ≡ i.slew_limit → (x y : Bool)
              → (IsTrue x ↔ LoadIsMet load_limit (get_or nodes (m - 1) e).kind here.below)
              → (IsTrue y ↔ SlewIsMet slew_limit (get_or nodes (m - 1) e).kind here.stage)
              → Down i first nodes root up (m - 1) (set figures (m - 1) here) two (b && x) (c && y)
          down_at_pair output output_is one two one_is two_is load_limit slew_limit load_limit_is slew_limit_is x y load_met slew_met =
              let n : TreeNode = get_or nodes (m - 1) e in
              let own : IsOutput i.params.library (buffer_of n.kind) here output =
              subst (λ (u : Option ℕ). IsOutput i.params.library u here output) (sym (ap buffer_of kind_is))
              (subst (λ (p : Params). IsOutput p.library buffer here output) params_is output_is) in
              let to_left : IsHandedTo i root (occurrence (fork pair.left pair.right n ∷ pair.above ++ up) pair.left) output =
              left_handed i root pair.left pair.right n (pair.above ++ up) here output right_pair own sound in
              let to_right : IsHandedTo i root (occurrence (fork pair.left pair.right n ∷ pair.above ++ up) pair.right) output =
              right_handed i root pair.left pair.right n (pair.above ++ up) here output right_pair own sound in
              let outputs_left : two ≡ rest ++ output ∷ output ∷ [] =
              two_is ∙ ap (λ os. os ++ output ∷ []) one_is ∙ append_assoc rest (output ∷ []) (output ∷ []) in
              next (fork pair.left pair.right n) pair.tree refl (sym (ap is_leaf kind_is)) load_limit slew_limit load_limit_is slew_limit_is
              x y load_met slew_met two
              (subst (AreHanded (children_from first) nodes (IsHandedAt i first nodes root up) (m - 1)) (sym outputs_left)
              (handed_at_pair (children_from first) nodes ok (IsHandedAt i first nodes root up) (m - 1) e inside outputs state.handed rest above outputs_are
              (left - first, right - first) parts_named output output
              (λ o. subst (λ q. IsHandedTo i root (below up q) output) (sym (pair.at_left o)) to_left)
              (λ o. subst (λ q. IsHandedTo i root (below up q) output) (sym (pair.at_right o)) to_right)))

  -- before the first step
  pub down_at_start : (figures : List NodeFigure) → AllZip (IsKnownBelow i) (trees_of (children_from first) nodes) figures
      → (above : Output) (outputs : List Output) → outputs ≡ above ∷ [] → IsDown i first nodes above (length nodes) figures outputs true true
  down_at_start figures known above outputs outputs_are = λ root up is. record {
    right = subst (λ os. AllZip (λ o f. IsRight i root (below up o) f) os (drop (length nodes) figures)) (sym none_left_occurrences)
        (subst (AllZip (λ o f. IsRight i root (below up o) f) []) (sym (drop_all (length nodes) figures (omega (arith, known_long figures known)))) tt);
    handed = subst (AreHanded (children_from first) nodes (IsHandedAt i first nodes root up) (length nodes)) (sym outputs_are)
        (handed_at_start (children_from first) nodes ok (IsHandedAt i first nodes root up) (label top.tree) above
        (λ o. subst (λ q. IsHandedTo i root (below up q) above) (sym (at_last o)) (taken above root up is)));
    load = ((λ yes. subst (All (MeetsLoadAt i)) (sym none_left_trees) (All-nil (MeetsLoadAt i))), (λ all. refl));
    slew = (
      (λ yes.
          subst (All (λ o. MeetsSlewAt i root (below up o))) (sym none_left_occurrences) (All-nil (λ o. MeetsSlewAt i root (below up o)))),
      (λ all. refl),
    );
  }
    where
      at_last : (o : Occurrence TreeNode)
          → get_or (occurrences_of (children_from first) nodes) (length nodes - 1) o ≡ occurrence [] top.tree
      at_last o =
          ap (λ os. get_or os (length nodes - 1) o) top.occurrences_are
          ∙ ap (λ k. get_or (occurrences [] top.tree) k o) (omega (arith, root_number-next 0 top.tree, top.size_is))
          ∙ get_or-occurrences-root [] top.tree o

      none_left_trees : drop (length nodes) (trees_of (children_from first) nodes) ≡ []
      none_left_trees =
          drop_all (length nodes) (trees_of (children_from first) nodes) (omega (arith, length-trees_of (children_from first) nodes))

      none_left_occurrences : drop (length nodes) (occurrences_of (children_from first) nodes) ≡ []
      none_left_occurrences =
          drop_all (length nodes) (occurrences_of (children_from first) nodes) (omega (arith, length-occurrences_of (children_from first) nodes ok))

  -- at the end
  at_end : (root : BinaryTree TreeNode) (up : List (BinaryTree TreeNode)) (figures : List NodeFigure) (outputs : List Output)
      (met : Met) → Down i first nodes root up 0 figures outputs met.load_met met.slew_met → IsPartDescent i root up top.tree figures met
  at_end root up figures outputs met down =
      let here : map (below up) (occurrences_of (children_from first) nodes) ≡ occurrences up top.tree =
      ap (map (below up)) top.occurrences_are ∙ occurrences_below [] up top.tree in
      record {
        each_node = subst (λ os. AllZip (IsNodeFigure i root) os figures) here
            (all_zip-map_left (IsNodeFigure i root) (below up) (occurrences_of (children_from first) nodes) figures
            (all_zip-weaker (λ o f. IsRight i root (below up o) f) (λ o f. IsNodeFigure i root (below up o) f) (λ o f right. right.figure)
            (occurrences_of (children_from first) nodes) figures down.right));
        in_range = all_zip-all (λ o f. IsRight i root (below up o) f) IsFigureInRange (λ o f. figure_in_range i root (below up o) f)
            (occurrences_of (children_from first) nodes) figures down.right;
        load_met = (
          (λ yes. subst (All (MeetsLoadAt i)) top.trees_are (down.load.0 yes)),
          (λ all. down.load.1 (subst (All (MeetsLoadAt i)) (sym top.trees_are) all)),
        );
        slew_met = (
          (λ yes. subst (All (MeetsSlewAt i root)) here
              (All-map (MeetsSlewAt i root) (below up) (occurrences_of (children_from first) nodes) (down.slew.0 yes))),
          (λ all. down.slew.1
              (before_map (MeetsSlewAt i root) (below up) (occurrences_of (children_from first) nodes)
              (subst (All (MeetsSlewAt i root)) (sym here) all))),
        );
      }

  pub down_at_end : (above : Output) (m : ℕ) → m ≡ 0 → (figures : List NodeFigure) (outputs : List Output) (met : Met)
      → IsDown i first nodes above m figures outputs met.load_met met.slew_met
      → IfSome (root_of (children_from first) nodes) (λ t. IsDescentBelow i above t figures met)
  down_at_end above m m_is figures outputs met down =
      subst (λ o. IfSome o (λ t. IsDescentBelow i above t figures met)) (sym top.root_is) (λ root up handed.
      at_end root up figures outputs met
      (subst (λ k. Down i first nodes root up k figures outputs met.load_met met.slew_met) m_is
      (down root up (subst (λ o. IfSome o (λ t. IsHandedTo i root (occurrence up t) above)) (sym top.root_is) handed))))

-- the whole tree, which takes the source's output
module _ (i : Parts) (nodes : List TreeNode) (ok : IsPostOrder (map tree_children nodes)) (drive : Drive)
    (drive_is : IfSome (root_of tree_children nodes) (λ root. IsDrive i root drive)) where
  whole : Whole tree_children nodes
  whole = whole_of tree_children nodes ok

  driven : IsDrive i whole.tree drive
  driven = subst (λ o. IfSome o (λ root. IsDrive i root drive)) whole.root_is drive_is

  pub source_small : drive.load ≤ max_load
  source_small = not_above drive.load max_load (λ above. driven.not_over (great_source_load (omega (arith, above, driven.load))))

  module _ (resistance : ℕ) (resistance_is : resistance ≡ i.source_r) (output : Output)
      (output_is : IsSourceOutput resistance drive.load output) where
    handed_to_root : IsHandedTo i whole.tree (occurrence [] whole.tree) output
    handed_to_root = root_handed i whole.tree resistance drive.load output output_is resistance_is driven.load driven.not_over

    pub source_handed : IfSome (root_of (children_from 0) nodes) (λ t. IsHandedDown i t output)
    source_handed =
        subst (λ (kids : TreeNode → Option (ℕ × ℕ)). IfSome (root_of kids nodes) (λ t. IsHandedDown i t output)) (sym whole_from_start)
        (subst (λ o. IfSome o (λ t. IsHandedDown i t output)) (sym whole.root_is)
        (record { root = whole.tree; up = []; handed = handed_to_root }))

    pub whole_descent : (figures : List NodeFigure) (met : Met)
        → IfSome (root_of (children_from 0) nodes) (λ t. IsDescentBelow i output t figures met) → (descent : Descent)
        → descent.figures.items ≡ figures → descent.load_met ≡ (leb drive.load i.load_limit && met.load_met)
        → descent.slew_met ≡ met.slew_met → IfSome (root_of tree_children nodes) (λ root. IsDescent i root descent)
    whole_descent figures met is descent figures_are load slew =
        let part : IsPartDescent i whole.tree [] whole.tree figures met =
        subst (λ o. IfSome o (λ t. IsDescentBelow i output t figures met)) whole.root_is
        (subst (λ (kids : TreeNode → Option (ℕ × ℕ)). IfSome (root_of kids nodes) (λ t. IsDescentBelow i output t figures met)) whole_from_start is)
        whole.tree [] handed_to_root in
        let source : IsTrue (leb drive.load i.load_limit) ↔ (source_load i whole.tree ≤ i.load_limit) = (
          (λ yes. omega (arith, leb-true drive.load i.load_limit yes, driven.load)),
          (λ within. le-leb drive.load i.load_limit (omega (arith, within, driven.load))),
        ) in
        let loads : IsTrue (leb drive.load i.load_limit && met.load_met)
        ↔ (All (MeetsLoadAt i) (subtrees whole.tree) × (source_load i whole.tree ≤ i.load_limit)) =
        both (leb drive.load i.load_limit) met.load_met source part.load_met in
        subst (λ o. IfSome o (λ root. IsDescent i root descent)) (sym whole.root_is) (record {
          each_node = subst (AllZip (IsNodeFigure i whole.tree) (occurrences [] whole.tree)) (sym figures_are) part.each_node;
          in_range = subst (All IsFigureInRange) (sym figures_are) part.in_range;
          load_met = (
            (λ yes.
                let all = loads.0 (subst IsTrue load yes) in
                record { source = all.1; buffers = all.0 }),
            (λ met. subst IsTrue (sym load) (loads.1 (met.buffers, met.source))),
          );
          slew_met = (
            (λ yes. part.slew_met.0 (subst IsTrue slew yes)),
            (λ all. subst IsTrue (sym slew) (part.slew_met.1 all)),
          );
        })
