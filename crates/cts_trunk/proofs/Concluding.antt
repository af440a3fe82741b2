-- What laying a trunk comes to, over the extended tree.
use Rattle.std.proofs.Common.{◌≡◌, ℕ, ◌+◌, ◌-◌, ◌*◌, ◌/◌, ◌<◌, ◌≤◌, List, length, get_or, slice_get, Some, sym, ap, subst, ◌∙◌, arith}
use Rattle.std.specs.Prelude.{Result, Ok, Err, IfOk, IfErr}
use Rattle.std.specs.List.{All}
use Rattle.std.proofs.lemmas.Option.{slice_get-get_or}
use Rattle.std.proofs.Math.Nat.{div-mul-le_self}
use Rattle.std.proofs.lemmas.List.{length-map}
use Rattle.cts_units.specs.declared.params.Buffer.{Buffer}
use Rattle.cts_units.specs.Limits.{IsWire, max_delay}
use Rattle.cts_postorder.specs.BinaryTree.{BinaryTree, label}
use Rattle.cts_tree.specs.declared.nodes.TreeNode.{TreeNode}
use Rattle.cts_instance.specs.declared.parts.Parts.{Parts}
use Rattle.cts_elmore.specs.declared.figures.Figures.{Figures}
use Rattle.cts_elmore.specs.Loads.{load_seen}
use Rattle.cts_elmore.specs.Delays.{source_delay, wire_delay}
use Rattle.cts_trunk.specs.declared.places.Stand.{Stand}
use Rattle.cts_trunk.specs.declared.sums.Drive.{Drive}
use Rattle.cts_trunk.specs.declared.sums.Reach.{Reach}
use Rattle.cts_trunk.specs.declared.trunk.Trunk.{Trunk}
use Rattle.cts_trunk.specs.declared.trunk.TrunkEnd.{TrunkEnd}
use Rattle.cts_trunk.specs.declared.trunk.TrunkEnd.TheVariants.{Buffer as NoBuffer, Many, Beyond, NoMemory}
use Rattle.cts_trunk.specs.Assembled.{EndsWith, IsTrunkWith}
use Rattle.cts_trunk.specs.Extended.{spans, trunk_of, delay_on, root_stage}
use Rattle.cts_trunk.specs.Known.{IsRootKnown}
use Rattle.cts_trunk.specs.Laid.{Ends, IsBeyondLimit, IsLaid, IsTrunkAt, Named}
use Rattle.cts_trunk.specs.Places.{is_free_at, stands, trunk_way}
use Rattle.cts_trunk.specs.Road.{AreStands, EndsWalk}
use Rattle.cts_trunk.specs.TrunkSums.{AreReaches, EndsSums, StandBefore, cuts_of, wires_of}
use Rattle.cts_trunk.proofs.Chosen.{chosen_within}
use Rattle.cts_trunk.proofs.Laying.{beyond_is, within_is, trunk_at}
use Rattle.cts_trunk.proofs.LimitsMet.{still_none}
use Rattle.cts_trunk.proofs.Reaches.{cut_at}

pub wires_same : (i : Parts) (root : BinaryTree TreeNode) (buffer : Buffer) (drive : Drive) (places : List Stand)
    → drive.repeater ≡ buffer → drive.root_at ≡ (label root).wire → drive.root_seen ≡ load_seen i root
    → wires_of drive places ≡ trunk_of i root buffer (cuts_of places)
wires_same i root buffer drive places repeater_is at_is seen_is =
    ap (λ (b : Buffer). spans b.cin drive.root_seen 0 (cuts_of places) drive.root_at) repeater_is
    ∙ ap (λ s. spans buffer.cin s 0 (cuts_of places) drive.root_at) seen_is
    ∙ ap (λ w. spans buffer.cin (load_seen i root) 0 (cuts_of places) w) at_is

-- no repeater stands below the root
pub stand_before : (i : Parts) (root : TreeNode) (step : ℕ) (places : List Stand)
    → AreStands i.blocks i.die (trunk_way i root) step ((root.wire - 1) / step) places → StandBefore root.wire places
stand_before i root step places are = λ k d h.
    let cut : get_or (cuts_of places) k 0 ≡ (get_or places k d).length = cut_at places k d h in
    let long : length (cuts_of places) ≡ length places = length-map places (λ (s : Stand). s.length) in
    let all : All (λ s. s ≤ (root.wire - 1) / step * step) (cuts_of places) =
    subst (All (λ s. s ≤ (root.wire - 1) / step * step)) (sym are.lengths)
    (chosen_within (λ s. is_free_at i.blocks i.die (trunk_way i root) (2 * s)) step ((root.wire - 1) / step)) in
    omega (arith, cut, all k 0 (omega (arith, h, long)), div-mul-le_self (root.wire - 1) step)

module _ (i : Parts) (nodes : List TreeNode) (figures : Figures) (step index : ℕ) (known : IsRootKnown i nodes figures) (buffer : Buffer)
    (found : slice_get i.params.library index ≡ Some buffer) where
  abbrev named : Named i nodes step index
  named = record { root = known.root; root_is = known.root_is; buffer = buffer; buffer_is = found }

  abbrev root : TreeNode
  root = label known.root

  pub ends_walk : (end : TrunkEnd) → EndsWalk i.blocks i.die (trunk_way i root) step ((root.wire - 1) / step) end
      → Ends i nodes step index end
  unfolding stands
  ends_walk NoBuffer walk = absurd walk
  ends_walk Many walk = record { named = named; many = walk }
  ends_walk Beyond walk = absurd walk
  ends_walk NoMemory walk = tt

  module _ (places : List Stand) (are : AreStands i.blocks i.die (trunk_way i root) step ((root.wire - 1) / step) places) where
    cuts_same : cuts_of places ≡ stands i root step
    unfolding stands
    cuts_same = are.lengths

    few : length (stands i root step) ≤ 65536
    few = omega (arith, are.few, length-map places (λ (s : Stand). s.length), ap length cuts_same)

    beyond_end : IsBeyondLimit i known.root buffer (cuts_of places) → Ends i nodes step index Beyond
    beyond_end over = record { named = named; few = few; beyond = subst (IsBeyondLimit i known.root buffer) cuts_same over }

    pub ends_sums : (end : TrunkEnd) → EndsSums i buffer (trunk_of i known.root buffer (cuts_of places)) (length places) end
        → Ends i nodes step index end
    ends_sums NoBuffer sums = absurd sums
    ends_sums Many sums = absurd sums
    ends_sums Beyond sums =
        beyond_end (omega (
          arith,
          sums,
          ap (delay_on i buffer (trunk_of i known.root buffer (cuts_of places))) (length-map places (λ (s : Stand). s.length)),
        ))
    ends_sums NoMemory sums = tt

    module _ (reaches : List Reach) (reach : AreReaches i buffer (trunk_of i known.root buffer (cuts_of places)) (length places + 1) reaches)
        (old : ℕ) (old_is : old ≡ source_delay i known.root + wire_delay i known.root) where
      pub ends_with : (end : TrunkEnd) → EndsWith figures places reaches old end → Ends i nodes step index end
      ends_with NoBuffer ends = absurd ends
      ends_with Many ends = absurd ends
      ends_with Beyond ends =
          beyond_end (beyond_is i known.root buffer places reaches reach nodes figures known.fits known.numbered known.labels_are
          known.figures_of old old_is ends)
      ends_with NoMemory ends = tt

      pub laid : IsWire i.params.wire → (trunk : Trunk) → IsTrunkWith i nodes figures places reaches old trunk → IsLaid i nodes step index trunk
      laid wire trunk is =
          let none : source_delay i known.root + wire_delay i known.root ≡ 0 → root_stage i known.root buffer (cuts_of places) ≡ 0 =
          λ zero_is. ap (root_stage i known.root buffer) cuts_same ∙ still_none i known.root buffer step wire zero_is in
          record {
            named = named;
            few = few;
            within = subst (λ cuts. ¬ IsBeyondLimit i known.root buffer cuts) cuts_same
                (within_is i known.root buffer places reaches reach nodes figures known.fits known.numbered known.labels_are
                known.figures_of old old_is is.within);
            trunk_is = subst (λ cuts. IsTrunkAt i known.root buffer cuts trunk) cuts_same
                (trunk_at i known.root buffer places reaches reach nodes figures known.fits known.numbered known.labels_are
                known.figures_of old old_is are.places none trunk is);
          }

-- the same of what the code has in its hands: the last node, its places, and what drives the trunk
module _ (i : Parts) (nodes : List TreeNode) (figures : Figures) (step index : ℕ) (known : IsRootKnown i nodes figures)
    (within : index < length i.params.library) (node : TreeNode) (node_is : node ≡ get_or nodes (length nodes - 1) node) where
  abbrev buffer_at : Buffer
  buffer_at = get_or i.params.library index (record { cin = 0; rout = 0; intrinsic = 0 })

  found : slice_get i.params.library index ≡ Some buffer_at
  found = slice_get-get_or i.params.library index (record { cin = 0; rout = 0; intrinsic = 0 }) within

  same_node : node ≡ label known.root
  same_node = node_is ∙ sym (known.node node)

  pub walk_end : (end : TrunkEnd) → EndsWalk i.blocks i.die (trunk_way i node) step ((node.wire - 1) / step) end → Ends i nodes step index end
  walk_end end walk =
      ends_walk i nodes figures step index known buffer_at found end
      (subst (λ (n : TreeNode). EndsWalk i.blocks i.die (trunk_way i n) step ((n.wire - 1) / step) end) same_node walk)

  module _ (places : List Stand) (are_here : AreStands i.blocks i.die (trunk_way i node) step ((node.wire - 1) / step) places)
      (drive : Drive) (repeater_is : drive.repeater ≡ buffer_at) (at_is : drive.root_at ≡ node.wire)
      (seen_is : drive.root_seen + i.params.wire.c * node.wire ≡ figures.source_load) where
    are : AreStands i.blocks i.die (trunk_way i (label known.root)) step (((label known.root).wire - 1) / step) places
    are = subst (λ (n : TreeNode). AreStands i.blocks i.die (trunk_way i n) step ((n.wire - 1) / step) places) same_node are_here

    pub before_root : StandBefore drive.root_at places
    before_root = subst (λ at. StandBefore at places) (sym at_is) (stand_before i node step places are_here)

    wires : wires_of drive places ≡ trunk_of i known.root buffer_at (cuts_of places)
    wires =
        let wire : node.wire ≡ (label known.root).wire = ap (λ (n : TreeNode). n.wire) same_node in
        let load : i.params.wire.c * node.wire ≡ i.params.wire.c * (label known.root).wire = ap (λ w. i.params.wire.c * w) wire in
        wires_same i known.root buffer_at drive places repeater_is (at_is ∙ wire)
        (omega (arith, seen_is, load, known.figures_of.source_load_is))

    pub sums_end : (end : TrunkEnd) → EndsSums i drive.repeater (wires_of drive places) (length places) end → Ends i nodes step index end
    sums_end end sums =
        ends_sums i nodes figures step index known buffer_at found places are end
        (subst (λ ws. EndsSums i buffer_at ws (length places) end) wires
        (subst (λ (b : Buffer). EndsSums i b (wires_of drive places) (length places) end) repeater_is sums))

    module _ (reaches : List Reach) (are_reaches : AreReaches i drive.repeater (wires_of drive places) (length places + 1) reaches) where
      reach : AreReaches i buffer_at (trunk_of i known.root buffer_at (cuts_of places)) (length places + 1) reaches
      reach =
          subst (λ ws. AreReaches i buffer_at ws (length places + 1) reaches) wires
          (subst (λ (b : Buffer). AreReaches i b (wires_of drive places) (length places + 1) reaches) repeater_is are_reaches)

      pub delays_within : All (λ (r : Reach). r.delay ≤ max_delay) reaches
      delays_within = λ k d h. are_reaches.each_within k d (omega (arith, h, are_reaches.long))

      pub stages_within : All (λ (r : Reach). r.stage ≤ max_delay) reaches
      stages_within = λ k d h.
          let inside : k < length places + 1 = omega (arith, h, are_reaches.long) in
          omega (arith, are_reaches.each_within k d inside, (are_reaches.each_wire k d inside).stage_le)

      module _ (old : ℕ) (old_is : old ≡ source_delay i known.root + wire_delay i known.root) where
        pub with_end : (end : TrunkEnd) → EndsWith figures places reaches old end → Ends i nodes step index end
        with_end end ends =
            ends_with i nodes figures step index known buffer_at found places are reaches reach old old_is end ends

        pub laid_here : IsWire i.params.wire → (trunk : Trunk) → IsTrunkWith i nodes figures places reaches old trunk
            → IsLaid i nodes step index trunk
        laid_here wire trunk is =
            laid i nodes figures step index known buffer_at found places are reaches reach old old_is wire trunk is

pub if_ok : {A E : Type 0} (P Q : A → Type 0) → ((a : A) → P a → Q a) → (r : Result A E) → IfOk r P → IfOk r Q
if_ok P Q step (Ok a) p = step a p
if_ok P Q step (Err e) p = tt

pub if_err : {A E : Type 0} (P Q : E → Type 0) → ((e : E) → P e → Q e) → (r : Result A E) → IfErr r P → IfErr r Q
if_err P Q step (Ok a) p = tt
if_err P Q step (Err e) p = step e p
