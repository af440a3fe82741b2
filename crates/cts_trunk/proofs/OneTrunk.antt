-- A tree has one trunk with repeaters of one buffer at one step, or one end.
use Rattle.std.proofs.Common.{◌≡◌, ℕ, ◌≤◌, Bool, List, length, Some, refl, sym, ap, subst, ◌∙◌, arith}
use Rattle.std.specs.List.{range_with_len}
use Rattle.std.proofs.lemmas.Int.{ints}
use Rattle.std.proofs.lemmas.Option.{slice_get_within}
use Rattle.cts_geom.specs.declared.points.Spot.{Spot}
use Rattle.cts_geom.specs.declared.points.Half.{Half}
use Rattle.cts_geom.specs.Points.{point_of}
use Rattle.cts_geom.proofs.PointLemmas.{spot_same}
use Rattle.cts_units.specs.declared.params.Buffer.{Buffer}
use Rattle.cts_postorder.specs.BinaryTree.{BinaryTree, label}
use Rattle.cts_postorder.proofs.Zips.{all_zip-one}
use Rattle.cts_tree.specs.declared.nodes.TreeNode.{TreeNode}
use Rattle.cts_instance.specs.declared.parts.Parts.{Parts}
use Rattle.cts_elmore.proofs.Unique.{answer_one}
use Rattle.cts_trunk.specs.declared.trunk.Repeater.{Repeater}
use Rattle.cts_trunk.specs.declared.trunk.Trunk.{Trunk}
use Rattle.cts_trunk.specs.declared.trunk.TrunkEnd.TheVariants.{Buffer as NoBuffer, Many, Beyond, NoMemory}
use Rattle.cts_trunk.specs.Laid.{IsBeyondLimit, IsRepeater, IsTrunkAt, Named}
use Rattle.cts_trunk.specs.Laws.{EndIsOne, LaidHasNoEnd, TrunkIsOne}
use Rattle.cts_trunk.specs.Places.{stands}

-- a spot is told by its point
spot_by : (p q : Spot) → point_of p ≡ point_of q → p ≡ q
spot_by p q same =
    let x = ap (λ (h : Half). h.x) same in
    let y = ap (λ (h : Half). h.y) same in
    spot_same p q (omega (arith, ints, x, y)) (omega (arith, ints, x, y))

module _ (i : Parts) (root : BinaryTree TreeNode) (buffer : Buffer) (cuts : List ℕ) where
  repeater_one : (m : ℕ) (p q : Repeater) → IsRepeater i root buffer cuts m p → IsRepeater i root buffer cuts m q → p ≡ q
  repeater_one m p q a b =
      let long : p.length ≡ q.length = a.length_is ∙ sym b.length_is in
      let at : point_of p.place ≡ point_of q.place = rw long at a.place ∙ sym b.place in
      ap (λ (x : Spot). record p { place = x }) (spot_by p.place q.place at)
      ∙ ap (λ (x : ℕ). record p { place = q.place; length = x }) long
      ∙ ap (λ (x : ℕ). record q { load = x; delay = p.delay; stage = p.stage }) (a.load ∙ sym b.load)
      ∙ ap (λ (x : ℕ). record q { delay = x; stage = p.stage }) (a.delay ∙ sym b.delay)
      ∙ ap (λ (x : ℕ). record q { stage = x }) (a.stage ∙ sym b.stage)

  trunk_at_one : (t u : Trunk) → IsTrunkAt i root buffer cuts t → IsTrunkAt i root buffer cuts u → t ≡ u
  trunk_at_one t u a b =
      let repeaters : t.repeaters ≡ u.repeaters =
      all_zip-one (IsRepeater i root buffer cuts) repeater_one (range_with_len 0 (length cuts)) t.repeaters u.repeaters a.repeaters b.repeaters in
      ap (λ (x : List Repeater). record t { repeaters = x }) repeaters
      ∙ ap (λ (x : ℕ). record t { repeaters = u.repeaters; source_load = x }) (a.source_load ∙ sym b.source_load)
      ∙ ap (λ (x : ℕ). record t { repeaters = u.repeaters; source_load = u.source_load; root_delay = x }) (a.root_delay_is ∙ sym b.root_delay_is)
      ∙ ap (λ (x : ℕ). record u { root_stage = x; greatest = t.greatest; least = t.least; skew = t.skew; load_met = t.load_met; slew_met = t.slew_met })
      (a.root_stage_is ∙ sym b.root_stage_is)
      ∙ ap (λ (x : ℕ). record u { greatest = x; least = t.least; skew = t.skew; load_met = t.load_met; slew_met = t.slew_met }) (a.greatest ∙ sym b.greatest)
      ∙ ap (λ (x : ℕ). record u { least = x; skew = t.skew; load_met = t.load_met; slew_met = t.slew_met }) (a.least ∙ sym b.least)
      ∙ ap (λ (x : ℕ). record u { skew = x; load_met = t.load_met; slew_met = t.slew_met }) (a.skew_is ∙ sym b.skew_is)
      ∙ ap (λ (x : Bool). record u { load_met = x; slew_met = t.slew_met }) (answer_one t.load_met u.load_met a.load_met b.load_met)
      ∙ ap (λ (x : Bool). record u { slew_met = x }) (answer_one t.slew_met u.slew_met a.slew_met b.slew_met)

module _ (i : Parts) (nodes : List TreeNode) (step index : ℕ) where
  -- the root and the buffer have one name each
  by_name : (P : BinaryTree TreeNode → Buffer → Type 0) (a b : Named i nodes step index) → P a.root a.buffer → P b.root b.buffer
  by_name P a b p =
      let roots : Some a.root ≡ Some b.root = sym a.root_is ∙ b.root_is in
      let buffers : Some a.buffer ≡ Some b.buffer = sym a.buffer_is ∙ b.buffer_is in
      subst (P b.root) (let same : a.buffer ≡ b.buffer = cc in same)
      (subst (λ t. P t a.buffer) (let same : a.root ≡ b.root = cc in same) p)

  count_one : (a b : Named i nodes step index) → length (stands i (label a.root) step) ≡ length (stands i (label b.root) step)
  count_one a b = by_name (λ t _. length (stands i (label a.root) step) ≡ length (stands i (label t) step)) a b refl

  named_within : Named i nodes step index → length i.params.library ≤ index → ⊥
  named_within n past = omega (arith, past, slice_get_within i.params.library index n.buffer n.buffer_is)

pub trunk_is_one_lem : TrunkIsOne
trunk_is_one_lem i nodes step index trunk other a b =
    trunk_at_one i b.named.root b.named.buffer (stands i (label b.named.root) step) trunk other
    (by_name i nodes step index (λ t buffer. IsTrunkAt i t buffer (stands i (label t) step) trunk) a.named b.named a.trunk_is) b.trunk_is

pub laid_has_no_end_lem : LaidHasNoEnd
laid_has_no_end_lem i nodes step index trunk NoBuffer a e = absurd (named_within i nodes step index a.named e)
laid_has_no_end_lem i nodes step index trunk Many a e =
    absurd (omega (arith, a.few, e.many, count_one i nodes step index a.named e.named))
laid_has_no_end_lem i nodes step index trunk Beyond a e =
    absurd (a.within (by_name i nodes step index (λ t buffer. IsBeyondLimit i t buffer (stands i (label t) step)) e.named a.named e.beyond))
laid_has_no_end_lem i nodes step index trunk NoMemory a e = refl

pub end_is_one_lem : EndIsOne
end_is_one_lem i nodes step index NoBuffer NoBuffer a b x y = refl
end_is_one_lem i nodes step index Many Many a b x y = refl
end_is_one_lem i nodes step index Beyond Beyond a b x y = refl
end_is_one_lem i nodes step index NoBuffer Many a b x y = absurd (named_within i nodes step index b.named a)
end_is_one_lem i nodes step index NoBuffer Beyond a b x y = absurd (named_within i nodes step index b.named a)
end_is_one_lem i nodes step index Many NoBuffer a b x y = absurd (named_within i nodes step index a.named b)
end_is_one_lem i nodes step index Beyond NoBuffer a b x y = absurd (named_within i nodes step index a.named b)
end_is_one_lem i nodes step index Many Beyond a b x y =
    absurd (omega (arith, b.few, a.many, count_one i nodes step index a.named b.named))
end_is_one_lem i nodes step index Beyond Many a b x y =
    absurd (omega (arith, a.few, b.many, count_one i nodes step index a.named b.named))
end_is_one_lem i nodes step index NoMemory other a b x y = absurd (x refl)
end_is_one_lem i nodes step index end NoMemory a b x y = absurd (y refl)
