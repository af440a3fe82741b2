-- Every tree has figures.
use Rattle.std.proofs.Common.{◌≡◌, ◌↔◌, ℕ, ◌≤◌, ◌*◌, ◌⊎◌, inl, inr, Bool, true, false, ◌||◌, List, [], ◌∷◌, map, Some, IsTrue, refl, arith}
use Rattle.std.specs.Prelude.{sum_by}
use Rattle.std.specs.List.{All}
use Rattle.std.proofs.lemmas.Bool.{cases_lt}
use Rattle.std.proofs.lemmas.List.Elements.{All-cons, All-head, All-nil, All-tail}
use Rattle.cts_units.specs.Delay.{slew_of}
use Rattle.cts_postorder.specs.BinaryTree.{BinaryTree, is_tip, labels, subtrees}
use Rattle.cts_postorder.specs.PostOrder.{root_of}
use Rattle.cts_postorder.specs.Occurrence.{Occurrence, occurrences}
use Rattle.cts_postorder.proofs.Zips.{all_zip-of}
use Rattle.cts_tree.specs.declared.nodes.TreeNode.{TreeNode}
use Rattle.cts_tree.specs.Nodes.{tree_children}
use Rattle.cts_instance.specs.declared.parts.Parts.{Parts}
use Rattle.cts_elmore.specs.declared.figures.NodeFigure.{NodeFigure}
use Rattle.cts_elmore.specs.declared.figures.Figures.{Figures}
use Rattle.cts_elmore.specs.Loads.{is_buffered, load_below, offset_at, source_load}
use Rattle.cts_elmore.specs.Delays.{delay_at, stage_at}
use Rattle.cts_elmore.specs.Skew.{greatest_of, least_of, leaf_delays, leaf_arrivals, residue, skew, bound}
use Rattle.cts_elmore.specs.Limits.{MeetsLoadLimit, MeetsSlewLimit}
use Rattle.cts_elmore.specs.Figures.{IsNodeFigure, AreFigures, AreFiguresOf}
use Rattle.cts_elmore.proofs.HandedDown.{LoadMet, SlewMet}

-- ---- what is told
at_most : (a b : ℕ) → (a ≤ b) ⊎ ¬ (a ≤ b)
at_most a b = elim (cases_lt b a) [
  | inl above ↦ inr (λ le. absurd (omega (arith, above, le)))
  | inr le ↦ inl le
]

when_decided : {P : Type 0} (b : Bool) → P ⊎ ¬ P → (IsTrue b → P) ⊎ ¬ (IsTrue b → P)
when_decided true (inl holds) = inl (λ yes. holds)
when_decided true (inr fails) = inr (λ follows. fails (follows refl))
when_decided false either = inl (λ yes. let never : IsTrue false = yes in cc)

all_decided : {A : Type 0} (P : A → Type 0) → ((x : A) → P x ⊎ ¬ P x) → (xs : List A) → All P xs ⊎ ¬ All P xs
all_decided P decided [] = inl (All-nil P)
all_decided P decided (x ∷ xs) = elim (decided x) [
  | inr fails ↦ inr (λ all. fails (All-head P x xs all))
  | inl holds ↦ elim (all_decided P decided xs) [
    | inr fails ↦ inr (λ all. fails (All-tail P x xs all))
    | inl others ↦ inl (All-cons P x xs holds others)
  ]
]

-- the answer to a question that is decided
answer : {P : Type 0} → P ⊎ ¬ P → (b : Bool) × (IsTrue b ↔ P)
answer (inl holds) = (true, ((λ yes. holds), (λ p. refl)))
answer (inr fails) = (false, ((λ yes. let never : IsTrue false = yes in cc), (λ p. absurd (fails p))))

-- ---- the figures
module _ (i : Parts) (root : BinaryTree TreeNode) where
  load_decided : MeetsLoadLimit i root ⊎ ¬ MeetsLoadLimit i root
  load_decided = elim (at_most (source_load i root) i.load_limit) [
    | inr over ↦ inr (λ met. over met.source)
    | inl source ↦ elim (all_decided (LoadMet i root) (λ t. when_decided (is_buffered i t) (at_most (load_below i t) i.load_limit))
        (subtrees root)) [
          | inr over ↦ inr (λ met. over met.buffers)
          | inl buffers ↦ inl (record { source = source; buffers = buffers })
        ]
  ]

  slew_decided : MeetsSlewLimit i root ⊎ ¬ MeetsSlewLimit i root
  slew_decided =
      all_decided (SlewMet i root)
      (λ o. when_decided (is_tip o.here || is_buffered i o.here) (at_most (slew_of (stage_at i root o)) (10 * i.slew_limit)))
      (occurrences [] root)

  figure_of : Occurrence TreeNode → NodeFigure
  figure_of o = record {
    below = load_below i o.here;
    offset = offset_at i o.here;
    residue = residue i o.here;
    delay = delay_at i root o;
    stage = stage_at i root o;
  }

  figure_is : (o : Occurrence TreeNode) → IsNodeFigure i root o (figure_of o)
  unfolding figure_of
  figure_is o = record { below = refl; residue_is = refl; delay = refl; stage = refl; offset = refl }

  figures_of_root : (figures : Figures) × AreFiguresOf i root figures
  figures_of_root =
      let load = answer load_decided in
      let slew = answer slew_decided in (
        record {
          nodes = map figure_of (occurrences [] root);
          source_load = source_load i root;
          wire_total = sum_by (λ (node : TreeNode). node.wire) (labels root);
          greatest = greatest_of (leaf_delays i root);
          least = least_of (leaf_delays i root);
          arrival_greatest = greatest_of (leaf_arrivals i root);
          arrival_least = least_of (leaf_arrivals i root);
          skew = skew i root;
          bound = bound i root;
          load_met = load.0;
          slew_met = slew.0;
        },
        record {
          each_node = all_zip-of (IsNodeFigure i root) figure_of figure_is (occurrences [] root);
          source_load_is = refl;
          wire_total = refl;
          greatest = refl;
          least = refl;
          arrival_greatest = refl;
          arrival_least = refl;
          skew_is = refl;
          bound_is = refl;
          load_met = load.1;
          slew_met = slew.1;
        },
      )

pub figures_exist : (i : Parts) (nodes : List TreeNode) (root : BinaryTree TreeNode) → root_of tree_children nodes ≡ Some root
    → (figures : Figures) × AreFigures i nodes figures
figures_exist i nodes root root_is =
    let figures = figures_of_root i root in
    (figures.0, record { root = root; root_is = root_is; figures_of = figures.1 })
