-- How far the joining has come, and what it comes to.
use Rattle.std.proofs.Common.{◌≡◌, ℕ, suc, ◌+◌, ◌-◌, ◌^◌, ◌<◌, ◌≤◌, inl, inr, List, [], ◌∷◌, length, get_or, Result, Ok, Err, IfErr, refl, sym, subst, arith}
use Rattle.std.specs.Result.{IsErrAnd}
use Rattle.cts_units.specs.declared.params.Sink.{Sink}
use Rattle.cts_units.specs.declared.params.Params.{Params}
use Rattle.cts_units.specs.Ids.{HasDistinctIds}
use Rattle.cts_postorder.specs.BinaryTree.{size}
use Rattle.cts_postorder.proofs.Sizes.{length-labels}
use Rattle.cts_topo.specs.declared.shape.ShapeNode.{ShapeNode}
use Rattle.cts_topo.proofs.Counts.{length-shape}
use Rattle.cts_topo.proofs.Shuffles.{turned_round}
use Rattle.cts_near.specs.declared.subtree.Subtree.{Subtree}
use Rattle.cts_near.specs.declared.end.NearEnd.{NearEnd}
use Rattle.cts_near.specs.declared.end.NearEnd.TheVariants.{Many, Beyond, NoMemory}
use Rattle.cts_near.specs.Parts.{Part}
use Rattle.cts_near.specs.Near.{Outcome, whole, beyond, ComesTo, IsNear}
use Rattle.cts_near.specs.NearShape.{numbered, nodes_of}
use Rattle.cts_near.specs.Ends.{Ends, StepEnds}
use Rattle.cts_near.specs.Forest.{tree_at, part_of, parts_of, IsForest, IsStep, IsStuck, IsBegun}
use Rattle.cts_near.proofs.One.{comes-Shuffled}
use Rattle.cts_near.proofs.Covers.{shape_over}

-- whatever the parts come to in the steps that are left, the sinks come to
abbrev pub Leads : Params → List Sink → ℕ → List Part → Type 0
Leads params sinks step parts =
    (o : Outcome) → ComesTo params (length sinks - step) step parts o → IsNear params sinks o

-- before this step
pub record IsOnTheWay (params : Params) (sinks : List Sink) (step : ℕ) (joins : List ShapeNode) (subtrees : List Subtree)
    (bounds : List ℕ) : Type 0 where
  pub forest : IsForest params sinks joins subtrees bounds
  pub count : length subtrees + step ≡ length sinks + 1
  pub leads : Leads params sinks step (parts_of joins subtrees)

module _ (params : Params) (sinks : List Sink) where
  pub begun_leads : (parts : List Part) → IsBegun sinks parts → Leads params sinks 1 parts
  begun_leads parts begun o comes = record {
    parts = begun.in_order;
    over_sinks = begun.over_sinks;
    comes_to = comes-Shuffled params (length sinks - 1) 1 parts begun.in_order o (turned_round begun.shuffled) comes;
  }

  pub step_leads : (step : ℕ) (parts parts' : List Part) → step < length sinks → Leads params sinks step parts
      → IsStep params parts parts' → Leads params sinks (step + 1) parts'
  unfolding ComesTo
  step_leads step parts parts' h leads is o comes =
      let todo : suc (length sinks - (step + 1)) ≡ length sinks - step = omega arith in
      leads o
      (subst (λ n. ComesTo params n step parts o) todo (
        is.a,
        is.b,
        is.closest,
        inr (
          is.pair,
          is.merged,
          comes-Shuffled params (length sinks - (step + 1)) (step + 1) parts' _ o (turned_round is.left) comes,
        ),
      ))

  pub stuck_ends : (step : ℕ) (parts : List Part) → step < length sinks → Leads params sinks step parts → IsStuck params parts
      → IsNear params sinks (beyond step)
  unfolding ComesTo
  stuck_ends step parts h leads stuck =
      let todo : suc (length sinks - (step + 1)) ≡ length sinks - step = omega arith in
      leads (beyond step)
      (subst (λ n. ComesTo params n step parts (beyond step)) todo
      (stuck.a, stuck.b, stuck.closest, inl (stuck.over, refl)))

  pub step_ends : (step : ℕ) (parts : List Part) (end : NearEnd) → step < length sinks → Leads params sinks step parts
      → StepEnds params parts step end → Ends params sinks end
  step_ends step parts Many h leads ends = absurd ends
  step_ends step parts (Beyond k) h leads ends =
      subst (λ n. IsNear params sinks (beyond n)) (sym (ends.0)) (stuck_ends step parts h leads (ends.1))
  step_ends step parts NoMemory h leads ends = tt

  -- at the end one part is left
  pub last_is_near : (step : ℕ) (joins : List ShapeNode) (subtrees : List Subtree) (e : Subtree) → length subtrees ≡ 1
      → length sinks ≤ step → Leads params sinks step (parts_of joins subtrees)
      → IsNear params sinks (whole (tree_at joins (get_or subtrees 0 e).node))
  unfolding ComesTo
  last_is_near step joins [] e one done leads = absurd (omega arith)
  last_is_near step joins (s ∷ t ∷ ss) e one done leads = absurd (omega arith)
  last_is_near step joins (s ∷ []) e one done leads =
      let none : 0 ≡ length sinks - step = omega arith in
      leads (whole (tree_at joins s.node))
      (subst (λ n. ComesTo params n step (part_of joins s ∷ []) (whole (tree_at joins s.node))) none
      (part_of joins s, refl, refl))

-- there is room for the nodes
pub near_fits : (params : Params) (sinks : List Sink) (joins : List ShapeNode) (k : ℕ)
    → HasDistinctIds (λ (s : Sink). s.id) sinks → IsNear params sinks (whole (tree_at joins k)) → length sinks ≤ 2 ^ 31
    → size (numbered 0 (tree_at joins k)) ≤ 2 ^ 32
near_fits params sinks joins k distinct near few =
    omega (
      arith,
      length-shape (length sinks) (nodes_of (tree_at joins k)) (shape_over params sinks (tree_at joins k) distinct near),
      length-labels (numbered 0 (tree_at joins k)),
    )

-- an error that is passed on
pub passed_on : {A E : Type 0} (r : Result A E) (P : E → Type 0) (end : E) → IsErrAnd r (λ e. e ≡ end) → P end → IfErr r P
passed_on (Ok x) P end is h = tt
passed_on (Err e) P end is h = subst P (sym is) h
