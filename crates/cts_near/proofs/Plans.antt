-- The tree over all sinks has a plan.
use Rattle.std.proofs.Common.{◌≡◌, ℕ, zero, suc, ◌+◌, ◌-◌, List, [], ◌∷◌, ◌++◌, length, slice_get, Option, Some, inl, inr, refl, sym, ap, subst, ◌∙◌, arith}
use Rattle.std.specs.Option.{MatchOption}
use Rattle.std.specs.List.{AllByRecursion, AllZip, Contains}
use Rattle.cts_units.specs.declared.params.Sink.{Sink}
use Rattle.cts_units.specs.declared.params.Params.{Params}
use Rattle.cts_postorder.specs.BinaryTree.{BinaryTree, tip, fork, size, subtrees}
use Rattle.cts_postorder.specs.PostOrder.{trees_of}
use Rattle.cts_postorder.proofs.Spelling.{trees_of-labels}
use Rattle.cts_postorder.proofs.Zips.{all_zip-append}
use Rattle.cts_topo.specs.declared.shape.ShapeNode.{ShapeNode}
use Rattle.cts_topo.specs.Shape.{children}
use Rattle.cts_merge.specs.declared.side.Side.{Side}
use Rattle.cts_merge.specs.declared.side.Finished.{Finished}
use Rattle.cts_merge.specs.Merge.{IsLeaf, IsMerged}
use Rattle.cts_up.specs.Plan.{IsFinished}
use Rattle.cts_near.specs.Parts.{Joining, single, pair, Part, AreSinkParts, joined}
use Rattle.cts_near.specs.Near.{after_join, without, Outcome, whole, ComesTo, IsNear}
use Rattle.cts_near.specs.NearShape.{numbered}
use Rattle.cts_near.specs.Forest.{IsMade}
use Rattle.cts_near.specs.Laws.{NearShapesHavePlans}
use Rattle.cts_near.proofs.Members.{all_contained, all-filter}
use Rattle.cts_near.proofs.Covers.{IsNumbered-numbered}

-- what a tree is made of does not depend on the numbers of its nodes
pub renumbered : (params : Params) (sinks : List Sink) (m n : ℕ) (t : Joining) (f : Finished)
    → IsFinished params sinks (numbered m t) f → IsFinished params sinks (numbered n t) f
unfolding numbered IsFinished
renumbered params sinks m n (single sink) f is = is
renumbered params sinks m n (pair l r) f is = (
  is.0,
  is.1,
  renumbered params sinks m n l is.0 is.2,
  renumbered params sinks (m + size (numbered m l)) (n + size (numbered n l)) r is.1 is.3,
  is.4,
)

module _ (params : Params) (sinks : List Sink) where
  pub joined_made : (a b : Part) (f : Finished) → IsMade params sinks a → IsMade params sinks b
      → IsMerged params a.side b.side f → IsMade params sinks (joined a b f.side)
  unfolding numbered IsFinished
  joined_made a b f p q merged =
      let sides : IsMerged params p.finished.side q.finished.side f =
      subst (λ (s : Side). IsMerged params s q.finished.side f) p.side
      (subst (λ (s : Side). IsMerged params a.side s f) q.side merged) in
      record {
        finished = f;
        made = (
          p.finished,
          q.finished,
          p.made,
          renumbered params sinks 0 (0 + size (numbered 0 a.tree)) b.tree q.finished q.made,
          sides,
        );
        side = refl;
      }

  pub after_made : (ps : List Part) (a b : Part) (f : Finished) → AllByRecursion (IsMade params sinks) ps → Contains ps a
      → Contains ps b → IsMerged params a.side b.side f → AllByRecursion (IsMade params sinks) (after_join ps a b f)
  after_made ps a b f made first second merged = (
    joined_made a b f (all_contained (IsMade params sinks) ps a made first) (all_contained (IsMade params sinks) ps b made second) merged,
    all-filter (IsMade params sinks) _ (without a.name ps) (all-filter (IsMade params sinks) _ ps made),
  )

  pub comes_made : (todo step : ℕ) (ps : List Part) (o : Outcome) (tree : Joining) → AllByRecursion (IsMade params sinks) ps
      → ComesTo params todo step ps o → o ≡ whole tree → (f : Finished) × IsFinished params sinks (numbered 0 tree) f
  unfolding ComesTo
  comes_made zero step ps o tree made (last, are, is) e =
      let trees : last.tree ≡ tree = cc in
      let one : IsMade params sinks last = (subst (λ (qs : List Part). AllByRecursion (IsMade params sinks) qs) are made).0 in
      (one.finished, subst (λ (t : Joining). IsFinished params sinks (numbered 0 t) one.finished) trees one.made)
  comes_made (suc todo) step ps o tree made (a, b, closest, inl (over, is)) e = absurd (cc)
  comes_made (suc todo) step ps o tree made (a, b, closest, inr (f, merged, rest)) e =
      comes_made todo (step + 1) (after_join ps a b f) o tree
      (after_made ps a b f made closest.first closest.second merged) rest e

  -- the sinks' own parts
  pub sinks_made : (place : ℕ) (rest : List Sink) (ps : List Part) → AreSinkParts place rest ps
      → ((k : ℕ) → slice_get sinks (place + k) ≡ slice_get rest k) → AllByRecursion (IsMade params sinks) ps
  unfolding numbered IsFinished
  sinks_made place [] [] are at = tt
  sinks_made place [] (p ∷ ps) are at = absurd are
  sinks_made place (s ∷ rest) [] are at = absurd are
  sinks_made place (s ∷ rest) (p ∷ ps) (here, more) at =
      let zeroth : place + 0 ≡ place = omega arith in
      let found : slice_get sinks place ≡ Some s = subst (λ k. slice_get sinks k ≡ Some s) zeroth (at 0) in
      let leaf : IsFinished params sinks (tip (Rattle.cts_topo.specs.declared.shape.ShapeNode.TheVariants.Leaf place)) here.leaf =
      subst (λ (o : Option Sink). MatchOption o ⊥ (λ sink. IsLeaf sink here.leaf)) (sym found) here.is_leaf in (
        record {
          finished = here.leaf;
          made = subst (λ (t : Joining). IsFinished params sinks (numbered 0 t) here.leaf) (sym here.tree) leaf;
          side = here.side;
        },
        sinks_made (place + 1) rest ps more
            (λ k. let next : place + 1 + k ≡ place + suc k = omega arith in ap (slice_get sinks) next ∙ at (suc k)),
      )

  pub near_finished : (tree : Joining) → IsNear params sinks (whole tree)
      → (f : Finished) × IsFinished params sinks (numbered 0 tree) f
  near_finished tree near =
      comes_made (length sinks - 1) 1 near.parts (whole tree) tree
      (sinks_made 0 sinks near.parts near.over_sinks (λ k. let none : 0 + k ≡ k = omega arith in ap (slice_get sinks) none))
      near.comes_to refl

  -- a tree that is finished has a plan
  finished_plan : (t : BinaryTree ShapeNode) (f : Finished) → IsFinished params sinks t f
      → (plan : List Finished) × AllZip (IsFinished params sinks) (subtrees t) plan
  unfolding IsFinished subtrees
  finished_plan (tip n) f is = (f ∷ [], (is, tt))
  finished_plan (fork l r n) f is =
      let left : (plan : List Finished) × AllZip (IsFinished params sinks) (subtrees l) plan = finished_plan l is.0 is.2 in
      let right : (plan : List Finished) × AllZip (IsFinished params sinks) (subtrees r) plan = finished_plan r is.1 is.3 in
      let here : AllZip (IsFinished params sinks) (fork l r n ∷ []) (f ∷ []) = (is, tt) in (
        left.0 ++ right.0 ++ f ∷ [],
        all_zip-append (IsFinished params sinks) (subtrees l ++ subtrees r) (fork l r n ∷ []) (left.0 ++ right.0) (f ∷ [])
            (all_zip-append (IsFinished params sinks) (subtrees l) (subtrees r) left.0 right.0 left.1 right.1) here,
      )

pub have_plans : NearShapesHavePlans
have_plans params sinks nodes shape =
    let t : BinaryTree ShapeNode = numbered 0 shape.tree in
    let whole_tree : (f : Finished) × IsFinished params sinks t f = near_finished params sinks shape.tree shape.near in
    let plan : (plan : List Finished) × AllZip (IsFinished params sinks) (subtrees t) plan =
    finished_plan params sinks t whole_tree.0 whole_tree.1 in
    let trees : trees_of children nodes ≡ subtrees t =
    ap (trees_of children) shape.spelled ∙ trees_of-labels children t (IsNumbered-numbered 0 shape.tree) in
    (plan.0, subst (λ ts. AllZip (IsFinished params sinks) ts plan.0) (sym trees) plan.1)
