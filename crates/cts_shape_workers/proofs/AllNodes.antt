-- What the stretch of all nodes tells of the shape.
use Rattle.std.proofs.Common.{◌≡◌, List, [], ◌∷◌, map, refl, ap₂, subst, arith}
use Rattle.std.specs.List.{AllZip}
use Rattle.cts_units.specs.declared.params.Sink.{Sink}
use Rattle.cts_units.specs.declared.params.Params.{Params}
use Rattle.cts_postorder.specs.BinaryTree.{BinaryTree}
use Rattle.cts_postorder.specs.PostOrder.{trees_of}
use Rattle.cts_postorder.specs.Pass.{IsLeastFailure}
use Rattle.cts_topo.specs.declared.shape.ShapeNode.{ShapeNode}
use Rattle.cts_topo.specs.Shape.{children}
use Rattle.cts_topo.proofs.Stretches.{whole_from_start}
use Rattle.cts_merge.specs.declared.side.Finished.{Finished}
use Rattle.cts_up.specs.declared.end.UpEnd.{UpEnd}
use Rattle.cts_up.specs.declared.end.UpEnd.TheVariants.{Beyond, NoMemory}
use Rattle.cts_up.specs.declared.site.Site.{Site}
use Rattle.cts_up.specs.Ends.{Ends}
use Rattle.cts_up.specs.Plan.{IsBeyondPair, IsFinished, IsLeastBeyond}
use Rattle.cts_up.specs.Sites.{site_of, AreSites}
use Rattle.cts_up.specs.Stretches.{IsSiteOf, AreSitesFrom, EndsFrom}

module _ (params : Params) (sinks : List Sink) where
  -- the nodes that the sites are those of
  planned : (ts : List (BinaryTree ShapeNode)) (sites : List Site) → AllZip (IsSiteOf params sinks) ts sites
      → (plan : List Finished) × AllZip (IsFinished params sinks) ts plan × (sites ≡ map site_of plan)
  planned [] [] all = ([], tt, refl)
  planned [] (s ∷ sites) all = absurd all
  planned (t ∷ ts) [] all = absurd all
  planned (t ∷ ts) (s ∷ sites) all =
      let rest = planned ts sites (all.1) in
      (all.0.0 ∷ rest.0, (all.0.1, rest.1), ap₂ (λ x xs. x ∷ xs) (all.0.2) (rest.2))

  pub sites_of_whole : (nodes : List ShapeNode) (sites : List Site) → AreSitesFrom params sinks 0 nodes sites
      → AreSites params sinks nodes sites
  sites_of_whole nodes sites are =
      planned (trees_of children nodes) sites
      (subst (λ kids. AllZip (IsSiteOf params sinks) (trees_of kids nodes) sites) whole_from_start are)

  pub ends_of_whole : (nodes : List ShapeNode) (end : UpEnd) → EndsFrom params sinks 0 nodes end → Ends params sinks nodes end
  ends_of_whole nodes (Beyond node) ends =
      let number : ends.0 ≡ node = omega (arith, ends.1) in
      subst (IsLeastBeyond params sinks nodes) number
      (subst (λ kids. IsLeastFailure kids nodes (IsBeyondPair params sinks) (ends.0)) whole_from_start (ends.2))
  ends_of_whole nodes NoMemory ends = tt
