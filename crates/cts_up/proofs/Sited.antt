-- The sites of a stretch of nodes.
use Rattle.std.proofs.Common.{◌≡◌, ℕ, List, slice_get}
use Rattle.cts_units.specs.declared.params.Sink.{Sink}
use Rattle.cts_units.specs.declared.params.Params.{Params}
use Rattle.cts_postorder.specs.BinaryTree.{BinaryTree}
use Rattle.cts_postorder.specs.PostOrder.{trees_of}
use Rattle.cts_postorder.specs.Waiting.{StandsAt}
use Rattle.cts_topo.specs.declared.shape.ShapeNode.{ShapeNode}
use Rattle.cts_topo.specs.Shape.{children_from}
use Rattle.cts_merge.specs.declared.side.Finished.{Finished}
use Rattle.cts_up.specs.declared.site.Site.{Site}
use Rattle.cts_up.specs.Plan.{IsFinished, IsBeyondPair}
use Rattle.cts_up.specs.Sites.{site_of}
use Rattle.cts_up.specs.Stretches.{IsSiteOf}
use Rattle.cts_up.proofs.Ascending.{if_found}
use Rattle.cts_up.proofs.Unique.{finished_not_beyond}

module _ (params : Params) (sinks : List Sink) where
  -- the site of a finished node is one of its tree
  pub site_here : (first : ℕ) (nodes : List ShapeNode) (k : ℕ) (f : Finished)
      → StandsAt (children_from first) nodes (IsFinished params sinks) k f → (site : Site) → site ≡ site_of f
      → StandsAt (children_from first) nodes (IsSiteOf params sinks) k site
  site_here first nodes k f here site is =
      if_found (λ t. IsFinished params sinks t f) (λ t. IsSiteOf params sinks t site) (slice_get (trees_of (children_from first) nodes) k)
      (λ t finished. (f, finished, is)) here

  -- a tree that has a site is not beyond
  pub sited_not_beyond : (t : BinaryTree ShapeNode) (site : Site) → IsSiteOf params sinks t site → ¬ IsBeyondPair params sinks t
  sited_not_beyond t site is = finished_not_beyond params sinks t (is.0) (is.1)
