-- What a pass upward makes of a stretch of a shape's nodes, of which the first one has the number `first` in the shape.
use Rattle.std.specs.Prelude.{◌≡◌, ℕ, ◌+◌, List, IfSome}
use Rattle.std.specs.List.{AllZip}
use Rattle.cts_units.specs.declared.params.Sink.{Sink}
use Rattle.cts_units.specs.declared.params.Params.{Params}
use Rattle.cts_postorder.specs.BinaryTree.{BinaryTree}
use Rattle.cts_postorder.specs.PostOrder.{trees_of, root_of}
use Rattle.cts_postorder.specs.Pass.{IsLeastFailure}
use Rattle.cts_topo.specs.declared.shape.ShapeNode.{ShapeNode}
use Rattle.cts_topo.specs.Shape.{children_from}
use Rattle.cts_merge.specs.declared.side.Side.{Side}
use Rattle.cts_merge.specs.declared.side.Finished.{Finished}
use Rattle.cts_up.specs.declared.site.Site.{Site}
use Rattle.cts_up.specs.declared.end.UpEnd.{UpEnd}
use Rattle.cts_up.specs.declared.end.UpEnd.TheVariants.{Beyond, NoMemory}
use Rattle.cts_up.specs.Plan.{IsFinished, IsBeyondPair}
use Rattle.cts_up.specs.Ascending.{IsSide}
use Rattle.cts_up.specs.Sites.{site_of}

-- where the root of a tree may stand, and its buffer
abbrev pub IsSiteOf : Params → List Sink → BinaryTree ShapeNode → Site → Type 0
IsSiteOf params sinks t site = (f : Finished) × IsFinished params sinks t f × (site ≡ site_of f)

-- the sites of a stretch, by number
abbrev pub AreSitesFrom : Params → List Sink → ℕ → List ShapeNode → List Site → Type 0
AreSitesFrom params sinks first nodes sites = AllZip (IsSiteOf params sinks) (trees_of (children_from first) nodes) sites

-- the side of its root
abbrev pub IsSideFrom : Params → List Sink → ℕ → List ShapeNode → Side → Type 0
IsSideFrom params sinks first nodes side =
    IfSome (root_of (children_from first) nodes) (λ t. IsSide params sinks t side)

-- a pass over a stretch may end so: at its least node that is beyond, told by its number in the shape, or for want of memory
abbrev pub EndsFrom : Params → List Sink → ℕ → List ShapeNode → UpEnd → Type 0
EndsFrom params sinks first nodes (Beyond node) =
    (k : ℕ) × (node ≡ first + k) × IsLeastFailure (children_from first) nodes (IsBeyondPair params sinks) k
EndsFrom params sinks first nodes NoMemory = Unit {0}
