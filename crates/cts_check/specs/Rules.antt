-- What is asked of a report, rule by rule, and the first rule that it breaks.
use Rattle.std.specs.Prelude.{◌≡◌, ℕ, ◌*◌, ◌<◌, ◌≤◌, List, take, slice_get, All, Contains, Option, Some, None, MatchOption}
use Rattle.cts_geom.specs.Points.{point_of}
use Rattle.cts_units.specs.declared.params.Sink.{Sink}
use Rattle.cts_postorder.specs.BinaryTree.{label}
use Rattle.cts_postorder.specs.PostOrder.{trees_of}
use Rattle.cts_postorder.specs.Occurrence.{Occurrence, occurrences_of}
use Rattle.cts_tree.specs.declared.nodes.TreeNode.{TreeNode}
use Rattle.cts_tree.specs.Nodes.{tree_children, leaf_id}
use Rattle.cts_tree.specs.Path.{points_along, path_length}
use Rattle.cts_instance.specs.declared.parts.Parts.{Parts}
use Rattle.cts_elmore.specs.declared.figures.Figures.{Figures}
use Rattle.cts_elmore.specs.Figures.{AreFigures}
use Rattle.cts_elmore.specs.Limits.{IsOver}
use Rattle.cts_elmore.specs.Sound.{IsLegalRoute, IsSinkAt, HasOpenBuffer, leaf_ids, upper_end}
use Rattle.cts_report.specs.Printed.{Printed}
use Rattle.cts_report.specs.Report.{printed_nodes, printed_totals}
use Rattle.cts_check.specs.declared.verdict.Rule.{Rule}
use Rattle.cts_check.specs.declared.verdict.Rule.TheVariants.{Sinks, Route, Short, BufferBlocked, Limit, Figure}
use Rattle.cts_check.specs.Told.{told_nodes}

-- the place of a rule in the order in which they are tried
abbrev pub rank : Rule → ℕ
rank Sinks = 0
rank Route = 1
rank Short = 2
rank BufferBlocked = 3
rank Limit = 4
rank Figure = 5

-- the first number at which a property fails, or none
abbrev pub IsFirstFailing : (ℕ → Type 0) → Option ℕ → Type 0
IsFirstFailing Holds None = (k : ℕ) → Holds k
IsFirstFailing Holds (Some k) = (¬ Holds k) × ((j : ℕ) → j < k → Holds j)

-- What holds of an element by its number, and nothing is said of numbers that name none.
abbrev pub HoldsIfThere : {A : Type 0} → (A → Type 0) → List A → ℕ → Type 0
HoldsIfThere P items k = MatchOption (slice_get items k) (Unit {0}) P

-- a leaf has the id of a sink and stands at its place, and no leaf before it has this id
pub record IsNewSink (sinks : List Sink) (before : List TreeNode) (node : TreeNode) (id : ℕ) : Type 0 where
  pub sink_at : IsSinkAt sinks node id
  pub new : ¬ Contains (leaf_ids before) id

-- what is asked of a node where these come before it
abbrev pub MeetsSink : List Sink → List TreeNode → TreeNode → Type 0
MeetsSink sinks before node = MatchOption (leaf_id node.kind) (Unit {0}) (IsNewSink sinks before node)

module _ (i : Parts) (nodes : List TreeNode) where
  -- each sink has a leaf
  abbrev pub HasEachSink : Type 0
  HasEachSink = All (λ sink. Contains (leaf_ids nodes) sink.id) i.sinks

  -- at a leaf: it is that of a sink, and the first; past the last node: no sink is left
  abbrev pub MeetsSinks : ℕ → Type 0
  MeetsSinks k = MatchOption (slice_get nodes k) HasEachSink (MeetsSink i.sinks (take k nodes))

  -- at a node as it stands in the tree: its route is legal
  abbrev pub HasLegalRoute : Occurrence TreeNode → Type 0
  HasLegalRoute o =
      IsLegalRoute i.blocks i.die (upper_end i o.above) (point_of (label o.here).place) (label o.here).route

  -- its wire, in nm, is no shorter than the route, in half nm
  abbrev pub HasLongWire : Occurrence TreeNode → Type 0
  HasLongWire o =
      path_length (points_along (upper_end i o.above) (label o.here).route.corners (point_of (label o.here).place)) ≤ 2 * (label o.here).wire

  abbrev pub MeetsRoute : ℕ → Type 0
  MeetsRoute k = HoldsIfThere HasLegalRoute (occurrences_of tree_children nodes) k

  abbrev pub MeetsShort : ℕ → Type 0
  MeetsShort k = HoldsIfThere HasLongWire (occurrences_of tree_children nodes) k

  abbrev pub MeetsBufferBlocked : ℕ → Type 0
  MeetsBufferBlocked k = HoldsIfThere (HasOpenBuffer i.blocks) nodes k

  abbrev pub MeetsLimit : ℕ → Type 0
  MeetsLimit k = HoldsIfThere (λ t. ¬ IsOver i nodes t) (trees_of tree_children nodes) k

-- What a report prints of a node are its figures; past the last node: so are the other figures.
abbrev pub MeetsFigure : Parts → List TreeNode → Printed → ℕ → Type 0
MeetsFigure i nodes printed k =
    (figures : Figures) → AreFigures i nodes figures
    → MatchOption (slice_get printed.nodes k) (printed.totals ≡ printed_totals i.version figures)
    (λ node. slice_get (printed_nodes i.version nodes figures.nodes) k ≡ Some node)

-- a report meets a rule at a number
abbrev pub Meets : Parts → Printed → Rule → ℕ → Type 0
Meets i printed Sinks = MeetsSinks i (told_nodes i.sinks printed.nodes)
Meets i printed Route = MeetsRoute i (told_nodes i.sinks printed.nodes)
Meets i printed Short = MeetsShort i (told_nodes i.sinks printed.nodes)
Meets i printed BufferBlocked = MeetsBufferBlocked i (told_nodes i.sinks printed.nodes)
Meets i printed Limit = MeetsLimit i (told_nodes i.sinks printed.nodes)
Meets i printed Figure = MeetsFigure i (told_nodes i.sinks printed.nodes) printed

-- The first rule that is broken, and the least number at which it is.
pub record IsFirstBroken (i : Parts) (printed : Printed) (rule : Rule) (node : ℕ) : Type 0 where
  pub broken : ¬ Meets i printed rule node
  pub least : (k : ℕ) → k < node → Meets i printed rule k
  pub earlier : (r : Rule) → rank r < rank rule → (k : ℕ) → Meets i printed r k
