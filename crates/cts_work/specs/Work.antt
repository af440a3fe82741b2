-- What is known of the nodes of a work by their numbers.
use Rattle.std.specs.Prelude.{◌≡◌, ℕ, ◌+◌, ◌<◌, ◌≤◌, List, [], ◌∷◌, length, slice_index_or, take, drop}
use Rattle.std.specs.Borrow.{Bor}
use Rattle.cts_postorder.specs.BinaryTree.{size}
use Rattle.cts_postorder.specs.PostOrder.{trees_of}
use Rattle.cts_topo.specs.declared.shape.ShapeNode.{ShapeNode}
use Rattle.cts_topo.specs.Shape.{IsShapeOver, children}
use Rattle.cts_up.specs.declared.end.UpEnd.{UpEnd}
use Rattle.cts_up.specs.declared.end.UpEnd.TheVariants.{Beyond, NoMemory}
use Rattle.cts_up.specs.Plan.{IsBeyondPair, IsFinished}
use Rattle.cts_up.specs.Sinks.{AreSinksInRange}
use Rattle.cts_units.specs.declared.params.Sink.{Sink}
use Rattle.cts_units.specs.declared.params.Params.{Params}
use Rattle.cts_merge.specs.declared.side.Finished.{Finished}
use Rattle.cts_memo.specs.declared.memo.Memo.{Memo}
use Rattle.cts_memo.specs.declared.entry.MemoEntry.{MemoEntry}
use Rattle.cts_memo.specs.Numbers.{missing_in}
use Rattle.cts_memo.specs.Passes.{params_of}
use Rattle.cts_work.specs.declared.node.Built.{Built}
use Rattle.cts_work.specs.declared.work.Work.{Work}
use Rattle.cts_work.specs.Built.{IsBuilt, tree_at}

abbrev pub work_of : Bor Memo → Bor (List Sink) → Bor (List ShapeNode) → Work
work_of memo sinks nodes = record { memo = memo; sinks = sinks; nodes = nodes }

-- the nodes are those of a shape over the sinks, which are in range
pub record IsReady (work : Work) : Type 0 where
  pub sinks : AreSinksInRange work.sinks.now
  pub shape : IsShapeOver (length work.sinks.now) work.nodes.now

-- what the node of a number is made of
abbrev pub IsBuiltAt : Work → List MemoEntry → ℕ → Built → Type 0
IsBuiltAt work seen k b = IsBuilt (params_of work.memo.now) work.sinks.now seen (tree_at work.nodes.now k) b

-- and whether it is beyond the limits
abbrev pub IsBeyondAt : Work → ℕ → Type 0
IsBeyondAt work k = IsBeyondPair (params_of work.memo.now) work.sinks.now (tree_at work.nodes.now k)

-- a node may end the pass so: it is beyond, or memory ran out
abbrev pub EndsAt : Work → ℕ → UpEnd → Type 0
EndsAt work k (Beyond node) = (node ≡ k) × IsBeyondAt work k
EndsAt work k NoMemory = Unit {0}

-- what the upward pass makes of the node of a number
abbrev pub IsMadeAt : Work → ℕ → Finished → Type 0
IsMadeAt work k f = IsFinished (params_of work.memo.now) work.sinks.now (tree_at work.nodes.now k) f

-- one where the node is a pair without a number in the memo, else none
abbrev pub missing_at : Work → List MemoEntry → ℕ → ℕ
missing_at work seen k = missing_in seen work.sinks.now (tree_at work.nodes.now k ∷ [])

-- how many of the nodes from a number on are such pairs
abbrev pub missing_from : Work → List MemoEntry → ℕ → ℕ → ℕ
missing_from work seen first count = missing_in seen work.sinks.now (take count (drop first (trees_of children work.nodes.now)))

-- no node below this one, down to the leaves, has a number less than `first`
abbrev pub StartsFrom : List ShapeNode → ℕ → ℕ → Type 0
StartsFrom nodes first k = first + size (tree_at nodes k) ≤ k + 1

-- the nodes from `first` to `root` are all nodes of the tree at `root`
pub record IsPart (nodes : List ShapeNode) (first root : ℕ) : Type 0 where
  pub within : root < length nodes
  pub whole : first + size (tree_at nodes root) ≡ root + 1

-- what the nodes from a number on are made of
pub record AreBuilt (work : Work) (seen : List MemoEntry) (first : ℕ) (bs : List Built) : Type 0 where
  pub each : (i : ℕ) (d : Built) → i < length bs → IsBuiltAt work seen (first + i) (slice_index_or bs i d)

-- what the upward pass makes, with these parameters, of the nodes of a shape over sinks from a number on
pub record AreFinished (params : Params) (sinks : List Sink) (nodes : List ShapeNode) (first : ℕ) (fs : List Finished) : Type 0 where
  pub each : (i : ℕ) (d : Finished) → i < length fs → IsFinished params sinks (tree_at nodes (first + i)) (slice_index_or fs i d)

-- what it makes of those of a work
abbrev pub AreMade : Work → ℕ → List Finished → Type 0
AreMade work first fs = AreFinished (params_of work.memo.now) work.sinks.now work.nodes.now first fs

-- the least number from `first` on of a node that is beyond
pub record IsLeastFrom (work : Work) (first k : ℕ) : Type 0 where
  pub from : first ≤ k
  pub beyond : IsBeyondAt work k
  pub none_before : (j : ℕ) → first ≤ j → j < k → ¬ IsBeyondAt work j

-- a part may end so: at its least node that is beyond, or for want of memory
abbrev pub EndsIn : Work → ℕ → ℕ → UpEnd → Type 0
EndsIn work first root (Beyond node) = (node ≤ root) × IsLeastFrom work first node
EndsIn work first root NoMemory = Unit {0}
