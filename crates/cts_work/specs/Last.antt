-- The tree that was built last, and what the next one has of it.
use Rattle.std.specs.Prelude.{◌≡◌, ℕ, ◌<◌, true, List, length, slice_get, Option, Some, IsSome, IfSome, All}
use Rattle.cts_units.specs.declared.params.Sink.{Sink}
use Rattle.cts_topo.specs.declared.shape.ShapeNode.{ShapeNode}
use Rattle.cts_topo.specs.declared.shape.ShapeNode.TheVariants.{Leaf, Pair}
use Rattle.cts_memo.specs.declared.key.Key.{Key}
use Rattle.cts_memo.specs.declared.entry.MemoEntry.{MemoEntry}
use Rattle.cts_memo.specs.Keys.{leaf_key, pair_key}
use Rattle.cts_work.specs.declared.node.Built.{Built}
use Rattle.cts_work.specs.declared.last.LastTree.{LastTree}
use Rattle.cts_work.specs.declared.past.Past.{Past}
use Rattle.cts_work.specs.declared.again.Placed.{Placed}
use Rattle.cts_work.specs.declared.work.Work.{Work}
use Rattle.cts_work.specs.Known.{IsAtPlace, IsKnown, picked, sites_of}

-- the key of a node of a shape over sinks, where these nodes were built: a leaf has that of its sink, a pair that of the
-- numbers of its two parts
abbrev pub IsKeyOf : List Sink → List Built → ShapeNode → Option Key → Type 0
IsKeyOf sinks bs (Leaf s) key = (sink : Sink) × (slice_get sinks s ≡ Some sink) × (key ≡ Some (leaf_key sink))
IsKeyOf sinks bs (Pair l r) key =
    (a : Built) × (b : Built) × (slice_get bs l ≡ Some a) × (slice_get bs r ≡ Some b) × (key ≡ pair_key a.number b.number)

-- the node at this place of a list has the key of the pair over those at two others
abbrev pub IsPairOver : List Built → ℕ → ℕ → ℕ → Type 0
IsPairOver nodes left right p =
    (a : Built) × (b : Built) × (pair : Built) × (slice_get nodes left ≡ Some a) × (slice_get nodes right ≡ Some b) × (slice_get nodes p ≡ Some pair)
    × (pair.key ≡ pair_key a.number b.number)

-- these nodes of a shape over sinks have their keys, and numbers
pub record AreKeyed (sinks : List Sink) (shape : List ShapeNode) (bs : List Built) : Type 0 where
  pub each : (k : ℕ) (node : ShapeNode) (b : Built) → slice_get shape k ≡ Some node → slice_get bs k ≡ Some b
      → IsSome b.number × IsKeyOf sinks bs node b.key

-- the last tree stands in a list of nodes
pub record StandsIn (nodes : List Built) (last : LastTree) : Type 0 where
  pub within : All (λ p. p < length nodes) last.places.items
  pub long : length last.places.items ≡ length last.shape.items
  pub keyed : AreKeyed last.sinks.items last.shape.items (picked nodes last.places.items)
  pub sites : last.sites.items ≡ sites_of (picked nodes last.places.items)

-- it does where it is whole
abbrev pub MayStandIn : List Built → LastTree → Type 0
MayStandIn nodes last = last.whole ≡ true → StandsIn nodes last

-- what a caller keeps of its trees holds for the entries that it has seen
pub record IsPast (seen : List MemoEntry) (past : Past) : Type 0 where
  pub known : IsKnown seen past.known
  pub last : MayStandIn past.known.nodes.items past.last

abbrev pub MayKnow : List MemoEntry → Option Past → Type 0
MayKnow seen past = IfSome past (IsPast seen)

-- the leaf of this number in the last tree is that of a sink
pub record IsSameLeaf (last : LastTree) (sink : Sink) (number : ℕ) : Type 0 where
  pub place : ℕ
  pub old : Sink
  pub leaf : slice_get last.shape.items number ≡ Some (Leaf place)
  pub there : slice_get last.sinks.items place ≡ Some old
  pub same : leaf_key old ≡ leaf_key sink

-- where a number stands at a sink's place, it is that of its leaf in the last tree
pub record AreSameLeaves (last : LastTree) (sinks : List Sink) (leaves : List (Option ℕ)) : Type 0 where
  pub long : length leaves ≡ length sinks
  pub each : (s number : ℕ) (sink : Sink) → slice_get sinks s ≡ Some sink → slice_get leaves s ≡ Some (Some number) → IsSameLeaf last sink number

-- The node of this number in the last tree is that of a shape over other sinks, by the numbers there of the leaves of sinks
-- and of the nodes before it.
abbrev pub IsSameNode : LastTree → List (Option ℕ) → List (Option ℕ) → ShapeNode → ℕ → Type 0
IsSameNode last leaves found (Leaf s) number = slice_get leaves s ≡ Some (Some number)
IsSameNode last leaves found (Pair l r) number =
    (a : ℕ) × (b : ℕ) × (slice_get found l ≡ Some (Some a)) × (slice_get found r ≡ Some (Some b))
    × (slice_get last.shape.items number ≡ Some (Pair a b))

-- such a node was taken over from the last tree
pub record IsAgain (last : LastTree) (leaves found : List (Option ℕ)) (node : ShapeNode) (placed : Placed) : Type 0 where
  pub number : ℕ
  pub again : placed.again ≡ Some number
  pub place : slice_get last.places.items number ≡ Some placed.place
  pub same : IsSameNode last leaves found node number
  pub whole : last.whole ≡ true

-- Where a node was taken over from the last tree, it stands there at its number, and has a number in the memo.
abbrev pub IsTakenOver : LastTree → List Built → Placed → Type 0
IsTakenOver last nodes placed = IfSome placed.again (λ number.
    (slice_get last.places.items number ≡ Some placed.place) × IsAtPlace nodes (λ node. IsSome node.number) placed.place × StandsIn nodes last)

-- the key of the node of a number of a work, where the nodes before it were built
abbrev pub IsKeyAt : Work → List Built → ℕ → Built → Type 0
IsKeyAt work bs k b = (node : ShapeNode) → slice_get work.nodes.now k ≡ Some node → IsKeyOf work.sinks.now bs node b.key

-- where a number stands, the node has the place that the last tree has at this number
pub record AreFound (places tree : List ℕ) (found : List (Option ℕ)) : Type 0 where
  pub long : length found ≡ length tree
  pub each : (i number : ℕ) → slice_get found i ≡ Some (Some number) → (p : ℕ) × (slice_get places number ≡ Some p) × (slice_get tree i ≡ Some p)
