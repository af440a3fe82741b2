-- What is known of the nodes of trees that were built before, and of the entries that were heard.
use Rattle.std.specs.Prelude.{◌≡◌, ◌+◌, ℕ, ◌<◌, List, map, filter_map, length, slice_get, Some, All}
use Rattle.cts_memo.specs.declared.key.Key.{Key}
use Rattle.cts_memo.specs.declared.entry.MemoEntry.{MemoEntry}
use Rattle.cts_up.specs.declared.site.Site.{Site}
use Rattle.cts_up.specs.Sites.{site_of}
use Rattle.cts_work.specs.declared.node.Built.{Built}
use Rattle.cts_work.specs.declared.known.Known.{Known}
use Rattle.cts_work.specs.Built.{IsNoted}

-- such a node stands at this place of a list
abbrev pub IsAtPlace : List Built → (Built → Type 0) → ℕ → Type 0
IsAtPlace nodes P p = (b : Built) × (slice_get nodes p ≡ Some b) × P b

-- the node at this place has this key, and a number
abbrev pub HasKeyAt : List Built → Key → ℕ → Type 0
HasKeyAt nodes key p = (b : Built) × (n : ℕ) × (slice_get nodes p ≡ Some b) × (b.key ≡ Some key) × (b.number ≡ Some n)

-- the nodes at some places of a list
abbrev pub picked : List Built → List ℕ → List Built
picked nodes places = filter_map (slice_get nodes) places

-- where nodes may stand, and their buffers
abbrev pub sites_of : List Built → List Site
sites_of nodes = map (λ node. site_of node.finished) nodes

-- at each of the places stands a node, and together they are such
abbrev pub StandAt : List Built → List ℕ → (List Built → Type 0) → Type 0
StandAt nodes places P = All (λ p. p < length nodes) places × P (picked nodes places)

-- the entries stand in the list from this number on
abbrev pub StandFrom : List MemoEntry → ℕ → List MemoEntry → Type 0
StandFrom seen first entries = (i : ℕ) (e : MemoEntry) → slice_get entries i ≡ Some e → slice_get seen (first + i) ≡ Some e

-- all nodes that are known are noted in the list
abbrev pub IsKnown : List MemoEntry → Known → Type 0
IsKnown seen known = All (IsNoted seen) known.nodes.items
