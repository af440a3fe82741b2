-- What became of the pieces that workers drew.
use Rattle.std.specs.Prelude.{◌≡◌, ◌≢◌, ℕ, ◌+◌, ◌<◌, ◌≤◌, List, map, filter, nat_lt, length, slice_get, Option, Some, All, AllPairs, Contains, Result, Ok, IfOk, IfErr, Vec, ◌++◌, []}
use Rattle.std.specs.Global.{Global}
use Rattle.cts_topo.specs.declared.shape.ShapeNode.{ShapeNode}
use Rattle.cts_num.specs.declared.error.NoMemory.{NoMemory}
use Rattle.cts_deal.specs.declared.deal.Deal.{Deal}
use Rattle.cts_deal.specs.declared.deal.Hand.{Hand}
use Rattle.cts_deal.specs.Hands.{IsHandOf, drawn_by, share_of}
use Rattle.cts_work.specs.declared.pieces.Piece.{Piece}
use Rattle.cts_work.specs.declared.work.Work.{Work}
use Rattle.cts_work.specs.declared.workers.Done.{Done}
use Rattle.cts_work.specs.declared.workers.Shift.{Shift}
use Rattle.cts_work.specs.Work.{AreMade, EndsIn, IsPart, IsReady}

-- at most 256 pieces, each of which is a part of the shape
pub record ArePieces (nodes : List ShapeNode) (pieces : List Piece) : Type 0 where
  pub few : length pieces ≤ 256
  pub parts : All (λ p. IsPart nodes p.first p.root) pieces

-- The piece of this number was made, or ended so as it had to.
pub record IsDone (work : Work) (pieces : List Piece) (d : Done) : Type 0 where
  pub piece : Piece
  pub found : slice_get pieces d.number ≡ Some piece
  pub long : IfOk d.made (λ fs. piece.first + length fs.items ≡ piece.root + 1)
  pub made : IfOk d.made (λ fs. AreMade work piece.first fs.items)
  pub ends : IfErr d.made (EndsIn work piece.first piece.root)

-- The numbers are those below the count that were drawn, and one that isn't below the count was drawn too.
pub record Covers (count : ℕ) (drawn numbers : List ℕ) : Type 0 where
  pub are : numbers ≡ filter (λ n. nat_lt n count) drawn
  pub past : (n : ℕ) × Contains drawn n × (count ≤ n)

-- the numbers are those from 0 up to the count, in some order, each once
pub record AreOnce (count : ℕ) (numbers : List ℕ) : Type 0 where
  pub distinct : AllPairs (λ a b. a ≢ b) numbers
  pub below : All (λ n. n < count) numbers
  pub every : (n : ℕ) → n < count → Contains numbers n

-- the numbers of the pieces
abbrev pub numbers_of : List Done → List ℕ
numbers_of done = map (λ d. d.number) done

-- the list of one, and then that of the other
abbrev pub AreTogether : Result (Vec Done Global) NoMemory → Result (Vec Done Global) NoMemory → Vec Done Global → Type 0
AreTogether first second all =
    (a : Vec Done Global) × (b : Vec Done Global) × (first ≡ Ok a) × (second ≡ Ok b) × (all.items ≡ a.items ++ b.items)

-- So many workers can begin: they have a part of the share each, and drew nothing yet.
pub record IsTeam (work : Work) (pieces : List Piece) (deal : Deal) (workers : ℕ) (hand : Hand) : Type 0 where
  pub ready : IsReady work
  pub pieces_are : ArePieces work.nodes.now pieces
  pub own : IsHandOf deal hand
  pub none : drawn_by hand ≡ []
  pub some : 1 ≤ workers
  pub share : workers ≤ share_of hand

-- Workers are done: each piece that they drew was made, or ended so as it had to, unless memory ran out, and there was none
-- left to draw.
pub record IsShift (work : Work) (pieces : List Piece) (deal : Deal) (hand : Hand) (shift : Shift) : Type 0 where
  pub own : IsHandOf deal shift.hand
  pub share : share_of shift.hand ≡ share_of hand
  pub done : IfOk shift.done (λ d. All (IsDone work pieces) d.items)
  pub drawn : IfOk shift.done (λ d. Covers (length pieces) (drawn_by shift.hand) (numbers_of d.items))

-- the slot of this number has one of the pieces that are done, and it has this number
abbrev pub IsSlot : List Done → List (Option Done) → ℕ → Type 0
IsSlot done slots n = (d : Done) × (slice_get slots n ≡ Some (Some d)) × Contains done d × (d.number ≡ n)

-- each piece is done, and stands in the slot of its number
pub record HavePieces (work : Work) (pieces : List Piece) (slots : List (Option Done)) : Type 0 where
  pub long : length slots ≡ length pieces
  pub each : (n : ℕ) → n < length pieces → (d : Done) × (slice_get slots n ≡ Some (Some d)) × IsDone work pieces d × (d.number ≡ n)
