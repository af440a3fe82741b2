-- What contracts say of a deal and its hands.
use Rattle.std.specs.Prelude.{◌≡◌, ◌≢◌, ℕ, ◌*◌, ◌<◌, ◌≤◌, List, [], length, All, AllPairs, Contains}
use Rattle.cts_deal.specs.declared.deal.Deal.{Deal}
use Rattle.cts_deal.specs.declared.deal.Hand.{Hand}

-- the numbers that the hand drew, and those that it took in by a join
abbrev pub drawn_by : Hand → List ℕ
drawn_by hand = hand.seat.me.0.drawn

-- its share of the deal, of 64 parts
abbrev pub share_of : Hand → ℕ
share_of hand = hand.seat.me.0.share

-- The hand came from this deal. It has a share, and at most 257 numbers for each part of it.
pub record IsHandOf (deal : Deal) (hand : Hand) : Type 0 where
  pub own : hand.seat.table_id ≡ deal.table.shared.table_id
  pub holds : hand.seat.me.1 ≡ []
  pub some : 0 < share_of hand
  pub few : length (drawn_by hand) ≤ 257 * share_of hand

-- The numbers are those from 0 up to their count, in some order, each once.
pub record IsDealt (drawn : List ℕ) : Type 0 where
  pub distinct : AllPairs (λ a b. a ≢ b) drawn
  pub below : All (λ n. n < length drawn) drawn
  pub every : (n : ℕ) → n < length drawn → Contains drawn n
