-- What a step of a deal tells its hand: of the step, the seat before, the number found and the seat after.
use Rattle.std.specs.Prelude.{◌≡◌, ◌≢◌, ℕ, ◌*◌, ◌<◌, AllPairs}
use Rattle.atomic_table.specs.Table.{Me, Step}
use Rattle.cts_deal.specs.declared.view.View.{View}
use Rattle.cts_deal.specs.Views.{with_number}

module _ {S : Type 0} where
  -- the number found was drawn; there are at most 257 for each of 64 parts, and the hand has none of them twice
  abbrev pub Draws : Step S → Me S View → ℕ → Me S View → Type 0
  Draws st m found n = (n ≡ (with_number found m.0, m.1)) × (found < 257 * 64) × AllPairs (λ a b. a ≢ b) n.0.drawn
