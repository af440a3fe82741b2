use Rattle.std.proofs.Common.{◌≡◌, ◌≢◌, ◌<◌, length, All, AllPairs}
use Rattle.cts_deal.specs.Hands.{drawn_by, share_of, IsHandOf}
use Rattle.cts_rows_shared.proofs.deals.draw_past.Given as goal

abbrev pub invariant-loop : goal.invariant-loop
invariant-loop l = IsHandOf l.deal l.hand × (share_of l.hand ≡ share_of l.initial.hand) × (length (drawn_by l.hand) ≡ l.counter)
    × AllPairs (λ a b. a ≢ b) (drawn_by l.hand) × All (λ n. n < l.count) (drawn_by l.hand)
