-- Tickets and shares: the part of the rule that is the same for every object. Tickets are drawn and served in
-- order, and count without bound here; the words of the table count them modulo 2^64.
use Rattle.std.specs.Prelude.{◌≡◌, ℕ, ◌+◌, ◌<◌, ◌≤◌, List}
use mathlib.Core.Option.{some}
use lib.ListN.{get_elem?}
use Rattle.cts_turn.specs.declared.view.View.{View}
use Rattle.cts_turn.specs.Sums.{total}

module _ {E O : Type 0} where
  -- a view waits with at most one ticket, which was drawn and not yet served; the one in turn has the ticket served now
  pub record StandsInLine (tickets serving : ℕ) (v : View E O) : Type 0 where
    pub waits : v.waits ≤ v.share
    pub not_before : 0 < v.waits → serving ≤ v.ticket
    pub not_after : 0 < v.waits → v.ticket < tickets
    pub in_turn : 0 < v.in_turn → (0 < v.waits) × (v.ticket ≡ serving)

  -- Shares add up to 65,536. Those that wait are as many as the tickets that are out, and no two have one ticket.
  -- A spent view has no share, so it waits for nothing.
  pub record IsLine (tickets serving : ℕ) (views : List (View E O)) : Type 0 where
    pub shares : total (λ v. v.share) views ≡ 65536
    pub waiting : total (λ v. v.waits) views + serving ≡ tickets
    pub each : (i : ℕ) (v : View E O) → get_elem? views i ≡ some v → StandsInLine tickets serving v
    pub differ : (i : ℕ) (v : View E O) → get_elem? views i ≡ some v → (j : ℕ) (w : View E O) → get_elem? views j ≡ some w
        → 0 < v.waits → 0 < w.waits → v.ticket ≡ w.ticket → i ≡ j
