use Rattle.std.proofs.Common.{◌≡◌, nat_lt, get_or}
use Rattle.std.specs.List.{IsFirstBest}
use Rattle.cts_near.proofs.search.first_least.Given as goal

abbrev pub invariant-loop-place : goal.invariant-loop-place
invariant-loop-place l =
    record { first_best : IsFirstBest nat_lt l.bounds l.place l.least; bound : l.bound ≡ get_or l.bounds l.least 0 }
