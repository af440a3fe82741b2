-- A text that is put piece by piece.
use Rattle.std.proofs.Common.{◌≡◌, ℕ, List, [], ◌++◌, append-nil, Result, sym, subst}
use Rattle.cts_io.specs.Pending.{Pending, fresh}
use Rattle.cts_io.specs.Text.{Puts, Finishes, Writes, IsGiven}
use Rattle.cts_io.specs.declared.device.ByteSink.{Ghosts}
use Rattle.cts_io.specs.declared.write.WriteEnd.{WriteEnd}
use Rattle.cts_io.proofs.Given.{puts_then, finished}

infixl 10 ◌▸◌
-- one piece, and then another
pub ◌▸◌ : {S : Type 0} {sink : Ghosts S} {s t u : S × Pending} {x y : List ℕ} → Puts sink s t x → Puts sink t u y → Puts sink s u (x ++ y)
p ▸ q = puts_then _ _ _ _ _ _ p q

-- the pieces from a new buffer on are the text, once it is finished
pub written : {S : Type 0} {sink : Ghosts S} {s u : S} {b : Pending} {t : S × Pending} {text : List ℕ} {result : Result Unit WriteEnd}
    → b ≡ fresh → Puts sink (s, b) t text → Finishes sink t u result → Writes sink.held sink.faults s u text result
written e p f = finished _ _ _ _ _ _ _ p e f

-- nothing was put yet
pub puts_nothing : {S : Type 0} (sink : Ghosts S) (s : S × Pending) → Puts sink s s []
puts_nothing sink s = record { extends = λ start text g. subst (λ t. IsGiven sink start t s) (sym (append-nil text)) g }
