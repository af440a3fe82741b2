-- A note that was written: whole unless the sink failed, and a front of it in any case.
use Rattle.std.proofs.Common.{ℕ, List, length, take, Option, Result, Ok, Err, sym, subst}
use Rattle.std.proofs.Math.Seq.{take-length}
use Rattle.std.specs.Io.KnownBytes.{Appends}
use Rattle.cts_io.specs.Faults.{Rose}
use Rattle.cts_io.specs.Text.{Writes}
use Rattle.cts_io.specs.declared.write.WriteEnd.{WriteEnd}

pub noted : {N : Type 0} {held : N → Option (List ℕ)} {faults : N → ℕ} {old new : N} {text : List ℕ} (result : Result Unit WriteEnd)
    → Writes held faults old new text result → (Rose (faults old) (faults new) → ⊥) → Appends (held old) (held new) text
noted (Ok done) w none = w.ok
noted (Err end) w none = absurd (none w.write_fault)

pub noted_in_part : {N : Type 0} {held : N → Option (List ℕ)} {faults : N → ℕ} {old new : N} {text : List ℕ} (result : Result Unit WriteEnd)
    → Writes held faults old new text result → (count : ℕ) × Appends (held old) (held new) (take count text)
noted_in_part {text = text} (Ok done) w = (length text, subst (Appends _ _) (sym (take-length text)) w.ok)
noted_in_part (Err end) w = (w.cut.count, w.cut.taken)
