-- Why an input spells no instance and no report.
use Rattle.std.proofs.Common.{◌≡◌, ℕ, ◌-◌, ◌≤◌, List, length, length-drop, take, drop, arith}
use Rattle.std.proofs.lemmas.List.{take_all}
use Rattle.cts_instance.specs.declared.parts.Parts.{Parts}
use Rattle.cts_read.specs.declared.stop.ReadStop.{ReadStop}
use Rattle.cts_read.specs.declared.stop.ReadStop.TheVariants.{Refused, NoMemory}
use Rattle.cts_read.specs.Grammar.{Refuses}
use Rattle.cts_notes.specs.Front.{SpellsFront, front_of, input_limit}
use Rattle.cts_notes.specs.Stops.{stop_of_text}
use Rattle.cts_notes.specs.declared.stop.Stop.{Stop}
use Rattle.cts_notes.specs.declared.stop.Stop.TheVariants as stop
use Rattle.cts_draw.specs.declared.stop.NotText.{NotText}
use Rattle.cts_draw.specs.Drawing.{Explains, ExplainsReport}

pub refuses_explains : (bytes : List ℕ) (end : ReadStop) → length bytes ≤ input_limit → Refuses end (front_of bytes)
    → Explains bytes (stop_of_text end)
refuses_explains bytes (Refused line cause) h e = (h, e)
refuses_explains bytes NoMemory h e = tt

-- where the instance was read, and what follows it is no report
pub report_refused : (bytes : List ℕ) (i : Parts) (rest : List ℕ) (end : Stop NotText) → SpellsFront bytes i rest → ExplainsReport i rest end
    → Explains bytes end
report_refused bytes i rest (stop.Own reason) front none = (i, rest, front, none)
report_refused bytes i rest stop.NoMemory front none = tt
report_refused bytes i rest stop.Words front none = absurd none
report_refused bytes i rest stop.TooLong front none = absurd none
report_refused bytes i rest (stop.Refused line cause) front none = absurd none
report_refused bytes i rest stop.ReadFault front none = absurd none
report_refused bytes i rest stop.WriteFault front none = absurd none

-- a slice up to the end is what is left
pub rest_taken : (used : ℕ) (bytes : List ℕ) → take (length bytes - used) (drop used bytes) ≡ drop used bytes
rest_taken used bytes = take_all (length bytes - used) (drop used bytes) (omega (arith, length-drop used bytes))
