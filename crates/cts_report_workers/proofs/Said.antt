-- What a page has after a text was written to it.
use Rattle.std.proofs.Common.{◌≡◌, ℕ, List, [], ◌++◌, Some, Result, Ok, Err, inl, inr, ap, ◌∙◌, arith}
use Rattle.cts_io.specs.Text.{Writes}
use Rattle.cts_io.specs.declared.write.WriteEnd.{WriteEnd}
use Rattle.cts_report_workers.specs.declared.page.Page.{Page}
use Rattle.cts_report_workers.specs.Stretches.{Says}

-- an empty page without faults, to which a text was written, says it: an error would have counted a fault
pub says_written : (old new : Page) (text : List ℕ) (result : Result Unit WriteEnd) → old.text.items ≡ [] → old.faults ≡ 0
    → Writes (λ (page : Page). Some page.text.items) (λ (page : Page). page.faults) old new text result → Says new text
says_written old new text (Ok done) empty zero w whole = w.ok ∙ ap (λ t. t ++ text) empty
says_written old new text (Err end) empty zero w whole =
    elim w.write_fault [
      | inl rose ↦ absurd (omega arith)
      | inr last ↦ absurd (omega arith)
    ]
