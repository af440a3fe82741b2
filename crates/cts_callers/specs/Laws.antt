-- What holds of what every run of callers leaves.
use Rattle.std.specs.Prelude.{List}
use Rattle.cts_instance.specs.declared.parts.Parts.{Parts}
use Rattle.cts_instance.specs.Validity.{IsValid}
use Rattle.cts_script.specs.declared.script.ScriptStep.{ScriptStep}
use Rattle.cts_callers.specs.declared.edit.Run.{Run}
use Rattle.cts_history.specs.Legal.{lists_of}
use Rattle.cts_callers.specs.Runs.{IsRun}
use Rattle.cts_history.specs.History.{IsPrintable}

-- the history and the replies of a run can be printed
abbrev pub RunsCanBePrinted : Type 0
RunsCanBePrinted =
    (base : Parts) (scripts : List (List ScriptStep)) (run : Run) → IsValid base → IsRun base scripts run
    → IsPrintable run.history.items (lists_of run.replies.items)
