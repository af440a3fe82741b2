-- What a run of callers leaves, with the instance after all its edits.
use Rattle.std.proofs.Common.{◌≡◌, List, Result, Ok, Err, IfOk, ap, ◌∙◌}
use Rattle.cts_instance.specs.declared.parts.Parts.{Parts}
use Rattle.cts_instance.specs.Validity.{with_sinks}
use Rattle.cts_script.specs.declared.script.ScriptStep.{ScriptStep}
use Rattle.cts_session.specs.Desks.{version_of}
use Rattle.cts_callers.specs.declared.edit.Run.{Run}
use Rattle.cts_callers.specs.Runs.{IsRun}

-- what follows from two facts, where there is a result
pub with_both : {T E : Type 0} (result : Result T E) {A B : T → Type 0} → IfOk result A → IfOk result B
    → (P : T → Type 0) → ((x : T) → A x → B x → P x) → IfOk result P
with_both (Ok x) a b P f = f x a b
with_both (Err e) a b P f = tt

-- the instance with the sinks that a run leaves is that after its history
pub version_is : (base : Parts) (scripts : List (List ScriptStep)) (run : Run) → IsRun base scripts run
    → with_sinks run.instance run.sinks.items ≡ version_of base run.history.items
version_is base scripts run is = ap (λ i. with_sinks i run.sinks.items) is.instance_is ∙ ap (with_sinks base) is.sinks_are
