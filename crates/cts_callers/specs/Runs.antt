-- What a run of callers comes to.
use Rattle.std.specs.Prelude.{◌≡◌, ◌≢◌, List, length, Result, IfOk, IfErr, OnOk}
use Rattle.cts_instance.specs.declared.parts.Parts.{Parts}
use Rattle.cts_instance.specs.Validity.{IsValid, with_sinks}
use Rattle.cts_elmore.specs.declared.figures.Figures.{Figures}
use Rattle.cts_tree.specs.declared.nodes.TreeNode.{TreeNode}
use Rattle.cts_plain.specs.declared.end.NoTree.{NoTree}
use Rattle.cts_plain.specs.declared.end.NoTree.TheVariants.{NoMemory}
use Rattle.cts_plain.specs.Ends.{Ends}
use Rattle.cts_memo.specs.Tables.{told_by}
use Rattle.cts_edit.specs.declared.edit.Entry.{Entry}
use Rattle.cts_design.specs.Edits.{after}
use Rattle.cts_design.specs.Sound.{IsSound as IsHistory}
use Rattle.cts_session.specs.Desks.{IsTableOf, base_of, version_of}
use Rattle.cts_session.specs.Draws.{IsDrawn, KnowsTree}
use Rattle.cts_session.specs.Sessions.{AtDesk, edits_of, entries_of}
use Rattle.cts_script.specs.declared.script.ScriptStep.{ScriptStep}
use Rattle.cts_callers.specs.declared.edit.Run.{Run}
use Rattle.cts_history.specs.Legal.{IsLegal}
use Rattle.cts_callers.specs.Turns.{Keeps}
use Rattle.cts_history.specs.Legal.{lists_of}

-- The synthesis of the sinks after these edits: their tree with its figures, or why they have none.
pub record IsSynthesisOf (base : Parts) (edits : List Entry) (synthesis : Result (List TreeNode × Figures) NoTree) : Type 0 where
  pub tree : IfOk synthesis (λ r. IsDrawn base edits (record { version = length edits; tree = r.0; figures = r.1 }))
  pub no_tree : IfErr synthesis (Ends (version_of base edits))
  pub told : IfErr synthesis (λ why. why ≢ NoMemory)

-- the last draw of a run: nothing was edited, and the memo then knows the tree
pub record IsLastTree (old new : AtDesk) (synthesis : Result (List TreeNode × Figures) NoTree) : Type 0 where
  pub keeps : Keeps old new 0
  pub is_synthesis : IsSynthesisOf (base_of old.desk) (edits_of new) synthesis
  pub known : OnOk synthesis (KnowsTree (version_of (base_of old.desk) (edits_of new)) (entries_of new))

-- A run of callers with these scripts: a history, each entry of which is within the limits and accepted after those before
-- it, which is legal with their replies; the synthesis of the sinks after it; and a memo's table of the instance, which knows
-- the tree.
pub record IsRun (base : Parts) (scripts : List (List ScriptStep)) (run : Run) : Type 0 where
  pub instance_is : run.instance ≡ base
  pub sound : IsHistory base run.history.items
  pub legal : IsLegal base scripts run.history.items (lists_of run.replies.items)
  pub sinks_are : run.sinks.items ≡ after base.sinks run.history.items
  pub valid : IsValid (with_sinks base run.sinks.items)
  pub is_synthesis : IsSynthesisOf base run.history.items run.synthesis
  pub memo : IsTableOf base.params (told_by run.table) run.table
  pub known : OnOk run.synthesis (KnowsTree (version_of base run.history.items) (told_by run.table))
