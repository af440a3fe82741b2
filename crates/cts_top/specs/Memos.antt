-- What the memo of a run holds, and when a run keeps it.
use Rattle.std.specs.Prelude.{◌≡◌, ◌⊎◌, ◌≤◌, ℕ, List, length, Option, IfSome, IsSome, Result, Ok, Err}
use Rattle.std.specs.Borrow.{Bor}
use Rattle.cts_instance.specs.declared.parts.Parts.{Parts}
use Rattle.cts_topo.specs.declared.shape.ShapeNode.{ShapeNode}
use Rattle.cts_topo.specs.Shape.{IsShapeOver}
use Rattle.cts_topo.specs.Topology.{shape_of}
use Rattle.cts_up.specs.Plan.{IsPlan}
use Rattle.cts_tree.specs.declared.nodes.TreeNode.{TreeNode}
use Rattle.cts_elmore.specs.declared.figures.Figures.{Figures}
use Rattle.cts_memo.specs.declared.entry.MemoEntry.{MemoEntry}
use Rattle.cts_memo.specs.declared.table.Table.{Table}
use Rattle.cts_memo.specs.Numbers.{AreKnown}
use Rattle.cts_memo.specs.Sound.{IsSound, max_entries}
use Rattle.cts_memo.specs.Tables.{base_of, told_by}
use Rattle.cts_work.specs.declared.plan.Plan.{Plan}
use Rattle.cts_work.specs.Plans.{nodes_of}
use Rattle.cts_plain.specs.declared.end.NoTree.{NoTree}
use Rattle.cts_plain.specs.declared.end.NoTree.TheVariants as end
use Rattle.cts_plain.specs.Synthesis.{IsSynthesis, made}
use Rattle.cts_script.specs.declared.script.ScriptStep.{ScriptStep}
use Rattle.cts_script.specs.Generator.{made_parts}
use Rattle.cts_session.specs.Desks.{version_of}
use Rattle.cts_notes.specs.declared.status.Status.{Status}
use Rattle.cts_notes.specs.declared.status.Status.TheVariants as status
use Rattle.cts_top.specs.declared.stop.Answer.{Answer}
use Rattle.cts_top.specs.declared.stop.Stop.{Stop}
use Rattle.cts_top.specs.declared.stop.Stop.TheVariants as stop
use Rattle.cts_top.specs.declared.words.Form.{Form}
use Rattle.cts_top.specs.declared.words.Form.TheVariants.{Synth, Check, Edit, Make, Job, Trunk, Near, Replay}
use Rattle.cts_top.specs.declared.workers.Planned.{Planned}
use Rattle.cts_top.specs.Input.{Spells, SpellsScripts}
use Rattle.cts_top.specs.Log.{Log, no_log}
use Rattle.cts_top.specs.Reading.{OfInput, reads}

-- A table is that of a memo over which an instance was synthesised: its entries were made with the instance's parameters,
-- and it is sound. Where the instance has a tree, the table has as many entries as it can have, or a number for every node of
-- the shape of the sinks.
pub record IsMemoOf (i : Parts) (table : Table) : Type 0 where
  pub base : base_of table ≡ i.params
  pub sound : IsSound i.params (told_by table)
  pub known : (tree : List TreeNode) → IsSynthesis i (made tree)
      → (length (told_by table) ≡ max_entries) ⊎ AreKnown (told_by table) i.sinks (shape_of i.sinks)

-- a list of entries has a number for every node of a shape over an instance's sinks, or as many entries as it can have
abbrev pub HoldsPlan : Parts → List ShapeNode → List MemoEntry → Type 0
HoldsPlan i shape seen = (length seen ≡ max_entries) ⊎ AreKnown seen i.sinks shape

abbrev pub planned_of : Bor Parts → Bor (List ShapeNode) → Bor Plan → Planned
planned_of instance shape plan = record { instance = instance; shape = shape; plan = plan }

-- the shape is that of the instance's sinks, and the plan is the shape's
pub record IsPlanned (p : Planned) : Type 0 where
  pub definition : p.shape.now ≡ shape_of p.instance.now.sinks
  pub shape : IsShapeOver (length p.instance.now.sinks) p.shape.now
  pub plan : IsPlan p.instance.now.params p.instance.now.sinks p.shape.now (nodes_of p.plan.now)

-- at these statuses a run tells of a synthesis: a tree, or that there is none, whole or in part
abbrev pub TellsOfTree : Status → Type 0
TellsOfTree status.Done = Unit
TellsOfTree status.No = ⊥
TellsOfTree status.Words = ⊥
TellsOfTree status.Refused = ⊥
TellsOfTree status.NoTree = Unit
TellsOfTree status.ReadFault = ⊥
TellsOfTree status.WriteFault = Unit
TellsOfTree status.NoMemory = ⊥
TellsOfTree status.NoTrunk = ⊥

-- a table is kept exactly where a run wrote of its answer, whole or in part
abbrev pub IsKeptFor : Result Answer Stop → Option Table → Type 0
IsKeptFor (Ok kind) memo = IsSome memo
IsKeptFor (Err stop.WriteFault) memo = IsSome memo
IsKeptFor (Err stop.Words) memo = IsSome memo → ⊥
IsKeptFor (Err stop.TooLong) memo = IsSome memo → ⊥
IsKeptFor (Err stop.Many) memo = IsSome memo → ⊥
IsKeptFor (Err (stop.Refused line cause)) memo = IsSome memo → ⊥
IsKeptFor (Err stop.ReadFault) memo = IsSome memo → ⊥
IsKeptFor (Err stop.NoMemory) memo = IsSome memo → ⊥

-- a run that tells of this answer of a synthesis has such a status
abbrev pub TellsEnd : Result (List TreeNode × Figures) NoTree → Status → Type 0
TellsEnd (Ok r) s = TellsOfTree s
TellsEnd (Err (end.Beyond node)) s = TellsOfTree s
TellsEnd (Err (end.Cut node)) s = TellsOfTree s
TellsEnd (Err end.NoMemory) s = TellsOfTree s → ⊥

-- a form whose tree is made over a memo: by more than one worker, or after the edits of callers
abbrev pub HasMemo : Form → Type 0
HasMemo (Synth workers) = 2 ≤ workers
HasMemo Check = ⊥
HasMemo Edit = Unit
HasMemo Near = ⊥
HasMemo Replay = ⊥
HasMemo (Make seed sinks) = ⊥
HasMemo (Job seed sinks workers) = 2 ≤ workers
HasMemo (Trunk step buffer) = ⊥

-- a run keeps its memo, where `Asks` says what its words ask for and this is its status
abbrev pub KeepsMemo : (Form → Type 0) → Status → Type 0
KeepsMemo Asks s = (form : Form) × Asks form × HasMemo form × TellsOfTree s

-- The instance that a form's last tree is of, where these bytes were the input. After edits it is the version after the
-- history.
abbrev pub IsInstance : Log → Form → List ℕ → Parts → Type 0
IsInstance log (Synth workers) bytes i = Spells bytes i
IsInstance log Check bytes i = ⊥
IsInstance log Near bytes i = ⊥
IsInstance log Edit bytes i =
    (base : Parts) × (scripts : List (List ScriptStep)) × SpellsScripts bytes base scripts × (i ≡ version_of base log.history)
IsInstance log Replay bytes i = ⊥
IsInstance log (Make seed sinks) bytes i = ⊥
IsInstance log (Job seed sinks workers) bytes i = i ≡ made_parts seed sinks
IsInstance log (Trunk step buffer) bytes i = ⊥

-- the memo of a run on a form is that of the instance, where the input tells it
abbrev pub HoldsMemo : Log → Form → Option (List ℕ) → Option Table → Type 0
HoldsMemo log form left memo = IfSome memo (λ table. OfInput (reads form) left (λ bytes. (i : Parts) → IsInstance log form bytes i → IsMemoOf i table))

-- A run has a log of callers only where its words ask for edits and its status tells of a tree; in every other run it is
-- empty.
abbrev pub HasLog : (Form → Type 0) → Status → Log → Type 0
HasLog Asks s log = ¬ (Asks Edit × TellsOfTree s) → log ≡ no_log
