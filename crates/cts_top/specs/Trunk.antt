-- The text for a tree with repeaters on its trunk: the trunk and the report of the tree, or one line where there is no such
-- trunk, or no tree.
use Rattle.std.specs.Prelude.{◌≡◌, ◌≢◌, ℕ, List, ◌++◌, codes}
use Rattle.cts_instance.specs.declared.parts.Parts.{Parts}
use Rattle.cts_instance.specs.Validity.{IsValid}
use Rattle.cts_tree.specs.declared.nodes.TreeNode.{TreeNode}
use Rattle.cts_report.specs.Report.{report_text}
use Rattle.cts_trunk.specs.declared.trunk.Trunk.{Trunk}
use Rattle.cts_trunk.specs.declared.trunk.TrunkEnd.{TrunkEnd}
use Rattle.cts_trunk.specs.declared.trunk.TrunkEnd.TheVariants as end
use Rattle.cts_trunk.specs.Laid.{Ends, IsLaid}
use Rattle.cts_trunk.specs.Lines.{trunk_text}
use Rattle.cts_plain.specs.Synthesis.{Synthesis, IsSynthesis, made}
use Rattle.cts_top.specs.declared.stop.Answer.{Answer}
use Rattle.cts_top.specs.declared.stop.Answer.TheVariants as answer
use Rattle.cts_top.specs.Text.{IsTextOf, TellsTree, answer_of}
use Rattle.cts_top.specs.Written.{Rule}

-- the line that says why a tree has no such trunk; there is none where memory ran out
abbrev pub IsNoTrunkText : TrunkEnd → List ℕ → Type 0
IsNoTrunkText end.Buffer text = text ≡ codes "no trunk: buffer\n"
IsNoTrunkText end.Many text = text ≡ codes "no trunk: many\n"
IsNoTrunkText end.Beyond text = text ≡ codes "no trunk: beyond\n"
IsNoTrunkText end.NoMemory text = ⊥

abbrev pub IsNoTrunkLine : TrunkEnd → Rule
IsNoTrunkLine why kind text = (kind ≡ answer.NoTrunk) × IsNoTrunkText why text

-- no text is right but this one, of this kind
abbrev pub IsExactly : Answer → List ℕ → Rule
IsExactly only whole kind text = (kind ≡ only) × (text ≡ whole)

module _ (i : Parts) (step buffer : ℕ) where
  -- the trunk of a tree with repeaters, and directly after it the report of the tree without them
  pub record TellsRepeaters (tree : List TreeNode) (text : List ℕ) : Type 0 where
    pub trunk : Trunk
    pub laid : IsLaid i tree step buffer trunk
    pub report : List ℕ
    pub tells : TellsTree report_text i tree report
    pub told : text ≡ trunk_text trunk ++ report

  -- a tree that has no such trunk, and the line that says why
  pub record TellsNoTrunk (tree : List TreeNode) (text : List ℕ) : Type 0 where
    pub why : TrunkEnd
    pub ends : Ends i tree step buffer why
    pub told : IsNoTrunkText why text

  -- the text for a synthesis, by its kind
  abbrev pub IsTrunkText : Synthesis → Answer → List ℕ → Type 0
  IsTrunkText (made tree) answer.Text text = TellsRepeaters tree text
  IsTrunkText (made tree) answer.NoTrunk text = TellsNoTrunk tree text
  IsTrunkText (made tree) kind text = ⊥
  IsTrunkText none kind text = (kind ≡ answer_of none) × IsTextOf report_text i none text

  -- Which kind it is: of a tree, that it has no trunk where one of the three reasons holds, and its trunk where none does.
  abbrev pub IsTrunkKind : Synthesis → Answer → Type 0
  IsTrunkKind (made tree) answer.Text = (why : TrunkEnd) → Ends i tree step buffer why → why ≡ end.NoMemory
  IsTrunkKind (made tree) answer.NoTrunk = (why : TrunkEnd) × Ends i tree step buffer why × (why ≢ end.NoMemory)
  IsTrunkKind (made tree) kind = ⊥
  IsTrunkKind none kind = kind ≡ answer_of none

  -- the text for the synthesis of a valid instance, and its kind
  pub record TellsTrunk (kind : Answer) (text : List ℕ) : Type 0 where
    pub valid : IsValid i
    pub synthesis : Synthesis
    pub comes : IsSynthesis i synthesis
    pub is_text : IsTrunkText synthesis kind text
