-- Which kinds of answer a form may have, whatever its input spells.
use Rattle.std.specs.Prelude.{◌≡◌}
use Rattle.cts_top.specs.declared.stop.Answer.{Answer}
use Rattle.cts_top.specs.declared.stop.Answer.TheVariants as answer
use Rattle.cts_top.specs.declared.words.Form.{Form}
use Rattle.cts_top.specs.declared.words.Form.TheVariants.{Synth, Check, Edit, Make, Job, Trunk, Near, Replay}

-- a form that makes a tree, so that there may be none
abbrev pub MakesTree : Form → Type 0
MakesTree (Synth workers) = Unit
MakesTree Check = ⊥
MakesTree Edit = Unit
MakesTree Near = Unit
MakesTree Replay = Unit
MakesTree (Make seed sinks) = ⊥
MakesTree (Job seed sinks workers) = Unit
MakesTree (Trunk step buffer) = Unit

-- a form that lays a trunk on its tree, so that there may be none
abbrev pub LaysTrunk : Form → Type 0
LaysTrunk (Synth workers) = ⊥
LaysTrunk Check = ⊥
LaysTrunk Edit = ⊥
LaysTrunk Near = ⊥
LaysTrunk Replay = ⊥
LaysTrunk (Make seed sinks) = ⊥
LaysTrunk (Job seed sinks workers) = ⊥
LaysTrunk (Trunk step buffer) = Unit

-- A form may have an answer of this kind: its text may come on any, that a report is not right on `check` alone, that there is
-- no tree where one is made, and that there is no trunk where one is laid.
abbrev pub HasKind : Form → Answer → Type 0
HasKind form answer.Text = Unit
HasKind form answer.No = form ≡ Check
HasKind form answer.NoTree = MakesTree form
HasKind form answer.NoTrunk = LaysTrunk form
