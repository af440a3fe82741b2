-- What reading makes of a text that was written.
use Rattle.std.specs.Prelude.{◌≡◌, ℕ, ◌+◌, ◌≤◌, List, [], ◌++◌, length, All, Ok}
use Rattle.cts_instance.specs.declared.parts.Parts.{Parts}
use Rattle.cts_instance.specs.Validity.{IsValid}
use Rattle.cts_read.specs.Grammar.{left_of}
use Rattle.cts_read.specs.Whole.{instance_of}
use Rattle.cts_script.specs.Text.{instance_lines, instance_text}
use Rattle.cts_script.specs.Steps.{IsCallerCount}
use Rattle.cts_script.specs.Scripts.{script_of, scripts_of}
use Rattle.cts_script.specs.ScriptText.{Ask, IsAsk, numbered, script_text}

-- The reader takes a valid instance from its canonical text as it was, whatever comes after the text. It takes as many lines
-- as the text has, and leaves what comes after.
abbrev pub InstancesComeBack : Type 0
InstancesComeBack =
    (parts : Parts) (after : List ℕ) → IsValid parts
    → let text = instance_text parts ++ after in
    let lines = length (instance_lines parts) in
    instance_of text ≡ Ok ((parts, lines), left_of (record { text = text; rest = after; line = lines }))

-- Where nothing comes after the text, no line is left.
abbrev pub NothingIsLeft : Type 0
NothingIsLeft =
    (parts : Parts) → IsValid parts
    → let lines = length (instance_lines parts) in
    instance_of (instance_text parts) ≡ Ok ((parts, lines), record { lines = []; missing = lines + 1 })

-- The reader of scripts takes each caller's steps from the canonical text of at most 65,536 steps, in their order and with the
-- numbers of their lines. The line before the first step comes after those before the text.
abbrev pub ScriptsComeBack : Type 0
ScriptsComeBack =
    (line callers : ℕ) (asks : List Ask) → IsCallerCount callers → length asks ≤ 65536 → All (IsAsk callers) asks
    → script_of line (script_text callers asks) ≡ Ok (scripts_of callers (numbered (line + 1) asks))
