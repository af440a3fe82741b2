-- Scripts worked by hand, after an instance of 11 lines.
use Rattle.std.proofs.Common.{◌≡◌, pos, [], ◌∷◌, Ok, Err, refl}
use Rattle.std.specs.Prelude.{codes}
use Rattle.cts_num.specs.declared.read.DecimalFault.TheVariants.{TooGreat}
use Rattle.cts_num.specs.Number.{digit_number}
use Rattle.cts_num.specs.Reading.{bad_place, fine_place, reading_of}
use Rattle.cts_instance.specs.declared.fault.Fault.TheVariants.{Range}
use Rattle.cts_instance.specs.declared.fault.Item.TheVariants as item
use Rattle.cts_edit.specs.declared.edit.Edit.TheVariants.{Add, Remove, Move, SetCap}
use Rattle.cts_read.specs.declared.stop.Cause.TheVariants.{NotAscii, Word, Count, Number, Missing, Fault}
use Rattle.cts_read.specs.Lines.{is_skipped, words_of}
use Rattle.cts_read.specs.Grammar.{content, fields_of, item_at, left_of, line_at, number_of}
use Rattle.cts_read.specs.Whole.{rest_of}
use Rattle.cts_script.specs.declared.script.Act.TheVariants.{Change, Draw}
use Rattle.cts_script.specs.Steps.{act_of, add_of, callers_fault, callers_of, cap_of, kind_at, kind_of, limited, line_of, move_of, remove_of, said_by, step_of}
use Rattle.cts_script.specs.Scripts.{script_at, script_of, steps_in}

-- two callers, one of whom draws trees
two_callers : script_of 11 (codes "callers 2\n1 cap 1 10\n1 tree\n1 tree\n2 remove 7\nend\n")
    ≡ Ok ((record { line = 13; act = Change (SetCap 1 10000000) } ∷ record { line = 14; act = Draw } ∷ record { line = 15; act = Draw } ∷ [])
    ∷ (record { line = 16; act = Change (Remove 7) } ∷ []) ∷ [])
unfolding script_at steps_in item_at line_at rest_of content left_of is_skipped words_of fields_of number_of reading_of bad_place fine_place digit_number
    callers_of callers_fault line_of said_by step_of kind_at kind_of act_of add_of remove_of move_of cap_of limited
two_callers = refl

-- two callers who add one sink
one_sink_twice : script_of 11 (codes "callers 2\n1 add 9 10 0 5\n2 add 9 10 0 5\nend\n")
    ≡ Ok ((record { line = 13; act = Change (Add 9 (pos 10000) (pos 0) 5000000) } ∷ [])
    ∷ (record { line = 14; act = Change (Add 9 (pos 10000) (pos 0) 5000000) } ∷ []) ∷ [])
unfolding script_at steps_in item_at line_at rest_of content left_of is_skipped words_of fields_of number_of reading_of bad_place fine_place digit_number
    callers_of callers_fault line_of said_by step_of kind_at kind_of act_of add_of remove_of move_of cap_of limited
one_sink_twice = refl

-- one caller, whose steps stand beside a comment
one_caller : script_of 11 (codes "callers 01\r\n# out\n01 remove 1\n\t1  move 1 21 .5 \nend\r")
    ≡ Ok ((record { line = 14; act = Change (Remove 1) } ∷ record { line = 15; act = Change (Move 1 (pos 21000) (pos 500)) } ∷ []) ∷ [])
unfolding script_at steps_in item_at line_at rest_of content left_of is_skipped words_of fields_of number_of reading_of bad_place fine_place digit_number
    callers_of callers_fault line_of said_by step_of kind_at kind_of act_of add_of remove_of move_of cap_of limited
one_caller = refl

-- a caller without steps
no_steps : script_of 11 (codes "callers 2\n2 tree\nend")
    ≡ Ok ([] ∷ (record { line = 13; act = Draw } ∷ []) ∷ [])
unfolding script_at steps_in item_at line_at rest_of content left_of is_skipped words_of fields_of number_of reading_of bad_place fine_place digit_number
    callers_of callers_fault line_of said_by step_of kind_at kind_of act_of add_of remove_of move_of cap_of limited
no_steps = refl

-- no caller
no_caller : script_of 11 (codes "callers 0\nend")
    ≡ Err (12, Fault (Range item.Callers))
unfolding script_at steps_in item_at line_at rest_of content left_of is_skipped words_of fields_of number_of reading_of bad_place fine_place digit_number
    callers_of callers_fault line_of said_by step_of kind_at kind_of act_of add_of remove_of move_of cap_of limited
no_caller = refl

-- a caller who is not there, at the second step
no_such_caller : script_of 11 (codes "callers 2\n1 tree\n3 tree\nend")
    ≡ Err (14, Fault (Range (item.Step 1)))
unfolding script_at steps_in item_at line_at rest_of content left_of is_skipped words_of fields_of number_of reading_of bad_place fine_place digit_number
    callers_of callers_fault line_of said_by step_of kind_at kind_of act_of add_of remove_of move_of cap_of limited
no_such_caller = refl

-- no end
no_end : script_of 11 (codes "callers 1\n1 tree\n")
    ≡ Err (14, Missing)
unfolding script_at steps_in item_at line_at rest_of content left_of is_skipped words_of fields_of number_of reading_of bad_place fine_place digit_number
    callers_of callers_fault line_of said_by step_of kind_at kind_of act_of add_of remove_of move_of cap_of limited
no_end = refl

-- a kind that is none comes before the caller's number
no_kind : script_of 11 (codes "callers 1\n1000000000000000000 jump x\nend")
    ≡ Err (13, Word)
unfolding script_at steps_in item_at line_at rest_of content left_of is_skipped words_of fields_of number_of reading_of bad_place fine_place digit_number
    callers_of callers_fault line_of said_by step_of kind_at kind_of act_of add_of remove_of move_of cap_of limited
no_kind = refl

-- a count of words that is wrong comes before the caller's number
a_word_too_few : script_of 11 (codes "callers 1\n1000000000000000000 cap x\nend")
    ≡ Err (13, Count)
unfolding script_at steps_in item_at line_at rest_of content left_of is_skipped words_of fields_of number_of reading_of bad_place fine_place digit_number
    callers_of callers_fault line_of said_by step_of kind_at kind_of act_of add_of remove_of move_of cap_of limited
a_word_too_few = refl

-- the caller's number comes before the others
caller_first : script_of 11 (codes "callers 1\n1000000000000000000 cap x 1\nend")
    ≡ Err (13, Number TooGreat)
unfolding script_at steps_in item_at line_at rest_of content left_of is_skipped words_of fields_of number_of reading_of bad_place fine_place digit_number
    callers_of callers_fault line_of said_by step_of kind_at kind_of act_of add_of remove_of move_of cap_of limited
caller_first = refl

-- a first word that is not of digits alone
no_digits : script_of 11 (codes "callers 1\n1.0 tree\nend")
    ≡ Err (13, Word)
unfolding script_at steps_in item_at line_at rest_of content left_of is_skipped words_of fields_of number_of reading_of bad_place fine_place digit_number
    callers_of callers_fault line_of said_by step_of kind_at kind_of act_of add_of remove_of move_of cap_of limited
no_digits = refl

-- a step after the end
after_the_end : script_of 11 (codes "callers 1\nend\n\n1 tree")
    ≡ Err (15, Word)
unfolding script_at steps_in item_at line_at rest_of content left_of is_skipped words_of fields_of number_of reading_of bad_place fine_place digit_number
    callers_of callers_fault line_of said_by step_of kind_at kind_of act_of add_of remove_of move_of cap_of limited
after_the_end = refl

-- a CR that ends no line
stray_cr : script_of 11 (codes "callers 1\n1 tree\r\r\nend")
    ≡ Err (13, NotAscii)
unfolding script_at steps_in item_at line_at rest_of content left_of is_skipped words_of fields_of number_of reading_of bad_place fine_place digit_number
    callers_of callers_fault line_of said_by step_of kind_at kind_of act_of add_of remove_of move_of cap_of limited
stray_cr = refl
