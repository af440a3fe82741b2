-- Replays worked by hand, after an instance of 11 lines.
use Rattle.std.proofs.Common.{◌≡◌, pos, [], ◌∷◌, Ok, Err, refl}
use Rattle.std.specs.Prelude.{codes}
use Rattle.cts_num.specs.Number.{digit_number}
use Rattle.cts_num.specs.Reading.{bad_place, fine_place, reading_of}
use Rattle.cts_instance.specs.declared.fault.Fault.TheVariants.{Range}
use Rattle.cts_instance.specs.declared.fault.Item.TheVariants as item
use Rattle.cts_edit.specs.declared.edit.Edit.TheVariants.{Add, SetCap}
use Rattle.cts_read.specs.declared.stop.Cause.TheVariants.{Word, Count, Fault}
use Rattle.cts_read.specs.Lines.{is_skipped, words_of}
use Rattle.cts_read.specs.Grammar.{content, fields_of, item_at, left_of, line_at, number_of}
use Rattle.cts_read.specs.Whole.{rest_of}
use Rattle.cts_script.specs.declared.script.Act.TheVariants.{Change}
use Rattle.cts_script.specs.declared.replay.ReplayAct.TheVariants.{Step, Undo, Redo}
use Rattle.cts_script.specs.Steps.{act_of, add_of, callers_fault, callers_of, cap_of, kind_at, kind_of, limited, line_of, move_of, remove_of, said_by, step_of}
use Rattle.cts_script.specs.Replays.{alone_fault, alone_of, moved_by, mover_of, moving_of, replay_at, replay_line, replay_of, replay_steps_in}

-- changes, undos and redos
undone_and_redone : replay_of 11 (codes "callers 1\n1 add 9 10 0 5\n1 undo\n1 redo\n1 cap 9 6\nend\n")
    ≡ Ok (record { line = 13; act = Step (Change (Add 9 (pos 10000) (pos 0) 5000000)) } ∷ record { line = 14; act = Undo }
    ∷ record { line = 15; act = Redo } ∷ record { line = 16; act = Step (Change (SetCap 9 6000000)) } ∷ [])
unfolding replay_at replay_steps_in replay_line mover_of moved_by moving_of alone_of alone_fault item_at line_at rest_of content left_of is_skipped words_of
    fields_of number_of reading_of bad_place fine_place digit_number callers_of callers_fault line_of said_by step_of kind_at kind_of act_of add_of remove_of
    move_of cap_of limited
undone_and_redone = refl

-- more than one caller
two_callers : replay_of 11 (codes "callers 2\nend\n") ≡ Err (12, Fault (Range item.Callers))
unfolding replay_at replay_steps_in replay_line mover_of moved_by moving_of alone_of alone_fault item_at line_at rest_of content left_of is_skipped words_of
    fields_of number_of reading_of bad_place fine_place digit_number callers_of callers_fault line_of said_by step_of kind_at kind_of act_of add_of remove_of
    move_of cap_of limited
two_callers = refl

-- an undo with a word too many
undo_of_what : replay_of 11 (codes "callers 1\n1 undo 2\nend\n") ≡ Err (13, Count)
unfolding replay_at replay_steps_in replay_line mover_of moved_by moving_of alone_of alone_fault item_at line_at rest_of content left_of is_skipped words_of
    fields_of number_of reading_of bad_place fine_place digit_number callers_of callers_fault line_of said_by step_of kind_at kind_of act_of add_of remove_of
    move_of cap_of limited
undo_of_what = refl

-- a redo of a caller who is not there
redo_of_another : replay_of 11 (codes "callers 1\n1 undo\n2 redo\nend\n") ≡ Err (14, Fault (Range (item.Step 1)))
unfolding replay_at replay_steps_in replay_line mover_of moved_by moving_of alone_of alone_fault item_at line_at rest_of content left_of is_skipped words_of
    fields_of number_of reading_of bad_place fine_place digit_number callers_of callers_fault line_of said_by step_of kind_at kind_of act_of add_of remove_of
    move_of cap_of limited
redo_of_another = refl

-- no caller's number before the word
no_number : replay_of 11 (codes "callers 1\nundo\nend\n") ≡ Err (13, Word)
unfolding replay_at replay_steps_in replay_line mover_of moved_by moving_of alone_of alone_fault item_at line_at rest_of content left_of is_skipped words_of
    fields_of number_of reading_of bad_place fine_place digit_number callers_of callers_fault line_of said_by step_of kind_at kind_of act_of add_of remove_of
    move_of cap_of limited
no_number = refl
