-- What a pass knows, and how each step of a turn changes it.
use Rattle.std.specs.Prelude.{ℕ, ◌+◌, ◌-◌, ◌/◌, List, [], length, cond, ltb, Some, None}
use Rattle.cts_turn.specs.declared.view.View.{View}

abbrev pub longer : {E : Type 0} → List E → List E → List E
longer xs ys = cond (ltb (length xs) (length ys)) ys xs

abbrev pub shorter : {E : Type 0} → List E → List E → List E
shorter xs ys = cond (ltb (length xs) (length ys)) xs ys

module _ {E O : Type 0} where
  -- the first pass of a turn on an object that tells the list
  abbrev pub whole_view : List E → O → View E O
  whole_view list object =
      record { seen = list; also = []; object = Some object; made = 0; share = 65536; waits = 0; in_turn = 0; ticket = 0 }

  -- a pass is split: the greater half of the share stays, with what was made
  abbrev pub first_half : View E O → View E O
  first_half v = record v { share = v.share - v.share / 2 }

  abbrev pub second_half : View E O → View E O
  second_half v = record v { share = v.share / 2; made = 0 }

  -- two passes are joined
  abbrev pub joined : View E O → View E O → View E O
  joined v w =
      record v { seen = longer v.seen w.seen; also = shorter v.seen w.seen; made = v.made + w.made; share = v.share + w.share }

  -- the second of two passes that were joined
  abbrev pub spent_view : View E O
  spent_view = record { seen = []; also = []; object = None; made = 0; share = 0; waits = 0; in_turn = 0; ticket = 0 }

  -- a ticket was drawn
  abbrev pub with_ticket : ℕ → View E O → View E O
  with_ticket ticket v = record v { waits = 1; ticket = ticket }

  -- it is this ticket's turn, and the object tells the list
  abbrev pub at_turn : List E → View E O → View E O
  at_turn list v = record v { in_turn = 1; seen = list }

  -- the object was called, and tells the list
  abbrev pub after_call : List E → View E O → View E O
  after_call list v = record v { seen = list; made = v.made + (length list - length v.seen) }

  -- the turn was passed on
  abbrev pub after_turn : View E O → View E O
  after_turn v = record v { waits = 0; in_turn = 0 }
