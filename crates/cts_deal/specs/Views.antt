-- What a hand knows, and how each step changes it.
use Rattle.std.specs.Prelude.{ℕ, ◌+◌, ◌-◌, ◌/◌, [], ◌∷◌, ◌++◌}
use Rattle.cts_deal.specs.declared.view.View.{View}

-- the first hand of a deal
abbrev pub whole_view : View
whole_view = record { share = 64; drawn = [] }

-- a hand that has not drawn yet is split: the greater half of the share stays
abbrev pub first_half : View → View
first_half v = record v { share = v.share - v.share / 2 }

abbrev pub second_half : View → View
second_half v = record { share = v.share / 2; drawn = [] }

-- two hands are joined
abbrev pub joined : View → View → View
joined v w = record { share = v.share + w.share; drawn = v.drawn ++ w.drawn }

-- the second of two hands that were joined
abbrev pub spent_view : View
spent_view = record { share = 0; drawn = [] }

-- a number was drawn
abbrev pub with_number : ℕ → View → View
with_number n v = record v { drawn = v.drawn ++ n ∷ [] }
