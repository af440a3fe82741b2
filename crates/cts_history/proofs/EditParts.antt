-- An edit in the line of an entry.
use Rattle.std.proofs.Common.{◌≡◌, ℕ, ◌^◌, ◌≤◌, ℤ, pos, negsuc, unsigned_abs, List, ◌++◌, None, refl, ap₂, arith, inl, inr, ◌⊎◌, codes}
use Rattle.std.proofs.lemmas.Int.{ints}
use Rattle.cts_instance.specs.Laws.{IsOnChip}
use Rattle.cts_edit.specs.declared.edit.Edit.{Edit}
use Rattle.cts_edit.specs.declared.edit.Edit.TheVariants.{Add, Remove, Move, SetCap}
use Rattle.cts_edit.specs.Edits.{IsEdit}
use Rattle.cts_report.specs.Lines.{labelled}
use Rattle.cts_report_reader.specs.Reader.{IsStop, IsPart}
use Rattle.cts_report_reader.specs.Words.{word_at, labelled_at, bounded_at, first_of}
use Rattle.cts_report_reader.proofs.Labels.{bounded_part}
use Rattle.cts_report_reader.proofs.PointParts.{map_part, both_part}
use Rattle.cts_report_reader.proofs.NodeParts.{first_part}
use Rattle.cts_history.specs.Entries.{id_at, coordinate_at, capacitance_at, add_of, move_of, cap_of, add_at, remove_at, move_at, cap_at, edit_at}

-- its words, each after a space
unfoldable pub edit_text : Edit → List ℕ
edit_text (Add id x y c) =
    labelled (codes " add ") 0 id
    ++ (labelled (codes " ") 3 (unsigned_abs x) ++ (labelled (codes " ") 3 (unsigned_abs y) ++ labelled (codes " ") 6 c))
edit_text (Remove id) = labelled (codes " remove ") 0 id
edit_text (Move id x y) = labelled (codes " move ") 0 id ++ (labelled (codes " ") 3 (unsigned_abs x) ++ labelled (codes " ") 3 (unsigned_abs y))
edit_text (SetCap id c) = labelled (codes " cap ") 0 id ++ labelled (codes " ") 6 c

-- numbers after a label

id_part : (label : List ℕ) → IsPart IsStop (λ id. id ≤ 999999999) (labelled label 0) (id_at label)
id_part label = bounded_part label 0 999999999 (omega arith)

coordinate_part : IsPart IsStop (λ z. z ≤ 10 ^ 8) (labelled (codes " ") 3) coordinate_at
coordinate_part = bounded_part (codes " ") 3 (10 ^ 8) (omega arith)

capacitance_part : IsPart IsStop (λ c. c ≤ 10 ^ 12) (labelled (codes " ") 6) capacitance_at
capacitance_part = bounded_part (codes " ") 6 (10 ^ 12) (omega arith)

-- coordinates from 0 to 10^8 nm

chip : (z : ℕ) → z ≤ 10 ^ 8 → IsOnChip (pos z)
chip z le = record { low = omega (arith, ints); high = omega (arith, ints, le) }

off_chip : (z : ℤ) → IsOnChip z → unsigned_abs z ≤ 10 ^ 8
off_chip (pos z) h = omega (arith, ints, h.high)
off_chip (negsuc z) h = absurd (omega (arith, ints, h.low))

whole : (z : ℤ) → IsOnChip z → pos (unsigned_abs z) ≡ z
whole (pos z) h = refl
whole (negsuc z) h = absurd (omega (arith, ints, h.low))

-- one kind of edit, or some kinds

IsAdd : Edit → Type 0
IsAdd (Add id x y c) = IsEdit (Add id x y c)
IsAdd (Remove id) = ⊥
IsAdd (Move id x y) = ⊥
IsAdd (SetCap id c) = ⊥

IsRemove : Edit → Type 0
IsRemove (Add id x y c) = ⊥
IsRemove (Remove id) = IsEdit (Remove id)
IsRemove (Move id x y) = ⊥
IsRemove (SetCap id c) = ⊥

IsMove : Edit → Type 0
IsMove (Add id x y c) = ⊥
IsMove (Remove id) = ⊥
IsMove (Move id x y) = IsEdit (Move id x y)
IsMove (SetCap id c) = ⊥

IsSetCap : Edit → Type 0
IsSetCap (Add id x y c) = ⊥
IsSetCap (Remove id) = ⊥
IsSetCap (Move id x y) = ⊥
IsSetCap (SetCap id c) = IsEdit (SetCap id c)

IsMoveOrSetCap : Edit → Type 0
IsMoveOrSetCap (Add id x y c) = ⊥
IsMoveOrSetCap (Remove id) = ⊥
IsMoveOrSetCap (Move id x y) = IsEdit (Move id x y)
IsMoveOrSetCap (SetCap id c) = IsEdit (SetCap id c)

IsNoAdd : Edit → Type 0
IsNoAdd (Add id x y c) = ⊥
IsNoAdd (Remove id) = IsEdit (Remove id)
IsNoAdd (Move id x y) = IsEdit (Move id x y)
IsNoAdd (SetCap id c) = IsEdit (SetCap id c)

-- a sink that is added

AddFits : ℕ × (ℕ × (ℕ × ℕ)) → Type 0
AddFits c = (c.0 ≤ 999999999) × ((c.1.0 ≤ 10 ^ 8) × ((c.1.1.0 ≤ 10 ^ 8) × (c.1.1.1 ≤ 10 ^ 12)))

add_text : ℕ × (ℕ × (ℕ × ℕ)) → List ℕ
add_text c = labelled (codes " add ") 0 c.0 ++ (labelled (codes " ") 3 c.1.0 ++ (labelled (codes " ") 3 c.1.1.0 ++ labelled (codes " ") 6 c.1.1.1))

found_add : Edit → ℕ × (ℕ × (ℕ × ℕ))
found_add (Add id x y c) = (id, (unsigned_abs x, (unsigned_abs y, c)))
found_add (Remove id) = (0, (0, (0, 0)))
found_add (Move id x y) = (0, (0, (0, 0)))
found_add (SetCap id c) = (0, (0, (0, 0)))

add_joins : (c : ℕ × (ℕ × (ℕ × ℕ))) → AddFits c → IsAdd (add_of c) × (edit_text (add_of c) ≡ add_text c)
unfolding AddFits IsAdd edit_text add_text
add_joins c fits = ((fits.0, (chip c.1.0 fits.1.0, chip c.1.1.0 fits.1.1.0), fits.1.1.1), refl)

add_splits : (e : Edit) → IsAdd e → AddFits (found_add e) × (add_of (found_add e) ≡ e)
unfolding AddFits IsAdd found_add
add_splits (Add id x y c) fits = ((fits.0, (off_chip x fits.1.0, (off_chip y fits.1.1, fits.2))), ap₂ (λ a b. Add id a b c) (whole x fits.1.0) (whole y fits.1.1))
add_splits (Remove id) fits = absurd fits
add_splits (Move id x y) fits = absurd fits
add_splits (SetCap id c) fits = absurd fits

add_part : IsPart IsStop IsAdd edit_text add_at
unfolding add_at AddFits add_text labelled
add_part =
    map_part IsStop AddFits add_text _ IsAdd edit_text add_of found_add
    (both_part IsStop (λ id. id ≤ 999999999) (labelled (codes " add ") 0) (id_at (codes " add ")) IsStop
    (λ (c : ℕ × (ℕ × ℕ)). (c.0 ≤ 10 ^ 8) × ((c.1.0 ≤ 10 ^ 8) × (c.1.1 ≤ 10 ^ 12)))
    (λ c. labelled (codes " ") 3 c.0 ++ (labelled (codes " ") 3 c.1.0 ++ labelled (codes " ") 6 c.1.1)) _
    (id_part (codes " add "))
    (both_part IsStop (λ z. z ≤ 10 ^ 8) (labelled (codes " ") 3) coordinate_at IsStop
    (λ (c : ℕ × ℕ). (c.0 ≤ 10 ^ 8) × (c.1 ≤ 10 ^ 12)) (λ c. labelled (codes " ") 3 c.0 ++ labelled (codes " ") 6 c.1) _
    coordinate_part
    (both_part IsStop (λ z. z ≤ 10 ^ 8) (labelled (codes " ") 3) coordinate_at IsStop (λ c. c ≤ 10 ^ 12) (labelled (codes " ") 6) capacitance_at
    coordinate_part capacitance_part (λ b rest fits ends. refl))
    (λ b rest fits ends. refl))
    (λ b rest fits ends. refl))
    add_joins add_splits

-- a sink that is removed

id_or : Edit → ℕ
id_or (Add id x y c) = 0
id_or (Remove id) = id
id_or (Move id x y) = 0
id_or (SetCap id c) = 0

remove_splits : (e : Edit) → IsRemove e → (id_or e ≤ 999999999) × (Remove (id_or e) ≡ e)
unfolding IsRemove id_or
remove_splits (Add id x y c) fits = absurd fits
remove_splits (Remove id) fits = (fits, refl)
remove_splits (Move id x y) fits = absurd fits
remove_splits (SetCap id c) fits = absurd fits

remove_part : IsPart IsStop IsRemove edit_text remove_at
unfolding remove_at IsRemove edit_text
remove_part =
    map_part IsStop (λ id. id ≤ 999999999) (labelled (codes " remove ") 0) (id_at (codes " remove ")) IsRemove edit_text Remove id_or
    (id_part (codes " remove ")) (λ id fits. (fits, refl)) remove_splits

-- a sink that is moved

MoveFits : ℕ × (ℕ × ℕ) → Type 0
MoveFits c = (c.0 ≤ 999999999) × ((c.1.0 ≤ 10 ^ 8) × (c.1.1 ≤ 10 ^ 8))

move_text : ℕ × (ℕ × ℕ) → List ℕ
move_text c = labelled (codes " move ") 0 c.0 ++ (labelled (codes " ") 3 c.1.0 ++ labelled (codes " ") 3 c.1.1)

found_move : Edit → ℕ × (ℕ × ℕ)
found_move (Add id x y c) = (0, (0, 0))
found_move (Remove id) = (0, (0, 0))
found_move (Move id x y) = (id, (unsigned_abs x, unsigned_abs y))
found_move (SetCap id c) = (0, (0, 0))

move_joins : (c : ℕ × (ℕ × ℕ)) → MoveFits c → IsMove (move_of c) × (edit_text (move_of c) ≡ move_text c)
unfolding MoveFits IsMove edit_text move_text
move_joins c fits = ((fits.0, (chip c.1.0 fits.1.0, chip c.1.1 fits.1.1)), refl)

move_splits : (e : Edit) → IsMove e → MoveFits (found_move e) × (move_of (found_move e) ≡ e)
unfolding MoveFits IsMove found_move
move_splits (Add id x y c) fits = absurd fits
move_splits (Remove id) fits = absurd fits
move_splits (Move id x y) fits = ((fits.0, (off_chip x fits.1.0, off_chip y fits.1.1)), ap₂ (λ a b. Move id a b) (whole x fits.1.0) (whole y fits.1.1))
move_splits (SetCap id c) fits = absurd fits

move_part : IsPart IsStop IsMove edit_text move_at
unfolding move_at MoveFits move_text labelled
move_part =
    map_part IsStop MoveFits move_text _ IsMove edit_text move_of found_move
    (both_part IsStop (λ id. id ≤ 999999999) (labelled (codes " move ") 0) (id_at (codes " move ")) IsStop
    (λ (c : ℕ × ℕ). (c.0 ≤ 10 ^ 8) × (c.1 ≤ 10 ^ 8)) (λ c. labelled (codes " ") 3 c.0 ++ labelled (codes " ") 3 c.1) _
    (id_part (codes " move "))
    (both_part IsStop (λ z. z ≤ 10 ^ 8) (labelled (codes " ") 3) coordinate_at IsStop (λ z. z ≤ 10 ^ 8) (labelled (codes " ") 3) coordinate_at
    coordinate_part coordinate_part (λ b rest fits ends. refl))
    (λ b rest fits ends. refl))
    move_joins move_splits

-- a sink with another capacitance

CapFits : ℕ × ℕ → Type 0
CapFits c = (c.0 ≤ 999999999) × (c.1 ≤ 10 ^ 12)

cap_text : ℕ × ℕ → List ℕ
cap_text c = labelled (codes " cap ") 0 c.0 ++ labelled (codes " ") 6 c.1

found_cap : Edit → ℕ × ℕ
found_cap (Add id x y c) = (0, 0)
found_cap (Remove id) = (0, 0)
found_cap (Move id x y) = (0, 0)
found_cap (SetCap id c) = (id, c)

cap_joins : (c : ℕ × ℕ) → CapFits c → IsSetCap (cap_of c) × (edit_text (cap_of c) ≡ cap_text c)
unfolding CapFits IsSetCap edit_text cap_text
cap_joins c fits = (fits, refl)

cap_splits : (e : Edit) → IsSetCap e → CapFits (found_cap e) × (cap_of (found_cap e) ≡ e)
unfolding CapFits IsSetCap found_cap
cap_splits (Add id x y c) fits = absurd fits
cap_splits (Remove id) fits = absurd fits
cap_splits (Move id x y) fits = absurd fits
cap_splits (SetCap id c) fits = (fits, refl)

cap_part : IsPart IsStop IsSetCap edit_text cap_at
unfolding cap_at CapFits cap_text labelled
cap_part =
    map_part IsStop CapFits cap_text _ IsSetCap edit_text cap_of found_cap
    (both_part IsStop (λ id. id ≤ 999999999) (labelled (codes " cap ") 0) (id_at (codes " cap ")) IsStop (λ c. c ≤ 10 ^ 12) (labelled (codes " ") 6) capacitance_at
    (id_part (codes " cap ")) capacitance_part (λ b rest fits ends. refl))
    cap_joins cap_splits

-- one of the last two kinds

move_is : (e : Edit) → IsMove e → IsMoveOrSetCap e
unfolding IsMove IsMoveOrSetCap
move_is (Add id x y c) fits = absurd fits
move_is (Remove id) fits = absurd fits
move_is (Move id x y) fits = fits
move_is (SetCap id c) fits = absurd fits

cap_is : (e : Edit) → IsSetCap e → IsMoveOrSetCap e
unfolding IsSetCap IsMoveOrSetCap
cap_is (Add id x y c) fits = absurd fits
cap_is (Remove id) fits = absurd fits
cap_is (Move id x y) fits = absurd fits
cap_is (SetCap id c) fits = fits

which_last : (e : Edit) → IsMoveOrSetCap e → IsMove e ⊎ IsSetCap e
unfolding IsMove IsSetCap IsMoveOrSetCap
which_last (Add id x y c) fits = absurd fits
which_last (Remove id) fits = absurd fits
which_last (Move id x y) fits = inl fits
which_last (SetCap id c) fits = inr fits

no_move : (e : Edit) (rest : List ℕ) → IsSetCap e → move_at (edit_text e ++ rest) ≡ None
unfolding IsSetCap move_at edit_text bounded_at labelled_at word_at labelled
no_move (Add id x y c) rest fits = absurd fits
no_move (Remove id) rest fits = absurd fits
no_move (Move id x y) rest fits = absurd fits
no_move (SetCap id c) rest fits = refl

last_part : IsPart IsStop IsMoveOrSetCap edit_text (λ bytes. first_of (move_at bytes) (cap_at bytes))
last_part = first_part IsStop IsMove IsSetCap IsMoveOrSetCap edit_text move_at cap_at move_part cap_part move_is cap_is which_last no_move

-- one of the last three

remove_is : (e : Edit) → IsRemove e → IsNoAdd e
unfolding IsRemove IsNoAdd
remove_is (Add id x y c) fits = absurd fits
remove_is (Remove id) fits = fits
remove_is (Move id x y) fits = absurd fits
remove_is (SetCap id c) fits = absurd fits

last_is : (e : Edit) → IsMoveOrSetCap e → IsNoAdd e
unfolding IsMoveOrSetCap IsNoAdd
last_is (Add id x y c) fits = absurd fits
last_is (Remove id) fits = absurd fits
last_is (Move id x y) fits = fits
last_is (SetCap id c) fits = fits

which_later : (e : Edit) → IsNoAdd e → IsRemove e ⊎ IsMoveOrSetCap e
unfolding IsRemove IsMoveOrSetCap IsNoAdd
which_later (Add id x y c) fits = absurd fits
which_later (Remove id) fits = inl fits
which_later (Move id x y) fits = inr fits
which_later (SetCap id c) fits = inr fits

no_remove : (e : Edit) (rest : List ℕ) → IsMoveOrSetCap e → remove_at (edit_text e ++ rest) ≡ None
unfolding IsMoveOrSetCap remove_at edit_text bounded_at labelled_at word_at labelled
no_remove (Add id x y c) rest fits = absurd fits
no_remove (Remove id) rest fits = absurd fits
no_remove (Move id x y) rest fits = refl
no_remove (SetCap id c) rest fits = refl

later_part : IsPart IsStop IsNoAdd edit_text (λ bytes. first_of (remove_at bytes) (first_of (move_at bytes) (cap_at bytes)))
later_part =
    first_part IsStop IsRemove IsMoveOrSetCap IsNoAdd edit_text remove_at (λ bytes. first_of (move_at bytes) (cap_at bytes)) remove_part last_part
    remove_is last_is which_later no_remove

-- any edit

add_is : (e : Edit) → IsAdd e → IsEdit e
unfolding IsAdd
add_is (Add id x y c) fits = fits
add_is (Remove id) fits = absurd fits
add_is (Move id x y) fits = absurd fits
add_is (SetCap id c) fits = absurd fits

later_is : (e : Edit) → IsNoAdd e → IsEdit e
unfolding IsNoAdd
later_is (Add id x y c) fits = absurd fits
later_is (Remove id) fits = fits
later_is (Move id x y) fits = fits
later_is (SetCap id c) fits = fits

which_edit : (e : Edit) → IsEdit e → IsAdd e ⊎ IsNoAdd e
unfolding IsAdd IsNoAdd
which_edit (Add id x y c) fits = inl fits
which_edit (Remove id) fits = inr fits
which_edit (Move id x y) fits = inr fits
which_edit (SetCap id c) fits = inr fits

no_add : (e : Edit) (rest : List ℕ) → IsNoAdd e → add_at (edit_text e ++ rest) ≡ None
unfolding IsNoAdd add_at edit_text bounded_at labelled_at word_at labelled
no_add (Add id x y c) rest fits = absurd fits
no_add (Remove id) rest fits = refl
no_add (Move id x y) rest fits = refl
no_add (SetCap id c) rest fits = refl

pub edit_part : IsPart IsStop IsEdit edit_text edit_at
unfolding edit_at
edit_part =
    first_part IsStop IsAdd IsNoAdd IsEdit edit_text add_at (λ bytes. first_of (remove_at bytes) (first_of (move_at bytes) (cap_at bytes))) add_part later_part
    add_is later_is which_edit no_add

-- it begins with no digit
pub edit_stop : (e : Edit) (rest : List ℕ) → IsStop (edit_text e ++ rest)
unfolding edit_text labelled
edit_stop (Add id x y c) rest = refl
edit_stop (Remove id) rest = refl
edit_stop (Move id x y) rest = refl
edit_stop (SetCap id c) rest = refl
