-- What a callee says of coordinates that are passed to it as their bits.
use Rattle.std.proofs.Common.{◌≡◌, ℕ, ℤ, pos, negsuc, ◌+ℤ◌, ◌-ℤ◌, to_z, of_z, SFits, w64, ◌∙◌, arith}
use Rattle.std.specs.Int.{int_max, int_min}
use Rattle.std.proofs.lemmas.Int.{ints, to_z-of_z}
use Rattle.cts_geom.specs.Coordinate.{IsCoordinate, interval_gap}

coordinate_fits : (z : ℤ) → IsCoordinate z → SFits w64 z
coordinate_fits (pos n) at = record { sfits = omega (arith, ints, at.low, at.high) }
coordinate_fits (negsuc n) at = record { sfits = omega (arith, ints, at.low, at.high) }

pub low_passed : (r a b : ℤ) (ea eb : ℕ) → SFits w64 r → IsCoordinate a → IsCoordinate b → r ≡ int_max (to_z w64 (of_z w64 a) -ℤ pos ea) (to_z w64 (of_z w64 b) -ℤ pos eb) → to_z w64 (of_z w64 r) ≡ int_max (a -ℤ pos ea) (b -ℤ pos eb)
low_passed r a b ea eb fits_r at_a at_b e =
    let fits_a = coordinate_fits a at_a in
    let fits_b = coordinate_fits b at_b in
    to_z-of_z w64 r fits_r ∙ (simp to_z-of_z at e)

pub high_passed : (r a b : ℤ) (ea eb : ℕ) → SFits w64 r → IsCoordinate a → IsCoordinate b → r ≡ int_min (to_z w64 (of_z w64 a) +ℤ pos ea) (to_z w64 (of_z w64 b) +ℤ pos eb) → to_z w64 (of_z w64 r) ≡ int_min (a +ℤ pos ea) (b +ℤ pos eb)
high_passed r a b ea eb fits_r at_a at_b e =
    let fits_a = coordinate_fits a at_a in
    let fits_b = coordinate_fits b at_b in
    to_z-of_z w64 r fits_r ∙ (simp to_z-of_z at e)

pub gap_passed : (r : ℕ) (a1 a2 b1 b2 : ℤ) → IsCoordinate a1 → IsCoordinate a2 → IsCoordinate b1 → IsCoordinate b2 → r ≡ interval_gap (to_z w64 (of_z w64 a1)) (to_z w64 (of_z w64 a2)) (to_z w64 (of_z w64 b1)) (to_z w64 (of_z w64 b2)) → r ≡ interval_gap a1 a2 b1 b2
gap_passed r a1 a2 b1 b2 at_a1 at_a2 at_b1 at_b2 e =
    let fits_a1 = coordinate_fits a1 at_a1 in
    let fits_a2 = coordinate_fits a2 at_a2 in
    let fits_b1 = coordinate_fits b1 at_b1 in
    let fits_b2 = coordinate_fits b2 at_b2 in
    simp to_z-of_z at e
