-- Texts and numbers, worked by hand: what the definitions say of them.
use Rattle.std.proofs.Common.{◌≡◌, Ok, Err, refl}
use Rattle.std.specs.Prelude.{codes}
use Rattle.cts_num.specs.declared.read.DecimalFault.TheVariants.{BadByte, Empty, TooFine, TooGreat}
use Rattle.cts_num.specs.Decimal.{decimal_text, digits_text, fraction_text, padded_text, whole_text}
use Rattle.cts_num.specs.Number.{digit_number}
use Rattle.cts_num.specs.Reading.{bad_place, fine_place, front_size, reading_of}

-- the number that a text is, at so many places, or its first fault
read_1 :
    (reading_of (codes "0") 0 ≡ Ok 0)
    × (reading_of (codes "7") 3 ≡ Ok 7000)
    × (reading_of (codes ".5") 1 ≡ Ok 5)
    × (reading_of (codes "5.") 0 ≡ Ok 5)
    × (reading_of (codes "00012") 0 ≡ Ok 12)
    × (reading_of (codes "2.0") 0 ≡ Ok 2)
    × (reading_of (codes "0.0050") 3 ≡ Ok 5)
    × (reading_of (codes "61.2") 6 ≡ Ok 61200000)
    × (reading_of (codes "0000000000000000000000001.50000000000000000000000000") 2 ≡ Ok 150)
    × (reading_of (codes "999.999") 15 ≡ Ok 999999000000000000)
unfolding reading_of bad_place fine_place digit_number
read_1 = (refl, refl, refl, refl, refl, refl, refl, refl, refl, refl)

read_2 :
    (reading_of (codes "999999999999999999") 0 ≡ Ok 999999999999999999)
    × (reading_of (codes "99.9999999999999999") 16 ≡ Ok 999999999999999999)
    × (reading_of (codes "") 3 ≡ Err Empty)
    × (reading_of (codes ".") 3 ≡ Err Empty)
    × (reading_of (codes "..") 3 ≡ Err (BadByte 1))
    × (reading_of (codes ".5.") 3 ≡ Err (BadByte 2))
    × (reading_of (codes "+1") 0 ≡ Err (BadByte 0))
    × (reading_of (codes "1e3") 0 ≡ Err (BadByte 1))
    × (reading_of (codes "1/") 0 ≡ Err (BadByte 1))
    × (reading_of (codes "1.:") 0 ≡ Err (BadByte 2))
unfolding reading_of bad_place fine_place digit_number
read_2 = (refl, refl, refl, refl, refl, refl, refl, refl, refl, refl)

read_3 :
    (reading_of (codes "0.0005x") 3 ≡ Err (BadByte 6))
    × (reading_of (codes "9999999999999999999999x") 0 ≡ Err (BadByte 22))
    × (reading_of (codes "0.0005") 3 ≡ Err (TooFine 5))
    × (reading_of (codes "0.00005") 3 ≡ Err (TooFine 6))
    × (reading_of (codes "1.1") 0 ≡ Err (TooFine 2))
    × (reading_of (codes "9999999999999999999999.1") 0 ≡ Err (TooFine 23))
    × (reading_of (codes "1000") 15 ≡ Err TooGreat)
    × (reading_of (codes "1000000000000000000") 0 ≡ Err TooGreat)
    × (reading_of (codes "100") 16 ≡ Err TooGreat)
    × (reading_of (codes "99999999999999999999999999999999999999999") 0 ≡ Err TooGreat)
unfolding reading_of bad_place fine_place digit_number
read_3 = (refl, refl, refl, refl, refl, refl, refl, refl, refl, refl)

-- how many bytes the number in front takes, at so many places
front_1 :
    (front_size 3 (codes "12.5 x") ≡ 4)
    × (front_size 3 (codes "1.23456") ≡ 5)
    × (front_size 3 (codes "7 8") ≡ 1)
    × (front_size 3 (codes "5.") ≡ 2)
    × (front_size 3 (codes ".5") ≡ 0)
    × (front_size 3 (codes "") ≡ 0)
    × (front_size 0 (codes "12") ≡ 2)
    × (front_size 0 (codes "4.5") ≡ 2)
    × (front_size 3 (codes "1.2.3") ≡ 3)
    × (front_size 6 (codes "x1") ≡ 0)
unfolding front_size
front_1 = (refl, refl, refl, refl, refl, refl, refl, refl, refl, refl)

-- The text of a number at so many places. Longer ones are rows of `cts_cases`.
written_1 :
    (decimal_text 0 0 ≡ codes "0")
    × (decimal_text 3 0 ≡ codes "0.000")
    × (decimal_text 16 0 ≡ codes "0.0000000000000000")
    × (decimal_text 0 7 ≡ codes "7")
    × (decimal_text 0 100 ≡ codes "100")
    × (decimal_text 4 5 ≡ codes "0.0005")
    × (decimal_text 1 10 ≡ codes "1.0")
    × (decimal_text 3 7000 ≡ codes "7.000")
    × (decimal_text 4 30000 ≡ codes "3.0000")
    × (decimal_text 6 12000000 ≡ codes "12.000000")
unfolding decimal_text whole_text fraction_text padded_text digits_text
written_1 = (refl, refl, refl, refl, refl, refl, refl, refl, refl, refl)
