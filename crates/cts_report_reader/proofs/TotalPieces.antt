-- The lines on the whole tree.
use Rattle.std.proofs.Common.{◌≡◌, ℕ, ◌+◌, Bool, true, List, [], ◌∷◌, ◌++◌, length, Option, Some, None, Ok, refl, sym, arith, codes}
use Rattle.cts_instance.specs.declared.version.Version.{Version}
use Rattle.cts_instance.specs.declared.version.Version.TheVariants.{One, Two}
use Rattle.cts_report.specs.Lines.{labelled, answer, capacitance, time, length_in_um, arrival_lines, closing_lines, total_lines}
use Rattle.cts_report.specs.Printed.{PrintedArrivals, PrintedTotals}
use Rattle.cts_report_reader.specs.Bounds.{IsShort, AreArrivals, IsPrintedTotals}
use Rattle.cts_report_reader.specs.Forms.{arrival_count}
use Rattle.cts_report_reader.specs.Lines.{figure_at, answer_at}
use Rattle.cts_report_reader.specs.Reader.{LinesReader, IsPiece}
use Rattle.cts_report_reader.specs.Whole.{line_at, both_lines, ClosingFound, TotalsFound, totals_of, arrivals_of_two, arrivals_at, closing_at, later_at, totals_at}
use Rattle.cts_report_reader.specs.Words.{word_at}
use Rattle.cts_report_reader.proofs.Parts.{none_is}
use Rattle.cts_report_reader.proofs.Pieces.{done_piece, line_piece}
use Rattle.cts_report_reader.proofs.Labels.{word_part}
use Rattle.cts_report_reader.proofs.LineParts.{figure_part, answer_part}
use Rattle.cts_report_reader.proofs.LinesPieces.{map_piece, both_piece}

figure_text : List ℕ → ℕ → ℕ → List (List ℕ)
figure_text label places n = (labelled label places n ++ codes "\n") ∷ []

figure_piece : (label : List ℕ) (places at : ℕ) → IsPiece IsShort (figure_text label places) at (line_at at (figure_at label places))
unfolding figure_text
figure_piece label places at = line_piece IsShort (λ n. labelled label places n ++ codes "\n") (figure_at label places) (figure_part label places) at 0 (omega arith)

one_figure : (label : List ℕ) (places n : ℕ) → length (figure_text label places n) ≡ 1
unfolding figure_text
one_figure label places n = refl

AnyAnswers : Bool × (Bool × Unit {0}) → Type 0
AnyAnswers c = Unit {0} × (Unit {0} × Unit {0})

answers_text : Bool × (Bool × Unit {0}) → List (List ℕ)
answers_text c = (answer (codes "load met") c.0 ∷ []) ++ ((answer (codes "slew met") c.1.0 ∷ []) ++ (codes "end\n" ∷ []))

answers_piece : (at : ℕ) → IsPiece AnyAnswers answers_text at
    (both_lines (line_at at (answer_at (codes "load met"))) (both_lines (line_at (at + 1) (answer_at (codes "slew met"))) (line_at (at + 2) (word_at (codes "end\n")))))
unfolding AnyAnswers answers_text
answers_piece at =
    both_piece (λ (_ : Bool). Unit {0}) (λ b. answer (codes "load met") b ∷ []) (line_at at (answer_at (codes "load met"))) at 1 (at + 1)
    (λ (c : Bool × Unit {0}). Unit {0} × Unit {0}) (λ c. (answer (codes "slew met") c.0 ∷ []) ++ (codes "end\n" ∷ [])) _
    (line_piece (λ (_ : Bool). Unit {0}) (answer (codes "load met")) (answer_at (codes "load met")) (answer_part (codes "load met")) at true tt)
    (λ a fits. refl) refl
    (both_piece (λ (_ : Bool). Unit {0}) (λ b. answer (codes "slew met") b ∷ []) (line_at (at + 1) (answer_at (codes "slew met"))) (at + 1) 1 (at + 2)
    (λ (_ : Unit {0}). Unit {0}) (λ _. codes "end\n" ∷ []) (line_at (at + 2) (word_at (codes "end\n")))
    (line_piece (λ (_ : Bool). Unit {0}) (answer (codes "slew met")) (answer_at (codes "slew met")) (answer_part (codes "slew met")) (at + 1) true tt)
    (λ a fits. refl) (omega arith)
    (line_piece (λ (_ : Unit {0}). Unit {0}) (λ _. codes "end\n") (word_at (codes "end\n")) (word_part (codes "end\n")) (at + 2) tt tt)
    tt tt)
    (true, tt) (tt, tt)

-- a figure before other lines
module _ {B : Type 0} (label : List ℕ) (places at at_rest : ℕ) (at_is : at_rest ≡ at + 1) (Fits : B → Type 0) (lines : B → List (List ℕ)) (read : LinesReader B)
    (others : IsPiece Fits lines at_rest read) (some : B) (some_fits : Fits some) where
  figure_then : IsPiece (λ (c : ℕ × B). IsShort c.0 × Fits c.1) (λ c. figure_text label places c.0 ++ lines c.1) at (both_lines (line_at at (figure_at label places)) read)
  figure_then =
      both_piece IsShort (figure_text label places) (line_at at (figure_at label places)) at 1 at_rest Fits lines read
      (figure_piece label places at) (λ n fits. one_figure label places n) at_is others some some_fits

answers : Bool × (Bool × Unit {0})
answers = (true, (true, tt))

answers_fit : AnyAnswers answers
unfolding AnyAnswers
answers_fit = (tt, (tt, tt))

short_zero : IsShort 0
short_zero = omega arith

-- arrivals

pub some_arrivals : Version → Option PrintedArrivals
some_arrivals One = None
some_arrivals Two = Some (record { greatest = 0; least = 0 })

pub some_arrivals_fit : (version : Version) → AreArrivals version (some_arrivals version)
unfolding some_arrivals
some_arrivals_fit One = tt
some_arrivals_fit Two = (short_zero, short_zero)

pub length-arrival_lines : (version : Version) (arrivals : Option PrintedArrivals) → AreArrivals version arrivals
    → length (arrival_lines arrivals) ≡ arrival_count version
unfolding arrival_lines
length-arrival_lines One None fits = refl
length-arrival_lines One (Some arrivals) fits = absurd fits
length-arrival_lines Two None fits = absurd fits
length-arrival_lines Two (Some arrivals) fits = refl

none_joins : (c : Option PrintedArrivals) → c ≡ None → AreArrivals One c × (arrival_lines c ≡ [])
unfolding arrival_lines
none_joins None e = (tt, refl)
none_joins (Some arrivals) e = absurd (none_is (sym e))

none_splits : (c : Option PrintedArrivals) → AreArrivals One c → (c ≡ None) × (c ≡ c)
none_splits None fits = (refl, refl)
none_splits (Some arrivals) fits = absurd fits

two_lines : ℕ × ℕ → List (List ℕ)
two_lines c = figure_text (codes "arrival greatest ") 16 c.0 ++ figure_text (codes "arrival least ") 16 c.1

two_joins : (c : ℕ × ℕ) → IsShort c.0 × IsShort c.1 → AreArrivals Two (arrivals_of_two c) × (arrival_lines (arrivals_of_two c) ≡ two_lines c)
unfolding arrival_lines two_lines figure_text time
two_joins c fits = (fits, refl)

two_or : Option PrintedArrivals → ℕ × ℕ
two_or None = (0, 0)
two_or (Some arrivals) = (arrivals.greatest, arrivals.least)

two_splits : (c : Option PrintedArrivals) → AreArrivals Two c → (IsShort ((two_or c).0) × IsShort ((two_or c).1)) × (arrivals_of_two (two_or c) ≡ c)
unfolding two_or
two_splits None fits = absurd fits
two_splits (Some arrivals) fits = (fits, refl)

arrivals_piece : (version : Version) (at : ℕ) → IsPiece (AreArrivals version) arrival_lines at (arrivals_at version at)
unfolding arrivals_at two_lines
arrivals_piece One at =
    map_piece (λ (c : Option PrintedArrivals). c ≡ None) (λ _. []) (λ bytes. Ok (None, bytes)) at (AreArrivals One) arrival_lines (λ c. c) (λ c. c)
    (done_piece at None) none_joins none_splits
arrivals_piece Two at =
    map_piece (λ (c : ℕ × ℕ). IsShort c.0 × IsShort c.1) two_lines _ at (AreArrivals Two) arrival_lines arrivals_of_two two_or
    (figure_then (codes "arrival greatest ") 16 at (at + 1) refl IsShort (figure_text (codes "arrival least ") 16) _
    (figure_piece (codes "arrival least ") 16 (at + 1)) 0 short_zero)
    two_joins two_splits

-- the lines from the skew on

ClosingFits : ClosingFound → Type 0
ClosingFits c = IsShort c.0 × (IsShort c.1.0 × AnyAnswers c.1.1)

closing_text : ClosingFound → List (List ℕ)
closing_text c = figure_text (codes "skew ") 16 c.0 ++ (figure_text (codes "bound ") 16 c.1.0 ++ answers_text c.1.1)

closing_piece : (at : ℕ) → IsPiece ClosingFits closing_text at (closing_at at)
unfolding closing_at ClosingFits closing_text
closing_piece at =
    let e3 : at + 2 + 1 ≡ at + 3 = omega arith in
    let e4 : at + 2 + 2 ≡ at + 4 = omega arith in
    let last = rw (e3, e4) at (answers_piece (at + 2)) in
    let bound = figure_then (codes "bound ") 16 (at + 1) (at + 2) (omega arith) AnyAnswers answers_text _ last answers answers_fit in
    figure_then (codes "skew ") 16 at (at + 1) refl _ _ _ bound (0, answers) (short_zero, answers_fit)

closing : ClosingFound
closing = (0, (0, answers))

closing_fit : ClosingFits closing
unfolding ClosingFits closing
closing_fit = (short_zero, (short_zero, answers_fit))

-- all lines

FoundFits : Version → TotalsFound → Type 0
FoundFits version c =
    IsShort c.0 × (IsShort c.1.0 × (IsShort c.1.1.0 × (IsShort c.1.1.1.0 × (AreArrivals version c.1.1.1.1.0 × ClosingFits c.1.1.1.1.1))))

found_lines : TotalsFound → List (List ℕ)
found_lines c =
    figure_text (codes "source load ") 6 c.0 ++ (figure_text (codes "wire total ") 3 c.1.0 ++ (figure_text (codes "delay greatest ") 16 c.1.1.0
    ++ (figure_text (codes "delay least ") 16 c.1.1.1.0 ++ (arrival_lines c.1.1.1.1.0 ++ closing_text c.1.1.1.1.1))))

found_piece : (version : Version) (at : ℕ) → IsPiece (FoundFits version) found_lines at
    (both_lines (line_at at (figure_at (codes "source load ") 6))
    (both_lines (line_at (at + 1) (figure_at (codes "wire total ") 3))
    (both_lines (line_at (at + 2) (figure_at (codes "delay greatest ") 16))
    (both_lines (line_at (at + 3) (figure_at (codes "delay least ") 16))
    (both_lines (arrivals_at version (at + 3 + 1)) (closing_at (at + 3 + 1 + arrival_count version)))))))
unfolding FoundFits found_lines
found_piece version at =
    let some = some_arrivals version in
    let fit = some_arrivals_fit version in
    let arrivals =
    both_piece (AreArrivals version) arrival_lines (arrivals_at version (at + 3 + 1)) (at + 3 + 1) (arrival_count version) (at + 3 + 1 + arrival_count version)
    ClosingFits closing_text (closing_at (at + 3 + 1 + arrival_count version)) (arrivals_piece version (at + 3 + 1)) (length-arrival_lines version) refl
    (closing_piece (at + 3 + 1 + arrival_count version)) closing closing_fit in
    let least = figure_then (codes "delay least ") 16 (at + 3) (at + 3 + 1) refl _ _ _ arrivals (some, closing) (fit, closing_fit) in
    let greatest = figure_then (codes "delay greatest ") 16 (at + 2) (at + 3) (omega arith) _ _ _ least (0, (some, closing)) (short_zero, (fit, closing_fit)) in
    let wire = figure_then (codes "wire total ") 3 (at + 1) (at + 2) (omega arith) _ _ _ greatest (0, (0, (some, closing))) (short_zero, (short_zero, (fit, closing_fit))) in
    figure_then (codes "source load ") 6 at (at + 1) refl _ _ _ wire (0, (0, (0, (some, closing)))) (short_zero, (short_zero, (short_zero, (fit, closing_fit))))

pub found_totals : PrintedTotals → TotalsFound
found_totals t =
    (t.source_load, (t.wire_total, (t.greatest, (t.least, (t.arrivals, (t.skew, (t.bound, (t.load_met, (t.slew_met, tt)))))))))

pub totals_piece : (version : Version) (at : ℕ) → IsPiece (IsPrintedTotals version) total_lines at (totals_at version at)
unfolding totals_at later_at total_lines closing_lines FoundFits found_lines ClosingFits closing_text AnyAnswers answers_text figure_text capacitance time length_in_um found_totals
totals_piece version at =
    map_piece (FoundFits version) found_lines _ at (IsPrintedTotals version) total_lines totals_of found_totals (found_piece version at)
    (λ c fits. (
      record {
        source_load = fits.0;
        wire_total = fits.1.0;
        greatest = fits.1.1.0;
        least = fits.1.1.1.0;
        arrivals = fits.1.1.1.1.0;
        skew = fits.1.1.1.1.1.0;
        bound = fits.1.1.1.1.1.1.0;
      },
      refl,
    ))
    (λ t fits. (
      (fits.source_load, (fits.wire_total, (fits.greatest, (fits.least, (fits.arrivals, (fits.skew, (fits.bound, (tt, (tt, tt))))))))),
      refl,
    ))
