-- The lines of a report but those of its nodes.
use Rattle.std.proofs.Common.{◌≡◌, ◌⊎◌, ℕ, ◌%◌, ◌≤◌, Bool, true, false, eqb, leb, ◌&&◌, List, ◌++◌, None, refl, sym, ◌∙◌, inl, inr, arith, codes}
use Rattle.std.proofs.lemmas.Bool.Decides.{eqb_tells, leb_tells}
use Rattle.cts_report.specs.Lines.{labelled, whole, answer, count_line}
use Rattle.cts_report_reader.specs.Reader.{IsStop, IsAny, IsPart}
use Rattle.cts_report_reader.specs.Bounds.{IsShort}
use Rattle.cts_report_reader.specs.Lines.{figure_at, answer_at, count_at}
use Rattle.cts_report_reader.specs.Words.{word_at, labelled_at, mapped_at}
use Rattle.cts_report_reader.proofs.Parts.{kept_part, same_part}
use Rattle.cts_report_reader.proofs.Labels.{word_part, labelled_part, le_bound}
use Rattle.cts_report_reader.proofs.PointParts.{map_part, both_part, true_false}
use Rattle.cts_report_reader.proofs.NodeParts.{first_part}

pub figure_part : (label : List ℕ) (places : ℕ) → IsPart IsAny IsShort (λ n. labelled label places n ++ codes "\n") (figure_at label places)
unfolding figure_at
figure_part label places =
    map_part IsAny (λ (c : ℕ × Unit {0}). IsShort c.0 × Unit {0}) (λ c. labelled label places c.0 ++ codes "\n") _ IsShort (λ n. labelled label places n ++ codes "\n") (λ c. c.0) (λ n. (n, tt))
    (both_part IsStop IsShort (labelled label places) (labelled_at label places) IsAny (λ (_ : Unit {0}). Unit {0}) (λ _. codes "\n") (word_at (codes "\n"))
    (labelled_part label places) (word_part (codes "\n")) (λ b rest fits ends. refl))
    (λ c fits. (fits.0, refl)) (λ n fits. ((fits, tt), refl))

IsYes : Bool → Type 0
IsYes true = Unit {0}
IsYes false = ⊥

IsNo : Bool → Type 0
IsNo true = ⊥
IsNo false = Unit {0}

yes_text : Bool → List ℕ
yes_text true = codes " yes\n"
yes_text false = codes " no\n"

is_yes : (b : Bool) → IsYes b → Unit {0} × (true ≡ b)
unfolding IsYes
is_yes true fits = (tt, refl)
is_yes false fits = absurd fits

is_no : (b : Bool) → IsNo b → Unit {0} × (false ≡ b)
unfolding IsNo
is_no true fits = absurd fits
is_no false fits = (tt, refl)

yes_part : IsPart IsAny IsYes yes_text (mapped_at (λ (_ : Unit {0}). true) (word_at (codes " yes\n")))
unfolding yes_text IsYes
yes_part =
    map_part IsAny (λ (_ : Unit {0}). Unit {0}) (λ _. codes " yes\n") (word_at (codes " yes\n")) IsYes yes_text (λ _. true) (λ _. tt) (word_part (codes " yes\n"))
    (λ a fits. (tt, refl)) is_yes

no_part : IsPart IsAny IsNo yes_text (mapped_at (λ (_ : Unit {0}). false) (word_at (codes " no\n")))
unfolding yes_text IsNo
no_part =
    map_part IsAny (λ (_ : Unit {0}). Unit {0}) (λ _. codes " no\n") (word_at (codes " no\n")) IsNo yes_text (λ _. false) (λ _. tt) (word_part (codes " no\n"))
    (λ a fits. (tt, refl)) is_no

which_answer : (b : Bool) → IsYes b ⊎ IsNo b
unfolding IsYes IsNo
which_answer true = inl tt
which_answer false = inr tt

no_is_not_yes : (b : Bool) (rest : List ℕ) → IsNo b → mapped_at (λ (_ : Unit {0}). true) (word_at (codes " yes\n")) (yes_text b ++ rest) ≡ None
unfolding IsNo yes_text word_at
no_is_not_yes true rest fits = absurd fits
no_is_not_yes false rest fits = refl

answer_is : (label : List ℕ) (b : Bool) → answer label b ≡ label ++ yes_text b
unfolding answer yes_text
answer_is label true = refl
answer_is label false = refl

pub answer_part : (label : List ℕ) → IsPart IsAny (λ (_ : Bool). Unit {0}) (answer label) (answer_at label)
unfolding answer_at
answer_part label =
    map_part IsAny (λ (c : Unit {0} × Bool). Unit {0} × Unit {0}) (λ c. label ++ yes_text c.1) _ (λ (_ : Bool). Unit {0}) (answer label) (λ c. c.1) (λ b. (tt, b))
    (both_part IsAny (λ (_ : Unit {0}). Unit {0}) (λ _. label) (word_at label) IsAny (λ (_ : Bool). Unit {0}) yes_text _
    (word_part label)
    (first_part IsAny IsYes IsNo (λ (_ : Bool). Unit {0}) yes_text _ _ yes_part no_part (λ _ _. tt) (λ _ _. tt) (λ b _. which_answer b) no_is_not_yes)
    (λ b rest fits ends. tt))
    (λ c fits. (tt, answer_is label c.1)) (λ b fits. ((tt, tt), refl))

-- how many nodes there are

pub record CountFits (count : ℕ) : Type 0 where
  pub few : count ≤ 131071
  pub odd : count % 2 ≡ 1

is_count : ℕ → Bool
is_count count = leb count 131071 && eqb (count % 2) 1

count_fits : (count : ℕ) → is_count count ≡ true → CountFits count
unfolding is_count
count_fits count e =
    elim (leb_tells count 131071) [
      | inl p ↦ elim (eqb_tells (count % 2) 1) [
        | inl q ↦ record { few = p.1; odd = q.1 }
        | inr q ↦ absurd (true_false (sym e ∙ rw (p.0, q.0) refl))
      ]
      | inr p ↦ absurd (true_false (sym e ∙ rw p.0 refl))
    ]

count_passes : (count : ℕ) → CountFits count → is_count count ≡ true
unfolding is_count
count_passes count h =
    elim (eqb_tells (count % 2) 1) [
      | inl q ↦ rw (le_bound count 131071 h.few, q.0) refl
      | inr q ↦ absurd (q.1 h.odd)
    ]

pub count_part : IsPart IsAny CountFits count_line count_at
unfolding count_at count_line whole is_count
count_part =
    map_part IsAny (λ (c : ℕ × Unit {0}). CountFits c.0 × Unit {0}) (λ c. labelled (codes "nodes ") 0 c.0 ++ codes "\n") _ CountFits count_line (λ c. c.0) (λ n. (n, tt))
    (both_part IsStop CountFits (labelled (codes "nodes ") 0) _ IsAny (λ (_ : Unit {0}). Unit {0}) (λ _. codes "\n") (word_at (codes "\n"))
    (same_part IsStop (λ count. IsShort count × (is_count count ≡ true)) CountFits (labelled (codes "nodes ") 0) _
    (kept_part IsStop IsShort (labelled (codes "nodes ") 0) (labelled_at (codes "nodes ") 0) is_count (labelled_part (codes "nodes ") 0))
    (λ count fits. count_fits count fits.1) (λ count fits. (omega (arith, fits.few), count_passes count fits)))
    (word_part (codes "\n")) (λ b rest fits ends. refl))
    (λ c fits. (fits.0, refl)) (λ n fits. ((fits, tt), refl))
