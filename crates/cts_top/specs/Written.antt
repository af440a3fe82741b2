-- What a run did to its output, where a predicate says which texts are right, and of which kind each is.
use Rattle.std.specs.Prelude.{◌≡◌, ◌≢◌, ◌≤◌, ℕ, List, take, Option, Result, Ok, Err, IfOk, IfErr, IsErrOf}
use Rattle.std.specs.Io.KnownBytes.{Appends}
use Rattle.cts_io.specs.Faults.{Rose}
use Rattle.cts_io.specs.declared.write.WriteEnd.{WriteEnd}
use Rattle.cts_top.specs.declared.stop.Answer.{Answer}
use Rattle.cts_top.specs.declared.stop.Stop.{Stop}
use Rattle.cts_top.specs.declared.stop.Stop.TheVariants as stop

-- which texts are right, and of which kind each is
abbrev pub Rule : Type 1
Rule = Answer → List ℕ → Type 0

-- the output grew by exactly a right text of this kind
abbrev pub IsAnswered : Rule → Answer → Option (List ℕ) → Option (List ℕ) → Type 0
IsAnswered Right kind old new = (text : List ℕ) × Right kind text × Appends old new text

-- the output grew by a front of a right text
abbrev pub IsAnsweredInPart : Rule → Option (List ℕ) → Option (List ℕ) → Type 0
IsAnsweredInPart Right old new =
    (kind : Answer) × (text : List ℕ) × (count : ℕ) × Right kind text × Appends old new (take count text)

-- how a run ends that wrote a text of this kind
abbrev pub ended_of : Result Unit WriteEnd → Answer → Result Answer Stop
ended_of (Ok done) kind = Ok kind
ended_of (Err end) kind = Err stop.WriteFault

-- How a run ends that has its input and writes its answer: whole, or in part where the output failed; or memory ran out
-- before it wrote anything.
pub record Answers {K : Type 0} (Right : Rule) (held : K → Option (List ℕ)) (faults : K → ℕ) (old new : K)
    (result : Result Answer Stop) : Type 0 where
  pub done : IfOk result (λ kind. IsAnswered Right kind (held old) (held new))
  pub in_part : IsErrOf result stop.WriteFault → IsAnsweredInPart Right (held old) (held new)
  pub rose : IsErrOf result stop.WriteFault → Rose (faults old) (faults new)
  pub kept : IfErr result (λ end. end ≢ stop.WriteFault → (new ≡ old) × (end ≡ stop.NoMemory))
  pub counted : faults old ≤ faults new
