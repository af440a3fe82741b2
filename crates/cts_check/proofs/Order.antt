-- The rules in their order.
use Rattle.std.proofs.Common.{◌≡◌, ℕ, ◌+◌, ◌<◌, ◌≤◌, inl, inr, ◌⊎◌, List, Option, Some, None, subst, arith}
use Rattle.std.proofs.lemmas.Bool.{cases_lt}
use Rattle.cts_tree.specs.declared.nodes.TreeNode.{TreeNode}
use Rattle.cts_instance.specs.declared.parts.Parts.{Parts}
use Rattle.cts_report.specs.Printed.{Printed}
use Rattle.cts_check.specs.declared.verdict.Rule.{Rule}
use Rattle.cts_check.specs.declared.verdict.Rule.TheVariants.{Sinks, Route, Short, BufferBlocked, Limit, Figure}
use Rattle.cts_check.specs.Rules.{rank, IsFirstFailing, Meets, IsFirstBroken}
use Rattle.cts_check.specs.Judgement.{MeetsBefore}
use Rattle.cts_check.proofs.Ranks.{same_rank}

-- what holds of a list of nodes holds of the told tree that it is
pub told_first : (Holds : List TreeNode → ℕ → Type 0) (nodes told : List TreeNode) → nodes ≡ told → (o r : Option ℕ) → o ≡ r
    → IsFirstFailing (Holds nodes) o → IsFirstFailing (Holds told) r
told_first Holds nodes told same o r is first =
    subst (λ ns. IsFirstFailing (Holds ns) r) same (subst (IsFirstFailing (Holds nodes)) is first)

module _ (i : Parts) (printed : Printed) where
  pub none_before : MeetsBefore i printed 0
  none_before rule less k = absurd (omega (arith, less))

  -- one rule more
  pub met_too : (rule : Rule) → MeetsBefore i printed (rank rule) → IsFirstFailing (Meets i printed rule) None
      → MeetsBefore i printed (rank rule + 1)
  met_too rule before met other less = by (cases_lt (rank other) (rank rule))
    where
      by : (rank other < rank rule) ⊎ (rank rule ≤ rank other) → (k : ℕ) → Meets i printed other k
      by (inl h) = before other h
      by (inr h) = let same : rule ≡ other = same_rank rule other (omega (arith, h, less)) in subst (λ r. (k : ℕ) → Meets i printed r k) same met

  pub broken_first : (rule : Rule) → MeetsBefore i printed (rank rule) → (k : ℕ) → IsFirstFailing (Meets i printed rule) (Some k)
      → IsFirstBroken i printed rule k
  broken_first rule before k first = record { broken = first.0; least = first.1; earlier = before }

  pub all_met : MeetsBefore i printed 6 → (rule : Rule) (k : ℕ) → Meets i printed rule k
  all_met before rule k = before rule (below rule) k
    where
      below : (r : Rule) → rank r < 6
      below Sinks = omega arith
      below Route = omega arith
      below Short = omega arith
      below BufferBlocked = omega arith
      below Limit = omega arith
      below Figure = omega arith
