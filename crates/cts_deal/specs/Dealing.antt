-- The rule of a deal, which holds between any two steps.
use Rattle.std.specs.Prelude.{◌≡◌, ℕ, ◌*◌, ◌<◌, ◌≤◌, [], ◌∷◌, length}
use mathlib.Core.Option.{some}
use lib.ListN.{get_elem?}
use Rattle.atomic_table.specs.Table.{State}
use Rattle.cts_deal.specs.declared.view.View.{View}
use Rattle.cts_deal.specs.Counts.{total, times}

-- The word is the next number. Shares add up to 64. Each number below the word stands once in the lists of all
-- views, and no other number does, so there are as many as the word says. A view has at most 257 numbers for each
-- part of its share: the word never wraps, and a spent view, which has no share, has no number.
pub record IsDealing {S : Type 0} (s : State S View) : Type 0 where
  pub next : ℕ
  pub word : s.words ≡ next ∷ []
  pub shares : total (λ v. v.share) s.views ≡ 64
  pub once : (n : ℕ) → n < next → total (λ v. times n v.drawn) s.views ≡ 1
  pub never : (n : ℕ) → next ≤ n → total (λ v. times n v.drawn) s.views ≡ 0
  pub numbers : total (λ v. length v.drawn) s.views ≡ next
  pub each : (i : ℕ) (v : View) → get_elem? s.views i ≡ some v → length v.drawn ≤ 257 * v.share
