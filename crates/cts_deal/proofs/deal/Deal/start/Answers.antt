use Rattle.std.proofs.Common.{◌*◌, ◌≤◌, length, refl, arith}
use Rattle.cts_deal.specs.declared.view.View.{View}
use Rattle.cts_deal.specs.Views.{whole_view}
use Rattle.cts_deal.proofs.Seats.{each_single}
use Rattle.cts_deal.proofs.deal.Deal.start.Goals as goal

pub of_words-requires : goal.of_words-requires
of_words-requires c = record {
  next = 0;
  word = refl;
  shares = refl;
  once = λ n l. absurd (omega arith);
  never = λ n l. refl;
  numbers = refl;
  each = each_single (λ (v : View). length v.drawn ≤ 257 * v.share) whole_view (omega arith);
}
