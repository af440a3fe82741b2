-- The laws on one step up and one step down.
use Rattle.cts_elmore.specs.Laws.{PairsAddUp, PathsAddUp}
use Rattle.cts_elmore.proofs.Paths.{load_at_pair, delay_at_root, delay_at_part, stage_at_root, stage_at_part}
use Rattle.cts_elmore.proofs.Below.{greatest_at_pair, bound_at_pair}

pub pairs_add_up_lem : PairsAddUp
pairs_add_up_lem i l r n = record {
  load = load_at_pair i l r n;
  greatest = greatest_at_pair i l r n;
  bound_is = bound_at_pair i l r n;
}

pub paths_add_up_lem : PathsAddUp
paths_add_up_lem i root = (
  delay_at_root i root,
  stage_at_root i root,
  λ pair part above. record { delay = delay_at_part i root pair part above; stage = stage_at_part i root pair part above },
)
