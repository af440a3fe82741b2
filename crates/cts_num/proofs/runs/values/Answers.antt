use Rattle.std.proofs.Common.{ℕ}
use Rattle.std.proofs.lemmas.Simd.{zip2_splat}
use Rattle.cts_num.proofs.runs.values.Goals as goal

pub returns : goal.returns
returns c = zip2_splat {Y = ℕ} _ c.args.bytes 16 48 c.requires
