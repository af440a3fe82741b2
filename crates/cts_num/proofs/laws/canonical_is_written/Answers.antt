use Rattle.cts_num.proofs.CanonicalTexts.{canonical_is_written}
use Rattle.cts_num.proofs.laws.canonical_is_written.Goals as goal

pub returns : goal.returns
returns c = canonical_is_written
