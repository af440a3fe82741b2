-- Secrets, by the parts of an input that were mixed into them. Each part is a list of bytes, as SipHash takes it.
use Rattle.std.specs.Prelude.{◌≡◌, ℤ, ◌++◌}
use Rattle.std.specs.List.{fold}
use Rattle.std.specs.Hash.{HashWrites, u64, i64}
use Rattle.std.specs.Hash.DefaultHasher.{initial, write, finish}
use Rattle.std.specs.Hash.FoldHasher.{write as fold_write, initial as fold_initial}
use Rattle.std.specs.declared.hash.DefaultHasher.{DefaultHasher}
use Rattle.std.specs.declared.hash.FoldHasher.{FoldHasher}
use Rattle.cts_units.specs.declared.params.Sink.{Sink}
use Rattle.cts_memo.specs.declared.secret.Mixture.{Mixture}
use Rattle.cts_memo.specs.declared.secret.Secret.{Secret}

-- what SipHash has made of these parts
abbrev pub mixed : HashWrites → DefaultHasher
mixed parts = fold write initial parts

-- these parts, and no others, are in a mixture, in this order
abbrev pub Mixes : HashWrites → Mixture → Type 0
Mixes parts mixture = mixture.hasher ≡ mixed parts

-- the parts of a place, in nm
abbrev pub place_parts : ℤ → ℤ → HashWrites
place_parts x y = i64 x ++ i64 y

-- the parts of a sink
abbrev pub sink_parts : Sink → HashWrites
sink_parts sink = u64 sink.id ++ place_parts sink.x sink.y ++ u64 sink.cap ++ u64 sink.offset

-- the secret of these parts: the hash of them, and that of them with the number 1 behind them
pub record IsSecretOf (parts : HashWrites) (secret : Secret) : Type 0 where
  pub low : secret.low ≡ finish (mixed parts)
  pub high : secret.high ≡ finish (mixed (parts ++ u64 1))

-- the state with which the hash of each key begins: both halves of the secret were taken in
abbrev pub seeded_by : Secret → FoldHasher
seeded_by secret = fold fold_write fold_initial (u64 secret.low ++ u64 secret.high)
