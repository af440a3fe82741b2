-- How far a text was written.
use Rattle.std.specs.Prelude.{ℕ}
use Rattle.cts_io.specs.declared.write.WriteEnd.{WriteEnd}
use Rattle.cts_io.specs.declared.write.WriteEnd.TheVariants.{WriteFault}

-- how many bytes of the text the sink took before it failed
abbrev pub written_of : WriteEnd → ℕ
written_of (WriteFault written) = written
