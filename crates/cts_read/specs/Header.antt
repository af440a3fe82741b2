-- The lines before the lists: what each holds, or its first cause.
use Rattle.std.specs.Prelude.{ℕ, pos, List, [], ◌∷◌, if◌then◌else◌, codes, Result, Ok, Err}
use Rattle.std.specs.Str.{bytes_eq}
use Rattle.cts_geom.specs.declared.bounds.Die.{Die}
use Rattle.cts_units.specs.declared.params.Wire.{Wire}
use Rattle.cts_instance.specs.declared.version.Version.{Version}
use Rattle.cts_instance.specs.declared.version.Version.TheVariants.{One, Two}
use Rattle.cts_instance.specs.FirstFault.{die_fault, source_fault, wire_fault, limits_fault}
use Rattle.cts_read.specs.declared.header.Source.{Source}
use Rattle.cts_read.specs.declared.header.Limits.{Limits}
use Rattle.cts_read.specs.declared.stop.Cause.{Cause}
use Rattle.cts_read.specs.declared.stop.Cause.TheVariants.{Word}
use Rattle.cts_read.specs.Grammar.{◌>>=◌, fields_of, number_of, refuse}

-- the version of an instance, which is one of two words
unfoldable pub version_in : List (List ℕ) → Result Version Cause
version_in [] = Err Word
version_in (w ∷ ws) = if bytes_eq w (codes "1") then Ok One else (if bytes_eq w (codes "2") then Ok Two else Err Word)

-- `cts 1` or `cts 2`
unfoldable pub version_of : List ℕ → Result Version Cause
version_of line = do
  words ← fields_of (codes "cts") 1 line
  version_in words

-- `die X1 Y1 X2 Y2`, in nm
unfoldable pub die_of : List ℕ → Result Die Cause
die_of line = do
  words ← fields_of (codes "die") 4 line
  x1 ← number_of 3 words
  y1 ← number_of 3 x1.1
  x2 ← number_of 3 y1.1
  y2 ← number_of 3 x2.1
  _ ← refuse (die_fault (record { x1 = pos x1.0; y1 = pos y1.0; x2 = pos x2.0; y2 = pos y2.0 }))
  Ok (record { x1 = pos x1.0; y1 = pos y1.0; x2 = pos x2.0; y2 = pos y2.0 })

-- `source X Y R`, in nm and µΩ
unfoldable pub source_of : Die → List ℕ → Result Source Cause
source_of die line = do
  words ← fields_of (codes "source") 3 line
  x ← number_of 3 words
  y ← number_of 3 x.1
  r ← number_of 6 y.1
  _ ← refuse (source_fault die (pos x.0) (pos y.0) r.0)
  Ok (record { x = pos x.0; y = pos y.0; r = r.0 })

-- `wire R C`, in µΩ and zF per nm
unfoldable pub wire_of : List ℕ → Result Wire Cause
wire_of line = do
  words ← fields_of (codes "wire") 2 line
  r ← number_of 3 words
  c ← number_of 3 r.1
  _ ← refuse (wire_fault (record { r = r.0; c = c.0 }))
  Ok (record { r = r.0; c = c.0 })

-- `limits INSERT LOAD SLEW`, in zF and 10^-27 s
unfoldable pub limits_of : List ℕ → Result Limits Cause
limits_of line = do
  words ← fields_of (codes "limits") 3 line
  insert_at ← number_of 6 words
  load ← number_of 6 insert_at.1
  slew ← number_of 15 load.1
  _ ← refuse (limits_fault insert_at.0 load.0 slew.0)
  Ok (record { insert_at = insert_at.0; load = load.0; slew = slew.0 })
