use Rattle.cts_read.specs.Header.{die_of, limits_of, source_of, version_of, wire_of}
use Rattle.cts_read.proofs.read.read_head.Given as goal

-- what each line holds
abbrev pub ghost-read_line : goal.ghost-read_line
ghost-read_line a = version_of

abbrev pub ghost-read_line-2 : goal.ghost-read_line-2
ghost-read_line-2 a = die_of

abbrev pub ghost-read_line-3 : goal.ghost-read_line-3
ghost-read_line-3 a = source_of a.read.0.now

abbrev pub ghost-read_line-4 : goal.ghost-read_line-4
ghost-read_line-4 a = wire_of

abbrev pub ghost-read_line-5 : goal.ghost-read_line-5
ghost-read_line-5 a = limits_of
