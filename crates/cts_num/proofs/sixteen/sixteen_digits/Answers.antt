use Rattle.std.proofs.Common.{◌∙◌, sym}
use Rattle.cts_num.proofs.Lanes.{bytes_of, lanes, lanes-small, sixteen_text}
use Rattle.cts_num.proofs.sixteen.sixteen_digits.Goals as goal

pub returns : goal.returns
returns c = rw c.twos-twos.ensures (bytes_of (lanes c.args.number) (lanes-small c.args.number c.requires) ∙ sym (sixteen_text c.args.number c.requires))
