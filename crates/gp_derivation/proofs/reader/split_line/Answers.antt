use Rattle.std.proofs.Common.{sym}
use Rattle.gp_derivation.proofs.Lines.{cut_line, last_line}
use Rattle.gp_derivation.proofs.reader.split_line.Goals as goal

pub returns-in-Some-clause-lines : goal.returns-in-Some-clause-lines
returns-in-Some-clause-lines c = cut_line c.args.text.now c.in-Some.end (sym c.in-Some.ensures)

pub returns-in-None-clause-lines : goal.returns-in-None-clause-lines
returns-in-None-clause-lines c = last_line c.args.text.now c.requires (sym c.in-None.ensures)
