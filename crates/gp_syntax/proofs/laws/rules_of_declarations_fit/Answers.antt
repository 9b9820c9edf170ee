use Rattle.gp_syntax.proofs.Declarations.{fits_declaration}
use Rattle.gp_syntax.proofs.laws.rules_of_declarations_fit.Goals as goal

pub returns : goal.returns
returns c = fits_declaration
