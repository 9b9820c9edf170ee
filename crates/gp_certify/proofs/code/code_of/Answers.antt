use Rattle.std.proofs.Common.{refl}
use Rattle.gp_syntax.specs.Tree.{command_of, program_of_tree}
use Rattle.gp_certify.proofs.Scopes.{fits_main}
use Rattle.gp_certify.proofs.Tables.{whole}
use Rattle.gp_certify.proofs.code.code_of.Goals as goal

pub lower-requires-clause-fits : goal.lower-requires-clause-fits
lower-requires-clause-fits c = rw c.parts-parts.ensures.value (fits_main (program_of_tree c.args.program.now) c.parts-parts.ensures.scoped)

pub returns : goal.returns
returns c =
    whole (program_of_tree c.args.program.now) _ _ _ c.in_ok-root.root (command_of c.parts-parts.result.now.main) c.new.ensures.items c.in_ok-no_roots.ensures (rw c.parts-parts.ensures.value refl) c.in_ok-root.ensures.lowers
