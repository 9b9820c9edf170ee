use Rattle.gp_fmt.proofs.print.print_program.Goals as goal

pub returns-clause-read : goal.returns-clause-read
returns-clause-read c bytes has_tree = c.canonical_texts_are_read.ensures bytes c.args.ast.now has_tree
