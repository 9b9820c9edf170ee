use Rattle.gp_syntax.specs.Tree.{declaration_of}
use Rattle.gp_reader.proofs.First.{refused_one}
use Rattle.gp_reader.proofs.rules.check_one.Goals as goal

pub returns-in_ok-copy-in-Err : goal.returns-in_ok-copy-in-Err
returns-in_ok-copy-in-Err c = rw (c.rule_fault.ensures, c.in_ok-copy-in-Err.ensures) (refused_one (declaration_of c.args.rule.now) c.in-Err.fault c.in-Err.ensures.fault)
