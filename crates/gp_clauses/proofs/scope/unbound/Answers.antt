use Rattle.gp_syntax.specs.Tree.{declaration_of}
use Rattle.gp_clauses.proofs.Scopes.{unbound_left, unbound_right, unbound_tests}
use Rattle.gp_clauses.proofs.scope.unbound.Goals as goal

pub returns-in-Some : goal.returns-in-Some
returns-in-Some c = unbound_left (declaration_of c.args.rule.now) c.args.scope.now c.requires _ c.in-Some.ensures

pub returns-in-Some-unknown_in_labels : goal.returns-in-Some-unknown_in_labels
returns-in-Some-unknown_in_labels c = unbound_right (declaration_of c.args.rule.now) c.args.scope.now c.requires _ c.in_default.ensures c.in-Some-unknown_in_labels.ensures

pub returns : goal.returns
returns c = unbound_tests (declaration_of c.args.rule.now) c.args.scope.now c.requires _ c.in_default.ensures c.in_default-unknown_in_labels.ensures c.unknown_in_tests.ensures
