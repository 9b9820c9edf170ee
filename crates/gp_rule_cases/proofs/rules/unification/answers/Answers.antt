use Rattle.std.proofs.Common.{length, List, sym, subst, get_or}
use Rattle.gp_syntax.specs.declared.kinds.VariableType.{VariableType}
use Rattle.gp_syntax.specs.Simple.{IsSimple}
use Rattle.gp_syntax.specs.Tree.{label_of}
use Rattle.gp_syntax.specs.Typing.{type_in}
use Rattle.gp_unify.specs.Extension.{AreKnown}
use Rattle.gp_rule_cases.proofs.rules.unification.answers.Goals as goal

pub told-requires-clause-known : goal.told-requires-clause-known
told-requires-clause-known c =
    let p = c.index-left-i.result in
    subst (λ (ts : List VariableType). AreKnown (length ts) (label_of (get_or c.args.left.now c.labels.i p).label)) (sym c.labels.invariant.types) (c.requires.known c.labels.i p c.labels-test.true)

pub told-requires-clause-simple : goal.told-requires-clause-simple
told-requires-clause-simple c =
    let p = c.index-left-i.result in
    subst (λ (ts : List VariableType). IsSimple (type_in ts) (label_of (get_or c.args.left.now c.labels.i p).label)) (sym c.labels.invariant.types) (c.requires.simple c.labels.i p c.labels-test.true)
