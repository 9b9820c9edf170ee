use Rattle.std.proofs.Common.{◌∙◌, ◌+◌, ◌++◌, ◌∷◌, [], ap, sym, append_assoc}
use Rattle.gp_scope.specs.Names.{entries}
use Rattle.gp_scope.proofs.Declared.{none_named, one_named}
use Rattle.gp_scope.proofs.declare.declare.Goals as goal

pub returns-in-None : goal.returns-in-None
returns-in-None c = record {
  entries = λ k h os. ap (λ l. c.args.level ++ l) (sym (c.in-None.ensures.entries k h os));
  names = none_named c.args.declaration.now c.args.level;
  once = c.in-None.ensures.once;
}

pub returns-in_ok-with-in-Some-clause-entries : goal.returns-in_ok-with-in-Some-clause-entries
returns-in_ok-with-in-Some-clause-entries c = λ k h os.
    let rest = entries (c.args.at.rules + k.rules) (c.args.at.procedures + k.procedures) os in
    ap (λ l. l ++ rest) c.in_ok-with-in-Some.ensures ∙ append_assoc c.args.level ((c.args.name.now, c.in-Some.meaning) ∷ []) rest ∙ ap (λ n. c.args.level ++ ((n, c.in-Some.meaning) ∷ rest)) c.requires.name
    ∙ ap (λ l. c.args.level ++ l) (sym (c.in-Some.ensures.entries k h os))

pub returns-in_ok-with-in-Some-clause-names : goal.returns-in_ok-with-in-Some-clause-names
returns-in_ok-with-in-Some-clause-names c = one_named c.args.declaration.now c.args.name.now c.in-Some.meaning c.args.level c.in_ok-with-in-Some.field-0 c.in_ok-with-in-Some.ensures c.requires.name
