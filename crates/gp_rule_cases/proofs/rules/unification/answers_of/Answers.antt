use Rattle.std.proofs.Common.{◌≡◌, ap, ◌∙◌}
use Rattle.gp_syntax.specs.Simple.{IsSimple}
use Rattle.gp_syntax.specs.Typing.{type_in}
use Rattle.gp_unify.proofs.Matches.{labels_all, labels_known}
use Rattle.gp_rule_cases.proofs.rules.unification.answers_of.Goals as goal

pub answers-requires-clause-known : goal.answers-requires-clause-known
answers-requires-clause-known c =
    let t : c.in-Ok.assignment.types ≡ c.args.parts.now.types = ap (λ a. a.types) c.in-Ok.ensures ∙ c.as_slice.ensures in
    rw (c.as_slice-left.ensures, t) (labels_known c.args.parts.now c.requires).0

pub answers-requires-clause-simple : goal.answers-requires-clause-simple
answers-requires-clause-simple c =
    let t : c.in-Ok.assignment.types ≡ c.args.parts.now.types = ap (λ a. a.types) c.in-Ok.ensures ∙ c.as_slice.ensures in
    rw (c.as_slice-left.ensures, t) (labels_all (IsSimple (type_in c.args.parts.now.types)) c.args.parts.now c.requires.left_labels_simple).0
