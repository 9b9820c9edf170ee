use Rattle.std.proofs.Common.{rules}
use Rattle.gp_tokens.specs.Reading.{reader_of}
use Rattle.gp_syntax.specs.declared.expression.Cond.TheVariants as c
use Rattle.gp_expressions.proofs.Negations.{negation_more}
use Rattle.gp_expressions.proofs.RowLaws.{conjunction_is}
use Rattle.gp_expressions.specs.Expressions.{list}
use Rattle.gp_expressions.specs.Ranges.{chained}
use Rattle.gp_expressions.specs.Conditions.{negation, conjunction, disjunction, no_condition}
use Rattle.gp_expressions.proofs.condition.+condition.Goals as goal

pub read_negation-returns : goal.read_negation-returns
read_negation-returns t c = rw (negation_more (list c.args.rooms.lists) c.args.rooms.conditions c.if-conditions-eq0.false) c.read_negated.ensures

pub read_condition-returns-in_err-rows : goal.read_condition-returns-in_err-rows
unfolding disjunction
read_condition-returns-in_err-rows t k =
    let n = negation (list k.args.lists) k.args.room in
    let h = k.read_rows.ensures (reader_of n) (chained no_condition c.And) (reader_of (conjunction n)) (record { reads = λ old new r p. search rules }) (record { makes = λ a parts r p. search rules }) (conjunction_is n) in
    search rules

pub read_condition-returns : goal.read_condition-returns
unfolding disjunction
read_condition-returns t k =
    let n = negation (list k.args.lists) k.args.room in
    let h = k.read_rows.ensures (reader_of n) (chained no_condition c.And) (reader_of (conjunction n)) (record { reads = λ old new r p. search rules }) (record { makes = λ a parts r p. search rules }) (conjunction_is n) in
    search rules
