use Rattle.std.proofs.Common.{rules, ◌≡◌, ◌+◌, ◌≤◌, sym, ap, subst, ◌∙◌}
use Rattle.std.proofs.lemmas.List.Sums.{get_or-le-sum_by}
use Rattle.gp_independence.specs.inside.Size.{condition_size, condition_sizes}
use Rattle.gp_independence.proofs.Sizes.{condition_size-Not, condition_size-And, condition_size-Or}
use Rattle.gp_independence.proofs.between.+asks_between.Goals as goal

pub asks_between-asks_between-requires : goal.asks_between-asks_between-requires
asks_between-asks_between-requires t c =
    let is = c.get.ensures in
    let z : condition_size c.args.condition.now ≡ 2 + condition_size c.in-Not.part = ap condition_size c.in-Not.is ∙ condition_size-Not c.in-Not.part in
    search rules

pub asks_between-asks_between-requires-in-And : goal.asks_between-asks_between-requires-in-And
asks_between-asks_between-requires-in-And t c =
    let is = c.get-in-And.ensures in
    let z : condition_size c.args.condition.now ≡ 2 + condition_size c.in-And.first + condition_sizes c.in-And.rest = ap condition_size c.in-And.is ∙ condition_size-And c.in-And.first c.in-And.rest in
    search rules

pub asks_between-some_between-requires : goal.asks_between-some_between-requires
asks_between-some_between-requires t c =
    let are = c.as_slice.ensures in
    let z : condition_size c.args.condition.now ≡ 2 + condition_size c.in-And.first + condition_sizes c.in-And.rest = ap condition_size c.in-And.is ∙ condition_size-And c.in-And.first c.in-And.rest in
    search rules

pub asks_between-asks_between-requires-in-Or : goal.asks_between-asks_between-requires-in-Or
asks_between-asks_between-requires-in-Or t c =
    let is = c.get-in-Or.ensures in
    let z : condition_size c.args.condition.now ≡ 2 + condition_size c.in-Or.first + condition_sizes c.in-Or.rest = ap condition_size c.in-Or.is ∙ condition_size-Or c.in-Or.first c.in-Or.rest in
    search rules

pub asks_between-some_between-requires-else-asks_between-2 : goal.asks_between-some_between-requires-else-asks_between-2
asks_between-some_between-requires-else-asks_between-2 t c =
    let are = c.as_slice-else-asks_between-2.ensures in
    let z : condition_size c.args.condition.now ≡ 2 + condition_size c.in-Or.first + condition_sizes c.in-Or.rest = ap condition_size c.in-Or.is ∙ condition_size-Or c.in-Or.first c.in-Or.rest in
    search rules

pub some_between-asks_between-requires : goal.some_between-asks_between-requires
some_between-asks_between-requires t c =
    let x = c.part-item.result in
    let l : condition_size x ≤ condition_sizes c.args.rest.now = subst (λ z. condition_size z ≤ condition_sizes c.args.rest.now) (sym c.part-item.is) (get_or-le-sum_by condition_size c.args.rest.now c.parts.part-index x c.parts-test.true) in
    search rules
