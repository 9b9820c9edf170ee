use Rattle.std.proofs.Common.{◌≡◌, sym, [], ◌∷◌, ◌++◌, ◌+◌, ◌≤◌, nat_lt, ap, ◌∙◌, arith}
use Rattle.std.specs.List.{flat_map}
use Rattle.gp_tokens.specs.declared.keyword.Keyword.TheVariants as words
use Rattle.gp_fmt.specs.declared.piece.Piece.{Piece}
use Rattle.gp_fmt.specs.declared.piece.Piece.TheVariants as p
use Rattle.gp_fmt.specs.Expressions.{Part, condition, part_of_condition, member, in_parentheses_if, or_level, and_level, not_level}
use Rattle.gp_fmt.specs.inside.Links.{condition_link}
use Rattle.gp_fmt.specs.inside.Sizes.{condition_size, condition_sizes}
use Rattle.gp_fmt.proofs.Forms.{of-HasType, of-HasEdge, of-HasEdgeWith, of-Compared, of-Not, links-And, links-Or}
use Rattle.gp_fmt.proofs.Puts.{nothing, wrapped, bare, and_then, told, more, all}
use Rattle.gp_fmt.proofs.Sizes.{size_within, condition_size-Not, condition_size-And, condition_size-Or}
use Rattle.gp_fmt.proofs.conditions.+condition.Goals as goal

pub put_condition-returns-in-HasType : goal.put_condition-returns-in-HasType
put_condition-returns-in-HasType t c =
    told (ap condition c.in-HasType.is ∙ ap (λ (x : Part). x.pieces) (of-HasType c.in-HasType.kind c.in-HasType.e)) (and_then (told (ap (λ (s : Piece). s ∷ []) (sym c.type_keyword.ensures)) c.word.ensures) (and_then c.sign.ensures (and_then c.put_expression.ensures c.sign-in-HasType.ensures)))

pub put_condition-returns-in-HasEdge : goal.put_condition-returns-in-HasEdge
put_condition-returns-in-HasEdge t c =
    told (ap condition c.in-HasEdge.is ∙ ap (λ (x : Part). x.pieces) (of-HasEdge c.in-HasEdge.source c.in-HasEdge.target)) (and_then c.put_ends.ensures c.sign-in-HasEdge.ensures)

pub put_condition-returns-in-HasEdgeWith : goal.put_condition-returns-in-HasEdgeWith
put_condition-returns-in-HasEdgeWith t c =
    told (ap condition c.in-HasEdgeWith.is ∙ ap (λ (x : Part). x.pieces) (of-HasEdgeWith c.in-HasEdgeWith.source c.in-HasEdgeWith.target c.in-HasEdgeWith.e c.in-HasEdgeWith.written)) (and_then c.put_ends-in-HasEdgeWith.ensures (and_then c.sign-in-HasEdgeWith.ensures (and_then c.put_label.ensures c.sign-in-HasEdgeWith-2.ensures)))

pub put_condition-returns-in-Compared : goal.put_condition-returns-in-Compared
put_condition-returns-in-Compared t c =
    told (ap condition c.in-Compared.is ∙ ap (λ (x : Part). x.pieces) (of-Compared c.in-Compared.comparison c.in-Compared.left c.in-Compared.right)) (and_then c.put_expression-in-Compared.ensures (and_then (told (ap (λ (s : Piece). s ∷ []) (sym c.comparison_kind.ensures)) c.sign-in-Compared.ensures) c.put_expression-in-Compared-2.ensures))

pub put_condition-returns-in-Not : goal.put_condition-returns-in-Not
put_condition-returns-in-Not t c =
    let e : condition c.args.c.now ≡ p.Word words.Not ∷ in_parentheses_if (nat_lt c.level_of.result not_level) (condition c.get-part.result.now) = rw (c.level_of.ensures, c.get-part.ensures) (ap condition c.in-Not.is ∙ ap (λ (x : Part). x.pieces) (of-Not c.in-Not.part)) in
    told e (and_then c.word-in-Not.ensures c.put_part.ensures)

pub put_condition-returns-in-And : goal.put_condition-returns-in-And
put_condition-returns-in-And t c =
    let e : condition c.args.c.now ≡ member and_level (part_of_condition c.get.result.now) ++ flat_map (condition_link words.And and_level) c.as_slice.result.now = rw (c.get.ensures, c.as_slice.ensures) (ap condition c.in-And.is ∙ ap (λ (x : Part). x.pieces) (links-And c.in-And.first c.in-And.rest)) in
    told e c.put_chain.ensures

pub put_condition-returns-in-Or : goal.put_condition-returns-in-Or
put_condition-returns-in-Or t c =
    let e : condition c.args.c.now ≡ member or_level (part_of_condition c.get-in-Or.result.now) ++ flat_map (condition_link words.Or or_level) c.as_slice-in-Or.result.now = rw (c.get-in-Or.ensures, c.as_slice-in-Or.ensures) (ap condition c.in-Or.is ∙ ap (λ (x : Part). x.pieces) (links-Or c.in-Or.first c.in-Or.rest)) in
    told e c.put_chain-in-Or.ensures

pub put_condition-put_part-requires : goal.put_condition-put_part-requires
put_condition-put_part-requires t c =
    let z : condition_size c.args.c.now ≡ 1 + condition_size c.get-part.result.now = rw (c.get-part.ensures) (ap condition_size c.in-Not.is ∙ condition_size-Not c.in-Not.part) in
    (omega arith, tt)

pub put_condition-put_chain-requires : goal.put_condition-put_chain-requires
put_condition-put_chain-requires t c =
    let z : condition_size c.args.c.now ≡ 1 + condition_size c.get.result.now + condition_sizes c.as_slice.result.now = rw (c.get.ensures, c.as_slice.ensures) (ap condition_size c.in-And.is ∙ condition_size-And c.in-And.first c.in-And.rest) in
    (omega arith, tt)

pub put_condition-put_chain-requires-in-Or : goal.put_condition-put_chain-requires-in-Or
put_condition-put_chain-requires-in-Or t c =
    let z : condition_size c.args.c.now ≡ 1 + condition_size c.get-in-Or.result.now + condition_sizes c.as_slice-in-Or.result.now = rw (c.get-in-Or.ensures, c.as_slice-in-Or.ensures) (ap condition_size c.in-Or.is ∙ condition_size-Or c.in-Or.first c.in-Or.rest) in
    (omega arith, tt)

pub put_chain-put_member-requires-in-each : goal.put_chain-put_member-requires-in-each
put_chain-put_member-requires-in-each t c =
    let l : condition_size c.part-item.result ≤ condition_sizes c.args.rest.now = size_within condition_size c.args.rest.now c.each.part-index c.part-item.result c.each-test.true c.part-item.is in
    (omega arith, tt)

pub put_part-returns-then-needed : goal.put_part-returns-then-needed
put_part-returns-then-needed t c = wrapped c.if-needed.true c.sign.ensures c.put_condition.ensures c.sign-then-needed.ensures

pub put_part-returns-else-needed : goal.put_part-returns-else-needed
put_part-returns-else-needed t c = bare c.if-needed.false c.put_condition-else-needed.ensures

pub put_chain-each-init : goal.put_chain-each-init
put_chain-each-init t c = nothing

pub put_chain-each-preserved : goal.put_chain-each-preserved
put_chain-each-preserved t c = more (condition_link c.args.word c.args.level) c.args.rest.now c.each-test.true c.part-item.is c.each.invariant (and_then c.word.ensures c.put_member-in-each.ensures)

pub put_chain-returns : goal.put_chain-returns
put_chain-returns t c = and_then c.put_member.ensures (all (condition_link c.args.word c.args.level) c.args.rest.now c.each-test.false c.each.invariant)
