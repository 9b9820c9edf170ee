use Rattle.std.proofs.Common.{refl, sym, ap, ◌∙◌, ◌≡◌, ◌<◌, map, length, arith}
use Rattle.std.proofs.lemmas.Bool.{eqb-true}
use Rattle.std.proofs.lemmas.List.{take_more_same, length-map, get_or-map}
use Rattle.gp_syntax.specs.Expression.{Number, Text, Variable}
use Rattle.gp_syntax.specs.Tree.{label_of, expression_of, dots, joins}
use Rattle.gp_syntax.proofs.Trees.{label_of-Number, label_of-Text, label_of-Variable, label_of-Empty, label_of-Dot, label_of-Join, expression_of-Number, expression_of-Text, expression_of-Variable, expression_of-Empty, expression_of-Dot, expression_of-Join}
use Rattle.gp_step.proofs.same.+written.Goals as goal

pub is_written_again-returns-in-Number-Number : goal.is_written_again-returns-in-Number-Number
is_written_again-returns-in-Number-Number t c e =
    ap label_of c.in-Number-Number.is-0 ∙ label_of-Number c.in-Number-Number.a ∙ ap Number (c.is_same_number.ensures e) ∙ sym (ap expression_of c.in-Number-Number.is-1 ∙ expression_of-Number c.in-Number-Number.b)

pub is_written_again-returns-in-Text-Text : goal.is_written_again-returns-in-Text-Text
is_written_again-returns-in-Text-Text t c e =
    ap label_of c.in-Text-Text.is-0 ∙ label_of-Text c.in-Text-Text.a ∙ ap Text (c.same.ensures.0 e) ∙ sym (ap expression_of c.in-Text-Text.is-1 ∙ expression_of-Text c.in-Text-Text.b)

pub is_written_again-returns-in-Variable-Variable :
    goal.is_written_again-returns-in-Variable-Variable
is_written_again-returns-in-Variable-Variable t c e =
    ap label_of c.in-Variable-Variable.is-0 ∙ label_of-Variable c.in-Variable-Variable.a ∙ ap Variable (eqb-true _ _ e) ∙ sym (ap expression_of c.in-Variable-Variable.is-1 ∙ expression_of-Variable c.in-Variable-Variable.b)

pub is_written_again-returns-in-Empty-Empty : goal.is_written_again-returns-in-Empty-Empty
is_written_again-returns-in-Empty-Empty t c e =
    ap label_of c.in-Empty-Empty.is-0 ∙ label_of-Empty ∙ sym (ap expression_of c.in-Empty-Empty.is-1 ∙ expression_of-Empty)

pub is_written_again-returns-then-is_written_again :
    goal.is_written_again-returns-then-is_written_again
is_written_again-returns-then-is_written_again t c e =
    let first : label_of c.in-Dot-Dot.a ≡ expression_of c.in-Dot-Dot.b = ap label_of (sym c.get.ensures) ∙ c.if-is_written_again.ensures refl ∙ ap expression_of c.get-in-Dot-Dot.ensures in
    let others : map label_of c.in-Dot-Dot.others ≡ map expression_of c.in-Dot-Dot.again = ap (map label_of) (sym c.as_slice.ensures) ∙ c.are_written_again.ensures e ∙ ap (map expression_of) c.as_slice-then-is_written_again.ensures in
    ap label_of c.in-Dot-Dot.is-0 ∙ label_of-Dot c.in-Dot-Dot.a c.in-Dot-Dot.others ∙ (λ i. dots (first i) (others i))
    ∙ sym (ap expression_of c.in-Dot-Dot.is-1 ∙ expression_of-Dot c.in-Dot-Dot.b c.in-Dot-Dot.again)

pub is_written_again-returns-then-is_written_again-2 :
    goal.is_written_again-returns-then-is_written_again-2
is_written_again-returns-then-is_written_again-2 t c e =
    let first : label_of c.in-Join-Join.a ≡ expression_of c.in-Join-Join.b = ap label_of (sym c.get-in-Join-Join.ensures) ∙ c.if-is_written_again-2.ensures refl ∙ ap expression_of c.get-in-Join-Join-2.ensures in
    let others : map label_of c.in-Join-Join.others ≡ map expression_of c.in-Join-Join.again = ap (map label_of) (sym c.as_slice-then-is_written_again-2.ensures) ∙ c.are_written_again-then-is_written_again-2.ensures e ∙ ap (map expression_of) c.as_slice-then-is_written_again-2-2.ensures in
    ap label_of c.in-Join-Join.is-0 ∙ label_of-Join c.in-Join-Join.a c.in-Join-Join.others ∙ (λ i. joins (first i) (others i))
    ∙ sym (ap expression_of c.in-Join-Join.is-1 ∙ expression_of-Join c.in-Join-Join.b c.in-Join-Join.again)

pub are_written_again-parts-preserved : goal.are_written_again-parts-preserved
are_written_again-parts-preserved t c =
    let ls = c.args.left.now in
    let es = c.args.right.now in
    let i = c.parts.i in
    let x = c.index-left-i.result in
    let y = c.index-right-i.result in
    let inside : i < length ls = c.parts-test.true in
    let within : i < length es = omega arith in
    let same : label_of x ≡ expression_of y = c.if-not-is_written_again.ensures refl in
    let m : length (map label_of ls) ≡ length ls = length-map ls label_of in
    let n : length (map expression_of es) ≡ length es = length-map es expression_of in
    take_more_same (map label_of ls) (map expression_of es) i (label_of x) (omega arith) (omega arith) c.parts.invariant
    (get_or-map label_of ls i x (label_of x) inside ∙ ap label_of (sym c.index-left-i.is) ∙ same ∙ ap expression_of c.index-right-i.is ∙ sym (get_or-map expression_of es i y (label_of x) within))
