use Rattle.std.proofs.Common.{rules, ◌≡◌, length, ◌+◌, ◌≤◌, [], List, Some, refl, sym, ap, subst, ◌∙◌, fold}
use Rattle.gp_syntax.specs.declared.kinds.VariableType.{VariableType}
use Rattle.gp_syntax.specs.Simple.{StandsIn}
use Rattle.gp_syntax.specs.Tree.{label_of}
use Rattle.gp_syntax.specs.Typing.{type_in}
use Rattle.gp_syntax.proofs.Trees.{label_of-Number, label_of-NegatedNumber, label_of-Empty, label_of-Text, label_of-Variable, label_of-Dot, label_of-Join}
use Rattle.gp_unify.specs.Extension.{AreKnown, known_of}
use Rattle.gp_unify.specs.Unify.{rest, read}
use Rattle.gp_unify.specs.inside.Reading.{Refuses, size, sizes, join_step}
use Rattle.gp_unify.proofs.Trails.{grown_on, grown_same}
use Rattle.gp_unify.proofs.Chains.{begins_read, value_read, one_dotted, chain_read, size-Join, size-Dot, size_at, known_dots, known_joins, read_joins_is, part_read, part_refused, first_refused, parts_read, refused}
use Rattle.gp_unify.proofs.label.+label.Goals as goal

-- ---- a chain

pub read_joins-returns-in_err-left-clause-reads : goal.read_joins-returns-in_err-left-clause-reads
read_joins-returns-in_err-left-clause-reads t c =
    let ts = type_in c.args.assignment.now.types in
    let n = c.args.reading.spare in
    let e = c.in_err-left.field-0.0 in
    refused _ e _ _ c.from_residual.ensures.1
    (subst (λ z. Refuses e z) (sym (read_joins_is ts n (label_of c.args.first.now) c.args.rest.now c.args.atoms.now (known_of c.args.assignment.now)))
    (first_refused (λ l s p. read ts n (label_of l) s p) e _ c.args.rest.now c.in_err-left.ensures.reads))

pub read_joins-read-requires-in-parts : goal.read_joins-read-requires-in-parts
read_joins-read-requires-in-parts t c =
    let x = c.part-item.result in
    let k : AreKnown (length c.args.assignment.now.types) (label_of x) = subst (λ z. AreKnown (length c.args.assignment.now.types) (label_of z)) (sym c.part-item.is) (c.requires.rest c.parts.part-index x c.parts-test.true) in
    let l : size x ≤ sizes c.args.rest.now = subst (λ z. size z ≤ sizes c.args.rest.now) (sym c.part-item.is) (size_at c.args.rest.now c.parts.part-index x c.parts-test.true) in
    (search rules, subst (λ (z : List VariableType). AreKnown (length z) (label_of x)) (sym c.parts.invariant.grown.types) k)

pub read_joins-returns-in_err-left-2-clause-reads : goal.read_joins-returns-in_err-left-2-clause-reads
read_joins-returns-in_err-left-2-clause-reads t c =
    let ts = type_in c.args.assignment.now.types in
    let n = c.args.reading.spare in
    let e = c.in_err-left-2.field-0.0 in
    let r : Refuses e (read ts n (label_of c.part-item.result) c.parts.left.now (known_of c.parts.assignment)) = subst (λ (z : List VariableType). Refuses e (read (type_in z) n (label_of c.part-item.result) c.parts.left.now (known_of c.parts.assignment))) c.parts.invariant.grown.types c.in_err-left-2.ensures.reads in
    refused _ e _ _ c.from_residual-in_err-left-2.ensures.1
    (subst (λ z. Refuses e z) (sym (read_joins_is ts n (label_of c.args.first.now) c.args.rest.now c.args.atoms.now (known_of c.args.assignment.now)))
    (part_refused (λ l s p. read ts n (label_of l) s p) e c.parts.left.now (known_of c.parts.assignment) c.parts.part-index c.part-item.result c.args.rest.now _ c.parts-test.true c.part-item.is r c.parts.invariant.on))

pub read_joins-returns-in_err-left-2-clause-grown : goal.read_joins-returns-in_err-left-2-clause-grown
read_joins-returns-in_err-left-2-clause-grown t c =
    grown_on _ _ _ _ _ _ c.parts.invariant.grown c.read-in-parts.ensures.grown

pub read_joins-parts-preserved : goal.read_joins-parts-preserved
read_joins-parts-preserved t c =
    let ts = type_in c.args.assignment.now.types in
    let n = c.args.reading.spare in
    let r : read ts n (label_of c.part-item.result) c.parts.left.now (known_of c.parts.assignment) ≡ Some (rest c.in_ok-left-2.left.now (known_of c.read-in-parts.new.assignment)) = subst (λ (z : List VariableType). read (type_in z) n (label_of c.part-item.result) c.parts.left.now (known_of c.parts.assignment) ≡ Some (rest c.in_ok-left-2.left.now (known_of c.read-in-parts.new.assignment))) c.parts.invariant.grown.types c.in_ok-left-2.ensures.reads in
    record {
      on = part_read (λ l s p. read ts n (label_of l) s p) c.parts.left.now c.in_ok-left-2.left.now (known_of c.parts.assignment) (known_of c.read-in-parts.new.assignment) c.parts.part-index c.part-item.result c.args.rest.now _ c.parts-test.true c.part-item.is r c.parts.invariant.on;
      grown = grown_on _ _ _ _ _ _ c.parts.invariant.grown c.read-in-parts.ensures.grown;
    }

pub read_joins-returns-clause-reads : goal.read_joins-returns-clause-reads
read_joins-returns-clause-reads t c =
    let ts = type_in c.args.assignment.now.types in
    let n = c.args.reading.spare in
    read_joins_is ts n (label_of c.args.first.now) c.args.rest.now c.args.atoms.now (known_of c.args.assignment.now)
    ∙ parts_read (λ l s p. read ts n (label_of l) s p) (Some (rest c.parts.left.now (known_of c.parts.assignment))) _ c.parts.part-index c.args.rest.now c.parts-test.false c.parts.invariant.on

-- ---- a part of it

pub read-read_variable-requires : goal.read-read_variable-requires
read-read_variable-requires t c =
    subst (AreKnown (length c.args.assignment.now.types)) (ap label_of c.in-Variable.is ∙ label_of-Variable c.in-Variable.x) c.requires c.in-Variable.x refl

pub read-returns-in-Variable-clause-reads : goal.read-returns-in-Variable-clause-reads
read-returns-in-Variable-clause-reads t c =
    rw (c.in-Variable.is, label_of-Variable c.in-Variable.x) c.read_variable.ensures.reads

pub read-read_joins-requires : goal.read-read_joins-requires
read-read_joins-requires t c =
    let is = c.get-in-Join.ensures in
    let are = c.as_slice-in-Join.ensures in
    let e = c.in-Join.first in
    let ls = c.in-Join.rest in
    let w = known_joins (length c.args.assignment.now.types) (label_of e) ls (subst (AreKnown (length c.args.assignment.now.types)) (ap label_of c.in-Join.is ∙ label_of-Join e ls) c.requires) in
    let z : size c.args.label.now ≡ 2 + size e + sizes ls = ap size c.in-Join.is ∙ size-Join e ls in
    (search rules, (rw c.get-in-Join.ensures w.0, rw c.as_slice-in-Join.ensures w.1))

pub read-read_chain-requires-clause-first : goal.read-read_chain-requires-clause-first
read-read_chain-requires-clause-first t c =
    let n = length c.args.assignment.now.types in
    rw c.get-else-is_empty.ensures (known_dots n (label_of c.in-Dot.first) c.in-Dot.rest (subst (AreKnown n) (ap label_of c.in-Dot.is ∙ label_of-Dot c.in-Dot.first c.in-Dot.rest) c.requires)).0

pub read-read_chain-requires-clause-rest : goal.read-read_chain-requires-clause-rest
read-read_chain-requires-clause-rest t c =
    let n = length c.args.assignment.now.types in
    rw c.as_slice.ensures (known_dots n (label_of c.in-Dot.first) c.in-Dot.rest (subst (AreKnown n) (ap label_of c.in-Dot.is ∙ label_of-Dot c.in-Dot.first c.in-Dot.rest) c.requires)).1

pub read-read-requires : goal.read-read-requires
read-read-requires t c =
    let is = c.get.ensures in
    let z : size c.args.label.now ≡ 2 + size c.in-Dot.first + sizes c.in-Dot.rest = ap size c.in-Dot.is ∙ size-Dot c.in-Dot.first c.in-Dot.rest in
    let n : c.in-Dot.rest ≡ [] = c.if-is_empty.ensures.0 refl in
    (search rules, rw is (λ x h. c.requires x (subst (StandsIn x) (sym (one_dotted (λ e. e) c.args.label.now c.in-Dot.first c.in-Dot.rest c.in-Dot.is n)) h)))

pub read-returns-in-Number-clause-reads : goal.read-returns-in-Number-clause-reads
read-returns-in-Number-clause-reads t c =
    rw (c.in-Number.is, label_of-Number c.in-Number.z) (begins_read _ c.behind_integer.result _ _ c.args.assignment.now c.or_differs.ensures c.behind_integer.ensures)

pub read-returns-in-NegatedNumber-clause-reads : goal.read-returns-in-NegatedNumber-clause-reads
read-returns-in-NegatedNumber-clause-reads t c =
    rw (c.in-NegatedNumber.is, label_of-NegatedNumber c.in-NegatedNumber.z) (value_read _ c.behind_minus.result _ _ c.args.assignment.now c.or_differs-in-NegatedNumber.ensures c.behind_minus.ensures)

pub read-returns-in-Text-clause-reads : goal.read-returns-in-Text-clause-reads
read-returns-in-Text-clause-reads t c =
    rw (c.in-Text.is, label_of-Text c.in-Text.text, ← c.as_bytes.ensures.value) (begins_read _ c.behind_string.result _ _ c.args.assignment.now c.or_differs-in-Text.ensures c.behind_string.ensures)

pub read-returns-in-Empty-clause-reads : goal.read-returns-in-Empty-clause-reads
read-returns-in-Empty-clause-reads t c =
    rw (c.in-Empty.is, label_of-Empty) refl

pub read-returns-in-Join-clause-reads : goal.read-returns-in-Join-clause-reads
read-returns-in-Join-clause-reads t c =
    rw (c.in-Join.is, label_of-Join c.in-Join.first c.in-Join.rest, ← c.get-in-Join.ensures, ← c.as_slice-in-Join.ensures) c.read_joins.ensures.reads

pub read-returns-then-is_empty-clause-reads :
    goal.read-returns-then-is_empty-clause-reads
read-returns-then-is_empty-clause-reads t c =
    let ts = type_in c.args.assignment.now.types in
    let n : c.in-Dot.rest ≡ [] = c.if-is_empty.ensures.0 refl in
    rw (one_dotted (λ e. read ts c.args.reading.spare e c.args.atoms.now (known_of c.args.assignment.now)) c.args.label.now c.in-Dot.first c.in-Dot.rest c.in-Dot.is n, ← c.get.ensures) c.read.ensures.reads

pub read-returns-else-is_empty-clause-reads :
    goal.read-returns-else-is_empty-clause-reads
read-returns-else-is_empty-clause-reads t c =
    let ts = type_in c.args.assignment.now.types in
    rw (chain_read ts c.args.reading.spare c.args.atoms.now (known_of c.args.assignment.now) c.args.label.now c.in-Dot.first c.in-Dot.rest c.in-Dot.is (λ n. let h = c.if-is_empty.ensures.1 n in cc), ← c.get-else-is_empty.ensures, ← c.as_slice.ensures) c.read_chain.ensures.reads

-- ---- what grew in a label

pub read-returns-in-Number-clause-grown : goal.read-returns-in-Number-clause-grown
read-returns-in-Number-clause-grown t c = grown_same _ _ _ _ refl refl

pub read-returns-in-NegatedNumber-clause-grown : goal.read-returns-in-NegatedNumber-clause-grown
read-returns-in-NegatedNumber-clause-grown t c = grown_same _ _ _ _ refl refl

pub read-returns-in-Text-clause-grown : goal.read-returns-in-Text-clause-grown
read-returns-in-Text-clause-grown t c = grown_same _ _ _ _ refl refl

pub read-returns-in-Empty-clause-grown : goal.read-returns-in-Empty-clause-grown
read-returns-in-Empty-clause-grown t c = grown_same _ _ _ _ refl refl

pub read-returns-in-Variable-clause-grown : goal.read-returns-in-Variable-clause-grown
read-returns-in-Variable-clause-grown t c = c.read_variable.ensures.grown

pub read-returns-in-Join-clause-grown : goal.read-returns-in-Join-clause-grown
read-returns-in-Join-clause-grown t c = c.read_joins.ensures.grown

pub read-returns-then-is_empty-clause-grown : goal.read-returns-then-is_empty-clause-grown
read-returns-then-is_empty-clause-grown t c = c.read.ensures.grown

pub read-returns-else-is_empty-clause-grown : goal.read-returns-else-is_empty-clause-grown
read-returns-else-is_empty-clause-grown t c = c.read_chain.ensures.grown

-- ---- the beginning and the end of a chain

pub read_joins-parts-init : goal.read_joins-parts-init
read_joins-parts-init t c = record {
  on = ap (λ z. fold (join_step (type_in c.args.assignment.now.types) c.args.reading.spare) z c.args.rest.now) (sym c.in_ok-left.ensures.reads);
  grown = c.in_ok-left.ensures.grown;
}

pub read_joins-returns-clause-grown : goal.read_joins-returns-clause-grown
read_joins-returns-clause-grown t c = c.parts.invariant.grown
