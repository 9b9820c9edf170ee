use Rattle.std.proofs.Common.{rules, ◌≡◌, length, ◌+◌, ◌≤◌, [], List, Some, None, refl, sym, ap, subst, ◌∙◌, fold}
use Rattle.gp_syntax.specs.declared.kinds.VariableType.{VariableType}
use Rattle.gp_syntax.specs.Simple.{StandsIn}
use Rattle.gp_syntax.specs.Tree.{label_of}
use Rattle.gp_syntax.specs.Typing.{type_in}
use Rattle.gp_syntax.proofs.Trees.{label_of-Text, label_of-Variable, label_of-Dot}
use Rattle.gp_unify.specs.Extension.{AreKnown, known_of}
use Rattle.gp_unify.specs.Unify.{rest, read_text}
use Rattle.gp_unify.specs.inside.Reading.{Refuses, text_step, size, sizes}
use Rattle.gp_unify.proofs.Trails.{grown_on, grown_same}
use Rattle.gp_unify.proofs.Chains.{kept_to, kept_not, one_joined, more_joined, no_text, size-Dot, size-Join, size_at, known_dots, read_dots_is, part_read, part_refused, first_refused, parts_read, refused}
use Rattle.gp_unify.proofs.text.+text.Goals as goal

-- ---- a chain

pub read_dots-returns-in_err-left-clause-reads : goal.read_dots-returns-in_err-left-clause-reads
read_dots-returns-in_err-left-clause-reads t c =
    let ts = type_in c.args.assignment.now.types in
    let n = c.args.reading.spare in
    let e = c.in_err-left.field-0.0 in
    refused _ e _ _ c.from_residual.ensures.1
    (subst (λ z. Refuses e z) (sym (read_dots_is ts n (label_of c.args.first.now) c.args.rest.now c.args.codes.now (known_of c.args.assignment.now)))
    (first_refused (λ l s p. read_text ts n (label_of l) s p) e _ c.args.rest.now c.in_err-left.ensures.reads))

pub read_dots-read_text-requires-in-parts : goal.read_dots-read_text-requires-in-parts
read_dots-read_text-requires-in-parts t c =
    let x = c.part-item.result in
    let k : AreKnown (length c.args.assignment.now.types) (label_of x) = subst (λ z. AreKnown (length c.args.assignment.now.types) (label_of z)) (sym c.part-item.is) (c.requires.rest c.parts.part-index x c.parts-test.true) in
    let l : size x ≤ sizes c.args.rest.now = subst (λ z. size z ≤ sizes c.args.rest.now) (sym c.part-item.is) (size_at c.args.rest.now c.parts.part-index x c.parts-test.true) in
    (search rules, (subst (λ (z : List VariableType). AreKnown (length z) (label_of x)) (sym c.parts.invariant.grown.types) k, c.parts.invariant.text))

pub read_dots-returns-in_err-left-2-clause-reads : goal.read_dots-returns-in_err-left-2-clause-reads
read_dots-returns-in_err-left-2-clause-reads t c =
    let ts = type_in c.args.assignment.now.types in
    let n = c.args.reading.spare in
    let e = c.in_err-left-2.field-0.0 in
    let r : Refuses e (read_text ts n (label_of c.part-item.result) c.parts.left.now (known_of c.parts.assignment)) = subst (λ (z : List VariableType). Refuses e (read_text (type_in z) n (label_of c.part-item.result) c.parts.left.now (known_of c.parts.assignment))) c.parts.invariant.grown.types c.in_err-left-2.ensures.reads in
    refused _ e _ _ c.from_residual-in_err-left-2.ensures.1
    (subst (λ z. Refuses e z) (sym (read_dots_is ts n (label_of c.args.first.now) c.args.rest.now c.args.codes.now (known_of c.args.assignment.now)))
    (part_refused (λ l s p. read_text ts n (label_of l) s p) e c.parts.left.now (known_of c.parts.assignment) c.parts.part-index c.part-item.result c.args.rest.now _ c.parts-test.true c.part-item.is r c.parts.invariant.on))

pub read_dots-returns-in_err-left-2-clause-grown : goal.read_dots-returns-in_err-left-2-clause-grown
read_dots-returns-in_err-left-2-clause-grown t c =
    grown_on _ _ _ _ _ _ c.parts.invariant.grown c.read_text-in-parts.ensures.grown

pub read_dots-parts-preserved : goal.read_dots-parts-preserved
read_dots-parts-preserved t c =
    let ts = type_in c.args.assignment.now.types in
    let n = c.args.reading.spare in
    let r : read_text ts n (label_of c.part-item.result) c.parts.left.now (known_of c.parts.assignment) ≡ Some (rest c.in_ok-left-2.left.now (known_of c.read_text-in-parts.new.assignment)) = subst (λ (z : List VariableType). read_text (type_in z) n (label_of c.part-item.result) c.parts.left.now (known_of c.parts.assignment) ≡ Some (rest c.in_ok-left-2.left.now (known_of c.read_text-in-parts.new.assignment))) c.parts.invariant.grown.types c.in_ok-left-2.ensures.reads in
    record {
      on = part_read (λ l s p. read_text ts n (label_of l) s p) c.parts.left.now c.in_ok-left-2.left.now (known_of c.parts.assignment) (known_of c.read_text-in-parts.new.assignment) c.parts.part-index c.part-item.result c.args.rest.now _ c.parts-test.true c.part-item.is r c.parts.invariant.on;
      grown = grown_on _ _ _ _ _ _ c.parts.invariant.grown c.read_text-in-parts.ensures.grown;
      text = c.in_ok-left-2.ensures.text;
    }

pub read_dots-returns-clause-reads : goal.read_dots-returns-clause-reads
read_dots-returns-clause-reads t c =
    let ts = type_in c.args.assignment.now.types in
    let n = c.args.reading.spare in
    read_dots_is ts n (label_of c.args.first.now) c.args.rest.now c.args.codes.now (known_of c.args.assignment.now)
    ∙ parts_read (λ l s p. read_text ts n (label_of l) s p) (Some (rest c.parts.left.now (known_of c.parts.assignment))) _ c.parts.part-index c.args.rest.now c.parts-test.false c.parts.invariant.on

-- ---- a part of it

pub read_text-read_variable-requires-clause-known : goal.read_text-read_variable-requires-clause-known
read_text-read_variable-requires-clause-known t c =
    subst (AreKnown (length c.args.assignment.now.types)) (ap label_of c.in-Variable.is ∙ label_of-Variable c.in-Variable.x) c.requires.known c.in-Variable.x refl

pub read_text-returns-in-Variable-clause-reads : goal.read_text-returns-in-Variable-clause-reads
read_text-returns-in-Variable-clause-reads t c =
    rw (c.in-Variable.is, label_of-Variable c.in-Variable.x) c.read_variable.ensures.reads

pub read_text-read_dots-requires : goal.read_text-read_dots-requires
read_text-read_dots-requires t c =
    let is = c.get.ensures in
    let are = c.as_slice.ensures in
    let e = c.in-Dot.first in
    let ls = c.in-Dot.rest in
    let w = known_dots (length c.args.assignment.now.types) (label_of e) ls (subst (AreKnown (length c.args.assignment.now.types)) (ap label_of c.in-Dot.is ∙ label_of-Dot e ls) c.requires.known) in
    let z : size c.args.part.now ≡ 2 + size e + sizes ls = ap size c.in-Dot.is ∙ size-Dot e ls in
    (search rules, (rw c.get.ensures w.0, (rw c.as_slice.ensures w.1, c.requires.text)))

pub read_text-read_text-requires : goal.read_text-read_text-requires
read_text-read_text-requires t c =
    let is = c.get-then-is_empty.ensures in
    let z : size c.args.part.now ≡ 2 + size c.in-Join.first + sizes c.in-Join.rest = ap size c.in-Join.is ∙ size-Join c.in-Join.first c.in-Join.rest in
    let n : c.in-Join.rest ≡ [] = c.if-is_empty.ensures.0 refl in
    (search rules, (rw is (λ x h. c.requires.known x (subst (StandsIn x) (sym (one_joined (λ e. e) c.args.part.now c.in-Join.first c.in-Join.rest c.in-Join.is n)) h)), c.requires.text))

pub read_text-returns-in-Some-clause-reads : goal.read_text-returns-in-Some-clause-reads
read_text-returns-in-Some-clause-reads t c =
    rw (c.in-Text.is, label_of-Text c.in-Text.text, ← c.as_bytes.ensures.value) (kept_to _ _ c.in-Some.left.now (known_of c.args.assignment.now) c.in-Some.ensures.0 c.in-Some.ensures.1)

pub read_text-returns-in-None-clause-reads : goal.read_text-returns-in-None-clause-reads
read_text-returns-in-None-clause-reads t c =
    rw (c.in-Text.is, label_of-Text c.in-Text.text, ← c.as_bytes.ensures.value) (kept_not _ _ (known_of c.args.assignment.now) c.in-None.ensures)

pub read_text-returns-in-Dot-clause-reads : goal.read_text-returns-in-Dot-clause-reads
read_text-returns-in-Dot-clause-reads t c =
    rw (c.in-Dot.is, label_of-Dot c.in-Dot.first c.in-Dot.rest, ← c.get.ensures, ← c.as_slice.ensures) c.read_dots.ensures.reads

pub read_text-returns-then-is_empty-clause-reads :
    goal.read_text-returns-then-is_empty-clause-reads
read_text-returns-then-is_empty-clause-reads t c =
    let ts = type_in c.args.assignment.now.types in
    let n : c.in-Join.rest ≡ [] = c.if-is_empty.ensures.0 refl in
    rw (one_joined (λ e. read_text ts c.args.reading.spare e c.args.codes.now (known_of c.args.assignment.now)) c.args.part.now c.in-Join.first c.in-Join.rest c.in-Join.is n, ← c.get-then-is_empty.ensures) c.read_text.ensures.reads

pub read_text-returns-else-is_empty-clause-reads :
    goal.read_text-returns-else-is_empty-clause-reads
read_text-returns-else-is_empty-clause-reads t c =
    let ts = type_in c.args.assignment.now.types in
    more_joined (λ e. read_text ts c.args.reading.spare e c.args.codes.now (known_of c.args.assignment.now)) None (λ d e. refl) c.args.part.now c.in-Join.first c.in-Join.rest c.in-Join.is (λ n. let h = c.if-is_empty.ensures.1 n in cc)

pub read_text-returns-in-Number-clause-reads : goal.read_text-returns-in-Number-clause-reads
read_text-returns-in-Number-clause-reads t c =
    let ts = type_in c.args.assignment.now.types in
    no_text (λ e. read_text ts c.args.reading.spare e c.args.codes.now (known_of c.args.assignment.now)) None (λ z. refl) (λ z. refl) refl c.args.part.now c.in-Number.is

-- ---- what grew in a part, and that what is left is a text

pub read_text-returns-in-Some-clause-grown : goal.read_text-returns-in-Some-clause-grown
read_text-returns-in-Some-clause-grown t c = grown_same _ _ _ _ refl refl

pub read_text-returns-in-None-clause-grown : goal.read_text-returns-in-None-clause-grown
read_text-returns-in-None-clause-grown t c = grown_same _ _ _ _ refl refl

pub read_text-returns-in-Number-clause-grown : goal.read_text-returns-in-Number-clause-grown
read_text-returns-in-Number-clause-grown t c = grown_same _ _ _ _ refl refl

pub read_text-returns-else-is_empty-clause-grown : goal.read_text-returns-else-is_empty-clause-grown
read_text-returns-else-is_empty-clause-grown t c = grown_same _ _ _ _ refl refl

pub read_text-returns-in-Variable-clause-grown : goal.read_text-returns-in-Variable-clause-grown
read_text-returns-in-Variable-clause-grown t c = c.read_variable.ensures.grown

pub read_text-returns-in-Variable-clause-text : goal.read_text-returns-in-Variable-clause-text
read_text-returns-in-Variable-clause-text t c = c.read_variable.ensures.text

pub read_text-returns-in-Dot-clause-grown : goal.read_text-returns-in-Dot-clause-grown
read_text-returns-in-Dot-clause-grown t c = c.read_dots.ensures.grown

pub read_text-returns-in-Dot-clause-text : goal.read_text-returns-in-Dot-clause-text
read_text-returns-in-Dot-clause-text t c = c.read_dots.ensures.text

pub read_text-returns-then-is_empty-clause-grown : goal.read_text-returns-then-is_empty-clause-grown
read_text-returns-then-is_empty-clause-grown t c = c.read_text.ensures.grown

pub read_text-returns-then-is_empty-clause-text : goal.read_text-returns-then-is_empty-clause-text
read_text-returns-then-is_empty-clause-text t c = c.read_text.ensures.text

-- ---- the beginning and the end of a chain

pub read_dots-parts-init : goal.read_dots-parts-init
read_dots-parts-init t c = record {
  on = ap (λ z. fold (text_step (type_in c.args.assignment.now.types) c.args.reading.spare) z c.args.rest.now) (sym c.in_ok-left.ensures.reads);
  grown = c.in_ok-left.ensures.grown;
  text = c.in_ok-left.ensures.text;
}

pub read_dots-returns-clause-grown : goal.read_dots-returns-clause-grown
read_dots-returns-clause-grown t c = c.parts.invariant.grown

pub read_dots-returns-clause-text : goal.read_dots-returns-clause-text
read_dots-returns-clause-text t c = c.parts.invariant.text
