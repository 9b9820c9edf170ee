use Rattle.std.proofs.Common.{rules, refl, ◌≡◌, ◌-◌, length, ◌+◌, ◌≤◌, [], sym, ap, subst, ◌∙◌, arith}
use Rattle.gp_syntax.specs.Simple.{StandsIn}
use Rattle.gp_syntax.specs.Tree.{label_of}
use Rattle.gp_syntax.specs.Typing.{type_in}
use Rattle.gp_syntax.proofs.Trees.{label_of-Variable, label_of-Empty, label_of-Join}
use Rattle.gp_unify.specs.Unify.{atoms_in}
use Rattle.gp_unify.specs.Extension.{AreKnown}
use Rattle.gp_unify.specs.inside.Reading.{size, sizes}
use Rattle.gp_unify.proofs.Chains.{one_dotted, more_dotted, one_atom, size-Join, size-Dot, size_at, known_joins, atoms_of_joins}
use Rattle.gp_unify.proofs.label.+spare_label.Goals as goal

pub spare_in_joins-parts-init : goal.spare_in_joins-parts-init
spare_in_joins-parts-init t c =
    let ts = type_in c.args.types.now in
    let e = atoms_of_joins ts (label_of c.args.first.now) c.args.rest.now in
    let r = c.spare_in_label-left.ensures in
    omega arith

pub spare_in_joins-spare_in_label-left-requires-in-parts :
    goal.spare_in_joins-spare_in_label-left-requires-in-parts
spare_in_joins-spare_in_label-left-requires-in-parts t c =
    let x = c.part-item.result in
    let k : AreKnown (length c.args.types.now) (label_of x) = subst (λ z. AreKnown (length c.args.types.now) (label_of z)) (sym c.part-item.is) (c.requires.rest c.parts.part-index x c.parts-test.true) in
    let l : size x ≤ sizes c.args.rest.now = subst (λ z. size z ≤ sizes c.args.rest.now) (sym c.part-item.is) (size_at c.args.rest.now c.parts.part-index x c.parts-test.true) in
    search rules

pub spare_in_label-type_at-requires : goal.spare_in_label-type_at-requires
spare_in_label-type_at-requires t c =
    subst (AreKnown (length c.args.types.now)) (ap label_of c.in-Variable.is ∙ label_of-Variable c.in-Variable.x) c.requires c.in-Variable.x refl

pub spare_in_label-spare_in_label-requires : goal.spare_in_label-spare_in_label-requires
spare_in_label-spare_in_label-requires t c =
    let is = c.get-then-is_empty.ensures in
    let z : size c.args.label.now ≡ 2 + size c.in-Dot.first + sizes c.in-Dot.rest = ap size c.in-Dot.is ∙ size-Dot c.in-Dot.first c.in-Dot.rest in
    let n : c.in-Dot.rest ≡ [] = c.if-is_empty.ensures.0 refl in
    (search rules, rw is (λ x h. c.requires x (subst (StandsIn x) (sym (one_dotted (λ e. e) c.args.label.now c.in-Dot.first c.in-Dot.rest c.in-Dot.is n)) h)))

pub spare_in_label-returns-then-is_empty : goal.spare_in_label-returns-then-is_empty
spare_in_label-returns-then-is_empty t c =
    let ts = type_in c.args.types.now in
    let n : c.in-Dot.rest ≡ [] = c.if-is_empty.ensures.0 refl in
    c.spare_in_label.ensures ∙ ap (λ z. c.args.count - atoms_in ts (label_of z)) c.get-then-is_empty.ensures ∙ sym (one_dotted (λ e. c.args.count - atoms_in ts e) c.args.label.now c.in-Dot.first c.in-Dot.rest c.in-Dot.is n)

pub spare_in_label-returns-else-is_empty : goal.spare_in_label-returns-else-is_empty
spare_in_label-returns-else-is_empty t c =
    let ts = type_in c.args.types.now in
    let e : atoms_in ts (label_of c.args.label.now) ≡ 1 = more_dotted (atoms_in ts) 1 (λ d e. refl) c.args.label.now c.in-Dot.first c.in-Dot.rest c.in-Dot.is (λ n. let h = c.if-is_empty.ensures.1 n in cc) in
    omega arith

pub spare_in_label-spare_in_joins-requires : goal.spare_in_label-spare_in_joins-requires
spare_in_label-spare_in_joins-requires t c =
    let is = c.get.ensures in
    let are = c.as_slice.ensures in
    let e = c.in-Join.first in
    let ls = c.in-Join.rest in
    let w = known_joins (length c.args.types.now) (label_of e) ls (subst (AreKnown (length c.args.types.now)) (ap label_of c.in-Join.is ∙ label_of-Join e ls) c.requires) in
    let z : size c.args.label.now ≡ 2 + size e + sizes ls = ap size c.in-Join.is ∙ size-Join e ls in
    (search rules, (rw c.get.ensures w.0, rw c.as_slice.ensures w.1))

pub spare_in_label-returns-in-Join : goal.spare_in_label-returns-in-Join
spare_in_label-returns-in-Join t c =
    rw (c.in-Join.is, label_of-Join c.in-Join.first c.in-Join.rest, ← c.get.ensures, ← c.as_slice.ensures) c.spare_in_joins.ensures

pub spare_in_label-returns-in-Variable : goal.spare_in_label-returns-in-Variable
spare_in_label-returns-in-Variable t c = rw (c.in-Variable.is, label_of-Variable c.in-Variable.x, ← c.type_at.ensures) (c.saturating_sub.ensures ∙ ap (λ z. c.args.count - z) c.fixed_atoms.ensures)

pub spare_in_label-returns-in-Number : goal.spare_in_label-returns-in-Number
spare_in_label-returns-in-Number t c =
    let ts = type_in c.args.types.now in
    let e : atoms_in ts (label_of c.args.label.now) ≡ 1 = one_atom ts c.args.label.now c.in-Number.is in
    omega arith

pub spare_in_label-returns-in-Empty : goal.spare_in_label-returns-in-Empty
spare_in_label-returns-in-Empty t c = rw (c.in-Empty.is, label_of-Empty) (let e : c.args.count ≡ c.args.count - 0 = omega arith in e)
