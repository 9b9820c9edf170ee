use Rattle.std.proofs.Common.{rules, refl, ◌≡◌, ◌-◌, length, ◌+◌, ◌≤◌, [], sym, ap, subst, ◌∙◌, arith}
use Rattle.gp_syntax.specs.Simple.{StandsIn}
use Rattle.gp_syntax.specs.Tree.{label_of}
use Rattle.gp_syntax.specs.Typing.{type_in}
use Rattle.gp_syntax.proofs.Trees.{label_of-Text, label_of-Variable, label_of-Dot}
use Rattle.gp_unify.specs.Unify.{characters_in}
use Rattle.gp_unify.specs.Extension.{AreKnown}
use Rattle.gp_unify.specs.inside.Reading.{size, sizes}
use Rattle.gp_unify.proofs.Chains.{one_joined, more_joined, no_text, size-Dot, size-Join, size_at, known_dots, characters_of_dots}
use Rattle.gp_unify.proofs.text.+spare_text.Goals as goal

pub spare_in_dots-parts-init : goal.spare_in_dots-parts-init
spare_in_dots-parts-init t c =
    let ts = type_in c.args.types.now in
    let e = characters_of_dots ts (label_of c.args.first.now) c.args.rest.now in
    let r = c.spare_in_text-left.ensures in
    omega arith

pub spare_in_dots-spare_in_text-left-requires-in-parts :
    goal.spare_in_dots-spare_in_text-left-requires-in-parts
spare_in_dots-spare_in_text-left-requires-in-parts t c =
    let x = c.part-item.result in
    let k : AreKnown (length c.args.types.now) (label_of x) = subst (λ z. AreKnown (length c.args.types.now) (label_of z)) (sym c.part-item.is) (c.requires.rest c.parts.part-index x c.parts-test.true) in
    let l : size x ≤ sizes c.args.rest.now = subst (λ z. size z ≤ sizes c.args.rest.now) (sym c.part-item.is) (size_at c.args.rest.now c.parts.part-index x c.parts-test.true) in
    search rules

pub spare_in_text-type_at-requires : goal.spare_in_text-type_at-requires
spare_in_text-type_at-requires t c =
    subst (AreKnown (length c.args.types.now)) (ap label_of c.in-Variable.is ∙ label_of-Variable c.in-Variable.x) c.requires c.in-Variable.x refl

pub spare_in_text-spare_in_text-requires : goal.spare_in_text-spare_in_text-requires
spare_in_text-spare_in_text-requires t c =
    let is = c.get-then-is_empty.ensures in
    let z : size c.args.part.now ≡ 2 + size c.in-Join.first + sizes c.in-Join.rest = ap size c.in-Join.is ∙ size-Join c.in-Join.first c.in-Join.rest in
    let n : c.in-Join.rest ≡ [] = c.if-is_empty.ensures.0 refl in
    (search rules, rw is (λ x h. c.requires x (subst (StandsIn x) (sym (one_joined (λ e. e) c.args.part.now c.in-Join.first c.in-Join.rest c.in-Join.is n)) h)))

pub spare_in_text-returns-then-is_empty : goal.spare_in_text-returns-then-is_empty
spare_in_text-returns-then-is_empty t c =
    let ts = type_in c.args.types.now in
    let n : c.in-Join.rest ≡ [] = c.if-is_empty.ensures.0 refl in
    c.spare_in_text.ensures ∙ ap (λ z. c.args.count - characters_in ts (label_of z)) c.get-then-is_empty.ensures ∙ sym (one_joined (λ e. c.args.count - characters_in ts e) c.args.part.now c.in-Join.first c.in-Join.rest c.in-Join.is n)

pub spare_in_text-returns-else-is_empty : goal.spare_in_text-returns-else-is_empty
spare_in_text-returns-else-is_empty t c =
    let ts = type_in c.args.types.now in
    let e : characters_in ts (label_of c.args.part.now) ≡ 0 = more_joined (characters_in ts) 0 (λ d e. refl) c.args.part.now c.in-Join.first c.in-Join.rest c.in-Join.is (λ n. let h = c.if-is_empty.ensures.1 n in cc) in
    omega arith

pub spare_in_text-spare_in_dots-requires : goal.spare_in_text-spare_in_dots-requires
spare_in_text-spare_in_dots-requires t c =
    let is = c.get.ensures in
    let are = c.as_slice.ensures in
    let e = c.in-Dot.first in
    let ls = c.in-Dot.rest in
    let w = known_dots (length c.args.types.now) (label_of e) ls (subst (AreKnown (length c.args.types.now)) (ap label_of c.in-Dot.is ∙ label_of-Dot e ls) c.requires) in
    let z : size c.args.part.now ≡ 2 + size e + sizes ls = ap size c.in-Dot.is ∙ size-Dot e ls in
    (search rules, (rw c.get.ensures w.0, rw c.as_slice.ensures w.1))

pub spare_in_text-returns-in-Text : goal.spare_in_text-returns-in-Text
spare_in_text-returns-in-Text t c = rw (c.in-Text.is, label_of-Text c.in-Text.text) (c.saturating_sub.ensures ∙ ap (λ z. c.args.count - length z) c.as_bytes.ensures.value)

pub spare_in_text-returns-in-Dot : goal.spare_in_text-returns-in-Dot
spare_in_text-returns-in-Dot t c =
    rw (c.in-Dot.is, label_of-Dot c.in-Dot.first c.in-Dot.rest, ← c.get.ensures, ← c.as_slice.ensures) c.spare_in_dots.ensures

pub spare_in_text-returns-in-Variable : goal.spare_in_text-returns-in-Variable
spare_in_text-returns-in-Variable t c = rw (c.in-Variable.is, label_of-Variable c.in-Variable.x, ← c.type_at.ensures) (c.saturating_sub-in-Variable.ensures ∙ ap (λ z. c.args.count - z) c.fixed_characters.ensures)

pub spare_in_text-returns-in-Number : goal.spare_in_text-returns-in-Number
spare_in_text-returns-in-Number t c =
    let ts = type_in c.args.types.now in
    let e : characters_in ts (label_of c.args.part.now) ≡ 0 = no_text (characters_in ts) 0 (λ z. refl) (λ z. refl) refl c.args.part.now c.in-Number.is in
    omega arith

pub spare_in_text-returns-in-Number-2 : goal.spare_in_text-returns-in-Number-2
spare_in_text-returns-in-Number-2 t c =
    let ts = type_in c.args.types.now in
    let e : characters_in ts (label_of c.args.part.now) ≡ 0 = no_text (characters_in ts) 0 (λ z. refl) (λ z. refl) refl c.args.part.now c.in-Number.is in
    omega arith

pub spare_in_text-returns-in-Number-3 : goal.spare_in_text-returns-in-Number-3
spare_in_text-returns-in-Number-3 t c =
    let ts = type_in c.args.types.now in
    let e : characters_in ts (label_of c.args.part.now) ≡ 0 = no_text (characters_in ts) 0 (λ z. refl) (λ z. refl) refl c.args.part.now c.in-Number.is in
    omega arith
