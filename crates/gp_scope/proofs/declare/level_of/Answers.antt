use Rattle.std.proofs.Common.{◌∙◌, ◌+◌, ◌<◌, ◌^◌, ◌++◌, ◌∷◌, [], ap, sym, subst, arith, drop, append-nil}
use Rattle.gp_values.specs.Names.{same_name, has_name}
use Rattle.gp_scope.specs.declared.survey.Survey.{Survey}
use Rattle.gp_scope.specs.Outline.{outline}
use Rattle.gp_scope.specs.Names.{entries}
use Rattle.gp_scope.specs.inside.Levels.{names_of}
use Rattle.gp_scope.specs.inside.Doubles.{name_of}
use Rattle.gp_scope.specs.Surveys.{declarations_in}
use Rattle.gp_scope.proofs.Outlines.{outline_from, outline_past}
use Rattle.gp_scope.proofs.Declared.{few_here, once_here, still_few, new_to_level, has_more, or_more, some_none}
use Rattle.gp_scope.proofs.declare.level_of.Goals as goal

pub each-init : goal.each-init
each-init c =
    let none = c.new-level.ensures in
    record {
      entries = ap (λ l. l ++ entries c.args.first.rules c.args.first.procedures (outline c.args.declarations.now)) none;
      once = ([], (c.requires.once, λ n h. ap (λ l. has_name (names_of l) n) (sym none) ∙ h));
      few = c.requires.few;
    }

pub declare-requires : goal.declare-requires
declare-requires c =
    let i = c.each.declaration-index in
    let ds = c.args.declarations.now in
    let d = c.declaration-item.result in
    let seen = c.each.invariant.once in
    let o = once_here ds i d seen.0 c.each-test.true c.declaration-item.is seen.1.0 in
    let again = c.name_of-name.ensures.again seen.0 (outline (drop (i + 1) ds)) in
    let new = new_to_level (names_of c.each.level) seen.0 (name_of d) seen.1.1 (λ h. some_none (name_of d) (sym (again h) ∙ o)) in
    record {
      name = c.name_of-name.ensures.name;
      new = ap (λ n. has_name (names_of c.each.level) n) c.name_of-name.ensures.name ∙ new;
    }

pub count_one-requires : goal.count_one-requires
count_one-requires c =
    let i = c.each.declaration-index in
    let ds = c.args.declarations.now in
    let few = few_here ds i c.declaration-item.result c.each.at c.each-test.true c.declaration-item.is c.each.invariant.few in
    (outline (drop (i + 1) ds), omega (arith, few))

pub plus-at-requires : goal.plus-at-requires
plus-at-requires c =
    let i = c.each.declaration-index in
    let ds = c.args.declarations.now in
    let d = c.declaration-item.result in
    let few = few_here ds i d c.each.at c.each-test.true c.declaration-item.is c.each.invariant.few in
    let f = still_few c.each.at c.count_one.result d (outline (drop (i + 1) ds)) c.count_one.ensures few in
    record { rules = f.rules; procedures = f.procedures; mains = f.mains }

pub each-preserved : goal.each-preserved
each-preserved c =
    let i = c.each.declaration-index in
    let ds = c.args.declarations.now in
    let d = c.declaration-item.result in
    let rest = outline (drop (i + 1) ds) in
    let seen = c.each.invariant.once in
    let e = outline_from ds i d c.each-test.true c.declaration-item.is in
    let o = once_here ds i d seen.0 c.each-test.true c.declaration-item.is seen.1.0 in
    let few = few_here ds i d c.each.at c.each-test.true c.declaration-item.is c.each.invariant.few in
    let f = still_few c.each.at c.count_one.result d rest c.count_one.ensures few in
    let told = c.in_ok-level.ensures in
    record {
      entries = ap (λ (s : Survey). c.in_ok-level.level ++ entries s.rules s.procedures rest) c.plus-at.ensures ∙ told.entries c.count_one.result c.count_one.ensures rest
          ∙ ap (λ x. c.each.level ++ entries c.each.at.rules c.each.at.procedures x) (sym e) ∙ c.each.invariant.entries;
      once = (seen.0 ++ name_of d ∷ [], (told.once seen.0 rest o, λ n h. has_more seen.0 (name_of d) n ∙ or_more (has_name (names_of c.each.level) n) (has_name seen.0 n) (same_name n (name_of d)) (seen.1.1 n) (told.names n h)));
      few = subst (λ (s : Survey). s.rules + s.procedures + s.mains + declarations_in rest < 2 ^ 32) (sym c.plus-at.ensures) f.behind;
    }

pub returns : goal.returns
returns c =
    let past = outline_past c.args.declarations.now c.each.declaration-index c.each-test.false in
    sym (append-nil c.each.level) ∙ sym (ap (λ x. c.each.level ++ entries c.each.at.rules c.each.at.procedures x) past) ∙ c.each.invariant.entries
