use Rattle.std.proofs.Common.{◌≡◌, ◌∙◌, ◌+◌, ◌-◌, ◌<◌, ap, sym, Some, None, take, length, get_or, arith}
use Rattle.std.specs.Option.{option_or}
use Rattle.std.proofs.Math.Seq.{take-length}
use Rattle.gp_scope.specs.Names.{meaning_in}
use Rattle.gp_scope.specs.inside.Levels.{scope_of}
use Rattle.gp_scope.proofs.Pairs.{level_more, no_level}
use Rattle.gp_scope.proofs.level.meaning_at.Goals as goal

pub levels-init : goal.levels-init
levels-init c = (omega arith, ap (λ l. meaning_in (scope_of l) c.args.name.now) (take-length c.args.levels.now))

pub levels-preserved : goal.levels-preserved
levels-preserved c =
    let i = c.levels.count - 1 in
    let lt : i < length c.args.levels.now = omega (arith, c.levels.invariant.0, c.levels-test.true) in
    let back : i + 1 ≡ c.levels.count = omega (arith, c.levels-test.true) in
    let more = level_more c.args.levels.now i c.index-levels-count.result c.args.name.now lt in
    let m : meaning_in (get_or c.args.levels.now i c.index-levels-count.result) c.args.name.now ≡ None = ap (λ s. meaning_in s c.args.name.now) (sym c.index-levels-count.is) ∙ sym c.in_default.ensures in
    (omega (arith, lt), sym (ap (λ o. option_or o (meaning_in (scope_of (take i c.args.levels.now)) c.args.name.now)) m) ∙ sym more ∙ ap (λ n. meaning_in (scope_of (take n c.args.levels.now)) c.args.name.now) back ∙ c.levels.invariant.1)

pub returns-in-Some : goal.returns-in-Some
returns-in-Some c =
    let i = c.levels.count - 1 in
    let lt : i < length c.args.levels.now = omega (arith, c.levels.invariant.0, c.levels-test.true) in
    let back : i + 1 ≡ c.levels.count = omega (arith, c.levels-test.true) in
    let more = level_more c.args.levels.now i c.index-levels-count.result c.args.name.now lt in
    let m : meaning_in (get_or c.args.levels.now i c.index-levels-count.result) c.args.name.now ≡ Some c.in-Some.meaning = ap (λ s. meaning_in s c.args.name.now) (sym c.index-levels-count.is) ∙ sym c.in-Some.ensures in
    sym (ap (λ o. option_or o (meaning_in (scope_of (take i c.args.levels.now)) c.args.name.now)) m) ∙ sym more ∙ ap (λ n. meaning_in (scope_of (take n c.args.levels.now)) c.args.name.now) back ∙ c.levels.invariant.1

pub returns : goal.returns
returns c = sym (no_level c.args.levels.now c.levels.count c.args.name.now c.levels-test.false) ∙ c.levels.invariant.1
