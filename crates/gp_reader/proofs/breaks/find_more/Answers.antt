use Rattle.std.proofs.Common.{◌≡◌, ◌∙◌, ap, sym, map, get_or, true, false, Bool, Vec, Global, length, arith, subst, ◌<◌, slice_get, Some}
use Rattle.std.proofs.Math.ListN.{set}
use Rattle.std.proofs.lemmas.List.{length-map}
use Rattle.gp_syntax.specs.Tree.{command_of}
use Rattle.gp_reader.specs.inside.Judged.{breaks_by}
use Rattle.gp_reader.proofs.Round.{Round, round_begins, round_passes, round_finds, no_more_unmarked, round_ends}
use Rattle.gp_reader.proofs.Strays_found.{body_at}
use Rattle.gp_reader.proofs.breaks.find_more.Goals as goal
use Rattle.gp_reader.proofs.breaks.find_more.Goals.{then-is_found, else-is_found}

pub loop-k-init : goal.loop-k-init
loop-k-init c = round_begins _ _

pub loop-k-preserved : goal.loop-k-preserved
loop-k-preserved c =
    let ps = c.args.procedures.now in
    let k = c.loop-k.k in
    let now = c.loop-k.known.items in
    let old = c.args.known.now.items in
    let body = command_of c.index-procedures-k.result in
    let at : slice_get (map command_of ps) k ≡ Some body = body_at ps k c.index-procedures-k.result c.loop-k-test.true c.index-procedures-k.is in
    let same = c.as_slice.ensures.value in
    let lt : k < length now = omega (arith, c.loop-k.invariant.count, c.requires, c.loop-k-test.true) in
    elim c.if-is_found.branch [
      | then-is_found w ↦
          (let a : c.if-is_found.known.items ≡ set now k true = ap (λ (v : Vec Bool Global). v.items) w.known-is in
          let u : get_or now k false ≡ false = subst (λ l. get_or l k false ≡ false) same (c.is_found.ensures.unknown w.if-is_found.true) in
          let b : breaks_by now body ≡ true = subst (λ l. breaks_by l body ≡ true) same (c.is_found.ensures.breaks w.if-is_found.true) in
          rw (a, w.more-is) (round_finds (map command_of ps) old now c.loop-k.more k body at lt u b (no_more_unmarked (map command_of ps) old now c.loop-k.more k c.loop-k.invariant) c.loop-k.invariant))
      | else-is_found w ↦
          (let a : c.if-is_found.known.items ≡ now = ap (λ (v : Vec Bool Global). v.items) w.known-is in
          rw (a, w.more-is) (round_passes (map command_of ps) old now c.loop-k.more k body at (subst (λ l. breaks_by l body ≡ true → get_or l k false ≡ true) same (c.is_found.ensures.passed w.if-is_found.false)) c.loop-k.invariant))
    ]

pub returns : goal.returns
returns c = round_ends (map command_of c.args.procedures.now) c.args.known.now.items c.loop-k.known.items c.loop-k.more c.loop-k.k (omega (arith, length-map c.args.procedures.now command_of, c.loop-k-test.false)) c.loop-k.invariant
