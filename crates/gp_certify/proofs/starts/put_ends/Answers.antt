use Rattle.std.proofs.Common.{◌≡◌, ℕ, length, Contains, refl, subst, arith}
use Rattle.gp_certify.specs.inside.Grows.{Grows, IsAmong}
use Rattle.gp_certify.proofs.Grown.{grows_none, among_none, grows_among}
use Rattle.gp_certify.proofs.starts.put_ends.Goals as goal

pub more-init : goal.more-init
more-init c = grows_none _ _ (among_none _)

pub more-preserved : goal.more-preserved
more-preserved c = grows_among _ _ _ c.args.more.now c.more.end-index _ _ c.more-test.true refl c.more.invariant c.in_ok-put_end.ensures

pub returns : goal.returns
returns c =
    let n : c.more.end-index ≡ length c.args.more.now = omega arith in
    subst (λ (k : ℕ). Grows (Contains c.args.ends.now.items) (Contains c.more.ends.items) (IsAmong c.args.more.now k)) n c.more.invariant
