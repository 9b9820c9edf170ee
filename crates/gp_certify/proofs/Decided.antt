-- What the ends of Main say of its runs.
use Rattle.std.proofs.Common.{◌≡◌, ℕ, Bool, true, List, length, Contains, refl, sym, subst}
use Rattle.gp_syntax.specs.Run.{Command}
use Rattle.gp_certify.specs.declared.node.Node.{Node}
use Rattle.gp_certify.specs.declared.end.Outcome.{Outcome}
use Rattle.gp_certify.specs.declared.end.End.{End}
use Rattle.gp_certify.specs.inside.View.{View, IsTape}
use Rattle.gp_certify.specs.Code.{IsCodeOf}
use Rattle.gp_certify.specs.inside.Found.{AreEnds, AreEndsAt}
use Rattle.gp_certify.specs.inside.Whole.{HasRun}
use Rattle.gp_certify.proofs.Replayed.{whole_runs}

pub decided : (v : View) (code : List Node) (root place : ℕ) (es ds : List End) (x : Outcome) (b : Bool) → IsTape v → IsCodeOf v.program code root → AreEndsAt v code root 0 es → place ≡ length v.trace → ds ≡ es
    → (b ≡ true → Contains ds (record { place = place; outcome = x })) × (Contains ds (record { place = place; outcome = x }) → b ≡ true) → (b ≡ true → HasRun v x) × (HasRun v x → b ≡ true)
decided v code root place es ds x b w q a p e d =
    let k : AreEnds v v.program.main 0 es = subst (λ (z : Command). AreEnds v z 0 es) q.main (a q.commands q.code) in
    let r = whole_runs v.program (v.graphs 0) v.trace v.graphs w.graphs refl v.program.main x in (
      λ t. r.to_run (k.sound (record { place = length v.trace; outcome = x }) (subst (λ (z : List End). Contains z (record { place = length v.trace; outcome = x })) e (subst (λ (n : ℕ). Contains ds (record { place = n; outcome = x })) p (d.0 t)))),
      λ h. d.1 (subst (λ (n : ℕ). Contains ds (record { place = n; outcome = x })) (sym p) (subst (λ (z : List End). Contains z (record { place = length v.trace; outcome = x })) (sym e) (k.whole (record { place = length v.trace; outcome = x }) (r.from_run h.0 _ h.1).0))),
    )
