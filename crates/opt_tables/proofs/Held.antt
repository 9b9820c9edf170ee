-- Matches that are held together: one, and what is known of some.
use Rattle.std.proofs.Common.{◌≡◌, ℕ, ◌<◌, List, [], ◌∷◌, length, sym, subst, arith}
use Rattle.std.proofs.lemmas.List.Elements.{All-cons, All-nil}
use Rattle.opt_system.specs.Meaning.{Meaning, applies, AllIndependent}
use Rattle.opt_system.specs.Batch.{AreHeld}

module _ {State Found Goal Reason : Type 0} (m : Meaning State Found Goal Reason) where
  held_one : (goal : Goal) (share limit : ℕ) (at : State) (f : Found) → m.share goal f ≡ share → m.judged goal at f ≡ applies → 0 < limit → AreHeld m goal share at limit (f ∷ [])
  held_one goal share limit at f of_share now several = record {
    some = omega arith;
    few = omega arith;
    of_share = All-cons (λ (x : Found). m.share goal x ≡ share) f [] of_share (All-nil (λ (x : Found). m.share goal x ≡ share));
    independent = record {
      each_applies = All-cons (λ (x : Found). m.judged goal at x ≡ applies) f [] now (All-nil (λ (x : Found). m.judged goal at x ≡ applies));
      pairwise = λ i j d low high. absurd (omega arith);
    };
  }

  pub one_held : (goal goal' : Goal) (share limit : ℕ) (at : State) (f : Found) (held : List Found) → goal' ≡ goal → held ≡ f ∷ [] → m.share goal f ≡ share → m.judged goal at f ≡ applies → 0 < limit
      → AreHeld m goal' share at limit held
  one_held goal goal' share limit at f held same is of_share now several =
      subst (λ (g : Goal). AreHeld m g share at limit held) (sym same) (subst (λ (fs : List Found). AreHeld m goal share at limit fs) (sym is) (held_one goal share limit at f of_share now several))

  -- what is held is some matches, which are independent
  pub held_whole : (goal : Goal) (share limit : ℕ) (at : State) (held founds : List Found) → founds ≡ held → AreHeld m goal share at limit held → (0 < length founds) × AllIndependent m goal at founds
  held_whole goal share limit at held founds is all = subst (λ (fs : List Found). (0 < length fs) × AllIndependent m goal at fs) (sym is) (all.some, all.independent)
