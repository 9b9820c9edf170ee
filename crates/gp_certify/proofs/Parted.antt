-- The ends of commands, put together from those of their parts.
use Rattle.std.proofs.Common.{◌≡◌, inl, inr, ℕ, zero, suc, ◌+◌, ◌<◌, ◌≤◌, List, [], ◌∷◌, length, slice_get, Some, Result, Ok, Err, IfOk, OnOk, Contains, refl, sym, ap, subst, ◌∙◌, arith}
use Rattle.gp_syntax.specs.Run.{Command, Call, Seq, If, Try, Or, Skip, Fail, Break, Procedure, Program}
use Rattle.gp_certify.specs.declared.node.Node.{Node}
use Rattle.gp_certify.specs.declared.node.Node.TheVariants as node
use Rattle.gp_certify.specs.declared.end.Outcome.{Outcome}
use Rattle.gp_certify.specs.declared.end.Outcome.TheVariants as outcome
use Rattle.gp_certify.specs.declared.end.End.{End}
use Rattle.gp_certify.specs.Places.{Spans, IsPart, IsTakenBack}
use Rattle.gp_certify.specs.Parts.{StepsAt, BlockedAt, OfParts}
use Rattle.gp_certify.specs.inside.View.{View, IsTape}
use Rattle.gp_certify.specs.Code.{at, Means}
use Rattle.gp_certify.specs.inside.Ways.{EndsSo, IsFirst, way_of, above, ByWay}
use Rattle.gp_certify.specs.inside.Grows.{Grows, OfOne}
use Rattle.gp_certify.specs.inside.Found.{AreEnds, Leaves}
use Rattle.gp_syntax.proofs.Runs.{traced}
use Rattle.gp_certify.proofs.Compose.{spans_out, spans_in, seq_row}
use Rattle.gp_certify.proofs.Grown.{grows_as}

pub if_ok : {X F : Type 0} (r : Result X F) (P Q : X → Type 0) → IfOk r P → ((x : X) → P x → Q x) → IfOk r Q
if_ok (Ok x) P Q h f = f x h
if_ok (Err e) P Q h f = tt

pub on_ok : {X F : Type 0} (r : Result X F) (P Q : Type 0) → OnOk r P → (P → Q) → OnOk r Q
on_ok (Ok x) P Q h f = f h
on_ok (Err e) P Q h f = tt

pub contains_one : (x e : End) → Contains (x ∷ []) e → x ≡ e
contains_one x e (zero, l, h) = h
contains_one x e (suc k, l, h) = absurd (omega arith)

pub nothing : (e : End) → Contains [] e → ⊥
nothing e (k, l, h) = absurd (omega arith)

-- the end of this place and this outcome
pub end_is : (e : End) (j : ℕ) (x : Outcome) → e.place ≡ j → e.outcome ≡ x → e ≡ record { place = j; outcome = x }
end_is e j x p o = λ z. record { place = p z; outcome = o z }

module _ (v : View) (w : IsTape v) where
  abbrev S : Command → ℕ → ℕ → Outcome → Type 0
  S = Spans v.program v.trace v.graphs

  abbrev P : Command → ℕ → ℕ → Outcome → Type 0
  P = OfParts v.program v.trace v.graphs S

  pub out : (p : Command) (i j : ℕ) (x : Outcome) → S p i j x → P p i j x
  out = spans_out v.program v.trace v.graphs w.graphs

  pub into : (p : Command) (i j : ℕ) (x : Outcome) → i ≤ length v.trace → P p i j x → S p i j x
  into = spans_in v.program v.trace v.graphs w.graphs

  -- a part of a trace that a command makes
  pub part_of : (p : Command) (i : ℕ) (e : End) → EndsSo v p i e → IsPart v.trace i e.place
  part_of p i e s = record { ordered = s.ordered; within = s.within; fits = (traced s.run).whole.backs }

  -- ---- commands without parts

  one : (p : Command) (i j : ℕ) (x : Outcome) → i ≤ length v.trace → P p i j x → ((y : Outcome) (k : ℕ) → P p i k y → (k ≡ j) × (y ≡ x)) → AreEnds v p i (record { place = j; outcome = x } ∷ [])
  one p i j x l s u = record {
    sound = λ e c. subst (EndsSo v p i) (contains_one _ e c) (into p i j x l s);
    whole = λ e h. let k = u e.outcome e.place (out p i e.place e.outcome h) in (0, omega arith, sym (end_is e j x k.0 k.1));
  }

  not_both : (c i : ℕ) → StepsAt v.program v.trace v.graphs c i → BlockedAt v.program v.graphs c i → ⊥
  not_both c i s b =
      let e : s.set ≡ b.set = cc (s.is_set, b.is_set) in
      b.blocked.none_applies s.found.rule s.step.rule s.found (subst (λ (z : List ℕ). Contains z s.found.rule) e s.step.in_set) s.step.is_rule (s.step.step.0, s.step.step.1)

  pub call_steps : (c i : ℕ) → i ≤ length v.trace → StepsAt v.program v.trace v.graphs c i → AreEnds v (Call c) i (record { place = i + 1; outcome = outcome.Gives } ∷ [])
  call_steps c i l s = one (Call c) i (i + 1) outcome.Gives l (s, refl) by
    where
      by : (y : Outcome) (k : ℕ) → P (Call c) i k y → (k ≡ i + 1) × (y ≡ outcome.Gives)
      by outcome.Gives k (a, e) = (e, refl)
      by outcome.Fails k (b, e) = absurd (not_both c i s b)
      by outcome.Breaks k h = absurd h

  pub call_blocked : (c i : ℕ) → i ≤ length v.trace → (StepsAt v.program v.trace v.graphs c i → ⊥) → BlockedAt v.program v.graphs c i → AreEnds v (Call c) i (record { place = i; outcome = outcome.Fails } ∷ [])
  call_blocked c i l n b = one (Call c) i i outcome.Fails l (b, refl) by
    where
      by : (y : Outcome) (k : ℕ) → P (Call c) i k y → (k ≡ i) × (y ≡ outcome.Fails)
      by outcome.Gives k (a, e) = absurd (n a)
      by outcome.Fails k (a, e) = (e, refl)
      by outcome.Breaks k h = absurd h

  pub call_neither : (c i : ℕ) → (StepsAt v.program v.trace v.graphs c i → ⊥) → (BlockedAt v.program v.graphs c i → ⊥) → AreEnds v (Call c) i []
  call_neither c i n b = record { sound = λ e h. absurd (nothing e h); whole = λ e h. absurd (by e.outcome e.place (out (Call c) i e.place e.outcome h)) }
    where
      by : (y : Outcome) (k : ℕ) → P (Call c) i k y → ⊥
      by outcome.Gives k (a, e) = n a
      by outcome.Fails k (a, e) = b a
      by outcome.Breaks k h = h

  pub skip_ends : (i : ℕ) → i ≤ length v.trace → AreEnds v Skip i (record { place = i; outcome = outcome.Gives } ∷ [])
  skip_ends i l = one Skip i i outcome.Gives l refl by
    where
      by : (y : Outcome) (k : ℕ) → P Skip i k y → (k ≡ i) × (y ≡ outcome.Gives)
      by outcome.Gives k e = (e, refl)
      by outcome.Fails k h = absurd h
      by outcome.Breaks k h = absurd h

  pub fail_ends : (i : ℕ) → i ≤ length v.trace → AreEnds v Fail i (record { place = i; outcome = outcome.Fails } ∷ [])
  fail_ends i l = one Fail i i outcome.Fails l refl by
    where
      by : (y : Outcome) (k : ℕ) → P Fail i k y → (k ≡ i) × (y ≡ outcome.Fails)
      by outcome.Gives k h = absurd h
      by outcome.Fails k e = (e, refl)
      by outcome.Breaks k h = absurd h

  pub break_ends : (i : ℕ) → i ≤ length v.trace → AreEnds v Break i (record { place = i; outcome = outcome.Breaks } ∷ [])
  break_ends i l = one Break i i outcome.Breaks l refl by
    where
      by : (y : Outcome) (k : ℕ) → P Break i k y → (k ≡ i) × (y ≡ outcome.Breaks)
      by outcome.Gives k h = absurd h
      by outcome.Fails k h = absurd h
      by outcome.Breaks k e = (e, refl)

  -- ---- procedures and choices

  pub procedure_ends : (k i : ℕ) (body : Command) (es : List End) → i ≤ length v.trace → slice_get v.program.procedures k ≡ Some body → AreEnds v body i es → AreEnds v (Procedure k) i es
  procedure_ends k i body es l s a = record {
    sound = λ e c. into (Procedure k) i e.place e.outcome l (body, s, a.sound e c);
    whole = λ e h. (let r = out (Procedure k) i e.place e.outcome h in
        let same : r.0 ≡ body = cc (r.1, s) in
        a.whole e (subst (λ (z : Command). EndsSo v z i e) same r.2));
  }

  pub or_ends : (p q : Command) (i : ℕ) (es fs gs : List End) → i ≤ length v.trace → AreEnds v p i es → AreEnds v q i fs → Grows (Contains es) (Contains gs) (Contains fs) → AreEnds v (Or p q) i gs
  or_ends p q i es fs gs l a b g = record {
    sound = λ e c. into (Or p q) i e.place e.outcome l (elim (g.only e c) [ inl z ↦ inl (a.sound e z) | inr z ↦ inr (b.sound e z) ]);
    whole = λ e h. (elim (out (Or p q) i e.place e.outcome h) [ inl z ↦ g.keeps e (a.whole e z) | inr z ↦ g.has e (b.whole e z) ]);
  }

  -- ---- sequences, `if` and `try`

  module _ (cs : List Command) where
    abbrev W : Node → ℕ → End → End → Type 0
    W x i f e = ByWay v cs (way_of x f.outcome) i f e

    record First (x : Node) (p : Command) (i : ℕ) (e : End) : Type 0 where
      pub first : End
      pub ends : EndsSo v p i first
      pub way : W x i first e

    seq_first : (a b i j : ℕ) (p : Command) (x : Outcome) → P (Seq p (at cs b)) i j x → First (node.Seq a b) p i (record { place = j; outcome = x })
    seq_first a b i j p outcome.Gives (m, s, t) = record { first = record { place = m; outcome = outcome.Gives }; ends = s; way = t }
    seq_first a b i j p outcome.Fails (inl s) = record { first = record { place = j; outcome = outcome.Fails }; ends = s; way = refl }
    seq_first a b i j p outcome.Fails (inr (m, s, t)) = record { first = record { place = m; outcome = outcome.Gives }; ends = s; way = t }
    seq_first a b i j p outcome.Breaks (inl s) = record { first = record { place = j; outcome = outcome.Breaks }; ends = s; way = refl }
    seq_first a b i j p outcome.Breaks (inr (m, s, t)) = record { first = record { place = m; outcome = outcome.Gives }; ends = s; way = t }

    seq_whole : (a b i m : ℕ) (p : Command) (y : Outcome) (e : End) → S p i m y → W (node.Seq a b) i (record { place = m; outcome = y }) e → P (Seq p (at cs b)) i e.place e.outcome
    seq_whole a b i m p outcome.Gives e s t = seq_row v.program v.trace v.graphs w.graphs i m e.place e.outcome s t
    seq_whole a b i m p outcome.Fails e s t = subst (λ (z : End). P (Seq p (at cs b)) i z.place z.outcome) (sym t) (inl s)
    seq_whole a b i m p outcome.Breaks e s t = subst (λ (z : End). P (Seq p (at cs b)) i z.place z.outcome) (sym t) (inl s)

    if_first : (a b c i : ℕ) (p : Command) (e : End) → P (If p (at cs b) (at cs c)) i e.place e.outcome → First (node.If a b c) p i e
    if_first a b c i p e (m, t, inl (s, u)) = record { first = record { place = m; outcome = outcome.Gives }; ends = s; way = (t, u) }
    if_first a b c i p e (m, t, inr (s, u)) = record { first = record { place = m; outcome = outcome.Fails }; ends = s; way = (t, u) }

    if_whole : (a b c i m : ℕ) (p : Command) (y : Outcome) (e : End) → S p i m y → W (node.If a b c) i (record { place = m; outcome = y }) e → P (If p (at cs b) (at cs c)) i e.place e.outcome
    if_whole a b c i m p outcome.Gives e s (t, u) = (m, t, inl (s, u))
    if_whole a b c i m p outcome.Fails e s (t, u) = (m, t, inr (s, u))
    if_whole a b c i m p outcome.Breaks e s t = absurd t

    try_first : (a b c i : ℕ) (p : Command) (e : End) → P (Try p (at cs b) (at cs c)) i e.place e.outcome → First (node.Try a b c) p i e
    try_first a b c i p e (m, inl (s, u)) = record { first = record { place = m; outcome = outcome.Gives }; ends = s; way = u }
    try_first a b c i p e (m, inr (t, s, u)) = record { first = record { place = m; outcome = outcome.Fails }; ends = s; way = (t, u) }

    try_whole : (a b c i m : ℕ) (p : Command) (y : Outcome) (e : End) → S p i m y → W (node.Try a b c) i (record { place = m; outcome = y }) e → P (Try p (at cs b) (at cs c)) i e.place e.outcome
    try_whole a b c i m p outcome.Gives e s u = (m, inl (s, u))
    try_whole a b c i m p outcome.Fails e s (t, u) = (m, inr (t, s, u))
    try_whole a b c i m p outcome.Breaks e s t = absurd t

    -- as the command of the whole is said
    as_whole : (p q : Command) (i : ℕ) (e : End) → p ≡ q → EndsSo v p i e → P q i e.place e.outcome
    as_whole p q i e same s = out q i e.place e.outcome (subst (λ (z : Command). EndsSo v z i e) same s)

    from_whole : (p q : Command) (i : ℕ) (e : End) → p ≡ q → i ≤ length v.trace → P q i e.place e.outcome → EndsSo v p i e
    from_whole p q i e same l s = subst (λ (z : Command). EndsSo v z i e) (sym same) (into q i e.place e.outcome l s)

    first_out : (n : ℕ) (x : Node) (m i : ℕ) (e : End) → Means v.program cs n x → IsFirst x m → EndsSo v (at cs n) i e → First x (at cs m) i e
    first_out n (node.Call c) m i e h f s = absurd f
    first_out n (node.Seq a b) m i e h f s = rw f (seq_first a b i e.place (at cs a) e.outcome (as_whole _ _ i e h.0 s))
    first_out n (node.If a b c) m i e h f s = rw f (if_first a b c i (at cs a) e (as_whole _ _ i e h.0 s))
    first_out n (node.Try a b c) m i e h f s = rw f (try_first a b c i (at cs a) e (as_whole _ _ i e h.0 s))
    first_out n (node.Loop a) m i e h f s = absurd f
    first_out n (node.Or a b) m i e h f s = absurd f
    first_out n node.Skip m i e h f s = absurd f
    first_out n node.Fail m i e h f s = absurd f
    first_out n node.Break m i e h f s = absurd f
    first_out n (node.Proc k a) m i e h f s = absurd f

    first_in : (n : ℕ) (x : Node) (m i : ℕ) (e f : End) → i ≤ length v.trace → Means v.program cs n x → IsFirst x m → EndsSo v (at cs m) i f → W x i f e → EndsSo v (at cs n) i e
    first_in n (node.Call c) m i e f l h o s t = absurd o
    first_in n (node.Seq a b) m i e f l h o s t = from_whole _ _ i e h.0 l (seq_whole a b i f.place (at cs a) f.outcome e (subst (λ (z : ℕ). EndsSo v (at cs z) i f) o s) t)
    first_in n (node.If a b c) m i e f l h o s t = from_whole _ _ i e h.0 l (if_whole a b c i f.place (at cs a) f.outcome e (subst (λ (z : ℕ). EndsSo v (at cs z) i f) o s) t)
    first_in n (node.Try a b c) m i e f l h o s t = from_whole _ _ i e h.0 l (try_whole a b c i f.place (at cs a) f.outcome e (subst (λ (z : ℕ). EndsSo v (at cs z) i f) o s) t)
    first_in n (node.Loop a) m i e f l h o s t = absurd o
    first_in n (node.Or a b) m i e f l h o s t = absurd o
    first_in n node.Skip m i e f l h o s t = absurd o
    first_in n node.Fail m i e f l h o s t = absurd o
    first_in n node.Break m i e f l h o s t = absurd o
    first_in n (node.Proc k a) m i e f l h o s t = absurd o

    -- what comes by all ways after the ends of the first part
    pub first_ends : (n : ℕ) (x : Node) (m i : ℕ) (es gs : List End) → i ≤ length v.trace → Means v.program cs n x → IsFirst x m → AreEnds v (at cs m) i es
        → Grows (Contains []) (Contains gs) (OfOne (λ f e. ByWay v cs (way_of x f.outcome) i f e) es (length es)) → AreEnds v (at cs n) i gs
    first_ends n x m i es gs l h o a g = record {
      sound = λ e c. elim (g.only e c) [ inl z ↦ absurd (nothing e z) | inr z ↦ first_in n x m i e z.0 l h o (a.sound z.0 z.1) z.2 ];
      whole = λ e s. let f = first_out n x m i e h o s in g.has e (f.first, a.whole f.first f.ends, f.way);
    }

-- ---- nodes

pub first_below : (program : Program) (cs : List Command) (n : ℕ) (x : Node) (m : ℕ) → Means program cs n x → IsFirst x m → m < n
first_below program cs n (node.Call c) m h f = absurd f
first_below program cs n (node.Seq a b) m h f = rw f h.1
first_below program cs n (node.If a b c) m h f = rw f h.1
first_below program cs n (node.Try a b c) m h f = rw f h.1
first_below program cs n (node.Loop a) m h f = absurd f
first_below program cs n (node.Or a b) m h f = absurd f
first_below program cs n node.Skip m h f = absurd f
first_below program cs n node.Fail m h f = absurd f
first_below program cs n node.Break m h f = absurd f
first_below program cs n (node.Proc k a) m h f = absurd f

above_less : (a n : ℕ) → a < n → a + 1 ≤ n
above_less a n l = omega arith

pub ways_below : (program : Program) (cs : List Command) (n : ℕ) (x : Node) (y : Outcome) → Means program cs n x → above (way_of x y) ≤ n
ways_below program cs n (node.Call c) y h = omega arith
ways_below program cs n (node.Seq a b) outcome.Gives h = above_less b n h.2
ways_below program cs n (node.Seq a b) outcome.Fails h = omega arith
ways_below program cs n (node.Seq a b) outcome.Breaks h = omega arith
ways_below program cs n (node.If a b c) outcome.Gives h = above_less b n h.2
ways_below program cs n (node.If a b c) outcome.Fails h = above_less c n h.3
ways_below program cs n (node.If a b c) outcome.Breaks h = omega arith
ways_below program cs n (node.Try a b c) outcome.Gives h = above_less b n h.2
ways_below program cs n (node.Try a b c) outcome.Fails h = above_less c n h.3
ways_below program cs n (node.Try a b c) outcome.Breaks h = omega arith
ways_below program cs n (node.Loop a) y h = omega arith
ways_below program cs n (node.Or a b) y h = omega arith
ways_below program cs n node.Skip y h = omega arith
ways_below program cs n node.Fail y h = omega arith
ways_below program cs n node.Break y h = omega arith
ways_below program cs n (node.Proc k a) y h = omega arith

-- ---- the end of a loop's body

pub leaves_failed : (v : View) (i : ℕ) (f given : End) (old new : End → Type 0) → f.outcome ≡ outcome.Fails → IsTakenBack v.trace i f.place → given ≡ record { place = f.place + 1; outcome = outcome.Gives }
    → Grows old new (λ e. e ≡ given) → Grows old new (Leaves v i f)
leaves_failed v i f given old new o t k g =
    grows_as old new _ (Leaves v i f) (λ e s. (ap (λ (z : End). z.outcome) (s ∙ k), inl (o, t, ap (λ (z : End). z.place) (s ∙ k))))
    (λ e s. elim s.1 [ inl z ↦ end_is e _ _ z.2 s.0 ∙ sym k | inr z ↦ absurd (apart z.0) ]) g
  where
    apart : f.outcome ≡ outcome.Breaks → ⊥
    apart b = let n : outcome.Fails ≡ outcome.Breaks = sym o ∙ b in absurd cc

pub leaves_broken : (v : View) (i : ℕ) (f given : End) (old new : End → Type 0) → f.outcome ≡ outcome.Breaks → given ≡ record { place = f.place; outcome = outcome.Gives }
    → Grows old new (λ e. e ≡ given) → Grows old new (Leaves v i f)
leaves_broken v i f given old new o k g =
    grows_as old new _ (Leaves v i f) (λ e s. (ap (λ (z : End). z.outcome) (s ∙ k), inr (o, ap (λ (z : End). z.place) (s ∙ k))))
    (λ e s. elim s.1 [ inl z ↦ absurd (apart z.0) | inr z ↦ end_is e _ _ z.1 s.0 ∙ sym k ]) g
  where
    apart : f.outcome ≡ outcome.Fails → ⊥
    apart b = let n : outcome.Breaks ≡ outcome.Fails = sym o ∙ b in absurd cc
