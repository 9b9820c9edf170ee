-- What each function over a table of commands keeps.
use Rattle.std.proofs.Common.{◌≡◌, ◌⊎◌, inl, inr, ℕ, ◌+◌, ◌<◌, ◌≤◌, List, [], ◌∷◌, length, slice_get, slice_index_or, Some, Contains, refl, sym, ap, subst, ◌∙◌, arith}
use Rattle.std.proofs.lemmas.Option.{slice_get_within, slice_get-get_or}
use Rattle.gp_syntax.specs.Run.{Command, Loop, Program, Turned}
use Rattle.gp_certify.specs.declared.node.Node.{Node}
use Rattle.gp_certify.specs.declared.node.Node.TheVariants as node
use Rattle.gp_certify.specs.declared.ways.Way.{Way}
use Rattle.gp_certify.specs.declared.ways.Way.TheVariants as way
use Rattle.gp_certify.specs.declared.end.Outcome.{Outcome}
use Rattle.gp_certify.specs.declared.end.Outcome.TheVariants as outcome
use Rattle.gp_certify.specs.declared.end.End.{End}
use Rattle.gp_certify.specs.declared.starts.Reached.{Reached}
use Rattle.gp_certify.specs.Places.{Spans, IsPart, IsTakenBack}
use Rattle.gp_certify.specs.Parts.{OfParts}
use Rattle.gp_certify.specs.inside.View.{View, IsTape}
use Rattle.gp_certify.specs.Code.{at, IsCode}
use Rattle.gp_certify.specs.inside.Ways.{EndsSo, IsFirst, HasFirst, way_of, ByWay}
use Rattle.gp_certify.specs.inside.Grows.{Grows, Has, IsTaken, OfOne}
use Rattle.gp_certify.specs.inside.Memory.{Kept, Learns}
use Rattle.gp_certify.specs.inside.Found.{AreEnds, AreEndsAt, AreByWay, IsTrueOf, GoesOn, Leaves, HasTurned, IsFound}
use Rattle.gp_certify.specs.inside.Kept.{FirstsSoFar, TurnsSoFar}
use Rattle.gp_certify.proofs.Places.{item_within}
use Rattle.gp_certify.proofs.Grown.{grows_none, grows_as, grows_of}
use Rattle.gp_certify.proofs.Parted.{contains_one, nothing, out, into, first_below}

-- ---- an equal tape

pub tape_at : {u v : View} → u ≡ v → IsTape v → IsTape u
tape_at e h = subst IsTape (sym e) h

pub code_at : {u v : View} (code : List Node) → u ≡ v → ((cs : List Command) × IsCode v.program code cs) → (cs : List Command) × IsCode u.program code cs
code_at {u} {v} code e h = subst (λ (z : View). (cs : List Command) × IsCode z.program code cs) (sym e) h

pub place_at : {u v : View} {i : ℕ} → u ≡ v → i ≤ length v.trace → i ≤ length u.trace
place_at {u} {v} {i} e h = subst (λ (z : View). i ≤ length z.trace) (sym e) h

pub part_at : {u v : View} {i j : ℕ} → u ≡ v → IsPart v.trace i j → IsPart u.trace i j
part_at {u} {v} {i} {j} e h = subst (λ (z : View). IsPart z.trace i j) (sym e) h

pub memory_at : {u v : View} (code : List Node) (m : Kept) → u ≡ v → IsTrueOf v code m → IsTrueOf u code m
memory_at {u} {v} code m e h = subst (λ (z : View). IsTrueOf z code m) (sym e) h

pub ends_at : {u v : View} (code : List Node) (n i : ℕ) (es : List End) → u ≡ v → AreEndsAt v code n i es → AreEndsAt u code n i es
ends_at {u} {v} code n i es e h = subst (λ (z : View). AreEndsAt z code n i es) (sym e) h

-- ---- nodes

pub node_is : (code : List Node) (n : ℕ) (d x : Node) → n < length code → slice_index_or code n d ≡ x → slice_get code n ≡ Some x
node_is code n d x l e = slice_get-get_or code n d l ∙ ap Some e

pub first_of_three : (code : List Node) (n : ℕ) (x : Node) (m : ℕ) → slice_get code n ≡ Some x → ((a : ℕ) × (x ≡ node.Seq m a)) ⊎ (((a : ℕ) × (b : ℕ) × (x ≡ node.If m a b)) ⊎ ((a : ℕ) × (b : ℕ) × (x ≡ node.Try m a b))) → HasFirst code n m
first_of_three code n x m s h = record { shape = x; is_node = s; first = by h }
  where
    by : ((a : ℕ) × (x ≡ node.Seq m a)) ⊎ (((a : ℕ) × (b : ℕ) × (x ≡ node.If m a b)) ⊎ ((a : ℕ) × (b : ℕ) × (x ≡ node.Try m a b))) → IsFirst x m
    by (inl (a, e)) = rw e refl
    by (inr (inl (a, b, e))) = rw e refl
    by (inr (inr (a, b, e))) = rw e refl

pub same_ends : (v : View) (p q : Command) (i : ℕ) (es : List End) → p ≡ q → AreEnds v q i es → AreEnds v p i es
same_ends v p q i es e a = subst (λ (z : Command). AreEnds v z i es) (sym e) a

pub first_within : (code : List Node) (n m : ℕ) → HasFirst code n m → n < length code
first_within code n m f = slice_get_within code n f.shape f.is_node

-- the shape of the node that is there
pub first_shape : (code : List Node) (n m : ℕ) (d : Node) → HasFirst code n m → slice_get code n ≡ Some (slice_index_or code n d)
first_shape code n m d f = slice_get-get_or code n d (first_within code n m f)

pub shape_first : (code : List Node) (n m : ℕ) (d : Node) → HasFirst code n m → IsFirst (slice_index_or code n d) m
shape_first code n m d f = let e : f.shape ≡ slice_index_or code n d = cc (f.is_node, first_shape code n m d f) in subst (λ (x : Node). IsFirst x m) e f.first

pub first_less : (program : Program) (code : List Node) (n m : ℕ) → ((cs : List Command) × IsCode program code cs) → HasFirst code n m → m < n
first_less program code n m h f = first_below program h.0 n f.shape m (h.1 n f.shape f.is_node) f.first

-- ---- memory

pub true_learned : (v : View) (code : List Node) (m k : Kept) (n i : ℕ) (es : List End) → IsTrueOf v code m → AreEndsAt v code n i es → Learns m k n i es → IsTrueOf v code k
true_learned v code m k n i es t a l = λ o j fs w cs h. elim (l o j fs w) [
  | inl z ↦ t o j fs z cs h
  | inr z ↦ subst (λ (y : ℕ). AreEnds v (at cs y) j fs) (sym z.0) (subst (λ (y : ℕ). AreEnds v (at cs n) y fs) (sym z.1) (subst (λ (y : List End). AreEnds v (at cs n) i y) (sym z.2) (a cs h)))
]

-- ---- ways

module _ (v : View) (code : List Node) where
  pub by_none : (x : Way) (i : ℕ) (f : End) → x ≡ way.Stops → AreByWay v code x i f []
  by_none x i f e = subst (λ (z : Way). AreByWay v code z i f []) (sym e) (λ cs c. record { sound = λ y h. absurd (nothing y h); whole = λ y h. absurd h })

  pub by_end : (x : Way) (i : ℕ) (f : End) (es : List End) → x ≡ way.Ends → es ≡ f ∷ [] → AreByWay v code x i f es
  by_end x i f es e l = subst (λ (z : Way). AreByWay v code z i f es) (sym e) (subst (λ (z : List End). AreByWay v code way.Ends i f z) (sym l) (λ cs c. record { sound = λ y h. sym (contains_one f y h); whole = λ y h. (0, omega arith, sym h) }))

  pub by_on : (x : Way) (i a : ℕ) (f : End) (es : List End) → x ≡ way.On a → AreEndsAt v code a f.place es → AreByWay v code x i f es
  by_on x i a f es e k = subst (λ (z : Way). AreByWay v code z i f es) (sym e) (λ cs c. record { sound = (k cs c).sound; whole = (k cs c).whole })

  pub by_behind : (x : Way) (i a : ℕ) (f : End) (es : List End) → x ≡ way.OnBehind a → IsTakenBack v.trace i f.place → AreEndsAt v code a (f.place + 1) es → AreByWay v code x i f es
  by_behind x i a f es e b k = subst (λ (z : Way). AreByWay v code z i f es) (sym e) (λ cs c. record { sound = λ y h. (b, (k cs c).sound y h); whole = λ y h. (k cs c).whole y h.1 })

  pub by_no_back : (x : Way) (i a : ℕ) (f : End) → x ≡ way.OnBehind a → (IsTakenBack v.trace i f.place → ⊥) → AreByWay v code x i f []
  by_no_back x i a f e n = subst (λ (z : Way). AreByWay v code z i f []) (sym e) (λ cs c. record { sound = λ y h. absurd (nothing y h); whole = λ y h. absurd (n h.0) })

-- ---- the ends of a first part, one after another

pub firsts_more : (v u w : View) (code : List Node) (k : Kept) (shape : Node) (i : ℕ) (es : List End) (n : ℕ) (old mid new more : List End) (z d : End) (x : Way) (m : Kept) → n < length es → FirstsSoFar v u code m shape i es n old mid → z ≡ slice_index_or es n d
    → x ≡ way_of shape z.outcome → w ≡ u → IsTrueOf u code k → AreByWay u code x i z more → Grows (Contains mid) (Contains new) (Contains more) → FirstsSoFar v w code k shape i es (n + 1) old new
firsts_more v u w code k shape i es n old mid new more z d x m l s zi xi e t b g =
    let h : AreByWay v code x i z more = subst (λ (y : View). AreByWay y code x i z more) s.same b in
    record {
      same = e ∙ s.same;
      memory = memory_at code k (sym s.same) t;
      found = λ cs c. grows_of (λ f y. ByWay v cs (way_of shape f.outcome) i f y) _ _ _ es n z d l zi (s.found cs c)
          (subst (λ (y : Way). Grows (Contains mid) (Contains new) (ByWay v cs y i z)) xi (grows_as _ _ (Contains more) (ByWay v cs x i z) (h cs c).sound (h cs c).whole g));
    }

-- ---- loops

module _ (v : View) (w : IsTape v) (body : Command) where
  abbrev L : Command
  L = Loop body

  abbrev S : Command → ℕ → ℕ → Outcome → Type 0
  S = Spans v.program v.trace v.graphs

  only_gives : (k j : ℕ) (x : Outcome) → S L k j x → x ≡ outcome.Gives
  only_gives k j outcome.Gives s = refl
  only_gives k j outcome.Fails s = absurd (out v w L k j outcome.Fails s)
  only_gives k j outcome.Breaks s = absurd (out v w L k j outcome.Breaks s)

  as_gives : (k : ℕ) (e : End) → EndsSo v L k e → S L k e.place outcome.Gives
  as_gives k e s = subst (λ (x : Outcome). S L k e.place x) (only_gives k e.place e.outcome s) s

  from_gives : (k : ℕ) (e : End) → e.outcome ≡ outcome.Gives → S L k e.place outcome.Gives → EndsSo v L k e
  from_gives k e o s = subst (λ (x : Outcome). S L k e.place x) (sym o) s

  body_as : (k : ℕ) (f : End) (x : Outcome) → f.outcome ≡ x → EndsSo v body k f → S body k f.place x
  body_as k f x o s = subst (λ (y : Outcome). S body k f.place y) o s

  turn_within : (k : ℕ) → slice_get v.trace k ≡ Some Turned → k ≤ length v.trace
  turn_within k t = let l = item_within v.trace k Turned t in omega arith

  -- a turn at k that goes on at m, and the end of the loop from there
  goes_on : (k m : ℕ) (f e : End) → slice_get v.trace k ≡ Some Turned → EndsSo v body (k + 1) f → GoesOn f m → EndsSo v L m e → EndsSo v L k e
  goes_on k m f e t s g r =
      from_gives k e (only_gives m e.place e.outcome r)
      (into v w L k e.place outcome.Gives (turn_within k t) (t, inl (m, subst (λ (z : ℕ). S body (k + 1) z outcome.Gives) (sym g.1) (body_as (k + 1) f outcome.Gives g.0 s), as_gives m e r)))

  leaves : (k : ℕ) (f e : End) → slice_get v.trace k ≡ Some Turned → EndsSo v body (k + 1) f → Leaves v (k + 1) f e → EndsSo v L k e
  leaves k f e t s (o, inl (x, b, p)) = from_gives k e o (into v w L k e.place outcome.Gives (turn_within k t) (t, inr (inl (f.place, body_as (k + 1) f outcome.Fails x s, b, p))))
  leaves k f e t s (o, inr (x, p)) =
      from_gives k e o (into v w L k e.place outcome.Gives (turn_within k t) (t, inr (inr (subst (λ (z : ℕ). S body (k + 1) z outcome.Breaks) (sym p) (body_as (k + 1) f outcome.Breaks x s)))))

  pub found_first : (i : ℕ) (r : Reached) → i ≤ length v.trace → ((k : ℕ) → (Has r.starts k → k ≡ i) × (k ≡ i → Has r.starts k)) → r.ends.items ≡ [] → IsFound v L i i r
  found_first i r l s n = record {
    later = λ k h. (let e = (s k).0 h in omega arith);
    within = λ k h. (let e = (s k).0 h in omega arith);
    starts = λ k e h z. subst (λ (y : ℕ). EndsSo v L y e) ((s k).0 h) z;
    ends = λ e c. absurd (nothing e (subst (λ (z : List End). Contains z e) n c));
    whole = λ e z. inr (i, (s i).1 refl, z);
  }

  pub found_all : (i floor : ℕ) (r : Reached) → IsFound v L i floor r → ((k : ℕ) → Has r.starts k → ⊥) → AreEnds v L i r.ends.items
  found_all i floor r f n = record { sound = f.ends; whole = λ e s. elim (f.whole e s) [ inl c ↦ c | inr c ↦ absurd (n c.0 c.1) ] }

  pub has_turned : (i : ℕ) (es : List End) (old new : Reached) → AreEnds v body (i + 1) es → slice_get v.trace i ≡ Some Turned → Grows (Has old.starts) (Has new.starts) (OfOne GoesOn es (length es))
      → Grows (Contains old.ends.items) (Contains new.ends.items) (OfOne (Leaves v (i + 1)) es (length es)) → HasTurned v body i old new
  has_turned i es old new a t g h = record {
    starts = grows_as _ _ _ _ (λ m o. (t, o.0, a.sound o.0 o.1, o.2)) (λ m o. (o.1, a.whole o.1 o.2, o.3)) g;
    ends = grows_as _ _ _ _ (λ e o. (t, o.0, a.sound o.0 o.1, o.2)) (λ e o. (o.1, a.whole o.1 o.2, o.3)) h;
  }

  -- no turn begins there
  pub no_turn : (i : ℕ) (r : Reached) → (slice_get v.trace i ≡ Some Turned → ⊥) → HasTurned v body i r r
  no_turn i r n = record { starts = grows_none _ _ (λ m o. n o.0); ends = grows_none _ _ (λ e o. n o.0) }

  -- one turn was looked at, the least
  module _ (i floor k : ℕ) (old mid new : Reached) (f : IsFound v L i floor old) (t : IsTaken old.starts mid.starts k) (ends : mid.ends.items ≡ old.ends.items) (h : HasTurned v body k mid new) where
    later : (m : ℕ) → Has new.starts m → k + 1 ≤ m
    later m n = elim (h.starts.only m n) [
      | inl z ↦ (let l = (t.left m z).1 in omega arith)
      | inr z ↦ (let l = z.2.ordered in let e = z.3.1 in omega arith)
    ]

    within : (m : ℕ) → Has new.starts m → m ≤ length v.trace
    within m n = elim (h.starts.only m n) [ inl z ↦ f.within m (t.left m z).0 | inr z ↦ (let l = z.2.within in let e = z.3.1 in omega arith) ]

    starts : (m : ℕ) (e : End) → Has new.starts m → EndsSo v L m e → EndsSo v L i e
    starts m e n s = elim (h.starts.only m n) [ inl z ↦ f.starts m e (t.left m z).0 s | inr z ↦ f.starts k e t.was (goes_on k m z.1 e z.0 z.2 z.3 s) ]

    as_old : (e : End) → Contains mid.ends.items e → Contains old.ends.items e
    as_old e c = subst (λ (z : List End). Contains z e) ends c

    as_mid : (e : End) → Contains old.ends.items e → Contains mid.ends.items e
    as_mid e c = subst (λ (z : List End). Contains z e) (sym ends) c

    left : (e : End) → Contains new.ends.items e → EndsSo v L i e
    left e n = elim (h.ends.only e n) [ inl z ↦ f.ends e (as_old e z) | inr z ↦ f.starts k e t.was (leaves k z.1 e z.0 z.2 z.3) ]

    here : (e : End) → EndsSo v L k e → Contains new.ends.items e ⊎ ((m : ℕ) × Has new.starts m × EndsSo v L m e)
    here e s = by (only_gives k e.place e.outcome s) (out v w L k e.place outcome.Gives (as_gives k e s))
      where
        by : e.outcome ≡ outcome.Gives → OfParts v.program v.trace v.graphs S L k e.place outcome.Gives → Contains new.ends.items e ⊎ ((m : ℕ) × Has new.starts m × EndsSo v L m e)
        by o (y, inl (m, a, b)) = inr (m, h.starts.has m (y, record { place = m; outcome = outcome.Gives }, a, (refl, refl)), from_gives m e o b)
        by o (y, inr (inl (m, a, b, c))) = inl (h.ends.has e (y, record { place = m; outcome = outcome.Fails }, a, (o, inl (refl, b, c))))
        by o (y, inr (inr a)) = inl (h.ends.has e (y, record { place = e.place; outcome = outcome.Breaks }, a, (o, inr (refl, refl))))

    whole : (e : End) → EndsSo v L i e → Contains new.ends.items e ⊎ ((m : ℕ) × Has new.starts m × EndsSo v L m e)
    whole e s = elim (f.whole e s) [
      | inl c ↦ inl (h.ends.keeps e (as_mid e c))
      | inr c ↦ elim (t.others c.0 c.1) [
        | inl z ↦ here e (subst (λ (y : ℕ). EndsSo v L y e) z c.2)
        | inr z ↦ inr (c.0, h.starts.keeps c.0 z, c.2)
      ]
    ]

    pub found_more : IsFound v L i (k + 1) new
    found_more = record { later = later; within = within; starts = starts; ends = left; whole = whole }

-- of a node of a table
pub loop_means : (v : View) (code : List Node) (cs : List Command) (n b : ℕ) → slice_get code n ≡ Some (node.Loop b) → IsCode v.program code cs → (at cs n ≡ Loop (at cs b)) × (b < n)
loop_means v code cs n b s h = h n (node.Loop b) s

pub turns_first : (v : View) (code : List Node) (m : Kept) (n b i : ℕ) (r : Reached) → IsTape v → IsTrueOf v code m → slice_get code n ≡ Some (node.Loop b) → i ≤ length v.trace → ((k : ℕ) → (Has r.starts k → k ≡ i) × (k ≡ i → Has r.starts k))
    → r.ends.items ≡ [] → TurnsSoFar v v code m n i i r
turns_first v code m n b i r w t c l s e = record {
  same = refl;
  memory = t;
  bound = omega arith;
  found = λ cs h. subst (λ (p : Command). IsFound v p i i r) (sym (loop_means v code cs n b c h).0) (found_first v w (at cs b) i r l s e);
}

pub turns_more : (v u y : View) (code : List Node) (m k : Kept) (n b i floor start : ℕ) (old mid new : Reached) → IsTape v → ((cs : List Command) × IsCode v.program code cs) → slice_get code n ≡ Some (node.Loop b) → TurnsSoFar v u code m n i floor old
    → IsTaken old.starts mid.starts start → mid.ends.items ≡ old.ends.items → y ≡ u → IsTrueOf u code k → ((cs : List Command) → IsCode u.program code cs → HasTurned u (at cs b) start mid new) → TurnsSoFar v y code k n i (start + 1) new
turns_more v u y code m k n b i floor start old mid new w x c s t ends e z g =
    let h : (cs : List Command) → IsCode v.program code cs → HasTurned v (at cs b) start mid new =
    subst (λ (a : View). (cs : List Command) → IsCode a.program code cs → HasTurned a (at cs b) start mid new) s.same g in
    let l : start ≤ length v.trace = (s.found x.0 x.1).within start t.was in
    record {
      same = e ∙ s.same;
      memory = memory_at code k (sym s.same) z;
      bound = omega arith;
      found = λ cs j. (let q = sym (loop_means v code cs n b c j).0 in
          subst (λ (p : Command). IsFound v p i (start + 1) new) q (found_more v w (at cs b) i floor start old mid new (subst (λ (p : Command). IsFound v p i floor old) (sym q) (s.found cs j)) t ends (h cs j)));
    }

pub turn_at : (v u : View) (code : List Node) (m : Kept) (n i floor start : ℕ) (r : Reached) → ((cs : List Command) × IsCode v.program code cs) → TurnsSoFar v u code m n i floor r → Has r.starts start → (floor ≤ start) × (start ≤ length u.trace)
turn_at v u code m n i floor start r x s h = let f = s.found x.0 x.1 in (f.later start h, place_at s.same (f.within start h))
