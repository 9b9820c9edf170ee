-- A replica that follows entries.
use Rattle.std.proofs.Common.{◌≡◌, ℕ, zero, suc, ◌+◌, ◌<◌, ◌≤◌, List, [], ◌∷◌, ◌++◌, length, get_or, take, drop, length-append, sym, ◌∙◌, ap, arith, refl, subst}
use Rattle.opt_system.specs.Meaning.{Meaning, applies, IsLawful}
use Rattle.opt_core.specs.Core.{reached, AllApply}
use Rattle.opt_gate.specs.Lists.{StartsWith}
use Rattle.opt_gate.specs.Pass.{PassView}
use Rattle.opt_gate.specs.Turn.{entries_told}
use Rattle.opt_worker.specs.Replica.{IsReplica}

module _ {A : Type 0} where
  length_take : (n : ℕ) (xs : List A) → n ≤ length xs → length (take n xs) ≡ n
  length_take zero xs h = refl
  length_take (suc n) [] h = absurd (omega arith)
  length_take (suc n) (x ∷ xs) h = let e = length_take n xs (omega arith) in omega arith

  take_whole : (xs : List A) → take (length xs) xs ≡ xs
  take_whole [] = refl
  take_whole (x ∷ xs) = ap (λ (ys : List A). x ∷ ys) (take_whole xs)

  take_past : (xs ys : List A) (n : ℕ) → take (length xs + n) (xs ++ ys) ≡ xs ++ take n ys
  take_past [] ys n = let z : 0 + n ≡ n = omega arith in ap (λ (k : ℕ). take k ys) z
  take_past (x ∷ xs) ys n =
      let z : length (x ∷ xs) + n ≡ suc (length xs + n) = omega arith in
      ap (λ (k : ℕ). take k ((x ∷ xs) ++ ys)) z ∙ ap (λ (zs : List A). x ∷ zs) (take_past xs ys n)

  take_within : (n : ℕ) (xs ys : List A) → n ≤ length xs → take n (xs ++ ys) ≡ take n xs
  take_within zero xs ys h = refl
  take_within (suc n) [] ys h = absurd (omega arith)
  take_within (suc n) (x ∷ xs) ys h = ap (λ (zs : List A). x ∷ zs) (take_within n xs ys (omega arith))

  take_drop : (n : ℕ) (xs : List A) → take n xs ++ drop n xs ≡ xs
  take_drop zero xs = refl
  take_drop (suc n) [] = refl
  take_drop (suc n) (x ∷ xs) = ap (λ (zs : List A). x ∷ zs) (take_drop n xs)

take_one : {A : Type 0} (xs : List A) (i : ℕ) (x d : A) → i < length xs → get_or xs i d ≡ x → take (suc i) xs ≡ take i xs ++ x ∷ []
take_one [] i x d h e = absurd (omega arith)
take_one (y ∷ ys) zero x d h e = ap (λ z. z ∷ []) e
take_one (y ∷ ys) (suc i) x d h e = ap (λ zs. y ∷ zs) (take_one ys i x d (omega arith) e)

module _ {State Found Goal Reason : Type 0} (m : Meaning State Found Goal Reason) where
  pub reached_append : (at : State) (xs ys : List Found) → reached m at (xs ++ ys) ≡ reached m (reached m at xs) ys
  reached_append at [] ys = refl
  reached_append at (x ∷ xs) ys = reached_append (m.after at x) xs ys

  -- after one more step
  pub reached_next : (base at new : State) (es : List Found) (i j : ℕ) (f d : Found) → i < length es → get_or es i d ≡ f → j ≡ i + 1 → at ≡ reached m base (take i es) → new ≡ m.after at f → new ≡ reached m base (take j es)
  reached_next base at new es i j f d inside is next before step =
      let n : j ≡ suc i = omega arith in
      step ∙ ap (λ (s : State). m.after s f) before
      ∙ sym (ap (λ (k : ℕ). reached m base (take k es)) n ∙ ap (λ (xs : List Found). reached m base xs) (take_one es i f d inside is) ∙ reached_append base (take i es) (f ∷ []))

  -- the next entry applies
  pub next_applies : (goal : Goal) (at : State) (es : List Found) (i : ℕ) (d : Found) → AllApply m goal at es → i < length es → m.judged goal (reached m at (take i es)) (get_or es i d) ≡ applies
  next_applies goal at [] i d all h = absurd (omega arith)
  next_applies goal at (e ∷ es) zero d all h = all.0
  next_applies goal at (e ∷ es) (suc i) d all h = next_applies goal (m.after at e) es i d all.1 (omega arith)

  pub may_apply : (goal : Goal) (at now : State) (es : List Found) (i : ℕ) (f : Found) → AllApply m goal at es → i < length es → f ≡ get_or es i f → now ≡ reached m at (take i es) → m.judged goal now f ≡ applies
  may_apply goal at now es i f all h is here =
      ap (λ (s : State). m.judged goal s f) here ∙ ap (λ (x : Found). m.judged goal (reached m at (take i es)) x) is ∙ next_applies goal at es i f all h

  -- parts of two lists, of which the first has what the second goes on with
  applies_append : (goal : Goal) (at : State) (xs ys : List Found) → AllApply m goal at (xs ++ ys) → AllApply m goal (reached m at xs) ys
  applies_append goal at [] ys all = all
  applies_append goal at (x ∷ xs) ys all = applies_append goal (m.after at x) xs ys all.1

  applies_first : (goal : Goal) (at : State) (n : ℕ) (es : List Found) → AllApply m goal at es → AllApply m goal at (take n es)
  applies_first goal at zero es all = tt
  applies_first goal at (suc n) [] all = tt
  applies_first goal at (suc n) (e ∷ es) all = (all.0, applies_first goal (m.after at e) n es all.1)

  -- each step makes the state one deeper
  depth_reached : (goal : Goal) (at : State) (es : List Found) → IsLawful m → AllApply m goal at es → m.depth (reached m at es) ≡ m.depth at + length es
  depth_reached goal at [] lawful all = omega arith
  depth_reached goal at (e ∷ es) lawful all =
      let one = lawful.deeper goal at e all.0 in
      let more = depth_reached goal (m.after at e) es lawful all.1 in
      omega arith

  -- at the first n of entries that all apply
  replica_at : (goal : Goal) (base at : State) (es : List Found) (n : ℕ) → IsLawful m → AllApply m goal base es → n ≤ length es → at ≡ reached m base (take n es) → IsReplica m base es at
  replica_at goal base at es n lawful all few is = record {
    count = n;
    few = few;
    is = is;
    deep = ap m.depth is ∙ (depth_reached goal base (take n es) lawful (applies_first goal base n es all) ∙ ap (λ (k : ℕ). m.depth base + k) (length_take n es few));
  }

  -- at all of them
  pub replica_all : (goal : Goal) (base at : State) (es : List Found) → IsLawful m → AllApply m goal base es → at ≡ reached m base es → IsReplica m base es at
  replica_all goal base at es lawful all is = replica_at goal base at es (length es) lawful all (omega arith) (is ∙ ap (λ (xs : List Found). reached m base xs) (sym (take_whole es)))

  -- after the first n of the news
  pub replica_part : (goal : Goal) (base at new : State) (told now news : List Found) (n : ℕ) → IsLawful m → AllApply m goal base now → at ≡ reached m base told → now ≡ told ++ news → n ≤ length news → new ≡ reached m at (take n news) → IsReplica m base now new
  replica_part goal base at new told now news n lawful all is grown few made = subst (λ (es : List Found). IsReplica m base es new) (sym grown)
      (replica_at goal base new (told ++ news) (length told + n) lawful (subst (λ (es : List Found). AllApply m goal base es) grown all) (let e = length-append told news in omega arith)
      (made ∙ (ap (λ (s : State). reached m s (take n news)) is ∙ (sym (reached_append base told (take n news)) ∙ ap (λ (es : List Found). reached m base es) (sym (take_past told news n))))))

  -- more entries
  pub replica_more : (base at : State) (told now news : List Found) → IsReplica m base told at → now ≡ told ++ news → IsReplica m base now at
  replica_more base at told now news r grown = subst (λ (es : List Found). IsReplica m base es at) (sym grown) (record {
    count = r.count;
    few = let e = length-append told news in let f = r.few in omega arith;
    is = r.is ∙ ap (λ (es : List Found). reached m base es) (sym (take_within r.count told news r.few));
    deep = r.deep;
  })

  -- all entries that the first of them are taken from
  pub replica_knows : (base at : State) (t : ℕ) (knows : List Found) → IsReplica m base (take t knows) at → IsReplica m base knows at
  replica_knows base at t knows r = replica_more base at (take t knows) knows (drop t knows) r (sym (take_drop t knows))

  -- the state after all news
  pub followed : (base at new : State) (told now news : List Found) → at ≡ reached m base told → new ≡ reached m at news → now ≡ told ++ news → new ≡ reached m base now
  followed base at new told now news is made grown = made ∙ (ap (λ (s : State). reached m s news) is ∙ (sym (reached_append base told news) ∙ ap (λ (l : List Found). reached m base l) (sym grown)))

  -- the news apply where the told entries lead
  pub news_apply : (goal : Goal) (base at : State) (t : ℕ) (knows told news : List Found) → AllApply m goal base knows → take t knows ≡ told ++ news → at ≡ reached m base told → AllApply m goal at news
  news_apply goal base at t knows told news all grown is = subst (λ (s : State). AllApply m goal s news) (sym is)
      (applies_append goal base told news (subst (λ (es : List Found). AllApply m goal base es) grown (applies_first goal base t knows all)))

  module _ {K : Type 0} (goal : Goal) (base : State) (p q : PassView K Found Reason) where
    -- after a turn: the replica went on with some of the news
    pub moved : (at new : State) (news : List Found) (n : ℕ) → IsLawful m → AllApply m goal base q.knows → entries_told q ≡ entries_told p ++ news → at ≡ reached m base (entries_told p)
        → n ≤ length news → new ≡ reached m at (take n news) → IsReplica m base q.knows new
    moved at new news n lawful all grown is few made = replica_knows base new q.told q.knows
        (replica_part goal base at new (entries_told p) (entries_told q) news n lawful (applies_first goal base q.told q.knows all) is grown few made)

    -- it stayed
    pub stayed : (at : State) (news : List Found) → IsLawful m → AllApply m goal base q.knows → entries_told q ≡ entries_told p ++ news → at ≡ reached m base (entries_told p) → IsReplica m base q.knows at
    stayed at news lawful all grown is = moved at at news 0 lawful all grown is (omega arith) refl

    -- it went on with all of them
    pub went : (at new : State) (news : List Found) → entries_told q ≡ entries_told p ++ news → at ≡ reached m base (entries_told p) → new ≡ reached m at news → new ≡ reached m base (entries_told q)
    went at new news grown is made = followed base at new (entries_told p) (entries_told q) news is made grown

    -- the news apply
    pub may_go : (at : State) (news : List Found) → AllApply m goal base q.knows → entries_told q ≡ entries_told p ++ news → at ≡ reached m base (entries_told p) → AllApply m goal at news
    may_go at news all grown is = news_apply goal base at q.told q.knows (entries_told p) news all grown is

  -- what is known grows
  pub replica_further : (base at : State) (before now : List Found) → StartsWith now before → IsReplica m base before at → IsReplica m base now at
  replica_further base at before now s r = replica_more base at before now s.0 r s.1

  -- a replica that is where the pass was told that the core is
  pub told_replica : {K : Type 0} (goal : Goal) (base at : State) (p : PassView K Found Reason) → IsLawful m → AllApply m goal base p.knows → at ≡ reached m base (entries_told p) → IsReplica m base p.knows at
  told_replica goal base at p lawful all is = replica_knows base at p.told p.knows (replica_all goal base at (entries_told p) lawful (applies_first goal base p.told p.knows all) is)
