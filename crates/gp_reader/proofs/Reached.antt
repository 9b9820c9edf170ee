-- What a walk over all that a procedure reaches keeps.
use Rattle.std.proofs.Common.{◌≡◌, ◌⊎◌, inl, inr, ℕ, ◌+◌, ◌<◌, Bool, true, false, List, [], ◌∷◌, ◌++◌, length, get_or, replicate, refl, sym, ap, ◌∙◌, subst, arith}
use Rattle.std.specs.Prelude.{Contains, slice_index_or}
use Rattle.std.proofs.lemmas.List.Elements.{Contains-push, Contains-push_cases, Contains-append_left}
use Rattle.gp_reader.specs.inside.Procedures.{Called, InRange, ReachesIn, directly, further, IsMarked}
use Rattle.gp_reader.specs.inside.Visits.{Visited}

-- what is seen is reached; what the procedure calls is seen; and of what is seen either it is left or what it calls is seen
pub record Reaching (callees : List (List ℕ)) (from : ℕ) (seen : List Bool) (left : List ℕ) : Type 0 where
  pub count : length seen ≡ length callees
  pub reached : (k : ℕ) → IsMarked seen k → ReachesIn callees from k
  pub first : (k : ℕ) → Called callees from k → IsMarked seen k
  pub closed : (j : ℕ) → IsMarked seen j → Contains left j ⊎ ((k : ℕ) → Called callees j k → IsMarked seen k)
  pub left_seen : (k : ℕ) → Contains left k → IsMarked seen k

-- one that was left is visited
pub one_visited : (callees : List (List ℕ)) (from next : ℕ) (seen now : List Bool) (old left rest : List ℕ) → Reaching callees from seen old → old ≡ left ++ next ∷ [] → Visited (slice_index_or callees next []) seen now left rest → Reaching callees from now rest
one_visited callees from next seen now old left rest r e v = record {
  count = v.same_length ∙ r.count;
  reached = λ k h. elim (v.only k h) [ inl s ↦ r.reached k s | inr c ↦ further (r.reached next (r.left_seen next has_next)) c ];
  first = λ k c. v.kept k (r.first k c);
  closed = λ j h. elim (v.new_left j h) [ inl s ↦ elim (r.closed j s) [ inl l ↦ elim (Contains-push_cases left next j (subst (λ xs. Contains xs j) e l)) [ inl d ↦ inl (v.still_left j d) | inr q ↦ inr (λ k c. v.all_found k (subst (λ n. Called callees n k) (sym q) c)) ] | inr all ↦ inr (λ k c. v.kept k (all k c)) ] | inr l ↦ inl l ];
  left_seen = λ k h. elim (v.left_seen k h) [ inl l ↦ v.kept k (r.left_seen k (subst (λ xs. Contains xs k) (sym e) (Contains-append_left left (next ∷ []) k l))) | inr s ↦ s ];
}
  where
    has_next : Contains old next
    has_next = subst (λ xs. Contains xs next) (sym e) (Contains-push left next)

-- the walk begins
pub begun : (callees : List (List ℕ)) (from : ℕ) (seen now : List Bool) (rest : List ℕ) → length seen ≡ length callees → ((k : ℕ) → IsMarked seen k → ⊥) → Visited (slice_index_or callees from []) seen now [] rest → Reaching callees from now rest
begun callees from seen now rest e none v = record {
  count = v.same_length ∙ e;
  reached = λ k h. elim (v.only k h) [ inl s ↦ absurd (none k s) | inr c ↦ directly c ];
  first = λ k c. v.all_found k c;
  closed = λ j h. elim (v.new_left j h) [ inl s ↦ absurd (none j s) | inr l ↦ inl l ];
  left_seen = λ k h. elim (v.left_seen k h) [ inl l ↦ absurd (omega (arith, l.1)) | inr s ↦ s ];
}

-- nothing is left: just what is reached is seen
pub all_reached : (callees : List (List ℕ)) (from : ℕ) (seen : List Bool) (k : ℕ) → Reaching callees from seen [] → ReachesIn callees from k → IsMarked seen k
all_reached callees from seen k r (directly c) = r.first k c
all_reached callees from seen k r (further {k = m} h c) = elim (r.closed m (all_reached callees from seen m r h)) [ inl l ↦ absurd (omega (arith, l.1)) | inr all ↦ all k c ]
