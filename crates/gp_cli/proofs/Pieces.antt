-- What is written piece by piece.
use Rattle.std.proofs.Common.{◌≡◌, ℕ, ◌≤◌, List, [], ◌∷◌, ◌++◌, length, take, refl, sym, ap, subst, ◌∙◌, append-nil, arith}
use Rattle.std.specs.Prelude.{Option, Some, None, Result, Ok, Err}
use Rattle.std.specs.Option.{option_map}
use Rattle.std.proofs.lemmas.List.{append_assoc}
use Rattle.gp_io.specs.Outside.{KnownSink, Gains, Rose, WriteAnswers, piece_of, raised, raised_by}
use Rattle.gp_io.specs.declared.outside.Failed.{Failed as Fault}
use Rattle.gp_cli.specs.Written.{TakesAll, IsCutShort}
use Rattle.gp_cli.specs.inside.Parts.{Writes}

-- these pieces stand behind those that went out before, where these are known
abbrev behind : Option (List (List ℕ)) → List (List ℕ) → Option (List (List ℕ))
behind before pieces = option_map (λ (b : List (List ℕ)). b ++ pieces) before

nothing_behind : (before : Option (List (List ℕ))) → before ≡ behind before []
nothing_behind None = refl
nothing_behind (Some b) = ap (λ (v : List (List ℕ)). Some v) (sym (append-nil b))

more_behind : (before : Option (List (List ℕ))) (a b : List (List ℕ)) → behind (behind before a) b ≡ behind before (a ++ b)
more_behind None a b = refl
more_behind (Some before) a b = ap (λ (v : List (List ℕ)). Some v) (append_assoc before a b)

gains_more : (old mid new : KnownSink) (a b : List (List ℕ)) → Gains old mid a → Gains mid new b → Gains old new (a ++ b)
gains_more old mid new a b g h = h ∙ ap (λ (v : Option (List (List ℕ))). behind v b) g ∙ more_behind old.pieces a b

counted_more : (a b : List (List ℕ)) (count : ℕ) → raised_by (length (a ++ b)) count ≡ raised_by (length b) (raised_by (length a) count)
counted_more [] b count = refl
counted_more (p ∷ a) b count = counted_more a b (raised count)

-- ---- nothing, and one piece

pub takes_nothing : (old : KnownSink) → TakesAll old old []
takes_nothing old = record { gains = nothing_behind old.pieces; counted = refl; faultless = refl }

pub writes_one : (old new : KnownSink) (piece : List ℕ) (r : Result (Unit {0}) Fault) → 1 ≤ length piece → WriteAnswers old new piece r →
    new.writes ≡ raised old.writes → Writes old new (piece_of piece) r
writes_one old new [] r e a w = absurd (omega arith)
writes_one old new (b ∷ bs) (Ok u) e a w = record { gains = a.0; counted = w; faultless = a.1 }
writes_one old new (b ∷ bs) (Err f) e a w = record { whole = []; next = b ∷ bs; unwritten = []; are = refl; bytes = a.0; gains = a.1; counted = w; rose = a.2 }

-- ---- some pieces, and then others

takes_more : (old mid new : KnownSink) (a b : List (List ℕ)) → TakesAll old mid a → TakesAll mid new b → TakesAll old new (a ++ b)
takes_more old mid new a b g h = record {
  gains = gains_more old mid new a b g.gains h.gains;
  counted = h.counted ∙ ap (raised_by (length b)) g.counted ∙ sym (counted_more a b old.writes);
  faultless = h.faultless ∙ g.faultless;
}

cut_after : (old mid new : KnownSink) (a b : List (List ℕ)) → TakesAll old mid a → IsCutShort mid new b → IsCutShort old new (a ++ b)
cut_after old mid new a b g c =
    let last = piece_of (take c.bytes c.next) in
    record {
      whole = a ++ c.whole;
      next = c.next;
      unwritten = c.unwritten;
      are = ap (λ (ps : List (List ℕ)). a ++ ps) c.are ∙ sym (append_assoc a c.whole (c.next ∷ c.unwritten));
      bytes = c.bytes;
      gains = subst (Gains old new) (sym (append_assoc a c.whole last)) (gains_more old mid new a (c.whole ++ last) g.gains c.gains);
      counted = c.counted ∙ ap raised (ap (raised_by (length c.whole)) g.counted ∙ sym (counted_more a c.whole old.writes));
      rose = subst (λ (n : ℕ). Rose n new.faults) g.faultless c.rose;
    }

-- the first were not all written
pub writes_less : (old new : KnownSink) (a b : List (List ℕ)) (e : Fault) → Writes old new a (Err e) → Writes old new (a ++ b) (Err e)
writes_less old new a b e c = record {
  whole = c.whole;
  next = c.next;
  unwritten = c.unwritten ++ b;
  are = ap (λ (ps : List (List ℕ)). ps ++ b) c.are ∙ append_assoc c.whole (c.next ∷ c.unwritten) b;
  bytes = c.bytes;
  gains = c.gains;
  counted = c.counted;
  rose = c.rose;
}

-- they were, and then the others so
pub writes_more : (old mid new : KnownSink) (a b : List (List ℕ)) (u : Unit {0}) (r : Result (Unit {0}) Fault) → Writes old mid a (Ok u) → Writes mid new b r →
    Writes old new (a ++ b) r
writes_more old mid new a b u (Ok v) g h = takes_more old mid new a b g h
writes_more old mid new a b u (Err e) g c = cut_after old mid new a b g c
