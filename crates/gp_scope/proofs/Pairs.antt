-- Names with their meanings.
use Rattle.std.proofs.Common.{◌≡◌, ℕ, suc, ◌+◌, ◌<◌, ◌≤◌, Bool, true, false, cond, List, [], ◌∷◌, ◌++◌, fold, take, length, get_or, Option, Some, None, refl, sym, ap, ◌∙◌, arith}
use Rattle.std.specs.Option.{option_or}
use Rattle.std.specs.List.{position_from}
use Rattle.std.proofs.lemmas.List.{take_more}
use Rattle.gp_values.specs.Names.{Name, same_name, place_of}
use Rattle.gp_scope.specs.declared.meaning.Meaning.{Meaning}
use Rattle.gp_scope.specs.Names.{Scope, meaning_in}
use Rattle.gp_scope.specs.inside.Levels.{paired, names_of, scope_of}

pub paired_push : (ns : List Name) (ms : List Meaning) (n : Name) (m : Meaning) → length ns ≡ length ms → paired (ns ++ n ∷ []) (ms ++ m ∷ []) ≡ paired ns ms ++ (n, m) ∷ []
paired_push [] [] n m e = refl
paired_push [] (y ∷ ms) n m e = absurd (omega (arith, e))
paired_push (x ∷ ns) [] n m e = absurd (omega (arith, e))
paired_push (x ∷ ns) (y ∷ ms) n m e = ap (λ l. (x, y) ∷ l) (paired_push ns ms n m (omega (arith, e)))

pub paired_names : (ns : List Name) (ms : List Meaning) → length ns ≡ length ms → names_of (paired ns ms) ≡ ns
paired_names [] [] e = refl
paired_names [] (y ∷ ms) e = refl
paired_names (x ∷ ns) [] e = absurd (omega (arith, e))
paired_names (x ∷ ns) (y ∷ ms) e = ap (λ l. x ∷ l) (paired_names ns ms (omega (arith, e)))

none_step : (b : Bool) (i : ℕ) (m : Meaning) (rest : Option Meaning) (place : Option ℕ) → (place ≡ None → rest ≡ None) → cond b (Some i) place ≡ None → cond b (Some m) rest ≡ None
none_step true i m rest place ih e = cc
none_step false i m rest place ih e = ih e

-- where a name has no place, it has no meaning
none_from : (q : Name) (i : ℕ) (ns : List Name) (ms : List Meaning) → position_from (same_name q) i ns ≡ None → meaning_in (paired ns ms) q ≡ None
none_from q i [] ms e = refl
none_from q i (n ∷ ns) [] e = refl
none_from q i (n ∷ ns) (m ∷ ms) e = none_step (same_name q n) i m (meaning_in (paired ns ms) q) (position_from (same_name q) (i + 1) ns) (none_from q (i + 1) ns ms) e

pub no_place : (ns : List Name) (ms : List Meaning) (q : Name) → place_of ns q ≡ None → meaning_in (paired ns ms) q ≡ None
no_place ns ms q e = none_from q 0 ns ms e

-- its meaning stands so many places on
abbrev Stands : ℕ → ℕ → List Meaning → Option Meaning → Type 0
Stands i p ms x = (k : ℕ) × (p ≡ i + k) × (k < length ms) × ((d : Meaning) → x ≡ Some (get_or ms k d))

some_step : (b : Bool) (i p : ℕ) (m : Meaning) (ms : List Meaning) (rest : Option Meaning) (place : Option ℕ) → (place ≡ Some p → Stands (i + 1) p ms rest) → cond b (Some i) place ≡ Some p → Stands i p (m ∷ ms) (cond b (Some m) rest)
some_step true i p m ms rest place ih e = let g : i ≡ p = cc in (0, omega (arith, g), omega arith, λ d. refl)
some_step false i p m ms rest place ih e = let r = ih e in let a = r.1 in let b = r.2 in (suc r.0, omega (arith, a), omega (arith, b), λ d. r.3 d)

-- its meaning stands at its place
some_from : (q : Name) (i p : ℕ) (ns : List Name) (ms : List Meaning) → length ns ≡ length ms → position_from (same_name q) i ns ≡ Some p → Stands i p ms (meaning_in (paired ns ms) q)
some_from q i p [] ms l e = cc
some_from q i p (n ∷ ns) [] l e = absurd (omega (arith, l))
some_from q i p (n ∷ ns) (m ∷ ms) l e = some_step (same_name q n) i p m ms (meaning_in (paired ns ms) q) (position_from (same_name q) (i + 1) ns) (some_from q (i + 1) p ns ms (omega (arith, l))) e

pub some_place : (ns : List Name) (ms : List Meaning) (q : Name) (p : ℕ) → length ns ≡ length ms → place_of ns q ≡ Some p → (p < length ms) × ((d : Meaning) → meaning_in (paired ns ms) q ≡ Some (get_or ms p d))
some_place ns ms q p l e =
    let r = some_from q 0 p ns ms l e in
    let a = r.1 in let b = r.2 in
    let same : p ≡ r.0 = omega (arith, a) in
    (omega (arith, a, b), λ d. r.3 d ∙ ap (λ k. Some (get_or ms k d)) (sym same))

-- ---- levels

both_step : (t : Bool) (m : Meaning) (x y z : Option Meaning) → x ≡ option_or y z → cond t (Some m) x ≡ option_or (cond t (Some m) y) z
both_step true m x y z e = refl
both_step false m x y z e = e

pub meaning_of_both : (a b : Scope) (q : Name) → meaning_in (a ++ b) q ≡ option_or (meaning_in a q) (meaning_in b q)
meaning_of_both [] b q = refl
meaning_of_both (x ∷ a) b q = both_step (same_name q x.0) x.1 (meaning_in (a ++ b) q) (meaning_in a q) (meaning_in b q) (meaning_of_both a b q)

pub scope_of_more : (levels : List Scope) (level : Scope) → scope_of (levels ++ level ∷ []) ≡ level ++ scope_of levels
scope_of_more levels level = go levels []
  where
    go : (ls : List Scope) (s : Scope) → fold (λ (s level : Scope). level ++ s) s (ls ++ level ∷ []) ≡ level ++ fold (λ (s level : Scope). level ++ s) s ls
    go [] s = refl
    go (l ∷ ls) s = go ls (l ++ s)

-- one level more
pub level_more : (levels : List Scope) (i : ℕ) (d : Scope) (q : Name) → i < length levels → meaning_in (scope_of (take (i + 1) levels)) q ≡ option_or (meaning_in (get_or levels i d) q) (meaning_in (scope_of (take i levels)) q)
level_more levels i d q lt = ap (λ l. meaning_in (scope_of l) q) (take_more levels i d lt) ∙ ap (λ s. meaning_in s q) (scope_of_more (take i levels) (get_or levels i d)) ∙ meaning_of_both (get_or levels i d) (scope_of (take i levels)) q

-- no level at all
pub no_level : (levels : List Scope) (i : ℕ) (q : Name) → i ≤ 0 → meaning_in (scope_of (take i levels)) q ≡ None
no_level levels i q le = let e : i ≡ 0 = omega (arith, le) in ap (λ n. meaning_in (scope_of (take n levels)) q) e
