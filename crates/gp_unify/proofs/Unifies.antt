-- What unification finds is what every assignment in types has.
use Rattle.std.proofs.Common.{◌≡◌, ◌⊎◌, inl, inr, ℕ, zero, suc, ◌+◌, ◌-◌, ◌≤◌, ◌<◌, ◌==◌, Bool, true, false, List, [], ◌∷◌, ◌++◌, length, take, drop, Option, Some, None, IsSome, option_and_then, slice_index_or, slice_get, refl, sym, ap, subst, ◌∙◌, arith, length-append, append_assoc, append-nil, take-append-drop, ℤ, pos, negsuc, ◌^◌, int_le, int_lt, ◌&&◌, if◌then◌else◌, neg_ℤ, nat_eq, All, Any}
use Rattle.std.specs.Cmp.Lexicographic.{pointwise, bytes_decides}
use Rattle.std.proofs.lemmas.Option.{none-some}
use Rattle.std.proofs.lemmas.Bool.Decides.{Decides-eqb}
use Rattle.std.proofs.lemmas.Bool.{cases_eq}
use Rattle.gp_memory.proofs.Basics.{first_step as and_then, some_same, take_front}
use Rattle.gp_values.specs.declared.atom.Atom.{Atom}
use Rattle.gp_values.specs.declared.atom.Atom.TheVariants.{Int, Str}
use Rattle.gp_values.specs.Atoms.{same_list}
use Rattle.gp_values.specs.EqualityLaws.{same_list-Decides}
use Rattle.gp_syntax.specs.declared.kinds.NumberKind.TheVariants.{PastBits}
use Rattle.gp_syntax.specs.declared.kinds.VariableType.{VariableType}
use Rattle.gp_syntax.specs.declared.kinds.VariableType.TheVariants as types
use Rattle.gp_syntax.specs.Expression.{Expression, Number, Text, Variable, Negated, Dot, Empty, Join}
use Rattle.gp_syntax.specs.Value.{Assignment, Setting, Valued, Value, NoValue, ◌>>=◌, value_of, characters, is_of, number, ranged, assigned_at}
use Rattle.gp_syntax.specs.Typing.{type_in, is_subtype}
use Rattle.gp_syntax.specs.Simple.{lists_of, strings_of, strings_in, lists_in, IsText, IsSimple, StandsIn}
use Rattle.gp_unify.specs.Known.{Known, Extends, InTypes}
use Rattle.gp_unify.specs.Unify.{characters_in, atoms_in, keep, keep_value, with_value, tell_known, tell, Rest, rest, behind, ended, keep_rest, told_rest, span, read_text, unify_text, on_text, read, unify, unify_all}

-- ---- lists

drop_front : {X : Type 0} (xs ys : List X) → drop (length xs) (xs ++ ys) ≡ ys
drop_front [] ys = refl
drop_front (x ∷ xs) ys = drop_front xs ys

-- ---- options

kept : (b : Bool) (p q : Known) → keep b p ≡ Some q → (b ≡ true) × (p ≡ q)
kept true p q e = (refl, some_same e)
kept false p q e = absurd (none-some q e)

keeps : (b : Bool) (p : Known) → b ≡ true → keep b p ≡ Some p
keeps true p e = refl
keeps false p e = absurd cc

-- ---- what is known

abbrev pub Grows : Known → Known → Type 0
Grows p q = (x : ℕ) (w : List Atom) → p x ≡ Some w → q x ≡ Some w

grows_same : (p q : Known) → p ≡ q → Grows p q
grows_same p q e x w h = sym (ap (λ (f : Known). f x) e) ∙ h

less : (p q : Known) (a : Assignment) → Grows p q → Extends q a → Extends p a
less p q a g h x w e = h x w (g x w e)

pub some_is : (o : Option (List Atom)) → IsSome o → (w : List Atom) × (o ≡ Some w)
some_is (Some w) h = (w, refl)
some_is None h = absurd cc

still_some : (p q : Known) (x : ℕ) → Grows p q → IsSome (p x) → IsSome (q x)
still_some p q x g h = let w = some_is (p x) h in rw (g x w.0 w.1) refl

pub with_here : (p : Known) (x : ℕ) (v : List Atom) → with_value p x v x ≡ Some v
with_here p x v = rw ((Decides-eqb x x).1 refl)

pub with_apart : (p : Known) (x y : ℕ) (v : List Atom) → (y ≡ x → ⊥) → with_value p x v y ≡ p y
with_apart p x y v d = by (y == x) refl
  where
    by : (b : Bool) → (y == x) ≡ b → with_value p x v y ≡ p y
    by true e = absurd (d ((Decides-eqb y x).0 e))
    by false e = rw e

with_grows : (p : Known) (x : ℕ) (v : List Atom) → p x ≡ None → Grows p (with_value p x v)
with_grows p x v e y w h =
    with_apart p x y v (λ (s : y ≡ x). none-some w (sym e ∙ ap p (sym s) ∙ h)) ∙ h

told_known : (o : Option (List Atom)) (x : ℕ) (v : List Atom) (p q : Known) → p x ≡ o → tell_known o x v p ≡ Some q → (q x ≡ Some v) × Grows p q
told_known None x v p q e h =
    let s : with_value p x v ≡ q = some_same h in
    (sym (ap (λ (f : Known). f x) s) ∙ with_here p x v, subst (λ (f : Known). Grows p f) s (with_grows p x v e))
told_known (Some w) x v p q e h =
    let k = kept (same_list w v) p q h in
    let s : w ≡ v = (same_list-Decides w v).0 k.0 in
    (sym (ap (λ (f : Known). f x) k.1) ∙ e ∙ ap (λ z. Some z) s, grows_same p q k.1)

told : (ts : ℕ → VariableType) (x : ℕ) (v : List Atom) (p q : Known) → tell ts x v p ≡ Some q → (q x ≡ Some v) × Grows p q
told ts x v p q h = by (is_of (ts x) v) refl
  where
    by : (b : Bool) → is_of (ts x) v ≡ b → (q x ≡ Some v) × Grows p q
    by true e = told_known (p x) x v p q refl (rw e at h)
    by false e = absurd (none-some q (rw e at h))

-- an outcome that the assignment has
abbrev pub Unified : Option Known → Assignment → Type 0
Unified o a = (q : Known) × (o ≡ Some q) × Extends q a

with_extends : (p : Known) (a : Assignment) (x : ℕ) (v : List Atom) → Extends p a → slice_index_or a x [] ≡ v → Extends (with_value p x v) a
with_extends p a x v h e y w k =
    elim (cases_eq y x) [
      | inl s ↦ (let t : with_value p x v y ≡ Some v = rw s (with_here p x v) in
          let r : v ≡ w = some_same (sym t ∙ k) in
          ap (λ (n : ℕ). slice_index_or a n []) s ∙ e ∙ r)
      | inr d ↦ h y w (sym (with_apart p x y v d) ∙ k)
    ]

tells_known : (o : Option (List Atom)) (p : Known) (a : Assignment) (x : ℕ) (v : List Atom) → p x ≡ o → Extends p a → slice_index_or a x [] ≡ v → Unified (tell_known o x v p) a
tells_known None p a x v s h e = (with_value p x v, refl, with_extends p a x v h e)
tells_known (Some w) p a x v s h e = (p, keeps (same_list w v) p ((same_list-Decides w v).1 (sym (h x w s) ∙ e)), h)

tells : (s : Setting) (p : Known) (x : ℕ) (v : List Atom) → InTypes s → Extends p s.assigned → assigned_at s x ≡ v → Unified (tell (type_in s.types) x v p) s.assigned
tells s p x v t h e =
    let k : is_of (type_in s.types x) v ≡ true = rw e at (t x) in
    rw k (tells_known (p x) p s.assigned x v refl h e)

-- ---- values of parts

text_same : {s t : List ℕ} → Value (Str s ∷ []) ≡ Value (Str t ∷ []) → s ≡ t
text_same e = cc

value_same : {v w : List Atom} → Value v ≡ Value w → v ≡ w
value_same e = cc

dotted : (v w : Valued (List Atom)) (x y : List Atom) → v ≡ Value x → w ≡ Value y → (v >>= λ a. w >>= λ b. Value (Str (characters a ++ characters b) ∷ [])) ≡ Value (Str (characters x ++ characters y) ∷ [])
dotted v w x y e f = ap (λ z. z >>= λ a. w >>= λ b. Value (Str (characters a ++ characters b) ∷ [])) e ∙ ap (λ z. z >>= λ b. Value (Str (characters x ++ characters b) ∷ [])) f

joined : (v w : Valued (List Atom)) (x y : List Atom) → v ≡ Value x → w ≡ Value y → (v >>= λ a. w >>= λ b. Value (a ++ b)) ≡ Value (x ++ y)
joined v w x y e f = ap (λ z. z >>= λ a. w >>= λ b. Value (a ++ b)) e ∙ ap (λ z. z >>= λ b. Value (x ++ b)) f

parts : (v w : Valued (List Atom)) (z : List Atom) → (v >>= λ a. w >>= λ b. Value (a ++ b)) ≡ Value z → (x y : List Atom) × (v ≡ Value x) × (w ≡ Value y) × (x ++ y ≡ z)
parts (Value x) (Value y) z e = (x, y, refl, refl, value_same e)
parts (Value x) (NoValue k) z e = absurd cc
parts (NoValue k) w z e = absurd cc

chained : (o : Option Known) (f : Known → Option Known) (a : Assignment) → Unified o a → ((q : Known) → Extends q a → Unified (f q) a) → Unified (option_and_then f o) a
chained o f a u g =
    let v = g u.0 u.2 in
    (v.0, ap (λ z. option_and_then f z) u.1 ∙ v.1, v.2)

-- ---- what variables have

text_of : (type : VariableType) (v : List Atom) → is_subtype type types.String ≡ true → is_of type v ≡ true → (t : List ℕ) × (v ≡ Str t ∷ []) × (strings_of type ≡ 0 → length t ≡ 1) × (1 - strings_of type ≤ length t)
text_of types.String (Str t ∷ []) h k = (t, refl, λ e. absurd (omega arith), omega arith)
text_of types.Char (Str (c ∷ []) ∷ []) h k = (c ∷ [], refl, λ e. refl, omega arith)
text_of type other h k = absurd cc

one_atom : (type : VariableType) (v : List Atom) → is_of type v ≡ true → lists_of type ≡ 0 → length v ≡ 1
one_atom types.List v k e = absurd (omega arith)
one_atom types.Atom (x ∷ []) k e = refl
one_atom types.Int (Int z ∷ []) k e = refl
one_atom types.String (Str t ∷ []) k e = refl
one_atom types.Char (Str (c ∷ []) ∷ []) k e = refl
one_atom type other k e = absurd cc

-- ---- chains of strings

text_value : (s : Setting) (e : Expression ℕ) → IsText (type_in s.types) e → InTypes s → (t : List ℕ) × (value_of e s ≡ Value (Str t ∷ [])) × (strings_in (type_in s.types) e ≡ 0 → length t ≡ characters_in (type_in s.types) e) × (characters_in (type_in s.types) e ≤ length t)
text_value s (Text t) c k = (t, refl, λ _. refl, omega arith)
text_value s (Variable x) c k =
    let v = text_of (type_in s.types x) (assigned_at s x) c (k x) in
    (v.0, ap (λ w. Value w) v.1, λ h. let l : length v.0 ≡ 1 = v.2 h in omega arith, v.3)
text_value s (Dot d e) c k =
    let v = text_value s d c.0 k in
    let w = text_value s e c.1 k in
    let z = length-append v.0 w.0 in
    let i = v.3 in
    let j = w.3 in (
      v.0 ++ w.0,
      dotted (value_of d s) (value_of e s) (Str v.0 ∷ []) (Str w.0 ∷ []) v.1 w.1,
      λ h.
          let l : length v.0 ≡ characters_in (type_in s.types) d = v.2 (omega arith) in
          let m : length w.0 ≡ characters_in (type_in s.types) e = w.2 (omega arith) in
          omega arith,
      omega arith,
    )
text_value s other c k = absurd c

-- ---- reading

kept_rest : {X : Type 0} (b : Bool) (v : List X) (p : Known) (r : Rest X) → keep_rest b v p ≡ Some r → (b ≡ true) × (r ≡ rest v p)
kept_rest true v p r e = (refl, sym (some_same e))
kept_rest false v p r e = absurd (none-some r e)

keeps_rest : {X : Type 0} (b : Bool) (v : List X) (p : Known) → b ≡ true → keep_rest b v p ≡ Some (rest v p)
keeps_rest true v p e = refl
keeps_rest false v p e = absurd cc

kept_value : (w : Valued (List Atom)) (x v : List Atom) (p : Known) (r : Rest Atom) → keep_value w x v p ≡ Some r → (w ≡ Value x) × (r ≡ rest v p)
kept_value (Value w) x v p r h =
    let k = kept_rest (same_list w x) v p r h in
    (ap (λ u. Value u) ((same_list-Decides w x).0 k.0), k.1)
kept_value (NoValue k) x v p r h = absurd (none-some r h)

keeps_value : (w : Valued (List Atom)) (x v : List Atom) (p : Known) → w ≡ Value x → keep_value w x v p ≡ Some (rest v p)
keeps_value (Value w) x v p e = keeps_rest (same_list w x) v p ((same_list-Decides w x).1 (value_same e))
keeps_value (NoValue k) x v p e = absurd cc

told_rests : {X : Type 0} (o : Option Known) (v : List X) (r : Rest X) → told_rest o v ≡ Some r → (o ≡ Some r.known) × (v ≡ r.left)
told_rests None v r e = absurd (none-some r e)
told_rests (Some q) v r e = let s : rest v q ≡ r = some_same e in (ap (λ (z : Rest _). Some z.known) s, ap (λ (z : Rest _). z.left) s)

behind_is : {X Y : Type 0} (o : Option (Rest X)) (f : List X → Known → Option Y) (y : Y) → behind o f ≡ Some y → (r : Rest X) × (o ≡ Some r) × (f r.left r.known ≡ Some y)
behind_is None f y e = absurd (none-some y e)
behind_is (Some r) f y e = (r, refl, e)

ended_is : {X : Type 0} (v : List X) (p q : Known) → ended v p ≡ Some q → (v ≡ []) × (p ≡ q)
ended_is [] p q e = (refl, some_same e)
ended_is (x ∷ xs) p q e = absurd (none-some q e)

-- a rest behind which this is left, that the assignment has
abbrev ReadTo : {X : Type 0} → Option (Rest X) → List X → Assignment → Type 0
ReadTo o v a = (q : Known) × (o ≡ Some (rest v q)) × Extends q a

reads_on : {X : Type 0} (o : Option (Rest X)) (f : List X → Known → Option (Rest X)) (v w : List X) (a : Assignment) → ReadTo o v a → ((q : Known) → Extends q a → ReadTo (f v q) w a) → ReadTo (behind o f) w a
reads_on o f v w a u g =
    let k = g u.0 u.2 in
    (k.0, ap (λ z. behind z f) u.1 ∙ k.1, k.2)

ends_unified : {X : Type 0} (o : Option (Rest X)) (a : Assignment) → ReadTo o [] a → Unified (behind o (λ w q. ended w q)) a
ends_unified o a u = (u.0, ap (λ z. behind z (λ w q. ended w q)) u.1, u.2)

front : {X : Type 0} (n : ℕ) (x v : List X) → length x ≡ n → (take n (x ++ v) ≡ x) × (drop n (x ++ v) ≡ v)
front n x v e = (ap (λ k. take k (x ++ v)) (sym e) ∙ take_front x v, ap (λ k. drop k (x ++ v)) (sym e) ∙ drop_front x v)

-- ---- chains of strings

text_grows : (ts : ℕ → VariableType) (n : ℕ) (e : Expression ℕ) (t : List ℕ) (p : Known) (r : Rest ℕ) → read_text ts n e t p ≡ Some r → Grows p r.known
text_grows ts n (Text u) t p r h = grows_same p r.known (ap (λ (z : Rest ℕ). z.known) (sym (kept_rest (pointwise nat_eq u (take (length u) t)) (drop (length u) t) p r h).1))
text_grows ts n (Variable x) t p r h =
    let k = span n (strings_of (ts x)) in
    (told ts x (Str (take k t) ∷ []) p r.known (told_rests (tell ts x (Str (take k t) ∷ []) p) (drop k t) r h).0).1
text_grows ts n (Dot d e) t p r h =
    let m = behind_is (read_text ts n d t p) (λ u q. read_text ts n e u q) r h in
    λ x w i. text_grows ts n e m.0.left m.0.known r m.2 x w (text_grows ts n d t p m.0 m.1 x w i)
text_grows ts n other t p r h = absurd (none-some r h)

text_sound : (s : Setting) (n : ℕ) (e : Expression ℕ) (t : List ℕ) (p : Known) (r : Rest ℕ) → read_text (type_in s.types) n e t p ≡ Some r → Extends r.known s.assigned → (u : List ℕ) × (value_of e s ≡ Value (Str u ∷ [])) × (u ++ r.left ≡ t)
text_sound s n (Text u) t p r h a =
    let k = kept_rest (pointwise nat_eq u (take (length u) t)) (drop (length u) t) p r h in
    let e : u ≡ take (length u) t = (bytes_decides u (take (length u) t)).0 k.0 in
    let l : r.left ≡ drop (length u) t = ap (λ (z : Rest ℕ). z.left) k.1 in
    (u, refl, ap (λ z. u ++ z) l ∙ ap (λ z. z ++ drop (length u) t) e ∙ take-append-drop (length u) t)
text_sound s n (Variable x) t p r h a =
    let k = span n (strings_of (type_in s.types x)) in
    let o = told_rests (tell (type_in s.types) x (Str (take k t) ∷ []) p) (drop k t) r h in
    (take k t, ap (λ w. Value w) (a x (Str (take k t) ∷ []) (told (type_in s.types) x (Str (take k t) ∷ []) p r.known o.0).0), ap (λ z. take k t ++ z) (sym o.1) ∙ take-append-drop k t)
text_sound s n (Dot d e) t p r h a =
    let m = behind_is (read_text (type_in s.types) n d t p) (λ u q. read_text (type_in s.types) n e u q) r h in
    let v = text_sound s n d t p m.0 m.1 (less m.0.known r.known s.assigned (text_grows (type_in s.types) n e m.0.left m.0.known r m.2) a) in
    let w = text_sound s n e m.0.left m.0.known r m.2 a in
    (v.0 ++ w.0, dotted (value_of d s) (value_of e s) (Str v.0 ∷ []) (Str w.0 ∷ []) v.1 w.1, append_assoc v.0 w.0 r.left ∙ ap (λ z. v.0 ++ z) w.2 ∙ v.2)
text_sound s n other t p r h a = absurd (none-some r h)

-- what a variable takes has as many items as its value
spans : (n k l : ℕ) → k ≤ 1 → (k ≡ 0 → l ≡ 1) → (k ≡ 1 → l ≡ 1 - k + n) → l ≡ span n k
spans n zero l h a b = a refl
spans n (suc k) l h a b = let e : suc k ≡ 1 = omega arith in let f : l ≡ 1 - suc k + n = b e in omega arith

strings_few : (type : VariableType) → strings_of type ≤ 1
strings_few types.String = omega arith
strings_few other = omega arith

lists_few : (type : VariableType) → lists_of type ≤ 1
lists_few types.List = omega arith
lists_few other = omega arith

text_complete : (s : Setting) (n : ℕ) (e : Expression ℕ) (u t : List ℕ) (p : Known) → IsText (type_in s.types) e → InTypes s → value_of e s ≡ Value (Str u ∷ []) → (strings_in (type_in s.types) e ≡ 1 → length u ≡ characters_in (type_in s.types) e + n) → Extends p s.assigned → ReadTo (read_text (type_in s.types) n e (u ++ t) p) t s.assigned
text_complete s n (Text w) u t p c k v l a =
    let e : w ≡ u = text_same v in
    let o = front (length w) u t (ap length (sym e)) in
    let b : pointwise nat_eq w (take (length w) (u ++ t)) ≡ true = (bytes_decides w (take (length w) (u ++ t))).1 (e ∙ sym o.0) in
    (p, keeps_rest (pointwise nat_eq w (take (length w) (u ++ t))) (drop (length w) (u ++ t)) p b ∙ ap (λ z. Some (rest z p)) o.1, a)
text_complete s n (Variable x) u t p c k v l a =
    let ts = type_in s.types in
    let y = text_of (ts x) (assigned_at s x) c (k x) in
    let e : y.0 ≡ u = text_same (ap (λ z. Value z) (sym y.1) ∙ v) in
    let one : strings_of (ts x) ≡ 0 → length u ≡ 1 = λ z. ap length (sym e) ∙ y.2 z in
    let o = front (span n (strings_of (ts x))) u t (spans n (strings_of (ts x)) (length u) (strings_few (ts x)) one l) in
    let w = tells s p x (Str u ∷ []) k a (value_same v) in
    (w.0, ap (λ z. told_rest (tell ts x (Str z ∷ []) p) (drop (span n (strings_of (ts x))) (u ++ t))) o.0 ∙ ap (λ z. told_rest z (drop (span n (strings_of (ts x))) (u ++ t))) w.1 ∙ ap (λ z. Some (rest z w.0)) o.1, w.2)
text_complete s n (Dot d e) u t p c k v l a =
    let ts = type_in s.types in
    let x = text_value s d c.0 k in
    let y = text_value s e c.1 k in
    let one = c.2 in
    let z : x.0 ++ y.0 ≡ u = text_same (sym (dotted (value_of d s) (value_of e s) (Str x.0 ∷ []) (Str y.0 ∷ []) x.1 y.1) ∙ v) in
    let whole : length x.0 + length y.0 ≡ length u = sym (length-append x.0 y.0) ∙ ap length z in
    let i = text_complete s n d x.0 (y.0 ++ t) p c.0 k x.1 (λ h. let b : length y.0 ≡ characters_in ts e = y.2 (omega arith) in let w : length u ≡ characters_in ts d + characters_in ts e + n = l (omega arith) in omega arith) a in
    let j = λ (q : Known) (b : Extends q s.assigned). text_complete s n e y.0 t q c.1 k y.1 (λ h. let b : length x.0 ≡ characters_in ts d = x.2 (omega arith) in let w : length u ≡ characters_in ts d + characters_in ts e + n = l (omega arith) in omega arith) b in
    let r = reads_on (read_text ts n d (x.0 ++ (y.0 ++ t)) p) (λ w q. read_text ts n e w q) (y.0 ++ t) t s.assigned i j in
    subst (λ w. ReadTo (read_text ts n (Dot d e) w p) t s.assigned) (sym (append_assoc x.0 y.0 t) ∙ ap (λ w. w ++ t) z) r
text_complete s n other u t p c k v l a = absurd c

-- what is to spare for the string variable
text_spare : (s : Setting) (e : Expression ℕ) (t : List ℕ) → IsText (type_in s.types) e → InTypes s → value_of e s ≡ Value (Str t ∷ []) → strings_in (type_in s.types) e ≡ 1 → length t ≡ characters_in (type_in s.types) e + (length t - characters_in (type_in s.types) e)
text_spare s e t c k v h =
    let x = text_value s e c k in
    let l : length x.0 ≡ length t = ap length (text_same (sym x.1 ∙ v)) in
    let b : characters_in (type_in s.types) e ≤ length x.0 = x.3 in
    omega arith

-- a chain that has a whole string as its value
whole_text_sound : (s : Setting) (e : Expression ℕ) (t : List ℕ) (p q : Known) → unify_text (type_in s.types) e t p ≡ Some q → Extends q s.assigned → value_of e s ≡ Value (Str t ∷ [])
whole_text_sound s e t p q h a =
    let n = length t - characters_in (type_in s.types) e in
    let m = behind_is (read_text (type_in s.types) n e t p) (λ u q. ended u q) q h in
    let f = ended_is m.0.left m.0.known q m.2 in
    let v = text_sound s n e t p m.0 m.1 (subst (λ (z : Known). Extends z s.assigned) (sym f.1) a) in
    v.1 ∙ ap (λ z. Value (Str z ∷ [])) (sym (append-nil v.0) ∙ ap (λ z. v.0 ++ z) (sym f.0) ∙ v.2)

whole_text_complete : (s : Setting) (e : Expression ℕ) (t : List ℕ) (p : Known) → IsText (type_in s.types) e → InTypes s → value_of e s ≡ Value (Str t ∷ []) → Extends p s.assigned → Unified (unify_text (type_in s.types) e t p) s.assigned
whole_text_complete s e t p c k v a =
    let ts = type_in s.types in
    let r = text_complete s (length t - characters_in ts e) e t [] p c k v (text_spare s e t c k v) a in
    ends_unified (read_text ts (length t - characters_in ts e) e t p) s.assigned (subst (λ z. ReadTo (read_text ts (length t - characters_in ts e) e z p) [] s.assigned) (append-nil t) r)

whole_text_grows : (ts : ℕ → VariableType) (e : Expression ℕ) (t : List ℕ) (p q : Known) → unify_text ts e t p ≡ Some q → Grows p q
whole_text_grows ts e t p q h =
    let n = length t - characters_in ts e in
    let m = behind_is (read_text ts n e t p) (λ u q. ended u q) q h in
    let f = ended_is m.0.left m.0.known q m.2 in
    subst (λ (z : Known). Grows p z) f.1 (text_grows ts n e t p m.0 m.1)

-- ---- what stands in a label is known behind it

text_covers : (ts : ℕ → VariableType) (n : ℕ) (e : Expression ℕ) (t : List ℕ) (p : Known) (r : Rest ℕ) (x : ℕ) → read_text ts n e t p ≡ Some r → StandsIn x e → IsSome (r.known x)
text_covers ts n (Variable y) t p r x h i =
    let k = span n (strings_of (ts y)) in
    rw (i, (told ts y (Str (take k t) ∷ []) p r.known (told_rests (tell ts y (Str (take k t) ∷ []) p) (drop k t) r h).0).0) refl
text_covers ts n (Dot d e) t p r x h i =
    let m = behind_is (read_text ts n d t p) (λ u q. read_text ts n e u q) r h in
    elim i [
      | inl j ↦ still_some m.0.known r.known x (text_grows ts n e m.0.left m.0.known r m.2) (text_covers ts n d t p m.0 x m.1 j)
      | inr j ↦ text_covers ts n e m.0.left m.0.known r x m.2 j
    ]
text_covers ts n (Join d e) t p r x h i = absurd (none-some r h)
text_covers ts n other t p r x h i = absurd i

whole_text_covers : (ts : ℕ → VariableType) (e : Expression ℕ) (t : List ℕ) (p q : Known) (x : ℕ) → unify_text ts e t p ≡ Some q → StandsIn x e → IsSome (q x)
whole_text_covers ts e t p q x h i =
    let n = length t - characters_in ts e in
    let m = behind_is (read_text ts n e t p) (λ u q. ended u q) q h in
    let f = ended_is m.0.left m.0.known q m.2 in
    subst (λ (z : Known). IsSome (z x)) f.1 (text_covers ts n e t p m.0 x m.1 i)

-- ---- labels

on_text_is : (v : List Atom) (f : List ℕ → Option Known) (q : Known) → on_text v f ≡ Some q → (t : List ℕ) × (v ≡ Str t ∷ []) × (f t ≡ Some q)
on_text_is (Str t ∷ []) f q h = (t, refl, h)
on_text_is other f q h = absurd (none-some q h)

-- one atom, and the others
one_and_others : (w v r : List Atom) → w ≡ take 1 v → r ≡ drop 1 v → w ++ r ≡ v
one_and_others w v r e f = ap (λ z. z ++ r) e ∙ ap (λ z. take 1 v ++ z) f ∙ take-append-drop 1 v

read_grows : (ts : ℕ → VariableType) (n : ℕ) (e : Expression ℕ) (v : List Atom) (p : Known) (r : Rest Atom) → read ts n e v p ≡ Some r → Grows p r.known
read_grows ts n (Number z) v p r h = grows_same p r.known (ap (λ (z : Rest Atom). z.known) (sym (kept_rest (same_list (number z) (take 1 v)) (drop 1 v) p r h).1))
read_grows ts n (Text t) v p r h = grows_same p r.known (ap (λ (z : Rest Atom). z.known) (sym (kept_rest (same_list (Str t ∷ []) (take 1 v)) (drop 1 v) p r h).1))
read_grows ts n (Variable x) v p r h =
    let k = span n (lists_of (ts x)) in
    (told ts x (take k v) p r.known (told_rests (tell ts x (take k v) p) (drop k v) r h).0).1
read_grows ts n (Negated (Number z)) v p r h = grows_same p r.known (ap (λ (z : Rest Atom). z.known) (sym (kept_value (ranged (neg_ℤ z)) (take 1 v) (drop 1 v) p r h).1))
read_grows ts n (Dot d e) v p r h =
    let o = told_rests (on_text (take 1 v) (λ s. unify_text ts (Dot d e) s p)) (drop 1 v) r h in
    let t = on_text_is (take 1 v) (λ s. unify_text ts (Dot d e) s p) r.known o.0 in
    whole_text_grows ts (Dot d e) t.0 p r.known t.2
read_grows ts n Empty v p r h = grows_same p r.known (ap (λ (z : Rest Atom). z.known) (some_same h))
read_grows ts n (Join d e) v p r h =
    let m = behind_is (read ts n d v p) (λ w q. read ts n e w q) r h in
    λ x w i. read_grows ts n e m.0.left m.0.known r m.2 x w (read_grows ts n d v p m.0 m.1 x w i)
read_grows ts n other v p r h = absurd (none-some r h)

read_sound : (s : Setting) (n : ℕ) (e : Expression ℕ) (v : List Atom) (p : Known) (r : Rest Atom) → read (type_in s.types) n e v p ≡ Some r → Extends r.known s.assigned → (w : List Atom) × (value_of e s ≡ Value w) × (w ++ r.left ≡ v)
read_sound s n (Number z) v p r h a =
    let k = kept_rest (same_list (number z) (take 1 v)) (drop 1 v) p r h in
    (number z, refl, one_and_others (number z) v r.left ((same_list-Decides (number z) (take 1 v)).0 k.0) (ap (λ (z : Rest Atom). z.left) k.1))
read_sound s n (Text t) v p r h a =
    let k = kept_rest (same_list (Str t ∷ []) (take 1 v)) (drop 1 v) p r h in
    (Str t ∷ [], refl, one_and_others (Str t ∷ []) v r.left ((same_list-Decides (Str t ∷ []) (take 1 v)).0 k.0) (ap (λ (z : Rest Atom). z.left) k.1))
read_sound s n (Variable x) v p r h a =
    let k = span n (lists_of (type_in s.types x)) in
    let o = told_rests (tell (type_in s.types) x (take k v) p) (drop k v) r h in
    (take k v, ap (λ w. Value w) (a x (take k v) (told (type_in s.types) x (take k v) p r.known o.0).0), ap (λ z. take k v ++ z) (sym o.1) ∙ take-append-drop k v)
read_sound s n (Negated (Number z)) v p r h a =
    let k = kept_value (ranged (neg_ℤ z)) (take 1 v) (drop 1 v) p r h in
    (take 1 v, k.0, one_and_others (take 1 v) v r.left refl (ap (λ (z : Rest Atom). z.left) k.1))
read_sound s n (Dot d e) v p r h a =
    let o = told_rests (on_text (take 1 v) (λ u. unify_text (type_in s.types) (Dot d e) u p)) (drop 1 v) r h in
    let t = on_text_is (take 1 v) (λ u. unify_text (type_in s.types) (Dot d e) u p) r.known o.0 in
    (Str t.0 ∷ [], whole_text_sound s (Dot d e) t.0 p r.known t.2 a, one_and_others (Str t.0 ∷ []) v r.left (sym t.1) (sym o.1))
read_sound s n Empty v p r h a = ([], refl, ap (λ (z : Rest Atom). z.left) (sym (some_same h)))
read_sound s n (Join d e) v p r h a =
    let m = behind_is (read (type_in s.types) n d v p) (λ w q. read (type_in s.types) n e w q) r h in
    let x = read_sound s n d v p m.0 m.1 (less m.0.known r.known s.assigned (read_grows (type_in s.types) n e m.0.left m.0.known r m.2) a) in
    let y = read_sound s n e m.0.left m.0.known r m.2 a in
    (x.0 ++ y.0, joined (value_of d s) (value_of e s) x.0 y.0 x.1 y.1, append_assoc x.0 y.0 r.left ∙ ap (λ z. x.0 ++ z) y.2 ∙ x.2)
read_sound s n other v p r h a = absurd (none-some r h)

ranged_width : (z : ℤ) (v : List Atom) → ranged z ≡ Value v → length v ≡ 1
ranged_width z v = by (int_le (negsuc (2 ^ 127 - 1)) z && int_lt z (pos (2 ^ 127)))
  where
    by : (b : Bool) → (if b then Value (number z) else NoValue PastBits) ≡ Value v → length v ≡ 1
    by true e = ap length (sym (value_same e))
    by false e = absurd cc

-- the atoms of a value, where no list variable stands in the label
width : (s : Setting) (e : Expression ℕ) (v : List Atom) → IsSimple (type_in s.types) e → InTypes s → value_of e s ≡ Value v → lists_in (type_in s.types) e ≡ 0 → length v ≡ atoms_in (type_in s.types) e
width s (Number z) v c k h n = ap length (sym (value_same h))
width s (Text t) v c k h n = ap length (sym (value_same h))
width s (Variable x) v c k h n =
    let l : length (assigned_at s x) ≡ 1 = one_atom (type_in s.types x) (assigned_at s x) (k x) n in
    ap length (sym (value_same h)) ∙ (omega arith)
width s (Negated (Number z)) v c k h n = ranged_width (neg_ℤ z) v h
width s (Dot d e) v c k h n = let t = text_value s (Dot d e) c k in ap length (value_same (sym h ∙ t.1))
width s Empty v c k h n = ap length (sym (value_same h))
width s (Join d e) v c k h n =
    let o = parts (value_of d s) (value_of e s) v h in
    let x : length o.0 ≡ atoms_in (type_in s.types) d = width s d o.0 c.0 k o.2 (omega arith) in
    let y : length o.1 ≡ atoms_in (type_in s.types) e = width s e o.1 c.1 k o.3 (omega arith) in
    ap length (sym o.4) ∙ length-append o.0 o.1 ∙ (omega arith)
width s other v c k h n = absurd c

some_atoms : (type : VariableType) (v : List Atom) → is_of type v ≡ true → 1 - lists_of type ≤ length v
some_atoms types.List v k = omega arith
some_atoms types.Atom (x ∷ []) k = omega arith
some_atoms types.Int (Int z ∷ []) k = omega arith
some_atoms types.String (Str t ∷ []) k = omega arith
some_atoms types.Char (Str (c ∷ []) ∷ []) k = omega arith
some_atoms type other k = absurd cc

least : (s : Setting) (e : Expression ℕ) (v : List Atom) → IsSimple (type_in s.types) e → InTypes s → value_of e s ≡ Value v → atoms_in (type_in s.types) e ≤ length v
least s (Number z) v c k h = let l : 1 ≡ length v = ap length (value_same h) in omega arith
least s (Text t) v c k h = let l : 1 ≡ length v = ap length (value_same h) in omega arith
least s (Variable x) v c k h =
    let l : length (assigned_at s x) ≡ length v = ap length (value_same h) in
    let b = some_atoms (type_in s.types x) (assigned_at s x) (k x) in
    omega arith
least s (Negated (Number z)) v c k h = let l = ranged_width (neg_ℤ z) v h in omega arith
least s (Dot d e) v c k h =
    let t = text_value s (Dot d e) c k in
    let l : length v ≡ 1 = ap length (value_same (sym h ∙ t.1)) in
    omega arith
least s Empty v c k h = omega arith
least s (Join d e) v c k h =
    let o = parts (value_of d s) (value_of e s) v h in
    let x = least s d o.0 c.0 k o.2 in
    let y = least s e o.1 c.1 k o.3 in
    let l : length o.0 + length o.1 ≡ length v = sym (length-append o.0 o.1) ∙ ap length o.4 in
    omega arith
least s other v c k h = absurd c

spare : (s : Setting) (e : Expression ℕ) (v : List Atom) → IsSimple (type_in s.types) e → InTypes s → value_of e s ≡ Value v → lists_in (type_in s.types) e ≡ 1 → length v ≡ atoms_in (type_in s.types) e + (length v - atoms_in (type_in s.types) e)
spare s e v c k h one = let b = least s e v c k h in omega arith

reads_one : (x v w : List Atom) (p : Known) (a : Assignment) → x ≡ v → length x ≡ 1 → Extends p a → ReadTo (keep_rest (same_list x (take 1 (v ++ w))) (drop 1 (v ++ w)) p) w a
reads_one x v w p a e l h =
    let o = front 1 v w (ap length (sym e) ∙ l) in
    (p, keeps_rest (same_list x (take 1 (v ++ w))) (drop 1 (v ++ w)) p ((same_list-Decides x (take 1 (v ++ w))).1 (e ∙ sym o.0)) ∙ ap (λ z. Some (rest z p)) o.1, h)

read_complete : (s : Setting) (n : ℕ) (e : Expression ℕ) (v w : List Atom) (p : Known) → IsSimple (type_in s.types) e → InTypes s → value_of e s ≡ Value v → (lists_in (type_in s.types) e ≡ 1 → length v ≡ atoms_in (type_in s.types) e + n) → Extends p s.assigned → ReadTo (read (type_in s.types) n e (v ++ w) p) w s.assigned
read_complete s n (Number z) v w p c k h l a = reads_one (number z) v w p s.assigned (value_same h) refl a
read_complete s n (Text t) v w p c k h l a = reads_one (Str t ∷ []) v w p s.assigned (value_same h) refl a
read_complete s n (Variable x) v w p c k h l a =
    let ts = type_in s.types in
    let e : assigned_at s x ≡ v = value_same h in
    let one : lists_of (ts x) ≡ 0 → length v ≡ 1 = λ z. ap length (sym e) ∙ one_atom (ts x) (assigned_at s x) (k x) z in
    let o = front (span n (lists_of (ts x))) v w (spans n (lists_of (ts x)) (length v) (lists_few (ts x)) one l) in
    let u = tells s p x v k a e in
    (u.0, ap (λ z. told_rest (tell ts x z p) (drop (span n (lists_of (ts x))) (v ++ w))) o.0 ∙ ap (λ z. told_rest z (drop (span n (lists_of (ts x))) (v ++ w))) u.1 ∙ ap (λ z. Some (rest z u.0)) o.1, u.2)
read_complete s n (Negated (Number z)) v w p c k h l a =
    let o = front 1 v w (ranged_width (neg_ℤ z) v h) in
    (p, keeps_value (ranged (neg_ℤ z)) (take 1 (v ++ w)) (drop 1 (v ++ w)) p (h ∙ ap (λ u. Value u) (sym o.0)) ∙ ap (λ u. Some (rest u p)) o.1, a)
read_complete s n (Dot d e) v w p c k h l a =
    let ts = type_in s.types in
    let t = text_value s (Dot d e) c k in
    let i : v ≡ Str t.0 ∷ [] = value_same (sym h ∙ t.1) in
    let o = front 1 v w (ap length i) in
    let u = whole_text_complete s (Dot d e) t.0 p c k t.1 a in
    let b : on_text (take 1 (v ++ w)) (λ y. unify_text ts (Dot d e) y p) ≡ Some u.0 = ap (λ z. on_text z (λ y. unify_text ts (Dot d e) y p)) (o.0 ∙ i) ∙ u.1 in
    (u.0, ap (λ z. told_rest z (drop 1 (v ++ w))) b ∙ ap (λ z. Some (rest z u.0)) o.1, u.2)
read_complete s n Empty v w p c k h l a = (p, ap (λ z. Some (rest (z ++ w) p)) (sym (value_same h)), a)
read_complete s n (Join d e) v w p c k h l a =
    let ts = type_in s.types in
    let o = parts (value_of d s) (value_of e s) v h in
    let one = c.2 in
    let whole : length o.0 + length o.1 ≡ length v = sym (length-append o.0 o.1) ∙ ap length o.4 in
    let i = read_complete s n d o.0 (o.1 ++ w) p c.0 k o.2 (λ g. let b : length o.1 ≡ atoms_in ts e = width s e o.1 c.1 k o.3 (omega arith) in let f : length v ≡ atoms_in ts d + atoms_in ts e + n = l (omega arith) in omega arith) a in
    let j = λ (q : Known) (b : Extends q s.assigned). read_complete s n e o.1 w q c.1 k o.3 (λ g. let b : length o.0 ≡ atoms_in ts d = width s d o.0 c.0 k o.2 (omega arith) in let f : length v ≡ atoms_in ts d + atoms_in ts e + n = l (omega arith) in omega arith) b in
    let r = reads_on (read ts n d (o.0 ++ (o.1 ++ w)) p) (λ u q. read ts n e u q) (o.1 ++ w) w s.assigned i j in
    subst (λ u. ReadTo (read ts n (Join d e) u p) w s.assigned) (sym (append_assoc o.0 o.1 w) ∙ ap (λ u. u ++ w) o.4) r
read_complete s n other v w p c k h l a = absurd c

read_covers : (ts : ℕ → VariableType) (n : ℕ) (e : Expression ℕ) (v : List Atom) (p : Known) (r : Rest Atom) (x : ℕ) → read ts n e v p ≡ Some r → StandsIn x e → IsSome (r.known x)
read_covers ts n (Variable y) v p r x h i =
    let k = span n (lists_of (ts y)) in
    rw (i, (told ts y (take k v) p r.known (told_rests (tell ts y (take k v) p) (drop k v) r h).0).0) refl
read_covers ts n (Dot d e) v p r x h i =
    let o = told_rests (on_text (take 1 v) (λ s. unify_text ts (Dot d e) s p)) (drop 1 v) r h in
    let t = on_text_is (take 1 v) (λ s. unify_text ts (Dot d e) s p) r.known o.0 in
    whole_text_covers ts (Dot d e) t.0 p r.known x t.2 i
read_covers ts n (Join d e) v p r x h i =
    let m = behind_is (read ts n d v p) (λ w q. read ts n e w q) r h in
    elim i [
      | inl j ↦ still_some m.0.known r.known x (read_grows ts n e m.0.left m.0.known r m.2) (read_covers ts n d v p m.0 x m.1 j)
      | inr j ↦ read_covers ts n e m.0.left m.0.known r x m.2 j
    ]
read_covers ts n other v p r x h i = absurd i

-- ---- whole labels

pub grows : (ts : ℕ → VariableType) (e : Expression ℕ) (v : List Atom) (p q : Known) → unify ts e v p ≡ Some q → Grows p q
grows ts e v p q h =
    let n = length v - atoms_in ts e in
    let m = behind_is (read ts n e v p) (λ w q. ended w q) q h in
    let f = ended_is m.0.left m.0.known q m.2 in
    subst (λ (z : Known). Grows p z) f.1 (read_grows ts n e v p m.0 m.1)

pub sound : (s : Setting) (e : Expression ℕ) (v : List Atom) (p q : Known) → unify (type_in s.types) e v p ≡ Some q → Extends q s.assigned → value_of e s ≡ Value v
sound s e v p q h a =
    let n = length v - atoms_in (type_in s.types) e in
    let m = behind_is (read (type_in s.types) n e v p) (λ w q. ended w q) q h in
    let f = ended_is m.0.left m.0.known q m.2 in
    let x = read_sound s n e v p m.0 m.1 (subst (λ (z : Known). Extends z s.assigned) (sym f.1) a) in
    x.1 ∙ ap (λ w. Value w) (sym (append-nil x.0) ∙ ap (λ z. x.0 ++ z) (sym f.0) ∙ x.2)

pub complete : (s : Setting) (e : Expression ℕ) (v : List Atom) (p : Known) → IsSimple (type_in s.types) e → InTypes s → value_of e s ≡ Value v → Extends p s.assigned → Unified (unify (type_in s.types) e v p) s.assigned
complete s e v p c k h a =
    let ts = type_in s.types in
    let r = read_complete s (length v - atoms_in ts e) e v [] p c k h (spare s e v c k h) a in
    ends_unified (read ts (length v - atoms_in ts e) e v p) s.assigned (subst (λ z. ReadTo (read ts (length v - atoms_in ts e) e z p) [] s.assigned) (append-nil v) r)

pub covers : (ts : ℕ → VariableType) (e : Expression ℕ) (v : List Atom) (p q : Known) (x : ℕ) → unify ts e v p ≡ Some q → StandsIn x e → IsSome (q x)
covers ts e v p q x h i =
    let n = length v - atoms_in ts e in
    let m = behind_is (read ts n e v p) (λ w q. ended w q) q h in
    let f = ended_is m.0.left m.0.known q m.2 in
    subst (λ (z : Known). IsSome (z x)) f.1 (read_covers ts n e v p m.0 x m.1 i)

-- ---- all labels of a side

abbrev pub AreSimple : (ℕ → VariableType) → List (Expression ℕ) → Type 0
AreSimple ts [] = Unit {0}
AreSimple ts (e ∷ es) = IsSimple ts e × AreSimple ts es

pub are_simple : (ts : ℕ → VariableType) (es : List (Expression ℕ)) → All (IsSimple ts) es → AreSimple ts es
are_simple ts [] h = tt
are_simple ts (e ∷ es) h = (h 0 e (omega arith), are_simple ts es (λ k d l. h (suc k) d (omega arith)))

-- a variable stands in some of these labels
abbrev pub StandsInOne : ℕ → List (Expression ℕ) → Type 0
StandsInOne x [] = ⊥
StandsInOne x (e ∷ es) = StandsIn x e ⊎ StandsInOne x es

pub stands_in_one : (x : ℕ) (es : List (Expression ℕ)) → Any (StandsIn x) es → StandsInOne x es
stands_in_one x es h = by es h.0 h.1 h.2 h.3 h.4
  where
    by : (fs : List (Expression ℕ)) (k : ℕ) (e : Expression ℕ) → k < length fs → slice_index_or fs k e ≡ e → StandsIn x e → StandsInOne x fs
    by [] k e l s i = absurd (omega arith)
    by (f ∷ fs) zero e l s i = inl (subst (StandsIn x) (sym s) i)
    by (f ∷ fs) (suc k) e l s i = inr (by fs k e (omega arith) s i)

abbrev pub Fit : Setting → List (Expression ℕ) → List (Option (List Atom)) → Type 0
Fit s [] [] = Unit {0}
Fit s (e ∷ es) (Some v ∷ vs) = (value_of e s ≡ Value v) × Fit s es vs
Fit s es vs = ⊥

all_grow : (ts : ℕ → VariableType) (es : List (Expression ℕ)) (vs : List (Option (List Atom))) (p q : Known) → unify_all ts es vs p ≡ Some q → Grows p q
all_grow ts [] [] p q h = grows_same p q (some_same h)
all_grow ts (e ∷ es) (Some v ∷ vs) p q h =
    let r = and_then (unify_all ts es vs) (unify ts e v p) q h in
    λ x w i. all_grow ts es vs r.0 q r.2 x w (grows ts e v p r.0 r.1 x w i)
all_grow ts es vs p q h = absurd (none-some q h)

pub all_sound : (s : Setting) (es : List (Expression ℕ)) (vs : List (Option (List Atom))) (p q : Known) → unify_all (type_in s.types) es vs p ≡ Some q → Extends q s.assigned → Fit s es vs
all_sound s [] [] p q h a = tt
all_sound s (e ∷ es) (Some v ∷ vs) p q h a =
    let r = and_then (unify_all (type_in s.types) es vs) (unify (type_in s.types) e v p) q h in
    (sound s e v p r.0 r.1 (less r.0 q s.assigned (all_grow (type_in s.types) es vs r.0 q r.2) a), all_sound s es vs r.0 q r.2 a)
all_sound s es vs p q h a = absurd (none-some q h)

pub all_complete : (s : Setting) (es : List (Expression ℕ)) (vs : List (Option (List Atom))) (p : Known) → AreSimple (type_in s.types) es → InTypes s → Fit s es vs → Extends p s.assigned → Unified (unify_all (type_in s.types) es vs p) s.assigned
all_complete s [] [] p c k h a = (p, refl, a)
all_complete s (e ∷ es) (Some v ∷ vs) p c k h a =
    chained (unify (type_in s.types) e v p) (unify_all (type_in s.types) es vs) s.assigned (complete s e v p c.0 k h.0 a) (λ q b. all_complete s es vs q c.1 k h.1 b)
all_complete s es vs p c k h a = absurd h

pub all_cover : (ts : ℕ → VariableType) (es : List (Expression ℕ)) (vs : List (Option (List Atom))) (p q : Known) (x : ℕ) → unify_all ts es vs p ≡ Some q → StandsInOne x es → IsSome (q x)
all_cover ts (e ∷ es) (Some v ∷ vs) p q x h i =
    let r = and_then (unify_all ts es vs) (unify ts e v p) q h in
    elim i [
      | inl j ↦ still_some r.0 q x (all_grow ts es vs r.0 q r.2) (covers ts e v p r.0 x r.1 j)
      | inr j ↦ all_cover ts es vs r.0 q x r.2 j
    ]
all_cover ts [] vs p q x h i = absurd i
all_cover ts es vs p q x h i = absurd (none-some q h)

-- ---- values are of the variables' types

abbrev pub Typed : (ℕ → VariableType) → Known → Type 0
Typed ts p = (x : ℕ) (w : List Atom) → p x ≡ Some w → is_of (ts x) w ≡ true

typed_same : (ts : ℕ → VariableType) (p q : Known) → p ≡ q → Typed ts p → Typed ts q
typed_same ts p q e h = subst (λ (z : Known). Typed ts z) e h

with_typed : (ts : ℕ → VariableType) (x : ℕ) (v : List Atom) (p : Known) → is_of (ts x) v ≡ true → Typed ts p → Typed ts (with_value p x v)
with_typed ts x v p k h y w e =
    elim (cases_eq y x) [
      | inl s ↦ (let t : with_value p x v y ≡ Some v = rw s (with_here p x v) in
          let r : v ≡ w = some_same (sym t ∙ e) in
          subst (λ z. is_of (ts y) z ≡ true) r (subst (λ n. is_of (ts n) v ≡ true) (sym s) k))
      | inr d ↦ h y w (sym (with_apart p x y v d) ∙ e)
    ]

tell_typed : (ts : ℕ → VariableType) (x : ℕ) (v : List Atom) (p q : Known) → tell ts x v p ≡ Some q → Typed ts p → Typed ts q
tell_typed ts x v p q h t = by (is_of (ts x) v) refl
  where
    known : (o : Option (List Atom)) → is_of (ts x) v ≡ true → tell_known o x v p ≡ Some q → Typed ts q
    known None k e = typed_same ts (with_value p x v) q (some_same e) (with_typed ts x v p k t)
    known (Some w) k e = typed_same ts p q (kept (same_list w v) p q e).1 t

    by : (b : Bool) → is_of (ts x) v ≡ b → Typed ts q
    by true e = known (p x) e (rw e at h)
    by false e = absurd (none-some q (rw e at h))

text_typed : (ts : ℕ → VariableType) (n : ℕ) (e : Expression ℕ) (t : List ℕ) (p : Known) (r : Rest ℕ) → read_text ts n e t p ≡ Some r → Typed ts p → Typed ts r.known
text_typed ts n (Text u) t p r h k = typed_same ts p r.known (ap (λ (z : Rest ℕ). z.known) (sym (kept_rest (pointwise nat_eq u (take (length u) t)) (drop (length u) t) p r h).1)) k
text_typed ts n (Variable x) t p r h k =
    let j = span n (strings_of (ts x)) in
    tell_typed ts x (Str (take j t) ∷ []) p r.known (told_rests (tell ts x (Str (take j t) ∷ []) p) (drop j t) r h).0 k
text_typed ts n (Dot d e) t p r h k =
    let m = behind_is (read_text ts n d t p) (λ u q. read_text ts n e u q) r h in
    text_typed ts n e m.0.left m.0.known r m.2 (text_typed ts n d t p m.0 m.1 k)
text_typed ts n other t p r h k = absurd (none-some r h)

whole_text_typed : (ts : ℕ → VariableType) (e : Expression ℕ) (t : List ℕ) (p q : Known) → unify_text ts e t p ≡ Some q → Typed ts p → Typed ts q
whole_text_typed ts e t p q h k =
    let n = length t - characters_in ts e in
    let m = behind_is (read_text ts n e t p) (λ u q. ended u q) q h in
    let f = ended_is m.0.left m.0.known q m.2 in
    typed_same ts m.0.known q f.1 (text_typed ts n e t p m.0 m.1 k)

read_typed : (ts : ℕ → VariableType) (n : ℕ) (e : Expression ℕ) (v : List Atom) (p : Known) (r : Rest Atom) → read ts n e v p ≡ Some r → Typed ts p → Typed ts r.known
read_typed ts n (Number z) v p r h k = typed_same ts p r.known (ap (λ (z : Rest Atom). z.known) (sym (kept_rest (same_list (number z) (take 1 v)) (drop 1 v) p r h).1)) k
read_typed ts n (Text t) v p r h k = typed_same ts p r.known (ap (λ (z : Rest Atom). z.known) (sym (kept_rest (same_list (Str t ∷ []) (take 1 v)) (drop 1 v) p r h).1)) k
read_typed ts n (Variable x) v p r h k =
    let j = span n (lists_of (ts x)) in
    tell_typed ts x (take j v) p r.known (told_rests (tell ts x (take j v) p) (drop j v) r h).0 k
read_typed ts n (Negated (Number z)) v p r h k = typed_same ts p r.known (ap (λ (z : Rest Atom). z.known) (sym (kept_value (ranged (neg_ℤ z)) (take 1 v) (drop 1 v) p r h).1)) k
read_typed ts n (Dot d e) v p r h k =
    let o = told_rests (on_text (take 1 v) (λ s. unify_text ts (Dot d e) s p)) (drop 1 v) r h in
    let t = on_text_is (take 1 v) (λ s. unify_text ts (Dot d e) s p) r.known o.0 in
    whole_text_typed ts (Dot d e) t.0 p r.known t.2 k
read_typed ts n Empty v p r h k = typed_same ts p r.known (ap (λ (z : Rest Atom). z.known) (some_same h)) k
read_typed ts n (Join d e) v p r h k =
    let m = behind_is (read ts n d v p) (λ w q. read ts n e w q) r h in
    read_typed ts n e m.0.left m.0.known r m.2 (read_typed ts n d v p m.0 m.1 k)
read_typed ts n other v p r h k = absurd (none-some r h)

typed : (ts : ℕ → VariableType) (e : Expression ℕ) (v : List Atom) (p q : Known) → unify ts e v p ≡ Some q → Typed ts p → Typed ts q
typed ts e v p q h k =
    let n = length v - atoms_in ts e in
    let m = behind_is (read ts n e v p) (λ w q. ended w q) q h in
    let f = ended_is m.0.left m.0.known q m.2 in
    typed_same ts m.0.known q f.1 (read_typed ts n e v p m.0 m.1 k)

pub all_typed : (ts : ℕ → VariableType) (es : List (Expression ℕ)) (vs : List (Option (List Atom))) (p q : Known) → unify_all ts es vs p ≡ Some q → Typed ts p → Typed ts q
all_typed ts [] [] p q h k = typed_same ts p q (some_same h) k
all_typed ts (e ∷ es) (Some v ∷ vs) p q h k =
    let r = and_then (unify_all ts es vs) (unify ts e v p) q h in
    all_typed ts es vs r.0 q r.2 (typed ts e v p r.0 r.1 k)
all_typed ts es vs p q h k = absurd (none-some q h)

-- ---- some labels behind others

some_behind : (ts : ℕ → VariableType) (es fs : List (Expression ℕ)) (vs ws : List (Option (List Atom))) (o : Option Known) → ((q : Known) → unify_all ts (es ++ fs) (vs ++ ws) q ≡ option_and_then (λ q. unify_all ts fs ws q) (unify_all ts es vs q)) → option_and_then (λ q. unify_all ts (es ++ fs) (vs ++ ws) q) o ≡ option_and_then (λ q. unify_all ts fs ws q) (option_and_then (λ q. unify_all ts es vs q) o)
some_behind ts es fs vs ws None h = refl
some_behind ts es fs vs ws (Some q) h = h q

pub unify_both : (ts : ℕ → VariableType) (es fs : List (Expression ℕ)) (vs ws : List (Option (List Atom))) (p : Known) → length es ≡ length vs → unify_all ts (es ++ fs) (vs ++ ws) p ≡ option_and_then (λ q. unify_all ts fs ws q) (unify_all ts es vs p)
unify_both ts [] fs [] ws p l = refl
unify_both ts (e ∷ es) fs (Some v ∷ vs) ws p l = some_behind ts es fs vs ws (unify ts e v p) (λ q. unify_both ts es fs vs ws q (omega arith))
unify_both ts (e ∷ es) fs (None ∷ vs) ws p l = refl
unify_both ts [] fs (v ∷ vs) ws p l = absurd (omega arith)
unify_both ts (e ∷ es) fs [] ws p l = absurd (omega arith)

one_behind : (ts : ℕ → VariableType) (es : List (Expression ℕ)) (vs : List (Option (List Atom))) (o : Option Known) → option_and_then (λ q. unify_all ts es vs q) o ≡ option_and_then (λ q. unify_all ts es vs q) (option_and_then (λ q. unify_all ts [] [] q) o)
one_behind ts es vs None = refl
one_behind ts es vs (Some q) = refl

-- one label, and the others
unify_one : (ts : ℕ → VariableType) (e : Expression ℕ) (es : List (Expression ℕ)) (o : Option (List Atom)) (vs : List (Option (List Atom))) (p : Known) → unify_all ts (e ∷ es) (o ∷ vs) p ≡ option_and_then (λ q. unify_all ts es vs q) (unify_all ts (e ∷ []) (o ∷ []) p)
unify_one ts e es None vs p = refl
unify_one ts e es (Some v) vs p = one_behind ts es vs (unify ts e v p)

one_more : (ts : ℕ → VariableType) (es : List (Expression ℕ)) (vs : List (Option (List Atom))) (i : ℕ) (e : Expression ℕ) (o : Option (List Atom)) (p : Known) (m : Option Known) → slice_get es i ≡ Some e → slice_get vs i ≡ Some o → unify_all ts (drop i es) (drop i vs) p ≡ m → option_and_then (λ q. unify_all ts (drop (suc i) es) (drop (suc i) vs) q) (unify_all ts (e ∷ []) (o ∷ []) p) ≡ m
one_more ts [] vs i e o p m g h k = absurd (none-some e g)
one_more ts (d ∷ es) [] i e o p m g h k = absurd (none-some o h)
one_more ts (d ∷ es) (n ∷ vs) zero e o p m g h k =
    ap (λ z. option_and_then (λ q. unify_all ts es vs q) (unify_all ts (z ∷ []) (o ∷ []) p)) (sym (some_same g)) ∙ ap (λ z. option_and_then (λ q. unify_all ts es vs q) (unify_all ts (d ∷ []) (z ∷ []) p)) (sym (some_same h)) ∙ sym (unify_one ts d es n vs p) ∙ k
one_more ts (d ∷ es) (n ∷ vs) (suc i) e o p m g h k = one_more ts es vs i e o p m g h k

-- a loop over labels, from the front
pub unify_on : (ts : ℕ → VariableType) (es : List (Expression ℕ)) (vs : List (Option (List Atom))) (i : ℕ) (e : Expression ℕ) (o : Option (List Atom)) (p q : Known) (m : Option Known) → slice_get es i ≡ Some e → slice_get vs i ≡ Some o → unify_all ts (drop i es) (drop i vs) p ≡ m → unify_all ts (e ∷ []) (o ∷ []) p ≡ Some q → unify_all ts (drop (i + 1) es) (drop (i + 1) vs) q ≡ m
unify_on ts es vs i e o p q m g h k f =
    let n : suc i ≡ i + 1 = omega arith in
    subst (λ j. unify_all ts (drop j es) (drop j vs) q ≡ m) n (ap (λ z. option_and_then (λ q. unify_all ts (drop (suc i) es) (drop (suc i) vs) q) z) (sym f) ∙ one_more ts es vs i e o p m g h k)

pub unify_stops : (ts : ℕ → VariableType) (es : List (Expression ℕ)) (vs : List (Option (List Atom))) (i : ℕ) (e : Expression ℕ) (o : Option (List Atom)) (p : Known) (m : Option Known) → slice_get es i ≡ Some e → slice_get vs i ≡ Some o → unify_all ts (drop i es) (drop i vs) p ≡ m → unify_all ts (e ∷ []) (o ∷ []) p ≡ None → m ≡ None
unify_stops ts es vs i e o p m g h k f = sym (one_more ts es vs i e o p m g h k) ∙ ap (λ z. option_and_then (λ q. unify_all ts (drop (suc i) es) (drop (suc i) vs) q) z) f
