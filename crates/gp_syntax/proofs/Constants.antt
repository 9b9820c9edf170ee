-- Constants have their value, and rules without arithmetic are not faulty.
use Rattle.std.proofs.Common.{◌≡◌, inl, inr, ℕ, suc, true, List, [], ◌∷◌, ◌++◌, map, slice_get, Some, None, refl, sym, ap, subst, ◌∙◌}
use Rattle.std.proofs.lemmas.Option.{none-some}
use Rattle.gp_memory.proofs.Basics.{from_map}
use Rattle.gp_values.specs.declared.atom.Atom.{Atom}
use Rattle.gp_values.specs.declared.atom.Atom.TheVariants.{Str}
use Rattle.gp_values.specs.Graph.{Graph}
use Rattle.gp_values.specs.Names.{Name}
use Rattle.gp_syntax.specs.declared.kinds.NumberKind.{NumberKind}
use Rattle.gp_syntax.specs.Expression.{Expression, Number, Text, Variable, In_degree, Out_degree, Length_of, Dot, Empty, Join, renamed}
use Rattle.gp_syntax.specs.Value.{Setting, Valued, Value, NoValue, ◌>>=◌, value_of, characters}
use Rattle.gp_syntax.specs.Truth.{truth_of}
use Rattle.gp_syntax.specs.Rule.{Rule, RightNode, RightEdge, Found}
use Rattle.gp_syntax.specs.Match.{setting_of}
use Rattle.gp_syntax.specs.Step.{IsFaulty, kind_or, first_fault, right_labels}
use Rattle.gp_syntax.specs.Constant.{IsConstant, constant_of, HasNoArithmetic, IsFaultless}
use Rattle.gp_syntax.specs.Laws.{ConstantsHaveTheirValue, MatchesApply}

-- the value of a joined list, from those of its parts
joined : (v w : Valued (List Atom)) (x y : List Atom) → v ≡ Value x → w ≡ Value y → (v >>= λ a. w >>= λ b. Value (a ++ b)) ≡ Value (x ++ y)
joined v w x y e f = ap (λ z. z >>= λ a. w >>= λ b. Value (a ++ b)) e ∙ ap (λ z. z >>= λ b. Value (x ++ b)) f

-- the value of joined strings, from those of its parts
dotted : (v w : Valued (List Atom)) (x y : List Atom) → v ≡ Value x → w ≡ Value y → (v >>= λ a. w >>= λ b. Value (Str (characters a ++ characters b) ∷ [])) ≡ Value (Str (characters x ++ characters y) ∷ [])
dotted v w x y e f = ap (λ z. z >>= λ a. w >>= λ b. Value (Str (characters a ++ characters b) ∷ [])) e ∙ ap (λ z. z >>= λ b. Value (Str (characters x ++ characters b) ∷ [])) f

-- ---- constants

-- a constant has the list that is written as its value
pub constant_value : (e : Expression ℕ) (s : Setting) → IsConstant e → value_of e s ≡ Value (constant_of e)
constant_value (Number z) s c = refl
constant_value (Text t) s c = refl
constant_value Empty s c = refl
constant_value (Join d e) s c = joined (value_of d s) (value_of e s) (constant_of d) (constant_of e) (constant_value d s c.0) (constant_value e s c.1)
constant_value other s c = absurd c

-- with other names it is a constant
pub constant_stays : (v n : Name → ℕ) (e : Expression Name) → IsConstant e → IsConstant (renamed v n e)
constant_stays v n (Number z) c = tt
constant_stays v n (Text t) c = tt
constant_stays v n Empty c = tt
constant_stays v n (Join d e) c = (constant_stays v n d c.0, constant_stays v n e c.1)
constant_stays v n other c = absurd c

-- and the same one
pub constant_same : (v n : Name → ℕ) (e : Expression Name) → IsConstant e → constant_of (renamed v n e) ≡ constant_of e
constant_same v n (Number z) c = refl
constant_same v n (Text t) c = refl
constant_same v n Empty c = refl
constant_same v n (Join d e) c = λ i. constant_same v n d c.0 i ++ constant_same v n e c.1 i
constant_same v n other c = absurd c

-- it has no arithmetic
pub constant_no_arithmetic : (e : Expression ℕ) → IsConstant e → HasNoArithmetic e
constant_no_arithmetic (Number z) c = tt
constant_no_arithmetic (Text t) c = tt
constant_no_arithmetic Empty c = tt
constant_no_arithmetic (Join d e) c = (constant_no_arithmetic d c.0, constant_no_arithmetic e c.1)
constant_no_arithmetic other c = absurd c

-- the four together
pub constants : ConstantsHaveTheirValue
constants = record { value = constant_value; stays = constant_stays; same = constant_same; no_arithmetic = constant_no_arithmetic }

-- ---- without arithmetic

-- there is a value
pub has_value : (e : Expression ℕ) (s : Setting) → HasNoArithmetic e → (v : List Atom) × (value_of e s ≡ Value v)
has_value (Number z) s h = (_, refl)
has_value (Text t) s h = (_, refl)
has_value (Variable x) s h = (_, refl)
has_value (In_degree n) s h = (_, refl)
has_value (Out_degree n) s h = (_, refl)
has_value (Length_of x) s h = (_, refl)
has_value (Dot d e) s h =
    let v = has_value d s h.0 in
    let w = has_value e s h.1 in
    (_, dotted (value_of d s) (value_of e s) v.0 w.0 v.1 w.1)
has_value Empty s h = (_, refl)
has_value (Join d e) s h =
    let v = has_value d s h.0 in
    let w = has_value e s h.1 in
    (_, joined (value_of d s) (value_of e s) v.0 w.0 v.1 w.1)
has_value other s h = absurd h

-- labels without arithmetic have no fault
no_fault : (es : List (Expression ℕ)) (s : Setting) → ((i : ℕ) (e : Expression ℕ) → slice_get es i ≡ Some e → HasNoArithmetic e) → first_fault es s ≡ None
no_fault [] s h = refl
no_fault (e ∷ es) s h = ap (λ v. kind_or v (first_fault es s)) (has_value e s (h 0 e refl)).1 ∙ no_fault es s (λ i d k. h (suc i) d k)

-- two lists without a fault have none together
no_fault_on : (ds es : List (Expression ℕ)) (s : Setting) → first_fault ds s ≡ None → first_fault es s ≡ None → first_fault (ds ++ es) s ≡ None
no_fault_on [] es s h k = k
no_fault_on (d ∷ ds) es s h k = go (value_of d s) h (λ l. no_fault_on ds es s l k)
  where
    go : (v : Valued (List Atom)) → kind_or v (first_fault ds s) ≡ None → (first_fault ds s ≡ None → first_fault (ds ++ es) s ≡ None) → kind_or v (first_fault (ds ++ es) s) ≡ None
    go (Value x) l rest = rest l
    go (NoValue c) l rest = absurd (none-some c (sym l))

-- each right label has a value
labels_valued : (r : Rule) (s : Setting) → IsFaultless r → first_fault (right_labels r) s ≡ None
labels_valued r s f =
    no_fault_on (map (λ (q : RightNode). q.label) r.right_nodes) (map (λ (q : RightEdge). q.label) r.right_edges) s
    (no_fault _ s (λ i e h. let x = from_map (λ (q : RightNode). q.label) r.right_nodes i e h in subst (λ (d : Expression ℕ). HasNoArithmetic d) x.2 (f.right_nodes i x.0 x.1)))
    (no_fault _ s (λ i e h. let x = from_map (λ (q : RightEdge). q.label) r.right_edges i e h in subst (λ (d : Expression ℕ). HasNoArithmetic d) x.2 (f.right_edges i x.0 x.1)))

-- a condition that is missing is true
true_condition : (r : Rule) (s : Setting) → IsFaultless r → truth_of r.condition s ≡ Value true
true_condition r s f = ap (λ c. truth_of c s) f.condition

-- no match is faulty
not_faulty : (r : Rule) (g : Graph) (m : Found) → IsFaultless r → (kind : NumberKind) → IsFaulty r g m kind → ⊥
not_faulty r g m f kind x =
    elim x.1.cause [
      | inl e ↦ (let t = true_condition r (setting_of r g m x.0) f in cc)
      | inr e ↦ none-some kind (sym (labels_valued r (setting_of r g m x.0) f) ∙ e.1)
    ]

-- what matches applies
pub matches_apply : (r : Rule) (g : Graph) (m : Found) → IsFaultless r → MatchesApply r g m
matches_apply r g m f = record {
  applies = (λ h. (h.0, record { is_match = h.1; condition = true_condition r (setting_of r g m h.0) f; values = labels_valued r (setting_of r g m h.0) f }), λ h. (h.0, h.1.is_match));
  not_faulty = not_faulty r g m f;
}
