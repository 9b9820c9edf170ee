-- What unification answers is the least extension, or that there is none.
use Rattle.std.proofs.Common.{◌≡◌, ℕ, List, length, Some, None, sym, subst, ◌∙◌}
use Rattle.std.proofs.lemmas.Option.{none-some}
use Rattle.gp_values.specs.declared.atom.Atom.{Atom}
use Rattle.gp_syntax.specs.declared.kinds.VariableType.{VariableType}
use Rattle.gp_syntax.specs.Assigned.{PartialAssignment}
use Rattle.gp_syntax.specs.Expression.{Expression}
use Rattle.gp_syntax.specs.Simple.{IsSimple}
use Rattle.gp_syntax.specs.Typing.{type_in}
use Rattle.gp_syntax.specs.Value.{Setting}
use Rattle.gp_unify.specs.Known.{Known, Extends}
use Rattle.gp_unify.specs.Extension.{known_of, Extension, IsLeast}
use Rattle.gp_unify.specs.Unify.{unify}
use Rattle.gp_unify.proofs.Unifies.{sound, complete, grows, covers, Unified}

module _ (a : PartialAssignment) (e : Expression ℕ) (v : List Atom) where
  found : (s : Setting) → s.types ≡ a.types → IsSimple (type_in a.types) e → Extension a e v s → Unified (unify (type_in a.types) e v (known_of a)) s.assigned
  found s t c x =
      subst (λ (ts : List VariableType). Unified (unify (type_in ts) e v (known_of a)) s.assigned) t
      (complete s e v (known_of a) (subst (λ (ts : List VariableType). IsSimple (type_in ts) e) (sym t) c) x.in_types x.value x.extends)

  same_known : (q r : Known) → Some q ≡ Some r → q ≡ r
  same_known q r h = cc

  pub is_least : (b : PartialAssignment) → IsSimple (type_in a.types) e → b.types ≡ a.types → length b.values ≡ length a.values → unify (type_in a.types) e v (known_of a) ≡ Some (known_of b) → IsLeast a b e v
  is_least b c t n h = record {
    types = t;
    count = n;
    keeps = grows (type_in a.types) e v (known_of a) (known_of b) h;
    knows = λ x i. covers (type_in a.types) e v (known_of a) (known_of b) x h i;
    gives = λ s k x. sound s e v (known_of a) (known_of b) (subst (λ (ts : List VariableType). unify (type_in ts) e v (known_of a) ≡ Some (known_of b)) (sym k) h) x;
    least = λ s x.
        let u = found s x.types c x in
        subst (λ (q : Known). Extends q s.assigned) (same_known u.0 (known_of b) (sym u.1 ∙ h)) u.2;
  }

  pub is_none : IsSimple (type_in a.types) e → unify (type_in a.types) e v (known_of a) ≡ None → (s : Setting) → Extension a e v s → ⊥
  is_none c h s x = let u = found s x.types c x in none-some u.0 (sym h ∙ u.1)
