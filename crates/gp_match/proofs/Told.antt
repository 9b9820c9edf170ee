-- From what is known of values to those by which alone it can be a match, and back.
use Rattle.std.proofs.Common.{◌≡◌, ℕ, ◌<◌, true, List, [], ◌∷◌, length, refl, sym, ap, subst, ◌∙◌}
use Rattle.std.specs.Prelude.{Option, Some, slice_get, slice_index_or}
use Rattle.std.proofs.lemmas.List.{length-map}
use Rattle.gp_memory.proofs.Basics.{some_at}
use Rattle.gp_values.specs.declared.atom.Atom.{Atom}
use Rattle.gp_values.specs.Graph.{Graph}
use Rattle.gp_syntax.specs.declared.kinds.VariableType.TheVariants as types
use Rattle.gp_syntax.specs.Assigned.{PartialAssignment, IsInTypes}
use Rattle.gp_syntax.specs.Rule.{Rule, Found}
use Rattle.gp_syntax.specs.Value.{is_of}
use Rattle.gp_unify.specs.Extension.{known_of}
use Rattle.gp_unify.specs.Matched.{OneFits}
use Rattle.gp_unify.proofs.Matches.{extends_itself, match_fits}
use Rattle.gp_match.specs.Told.{IsTold}
use Rattle.gp_match.specs.inside.Alone.{FitsAlone}

-- no types, no values
pub empty_in_types : (p : PartialAssignment) → length p.values ≡ length p.types → p.types ≡ [] → IsInTypes p
empty_in_types p count none = record {
  count = count;
  in_types = λ x v h. absurd (none_at p.values x (Some v) (count ∙ ap length none) h);
}
  where
    none_at : {A : Type 0} (xs : List A) (i : ℕ) (y : A) → length xs ≡ 0 → slice_get xs i ≡ Some y → ⊥
    none_at [] i y e h = cc
    none_at (x ∷ xs) i y e h = absurd cc

known_at : (p : PartialAssignment) (x : ℕ) (v : List Atom) → slice_get p.values x ≡ Some (Some v) → known_of p x ≡ Some v
known_at p x v e = rw e refl

pub fits_alone : (r : Rule) (g : Graph) (m : Found) (p : PartialAssignment) → IsInTypes p → IsTold r g m p → FitsAlone r g m p
fits_alone r g m p typed told = record {
  types = told.types;
  whole = told.whole;
  fit = record {
    node_count = told.node_count;
    edge_count = told.edge_count;
    variable_count = length-map p.values _ ∙ told.count;
    in_types = λ x l.
        let o = some_at p.values x (subst (λ k. x < k) (sym told.count) l) in
        let v = told.whole x o.0 o.1 in
        let at : slice_get p.values x ≡ Some (Some v.0) = o.1 ∙ ap (λ (z : Option (List Atom)). Some z) v.1 in
        subst (λ w. is_of (slice_index_or r.types x types.List) w ≡ true) (sym (extends_itself p x v.0 (known_at p x v.0 at)))
        (subst (λ ts. is_of (slice_index_or ts x types.List) v.0 ≡ true) told.types (typed.in_types x v.0 at));
    nodes = told.nodes;
    edges = told.edges;
  };
  alone = told.alone;
}

pub is_told : (r : Rule) (g : Graph) (m : Found) (p : PartialAssignment) → OneFits r g m p → IsTold r g m p
is_told r g m p one = record {
  types = one.types;
  count = sym (length-map p.values _) ∙ one.fit.variable_count;
  whole = one.whole;
  node_count = one.fit.node_count;
  edge_count = one.fit.edge_count;
  nodes = one.fit.nodes;
  edges = one.fit.edges;
  alone = λ a w. one.alone a (match_fits r g m a w);
}
