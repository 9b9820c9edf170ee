-- Whether a match is beside others.
use Rattle.std.proofs.Common.{◌≡◌, inl, inr, ℕ, ◌+◌, ◌<◌, ◌≤◌, Bool, true, false, List, [], ◌∷◌, map, length, get_or, Some, slice_get, refl, sym, ap, subst, ◌∙◌, arith}
use Rattle.std.specs.Bool.{Decides}
use Rattle.std.proofs.lemmas.Bool.Decides.{not_from_Decides}
use Rattle.std.proofs.lemmas.Bool.{cases_eq}
use Rattle.std.proofs.lemmas.List.{length-map}
use Rattle.std.proofs.lemmas.List.Elements.{Contains-get_or}
use Rattle.std.proofs.lemmas.Option.{same_Some, slice_get_within}
use Rattle.gp_memory.proofs.Basics.{get_any as get_or-other}
use Rattle.gp_values.specs.Graph.{Graph}
use Rattle.gp_syntax.specs.Images.{EdgeImage}
use Rattle.gp_syntax.specs.declared.rule.RuleParts.{RuleParts}
use Rattle.gp_syntax.specs.Rule.{Rule, Found}
use Rattle.gp_syntax.specs.Step.{Applies}
use Rattle.gp_syntax.specs.Tree.{rule_of_tree}
use Rattle.gp_independence.specs.Independent.{Independent}
use Rattle.gp_independence.specs.Laws.{AreIndependent, IsApplying}
use Rattle.gp_independence.specs.Held.{Meets}
use Rattle.gp_independence.specs.inside.Gathered.{IsBeside, Fits}

-- ---- matches that are one

none_of : {X Y : Type 0} (f : X → Y) (xs : List X) (ys : List Y) → map f xs ≡ ys → length xs ≡ 0 → [] ≡ ys
none_of f [] ys e l = e
none_of f (x ∷ xs) ys e l = absurd (omega arith)

module _ (m n : Found) (xs ys : List EdgeImage) (a : map (λ (c : EdgeImage). c.number) xs ≡ m.edges) (b : map (λ (c : EdgeImage). c.reversed) xs ≡ m.reversed)
    (c : map (λ (c : EdgeImage). c.number) ys ≡ n.edges) (d : map (λ (c : EdgeImage). c.reversed) ys ≡ n.reversed) where
  -- two matches without edges that agree in all else
  pub same_bare : length xs ≡ 0 → length ys ≡ 0 → m.rule ≡ n.rule → m.nodes ≡ n.nodes → m ≡ n
  same_bare no_xs no_ys rule nodes =
      let es : m.edges ≡ n.edges = sym (none_of (λ (z : EdgeImage). z.number) xs m.edges a no_xs) ∙ none_of (λ (z : EdgeImage). z.number) ys n.edges c no_ys in
      let rs : m.reversed ≡ n.reversed = sym (none_of (λ (z : EdgeImage). z.reversed) xs m.reversed b no_xs) ∙ none_of (λ (z : EdgeImage). z.reversed) ys n.reversed d no_ys in
      λ i. record { rule = rule i; reversed = rs i; nodes = nodes i; edges = es i }

-- ---- by the rules of their numbers

pub applies_there : (rules : List Rule) (g : Graph) (m : Found) (r : Rule) → slice_get rules m.rule ≡ Some r → IsApplying rules g m → Applies r g m
applies_there rules g m r e h = subst (λ (x : Rule). Applies x g m) (same_Some h.0 r (sym h.1 ∙ e)) h.2

pub rule_within : (rules : List RuleParts) (g : Graph) (m : Found) → IsApplying (map rule_of_tree rules) g m → m.rule < length rules
rule_within rules g m h = let l = slice_get_within (map rule_of_tree rules) m.rule h.0 h.1 in let k = length-map rules rule_of_tree in omega arith

module _ (rules : List Rule) (g : Graph) (h m : Found) (r s : Rule) (first : slice_get rules h.rule ≡ Some r) (second : slice_get rules m.rule ≡ Some s) where
  independent_by : Independent r s g h m → AreIndependent rules g h m
  independent_by i t u e f = subst (λ (x : Rule). Independent x u g h m) (same_Some r t (sym first ∙ e)) (subst (λ (x : Rule). Independent r x g h m) (same_Some s u (sym second ∙ f)) i)

  pub beside_by : (b : Bool) → Decides b (Independent r s g h m) → IsBeside b rules g h m
  beside_by true d = independent_by (d.0 refl)
  beside_by false d = inr (λ i. not_from_Decides false d refl (i r s first second))

-- ---- one after another

module _ (rules : List Rule) (g : Graph) (held : List Found) (m : Found) where
  -- beside the first ones
  abbrev pub BesideFirst : ℕ → Type 0
  BesideFirst n = (i : ℕ) (d : Found) → i < n → IsBeside true rules g (get_or held i d) m

  pub meets_one : (n : ℕ) (d : Found) → n < length held → IsBeside false rules g (get_or held n d) m → Meets rules g held m
  meets_one n d l other = (get_or held n d, Contains-get_or held n d l, other)

  pub beside_more : (n : ℕ) (e : Found) → n < length held → BesideFirst n → IsBeside true rules g (get_or held n e) m → BesideFirst (n + 1)
  beside_more n e l all now i d b = elim (cases_eq i n) [
    | inl same ↦ subst (λ (h : Found). IsBeside true rules g h m) (get_or-other held n e d l ∙ ap (λ (k : ℕ). get_or held k d) (sym same)) now
    | inr other ↦ all i d (omega arith)
  ]

  pub fits_all : (n : ℕ) → length held ≤ n → BesideFirst n → Fits true rules g held m
  fits_all n l all i d b = all i d (omega arith)
