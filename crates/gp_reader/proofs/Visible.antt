-- What a name means in a body is the number of the declaration that is visible there.
use Rattle.std.proofs.Common.{◌≡◌, ℕ, ◌+◌, Bool, true, false, not, cond, List, [], ◌∷◌, ◌++◌, map, filter, length, Option, Some, refl, sym, ap, ◌∙◌, subst, arith, length-append}
use Rattle.std.proofs.lemmas.List.{length-map, map-append}
use Rattle.std.proofs.lemmas.List.Elements.{filter-append}
use Rattle.gp_values.specs.Names.{Name, same_name}
use Rattle.gp_syntax.specs.declared.tree.RuleDecl.{RuleDecl}
use Rattle.gp_scope.specs.declared.meaning.Meaning.{Meaning}
use Rattle.gp_scope.specs.declared.meaning.Meaning.TheVariants.{Procedure}
use Rattle.gp_scope.specs.Outline.{NamedCommand, Outline, nothing, rule, procedure, is_main, own_number, rules_in, procedures_in}
use Rattle.gp_scope.specs.Names.{Scope, meaning_in, entries, scope_within, bodies}
use Rattle.gp_reader.specs.Places.{Place, front, behind, within, named_at, meant_by, rules_at, Placed, procedures_at, callable, IsNumbered, EachTo}
use Rattle.gp_reader.specs.ResolutionLaws.{StandsIn, NumbersArePlaces, RulesAreInOrder}
use Rattle.gp_reader.proofs.Rows.{From, whole, left_part, right_part, both}

-- ---- the places of rules and of procedures

abbrev rule_places : Place → Outline → List Place
rule_places at os = map (λ (x : RuleDecl × Place). x.1) (rules_at at os)

-- beside Main
abbrev begins : Place → Outline → List Place
begins at nothing = []
begins at (rule d os) = begins (behind at) os
begins at (procedure n local body os) = cond (is_main n) [] (at ∷ []) ++ (begins (within at) local ++ begins (behind at) os)

rules_in_order : (os : Outline) (at : Place) → rules_in os ≡ map (λ (x : RuleDecl × Place). x.0) (rules_at at os)
rules_in_order nothing at = refl
rules_in_order (rule d os) at = ap (λ l. d ∷ l) (rules_in_order os (behind at))
rules_in_order (procedure n local body os) at =
    ap (λ l. l ++ rules_in os) (rules_in_order local (within at)) ∙ ap (λ l. map (λ (x : RuleDecl × Place). x.0) (rules_at (within at) local) ++ l) (rules_in_order os (behind at))
    ∙ sym (map-append (λ (x : RuleDecl × Place). x.0) (rules_at (within at) local) (rules_at (behind at) os))

pub rules_are_in_order : RulesAreInOrder
rules_are_in_order os = rules_in_order os front

how_many_rules : (os : Outline) (at : Place) → length (rule_places at os) ≡ length (rules_in os)
how_many_rules os at =
    length-map (rules_at at os) (λ (x : RuleDecl × Place). x.1) ∙ sym (length-map (rules_at at os) (λ (x : RuleDecl × Place). x.0)) ∙ ap length (sym (rules_in_order os at))

one_or_none : (m : Bool) (at : Place) → length (cond m [] (at ∷ [])) ≡ cond m 0 1
one_or_none true at = refl
one_or_none false at = refl

how_many_begin : (os : Outline) (at : Place) → length (begins at os) ≡ procedures_in os
how_many_begin nothing at = refl
how_many_begin (rule d os) at = how_many_begin os (behind at)
how_many_begin (procedure n local body os) at =
    let a = how_many_begin local (within at) in let b = how_many_begin os (behind at) in let c = one_or_none (is_main n) at in
    let l = length-append (cond (is_main n) [] (at ∷ [])) (begins (within at) local ++ begins (behind at) os) in
    let m = length-append (begins (within at) local) (begins (behind at) os) in
    omega (arith, a, b, c, l, m)

abbrev beside_main : Placed → Bool
beside_main v = not (is_main v.name)

one_begins : (m : Bool) (v : Placed) (vs : List Placed) (ps : List Place) → map (λ (v : Placed). v.at) vs ≡ ps → map (λ (v : Placed). v.at) (cond (not m) (v ∷ vs) vs) ≡ cond m [] (v.at ∷ []) ++ ps
one_begins true v vs ps e = e
one_begins false v vs ps e = ap (λ l. v.at ∷ l) e

they_begin : (os : Outline) (around : List (Name × Place)) (at : Place) → map (λ (v : Placed). v.at) (filter beside_main (procedures_at around at os)) ≡ begins at os
they_begin nothing around at = refl
they_begin (rule d os) around at = they_begin os around (behind at)
they_begin (procedure n local body os) around at =
    let seen = named_at (within at) local ++ around in
    let a = procedures_at seen (within at) local in
    let b = procedures_at around (behind at) os in
    let e : map (λ (v : Placed). v.at) (filter beside_main (a ++ b)) ≡ begins (within at) local ++ begins (behind at) os =
    ap (map (λ (v : Placed). v.at)) (filter-append beside_main a b) ∙ map-append (λ (v : Placed). v.at) (filter beside_main a) (filter beside_main b)
    ∙ ap (λ l. l ++ map (λ (v : Placed). v.at) (filter beside_main b)) (they_begin local seen (within at)) ∙ ap (λ l. begins (within at) local ++ l) (they_begin os around (behind at)) in
    one_begins (is_main n) (record { name = n; at = at; visible = seen; command = body }) (filter beside_main (a ++ b)) (begins (within at) local ++ begins (behind at) os) e

-- ---- scopes, and what is visible

module _ (all : Outline) where
  abbrev IsEntry : Name × Meaning → Name × Place → Type 0
  IsEntry x y = (x.0 ≡ y.0) × IsNumbered all (Some y.1) (Some x.1)

  abbrev pub Agree : Scope → List (Name × Place) → Type 0
  Agree s visible = EachTo IsEntry s visible

  abbrev Rules : ℕ → List Place → Type 0
  Rules r ps = From (rule_places front all) r ps

  abbrev Procedures : ℕ → List Place → Type 0
  Procedures p ps = From (map (λ (v : Placed). v.at) (callable all)) p ps

  one_of_two : (b c : Bool) (at : Place) (m : Meaning) (o : Option Place) (rest : Option Meaning) → b ≡ c → IsNumbered all (Some at) (Some m) → IsNumbered all o rest → IsNumbered all (cond c (Some at) o) (cond b (Some m) rest)
  one_of_two true true at m o rest e h g = h
  one_of_two false false at m o rest e h g = g
  one_of_two true false at m o rest e h g = cc
  one_of_two false true at m o rest e h g = cc

  pub looked_up : (s : Scope) (visible : List (Name × Place)) (n : Name) → Agree s visible → IsNumbered all (meant_by visible n) (meaning_in s n)
  looked_up [] [] n h = tt
  looked_up [] (y ∷ visible) n h = absurd h
  looked_up (x ∷ s) [] n h = absurd h
  looked_up (x ∷ s) (y ∷ visible) n h =
      one_of_two (same_name n x.0) (same_name n y.0) y.1 x.1 (meant_by visible n) (meaning_in s n) (ap (same_name n) h.0.0) h.0.1 (looked_up s visible n h.1)

  own_entry : (m : Bool) (n : Name) (p : ℕ) (at : Place) → Procedures p (cond m [] (at ∷ [])) → Agree (cond m [] ((n, Procedure p) ∷ [])) (cond m [] ((n, at) ∷ []))
  own_entry true n p at h = tt
  own_entry false n p at h = ((refl, h.0), tt)

  -- what is behind the start of a procedure: its local declarations, and those behind it
  module _ (n : Name) (local : Outline) (body : NamedCommand) (os : Outline) (at : Place) where
    abbrev own : List Place
    own = cond (is_main n) [] (at ∷ [])

    split_rules : (r : ℕ) → Rules r (rule_places at (procedure n local body os)) → Rules r (rule_places (within at) local ++ rule_places (behind at) os)
    split_rules r h = subst (Rules r) (map-append (λ (x : RuleDecl × Place). x.1) (rules_at (within at) local) (rules_at (behind at) os)) h

    local_rules : (r : ℕ) → Rules r (rule_places at (procedure n local body os)) → Rules r (rule_places (within at) local)
    local_rules r h = left_part (rule_places front all) (rule_places (within at) local) (rule_places (behind at) os) r (split_rules r h)

    rules_behind : (r : ℕ) → Rules r (rule_places at (procedure n local body os)) → Rules (r + length (rules_in local)) (rule_places (behind at) os)
    rules_behind r h =
        let l = how_many_rules local (within at) in
        right_part (rule_places front all) (rule_places (within at) local) (rule_places (behind at) os) r (r + length (rules_in local)) (omega (arith, l)) (split_rules r h)

    past_own : (p : ℕ) → Procedures p (begins at (procedure n local body os)) → Procedures (p + own_number n) (begins (within at) local ++ begins (behind at) os)
    past_own p h =
        let l = one_or_none (is_main n) at in
        right_part (map (λ (v : Placed). v.at) (callable all)) own (begins (within at) local ++ begins (behind at) os) p (p + own_number n) (omega (arith, l)) h

    local_procedures : (p : ℕ) → Procedures p (begins at (procedure n local body os)) → Procedures (p + own_number n) (begins (within at) local)
    local_procedures p h = left_part (map (λ (v : Placed). v.at) (callable all)) (begins (within at) local) (begins (behind at) os) (p + own_number n) (past_own p h)

    procedures_behind : (p : ℕ) → Procedures p (begins at (procedure n local body os)) → Procedures (p + own_number n + procedures_in local) (begins (behind at) os)
    procedures_behind p h =
        let l = how_many_begin local (within at) in
        right_part (map (λ (v : Placed). v.at) (callable all)) (begins (within at) local) (begins (behind at) os) (p + own_number n) (p + own_number n + procedures_in local) (omega (arith, l)) (past_own p h)

  entries_agree : (os : Outline) (at : Place) (r p : ℕ) → Rules r (rule_places at os) → Procedures p (begins at os) → Agree (entries r p os) (named_at at os)
  entries_agree nothing at r p a b = tt
  entries_agree (rule d os) at r p a b = ((refl, a.0), entries_agree os (behind at) (r + 1) p (subst (λ i. Rules i (rule_places (behind at) os)) (omega arith) a.1) b)
  entries_agree (procedure n local body os) at r p a b =
      both IsEntry (cond (is_main n) [] ((n, Procedure p) ∷ [])) (entries (r + length (rules_in local)) (p + own_number n + procedures_in local) os) (cond (is_main n) [] ((n, at) ∷ [])) (named_at (behind at) os)
      (own_entry (is_main n) n p at (left_part (map (λ (v : Placed). v.at) (callable all)) (cond (is_main n) [] (at ∷ [])) (begins (within at) local ++ begins (behind at) os) p b))
      (entries_agree os (behind at) (r + length (rules_in local)) (p + own_number n + procedures_in local) (rules_behind n local body os at r a) (procedures_behind n local body os at p b))

  bodies_stand : (os : Outline) (s : Scope) (around : List (Name × Place)) (at : Place) (r p : ℕ) → Agree s around → Rules r (rule_places at os) → Procedures p (begins at os) → EachTo (StandsIn all) (bodies s r p os) (procedures_at around at os)
  bodies_stand nothing s around at r p u a b = tt
  bodies_stand (rule d os) s around at r p u a b = bodies_stand os s around (behind at) (r + 1) p u (subst (λ i. Rules i (rule_places (behind at) os)) (omega arith) a.1) b
  bodies_stand (procedure n local body os) s around at r p u a b =
      let inner = scope_within s r p n local in
      let visible = named_at (within at) local ++ around in
      let w : Agree inner visible =
      both IsEntry (entries r (p + own_number n) local) s (named_at (within at) local) around
      (entries_agree local (within at) r (p + own_number n) (local_rules n local body os at r a) (local_procedures n local body os at p b)) u in (
        record { name = refl; command = refl; numbers = λ m. looked_up inner visible m w },
        both (StandsIn all) (bodies inner r (p + own_number n) local) (bodies s (r + length (rules_in local)) (p + own_number n + procedures_in local) os) (procedures_at visible (within at) local) (procedures_at around (behind at) os)
            (bodies_stand local inner visible (within at) r (p + own_number n) w (local_rules n local body os at r a) (local_procedures n local body os at p b))
            (bodies_stand os s around (behind at) (r + length (rules_in local)) (p + own_number n + procedures_in local) u (rules_behind n local body os at r a) (procedures_behind n local body os at p b)),
      )

pub numbers_are_places : NumbersArePlaces
numbers_are_places os =
    let rules : Rules os 0 (rule_places front os) = whole (rule_places front os) in
    let procedures : Procedures os 0 (begins front os) = subst (Procedures os 0) (they_begin os (named_at front os) front) (whole (map (λ (v : Placed). v.at) (callable os))) in
    bodies_stand os os (entries 0 0 os) (named_at front os) front 0 0 (entries_agree os os front 0 0 rules procedures) rules procedures
