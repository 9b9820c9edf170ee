-- Whether a break stands outside a loop, by what is found of Main and of the bodies.
use Rattle.std.proofs.Common.{◌≡◌, ◌⊎◌, inl, inr, ℕ, ◌+◌, ◌<◌, Bool, true, false, ◌||◌, List, [], ◌∷◌, length, map, get_or, slice_get, Option, Some, option_map, refl, sym, ap, ◌∙◌, subst, arith}
use Rattle.std.specs.Prelude.{Contains}
use Rattle.std.specs.List.{list_any}
use Rattle.std.proofs.lemmas.List.{length-map}
use Rattle.std.proofs.lemmas.Option.{slice_get-map, slice_get_read, get_or_from_slice_get}
use Rattle.std.proofs.lemmas.List.Folds.{Any-from_list_any, list_any_at}
use Rattle.std.proofs.lemmas.List.Elements.{Contains-append_right}
use Rattle.gp_memory.proofs.Basics.{no_both as clash, or_cases, or_left, or_right, some_at as element}
use Rattle.gp_syntax.specs.declared.command.Command.{Command as Tree}
use Rattle.gp_syntax.specs.Tree.{command_of}
use Rattle.gp_syntax.specs.Run.{Command}
use Rattle.gp_syntax.specs.Scoped.{MayBreak, conditions_in}
use Rattle.gp_reader.specs.inside.Procedures.{procedures_alone, Strays}
use Rattle.gp_reader.specs.inside.Judged.{breaks_by, strays_by, MarksBreaking}
use Rattle.gp_reader.proofs.Breaking.{first_or, breaks_so, strays_so, breaks_all, strays_all}

-- the body of a procedure, by its tree
pub body_at : (ps : List Tree) (k : ℕ) (p : Tree) → k < length ps → p ≡ get_or ps k p → slice_get (map command_of ps) k ≡ Some (command_of p)
body_at ps k p lt e = slice_get-map command_of ps k ∙ ap (option_map command_of) (slice_get_read ps (length ps) k p refl lt e)

mapped_contains : (ps : List Tree) (k : ℕ) (p : Tree) → k < length ps → slice_get ps k ≡ Some p → Contains (map command_of ps) (command_of p)
mapped_contains ps k p lt e = (k, omega (arith, length-map ps command_of, lt), get_or_from_slice_get (map command_of ps) k (command_of p) (command_of p) (slice_get-map command_of ps k ∙ ap (option_map command_of) e))

module _ (main : Command) (ps : List Tree) (marks : List Bool) (m : MarksBreaking (map command_of ps) marks) where
  pub found_in_main : (breaks_by marks main || strays_by marks main) ≡ true → Strays main (map command_of ps)
  found_in_main e = elim (or_cases (breaks_by marks main) (strays_by marks main) e) [
    | inl b ↦ inl (breaks_so (map command_of ps) marks m.sound main b)
    | inr s ↦ (let h = strays_so (map command_of ps) marks m.sound main s in inr (main, h.0, ((0, omega arith, refl), h.1.0, h.1.1)))
  ]

  pub found_in_body : list_any (λ c. strays_by marks (command_of c)) ps ≡ true → Strays main (map command_of ps)
  found_in_body e =
      let a = Any-from_list_any (λ c. strays_by marks (command_of c)) ps e in
      let at : slice_get ps a.0 ≡ Some a.1 = slice_get_read ps (length ps) a.0 a.1 refl a.2 (sym a.3) in
      let h = strays_so (map command_of ps) marks m.sound (command_of a.1) a.4 in
      inr (command_of a.1, h.0, (Contains-append_right (main ∷ []) (map command_of ps) (command_of a.1) (mapped_contains ps a.0 a.1 a.2 at), h.1.0, h.1.1))

  in_a_body : (body k : Command) → Contains (map command_of ps) body → strays_by marks body ≡ true → list_any (λ c. strays_by marks (command_of c)) ps ≡ true
  in_a_body body k h s =
      let lt : h.0 < length ps = omega (arith, length-map ps command_of, h.1) in
      let x = element ps h.0 lt in
      let e : body ≡ command_of x.0 = sym h.2 ∙ get_or_from_slice_get (map command_of ps) h.0 (command_of x.0) body (slice_get-map command_of ps h.0 ∙ ap (option_map command_of) x.1) in
      list_any_at (λ c. strays_by marks (command_of c)) ps h.0 x.0 lt (ap (λ y. strays_by marks (command_of y)) (get_or_from_slice_get ps h.0 x.0 x.0 x.1) ∙ ap (strays_by marks) (sym e) ∙ s)

  pub all_found : (breaks_by marks main || strays_by marks main) ≡ false → Strays main (map command_of ps) → list_any (λ c. strays_by marks (command_of c)) ps ≡ true
  all_found n (inl b) = absurd (clash _ n (or_left (breaks_by marks main) (strays_by marks main) (breaks_all (map command_of ps) marks m.all main b)))
  all_found n (inr (body, k, h)) = elim (first_or main body (map command_of ps) h.0) [
    | inl e ↦ absurd (clash _ n (or_right (breaks_by marks main) (strays_by marks main) (strays_all (map command_of ps) marks m.all main k (subst (λ c. Contains (conditions_in c) k) (sym e) h.1) h.2)))
    | inr c ↦ in_a_body body k c (strays_all (map command_of ps) marks m.all body k h.1 h.2)
  ]
