-- Live steps that lead to a graph as it was and to today's, side by side.
use Rattle.std.specs.Prelude.{◌≡◌, ℕ, List, [], ◌∷◌, ◌++◌, Option}
use Rattle.gp_values.specs.Graph.{Graph}
use Rattle.gp_syntax.specs.Rule.{Rule, Found}
use Rattle.gp_syntax.specs.Replay.{StepsTo}
use Rattle.gp_derivation.specs.StepAnew.{StepsAnewTo}
use Rattle.gp_derivation.specs.inside.Table.{IsTable, as_it_was}

-- The matches ms were steps to the graph of the table and to no other, and ns are today's to the graph.
pub record LedBoth (rules : List Rule) (host : Graph) (ms ns : List Found) (t : List (Option ℕ)) (h : Graph) : Type 0 where
  pub table : IsTable t h
  pub was : StepsAnewTo rules host ms (as_it_was t h)
  pub only : (g : Graph) → StepsAnewTo rules host ms g → g ≡ as_it_was t h
  pub now : StepsTo rules host ns h

-- the same of each beginning of these matches, with the tables and the graphs before their last ones
abbrev pub Led : List Rule → Graph → List Found → List Found → List (Option ℕ) → Graph → List (List (Option ℕ)) → List Graph → Type 0
Led rules host ms ns t h [] [] = (ms ≡ []) × (ns ≡ []) × LedBoth rules host ms ns t h
Led rules host ms ns t h [] (b ∷ bs) = ⊥
Led rules host ms ns t h (u ∷ us) [] = ⊥
Led rules host ms ns t h (u ∷ us) (b ∷ bs) =
    (ks : List Found) × (k : Found) × (ls : List Found) × (l : Found) × (ms ≡ ks ++ k ∷ []) × (ns ≡ ls ++ l ∷ []) × LedBoth rules host ms ns t h × Led rules host ks ls u b us bs
