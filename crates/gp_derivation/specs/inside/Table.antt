-- A table of the numbers of edges: at each number of the graph as it was, the number that the edge has today. Steps
-- take out what they match and put the edges of the right side at its end; taking back makes the table that was.
use Rattle.std.specs.Prelude.{◌≡◌, ℕ, zero, suc, ◌+◌, List, [], ◌∷◌, ◌++◌, map, length, Option, Some, None, IsSome, option_and_then, refl}
use Rattle.std.specs.Option.{option_map}
use Rattle.std.specs.Ordering.{nat_cmp}
use Rattle.std.specs.FinMap.{FinMap, get, insert, empty}
use Rattle.std.specs.Coded.{Coded, code_by, coded×, coded_ℕ, coded_list, coded_option}
use Rattle.gp_values.specs.Graph.{Graph, Edge, edge_at}
use Rattle.gp_syntax.specs.Rule.{Found}

-- ---- a table

-- today's number of an edge that is there
abbrev pub today : List (Option ℕ) → ℕ → Option ℕ
today [] e = None
today (o ∷ os) zero = o
today (o ∷ os) (suc e) = today os e

-- today's numbers of edges that are all there
abbrev pub all_today : List (Option ℕ) → List ℕ → Option (List ℕ)
all_today t [] = Some []
all_today t (e ∷ es) = option_and_then (λ k. option_map (λ ks. k ∷ ks) (all_today t es)) (today t e)

abbrev pub found_today : List (Option ℕ) → Found → Option Found
found_today t m = option_map (λ es. record m { edges = es }) (all_today t m.edges)

-- each edge of the graph is at one number of the table, and no other number is in it
pub record IsTable (t : List (Option ℕ)) (h : Graph) : Type 0 where
  pub there : (e k : ℕ) → today t e ≡ Some k → IsSome (edge_at h k)
  pub apart : (a b k : ℕ) → today t a ≡ Some k → today t b ≡ Some k → a ≡ b
  pub all : (k : ℕ) → IsSome (edge_at h k) → (e : ℕ) × (today t e ≡ Some k)

-- the graph as it was: today's, with its edges at their numbers in the table
abbrev pub put_if : ℕ → Option Edge → FinMap nat_cmp Edge → FinMap nat_cmp Edge
put_if e None m = m
put_if e (Some d) m = insert m e d

abbrev pub renumbered : List (Option ℕ) → ℕ → FinMap nat_cmp Edge → FinMap nat_cmp Edge
renumbered [] e s = empty
renumbered (o ∷ os) e s = put_if e (option_and_then (get s) o) (renumbered os (e + 1) s)

abbrev pub as_it_was : List (Option ℕ) → Graph → Graph
as_it_was t h = record { nodes = h.nodes; edges = renumbered t 0 h.edges; next_node = h.next_node; next_edge = length t }

-- the table of a graph whose edges have the numbers that they had, from e on
abbrev pub own_numbers : Graph → ℕ → ℕ → List (Option ℕ)
own_numbers g e zero = []
own_numbers g e (suc count) = option_map (λ (d : Edge). e) (edge_at g e) ∷ own_numbers g (e + 1) count

-- ---- what a step makes of it

abbrev pub emptied : ℕ → List (Option ℕ) → List (Option ℕ)
emptied e [] = []
emptied zero (o ∷ os) = None ∷ os
emptied (suc e) (o ∷ os) = o ∷ emptied e os

abbrev pub all_emptied : List ℕ → List (Option ℕ) → List (Option ℕ)
all_emptied [] t = t
all_emptied (e ∷ es) t = all_emptied es (emptied e t)

-- taken: the edges that the step matched, as they were; made: today's numbers of the edges of the right side
abbrev pub moved : List (Option ℕ) → List ℕ → List ℕ → List (Option ℕ)
moved t taken made = all_emptied taken t ++ map Some made

-- ---- tables of a trail

-- before: the tables before the live steps, the last one first
pub record Tables : Type 0 where
  pub now : List (Option ℕ)
  pub before : List (List (Option ℕ))

abbrev pub fresh : Graph → Tables
fresh g = record { now = own_numbers g 0 g.next_edge; before = [] }

abbrev pub stepped : Tables → List ℕ → List ℕ → Tables
stepped t taken made = record { now = moved t.now taken made; before = t.now ∷ t.before }

abbrev pub undone_of : List (Option ℕ) → List (List (Option ℕ)) → Tables
undone_of t [] = record { now = t; before = [] }
undone_of t (b ∷ bs) = record { now = b; before = bs }

abbrev pub back_by : ℕ → Tables → Tables
back_by zero t = t
back_by (suc k) t = back_by k (undone_of t.now t.before)

abbrev pub tables_code : Coded Tables
tables_code =
    code_by (List (Option ℕ) × List (List (Option ℕ))) (coded× (coded_list (coded_option coded_ℕ)) (coded_list (coded_list (coded_option coded_ℕ))))
    (λ t. (t.now, t.before)) (λ p. record { now = p.0; before = p.1 }) (λ _. refl)
