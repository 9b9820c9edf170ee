-- The names of procedures, as they are listed.
use Rattle.std.proofs.Common.{◌≡◌, ℕ, ◌+◌, Bool, true, false, not, cond, List, [], ◌∷◌, ◌++◌, map, filter, length, refl, sym, ap, ◌∙◌, arith, length-append}
use Rattle.std.proofs.lemmas.List.{length-map}
use Rattle.std.proofs.lemmas.List.Elements.{filter-append}
use Rattle.std.proofs.lemmas.List.{map-append}
use Rattle.gp_values.specs.Names.{Name}
use Rattle.gp_scope.specs.Outline.{Outline, nothing, rule, procedure, is_main, own_number, rules_in, procedures_in}
use Rattle.gp_scope.specs.Names.{Scope, Body, scope_within, entries, bodies, all_bodies}
use Rattle.gp_scope.specs.Resolved.{ResolvedBody, called_sets, resolved, resolved_from, resolved_bodies, others}
use Rattle.gp_reader.specs.inside.Named.{procedure_names}

abbrev beside_main : Name → Bool
beside_main n = not (is_main n)

abbrev name_of : Body → Name
name_of b = b.name

name_kept : (m : Bool) (r : ResolvedBody) (rs : List ResolvedBody) (ns : List Name) → map (λ (b : ResolvedBody). b.name) rs ≡ ns → map (λ (b : ResolvedBody). b.name) (cond m (r ∷ rs) rs) ≡ cond m (r.name ∷ ns) ns
name_kept true r rs ns e = ap (λ l. r.name ∷ l) e
name_kept false r rs ns e = e

names_of_bodies : (c : ℕ) (bs : List Body) → map (λ (b : ResolvedBody). b.name) (others (resolved_from c bs)) ≡ filter beside_main (map name_of bs)
names_of_bodies c [] = refl
names_of_bodies c (b ∷ bs) =
    name_kept (beside_main b.name) (record { name = b.name; command = resolved b.scope c b.command }) (others (resolved_from (c + length (called_sets b.command)) bs)) (filter beside_main (map name_of bs)) (names_of_bodies (c + length (called_sets b.command)) bs)

one_name : (m : Bool) (n : Name) (xs ys : List Name) → xs ≡ ys → cond (not m) (n ∷ xs) xs ≡ (cond m [] (n ∷ [])) ++ ys
one_name true n xs ys e = e
one_name false n xs ys e = ap (λ l. n ∷ l) e

listed : (s : Scope) (r p : ℕ) (os : Outline) → filter beside_main (map name_of (bodies s r p os)) ≡ procedure_names os
listed s r p nothing = refl
listed s r p (rule d os) = listed s (r + 1) p os
listed s r p (procedure n local body os) =
    let a = bodies (scope_within s r p n local) r (p + own_number n) local in
    let b = bodies s (r + length (rules_in local)) (p + own_number n + procedures_in local) os in
    let both : filter beside_main (map name_of (a ++ b)) ≡ procedure_names local ++ procedure_names os =
    ap (filter beside_main) (map-append name_of a b) ∙ filter-append beside_main (map name_of a) (map name_of b)
    ∙ ap (λ l. l ++ filter beside_main (map name_of b)) (listed (scope_within s r p n local) r (p + own_number n) local)
    ∙ ap (λ l. procedure_names local ++ l) (listed s (r + length (rules_in local)) (p + own_number n + procedures_in local) os) in
    one_name (is_main n) n (filter beside_main (map name_of (a ++ b))) (procedure_names local ++ procedure_names os) both

pub names_listed : (os : Outline) → map (λ (b : ResolvedBody). b.name) (others (resolved_bodies os)) ≡ procedure_names os
names_listed os = names_of_bodies 0 (all_bodies os) ∙ listed (entries 0 0 os) 0 0 os

how_many : (m : Bool) (n : Name) (xs : List Name) (k : ℕ) → length xs ≡ k → length ((cond m [] (n ∷ [])) ++ xs) ≡ cond m 0 1 + k
how_many true n xs k e = omega (arith, e)
how_many false n xs k e = omega (arith, e)

pub how_many_names : (os : Outline) → length (procedure_names os) ≡ procedures_in os
how_many_names nothing = refl
how_many_names (rule d os) = how_many_names os
how_many_names (procedure n local body os) =
    let l = length-append (procedure_names local) (procedure_names os) in
    let a = how_many_names local in let b = how_many_names os in
    let h = how_many (is_main n) n (procedure_names local ++ procedure_names os) (procedures_in local + procedures_in os) (omega (arith, l, a, b)) in
    omega (arith, h)

pub how_many_procedures : (os : Outline) → length (map (λ (b : ResolvedBody). b.command) (others (resolved_bodies os))) ≡ procedures_in os
how_many_procedures os =
    length-map (others (resolved_bodies os)) (λ (b : ResolvedBody). b.command) ∙ sym (length-map (others (resolved_bodies os)) (λ (b : ResolvedBody). b.name)) ∙ ap length (names_listed os) ∙ how_many_names os
