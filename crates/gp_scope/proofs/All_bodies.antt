-- All bodies, numbered one after another, are those of the program.
use Rattle.std.proofs.Common.{◌≡◌, ℕ, suc, ◌+◌, nat_lt, Bool, true, false, not, cond, ◌||◌, List, [], ◌∷◌, ◌++◌, map, flat_map, length, Option, Some, None, option_map, refl, sym, ap, ◌∙◌, append_assoc, append-nil, length-append}
use Rattle.std.specs.Option.{option_or}
use Rattle.gp_values.specs.Names.{Name}
use Rattle.gp_syntax.specs.Run as meant
use Rattle.gp_scope.specs.Outline.{Outline, nothing, rule, procedure, is_main, own_number, rules_in, procedures_in}
use Rattle.gp_scope.specs.Names.{Scope, Body, scope_within, bodies}
use Rattle.gp_scope.specs.Resolved.{ResolvedBody, called_sets, resolved, resolved_from, sets_of, others, main_of, rule_number}
use Rattle.gp_scope.specs.Fault.{Fault, NoMain, TwoMains, TwoRules, Unknown, declares_main, mains_in, doubled_behind, unknown_name, fault_of_names}
use Rattle.gp_scope.specs.inside.Numbering.{Numbered, with_body, with_bodies}

length_map : {A B : Type 0} (f : A → B) (xs : List A) → length (map f xs) ≡ length xs
length_map f [] = refl
length_map f (x ∷ xs) = ap suc (length_map f xs)

how_many_sets : (xs : List (List ℕ)) (b : Body) → length (xs ++ sets_of b) ≡ length xs + length (called_sets b.command)
how_many_sets xs b = length-append xs (sets_of b) ∙ ap (λ n. length xs + n) (length_map (map (rule_number b.scope)) (called_sets b.command))

pub all_sets : (d : Numbered) (bs : List Body) → (with_bodies d bs).sets ≡ d.sets ++ flat_map sets_of bs
all_sets d [] = sym (append-nil d.sets)
all_sets d (b ∷ bs) = all_sets (with_body d b) bs ∙ append_assoc d.sets (sets_of b) (flat_map sets_of bs)

abbrev pub commands : List ResolvedBody → List meant.Command
commands rs = map (λ (r : ResolvedBody). r.command) rs

one_other : (m : Bool) (ps : List meant.Command) (r : ResolvedBody) (rs : List ResolvedBody) → is_main r.name ≡ m
    → (cond m ps (ps ++ r.command ∷ [])) ++ commands (others rs) ≡ ps ++ commands (others (r ∷ rs))
one_other true ps r rs e = ap (λ b. ps ++ commands (cond (not b) (r ∷ others rs) (others rs))) (sym e)
one_other false ps r rs e = append_assoc ps (r.command ∷ []) (commands (others rs)) ∙ ap (λ b. ps ++ commands (cond (not b) (r ∷ others rs) (others rs))) (sym e)

pub all_procedures : (d : Numbered) (bs : List Body) → (with_bodies d bs).procedures ≡ d.procedures ++ commands (others (resolved_from (length d.sets) bs))
all_procedures d [] = sym (append-nil d.procedures)
all_procedures d (b ∷ bs) =
    let r : ResolvedBody = record { name = b.name; command = resolved b.scope (length d.sets) b.command } in
    all_procedures (with_body d b) bs
    ∙ ap (λ n. (with_body d b).procedures ++ commands (others (resolved_from n bs))) (how_many_sets d.sets b)
    ∙ one_other (is_main b.name) d.procedures r (resolved_from (length d.sets + length (called_sets b.command)) bs) refl

-- the body of Main, if there is one
abbrev pub first_main : List ResolvedBody → Option meant.Command
first_main [] = None
first_main (r ∷ rs) = cond (is_main r.name) (Some r.command) (first_main rs)

one_main : (m : Bool) (o : Option meant.Command) (r : ResolvedBody) (rs : List ResolvedBody) → is_main r.name ≡ m
    → option_or (cond m (option_or o (Some r.command)) o) (first_main rs) ≡ option_or o (first_main (r ∷ rs))
one_main true (Some c) r rs e = refl
one_main true None r rs e = ap (λ b. cond b (Some r.command) (first_main rs)) (sym e)
one_main false (Some c) r rs e = refl
one_main false None r rs e = ap (λ b. cond b (Some r.command) (first_main rs)) (sym e)

pub all_mains : (d : Numbered) (bs : List Body) → (with_bodies d bs).main ≡ option_or d.main (first_main (resolved_from (length d.sets) bs))
all_mains d [] = none_more d.main
  where
    none_more : (o : Option meant.Command) → o ≡ option_or o None
    none_more (Some c) = refl
    none_more None = refl
all_mains d (b ∷ bs) =
    let r : ResolvedBody = record { name = b.name; command = resolved b.scope (length d.sets) b.command } in
    all_mains (with_body d b) bs
    ∙ ap (λ n. option_or (with_body d b).main (first_main (resolved_from n bs))) (how_many_sets d.sets b)
    ∙ one_main (is_main b.name) d.main r (resolved_from (length d.sets + length (called_sets b.command)) bs) refl

-- ---- there is a Main

abbrev pub has_main : List Body → Bool
has_main [] = false
has_main (b ∷ bs) = is_main b.name || has_main bs

has_either : (xs ys : List Body) → has_main ys ≡ true → has_main (xs ++ ys) ≡ true
has_either [] ys e = e
has_either (x ∷ xs) ys e = go (is_main x.name) (has_either xs ys e)
  where
    go : (b : Bool) {c : Bool} → c ≡ true → (b || c) ≡ true
    go true e = refl
    go false e = e

pub main_has_body : (s : Scope) (r p : ℕ) (os : Outline) → declares_main os ≡ true → has_main (bodies s r p os) ≡ true
main_has_body s r p nothing e = cc
main_has_body s r p (rule d os) e = main_has_body s (r + 1) p os e
main_has_body s r p (procedure n local body os) e = go (is_main n) e (λ f. has_either (bodies (scope_within s r p n local) r (p + own_number n) local) _ (main_has_body s (r + length (rules_in local)) (p + own_number n + procedures_in local) os f))
  where
    go : (b : Bool) {c d : Bool} → (b || c) ≡ true → (c ≡ true → d ≡ true) → (b || d) ≡ true
    go true h f = refl
    go false h f = f h

-- its body is that of the program
pub main_found : (c : ℕ) (bs : List Body) → has_main bs ≡ true → first_main (resolved_from c bs) ≡ Some (main_of (resolved_from c bs))
main_found c [] e = cc
main_found c (b ∷ bs) e = main_case (is_main b.name) (record { name = b.name; command = resolved b.scope c b.command }) (resolved_from (c + length (called_sets b.command)) bs) refl (λ h. main_found (c + length (called_sets b.command)) bs (sym (ap (λ m. m || has_main bs) h) ∙ e))
  where
    main_case : (m : Bool) (r : ResolvedBody) (rs : List ResolvedBody) → is_main r.name ≡ m → (m ≡ false → first_main rs ≡ Some (main_of rs)) → first_main (r ∷ rs) ≡ Some (main_of (r ∷ rs))
    main_case true r rs h f = rw (h) refl
    main_case false r rs h f = rw (h) (f refl)

-- ---- where no name is at fault

pub names_in_order : (os : Outline) → fault_of_names os ≡ None → (declares_main os ≡ true) × (doubled_behind [] os ≡ None)
unfolding fault_of_names
names_in_order os e = go (declares_main os) (nat_lt 1 (mains_in os)) (doubled_behind [] os) (option_map Unknown (unknown_name os)) e
  where
    go : (m t : Bool) (d : Option Name) (u : Option Fault) → cond (not m) (Some NoMain) (cond t (Some TwoMains) (option_or (option_map TwoRules d) u)) ≡ None → (m ≡ true) × (d ≡ None)
    go false t d u h = cc
    go true true d u h = cc
    go true false (Some n) u h = cc
    go true false None u h = (refl, refl)
