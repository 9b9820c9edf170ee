-- What one declaration does to the names among which it stands.
use Rattle.std.proofs.Common.{◌≡◌, ℕ, ◌+◌, ◌<◌, ◌^◌, Bool, true, false, cond, ◌||◌, List, [], ◌∷◌, ◌++◌, drop, length, get_or, Option, Some, None, refl, sym, ap, ◌∙◌, subst, arith, length-append}
use Rattle.std.specs.Option.{option_or}
use Rattle.gp_values.specs.Names.{Name, same_name, has_name}
use Rattle.gp_syntax.specs.declared.tree.RuleDecl.{RuleDecl}
use Rattle.gp_syntax.specs.declared.tree.CommandTree.{CommandTree}
use Rattle.gp_syntax.specs.declared.tree.Decl.{Decl}
use Rattle.gp_syntax.specs.declared.tree.Decl.TheVariants as decl
use Rattle.gp_scope.specs.declared.meaning.Meaning.{Meaning}
use Rattle.gp_scope.specs.declared.meaning.Meaning.TheVariants as meanings
use Rattle.gp_scope.specs.declared.survey.Survey.{Survey}
use Rattle.gp_scope.specs.Outline.{Outline, nothing, rule, procedure, is_main, own_number, rules_in, procedures_in, declared, outline, named}
use Rattle.gp_scope.specs.Names.{Scope, entries}
use Rattle.gp_scope.specs.Fault.{doubled_behind}
use Rattle.gp_scope.specs.inside.Doubles.{name_of}
use Rattle.gp_scope.specs.Surveys.{survey_of, both_counted, declarations_in}
use Rattle.gp_scope.specs.inside.Levels.{names_of}
use Rattle.gp_scope.specs.inside.Declares.{Counts, GivesEntries, KeepsOnce, NamesNoOther}
use Rattle.gp_scope.proofs.Counted.{counts_all}
use Rattle.gp_scope.proofs.Outlines.{outline_from, declared-Rule, declared-Procedure, name_of-Rule, name_of-Procedure}

-- how much a rule, or a procedure, declares
pub rule_counts : (d : Decl) (x : RuleDecl) (k : Survey) → d ≡ decl.Rule x → Counts d k → (k.rules ≡ 1) × (k.procedures ≡ 0)
rule_counts d x k e c =
    let h : survey_of (rule x nothing) ≡ both_counted k (survey_of nothing) = ap survey_of (sym (ap (λ y. declared y nothing) e ∙ declared-Rule x nothing)) ∙ c nothing in
    let r = ap (λ (s : Survey). s.rules) h in
    let p = ap (λ (s : Survey). s.procedures) h in
    (omega (arith, r), omega (arith, p))

pub procedure_counts : (d : Decl) (n : Name) (ds : List Decl) (body : CommandTree) (k : Survey) → d ≡ decl.Procedure n ds body → Counts d k → (k.rules ≡ length (rules_in (outline ds))) × (k.procedures ≡ own_number n + procedures_in (outline ds))
procedure_counts d n ds body k e c =
    let h : survey_of (procedure n (outline ds) (named body) nothing) ≡ both_counted k (survey_of nothing) = ap survey_of (sym (ap (λ y. declared y nothing) e ∙ declared-Procedure n ds body nothing)) ∙ c nothing in
    let r = ap (λ (s : Survey). s.rules) h in
    let p = ap (λ (s : Survey). s.procedures) h in
    let l = length-append (rules_in (outline ds)) [] in
    (omega (arith, r, l), omega (arith, p))

pub rule_entries : (d : Decl) (x : RuleDecl) (r p : ℕ) → d ≡ decl.Rule x → GivesEntries d r p (Some (meanings.Rule r))
rule_entries d x r p e = λ k c os.
    let n = rule_counts d x k e c in
    let a : r + 1 ≡ r + k.rules = omega (arith, n.0) in
    let b : p ≡ p + k.procedures = omega (arith, n.1) in
    ap (entries r p) (ap (λ y. declared y os) e ∙ declared-Rule x os) ∙ ap (λ q. (q, meanings.Rule r) ∷ entries (r + 1) p os) (sym (ap name_of e ∙ name_of-Rule x)) ∙ ap (λ i. (name_of d, meanings.Rule r) ∷ entries i p os) a ∙ ap (λ i. (name_of d, meanings.Rule r) ∷ entries (r + k.rules) i os) b

procedure_behind : (d : Decl) (n : Name) (ds : List Decl) (body : CommandTree) (r p : ℕ) (k : Survey) (os : Outline) → d ≡ decl.Procedure n ds body → Counts d k
    → entries (r + length (rules_in (outline ds))) (p + own_number n + procedures_in (outline ds)) os ≡ entries (r + k.rules) (p + k.procedures) os
procedure_behind d n ds body r p k os e c =
    let m = procedure_counts d n ds body k e c in
    let a : r + length (rules_in (outline ds)) ≡ r + k.rules = omega (arith, m.0) in
    let b : p + own_number n + procedures_in (outline ds) ≡ p + k.procedures = omega (arith, m.1) in
    ap (λ i. entries i (p + own_number n + procedures_in (outline ds)) os) a ∙ ap (λ i. entries (r + k.rules) i os) b

pub procedure_entries : (d : Decl) (n : Name) (ds : List Decl) (body : CommandTree) (r p : ℕ) → d ≡ decl.Procedure n ds body → is_main n ≡ false → GivesEntries d r p (Some (meanings.Procedure p))
procedure_entries d n ds body r p e h = λ k c os.
    ap (entries r p) (ap (λ y. declared y os) e ∙ declared-Procedure n ds body os)
    ∙ ap (λ b. cond b [] ((n, meanings.Procedure p) ∷ []) ++ entries (r + length (rules_in (outline ds))) (p + own_number n + procedures_in (outline ds)) os) h
    ∙ ap (λ q. (q, meanings.Procedure p) ∷ entries (r + length (rules_in (outline ds))) (p + own_number n + procedures_in (outline ds)) os) (sym (ap name_of e ∙ name_of-Procedure n ds body))
    ∙ ap (λ l. (name_of d, meanings.Procedure p) ∷ l) (procedure_behind d n ds body r p k os e c)

pub main_entries : (d : Decl) (n : Name) (ds : List Decl) (body : CommandTree) (r p : ℕ) → d ≡ decl.Procedure n ds body → is_main n ≡ true → GivesEntries d r p None
main_entries d n ds body r p e h = λ k c os.
    ap (entries r p) (ap (λ y. declared y os) e ∙ declared-Procedure n ds body os)
    ∙ ap (λ b. cond b [] ((n, meanings.Procedure p) ∷ []) ++ entries (r + length (rules_in (outline ds))) (p + own_number n + procedures_in (outline ds)) os) h
    ∙ procedure_behind d n ds body r p k os e c

-- ---- no name twice

none_else : (b : Bool) (n : Name) (o : Option Name) → cond b (Some n) o ≡ None → o ≡ None
none_else true n o e = cc
none_else false n o e = e

pub none_both : (a b : Option Name) → option_or a b ≡ None → (a ≡ None) × (b ≡ None)
none_both (Some x) b e = cc
none_both None b e = (refl, e)

pub rule_once : (d : Decl) (x : RuleDecl) → d ≡ decl.Rule x → KeepsOnce d
rule_once d x e = λ seen os h.
    let n = ap name_of e ∙ name_of-Rule x in
    let f = ap (doubled_behind seen) (sym (ap (λ y. declared y os) e ∙ declared-Rule x os)) ∙ h in
    ap (λ q. doubled_behind (seen ++ q ∷ []) os) n ∙ none_else (has_name seen x.name) x.name (doubled_behind (seen ++ x.name ∷ []) os) f

pub procedure_once : (d : Decl) (n : Name) (ds : List Decl) (body : CommandTree) → d ≡ decl.Procedure n ds body → KeepsOnce d
procedure_once d n ds body e = λ seen os h.
    let m = ap name_of e ∙ name_of-Procedure n ds body in
    let f = ap (doubled_behind seen) (sym (ap (λ y. declared y os) e ∙ declared-Procedure n ds body os)) ∙ h in
    ap (λ q. doubled_behind (seen ++ q ∷ []) os) m ∙ (none_both (doubled_behind [] (outline ds)) (doubled_behind (seen ++ n ∷ []) os) (none_else (has_name seen n) n (option_or (doubled_behind [] (outline ds)) (doubled_behind (seen ++ n ∷ []) os)) f)).1

-- nor in the procedure
pub local_once : (d : Decl) (n : Name) (ds : List Decl) (body : CommandTree) (seen : List Name) (os : Outline) → d ≡ decl.Procedure n ds body → doubled_behind seen (declared d os) ≡ None → doubled_behind [] (outline ds) ≡ None
local_once d n ds body seen os e h =
    let f = ap (doubled_behind seen) (sym (ap (λ y. declared y os) e ∙ declared-Procedure n ds body os)) ∙ h in
    (none_both (doubled_behind [] (outline ds)) (doubled_behind (seen ++ n ∷ []) os) (none_else (has_name seen n) n (option_or (doubled_behind [] (outline ds)) (doubled_behind (seen ++ n ∷ []) os)) f)).0

-- ---- counting on

pub record StillFew (at k : Survey) (rest : Outline) : Type 0 where
  pub rules : at.rules + k.rules < 2 ^ 32
  pub procedures : at.procedures + k.procedures < 2 ^ 32
  pub mains : at.mains + k.mains < 2 ^ 32
  pub behind : at.rules + k.rules + (at.procedures + k.procedures) + (at.mains + k.mains) + declarations_in rest < 2 ^ 32

pub still_few : (at k : Survey) (d : Decl) (rest : Outline) → Counts d k → at.rules + at.procedures + at.mains + declarations_in (declared d rest) < 2 ^ 32 → StillFew at k rest
still_few at k d rest c lt =
    let e = c rest in
    let r = ap (λ (s : Survey). s.rules) e in
    let p = ap (λ (s : Survey). s.procedures) e in
    let m = ap (λ (s : Survey). s.mains) e in
    let a = counts_all (declared d rest) in
    let b = counts_all rest in
    record { rules = omega (arith, r, p, m, a, b, lt); procedures = omega (arith, r, p, m, a, b, lt); mains = omega (arith, r, p, m, a, b, lt); behind = omega (arith, r, p, m, a, b, lt) }

-- a name that is new to those that were seen is new to a level of some of them
pub new_to_level : (level seen : List Name) (n : Name) → ((q : Name) → has_name level q ≡ true → has_name seen q ≡ true) → (has_name seen n ≡ true → ⊥) → has_name level n ≡ false
new_to_level level seen n sub new = go (has_name level n) refl
  where
    go : (b : Bool) → has_name level n ≡ b → b ≡ false
    go true h = absurd (new (sub n h))
    go false h = refl

or_false : (b : Bool) → (b || false) ≡ b
or_false true = refl
or_false false = refl

-- the names of a level, one more of them
pub has_more : (names : List Name) (n q : Name) → has_name (names ++ n ∷ []) q ≡ (has_name names q || same_name q n)
has_more [] n q = or_false (same_name q n)
has_more (x ∷ names) n q = ap (λ b. same_name q x || b) (has_more names n q) ∙ or_together (same_name q x) (has_name names q) (same_name q n)
  where
    or_together : (a b c : Bool) → (a || (b || c)) ≡ ((a || b) || c)
    or_together true b c = refl
    or_together false b c = refl

-- where it has some of the names, it has some of more names
pub or_more : (a b x : Bool) → (a ≡ true → b ≡ true) → (a || x) ≡ true → (b || x) ≡ true
or_more true b x f h = ap (λ c. c || x) (f refl)
or_more false true x f h = refl
or_more false false x f h = h

names_more : (old : Scope) (n : Name) (m : Meaning) → names_of (old ++ (n, m) ∷ []) ≡ names_of old ++ n ∷ []
names_more [] n m = refl
names_more (x ∷ old) n m = ap (λ l. x.0 ∷ l) (names_more old n m)

pub one_named : (d : Decl) (n : Name) (m : Meaning) (old new : Scope) → new ≡ old ++ (n, m) ∷ [] → n ≡ name_of d → NamesNoOther d old new
one_named d n m old new e h = λ q t.
    ap (λ x. has_name (names_of old) q || same_name q x) (sym h) ∙ sym (has_more (names_of old) n q) ∙ ap (λ l. has_name l q) (sym (names_more old n m)) ∙ ap (λ s. has_name (names_of s) q) (sym e) ∙ t

pub none_named : (d : Decl) (old : Scope) → NamesNoOther d old old
none_named d old = λ q t. ap (λ b. b || same_name q (name_of d)) t

pub some_none : (n : Name) → Some n ≡ None → ⊥
some_none n e = cc

-- how many there are from here on
pub few_here : (ds : List Decl) (i : ℕ) (d : Decl) (at : Survey) → i < length ds → d ≡ get_or ds i d → at.rules + at.procedures + at.mains + declarations_in (outline (drop i ds)) < 2 ^ 32
    → at.rules + at.procedures + at.mains + declarations_in (declared d (outline (drop (i + 1) ds))) < 2 ^ 32
few_here ds i d at lt e h = subst (λ o. at.rules + at.procedures + at.mains + declarations_in o < 2 ^ 32) (outline_from ds i d lt e) h

pub once_here : (ds : List Decl) (i : ℕ) (d : Decl) (seen : List Name) → i < length ds → d ≡ get_or ds i d → doubled_behind seen (outline (drop i ds)) ≡ None
    → doubled_behind seen (declared d (outline (drop (i + 1) ds))) ≡ None
once_here ds i d seen lt e h = ap (doubled_behind seen) (sym (outline_from ds i d lt e)) ∙ h
