-- A text has one program or one fault.
use Rattle.std.proofs.Common.{◌≡◌, ◌≢◌, ◌⊎◌, ℕ, ◌<◌, List, map, Some, None, Ok, Err, refl, sym, ap, ◌∙◌, subst, inl, inr, arith}
use Rattle.gp_memory.proofs.Basics.{some_is}
use Rattle.gp_values.specs.Names.{Name}
use Rattle.gp_tokens.specs.declared.fault.LexFault.{LexFault}
use Rattle.gp_tokens.specs.declared.token.Token.{Token}
use Rattle.gp_tokens.specs.Lexed.{Outcome, tokens_of}
use Rattle.gp_tokens.specs.Lines.{token_line}
use Rattle.gp_program.specs.Depth.{IsTooDeep, IsShallow}
use Rattle.gp_syntax.specs.declared.tree.Ast.{Ast}
use Rattle.gp_syntax.specs.Declaration.{rule_of}
use Rattle.gp_syntax.specs.Fault.{Fault}
use Rattle.gp_syntax.specs.Fault as meant
use Rattle.gp_syntax.specs.Run.{Program}
use Rattle.gp_expressions.specs.declared.ranged.Ranged.{Ranged}
use Rattle.gp_program.specs.Program.{IsProgram, IsPastRange, place_of_start}
use Rattle.gp_program.specs.Laws.{TokensHaveOneTree}
use Rattle.gp_scope.specs.declared.fault.ScopeFault.{ScopeFault}
use Rattle.gp_scope.specs.declared.fault.ScopeFault.TheVariants as scope_faults
use Rattle.gp_scope.specs.Outline.{outline}
use Rattle.gp_scope.specs.Resolved.{program_with}
use Rattle.gp_scope.specs.Fault.{IsFault, told}
use Rattle.gp_scope.specs.Fault as scoping
use Rattle.gp_reader.specs.ResolutionLaws.{OneFault}
use Rattle.gp_check.specs.declared.fault.RuleFault.{RuleFault}
use Rattle.gp_check.specs.declared.fault.RuleFault.TheVariants as rule_faults
use Rattle.gp_check.specs.Answer.{Refuses}
use Rattle.gp_reader.specs.declared.fault.ProgramFault.{ProgramFault}
use Rattle.gp_reader.specs.declared.fault.ProgramFault.TheVariants as faults
use Rattle.gp_reader.specs.Program.{HasTokens, HasTree, IsScopedText, IsProgramText, IsTreelessText, IsFaultyText, lex, too_deep, syntax, number_range, treeless, scope, rule, declared_rules, first_faulty}
use Rattle.gp_reader.specs.Laws.{AreSyntax}

-- ---- faults by what they tell

abbrev pub scope_answer : scoping.Fault → ScopeFault
scope_answer scoping.NoMain = scope_faults.NoMain
scope_answer scoping.TwoMains = scope_faults.TwoMains
scope_answer (scoping.TwoRules n) = scope_faults.TwoRules n
scope_answer (scoping.Unknown n) = scope_faults.Unknown n
scope_answer (scoping.Recursive n) = scope_faults.Recursive n
scope_answer (scoping.DeepCalls n) = scope_faults.DeepCalls n
scope_answer scoping.StrayBreak = scope_faults.StrayBreak

pub is_told : (f : scoping.Fault) → told (scope_answer f) ≡ Some f
is_told scoping.NoMain = refl
is_told scoping.TwoMains = refl
is_told (scoping.TwoRules n) = refl
is_told (scoping.Unknown n) = refl
is_told (scoping.Recursive n) = refl
is_told (scoping.DeepCalls n) = refl
is_told scoping.StrayBreak = refl

told_by : (e : ScopeFault) (f : scoping.Fault) → told e ≡ Some f → e ≡ scope_answer f
told_by scope_faults.NoMain f h = ap scope_answer (some_is scoping.NoMain f h)
told_by scope_faults.TwoMains f h = ap scope_answer (some_is scoping.TwoMains f h)
told_by (scope_faults.TwoRules n) f h = ap scope_answer (some_is (scoping.TwoRules n) f h)
told_by (scope_faults.Unknown n) f h = ap scope_answer (some_is (scoping.Unknown n) f h)
told_by (scope_faults.Recursive n) f h = ap scope_answer (some_is (scoping.Recursive n) f h)
told_by (scope_faults.DeepCalls n) f h = ap scope_answer (some_is (scoping.DeepCalls n) f h)
told_by scope_faults.StrayBreak f h = ap scope_answer (some_is scoping.StrayBreak f h)
told_by scope_faults.NoMemory f h = absurd cc

abbrev pub rule_answer : Fault → RuleFault
rule_answer meant.TooLarge = rule_faults.TooLarge
rule_answer (meant.TwiceDeclared n) = rule_faults.TwiceDeclared n
rule_answer (meant.UnknownNode n) = rule_faults.UnknownNode n
rule_answer (meant.BadInterface n) = rule_faults.BadInterface n
rule_answer (meant.Unbound n) = rule_faults.Unbound n
rule_answer meant.BadType = rule_faults.BadType
rule_answer meant.NotSimple = rule_faults.NotSimple
rule_answer meant.BadMark = rule_faults.BadMark
rule_answer (meant.BadBidi n) = rule_faults.BadBidi n

refused_by : (e : RuleFault) (f : Fault) → e ≢ rule_faults.NoMemory → Refuses e (Some f) → e ≡ rule_answer f
refused_by rule_faults.TooLarge f k h = ap rule_answer (sym (some_is f meant.TooLarge h))
refused_by (rule_faults.TwiceDeclared n) f k h = ap rule_answer (sym (some_is f (meant.TwiceDeclared n) h))
refused_by (rule_faults.UnknownNode n) f k h = ap rule_answer (sym (some_is f (meant.UnknownNode n) h))
refused_by (rule_faults.BadInterface n) f k h = ap rule_answer (sym (some_is f (meant.BadInterface n) h))
refused_by (rule_faults.Unbound n) f k h = ap rule_answer (sym (some_is f (meant.Unbound n) h))
refused_by rule_faults.BadType f k h = ap rule_answer (sym (some_is f meant.BadType h))
refused_by rule_faults.NotSimple f k h = ap rule_answer (sym (some_is f meant.NotSimple h))
refused_by rule_faults.BadMark f k h = ap rule_answer (sym (some_is f meant.BadMark h))
refused_by (rule_faults.BadBidi n) f k h = ap rule_answer (sym (some_is f (meant.BadBidi n) h))
refused_by rule_faults.NoMemory f k h = absurd (k refl)

-- ---- tokens

same_tokens : (r : Outcome) (ts us : List Token) → r ≡ Ok ts → r ≡ Ok us → ts ≡ us
same_tokens r ts us h k = cc

not_both : (r : Outcome) (ts : List Token) (e : LexFault) → r ≡ Err e → r ≡ Ok ts → ⊥
not_both r ts e h k = cc

same_fault : (r : Outcome) (e f : LexFault) → r ≡ Err e → r ≡ Err f → e ≡ f
same_fault r e f h k = cc

deep_or_shallow : (ts : List Token) (k : ℕ) → IsTooDeep ts k → IsShallow ts → ⊥
deep_or_shallow ts k d s = let a = d.deep in let b = s.shallow k d.place in omega arith

none_deep_before : (ts : List Token) (j k : ℕ) → IsTooDeep ts j → IsTooDeep ts k → k < j → ⊥
none_deep_before ts j k d e l = let a = d.first k l in let b = e.deep in omega arith

deep_once : (ts : List Token) (j k : ℕ) → IsTooDeep ts j → IsTooDeep ts k → j ≡ k
deep_once ts j k d e = let a : k < j → ⊥ = none_deep_before ts j k d e in let b : j < k → ⊥ = none_deep_before ts k j e d in omega (arith, a, b)

module _ (bytes : List ℕ) (ts us : List Token) (h : tokens_of bytes ≡ Ok ts) (k : tokens_of bytes ≡ Ok us) where
  same : us ≡ ts
  same = same_tokens (tokens_of bytes) us ts k h

  pub not_deep : (n : ℕ) → IsTooDeep ts n → IsShallow us → ⊥
  not_deep n d s = deep_or_shallow ts n d (subst IsShallow same s)

  same_deep : (m n : ℕ) → IsTooDeep ts m → IsTooDeep us n → token_line bytes ts m ≡ token_line bytes us n
  same_deep m n d e = ap (token_line bytes ts) (deep_once ts m n d (subst (λ xs. IsTooDeep xs n) same e)) ∙ ap (λ xs. token_line bytes xs n) (sym same)

-- ---- trees

past_is : (x y : Ranged Ast) → x ≡ y → x.past ≡ y.past
past_is x y h = ap (λ (r : Ranged Ast). r.past) h

module _ (one_tree : TokensHaveOneTree) (bytes : List ℕ) where
  no_program : (ts us : List Token) (x : Ranged Ast) → HasTokens bytes ts → HasTokens bytes us → ((x : Ranged Ast) → IsProgram ts x → ⊥) → IsProgram us x → ⊥
  no_program ts us x a b none p = none x (subst (λ xs. IsProgram xs x) (same bytes ts us a.lexed b.lexed) p)

  one : (ts us : List Token) (x y : Ranged Ast) → HasTokens bytes ts → HasTokens bytes us → IsProgram ts x → IsProgram us y → x ≡ y
  one ts us x y a b p q = one_tree ts x y p (subst (λ xs. IsProgram xs y) (same bytes ts us a.lexed b.lexed) q)

  in_range : (ts : List Token) (k : ℕ) (t : Ast) → HasTokens bytes ts → IsPastRange ts k → HasTree bytes t → ⊥
  in_range ts k t a p h = let e = past_is _ _ (one ts h.tokens _ _ a h.has_tokens p.shape h.is_tree) in cc

  same_range : (ts us : List Token) (j k : ℕ) → HasTokens bytes ts → HasTokens bytes us → IsPastRange ts j → IsPastRange us k → token_line bytes ts j ≡ token_line bytes us k
  same_range ts us j k a b p q =
      let s : us ≡ ts = same bytes ts us a.lexed b.lexed in
      let e : p.start ≡ q.start = some_is _ _ (past_is _ _ (one ts us _ _ a b p.shape q.shape)) in
      let n : j ≡ k = p.place ∙ ap (λ x. place_of_start x ts) e ∙ ap (place_of_start q.start) (sym s) ∙ sym q.place in
      ap (token_line bytes ts) n ∙ ap (λ xs. token_line bytes xs k) (sym s)

  pub same_tree : (t u : Ast) → HasTree bytes t → HasTree bytes u → t ≡ u
  same_tree t u h k = ap (λ (r : Ranged Ast). r.tree) (one h.tokens k.tokens _ _ h.has_tokens k.has_tokens h.is_tree k.is_tree)

  no_scope_fault : (t u : Ast) (f : scoping.Fault) → HasTree bytes t → IsFault (outline t.declarations) f → IsScopedText bytes u → ⊥
  no_scope_fault t u f h fault k = k.faultless f (subst (λ (x : Ast). IsFault (outline x.declarations) f) (same_tree t u h k.has_tree) fault)

  pub one_program : (p q : Program) → IsProgramText bytes p → IsProgramText bytes q → p ≡ q
  one_program p q h k =
      let e : h.tree ≡ k.tree = same_tree h.tree k.tree h.scoped.has_tree k.scoped.has_tree in
      h.is ∙ ap (λ (x : Ast). program_with (outline x.declarations) (map rule_of (declared_rules x))) e ∙ sym k.is

  pub no_tree_fault : (t : Ast) (e : ProgramFault) → HasTree bytes t → IsTreelessText bytes e → ⊥
  no_tree_fault t _ h (lex l n) = not_both (tokens_of bytes) h.tokens _ l h.has_tokens.lexed
  no_tree_fault t _ h (too_deep ts k l d) = not_deep bytes ts h.tokens l h.has_tokens.lexed k d h.has_tokens.shallow
  no_tree_fault t _ h (syntax ts k a n) = no_program ts h.tokens _ a h.has_tokens n.none h.is_tree
  no_tree_fault t _ h (number_range ts k a r) = in_range ts k t a r h

  pub no_fault : (p : Program) (e : ProgramFault) → IsProgramText bytes p → IsFaultyText bytes e → ⊥
  no_fault p _ h (treeless f) = no_tree_fault h.tree _ h.scoped.has_tree f
  no_fault p _ h (scope {f} t a fault told) = no_scope_fault t h.tree f a fault h.scoped
  no_fault p _ h (rule {name} {e} {f} t a first r known) =
      let e : t ≡ h.tree = same_tree t h.tree a.has_tree h.scoped.has_tree in
      let c : first_faulty (declared_rules t) ≡ None = ap (λ (x : Ast). first_faulty (declared_rules x)) e ∙ h.checked in
      cc

  one_tree_fault : (d e : ProgramFault) → IsTreelessText bytes d → IsTreelessText bytes e → (d ≡ e) ⊎ AreSyntax d e
  one_tree_fault _ _ (lex {e = x} h m) (lex {e = y} i n) = inl (ap faults.Lex (same_fault (tokens_of bytes) x y h i))
  one_tree_fault _ _ (lex h m) (too_deep us k i d) = absurd (not_both (tokens_of bytes) us _ h i)
  one_tree_fault _ _ (lex h m) (syntax us k a n) = absurd (not_both (tokens_of bytes) us _ h a.lexed)
  one_tree_fault _ _ (lex h m) (number_range us k a r) = absurd (not_both (tokens_of bytes) us _ h a.lexed)
  one_tree_fault _ _ (too_deep ts j h d) (lex i n) = absurd (not_both (tokens_of bytes) ts _ i h)
  one_tree_fault _ _ (too_deep ts j h d) (too_deep us k i e) = inl (ap faults.TooDeep (same_deep bytes ts us h i j k d e))
  one_tree_fault _ _ (too_deep ts j h d) (syntax us k a n) = absurd (not_deep bytes ts us h a.lexed j d a.shallow)
  one_tree_fault _ _ (too_deep ts j h d) (number_range us k a r) = absurd (not_deep bytes ts us h a.lexed j d a.shallow)
  one_tree_fault _ _ (syntax ts j h p) (lex i n) = absurd (not_both (tokens_of bytes) ts _ i h.lexed)
  one_tree_fault _ _ (syntax ts j h p) (too_deep us k i e) = absurd (not_deep bytes us ts i h.lexed k e h.shallow)
  one_tree_fault _ _ (syntax ts j h p) (syntax us k a n) = inr (record { one = token_line bytes ts j; other = token_line bytes us k; one_is = refl; other_is = refl })
  one_tree_fault _ _ (syntax ts j h p) (number_range us k a r) = absurd (no_program ts us _ h a p.none r.shape)
  one_tree_fault _ _ (number_range ts j h p) (lex i n) = absurd (not_both (tokens_of bytes) ts _ i h.lexed)
  one_tree_fault _ _ (number_range ts j h p) (too_deep us k i e) = absurd (not_deep bytes us ts i h.lexed k e h.shallow)
  one_tree_fault _ _ (number_range ts j h p) (syntax us k a n) = absurd (no_program us ts _ a h n.none p.shape)
  one_tree_fault _ _ (number_range ts j h p) (number_range us k a r) = inl (ap faults.NumberRange (same_range ts us j k h a p r))

  module _ (one_scope_fault : OneFault) where
    same_scope : (t u : Ast) (d e : ScopeFault) (f g : scoping.Fault) → HasTree bytes t → HasTree bytes u → IsFault (outline t.declarations) f → IsFault (outline u.declarations) g → told d ≡ Some f → told e ≡ Some g → d ≡ e
    same_scope t u d e f g h k p q a b =
        let s : u ≡ t = same_tree u t k h in
        let x : f ≡ g = one_scope_fault (outline t.declarations) f g p (subst (λ (x : Ast). IsFault (outline x.declarations) g) s q) in
        told_by d f a ∙ ap scope_answer x ∙ sym (told_by e g b)

    same_rule : (t u : Ast) (m n : Name) (d e : RuleFault) (f g : Fault) → IsScopedText bytes t → IsScopedText bytes u → first_faulty (declared_rules t) ≡ Some (m, f) → first_faulty (declared_rules u) ≡ Some (n, g) → Refuses d (Some f) → Refuses e (Some g) → d ≢ rule_faults.NoMemory → e ≢ rule_faults.NoMemory → faults.Rule m d ≡ faults.Rule n e
    same_rule t u m n d e f g h k a b p q x y =
        let s : t ≡ u = same_tree t u h.has_tree k.has_tree in
        let both : (m, f) ≡ (n, g) = some_is (m, f) (n, g) (sym a ∙ ap (λ (x : Ast). first_faulty (declared_rules x)) s ∙ b) in
        let names : m ≡ n = ap (λ (z : Name × Fault). z.0) both in
        let known : f ≡ g = ap (λ (z : Name × Fault). z.1) both in
        ap (λ z. faults.Rule z d) names ∙ ap (faults.Rule n) (refused_by d f x p ∙ ap rule_answer known ∙ sym (refused_by e g y q))

    pub one_fault : (d e : ProgramFault) → IsFaultyText bytes d → IsFaultyText bytes e → (d ≡ e) ⊎ AreSyntax d e
    one_fault _ _ (treeless h) (treeless k) = one_tree_fault _ _ h k
    one_fault _ _ (treeless h) (scope u a f t) = absurd (no_tree_fault u _ a h)
    one_fault _ _ (treeless h) (rule u a f t w) = absurd (no_tree_fault u _ a.has_tree h)
    one_fault _ _ (scope t h f o) (treeless k) = absurd (no_tree_fault t _ h k)
    one_fault _ _ (scope t h f o) (scope u a g p) = inl (ap faults.Scope (same_scope t u _ _ _ _ h a f g o p))
    one_fault _ _ (scope t h f o) (rule u a g p w) = absurd (no_scope_fault t u _ h f a)
    one_fault _ _ (rule t h f o v) (treeless k) = absurd (no_tree_fault t _ h.has_tree k)
    one_fault _ _ (rule t h f o v) (scope u a g p) = absurd (no_scope_fault u t _ a g h)
    one_fault _ _ (rule t h f o v) (rule u a g p w) = inl (same_rule t u _ _ _ _ _ _ h a f g o p v w)
