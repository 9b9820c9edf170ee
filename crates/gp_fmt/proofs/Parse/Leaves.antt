-- Numerals, strings and names in expressions are read again.
use Rattle.std.proofs.Common.{◌≡◌, ℕ, suc, ◌<◌, ◌≤◌, ◌^◌, pos, negsuc, Bool, true, false, List, [], ◌∷◌, ◌++◌, Some, None, decimal, refl, ap, subst, lit<, lt_of_le_of_lt, le_of_lt, lt-ltb, le-leb, leb-true, ne_eqb}
use Rattle.std.specs.Prelude.{◌==◌, nat_le, nat_lt, if◌then◌else◌}
use Rattle.std.specs.List.{AllByRecursion, list_all}
use Rattle.std.proofs.lemmas.List.Elements.{recursion_from_All}
use Rattle.gp_tokens.specs.declared.keyword.Keyword.{Keyword}
use Rattle.gp_tokens.specs.declared.token.Kind.TheVariants as k
use Rattle.gp_tokens.specs.declared.token.Token.{Token}
use Rattle.gp_tokens.specs.Bytes.{is_string_byte}
use Rattle.gp_tokens.specs.Kinds.{same_kind}
use Rattle.gp_tokens.specs.Numbers.{number_of, checked_number}
use Rattle.gp_tokens.proofs.Numerals.{decimal_value}
use Rattle.gp_values.specs.Names.{Name}
use Rattle.gp_values.specs.Texts.{IsCharacter, IsText}
use Rattle.gp_tokens.specs.declared.want.Want.{Want}
use Rattle.gp_tokens.specs.declared.want.Want.TheVariants as wants
use Rattle.gp_tokens.specs.Wants.{meets}
use Rattle.gp_tokens.specs.Grammar.{shape_of}
use Rattle.gp_tokens.specs.SignWants.{open_sign, close_sign}
use Rattle.gp_tokens.specs.Shape.{Is, IsNumberAt, IsString, ◌then◌, Made}
use Rattle.gp_syntax.specs.declared.expression.Expr.TheVariants as e
use Rattle.gp_expressions.specs.Ranges.{whole}
use Rattle.gp_expressions.specs.Expressions.{Tree, positive, negative, nested, operand, list, argument, inner, of_name}
use Rattle.gp_fmt.specs.declared.piece.Piece.{Piece}
use Rattle.gp_fmt.specs.declared.piece.Piece.TheVariants as p
use Rattle.gp_fmt.specs.Expressions.{in_parentheses}
use Rattle.gp_fmt.proofs.Parse.Printed.{token_at, done, next, Reads, Anything, some, made_into, one_reads, other_reads, then_takes, behind_takes, sign_takes}
use Rattle.gp_fmt.proofs.Parse.Gives.{Gives, token_gives}
use Rattle.gp_fmt.proofs.Parse.Names.{IsNamed, name_reads}

-- ---- numbers

value_within : (o : ℕ) (b : Bool) (v : ℕ) → nat_le o (2 ^ 127) ≡ b → (if b then Some o else None) ≡ Some v → v ≤ 2 ^ 127
value_within o true v h e = let same : o ≡ v = cc in subst (λ v. v ≤ 2 ^ 127) same (leb-true o (2 ^ 127) h)
value_within o false v h e = absurd cc

pub number_gives : Gives IsNumberAt (λ x. x.0 ≤ 2 ^ 127)
number_gives ts rest x s h =
    (value_within (number_of h.token.text) (nat_le (number_of h.token.text) (2 ^ 127)) x.0 refl h.value_is, (token_gives (wants.Kind k.Number) ts rest h.token s h.is).1)

few_digits : (v : ℕ) → v ≤ 2 ^ 127 → v < 10 ^ 64
few_digits v h = lt_of_le_of_lt h (lit< tt)

number_checked : (v : ℕ) → v ≤ 2 ^ 127 → checked_number (decimal v) ≡ Some v
number_checked v h =
    let same : number_of (decimal v) ≡ v = decimal_value v (few_digits v h) in
    let within : nat_le v (2 ^ 127) ≡ true = le-leb v (2 ^ 127) h in
    rw (same, within) refl

number_read : (v : ℕ) (ts rest : List Token) (start : ℕ) → v ≤ 2 ^ 127 → IsNumberAt (token_at (p.Number v) start ∷ rest) rest (v, start)
unfolding meets same_kind
number_read v ts rest start h = record { token = token_at (p.Number v) start; is = record { front = refl; is = refl }; value_is = number_checked v h; start_is = refl }

in_range : (v start : ℕ) → v < 2 ^ 127 → whole (e.Number (pos v)) ≡ positive (v, start)
in_range v start h = let small : nat_lt v (2 ^ 127) ≡ true = lt-ltb v (2 ^ 127) h in rw small refl

pub positive_reads : (v : ℕ) → v < 2 ^ 127 → Reads (p.Number v ∷ []) (Made positive IsNumberAt) (whole (e.Number (pos v)))
positive_reads v h _ _ (next {ts = ts} _ start done) = record { of = (v, start); shape = number_read v ts ts start (le_of_lt h); made = in_range v start h }

below_range : (v start : ℕ) → suc v ≤ 2 ^ 127 → whole (e.Number (negsuc v)) ≡ negative (suc v, start)
below_range v start h = let small : nat_le (suc v) (2 ^ 127) ≡ true = le-leb (suc v) (2 ^ 127) h in rw small refl

pub negative_reads : (v : ℕ) → suc v ≤ 2 ^ 127 → Reads (p.Number (suc v) ∷ []) (Made negative IsNumberAt) (whole (e.Number (negsuc v)))
negative_reads v h _ _ (next {ts = ts} _ start done) = record { of = (suc v, start); shape = number_read (suc v) ts ts start h; made = below_range v start h }

-- ---- strings

tells : (b : ℕ) → IsCharacter b → is_string_byte b ≡ true
tells b c =
    let p : nat_le 32 b ≡ true = le-leb 32 b c.0 in
    let q : nat_le b 126 ≡ true = le-leb b 126 c.1 in
    let r : (b == 34) ≡ false = ne_eqb b 34 c.2 in
    rw (p, q, r) refl

all_bytes : (cs : List ℕ) → AllByRecursion IsCharacter cs → list_all is_string_byte cs ≡ true
all_bytes [] h = refl
all_bytes (c ∷ cs) h = rw (tells c h.0, all_bytes cs h.1) refl

pub text_well : (cs : List ℕ) → IsText cs → list_all is_string_byte cs ≡ true
text_well cs h = all_bytes cs (recursion_from_All IsCharacter cs h)

pub string_reads : (cs : List ℕ) → IsText cs → Reads (p.String cs ∷ []) IsString cs
unfolding meets same_kind
string_reads cs h _ _ (next {ts = ts} _ start done) = record { token = token_at (p.String cs) start; is = record { front = refl; is = refl }; spelled = refl; text = h }

-- ---- parentheses and names

pub argument_reads : (want : Want) (n : Name) → IsNamed want n → Reads (in_parentheses (p.Name n ∷ [])) (shape_of (argument want)) n
unfolding argument meets same_kind
argument_reads want n h =
    made_into _ inner _ (λ x. (x.1.0 ≡ n) × Anything x.1.1) n (λ x j. j.0)
    (behind_takes (p.Sign k.OpenParenthesis) (p.Name n ∷ p.Sign k.CloseParenthesis ∷ []) open_sign _ (λ x. (x.0 ≡ n) × Anything x.1) (λ start. refl)
    (then_takes (p.Name n ∷ []) (p.Sign k.CloseParenthesis ∷ []) _ _ (λ x. x ≡ n) Anything (some _ _ n (name_reads want n h)) (sign_takes (p.Sign k.CloseParenthesis) close_sign (λ start. refl))))

pub applied_reads : (word : Keyword) (want : Want) (make : Name → Tree) (n : Name) → ((start : ℕ) → meets (wants.Keyword word) (token_at (p.Word word) start) ≡ true) → IsNamed want n
    → Reads (p.Word word ∷ in_parentheses (p.Name n ∷ [])) (Made (of_name make) (Is (wants.Keyword word) then shape_of (argument want))) (whole (make n))
applied_reads word want make n m h =
    made_into _ (of_name make) _ (λ x. x.1 ≡ n) (whole (make n)) (λ x j. ap (λ n. whole (make n)) j)
    (behind_takes (p.Word word) (in_parentheses (p.Name n ∷ [])) (wants.Keyword word) _ (λ x. x ≡ n) m (some _ _ n (argument_reads want n h)))

pub enclosed_reads : (ps : List Piece) (n : ℕ) (e : Tree) → Reads ps (shape_of (list n)) (whole e) → Reads (in_parentheses ps) (shape_of (operand (suc n))) (whole e)
unfolding operand nested meets same_kind
enclosed_reads ps n e h =
    other_reads _ _ _ _ (one_reads _ _ _ _ (made_into _ inner _ (λ x. (x.1.0 ≡ whole e) × Anything x.1.1) (whole e) (λ x j. j.0)
    (behind_takes (p.Sign k.OpenParenthesis) (ps ++ p.Sign k.CloseParenthesis ∷ []) open_sign _ (λ x. (x.0 ≡ whole e) × Anything x.1) (λ start. refl)
    (then_takes ps (p.Sign k.CloseParenthesis ∷ []) _ _ (λ x. x ≡ whole e) Anything (some _ _ (whole e) h) (sign_takes (p.Sign k.CloseParenthesis) close_sign (λ start. refl))))))
