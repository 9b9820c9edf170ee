-- Rows of parts, and the rows of operands and of conditions.
use Rattle.std.proofs.Common.{◌≡◌, ℕ, zero, suc, Bool, true, false, List, [], ◌∷◌, ◌++◌, map, length, Option, Some, None, refl, sym, ap, ◌∙◌}
use Rattle.std.specs.Prelude.{if◌then◌else◌}
use Rattle.std.specs.Option.{option_or}
use Rattle.gp_memory.proofs.Basics.{or_assoc as regroup, or_none as none_last}
use Rattle.gp_tokens.specs.declared.token.Token.{Token}
use Rattle.gp_tokens.specs.declared.want.Want.{Want}
use Rattle.gp_tokens.specs.Grammar.{Grammar}
use Rattle.gp_tokens.specs.Shape.{second_of, list_of}
use Rattle.gp_tokens.specs.SignWants.{dot, minus, slash}
use Rattle.gp_tokens.specs.Ahead.{◌>>=◌}
use Rattle.gp_tokens.specs.Reading.{Reader, begins, token, ◌and◌, made, many, repeated, separated, reader_of}
use Rattle.gp_syntax.specs.declared.expression.Expr.TheVariants as e
use Rattle.gp_syntax.specs.declared.expression.Cond.TheVariants as c
use Rattle.gp_syntax.specs.declared.expression.Signed.{Signed}
use Rattle.gp_syntax.specs.declared.expression.SumSign.TheVariants as sums
use Rattle.gp_syntax.specs.declared.expression.ProductSign.TheVariants as products
use Rattle.gp_expressions.specs.declared.ranged.Ranged.{Ranged}
use Rattle.gp_expressions.specs.Ranges.{first_past, chained}
use Rattle.gp_expressions.specs.Signs.{and_word}
use Rattle.gp_expressions.specs.Expressions.{Tree, headed, signed_by, unary, quotients, product, differences, sum, dots}
use Rattle.gp_expressions.specs.Conditions.{CondTree, conjunction, no_condition}
use Rattle.gp_expressions.specs.inside.Rows.{signed_row}
use Rattle.gp_expressions.proofs.Gathers.{past_more}

-- ---- parts that are made of others

abbrev Read : Type 0 → Type 0
Read A = Option (A × List Token)

abbrev part : {A B : Type 0} → (A → B) → Read A → Read B
part f read = read >>= λ x. Some (f x.0, x.1)

abbrev paired : {A B : Type 0} → A → Read B → Read (A × B)
paired a read = read >>= λ y. Some ((a, y.0), y.1)

abbrev then_read : {A B : Type 0} → Read A → Reader B → Read (A × B)
then_read read r = read >>= λ x. paired x.0 (r x.1)

abbrev headed_by : {A : Type 0} → A → Read (List A) → Read (List A)
headed_by a read = read >>= λ xs. Some (a ∷ xs.0, xs.1)

abbrev link : {A : Type 0} → Read A → Reader (List A) → Read (List A)
link read rest = read >>= λ x. headed_by x.0 (rest x.1)

abbrev where_on : {A : Type 0} → Bool → Read (List A) → List Token → Read (List A)
where_on b read ts = if b then read else Some ([], ts)

twice : {A B C : Type 0} (f : A → B) (g : B → C) (read : Read A) → part g (part f read) ≡ part (λ (x : A). g (f x)) read
twice f g None = refl
twice f g (Some x) = refl

module _ {A B : Type 0} (f : A → B) where
  behind_sign : (t : Token) (read : Read A) → part second_of (paired t (part f read)) ≡ part f (part second_of (paired t read))
  behind_sign t None = refl
  behind_sign t (Some x) = refl

  behind_token : (one : Reader A) (read : Read Token) → part second_of (then_read read (made f one)) ≡ part f (part second_of (then_read read one))
  behind_token one None = refl
  behind_token one (Some t) = behind_sign t.0 (one t.1)

  behind_part : (a : A) (read : Read (List A)) → headed_by (f a) (part (map f) read) ≡ part (map f) (headed_by a read)
  behind_part a None = refl
  behind_part a (Some xs) = refl

  more : (b : Bool) (ts : List Token) (read : Read B) (plain : Read A) (rest : Reader (List B)) (plain_rest : Reader (List A)) → read ≡ part f plain → ((us : List Token) → rest us ≡ part (map f) (plain_rest us))
      → where_on b (link read rest) ts ≡ part (map f) (where_on b (link plain plain_rest) ts)
  more false ts read plain rest plain_rest e h = refl
  more true ts read None rest plain_rest e h = rw e refl
  more true ts read (Some x) rest plain_rest e h = rw e (rw (h x.1) (behind_part x.0 (plain_rest x.1)))

  first : (a : A) (read : Read (List A)) → part list_of (paired (f a) (part (map f) read)) ≡ part (map f) (part list_of (paired a read))
  first a None = refl
  first a (Some xs) = refl

  all : (read : Read A) (rest : Reader (List B)) (plain_rest : Reader (List A)) → ((us : List Token) → rest us ≡ part (map f) (plain_rest us)) → part list_of (then_read (part f read) rest) ≡ part (map f) (part list_of (then_read read plain_rest))
  all None rest plain_rest h = refl
  all (Some x) rest plain_rest h = rw (h x.1) (first x.0 (plain_rest x.1))

module _ {A B : Type 0} (f : A → B) (sign : Want) (one : Reader A) where
  many_made : (n : ℕ) (ts : List Token) → many sign (made second_of (token sign and made f one)) n ts ≡ part (map f) (many sign (made second_of (token sign and one)) n ts)
  unfolding many
  many_made zero ts = refl
  many_made (suc n) ts =
      more f (begins sign ts) ts (made second_of (token sign and made f one) ts) (made second_of (token sign and one) ts) (many sign (made second_of (token sign and made f one)) n)
      (many sign (made second_of (token sign and one)) n) (behind_token f one (token sign ts)) (many_made n)

  separated_made : (ts : List Token) → separated sign (made f one) ts ≡ part (map f) (separated sign one ts)
  separated_made ts = all f (one ts) (repeated sign (made second_of (token sign and made f one))) (repeated sign (made second_of (token sign and one))) (λ us. many_made (length us) us)

-- ---- rows of operands and of conditions

row_is : {S : Type 0} (head others : S) (sign : Want) (one : Reader (Ranged Tree)) (ts : List Token)
    → made (headed head) (separated sign (made (signed_by others) one)) ts ≡ made (signed_row head others) (separated sign one) ts
row_is head others sign one ts = ap (part (headed head)) (separated_made (signed_by others) sign one ts) ∙ twice (map (signed_by others)) (headed head) (separated sign one ts)

pub quotients_are : (operand : Grammar (Ranged Tree)) (ts : List Token) → reader_of (quotients operand) ts ≡ made (signed_row products.Times products.Over) (separated slash (reader_of (unary operand))) ts
unfolding quotients
quotients_are operand ts = row_is products.Times products.Over slash (reader_of (unary operand)) ts

pub differences_are : (operand : Grammar (Ranged Tree)) (ts : List Token) → reader_of (differences operand) ts ≡ made (signed_row sums.Plus sums.Minus) (separated minus (reader_of (product operand))) ts
unfolding differences
differences_are operand ts = row_is sums.Plus sums.Minus minus (reader_of (product operand)) ts

pub dots_are : (operand : Grammar (Ranged Tree)) (ts : List Token) → reader_of (dots operand) ts ≡ made (chained e.Empty e.Dot) (separated dot (reader_of (sum operand))) ts
unfolding dots
dots_are operand ts = refl

pub conjunction_is : (negation : Grammar (Ranged CondTree)) (ts : List Token) → reader_of (conjunction negation) ts ≡ made (chained no_condition c.And) (separated and_word (reader_of negation)) ts
unfolding conjunction
conjunction_is negation ts = refl

-- ---- operands with their signs, one more at a time

-- the sign behind so many operands
abbrev pub sign_behind : {S T : Type 0} → S → S → List T → S
sign_behind head sign [] = head
sign_behind head sign (r ∷ rs) = sign

pub sign_kept : {S T : Type 0} (head sign : S) (rs : List T) (r : T) → sign_behind head sign (rs ++ r ∷ []) ≡ sign
sign_kept head sign [] r = refl
sign_kept head sign (q ∷ rs) r = refl

module _ {S : Type 0} (head sign : S) where
  abbrev Row : Type 0
  Row = Ranged (List (Signed S Tree))

  same : (a b : List (Signed S Tree)) (p q : Option ℕ) → a ≡ b → p ≡ q → (λ (x : Row). x) (record { tree = a; past = p }) ≡ (λ (x : Row). x) (record { tree = b; past = q })
  same a b p q e f = rw (e, f) refl

  trees : (rs : List (Ranged Tree)) (r : Ranged Tree) → map (λ (x : Ranged (Signed S Tree)). x.tree) (map (signed_by sign) (rs ++ r ∷ [])) ≡ map (λ (x : Ranged (Signed S Tree)). x.tree) (map (signed_by sign) rs) ++ record { sign = sign; operand = r.tree } ∷ []
  trees [] r = refl
  trees (q ∷ rs) r = rw (trees rs r) refl

  pasts : (p : Option ℕ) (rs : List (Ranged Tree)) (r : Ranged Tree) → option_or p (first_past (map (signed_by sign) (rs ++ r ∷ []))) ≡ option_or (option_or p (first_past (map (signed_by sign) rs))) r.past
  unfolding first_past
  pasts p [] r = rw (none_last r.past, none_last p) refl
  pasts p (q ∷ rs) r = rw (pasts q.past rs r) (sym (regroup p (option_or q.past (first_past (map (signed_by sign) rs))) r.past))

  signed_more : (rs : List (Ranged Tree)) (r : Ranged Tree) (now : List (Signed S Tree)) (past : Option ℕ) → (λ (x : Row). x) (record { tree = now; past = past }) ≡ signed_row head sign rs
      → (λ (x : Row). x) (record { tree = now ++ record { sign = sign_behind head sign rs; operand = r.tree } ∷ []; past = option_or past r.past }) ≡ signed_row head sign (rs ++ r ∷ [])
  unfolding first_past
  signed_more [] r now past e =
      let t : now ≡ [] = ap (λ (x : Row). x.tree) e in
      let p : past ≡ None = ap (λ (x : Row). x.past) e in
      same _ _ _ _ (rw t refl) (rw p (sym (none_last r.past)))
  signed_more (q ∷ rs) r now past e =
      let t : now ≡ record { sign = head; operand = q.tree } ∷ map (λ (x : Ranged (Signed S Tree)). x.tree) (map (signed_by sign) rs) = ap (λ (x : Row). x.tree) e in
      let p : past ≡ option_or q.past (first_past (map (signed_by sign) rs)) = ap (λ (x : Row). x.past) e in
      same _ _ _ _ (rw (t, trees rs r) refl) (rw p (sym (pasts q.past rs r)))

  pub signed_on : (rs : List (Ranged Tree)) (r : Ranged Tree) (now after : List (Signed S Tree)) (past behind : Option ℕ) (next : S)
      → after ≡ now ++ record { sign = next; operand = r.tree } ∷ [] → behind ≡ option_or past r.past → next ≡ sign_behind head sign rs → (λ (x : Row). x) (record { tree = now; past = past }) ≡ signed_row head sign rs
      → (λ (x : Row). x) (record { tree = after; past = behind }) ≡ signed_row head sign (rs ++ r ∷ [])
  signed_on rs r now after past behind next e f g h = rw (e, f, g) (signed_more rs r now past h)
