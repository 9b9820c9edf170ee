-- Strings, and numbers with their offsets.
use Rattle.std.proofs.Common.{◌≡◌, ℕ, suc, Bool, true, false, List, [], ◌∷◌, ◌++◌, length, Option, Some, None, refl, sym, ap, subst, arith}
use Rattle.std.specs.Prelude.{if◌then◌else◌, option_map, ◌&&◌, ◌==◌, not, nat_le, nat_eq}
use Rattle.std.proofs.lemmas.Bool.{leb-true, le-leb, eqb-true, eq-eqb, ne_eqb}
use Rattle.std.proofs.lemmas.List.Elements.{All-nil, All-cons, All-head, All-tail}
use Rattle.gp_memory.proofs.Basics.{both, some_is}
use Rattle.gp_tokens.specs.Bytes.{is_string_byte}
use Rattle.gp_values.specs.Texts.{IsCharacter, IsText}
use Rattle.gp_tokens.specs.declared.token.Kind.TheVariants as k
use Rattle.gp_tokens.specs.declared.token.Token.{Token}
use Rattle.gp_tokens.specs.Numbers.{checked_number}
use Rattle.gp_tokens.specs.declared.want.Want.TheVariants as wants
use Rattle.gp_tokens.specs.Shape.{Is, IsNumberAt, IsString}
use Rattle.gp_tokens.specs.Reading.{token, number_at, closed, quoted, IsQuoted, string}
use Rattle.gp_tokens.specs.GrammarLaws.{Sound, Again, Anything, Begins, Shrinks}
use Rattle.gp_tokens.proofs.Shapes.{bind_some, token_sound, token_again, token_begins, token_shrinks}

pub told : (b : ℕ) → is_string_byte b ≡ true → IsCharacter b
told b h =
    let p = both (nat_le 32 b && nat_le b 126) (not (b == 34)) h in
    let q = both (nat_le 32 b) (nat_le b 126) p.0 in
    (leb-true 32 b q.0, leb-true b 126 q.1, λ e. let t : (b == 34) ≡ true = eq-eqb b 34 e in let f : not (b == 34) ≡ false = rw t refl in cc)

tells : (b : ℕ) → IsCharacter b → is_string_byte b ≡ true
tells b c =
    let p : nat_le 32 b ≡ true = le-leb 32 b c.0 in
    let q : nat_le b 126 ≡ true = le-leb b 126 c.1 in
    let r : (b == 34) ≡ false = ne_eqb b 34 c.2 in
    rw (p, q, r) refl

no_text : {A : Type 0} (xs : List A) → nat_eq (length xs) 0 ≡ true → xs ≡ []
no_text [] h = refl
no_text (x ∷ xs) h = let e : suc (length xs) ≡ 0 = eqb-true (suc (length xs)) 0 h in absurd (omega arith)

closed_sound : (t cs : List ℕ) → closed t ≡ Some cs → (t ≡ cs ++ 34 ∷ []) × IsText cs
closed_sound [] cs h = absurd cc
closed_sound (b ∷ t) cs h = by (λ ds h. closed_sound t ds h) (is_string_byte b) refl h
  where
    inner : (ds : List ℕ) → is_string_byte b ≡ true → b ∷ ds ≡ cs → (t ≡ ds ++ 34 ∷ []) × IsText ds → ((b ∷ t) ≡ cs ++ 34 ∷ []) × IsText cs
    inner ds e q r = subst (λ (cs : List ℕ). ((b ∷ t) ≡ cs ++ 34 ∷ []) × IsText cs) q (ap (λ t. b ∷ t) r.0, All-cons IsCharacter b ds (told b e) r.1)

    mid : ((ds : List ℕ) → closed t ≡ Some ds → (t ≡ ds ++ 34 ∷ []) × IsText ds) → (o : Option (List ℕ)) → closed t ≡ o → is_string_byte b ≡ true → option_map (λ cs. b ∷ cs) o ≡ Some cs → ((b ∷ t) ≡ cs ++ 34 ∷ []) × IsText cs
    mid below None f e h = absurd cc
    mid below (Some ds) f e h = inner ds e (some_is (b ∷ ds) cs h) (below ds f)

    last : (c : Bool) → (b == 34 && nat_eq (length t) 0) ≡ c → (if c then Some [] else None) ≡ Some cs → ((b ∷ t) ≡ cs ++ 34 ∷ []) × IsText cs
    last false f h = absurd cc
    last true f h =
        let p = both (b == 34) (nat_eq (length t) 0) f in
        let mark : b ≡ 34 = eqb-true b 34 p.0 in
        let end : t ≡ [] = no_text t p.1 in
        subst (λ (cs : List ℕ). ((b ∷ t) ≡ cs ++ 34 ∷ []) × IsText cs) (some_is [] cs h) ((λ i. mark i ∷ end i), All-nil IsCharacter)

    by : ((ds : List ℕ) → closed t ≡ Some ds → (t ≡ ds ++ 34 ∷ []) × IsText ds) → (a : Bool) → is_string_byte b ≡ a → (if a then option_map (λ cs. b ∷ cs) (closed t) else (if b == 34 && nat_eq (length t) 0 then Some [] else None)) ≡ Some cs → ((b ∷ t) ≡ cs ++ 34 ∷ []) × IsText cs
    by below true e h = mid below (closed t) refl e h
    by below false e h = last (b == 34 && nat_eq (length t) 0) refl h

closed_again : (cs : List ℕ) → IsText cs → closed (cs ++ 34 ∷ []) ≡ Some cs
closed_again [] w = refl
closed_again (b ∷ cs) w =
    let e : is_string_byte b ≡ true = tells b (All-head IsCharacter b cs w) in
    rw (e, closed_again cs (All-tail IsCharacter b cs w)) refl

pub quoted_sound : (t cs : List ℕ) → quoted t ≡ Some cs → (t ≡ 34 ∷ cs ++ 34 ∷ []) × IsText cs
quoted_sound [] cs h = absurd cc
quoted_sound (b ∷ t) cs h = by (b == 34) refl h
  where
    by : (c : Bool) → (b == 34) ≡ c → (if c then closed t else None) ≡ Some cs → ((b ∷ t) ≡ 34 ∷ cs ++ 34 ∷ []) × IsText cs
    by false e h = absurd cc
    by true e h =
        let mark : b ≡ 34 = eqb-true b 34 e in
        let p = closed_sound t cs h in
        ((λ i. mark i ∷ p.0 i), p.1)

pub quoted_again : (t cs : List ℕ) → t ≡ 34 ∷ cs ++ 34 ∷ [] → IsText cs → quoted t ≡ Some cs
quoted_again t cs e w = rw e (closed_again cs w)

pub is_quoted : (o : Option (List ℕ)) (t : List ℕ) → IsQuoted o t → quoted t ≡ o
is_quoted None t h = by (quoted t) refl
  where
    by : (o : Option (List ℕ)) → quoted t ≡ o → quoted t ≡ None
    by None e = e
    by (Some cs) e = let p = quoted_sound t cs e in absurd (h cs p.0 p.1)
is_quoted (Some cs) t h = quoted_again t cs h.0 h.1

-- what is read where the first token is a string
pub string_is : (ts : List Token) (t : Token) (rest : List Token) (text : List ℕ) (o : Option (List ℕ)) → token (wants.Kind k.String) ts ≡ Some (t, rest) → text ≡ t.text → IsQuoted o text
    → string ts ≡ option_map (λ characters. (characters, rest)) o
string_is ts t rest text o h e q = rw (h, sym e, is_quoted o text q) refl

-- ---- the shape, both ways

pub string_sound : Sound string IsString
string_sound ts x h =
    let a = bind_some (token (wants.Kind k.String) ts) (λ x. option_map (λ characters. (characters, x.1)) (quoted x.0.text)) x h in
    go a.0 (token_sound (wants.Kind k.String) ts a.0 a.1) (quoted a.0.0.text) refl a.2
  where
    go : (y : Token × List Token) → Is (wants.Kind k.String) ts y.1 y.0 → (o : Option (List ℕ)) → quoted y.0.text ≡ o → option_map (λ characters. (characters, y.1)) o ≡ Some x → IsString ts x.1 x.0
    go y p None e h = absurd cc
    go y p (Some cs) e h =
        let q = quoted_sound y.0.text cs e in
        subst (λ (z : List ℕ × List Token). IsString ts z.1 z.0) (some_is (cs, y.1) x h) (record { token = y.0; is = p; spelled = q.0; text = q.1 })

pub string_again : Again string IsString Anything
string_again ts rest x p h = rw (token_again (wants.Kind k.String) ts rest p.token p.is tt, quoted_again p.token.text x p.spelled p.text) refl

pub string_begins : Begins (wants.Kind k.String) IsString
string_begins ts rest x p = token_begins (wants.Kind k.String) ts rest p.token p.is

pub string_shrinks : Shrinks IsString
string_shrinks ts rest x p = token_shrinks (wants.Kind k.String) ts rest p.token p.is

-- ---- and numbers with their offsets

pub number_at_sound : Sound number_at IsNumberAt
number_at_sound ts x h =
    let a = bind_some (token (wants.Kind k.Number) ts) (λ x. option_map (λ value. ((value, x.0.start), x.1)) (checked_number x.0.text)) x h in
    go a.0 (token_sound (wants.Kind k.Number) ts a.0 a.1) (checked_number a.0.0.text) refl a.2
  where
    go : (y : Token × List Token) → Is (wants.Kind k.Number) ts y.1 y.0 → (o : Option ℕ) → checked_number y.0.text ≡ o → option_map (λ value. ((value, y.0.start), y.1)) o ≡ Some x → IsNumberAt ts x.1 x.0
    go y p None e h = absurd cc
    go y p (Some value) e h = subst (λ (z : (ℕ × ℕ) × List Token). IsNumberAt ts z.1 z.0) (some_is ((value, y.0.start), y.1) x h) (record { token = y.0; is = p; value_is = e; start_is = refl })

pub number_at_again : Again number_at IsNumberAt Anything
number_at_again ts rest x p h = rw (token_again (wants.Kind k.Number) ts rest p.token p.is tt, p.value_is, p.start_is) refl

pub number_at_begins : Begins (wants.Kind k.Number) IsNumberAt
number_at_begins ts rest x p = token_begins (wants.Kind k.Number) ts rest p.token p.is

pub number_at_shrinks : Shrinks IsNumberAt
number_at_shrinks ts rest x p = token_shrinks (wants.Kind k.Number) ts rest p.token p.is
