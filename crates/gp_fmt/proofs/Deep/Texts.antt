-- Tokens of a text that have a shape, beside others that are nowhere nested deeper.
use Rattle.std.proofs.Common.{◌≡◌, ℕ, suc, Bool, true, false, List, [], ◌∷◌, ◌++◌, map, All, refl, sym, ◌∙◌, ap, subst, append_assoc, append-nil}
use Rattle.std.specs.Prelude.{flat_map}
use Rattle.std.proofs.lemmas.List.Elements.{All-head, All-rest}
use Rattle.gp_tokens.specs.declared.token.Kind.{Kind}
use Rattle.gp_tokens.specs.declared.token.Kind.TheVariants as k
use Rattle.gp_tokens.specs.declared.token.Token.{Token}
use Rattle.gp_tokens.specs.declared.want.Want.{Want}
use Rattle.gp_tokens.specs.declared.want.Want.TheVariants as wants
use Rattle.gp_tokens.specs.Fits.{AllExcluded}
use Rattle.gp_tokens.specs.Grammar.{shape_of}
use Rattle.gp_tokens.proofs.Wants.{kind_same}
use Rattle.gp_tokens.specs.Shape.{Shape, Is, ◌then◌, Made, Either, one, other, Absent, absent, Many, none, more, Separated, second_of}
use Rattle.gp_tokens.specs.SignWants.{minus, any_word}
use Rattle.gp_expressions.specs.Signs.{not_word}
use Rattle.gp_expressions.specs.Expressions.{name}
use Rattle.gp_program.specs.declared.depth.Role.{Role}
use Rattle.gp_program.specs.declared.depth.Role.TheVariants as role
use Rattle.gp_program.specs.Depth.{role_of, role_by}
use Rattle.gp_fmt.specs.inside.Spelled.{IsSpelledToken}
use Rattle.gp_fmt.proofs.Deep.Under.{IsUnder, none_under, both_under, loud_under, other_under, minus_under, not_under, opening_under, closing_under, raised, dropped, dropped_last, unwrapped}
use Rattle.gp_fmt.proofs.Deep.Roles.{loud, other_role, sign_role, not_role, name_role, is_name, name_is, IsPlainOrNot, plain, is_not, word_role}

pub record AreSpelled (ts : List Token) : Type 0 where
  pub spelled : All IsSpelledToken ts

-- The tokens up to the rest are somewhere nested as deep as tokens of these roles, or deeper: from a open signs to b.
pub record IsDeeper (q : Bool) (a b : ℕ) (ps : List Role) (ts rest : List Token) : Type 0 where
  pub segment : List Role
  pub split : map role_of ts ≡ segment ++ map role_of rest
  pub left : AreSpelled rest
  pub under : IsUnder q a b ps segment

pub none_deeper : (a : ℕ) (ts : List Token) → AreSpelled ts → IsDeeper false a a [] ts ts
none_deeper a ts s = record { segment = []; split = refl; left = s; under = none_under a }

pub then_deeper : {q r : Bool} {a b c : ℕ} {ps qs : List Role} {ts mid rest : List Token} → IsDeeper q a b ps ts mid → IsDeeper r b c qs mid rest → IsDeeper r a c (ps ++ qs) ts rest
then_deeper {q} {r} {a} {b} {c} {ps} {qs} {ts} {mid} {rest} d e = record {
  segment = d.segment ++ e.segment;
  split = d.split ∙ ap (λ l. d.segment ++ l) e.split ∙ sym (append_assoc d.segment e.segment (map role_of rest));
  left = e.left;
  under = both_under q r a b c ps qs d.segment e.segment d.under e.under;
}

pub loud_deeper : {q : Bool} {a b : ℕ} {ps : List Role} {ts rest : List Token} → IsDeeper q a b ps ts rest → IsDeeper false a b ps ts rest
loud_deeper d = record { segment = d.segment; split = d.split; left = d.left; under = loud_under _ _ _ _ _ d.under }

pub raised_deeper : {q : Bool} {ps : List Role} {ts rest : List Token} (a : ℕ) → IsDeeper q 0 0 ps ts rest → IsDeeper q a a ps ts rest
raised_deeper a d = record { segment = d.segment; split = d.split; left = d.left; under = raised _ a _ _ d.under }

pub recast : {q : Bool} {a b : ℕ} {ps qs : List Role} {ts rest : List Token} → ps ≡ qs → IsDeeper q a b ps ts rest → IsDeeper q a b qs ts rest
recast {q} {a} {b} {ps} {qs} {ts} {rest} e d = subst (λ l. IsDeeper q a b l ts rest) e d

-- what stands behind it is dropped
pub dropped_deeper : {q : Bool} {a b : ℕ} {ps qs : List Role} {ts mid rest : List Token} → IsDeeper true a b ps ts mid → IsDeeper q 0 0 qs mid rest → IsDeeper true a b ps ts rest
dropped_deeper {q} {a} {b} {ps} {qs} {ts} {mid} {rest} d e = record {
  segment = d.segment ++ e.segment;
  split = d.split ∙ ap (λ l. d.segment ++ l) e.split ∙ sym (append_assoc d.segment e.segment (map role_of rest));
  left = e.left;
  under = dropped q a b ps d.segment qs e.segment d.under e.under;
}

-- ---- brackets

abbrev pub wrap : List Role → List Role
wrap ps = role.Opening ∷ ps ++ role.Closing ∷ []

-- brackets around both
pub wrapped_deeper : {q : Bool} {ps : List Role} {ts inner last rest : List Token} → IsDeeper true 0 1 (role.Opening ∷ []) ts inner → IsDeeper q 0 0 ps inner last → IsDeeper true 1 0 (role.Closing ∷ []) last rest
    → IsDeeper true 0 0 (wrap ps) ts rest
wrapped_deeper o d c = then_deeper o (then_deeper (raised_deeper 1 d) c)

-- ---- shapes

-- What has the shape is nested as deep as tokens of the roles that its tree tells.
pub record Covers {A : Type 0} (q : Bool) (a b : ℕ) (R : Shape A) (v : A → List Role) : Type 0 where
  pub covers : (ts rest : List Token) (x : A) → AreSpelled ts → R ts rest x → IsDeeper q a b (v x) ts rest

token_left : (w : Want) (ts rest : List Token) (t : Token) → AreSpelled ts → Is w ts rest t → AreSpelled rest
token_left w ts rest t s h = record { spelled = All-rest IsSpelledToken t rest ts h.front s.spelled }

token_spelled : (w : Want) (ts rest : List Token) (t : Token) → AreSpelled ts → Is w ts rest t → IsSpelledToken t
token_spelled w ts rest t s h = All-head IsSpelledToken t rest (subst (All IsSpelledToken) h.front s.spelled)

token_deeper : (q : Bool) (a b : ℕ) (r : Role) (w : Want) (ts rest : List Token) (t : Token) → AreSpelled ts → Is w ts rest t → role_of t ≡ r → IsUnder q a b (r ∷ []) (r ∷ []) → IsDeeper q a b (r ∷ []) ts rest
token_deeper q a b r w ts rest t s h e u = record { segment = r ∷ []; split = ap (map role_of) h.front ∙ ap (λ x. x ∷ map role_of rest) e; left = token_left w ts rest t s h; under = u }

pub other_covers : (w : Want) (a : ℕ) → AllExcluded w loud → Covers true a a (Is w) (λ t. role.Other ∷ [])
other_covers w a e = record { covers = λ ts rest t s h. token_deeper true a a role.Other w ts rest t s h (other_role w t e h.is) (other_under a) }

pub opening_covers : (kind : Kind) (a : ℕ) → ((n : Bool) → role_by kind n ≡ role.Opening) → Covers true a (suc a) (Is (wants.Kind kind)) (λ t. role.Opening ∷ [])
opening_covers kind a e = record { covers = λ ts rest t s h. token_deeper true a (suc a) role.Opening (wants.Kind kind) ts rest t s h (sign_role kind role.Opening t e h.is) (opening_under a) }

pub closing_covers : (kind : Kind) (a : ℕ) → ((n : Bool) → role_by kind n ≡ role.Closing) → Covers true (suc a) a (Is (wants.Kind kind)) (λ t. role.Closing ∷ [])
closing_covers kind a e = record { covers = λ ts rest t s h. token_deeper true (suc a) a role.Closing (wants.Kind kind) ts rest t s h (sign_role kind role.Closing t e h.is) (closing_under a) }

pub minus_covers : Covers false 0 0 (Is minus) (λ t. role.Minus ∷ [])
minus_covers = record { covers = λ ts rest t s h. token_deeper false 0 0 role.Minus minus ts rest t s h (sign_role _ role.Minus t (λ n. refl) h.is) (minus_under 0) }

pub not_covers : Covers false 0 0 (Is not_word) (λ t. role.Not ∷ [])
not_covers = record { covers = λ ts rest t s h. token_deeper false 0 0 role.Not not_word ts rest t s h (not_role t h.is) (not_under 0) }

named_under : (q : Bool) (a : ℕ) (r s : Role) → r ≡ s → IsUnder q a a (r ∷ []) (r ∷ []) → IsUnder q a a (s ∷ []) (s ∷ [])
named_under q a r s e u = subst (λ x. IsUnder q a a (x ∷ []) (x ∷ [])) e u

pub name_covers : (w : Want) (a : ℕ) → is_name w ≡ true → AllExcluded w loud → Covers true a a (shape_of (name w)) (λ n. name_role n ∷ [])
unfolding name
name_covers w a n e = record { covers = λ ts rest x s h. go ts rest x s h.of h.shape h.made }
  where
    go : (ts rest : List Token) (x : List ℕ) → AreSpelled ts → (t : Token) → Is w ts rest t → x ≡ t.text → IsDeeper true a a (name_role x ∷ []) ts rest
    go ts rest x s t h m =
        let named : role_of t ≡ name_role x = name_is w t n (token_spelled w ts rest t s h) h.is ∙ ap name_role (sym m) in
        token_deeper true a a (name_role x) w ts rest t s h named (named_under true a role.Other (name_role x) (sym (other_role w t e h.is) ∙ named) (other_under a))

-- a mark may be the word `not`
pub word_covers : Covers false 0 0 (shape_of (name any_word)) (λ n. name_role n ∷ [])
unfolding name
word_covers = record { covers = λ ts rest x s h. go ts rest x s h.of h.shape h.made }
  where
    under : (r s : Role) → r ≡ s → IsPlainOrNot r → IsUnder false 0 0 (s ∷ []) (s ∷ [])
    under r s e (plain h) = named_under false 0 role.Other s (sym h ∙ e) (loud_under true 0 0 (role.Other ∷ []) (role.Other ∷ []) (other_under 0))
    under r s e (is_not h) = named_under false 0 role.Not s (sym h ∙ e) (not_under 0)

    go : (ts rest : List Token) (x : List ℕ) → AreSpelled ts → (t : Token) → Is any_word ts rest t → x ≡ t.text → IsDeeper false 0 0 (name_role x ∷ []) ts rest
    go ts rest x s t h m =
        let named : role_of t ≡ name_role x = name_is any_word t (kind_same k.Word) (token_spelled any_word ts rest t s h) h.is ∙ ap name_role (sym m) in
        token_deeper false 0 0 (name_role x) any_word ts rest t s h named (under (role_of t) (name_role x) named (word_role t h.is))

pub then_covers : {A B : Type 0} {q r : Bool} {a b c : ℕ} {R : Shape A} {S : Shape B} {v : A → List Role} {w : B → List Role} → Covers q a b R v → Covers r b c S w → Covers r a c (R then S) (λ x. v x.0 ++ w x.1)
then_covers {A} {B} {q} {r} {a} {b} {c} {R} {S} {v} {w} g h = record { covers = λ ts rest x s d. go ts rest x s d.mid d.first d.second }
  where
    go : (ts rest : List Token) (x : A × B) → AreSpelled ts → (mid : List Token) → R ts mid x.0 → S mid rest x.1 → IsDeeper r a c (v x.0 ++ w x.1) ts rest
    go ts rest x s mid d e = let f = g.covers ts mid x.0 s d in then_deeper f (h.covers mid rest x.1 f.left e)

pub made_covers : {A B : Type 0} {q : Bool} {a b : ℕ} {R : Shape A} {v : A → List Role} (f : A → B) (w : B → List Role) → ((x : A) → v x ≡ w (f x)) → Covers q a b R v → Covers q a b (Made f R) w
made_covers f w e g = record { covers = λ ts rest y s d. recast (e d.of ∙ ap w (sym d.made)) (g.covers ts rest d.of s d.shape) }

pub seen_covers : {A : Type 0} {q : Bool} {a b : ℕ} {R : Shape A} {v : A → List Role} (w : A → List Role) → ((x : A) → v x ≡ w x) → Covers q a b R v → Covers q a b R w
seen_covers w e g = record { covers = λ ts rest x s d. recast (e x) (g.covers ts rest x s d) }

pub either_covers : {A : Type 0} {q : Bool} {a b : ℕ} {R S : Shape A} {v : A → List Role} → Covers q a b R v → Covers q a b S v → Covers q a b (Either R S) v
either_covers {A} {q} {a} {b} {R} {S} {v} g h = record { covers = go }
  where
    go : (ts rest : List Token) (x : A) → AreSpelled ts → Either R S ts rest x → IsDeeper q a b (v x) ts rest
    go ts rest x s (one d) = g.covers ts rest x s d
    go ts rest x s (other d) = h.covers ts rest x s d

pub absent_covers : {A : Type 0} (a : ℕ) (y : A) (v : A → List Role) → [] ≡ v y → Covers false a a (Absent y) v
absent_covers {A} a y v e = record { covers = go }
  where
    go : (ts rest : List Token) (x : A) → AreSpelled ts → Absent y ts rest x → IsDeeper false a a (v x) ts rest
    go ts _ _ s absent = recast e (none_deeper a ts s)

pub loud_covers : {A : Type 0} {q : Bool} {a b : ℕ} {R : Shape A} {v : A → List Role} → Covers q a b R v → Covers false a b R v
loud_covers g = record { covers = λ ts rest x s d. loud_deeper (g.covers ts rest x s d) }

pub raised_covers : {A : Type 0} {q : Bool} {R : Shape A} {v : A → List Role} (a : ℕ) → Covers q 0 0 R v → Covers q a a R v
raised_covers a g = record { covers = λ ts rest x s d. raised_deeper a (g.covers ts rest x s d) }

-- ---- what closes all that it opens, whatever its tree

pub record IsClosed (ts rest : List Token) : Type 0 where
  pub of_roles : List Role
  pub deeper : IsDeeper false 0 0 of_roles ts rest

pub record Closes {A : Type 0} (R : Shape A) : Type 0 where
  pub closes : (ts rest : List Token) (x : A) → AreSpelled ts → R ts rest x → IsClosed ts rest

pub covers_close : {A : Type 0} {q : Bool} {R : Shape A} {v : A → List Role} → Covers q 0 0 R v → Closes R
covers_close {v = v} g = record { closes = λ ts rest x s d. record { of_roles = v x; deeper = loud_deeper (g.covers ts rest x s d) } }

pub then_close : {A B : Type 0} {R : Shape A} {S : Shape B} → Closes R → Closes S → Closes (R then S)
then_close g h = record {
  closes = λ ts rest x s d.
      let e = g.closes ts d.mid x.0 s d.first in
      let f = h.closes d.mid rest x.1 e.deeper.left d.second in
      record { of_roles = e.of_roles ++ f.of_roles; deeper = then_deeper e.deeper f.deeper };
}

pub made_close : {A B : Type 0} {R : Shape A} (f : A → B) → Closes R → Closes (Made f R)
made_close f g = record { closes = λ ts rest y s d. g.closes ts rest d.of s d.shape }

pub either_close : {A : Type 0} {R S : Shape A} → Closes R → Closes S → Closes (Either R S)
either_close {A} {R} {S} g h = record { closes = go }
  where
    go : (ts rest : List Token) (x : A) → AreSpelled ts → Either R S ts rest x → IsClosed ts rest
    go ts rest x s (one d) = g.closes ts rest x s d
    go ts rest x s (other d) = h.closes ts rest x s d

pub absent_close : {A : Type 0} (y : A) → Closes (Absent y)
absent_close y = covers_close (absent_covers 0 y (λ x. []) refl)

-- before a closing sign it is dropped
pub dropped_covers : {A : Type 0} {R : Shape A} (kind : Kind) (a : ℕ) → ((n : Bool) → role_by kind n ≡ role.Closing) → Closes R → Covers true (suc a) a (R then Is (wants.Kind kind)) (λ x. role.Closing ∷ [])
dropped_covers {A} {R} kind a e g = record { covers = λ ts rest x s d. go ts rest x.1 d.mid (g.closes ts d.mid x.0 s d.first).deeper d.second }
  where
    go : {ps : List Role} (ts rest : List Token) (t : Token) (mid : List Token) → IsDeeper false 0 0 ps ts mid → Is (wants.Kind kind) mid rest t → IsDeeper true (suc a) a (role.Closing ∷ []) ts rest
    go {ps} ts rest t mid d h = record {
      segment = d.segment ++ role.Closing ∷ [];
      split = d.split ∙ ap (λ l. d.segment ++ l) (ap (map role_of) h.front ∙ ap (λ x. x ∷ map role_of rest) (sign_role kind role.Closing t e h.is)) ∙ sym (append_assoc d.segment (role.Closing ∷ []) (map role_of rest));
      left = token_left (wants.Kind kind) mid rest t d.left h;
      under = dropped_last false a ps d.segment d.under;
    }

-- ---- any number of times

pub many_covers : {A : Type 0} {q : Bool} {R : Shape A} {v : A → List Role} → Covers q 0 0 R v → Covers false 0 0 (Many R) (flat_map v)
many_covers {A} {q} {R} {v} g = record { covers = go }
  where
    go : (ts rest : List Token) (xs : List A) → AreSpelled ts → Many R ts rest xs → IsDeeper false 0 0 (flat_map v xs) ts rest
    go ts _ _ s none = none_deeper 0 ts s
    go ts rest _ s (more {mid = mid} {x = x} {xs = xs} d ds) = let f = g.covers ts mid x s d in then_deeper f (go mid rest xs f.left ds)

-- behind what ends in no run
pub many_behind : {A : Type 0} {R : Shape A} {v : A → List Role} {ps : List Role} {ts mid rest : List Token} {xs : List A} → Covers true 0 0 R v → IsDeeper true 0 0 ps ts mid → Many R mid rest xs → IsDeeper true 0 0 (ps ++ flat_map v xs) ts rest
many_behind {A} {R} {v} {ps} {ts} {mid} {rest} {xs} g f ds = go ps mid rest xs f ds
  where
    go : (ps : List Role) (mid rest : List Token) (xs : List A) → IsDeeper true 0 0 ps ts mid → Many R mid rest xs → IsDeeper true 0 0 (ps ++ flat_map v xs) ts rest
    go ps mid _ _ f none = recast (sym (append-nil ps)) f
    go ps mid rest _ f (more {mid = next} {x = x} {xs = xs} d ds) = recast (append_assoc ps (v x) (flat_map v xs)) (go (ps ++ v x) next rest xs (then_deeper f (g.covers mid next x f.left d)) ds)

-- with a sign between
abbrev pub separated : {A : Type 0} → Role → (A → List Role) → List A → List Role
separated r v [] = []
separated r v (x ∷ xs) = v x ++ flat_map (λ y. r ∷ v y) xs

pub sign_covers : {A : Type 0} {q : Bool} {S : Shape A} {v : A → List Role} (w : Want) → AllExcluded w loud → Covers q 0 0 S v → Covers q 0 0 (Made second_of (Is w then S)) (λ y. role.Other ∷ v y)
sign_covers {v = v} w e g = made_covers second_of (λ y. role.Other ∷ v y) (λ x. refl) (then_covers (other_covers w 0 e) g)

pub separated_covers : {A : Type 0} {R : Shape A} {v : A → List Role} (w : Want) → AllExcluded w loud → Covers true 0 0 R v → Covers true 0 0 (Separated w R) (separated role.Other v)
separated_covers {A} {R} {v} w e g = record { covers = λ ts rest xs s d. recast (ap (separated role.Other v) (sym d.made)) (go ts rest d.of.0 d.of.1 s d.shape.mid d.shape.first d.shape.second) }
  where
    go : (ts rest : List Token) (x : A) (xs : List A) → AreSpelled ts → (mid : List Token) → R ts mid x → Many (Made second_of (Is w then R)) mid rest xs → IsDeeper true 0 0 (separated role.Other v (x ∷ xs)) ts rest
    go ts rest x xs s mid d ds = many_behind (sign_covers w e g) (g.covers ts mid x s d) ds

-- ---- tokens one by one

pub record IsSign (r : Role) (ts rest : List Token) : Type 0 where
  pub token : Token
  pub front : ts ≡ token ∷ rest
  pub is_role : role_of token ≡ r

pub minus_sign : {ts rest : List Token} {t : Token} → Is minus ts rest t → IsSign role.Minus ts rest
minus_sign {t = t} h = record { token = t; front = h.front; is_role = sign_role _ role.Minus t (λ n. refl) h.is }

pub other_sign : (w : Want) {ts rest : List Token} {t : Token} → AllExcluded w loud → Is w ts rest t → IsSign role.Other ts rest
other_sign w {t = t} e h = record { token = t; front = h.front; is_role = other_role w t e h.is }

pub kind_sign : (kind : Kind) (r : Role) {ts rest : List Token} {t : Token} → ((n : Bool) → role_by kind n ≡ r) → Is (wants.Kind kind) ts rest t → IsSign r ts rest
kind_sign kind r {t = t} e h = record { token = t; front = h.front; is_role = sign_role kind r t e h.is }

sign_left : {r : Role} {ts rest : List Token} → AreSpelled ts → IsSign r ts rest → AreSpelled rest
sign_left {ts = ts} {rest = rest} s h = record { spelled = All-rest IsSpelledToken h.token rest ts h.front s.spelled }

sign_split : {r : Role} {ts rest : List Token} → IsSign r ts rest → map role_of ts ≡ r ∷ map role_of rest
sign_split {rest = rest} h = ap (map role_of) h.front ∙ ap (λ x. x ∷ map role_of rest) h.is_role

pub two_deeper : {ps : List Role} {r r' : Role} {ts mid rest : List Token} → AreSpelled ts → IsSign r ts mid → IsSign r' mid rest → IsUnder true 0 0 ps (r ∷ r' ∷ []) → IsDeeper true 0 0 ps ts rest
two_deeper {r = r} {r' = r'} s g h u = record { segment = r ∷ r' ∷ []; split = sign_split g ∙ ap (λ l. r ∷ l) (sign_split h); left = sign_left (sign_left s g) h; under = u }

pub three_deeper : {ps : List Role} {r r' r'' : Role} {ts mid next rest : List Token} → AreSpelled ts → IsSign r ts mid → IsSign r' mid next → IsSign r'' next rest → IsUnder true 0 0 ps (r ∷ r' ∷ r'' ∷ [])
    → IsDeeper true 0 0 ps ts rest
three_deeper {r = r} {r' = r'} {r'' = r''} s f g h u = record {
  segment = r ∷ r' ∷ r'' ∷ [];
  split = sign_split f ∙ ap (λ l. r ∷ l) (sign_split g) ∙ ap (λ l. r ∷ r' ∷ l) (sign_split h);
  left = sign_left (sign_left (sign_left s f) g) h;
  under = u;
}

-- brackets around it
pub unwrapped_deeper : {ps : List Role} {ts inner last rest : List Token} → IsSign role.Opening ts inner → IsDeeper true 0 0 ps inner last → IsSign role.Closing last rest → IsDeeper true 0 0 ps ts rest
unwrapped_deeper {ps} {ts} {inner} {last} {rest} o d c = record {
  segment = wrap d.segment;
  split = sign_split o ∙ ap (λ l. role.Opening ∷ l) (d.split ∙ ap (λ l. d.segment ++ l) (sign_split c) ∙ sym (append_assoc d.segment (role.Closing ∷ []) (map role_of rest)));
  left = sign_left d.left c;
  under = unwrapped ps d.segment d.under;
}
