-- No token meets two wants of which one excludes the other.
use Rattle.std.proofs.Common.{◌≡◌, ℕ, Bool, true, false, not, List, refl, sym, ◌∙◌, rules, arith}
use Rattle.std.specs.Prelude.{◌&&◌, ◌||◌, slice_index, nat_le}
use Rattle.std.proofs.lemmas.Bool.{leb-true}
use Rattle.std.specs.Char.{is_ascii_uppercase, is_ascii_lowercase}
use Rattle.std.specs.Str.{bytes_eq}
use Rattle.std.proofs.lemmas.Slice.Eq.{bytes_eq-Decides}
use Rattle.gp_memory.proofs.Basics.{both}
use denote.Enum.Bare.{same_true, true_same}
use Rattle.gp_tokens.specs.contracts.token.Kind.{the_type}
use Rattle.gp_tokens.specs.declared.token.Kind.{Kind}
use Rattle.gp_tokens.specs.declared.token.Kind.TheVariants as k
use Rattle.gp_tokens.specs.declared.token.Token.{Token}
use Rattle.gp_tokens.specs.Kinds.{same_kind}
use Rattle.gp_tokens.specs.Words.{keyword_text, is_free_word, is_reserved}
use Rattle.gp_tokens.specs.declared.want.Want.{Want}
use Rattle.gp_tokens.specs.declared.want.Want.TheVariants as want
use Rattle.gp_tokens.specs.Wants.{meets, may_be, word_token, rules_out, excludes}

pub kind_true : (a b : Kind) → same_kind a b ≡ true → a ≡ b
unfolding same_kind
kind_true a b h = same_true the_type (search rules) a b h

pub kind_same : (a : Kind) → same_kind a a ≡ true
unfolding same_kind
kind_same a = true_same the_type a a refl

false_by : (b : Bool) → (b ≡ true → ⊥) → b ≡ false
false_by true h = absurd (h refl)
false_by false h = refl

-- a token that meets a want has a kind that may
may_be_is : (other : Want) (t : Token) → meets other t ≡ true → may_be other t.kind ≡ true
unfolding meets
may_be_is (want.Kind a) t m = m
may_be_is (want.Keyword word) t m = (both _ _ m).0
may_be_is want.Item t m = item (same_kind t.kind k.Number) (same_kind t.kind k.Word) (not (is_reserved t.text)) m
  where
    item : (a b c : Bool) → (a || (b && c)) ≡ true → (a || b) ≡ true
    item true b c h = refl
    item false true c h = refl
    item false false c h = absurd cc
may_be_is want.RuleName t m = (both _ _ (both (is_free_word t) (is_ascii_lowercase (slice_index t.text 0)) m).0).0
may_be_is want.Variable t m = (both _ _ (both (is_free_word t) _ m).0).0
may_be_is want.ProcedureName t m = (both _ _ m).0

-- what a token meets follows from its kind and its text
same_meets : (other : Want) (t : Token) (text : List ℕ) → t.kind ≡ k.Word → t.text ≡ text → meets other t ≡ meets other (word_token text)
unfolding meets
same_meets (want.Kind a) t text p q = rw p refl
same_meets (want.Keyword word) t text p q = rw (p, q) refl
same_meets want.Item t text p q = rw (p, q) refl
same_meets want.RuleName t text p q = rw (p, q) refl
same_meets want.Variable t text p q = rw (p, q) refl
same_meets want.ProcedureName t text p q = rw (p, q) refl

not_true : (b : Bool) → not b ≡ true → b ≡ true → ⊥
not_true true h e = cc
not_true false h e = cc

cases_apart : (c : ℕ) → is_ascii_uppercase c ≡ true → is_ascii_lowercase c ≡ true → ⊥
cases_apart c a b =
    let low = leb-true c 90 (both (nat_le 65 c) (nat_le c 90) a).1 in
    let high = leb-true 97 c (both (nat_le 97 c) (nat_le c 122) b).0 in
    omega arith

told : (a b : Want) (t : Token) → rules_out a b ≡ true → meets a t ≡ true → meets b t ≡ true → ⊥
unfolding meets
told (want.Kind kind) b t h m n =
    let e : t.kind ≡ kind = kind_true t.kind kind m in
    not_true (may_be b kind) h (rw e at (may_be_is b t n))
told (want.Keyword word) b t h m n =
    let p = both (same_kind t.kind k.Word) (bytes_eq t.text (keyword_text word)) m in
    let kind : t.kind ≡ k.Word = kind_true t.kind k.Word p.0 in
    let text : t.text ≡ keyword_text word = (bytes_eq-Decides t.text (keyword_text word)).0 p.1 in
    not_true (meets b (word_token (keyword_text word))) h (sym (same_meets b t (keyword_text word) kind text) ∙ n)
told want.Item b t h m n = cc
told want.RuleName b t h m n = cc
told want.Variable b t h m n = cc
told want.ProcedureName (want.Kind a) t h m n = cc
told want.ProcedureName (want.Keyword word) t h m n = cc
told want.ProcedureName want.Item t h m n = cc
told want.ProcedureName want.RuleName t h m n = cases_apart (slice_index t.text 0) (both (same_kind t.kind k.Word) _ m).1 (both (is_free_word t) _ n).1
told want.ProcedureName want.Variable t h m n = cc
told want.ProcedureName want.ProcedureName t h m n = cc

pub excluded : (a b : Want) (t : Token) → excludes a b ≡ true → meets a t ≡ true → meets b t ≡ false
unfolding excludes
excluded a b t h m = false_by (meets b t) (λ n. go (rules_out a b) refl h n)
  where
    go : (c : Bool) → rules_out a b ≡ c → (c || rules_out b a) ≡ true → meets b t ≡ true → ⊥
    go true e h n = told a b t e m n
    go false e h n = told b a t h n m
