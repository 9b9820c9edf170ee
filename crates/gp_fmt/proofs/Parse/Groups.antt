-- A sum or a product is read again: between two of the outer sign the operands have the inner one before them.
use Rattle.std.proofs.Common.{◌≡◌, ◌⊎◌, inl, inr, ℕ, true, List, [], ◌∷◌, ◌++◌, map, flat_map, None, refl, sym, ap, subst}
use Rattle.std.specs.List.{AllByRecursion}
use Rattle.gp_tokens.specs.declared.token.Token.{Token}
use Rattle.gp_tokens.specs.declared.want.Want.{Want}
use Rattle.gp_tokens.specs.Wants.{meets}
use Rattle.gp_tokens.specs.Shape.{Shape, Is, ◌then◌, Made, Many, none, more, Separated, second_of}
use Rattle.gp_syntax.specs.declared.expression.Signed.{Signed}
use Rattle.gp_expressions.specs.declared.ranged.Ranged.{Ranged}
use Rattle.gp_expressions.specs.Ranges.{whole, with, first_past, joined, all_joined}
use Rattle.gp_expressions.specs.Expressions.{Tree, signed_by, headed}
use Rattle.gp_fmt.specs.declared.piece.Piece.{Piece}
use Rattle.gp_fmt.proofs.Parse.Printed.{token_at, Printed, done, next, split, Reads, made_reads}
use Rattle.gp_fmt.proofs.Parse.Ranges.{gathered_whole}
use Rattle.gp_fmt.proofs.Parse.Chains.{behind_sign}

module _ {S : Type 0} (outer inner : S) (outer_want inner_want : Want) (R : Shape (Ranged Tree)) (sign : S → Piece) (f : Tree → List Piece)
    (outer_met : (start : ℕ) → meets outer_want (token_at (sign outer) start) ≡ true) (inner_met : (start : ℕ) → meets inner_want (token_at (sign inner) start) ≡ true) where
  abbrev pub Inner : Shape (Ranged (Signed S Tree))
  Inner = Made second_of (Is inner_want then Made (signed_by inner) R)

  abbrev pub Group : Shape (Ranged (List (Signed S Tree)))
  Group = Made (headed outer) (Separated inner_want (Made (signed_by inner) R))

  abbrev pub Outer : Shape (Ranged (List (Signed S Tree)))
  Outer = Made second_of (Is outer_want then Group)

  abbrev pub signed : S → Tree → Signed S Tree
  signed s e = record { sign = s; operand = e }

  -- further operands: those of the group that is begun, and the further groups
  pub record Behind (ys : List (Signed S Tree)) (ts rest : List Token) : Type 0 where
    pub mid : List Token
    pub inners : List (Signed S Tree)
    pub groups : List (Ranged (List (Signed S Tree)))
    pub near : Many Inner ts mid (map whole inners)
    pub far : Many Outer mid rest groups
    pub same : inners ++ joined (map (λ (r : Ranged (List (Signed S Tree))). r.tree) groups) ≡ ys
    pub in_range : first_past groups ≡ None

  begun : (e : Tree) (ts mid rest : List Token) (inners : List (Signed S Tree)) → R ts mid (whole e) → Many Inner mid rest (map whole inners) → Group ts rest (whole (signed outer e ∷ inners))
  begun e ts mid rest inners h m =
      subst (Group ts rest) (gathered_whole (signed outer e ∷ inners)) (record {
        of = signed_by inner (whole e) ∷ map whole inners;
        shape = record { of = (signed_by inner (whole e), map whole inners); shape = record { mid = mid; first = record { of = whole e; shape = h; made = refl }; second = m }; made = refl };
        made = refl;
      })

  outer_more : (e : Tree) (ys : List (Signed S Tree)) (ts mid rest : List Token) → Reads (f e) R (whole e) → Printed (sign outer ∷ f e) ts mid → Behind ys mid rest → Behind (signed outer e ∷ ys) ts rest
  unfolding joined first_past
  outer_more e ys _ mid rest h (next {ts = ts} _ start p) b = record {
    mid = token_at (sign outer) start ∷ ts;
    inners = [];
    groups = whole (signed outer e ∷ b.inners) ∷ b.groups;
    near = none;
    far = more (record {
      of = (token_at (sign outer) start, whole (signed outer e ∷ b.inners));
      shape = record { mid = ts; first = record { front = refl; is = outer_met start }; second = begun e ts mid b.mid b.inners (h ts mid p) b.near };
      made = refl;
    }) b.far;
    same = ap (λ l. signed outer e ∷ l) b.same;
    in_range = b.in_range;
  }

  inner_more : (e : Tree) (ys : List (Signed S Tree)) (ts mid rest : List Token) → Reads (f e) R (whole e) → Printed (sign inner ∷ f e) ts mid → Behind ys mid rest → Behind (signed inner e ∷ ys) ts rest
  inner_more e ys ts mid rest h p b = record {
    mid = b.mid;
    inners = signed inner e ∷ b.inners;
    groups = b.groups;
    near = more (behind_sign (sign inner) inner_want inner_met (Made (signed_by inner) R) f (λ e. whole (signed inner e)) e (made_reads (f e) (signed_by inner) R (whole e) h) ts mid p) b.near;
    far = b.far;
    same = ap (λ l. signed inner e ∷ l) b.same;
    in_range = b.in_range;
  }

  pub further : ((s : S) → (s ≡ outer) ⊎ (s ≡ inner)) → (ys : List (Signed S Tree)) → AllByRecursion (λ (y : Signed S Tree). Reads (f y.operand) R (whole y.operand)) ys
      → (ts rest : List Token) → Printed (flat_map (λ (y : Signed S Tree). sign y.sign ∷ f y.operand) ys) ts rest → Behind ys ts rest
  unfolding joined first_past
  further two [] hs ts _ done = record { mid = ts; inners = []; groups = []; near = none; far = none; same = refl; in_range = refl }
  further two (y ∷ ys) hs ts rest p = go y.sign (two y.sign) s.1 (further two ys hs.1 s.0 rest s.2)
    where
      s : (mid : List Token) × Printed (sign y.sign ∷ f y.operand) ts mid × Printed (flat_map (λ (y : Signed S Tree). sign y.sign ∷ f y.operand) ys) mid rest
      s = split (sign y.sign ∷ f y.operand) (flat_map (λ (y : Signed S Tree). sign y.sign ∷ f y.operand) ys) ts rest p

      go : (t : S) → (t ≡ outer) ⊎ (t ≡ inner) → Printed (sign t ∷ f y.operand) ts s.0 → Behind ys s.0 rest → Behind (signed t y.operand ∷ ys) ts rest
      go t (inl e) q b = subst (λ (t : S). Behind (signed t y.operand ∷ ys) ts rest) (sym e) (outer_more y.operand ys ts s.0 rest hs.0 (subst (λ (t : S). Printed (sign t ∷ f y.operand) ts s.0) e q) b)
      go t (inr e) q b = subst (λ (t : S). Behind (signed t y.operand ∷ ys) ts rest) (sym e) (inner_more y.operand ys ts s.0 rest hs.0 (subst (λ (t : S). Printed (sign t ∷ f y.operand) ts s.0) e q) b)

  pub groups_read : ((s : S) → (s ≡ outer) ⊎ (s ≡ inner)) → (make : List (Signed S Tree) → Tree) (e : Tree) (ys : List (Signed S Tree))
      → Reads (f e) R (whole e) → AllByRecursion (λ (y : Signed S Tree). Reads (f y.operand) R (whole y.operand)) ys
      → Reads (f e ++ flat_map (λ (y : Signed S Tree). sign y.sign ∷ f y.operand) ys) (Made (λ rs. with make (all_joined rs)) (Separated outer_want Group)) (whole (make (signed outer e ∷ ys)))
  groups_read two make e ys h hs ts rest p =
      let s = split (f e) (flat_map (λ (y : Signed S Tree). sign y.sign ∷ f y.operand) ys) ts rest p in
      let b = further two ys hs s.0 rest s.2 in
      record {
        of = whole (signed outer e ∷ b.inners) ∷ b.groups;
        shape = record {
          of = (whole (signed outer e ∷ b.inners), b.groups);
          shape = record { mid = b.mid; first = begun e ts s.0 b.mid b.inners (h ts s.0 s.1) b.near; second = b.far };
          made = refl;
        };
        made = λ i. record { tree = make (signed outer e ∷ sym b.same i); past = sym b.in_range i };
      }
