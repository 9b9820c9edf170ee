-- Parts of a text with operators, which stand in parentheses where that is needed: what parentheses the canonical text has,
-- each text of the tree has.
use Rattle.std.proofs.Common.{◌≡◌, ℕ, suc, ◌<◌, ◌≤◌, Bool, true, false, nat_le, nat_lt, if◌then◌else◌, List, [], ◌∷◌, ◌++◌, map, refl, sym, ◌∙◌, ap, subst, append_assoc, arith, leb-true, ltb-true}
use Rattle.std.specs.Prelude.{flat_map}
use Rattle.std.proofs.lemmas.List.Concat.{flat_map-append}
use Rattle.gp_tokens.specs.declared.token.Kind.TheVariants as k
use Rattle.gp_tokens.specs.declared.token.Token.{Token}
use Rattle.gp_tokens.specs.declared.want.Want.{Want}
use Rattle.gp_tokens.specs.Fits.{AllExcluded}
use Rattle.gp_tokens.specs.Shape.{Shape, Is, ◌then◌, Made, Either, one, other, Many, none, more, Separated, second_of}
use Rattle.gp_tokens.specs.SignWants.{open_sign, close_sign}
use Rattle.gp_syntax.specs.declared.expression.Signed.{Signed}
use Rattle.gp_expressions.specs.declared.ranged.Ranged.{Ranged}
use Rattle.gp_expressions.specs.Ranges.{with, joined, all_joined}
use Rattle.gp_expressions.specs.Expressions.{Tree, signed_by, headed}
use Rattle.gp_program.specs.declared.depth.Role.{Role}
use Rattle.gp_program.specs.declared.depth.Role.TheVariants as role
use Rattle.gp_fmt.specs.declared.piece.Piece.{Piece}
use Rattle.gp_fmt.specs.Expressions.{in_parentheses_if}
use Rattle.gp_fmt.proofs.Deep.Roles.{loud, roles, roles_append}
use Rattle.gp_fmt.proofs.Deep.Texts.{AreSpelled, IsDeeper, then_deeper, recast, wrap, wrapped_deeper, unwrapped_deeper, kind_sign, Covers, opening_covers, closing_covers, sign_covers, many_behind}

abbrev pub tree_of : {A : Type 0} → Ranged A → A
tree_of r = r.tree

-- as it is, and in parentheses too where its own operator is looser than this level
pub record IsParted (l level : ℕ) (ps : List Role) (ts rest : List Token) : Type 0 where
  pub bare : IsDeeper true 0 0 ps ts rest
  pub wrapped : level < l → IsDeeper true 0 0 (wrap ps) ts rest

pub record Parts {X : Type 0} (l : ℕ) (level : X → ℕ) (pieces : X → List Role) (R : Shape X) : Type 0 where
  pub parts : (ts rest : List Token) (x : X) → AreSpelled ts → R ts rest x → IsParted l (level x) (pieces x) ts rest

abbrev pub member_roles : ℕ → ℕ → List Role → List Role
member_roles l level ps = if nat_le level l then wrap ps else ps

abbrev pub operand_roles : ℕ → ℕ → List Role → List Role
operand_roles l level ps = if nat_lt level l then wrap ps else ps

pub roles_if : (needed : Bool) (ps : List Piece) → roles (in_parentheses_if needed ps) ≡ (if needed then wrap (roles ps) else roles ps)
roles_if true ps = ap (λ l. role.Opening ∷ l) (roles_append ps _)
roles_if false ps = refl

pub needed_deeper : (needed : Bool) {ps : List Role} {ts rest : List Token} → IsDeeper true 0 0 ps ts rest → (needed ≡ true → IsDeeper true 0 0 (wrap ps) ts rest) → IsDeeper true 0 0 (if needed then wrap ps else ps) ts rest
needed_deeper true d w = w refl
needed_deeper false d w = d

pub member_deeper : {l level : ℕ} {ps : List Role} {ts rest : List Token} → IsParted (suc l) level ps ts rest → IsDeeper true 0 0 (member_roles l level ps) ts rest
member_deeper {l} {level} h = needed_deeper (nat_le level l) h.bare (λ e. let le = leb-true level l e in h.wrapped (omega (arith, le)))

pub operand_deeper : {l level : ℕ} {ps : List Role} {ts rest : List Token} → IsParted l level ps ts rest → IsDeeper true 0 0 (operand_roles l level ps) ts rest
operand_deeper {l} {level} h = needed_deeper (nat_lt level l) h.bare (λ e. h.wrapped (ltb-true level l e))

pub looser : {l level : ℕ} {ps : List Role} {ts rest : List Token} → IsParted (suc l) level ps ts rest → IsParted l level ps ts rest
looser h = record { bare = h.bare; wrapped = λ lt. h.wrapped (omega (arith, lt)) }

-- a part of this level or a tighter one is as it is
pub tight : {l level : ℕ} {ps : List Role} {ts rest : List Token} → l ≤ level → IsDeeper true 0 0 ps ts rest → IsParted l level ps ts rest
tight le d = record { bare = d; wrapped = λ lt. absurd (omega (arith, le, lt)) }

-- in parentheses
pub bracketed : {l level : ℕ} {ps : List Role} {ts inside last rest : List Token} {t t' : Token} → AreSpelled ts → Is open_sign ts inside t → IsDeeper true 0 0 ps inside last → Is close_sign last rest t' → IsParted l level ps ts rest
bracketed {ts = ts} {inside} {last} {rest} {t} {t'} s o d c = record {
  bare = unwrapped_deeper (kind_sign k.OpenParenthesis role.Opening (λ n. refl) o) d (kind_sign k.CloseParenthesis role.Closing (λ n. refl) c);
  wrapped = λ lt. wrapped_deeper ((opening_covers k.OpenParenthesis 0 (λ n. refl)).covers ts inside t s o) d ((closing_covers k.CloseParenthesis 0 (λ n. refl)).covers last rest t' d.left c);
}

pub either_parts : {X : Type 0} {l : ℕ} {level : X → ℕ} {pieces : X → List Role} {R S : Shape X} → Parts l level pieces R → Parts l level pieces S → Parts l level pieces (Either R S)
either_parts {X} {l} {level} {pieces} {R} {S} p q = record { parts = go }
  where
    go : (ts rest : List Token) (x : X) → AreSpelled ts → Either R S ts rest x → IsParted l (level x) (pieces x) ts rest
    go ts rest x s (one d) = p.parts ts rest x s d
    go ts rest x s (other d) = q.parts ts rest x s d

pub flat_mapped : {A B C : Type 0} (f : B → List C) (g : A → B) (xs : List A) → flat_map (λ x. f (g x)) xs ≡ flat_map f (map g xs)
flat_mapped f g [] = refl
flat_mapped f g (x ∷ xs) = ap (λ l. f (g x) ++ l) (flat_mapped f g xs)

-- ---- chains of one operator

module _ {X : Type 0} (level : X → ℕ) (pieces : X → List Role) (l : ℕ) (w : Want) (out : AllExcluded w loud) where
  abbrev pub member_of : X → List Role
  member_of x = member_roles l (level x) (pieces x)

  pub members : {R : Shape X} → Parts (suc l) level pieces R → Covers true 0 0 R member_of
  members p = record { covers = λ ts rest x s d. member_deeper (p.parts ts rest x s d) }

  pub chain_parts : (join : List X → X) → ((x : X) → join (x ∷ []) ≡ x) → ((x y : X) (ys : List X) → level (join (x ∷ y ∷ ys)) ≡ l)
      → ((x y : X) (ys : List X) → pieces (join (x ∷ y ∷ ys)) ≡ member_of x ++ flat_map (λ z. role.Other ∷ member_of z) (y ∷ ys)) → {R : Shape X} → Parts (suc l) level pieces R → Parts l level pieces (Made join (Separated w R))
  chain_parts join single at_level of_pieces {R} p = record {
    parts = λ ts rest y s h. subst (λ z. IsParted l (level z) (pieces z) ts rest) (ap join (sym h.shape.made) ∙ sym h.made) (go ts rest h.shape.of.0 h.shape.of.1 h.shape.shape.mid s h.shape.shape.first h.shape.shape.second);
  }
    where
      go : (ts rest : List Token) (x : X) (xs : List X) (mid : List Token) → AreSpelled ts → R ts mid x → Many (Made second_of (Is w then R)) mid rest xs → IsParted l (level (join (x ∷ xs))) (pieces (join (x ∷ xs))) ts rest
      go ts _ x _ mid s d none = subst (λ z. IsParted l (level z) (pieces z) ts mid) (sym (single x)) (looser (p.parts ts mid x s d))
      go ts rest x _ mid s d (more {mid = next} {x = y} {xs = ys} e es) =
          let first = member_deeper (p.parts ts mid x s d) in
          let le : l ≤ level (join (x ∷ y ∷ ys)) = omega (arith, at_level x y ys) in
          tight le (recast (sym (of_pieces x y ys)) (many_behind (sign_covers w out (members p)) first (more e es)))

-- ---- chains of two operators, each operand with its sign

module _ {S : Type 0} (level : Tree → ℕ) (pieces : Tree → List Role) (l : ℕ) (sign : S → Role) where
  abbrev pub signed_member : Tree → List Role
  signed_member x = member_roles l (level x) (pieces x)

  abbrev pub behind_sign : Signed S Tree → List Role
  behind_sign s = sign s.sign ∷ signed_member s.operand

  -- operands behind one sign, of which the first has the other
  pub record IsRow (head : S) (xs : List (Signed S Tree)) (ts rest : List Token) : Type 0 where
    pub first : Tree
    pub others : List (Signed S Tree)
    pub is : xs ≡ record { sign = head; operand = first } ∷ others
    pub row : IsDeeper true 0 0 (signed_member first ++ flat_map behind_sign others) ts rest
    pub alone : others ≡ [] → IsParted (suc l) (level first) (pieces first) ts rest

  pub record Rows (head : S) (R : Shape (Ranged (List (Signed S Tree)))) : Type 0 where
    pub rows : (ts rest : List Token) (y : Ranged (List (Signed S Tree))) → AreSpelled ts → R ts rest y → IsRow head y.tree ts rest

  -- an operand behind its sign
  signed_covers : (w : Want) (head : S) → Covers false 0 0 (Is w) (λ t. sign head ∷ []) → {R : Shape (Ranged Tree)} → Parts (suc l) (λ (x : Ranged Tree). level x.tree) (λ (x : Ranged Tree). pieces x.tree) R
      → Covers true 0 0 (Made second_of (Is w then Made (signed_by head) R)) (λ (q : Ranged (Signed S Tree)). behind_sign q.tree)
  signed_covers w head g p = record {
    covers = λ ts rest q s d.
        let a = g.covers ts d.shape.mid d.of.0 s d.shape.first in
        let b = member_deeper (p.parts d.shape.mid rest d.shape.second.of a.left d.shape.second.shape) in
        recast (ap (λ (z : Ranged (Signed S Tree)). behind_sign z.tree) (sym (d.made ∙ d.shape.second.made))) (then_deeper a b);
  }

  pub row_rows : (w : Want) (head further : S) → Covers false 0 0 (Is w) (λ t. sign further ∷ []) → {R : Shape (Ranged Tree)} → Parts (suc l) (λ (x : Ranged Tree). level x.tree) (λ (x : Ranged Tree). pieces x.tree) R
      → Rows head (Made (headed head) (Separated w (Made (signed_by further) R)))
  row_rows w head further g {R} p = record {
    rows = λ ts rest y s h.
        let f = h.shape.shape.first in
        let qs = h.shape.of.1 in
        let many = h.shape.shape.second in
        let part = p.parts ts h.shape.shape.mid f.of s f.shape in
        record {
          first = f.of.tree;
          others = map tree_of qs;
          is = ap tree_of (h.made ∙ ap (headed head) h.shape.made) ∙ ap (λ (q : Ranged (Signed S Tree)). record { sign = head; operand = q.tree.operand } ∷ map tree_of qs) f.made;
          row = recast (ap (λ m. signed_member f.of.tree ++ m) (flat_mapped behind_sign tree_of qs)) (many_behind (signed_covers w further g p) (member_deeper part) many);
          alone = λ e. ending ts h.shape.shape.mid rest qs f.of.tree part many e;
        };
  }
    where
      ending : (ts mid rest : List Token) (qs : List (Ranged (Signed S Tree))) (x : Tree) → IsParted (suc l) (level x) (pieces x) ts mid → Many (Made second_of (Is w then Made (signed_by further) R)) mid rest qs
          → map tree_of qs ≡ [] → IsParted (suc l) (level x) (pieces x) ts rest
      ending ts mid _ _ x h none e = h
      ending ts mid rest _ x h (more d ds) e = absurd cc

  -- ---- rows behind the other sign

  -- a row behind its sign
  row_covers : (w : Want) (head : S) → Covers false 0 0 (Is w) (λ t. sign head ∷ []) → {R : Shape (Ranged (List (Signed S Tree)))} → Rows head R
      → Covers true 0 0 (Made second_of (Is w then R)) (λ (y : Ranged (List (Signed S Tree))). flat_map behind_sign y.tree)
  row_covers w head g p = record {
    covers = λ ts rest q s d.
        let a = g.covers ts d.shape.mid d.of.0 s d.shape.first in
        let b = p.rows d.shape.mid rest d.of.1 a.left d.shape.second in
        recast (ap (flat_map behind_sign) (sym (ap tree_of d.made ∙ b.is))) (then_deeper a b.row);
  }

  joined_flat : (ys : List (Ranged (List (Signed S Tree)))) → flat_map (λ (y : Ranged (List (Signed S Tree))). flat_map behind_sign y.tree) ys ≡ flat_map behind_sign (joined (map tree_of ys))
  unfolding joined
  joined_flat [] = refl
  joined_flat (y ∷ ys) = ap (λ m. flat_map behind_sign y.tree ++ m) (joined_flat ys) ∙ sym (flat_map-append behind_sign y.tree (joined (map tree_of ys)))

  joined_more : (xs : List (Signed S Tree)) (xss : List (List (Signed S Tree))) → joined (xs ∷ xss) ≡ xs ++ joined xss
  unfolding joined
  joined_more xs xss = refl

  no_more : (xs ys : List (Signed S Tree)) → xs ++ ys ≡ [] → (xs ≡ []) × (ys ≡ [])
  no_more [] ys e = (refl, e)
  no_more (x ∷ xs) ys e = absurd cc

  pub rows_parts : (w : Want) (head : S) → Covers false 0 0 (Is w) (λ t. sign head ∷ []) → {R : Shape (Ranged (List (Signed S Tree)))} → Rows head R → (tree : List (Signed S Tree) → Tree)
      → ((s : Signed S Tree) → tree (s ∷ []) ≡ s.operand) → ((x y : Signed S Tree) (ys : List (Signed S Tree)) → level (tree (x ∷ y ∷ ys)) ≡ l)
      → ((x y : Signed S Tree) (ys : List (Signed S Tree)) → pieces (tree (x ∷ y ∷ ys)) ≡ signed_member x.operand ++ flat_map behind_sign (y ∷ ys))
      → Parts l (λ (x : Ranged Tree). level x.tree) (λ (x : Ranged Tree). pieces x.tree) (Made (λ rs. with tree (all_joined rs)) (Separated w R))
  rows_parts w head g {R} p tree single at_level of_pieces = record {
    parts = λ ts rest y s h.
        let r = p.rows ts h.shape.shape.mid h.shape.of.0 s h.shape.shape.first in
        let ys = h.shape.of.1 in
        let more_ys = joined (map tree_of ys) in
        let trees : y.tree ≡ tree (record { sign = head; operand = r.first } ∷ (r.others ++ more_ys)) =
        ap tree_of (h.made ∙ ap (λ rs. with tree (all_joined rs)) h.shape.made) ∙ ap (λ m. tree (m ++ more_ys)) r.is
        in
        let all : IsDeeper true 0 0 (signed_member r.first ++ flat_map behind_sign (r.others ++ more_ys)) ts rest =
        recast (
        append_assoc (signed_member r.first) (flat_map behind_sign r.others) (flat_map (λ (y : Ranged (List (Signed S Tree))). flat_map behind_sign y.tree) ys)
        ∙ ap (λ m. signed_member r.first ++ m) (ap (λ m. flat_map behind_sign r.others ++ m) (joined_flat ys) ∙ sym (flat_map-append behind_sign r.others more_ys))
        ) (many_behind (row_covers w head g p) r.row h.shape.shape.second)
        in
        subst (λ z. IsParted l (level z) (pieces z) ts rest) (sym trees) (decide ts rest r.first (r.others ++ more_ys) all (λ e. ending ts h.shape.shape.mid rest ys r h.shape.shape.second e));
  }
    where
      decide : (ts rest : List Token) (x : Tree) (m : List (Signed S Tree)) → IsDeeper true 0 0 (signed_member x ++ flat_map behind_sign m) ts rest → (m ≡ [] → IsParted (suc l) (level x) (pieces x) ts rest)
          → IsParted l (level (tree (record { sign = head; operand = x } ∷ m))) (pieces (tree (record { sign = head; operand = x } ∷ m))) ts rest
      decide ts rest x [] d alone = subst (λ z. IsParted l (level z) (pieces z) ts rest) (sym (single (record { sign = head; operand = x }))) (looser (alone refl))
      decide ts rest x (y ∷ ys) d alone =
          let le : l ≤ level (tree (record { sign = head; operand = x } ∷ y ∷ ys)) = omega (arith, at_level (record { sign = head; operand = x }) y ys) in
          tight le (recast (sym (of_pieces (record { sign = head; operand = x }) y ys)) d)

      cut : (xs zs : List (Signed S Tree)) (z : Signed S Tree) (vs : List (Signed S Tree)) → xs ≡ z ∷ vs → xs ++ zs ≡ [] → ⊥
      cut [] zs z vs e h = cc
      cut (x ∷ xs) zs z vs e h = cc

      ending : (ts mid rest : List Token) (ys : List (Ranged (List (Signed S Tree)))) {xs : List (Signed S Tree)} (r : IsRow head xs ts mid) → Many (Made second_of (Is w then R)) mid rest ys
          → r.others ++ joined (map tree_of ys) ≡ [] → IsParted (suc l) (level r.first) (pieces r.first) ts rest
      ending ts mid _ _ r none e = r.alone (no_more r.others _ e).0
      ending ts mid rest _ r (more {mid = next} {x = y} {xs = ys} d ds) e =
          let a = g.covers mid d.shape.mid d.of.0 r.row.left d.shape.first in
          let b = p.rows d.shape.mid next d.of.1 a.left d.shape.second in
          let all_is = ap tree_of d.made ∙ b.is in
          absurd (cut y.tree (joined (map tree_of ys)) _ _ all_is (sym (joined_more y.tree (map tree_of ys)) ∙ (no_more r.others _ e).1))
