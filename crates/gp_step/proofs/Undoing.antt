-- Inverse edits, one after another.
use Rattle.std.proofs.Common.{◌≡◌, ℕ, suc, ◌+◌, ◌-◌, ◌<◌, List, ◌∷◌, ◌++◌, replicate, sym, subst, ap, ◌∙◌, arith}
use Rattle.gp_values.specs.Graph.{Graph}
use Rattle.gp_step.specs.declared.inverse.Inverse.{Inverse}
use Rattle.gp_step.specs.Undo.{inverse_of, undone_by, MayUndo, Fits}

-- what is left to be made, and where it leads
pub record Left (us : List Inverse) (g : Graph) (all : List Inverse) (first : Graph) : Type 0 where
  pub fits : Fits us g
  pub same : undone_by us g ≡ undone_by all first

-- the first of what is left may be made
pub may_next : (u : Inverse) (us vs all : List Inverse) (g first : Graph) → us ≡ u ∷ vs → Left us g all first → MayUndo u g
may_next u us vs all g first e l =
    let w : Fits (u ∷ vs) g = subst (λ ws. Fits ws g) e l.fits in
    w.0

pub next_left : (u : Inverse) (us vs all : List Inverse) (g h first : Graph) → us ≡ u ∷ vs → h ≡ inverse_of u g → Left us g all first → Left vs h all first
next_left u us vs all g h first e made l =
    let w : Fits (u ∷ vs) g = subst (λ ws. Fits ws g) e l.fits in
    record {
      fits = subst (Fits vs) (sym made) w.1;
      same = ap (undone_by vs) made ∙ ap (λ ws. undone_by ws g) (sym e) ∙ l.same;
    }

one_more : (n c : ℕ) → c < n → n - c ≡ suc (n - (c + 1))
one_more n c h = omega arith

pub counts_down : (x : Inverse) (n c : ℕ) (ys : List Inverse) → c < n → replicate (n - c) x ++ ys ≡ x ∷ (replicate (n - (c + 1)) x ++ ys)
counts_down x n c ys h = ap (λ k. replicate k x ++ ys) (one_more n c h)
