-- Cells keep the laws.
use Rattle.std.specs.Prelude.{◌≡◌, ◌≢◌, ℕ, zero, suc, ◌<◌, ◌%◌, ◌∷◌, [], List, Bool, true, false, cond, slice_index_or, slice_set, length, refl}
use Rattle.std.proofs.Common.{ap, arith, sym, ◌∙◌, get_or-set_other}
use Rattle.opt_cells.specs.declared.cells_goal.Never.{Never}
use Rattle.opt_cells.specs.Row.{Row, row}
use Rattle.opt_system.specs.Meaning.{Judged, applies, neither, IsLawful, reached}
use Rattle.opt_cells.specs.Cells.{cells_means, after_of}

pub true_where : (b : Bool) → cond {A = Judged Never} b applies neither ≡ applies → b ≡ true
true_where true e = refl
true_where false e = cc

pub put_again : (cells : List Bool) (p : ℕ) → slice_index_or cells p false ≡ true → slice_set (slice_set cells p false) p true ≡ cells
put_again [] p e = refl
put_again (c ∷ cs) zero e = ap (λ (x : Bool). x ∷ cs) (sym e)
put_again (c ∷ cs) (suc p) e = ap (λ (xs : List Bool). c ∷ xs) (put_again cs p e)

pub below_modulus : (p n : ℕ) → 0 < n → p % n < n
below_modulus p n h = omega arith

-- a place that none of the steps takes stays as it is
pub stays_lit : (at : Row) (f : ℕ) (fs : List ℕ) → ((j : ℕ) → j < length fs → f ≢ slice_index_or fs j 0) → slice_index_or (reached cells_means at fs).cells f false ≡ slice_index_or at.cells f false
stays_lit at f [] apart = refl
stays_lit at f (p ∷ fs) apart = stays_lit (after_of at p) f fs (λ j h. apart (suc j) (omega arith)) ∙ get_or-set_other at.cells p f false false (apart 0 (omega arith))

pub cells_lawful : IsLawful cells_means
cells_lawful = record {
  deeper = λ goal at f e. omega arith;
  undoes = λ goal at f e. ap (λ (xs : List Bool). row xs at.taken) (put_again at.cells f (true_where _ e));
  some_share = λ goal. goal.positive;
  all_shares = λ goal f. below_modulus f goal.shares goal.positive;
  other_way = λ at f h apart e. apart (sym e);
  follows = λ goal at f fs all.
      ap (λ b. cond {A = Judged Never} b applies neither) (stays_lit at f fs (λ j h. all.pairwise 0 (suc j) 0 (omega arith) (omega arith))) ∙ all.each_applies 0 0 (omega arith);
}
