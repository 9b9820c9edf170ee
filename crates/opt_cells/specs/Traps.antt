-- A small system with faulty matches, for tests. A state is the number of steps made. Before the first step number 0
-- applies, and every other number is faulty with itself as the reason; after it nothing applies. So no two are independent.
use Rattle.std.specs.Prelude.{ℕ, ◌==◌, ◌+◌, ◌-◌, cond}
use Rattle.opt_system.specs.Meaning.{Meaning, applies, faulty, neither}
use Rattle.opt_system.specs.declared.answers.Mode.TheVariants.{Saturate}

abbrev pub traps_means : Meaning ℕ ℕ (Unit {0}) ℕ
traps_means = record {
  judged = λ goal at f. cond (at == 0) (cond (f == 0) applies (faulty f)) neither;
  after = λ at f. at + 1;
  undone = λ at. at - 1;
  depth = λ at. at;
  shares = λ goal. 1;
  share = λ goal f. 0;
  mode = λ goal. Saturate;
  independent = λ at f h. ⊥;
}
