-- Sizes of commands.
use Rattle.std.proofs.Common.{◌≡◌, ℕ, zero, suc, ◌+◌, ◌-◌, ◌<◌, ◌≤◌, List, [], ◌∷◌, length, slice_index_or, sym, ap, subst, ◌∙◌, arith}
use Rattle.std.proofs.Math.Nat.{suc-mul}
use Rattle.gp_syntax.specs.declared.command.Command.{Command}
use Rattle.gp_syntax.specs.declared.command.Command.TheVariants as form
use Rattle.gp_syntax.specs.declared.command.Command.TheOpen.{Command-F}
use Rattle.gp_syntax.specs.declared.command.Command.TheFolds.{fold-roll-Command}
use Rattle.gp_certify.specs.inside.Fits.{size_step, size, sizes, room}

-- ---- by the form of the command

pub size-Seq : (p : Command) (ps : List Command) → size (form.Seq p ps) ≡ 2 + size p + sizes ps
unfolding size
size-Seq p ps = ap size (sym (form.rolls-Seq p ps)) ∙ fold-roll-Command ℕ size_step (Command-F.Seq p ps)

pub size-If : (k p q : Command) → size (form.If k p q) ≡ 2 + size k + size p + size q
unfolding size
size-If k p q = ap size (sym (form.rolls-If k p q)) ∙ fold-roll-Command ℕ size_step (Command-F.If k p q)

pub size-Try : (k p q : Command) → size (form.Try k p q) ≡ 2 + size k + size p + size q
unfolding size
size-Try k p q = ap size (sym (form.rolls-Try k p q)) ∙ fold-roll-Command ℕ size_step (Command-F.Try k p q)

pub size-Loop : (p : Command) → size (form.Loop p) ≡ 2 + size p
unfolding size
size-Loop p = ap size (sym (form.rolls-Loop p)) ∙ fold-roll-Command ℕ size_step (Command-F.Loop p)

pub size-Or : (p : Command) (ps : List Command) → size (form.Or p ps) ≡ 2 + size p + sizes ps
unfolding size
size-Or p ps = ap size (sym (form.rolls-Or p ps)) ∙ fold-roll-Command ℕ size_step (Command-F.Or p ps)

pub size-Proc : (k : ℕ) → size (form.Proc k) ≡ 2
unfolding size
size-Proc k = ap size (sym (form.rolls-Proc k)) ∙ fold-roll-Command ℕ size_step (Command-F.Proc k)

-- ---- of one of a list

size_at : (ps : List Command) (i : ℕ) (d : Command) → i < length ps → size (slice_index_or ps i d) ≤ sizes ps
size_at [] i d l = absurd (omega arith)
size_at (p ∷ ps) zero d l = omega arith
size_at (p ∷ ps) (suc i) d l = omega (arith, size_at ps i d (omega arith))

pub size_of_one : (ps : List Command) (i : ℕ) (p : Command) → i < length ps → p ≡ slice_index_or ps i p → size p ≤ sizes ps
size_of_one ps i p l e = subst (λ (q : Command). size q ≤ sizes ps) (sym e) (size_at ps i p l)

-- the body of a procedure takes no more than what is left for it
pub room_less : (ps : List Command) (depth i : ℕ) (p : Command) → 1 ≤ depth → i < length ps → p ≡ slice_index_or ps i p → room ps (depth - 1) + size p < room ps depth + 1
room_less ps zero i p h l e = absurd (omega arith)
room_less ps (suc depth) i p h l e =
    let s = size_of_one ps i p l e in
    let d : suc depth - 1 ≡ depth = omega arith in
    let m = suc-mul depth (1 + sizes ps) in
    rw (d, m) (omega arith)
