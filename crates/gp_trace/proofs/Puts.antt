-- What is put on a sheet, one after the other.
use Rattle.std.proofs.Common.{◌≡◌, List, [], ◌++◌, ℕ, sym, ap, subst, ◌∙◌, append_assoc, append-nil}
use Rattle.std.specs.Prelude.{false}
use Rattle.gp_trace.specs.declared.sheet.Sheet.{Sheet}
use Rattle.gp_trace.specs.inside.Puts.{Puts}

pub nothing : {a : Sheet} → Puts a a []
nothing {a} = record { unrefused = λ e. e; behind = λ e. sym (append-nil a.text.items) }

pub and_then : {a b c : Sheet} {ps qs : List ℕ} → Puts a b ps → Puts b c qs → Puts a c (ps ++ qs)
and_then {a} {b} {c} {ps} {qs} h k = record {
  unrefused = λ e. h.unrefused (k.unrefused e);
  behind = λ e. k.behind e ∙ ap (λ l. l ++ qs) (h.behind (k.unrefused e)) ∙ append_assoc a.text.items ps qs;
}

-- what was put is this, by another name
pub told : {a b : Sheet} {ps qs : List ℕ} → qs ≡ ps → Puts a b ps → Puts a b qs
told {a} {b} e h = subst (λ (l : List ℕ). Puts a b l) (sym e) h

-- on an empty sheet it stands alone
pub alone : {a b : Sheet} {ps : List ℕ} → a.text.items ≡ [] → Puts a b ps → b.refused ≡ false → b.text.items ≡ ps
alone {ps = ps} e h r = h.behind r ∙ ap (λ l. l ++ ps) e
