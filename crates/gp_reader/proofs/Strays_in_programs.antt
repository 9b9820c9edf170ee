-- What may break does so by the bodies of procedures alone.
use Rattle.std.proofs.Common.{◌≡◌, inl, inr, slice_get, refl, sym, ap, ◌∙◌}
use Rattle.gp_syntax.specs.Run.{Command, Program}
use Rattle.gp_syntax.specs.Scoped.{MayBreak}
use Rattle.gp_syntax.specs.Scoped as may
use Rattle.gp_scope.specs.Fault.{HasStrayBreak}
use Rattle.gp_reader.specs.inside.Procedures.{Strays, procedures_alone}

pub may_break_too : (p q : Program) → p.procedures ≡ q.procedures → (c : Command) → MayBreak p c → MayBreak q c
may_break_too p q e c may.breaks = may.breaks
may_break_too p q e c (may.seq_first {p = a} {q = b} h) = may.seq_first (may_break_too p q e a h)
may_break_too p q e c (may.seq_second {p = a} {q = b} h) = may.seq_second (may_break_too p q e b h)
may_break_too p q e c (may.if_condition {k} {p = a} {q = b} h) = may.if_condition (may_break_too p q e k h)
may_break_too p q e c (may.if_then {k} {p = a} {q = b} h) = may.if_then (may_break_too p q e a h)
may_break_too p q e c (may.if_else {k} {p = a} {q = b} h) = may.if_else (may_break_too p q e b h)
may_break_too p q e c (may.try_condition {k} {p = a} {q = b} h) = may.try_condition (may_break_too p q e k h)
may_break_too p q e c (may.try_then {k} {p = a} {q = b} h) = may.try_then (may_break_too p q e a h)
may_break_too p q e c (may.try_else {k} {p = a} {q = b} h) = may.try_else (may_break_too p q e b h)
may_break_too p q e c (may.or_first {p = a} {q = b} h) = may.or_first (may_break_too p q e a h)
may_break_too p q e c (may.or_second {p = a} {q = b} h) = may.or_second (may_break_too p q e b h)
may_break_too p q e c (may.procedure {k} {body} s h) = may.procedure (ap (λ ps. slice_get ps k) (sym e) ∙ s) (may_break_too p q e body h)

-- a break that strays in a program, as one among its bodies
pub strays_in : (p : Program) → Strays p.main p.procedures → HasStrayBreak p
strays_in p (inl h) = inl (may_break_too (procedures_alone p.procedures) p refl p.main h)
strays_in p (inr (body, k, h)) = inr (body, k, (h.0, h.1, may_break_too (procedures_alone p.procedures) p refl k h.2))

pub strays_of : (p : Program) → HasStrayBreak p → Strays p.main p.procedures
strays_of p (inl h) = inl (may_break_too p (procedures_alone p.procedures) refl p.main h)
strays_of p (inr (body, k, h)) = inr (body, k, (h.0, h.1, may_break_too p (procedures_alone p.procedures) refl k h.2))
