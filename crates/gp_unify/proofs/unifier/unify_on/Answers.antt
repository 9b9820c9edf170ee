use Rattle.std.proofs.Common.{◌≡◌, ◌<◌, length, drop, All, Some, None, sym, subst}
use Rattle.gp_syntax.specs.Tree.{label_of}
use Rattle.gp_syntax.specs.Typing.{type_in}
use Rattle.gp_unify.specs.Extension.{known_of}
use Rattle.gp_unify.specs.Unify.{unify}
use Rattle.gp_unify.proofs.Answers.{is_least, is_none}
use Rattle.gp_unify.proofs.Trails.{back_places, grown_count, grown_same, taken_back}
use Rattle.gp_unify.proofs.unifier.unify_on.Goals as goal

pub returns-in-Ok-clause-answers : goal.returns-in-Ok-clause-answers
returns-in-Ok-clause-answers c =
    let a = c.args.assignment.now in
    let b = c.unify_label.new.assignment in
    let e = label_of c.args.label.now in
    let h : unify (type_in a.types) e c.args.list.now (known_of a) ≡ Some (known_of b) = subst (λ v. unify (type_in a.types) e v (known_of a) ≡ Some (known_of b)) c.atoms.ensures.value c.in-Ok.ensures.told in
    is_least a e c.args.list.now b c.requires.simple c.in-Ok.ensures.grown.types (grown_count a b c.args.trail.now.items c.unify_label.new.trail.items c.in-Ok.ensures.grown) h

pub returns-in-Ok-clause-told : goal.returns-in-Ok-clause-told
returns-in-Ok-clause-told c =
    let a = c.args.assignment.now in
    let b = c.unify_label.new.assignment in
    subst (λ v. unify (type_in a.types) (label_of c.args.label.now) v (known_of a) ≡ Some (known_of b)) c.atoms.ensures.value c.in-Ok.ensures.told

pub returns-in-Ok-clause-grown : goal.returns-in-Ok-clause-grown
returns-in-Ok-clause-grown c = c.in-Ok.ensures.grown

pub returns-in-Ok-clause-trail : goal.returns-in-Ok-clause-trail
returns-in-Ok-clause-trail c = tt

-- ---- what was told is taken back

pub take_back-requires : goal.take_back-requires
take_back-requires c =
    let b = c.unify_label.new.assignment in
    let s = c.args.trail.now.items in
    let t = c.unify_label.new.trail.items in
    let n : c.len-count.result ≡ length s = c.len-count.ensures.value in
    record { places = subst (λ k. All (λ x. x < length b.types) (drop k t)) (sym n) (back_places c.args.assignment.now b s t c.in-Err-Differs.ensures.grown) }

pub returns-in-Err-Differs-clause-answers : goal.returns-in-Err-Differs-clause-answers
returns-in-Err-Differs-clause-answers c =
    let a = c.args.assignment.now in
    let b = c.unify_label.new.assignment in
    let e = label_of c.args.label.now in
    let s = c.args.trail.now.items in
    let n : c.len-count.result ≡ length s = c.len-count.ensures.value in
    let h : unify (type_in a.types) e c.args.list.now (known_of a) ≡ None = subst (λ v. unify (type_in a.types) e v (known_of a) ≡ None) c.atoms.ensures.value (rw c.in-Err-Differs.field-0-is at c.in-Err-Differs.ensures.told) in
    let back = taken_back a b c.take_back.new.assignment s c.unify_label.new.trail.items c.take_back.new.trail.items c.len-count.result n c.in-Err-Differs.ensures.grown c.take_back.ensures.assignment c.take_back.ensures.trail in
    (back.0, is_none a e c.args.list.now c.requires.simple h)

pub returns-in-Err-Differs-clause-told : goal.returns-in-Err-Differs-clause-told
returns-in-Err-Differs-clause-told c =
    let a = c.args.assignment.now in
    subst (λ v. unify (type_in a.types) (label_of c.args.label.now) v (known_of a) ≡ None) c.atoms.ensures.value (rw c.in-Err-Differs.field-0-is at c.in-Err-Differs.ensures.told)

pub returns-in-Err-Differs-clause-grown : goal.returns-in-Err-Differs-clause-grown
returns-in-Err-Differs-clause-grown c =
    let a = c.args.assignment.now in
    let s = c.args.trail.now.items in
    let n : c.len-count.result ≡ length s = c.len-count.ensures.value in
    let back = taken_back a c.unify_label.new.assignment c.take_back.new.assignment s c.unify_label.new.trail.items c.take_back.new.trail.items c.len-count.result n c.in-Err-Differs.ensures.grown c.take_back.ensures.assignment c.take_back.ensures.trail in
    grown_same a c.take_back.new.assignment s c.take_back.new.trail.items back.0 back.1

pub returns-in-Err-Differs-clause-trail : goal.returns-in-Err-Differs-clause-trail
returns-in-Err-Differs-clause-trail c =
    let s = c.args.trail.now.items in
    let n : c.len-count.result ≡ length s = c.len-count.ensures.value in
    (taken_back c.args.assignment.now c.unify_label.new.assignment c.take_back.new.assignment s c.unify_label.new.trail.items c.take_back.new.trail.items c.len-count.result n c.in-Err-Differs.ensures.grown c.take_back.ensures.assignment c.take_back.ensures.trail).1

pub take_back-requires-in-Err-NoMemory : goal.take_back-requires-in-Err-NoMemory
take_back-requires-in-Err-NoMemory c =
    let b = c.unify_label.new.assignment in
    let s = c.args.trail.now.items in
    let t = c.unify_label.new.trail.items in
    let n : c.len-count.result ≡ length s = c.len-count.ensures.value in
    record { places = subst (λ k. All (λ x. x < length b.types) (drop k t)) (sym n) (back_places c.args.assignment.now b s t c.in-Err-NoMemory.ensures.grown) }

pub returns-in-Err-NoMemory-clause-answers : goal.returns-in-Err-NoMemory-clause-answers
returns-in-Err-NoMemory-clause-answers c =
    let s = c.args.trail.now.items in
    let after = c.take_back-in-Err-NoMemory in
    let n : c.len-count.result ≡ length s = c.len-count.ensures.value in
    (taken_back c.args.assignment.now c.unify_label.new.assignment after.new.assignment s c.unify_label.new.trail.items after.new.trail.items c.len-count.result n c.in-Err-NoMemory.ensures.grown after.ensures.assignment after.ensures.trail).0

pub returns-in-Err-NoMemory-clause-told : goal.returns-in-Err-NoMemory-clause-told
returns-in-Err-NoMemory-clause-told c = tt

pub returns-in-Err-NoMemory-clause-grown : goal.returns-in-Err-NoMemory-clause-grown
returns-in-Err-NoMemory-clause-grown c =
    let a = c.args.assignment.now in
    let s = c.args.trail.now.items in
    let after = c.take_back-in-Err-NoMemory in
    let n : c.len-count.result ≡ length s = c.len-count.ensures.value in
    let back = taken_back a c.unify_label.new.assignment after.new.assignment s c.unify_label.new.trail.items after.new.trail.items c.len-count.result n c.in-Err-NoMemory.ensures.grown after.ensures.assignment after.ensures.trail in
    grown_same a after.new.assignment s after.new.trail.items back.0 back.1

pub returns-in-Err-NoMemory-clause-trail : goal.returns-in-Err-NoMemory-clause-trail
returns-in-Err-NoMemory-clause-trail c =
    let s = c.args.trail.now.items in
    let after = c.take_back-in-Err-NoMemory in
    let n : c.len-count.result ≡ length s = c.len-count.ensures.value in
    (taken_back c.args.assignment.now c.unify_label.new.assignment after.new.assignment s c.unify_label.new.trail.items after.new.trail.items c.len-count.result n c.in-Err-NoMemory.ensures.grown after.ensures.assignment after.ensures.trail).1
