-- A pass after turns of its worker.
use Rattle.std.proofs.Common.{◌≡◌, List, [], ◌++◌, sym, refl, ap, ◌∙◌, arith, append_assoc, append-nil}
use Rattle.opt_core.specs.Runs.{commits_of}
use Rattle.opt_core.specs.declared.event.Reply.{Reply}
use Rattle.opt_gate.specs.declared.ask.Ask.{Ask}
use Rattle.opt_gate.specs.Lists.{StartsWith}
use Rattle.opt_gate.specs.Pass.{PassView, GateView, IsPassOf}
use Rattle.opt_gate.specs.Turn.{event_of, pass_after}
use Rattle.opt_worker.specs.Replica.{IsLater}

starts_trans : {A : Type 0} (a b c : List A) → StartsWith a b → StartsWith b c → StartsWith a c
starts_trans a b c p q = (q.0 ++ p.0, p.1 ∙ (ap (λ (x : List _). x ++ p.0) q.1 ∙ append_assoc c q.0 p.0))

module _ {K F R : Type 0} where
  pub later_self : (p : PassView K F R) → IsLater p p
  later_self p = record {
    table = refl;
    key = refl;
    number = refl;
    room = refl;
    knows = ([], sym (append-nil p.knows));
    own = ([], sym (append-nil p.own));
    stops = omega arith;
  }

  pub later_trans : (p q r : PassView K F R) → IsLater p q → IsLater q r → IsLater p r
  later_trans p q r a b = record {
    table = b.table ∙ a.table;
    key = b.key ∙ a.key;
    number = b.number ∙ a.number;
    room = b.room ∙ a.room;
    knows = starts_trans r.knows q.knows p.knows b.knows a.knows;
    own = starts_trans r.own q.own p.own b.own a.own;
    stops = let x = a.stops in let y = b.stops in omega arith;
  }

  -- after a turn
  pub turned : (p q : PassView K F R) (a : Ask F) (r : Reply F R) → q ≡ pass_after p a r q.knows q.ending → StartsWith q.knows p.knows → IsLater p q
  turned p q a r is further = record {
    table = ap (λ (x : PassView K F R). x.table) is;
    key = ap (λ (x : PassView K F R). x.key) is;
    number = ap (λ (x : PassView K F R). x.number) is;
    room = ap (λ (x : PassView K F R). x.room) is;
    knows = further;
    own = (commits_of (event_of p.told a) r, ap (λ (x : PassView K F R). x.own) is);
    stops = let e = ap (λ (x : PassView K F R). x.stops) is in omega arith;
  }

  -- it is of the same gate
  pub still_of : (gate : GateView K) (p q : PassView K F R) → IsPassOf gate p → IsLater p q → IsPassOf gate q
  still_of gate p q of later = (later.table ∙ of.0, later.key ∙ of.1)
