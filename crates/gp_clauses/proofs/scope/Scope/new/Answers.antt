use Rattle.std.proofs.Common.{refl, Some}
use Rattle.gp_syntax.specs.Tree.{declaration_of}
use Rattle.gp_clauses.proofs.Scopes.{declared_are, left_are}
use Rattle.gp_clauses.proofs.scope.Scope.new.Goals as goal

pub returns : goal.returns
returns c =
    let d = declaration_of c.args.rule.now in
    record {
      declared = declared_are d c.args.rule.now.variables _ refl c.requires (rw c.as_slice.ensures at c.in_ok-declared.ensures);
      left = left_are d c.args.rule.now.variables _ (Some (record { ref_ptr = (0, 0); now = c.add_side.new.table })) c.add_side.new.table (rw c.as_slice-2.ensures at c.in_ok-left.ensures) refl c.requires (λ n. refl) (rw c.new-standing.ensures at c.in_ok-add_side.ensures);
    }
