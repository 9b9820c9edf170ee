-- Declarations and programs, nested no deeper than their texts.
use Rattle.std.proofs.Common.{◌≡◌, ℕ, zero, suc, true, false, List, [], ◌∷◌, ◌++◌, map, refl, sym, ◌∙◌, ap, subst, append-nil}
use Rattle.std.specs.Prelude.{flat_map}
use Rattle.std.proofs.lemmas.List.Concat.{flat_map-append}
use Rattle.gp_tokens.specs.declared.token.Token.{Token}
use Rattle.gp_tokens.specs.declared.token.Kind.TheVariants as k
use Rattle.gp_values.specs.Names.{Name}
use Rattle.gp_tokens.specs.declared.want.Want.TheVariants as wants
use Rattle.gp_tokens.specs.Grammar.{Grammar, shape_of}
use Rattle.gp_tokens.specs.Shape.{one, other, absent}
use Rattle.gp_tokens.specs.SignWants.{equal}
use Rattle.gp_syntax.specs.declared.tree.Ast.{Ast}
use Rattle.gp_syntax.specs.declared.tree.CommandTree.{CommandTree}
use Rattle.gp_syntax.specs.declared.tree.RuleDecl.{RuleDecl}
use Rattle.gp_syntax.specs.declared.tree.Decl.{Decl}
use Rattle.gp_syntax.specs.declared.tree.Decl.TheVariants as declared
use Rattle.gp_expressions.specs.declared.ranged.Ranged.{Ranged}
use Rattle.gp_expressions.specs.Ranges.{gathered, joined}
use Rattle.gp_program.specs.Programs.{rule_decl, procedure_first, rules_first, rules, locals, procedure, procedure_group, declarations_in, declarations, ast_of, program}
use Rattle.gp_program.specs.declared.depth.Role.{Role}
use Rattle.gp_program.specs.declared.depth.Role.TheVariants as role
use Rattle.gp_fmt.specs.declared.piece.Piece.TheVariants as p
use Rattle.gp_fmt.specs.Commands.{command}
use Rattle.gp_fmt.specs.Canonical.{declaration, locals as local_pieces, pieces_of}
use Rattle.gp_fmt.proofs.Deep.Roles.{roles, roles_append, name_role}
use Rattle.gp_fmt.proofs.Deep.Quiet.{quiet_equal, quiet_procedure_name}
use Rattle.gp_fmt.proofs.Deep.Texts.{IsDeeper, then_deeper, dropped_deeper, recast, wrap, wrapped_deeper, Covers, other_covers, opening_covers, closing_covers, name_covers, then_covers, made_covers, many_covers}
use Rattle.gp_fmt.proofs.Forms.{of-Declared, of-Rule}
use Rattle.gp_fmt.proofs.Deep.Parts.{tree_of, flat_mapped}
use Rattle.gp_fmt.proofs.Deep.Commands.{command_roles, commands_covers}
use Rattle.gp_fmt.proofs.Deep.Rules.{roles_flat, rule_covers}

abbrev declaration_roles : Ranged Decl → List Role
declaration_roles r = roles (declaration r.tree)

abbrev all_roles : Ranged (List Decl) → List Role
all_roles r = roles (flat_map declaration r.tree)

-- ---- rules

rules_covers : (room : ℕ) → Covers false 0 0 (shape_of (rules room)) all_roles
unfolding rules
rules_covers room =
    made_covers gathered all_roles (λ rs. roles_flat declaration tree_of rs) (many_covers (made_covers rule_decl declaration_roles (λ (r : Ranged RuleDecl). ap roles (sym (of-Rule r.tree))) (rule_covers room)))

-- ---- procedures

bracket_roles : (d : Decl) (ds : List Decl) → wrap (roles (flat_map declaration (d ∷ ds))) ≡ roles (local_pieces (map declaration (d ∷ ds)))
bracket_roles d ds =
    ap (λ m. role.Opening ∷ m) (sym (roles_append (flat_map declaration (d ∷ ds)) (p.Sign k.CloseBracket ∷ [])) ∙ ap (λ m. roles (m ++ p.Sign k.CloseBracket ∷ [])) (flat_mapped (λ x. x) declaration (d ∷ ds)))

procedure_roles : (n : Name) (ds : List Decl) (body : CommandTree) → ((name_role n ∷ role.Other ∷ []) ++ roles (local_pieces (map declaration ds))) ++ command_roles body ≡ roles (declaration (declared.Procedure n ds body))
procedure_roles n ds body =
    let l = p.Name n ∷ p.Sign k.Equal ∷ local_pieces (map declaration ds) in
    sym (roles_append l (command body)) ∙ ap roles (sym (of-Declared n ds body))

module _ (room : ℕ) (inside : Grammar (Ranged (List Decl))) (g : Covers false 0 0 (shape_of inside) all_roles) where
  -- behind what stands before them
  locals_deeper : {ps : List Role} (ts mid rest : List Token) (r : Ranged (List Decl)) → IsDeeper true 0 0 ps ts mid → shape_of (locals inside) mid rest r → IsDeeper true 0 0 (ps ++ roles (local_pieces (map declaration r.tree))) ts rest
  unfolding locals
  locals_deeper {ps} ts mid rest r f (one d) =
      let o = (opening_covers k.OpenBracket 0 (λ n. refl)).covers mid d.shape.mid d.of.0 f.left d.shape.first in
      let i = g.covers d.shape.mid d.shape.second.mid d.of.1.0 o.left d.shape.second.first in
      let c = (closing_covers k.CloseBracket 0 (λ n. refl)).covers d.shape.second.mid rest d.of.1.1 i.left d.shape.second.second in
      subst (λ (z : Ranged (List Decl)). IsDeeper true 0 0 (ps ++ roles (local_pieces (map declaration z.tree))) ts rest) (sym d.made) (go d.of.1.0.tree (wrapped_deeper o i c))
    where
      go : (ds : List Decl) → IsDeeper true 0 0 (wrap (roles (flat_map declaration ds))) mid rest → IsDeeper true 0 0 (ps ++ roles (local_pieces (map declaration ds))) ts rest
      go [] w = recast (sym (append-nil ps)) (dropped_deeper f w)
      go (d ∷ ds) w = recast (ap (λ m. ps ++ m) (bracket_roles d ds)) (then_deeper f w)
  locals_deeper {ps} ts mid _ _ f (other absent) = recast (sym (append-nil ps)) f

  procedure_covers : Covers true 0 0 (shape_of (procedure room inside)) declaration_roles
  unfolding procedure
  procedure_covers = record {
    covers = λ ts rest y s d.
        let a = (name_covers wants.ProcedureName 0 refl quiet_procedure_name).covers ts d.shape.mid d.of.0 s d.shape.first in
        let f = d.shape.second in
        let b = (other_covers equal 0 quiet_equal).covers d.shape.mid f.mid d.of.1.0 a.left f.first in
        let l = locals_deeper ts f.mid f.second.mid d.of.1.1.0 (then_deeper a b) f.second.first in
        let c = (commands_covers room).covers f.second.mid rest d.of.1.1.1 l.left f.second.second in
        recast (procedure_roles d.of.0 d.of.1.1.0.tree d.of.1.1.1 ∙ ap declaration_roles (sym d.made)) (then_deeper l c);
  }

  group_covers : Covers false 0 0 (shape_of (procedure_group room inside)) all_roles
  unfolding procedure_group
  group_covers = made_covers procedure_first all_roles (λ x. sym (roles_append (declaration x.0.tree) (flat_map declaration x.1.tree))) (then_covers procedure_covers (rules_covers room))

  groups_roles : (gs : List (Ranged (List Decl))) → flat_map all_roles gs ≡ roles (flat_map declaration (joined (map tree_of gs)))
  unfolding joined
  groups_roles [] = refl
  groups_roles (r ∷ gs) =
      let more = joined (map tree_of gs) in
      ap (λ m. all_roles r ++ m) (groups_roles gs) ∙ sym (roles_append (flat_map declaration r.tree) (flat_map declaration more)) ∙ ap roles (sym (flat_map-append declaration r.tree more))

  first_roles : (x : Ranged (List Decl) × List (Ranged (List Decl))) → all_roles x.0 ++ flat_map all_roles x.1 ≡ all_roles (rules_first x)
  first_roles x =
      let more = joined (map tree_of x.1) in
      ap (λ m. all_roles x.0 ++ m) (groups_roles x.1) ∙ sym (roles_append (flat_map declaration x.0.tree) (flat_map declaration more)) ∙ ap roles (sym (flat_map-append declaration x.0.tree more))

  declarations_in_covers : Covers false 0 0 (shape_of (declarations_in room inside)) all_roles
  unfolding declarations_in
  declarations_in_covers = made_covers rules_first all_roles first_roles (then_covers (rules_covers room) (many_covers group_covers))

-- ---- at each room

declarations_covers : (room n : ℕ) → Covers false 0 0 (shape_of (declarations room n)) all_roles
unfolding declarations
declarations_covers room zero = record { covers = λ ts rest x s d. absurd d }
declarations_covers room (suc n) = declarations_in_covers room (declarations room n) (declarations_covers room n)

pub program_covers : (room : ℕ) → Covers false 0 0 (shape_of (program room)) (λ (r : Ranged Ast). roles (pieces_of r.tree))
unfolding program
program_covers room = made_covers ast_of _ (λ r. refl) (declarations_in_covers room (declarations room room) (declarations_covers room room))
