-- Declarations are read again where their parts are.
use Rattle.std.proofs.Common.{◌≡◌, ◌⊎◌, inl, inr, ℕ, suc, List, [], ◌∷◌, ◌++◌, map, flat_map, None, refl, sym, ap, subst, ◌∙◌}
use Rattle.std.specs.List.{AllByRecursion}
use Rattle.gp_tokens.specs.declared.token.Kind.TheVariants as k
use Rattle.gp_tokens.specs.declared.token.Token.{Token}
use Rattle.gp_tokens.specs.Kinds.{same_kind}
use Rattle.gp_values.specs.Names.{Name}
use Rattle.gp_tokens.specs.declared.want.Want.TheVariants as wants
use Rattle.gp_tokens.specs.Wants.{meets}
use Rattle.gp_tokens.specs.Grammar.{Made, shape_of}
use Rattle.gp_tokens.specs.Shape.{Many, none, more}
use Rattle.gp_tokens.specs.SignWants.{open_bracket, close_bracket, equal}
use Rattle.gp_syntax.specs.declared.tree.CommandTree.{CommandTree}
use Rattle.gp_syntax.specs.declared.tree.RuleDecl.{RuleDecl}
use Rattle.gp_syntax.specs.declared.tree.Decl.{Decl}
use Rattle.gp_syntax.specs.declared.tree.Decl.TheVariants as declared
use Rattle.gp_syntax.specs.declared.tree.Decl.TheOpen.{Decl-F}
use Rattle.gp_syntax.specs.declared.tree.Decl.TheFolds.{fold-roll-Decl}
use Rattle.gp_expressions.specs.declared.ranged.Ranged.{Ranged}
use Rattle.gp_expressions.specs.Ranges.{whole, with, both, gathered, first_past, joined, all_joined}
use Rattle.gp_expressions.specs.Expressions.{inner}
use Rattle.gp_program.specs.Rules.{rule}
use Rattle.gp_program.specs.Commands.{commands_of}
use Rattle.gp_program.specs.Programs.{rule_decl, procedure_of, rules, locals, procedure, procedure_group, declarations_in, declarations}
use Rattle.gp_fmt.specs.declared.piece.Piece.{Piece}
use Rattle.gp_fmt.specs.declared.piece.Piece.TheVariants as p
use Rattle.gp_fmt.specs.Commands.{part_of_command, command}
use Rattle.gp_fmt.specs.Rules as printed
use Rattle.gp_fmt.specs.Canonical.{declaration_step, declaration}
use Rattle.gp_fmt.specs.Canonical as canonical
use Rattle.gp_fmt.proofs.Parse.Printed.{Printed, done, split, Reads, Anything, some, made_into, made_reads, one_reads, other_reads, absent_reads, then_takes, behind_takes}
use Rattle.gp_fmt.proofs.Parse.Names.{IsNamed, name_reads}
use Rattle.gp_fmt.proofs.Parse.Rooms.{Roomy, anywhere, becomes, deeper, together, all_roomy, of_lists}
use Rattle.gp_fmt.proofs.Parse.Ranges.{gathered_whole}
use Rattle.gp_fmt.proofs.Parse.Spelling.{AreWell, well_append, well_flat, all_into, flat_map-map, equal_well, open_bracket_well, close_bracket_well}
use Rattle.gp_fmt.proofs.Parse.Labels.{between_takes}
use Rattle.gp_fmt.proofs.Parse.CommandParts.{IsGoodCommand, as_sequence}
use Rattle.gp_fmt.proofs.Parse.Rules.{IsGoodRule, good_rule, rule_well}

abbrev RuleReads : Decl → ℕ → ℕ → Type 0
RuleReads d m n = Reads (declaration d) (shape_of (Made rule_decl (rule m))) (whole d)

abbrev ProcedureReads : Decl → ℕ → ℕ → Type 0
ProcedureReads d m n = Reads (declaration d) (shape_of (procedure m (declarations m n))) (whole d)

abbrev DeclReads : Decl → ℕ → ℕ → Type 0
DeclReads d m n = RuleReads d m n ⊎ ProcedureReads d m n

-- the pieces are well spelled, and read again as the declaration
pub record IsGoodDecl (d : Decl) : Type 0 where
  pub well : AreWell (declaration d)
  pub reads : Roomy (DeclReads d)

-- ---- lists of declarations

module _ (m n : ℕ) where
  -- further declarations: the rules before the next procedure, and each procedure with the rules behind it
  record Behind (ds : List Decl) (ts rest : List Token) : Type 0 where
    mid : List Token
    near : List Decl
    groups : List (Ranged (List Decl))
    near_read : Many (shape_of (Made rule_decl (rule m))) ts mid (map whole near)
    far_read : Many (shape_of (procedure_group m (declarations m n))) mid rest groups
    same : near ++ joined (map (λ (r : Ranged (List Decl)). r.tree) groups) ≡ ds
    in_range : first_past groups ≡ None

  group_read : (d : Decl) (near : List Decl) (ts mid rest : List Token) → shape_of (procedure m (declarations m n)) ts mid (whole d) → Many (shape_of (Made rule_decl (rule m))) mid rest (map whole near)
      → shape_of (procedure_group m (declarations m n)) ts rest (whole (d ∷ near))
  unfolding procedure_group rules
  group_read d near ts mid rest h hs =
      subst (λ (g : Ranged (List Decl)). shape_of (procedure_group m (declarations m n)) ts rest (both (λ (d : Decl) (ds : List Decl). d ∷ ds) (whole d) g)) (gathered_whole near)
      (record { of = (whole d, gathered (map whole near)); shape = record { mid = mid; first = h; second = record { of = map whole near; shape = hs; made = refl } }; made = refl })

  one_more : (d : Decl) (ds : List Decl) (ts mid rest : List Token) → DeclReads d m n → Printed (declaration d) ts mid → Behind ds mid rest → Behind (d ∷ ds) ts rest
  unfolding joined first_past
  one_more d ds ts mid rest (inl r) q b =
      record { mid = b.mid; near = d ∷ b.near; groups = b.groups; near_read = more (r ts mid q) b.near_read; far_read = b.far_read; same = ap (λ (l : List Decl). d ∷ l) b.same; in_range = b.in_range }
  one_more d ds ts mid rest (inr r) q b = record {
    mid = ts;
    near = [];
    groups = whole (d ∷ b.near) ∷ b.groups;
    near_read = none;
    far_read = more (group_read d b.near ts mid b.mid (r ts mid q) b.near_read) b.far_read;
    same = ap (λ (l : List Decl). d ∷ l) b.same;
    in_range = b.in_range;
  }

  further : (ds : List Decl) → AllByRecursion (λ d. DeclReads d m n) ds → (ts rest : List Token) → Printed (flat_map declaration ds) ts rest → Behind ds ts rest
  unfolding joined first_past
  further [] hs ts _ done = record { mid = ts; near = []; groups = []; near_read = none; far_read = none; same = refl; in_range = refl }
  further (d ∷ ds) hs ts rest q =
      let s = split (declaration d) (flat_map declaration ds) ts rest q in
      one_more d ds ts s.0 rest hs.0 s.1 (further ds hs.1 s.0 rest s.2)

  pub list_read : (ds : List Decl) → AllByRecursion (λ d. DeclReads d m n) ds → Reads (flat_map declaration ds) (shape_of (declarations_in m (declarations m n))) (whole ds)
  unfolding declarations_in rules
  list_read ds hs ts rest q =
      let b = further ds hs ts rest q in
      let one : whole ds ≡ all_joined (whole b.near ∷ b.groups) = λ i. record { tree = sym b.same i; past = sym b.in_range i } in
      record {
        of = (gathered (map whole b.near), b.groups);
        shape = record { mid = b.mid; first = record { of = map whole b.near; shape = b.near_read; made = refl }; second = b.far_read };
        made = one ∙ ap (λ (g : Ranged (List Decl)). all_joined (g ∷ b.groups)) (sym (gathered_whole b.near));
      }

abbrev ListReads : List Decl → ℕ → ℕ → Type 0
ListReads ds m n = Reads (flat_map declaration ds) (shape_of (declarations_in m (declarations m n))) (whole ds)

pub good_list : (ds : List Decl) → AllByRecursion IsGoodDecl ds → Roomy (λ m n. Reads (flat_map declaration ds) (shape_of (declarations_in m (declarations m n))) (whole ds))
good_list ds hs =
    becomes (λ m n. AllByRecursion (λ d. DeclReads d m n) ds) (ListReads ds) (λ m n r. list_read m n ds r)
    (all_roomy DeclReads ds (all_into IsGoodDecl (λ d. Roomy (DeclReads d)) (λ d h. h.reads) ds hs))

pub list_well : (ds : List Decl) → AllByRecursion IsGoodDecl ds → AreWell (flat_map declaration ds)
list_well ds hs = well_flat declaration ds (all_into IsGoodDecl (λ d. AreWell (declaration d)) (λ d h. h.well) ds hs)

-- ---- rules

rule_is : (r : RuleDecl) → declaration (declared.Rule r) ≡ printed.rule r
unfolding declaration
rule_is r = ap declaration (sym (declared.rolls-Rule r)) ∙ fold-roll-Decl (List Piece) declaration_step (Decl-F.Rule r)

pub good_rule_decl : (r : RuleDecl) → IsGoodRule r → IsGoodDecl (declared.Rule r)
good_rule_decl r h = record {
  well = subst AreWell (sym (rule_is r)) (rule_well r h);
  reads = becomes (λ m n. Reads (printed.rule r) (shape_of (rule m)) (whole r)) (DeclReads (declared.Rule r))
      (λ m n q. inl (subst (λ (ps : List Piece). Reads ps (shape_of (Made rule_decl (rule m))) (whole (declared.Rule r))) (sym (rule_is r)) (made_reads (printed.rule r) rule_decl _ (whole r) q))) (good_rule r h);
}

-- ---- procedures

abbrev locals_pieces : List Decl → List Piece
locals_pieces [] = []
locals_pieces (d ∷ ds) = p.Sign k.OpenBracket ∷ flat_map declaration (d ∷ ds) ++ p.Sign k.CloseBracket ∷ []

locals_are : (ds : List Decl) → canonical.locals (map declaration ds) ≡ locals_pieces ds
locals_are [] = refl
locals_are (d ∷ ds) = ap (λ (l : List Piece). p.Sign k.OpenBracket ∷ l ++ p.Sign k.CloseBracket ∷ []) (flat_map-map (λ (x : List Piece). x) declaration (d ∷ ds))

locals_well : (ds : List Decl) → AllByRecursion IsGoodDecl ds → AreWell (locals_pieces ds)
locals_well [] hs = tt
locals_well (d ∷ ds) hs = (open_bracket_well, well_append (flat_map declaration (d ∷ ds)) (p.Sign k.CloseBracket ∷ []) (list_well (d ∷ ds) hs) (close_bracket_well, tt))

no_locals : (m n : ℕ) → Reads [] (shape_of (locals (declarations m n))) (whole [])
unfolding locals
no_locals m n = other_reads _ _ _ _ (absent_reads (whole []))

some_locals : (m n : ℕ) (ds : List Decl) → ListReads ds m n → Reads (p.Sign k.OpenBracket ∷ flat_map declaration ds ++ p.Sign k.CloseBracket ∷ []) (shape_of (locals (declarations m (suc n)))) (whole ds)
unfolding locals declarations meets same_kind
some_locals m n ds r =
    one_reads _ _ _ _ (made_into _ inner _ (λ (x : Token × (Ranged (List Decl) × Token)). (x.1.0 ≡ whole ds) × Anything x.1.1) (whole ds) (λ x j. j.0)
    (between_takes (p.Sign k.OpenBracket) (p.Sign k.CloseBracket) open_bracket close_bracket (λ start. refl) (λ start. refl) (flat_map declaration ds) _ (λ x. x ≡ whole ds) (some _ _ (whole ds) r)))

abbrev LocalsRead : List Decl → ℕ → ℕ → Type 0
LocalsRead ds m n = Reads (locals_pieces ds) (shape_of (locals (declarations m n))) (whole ds)

good_locals : (ds : List Decl) → AllByRecursion IsGoodDecl ds → Roomy (LocalsRead ds)
good_locals [] hs = anywhere (LocalsRead []) (λ m n. no_locals m n)
good_locals (d ∷ ds) hs = deeper (ListReads (d ∷ ds)) (LocalsRead (d ∷ ds)) (λ m n r. some_locals m n (d ∷ ds) r) (good_list (d ∷ ds) hs)

abbrev procedure_pieces : Name → List Decl → CommandTree → List Piece
procedure_pieces r ds body = p.Name r ∷ p.Sign k.Equal ∷ (locals_pieces ds ++ command body)

procedure_is : (r : Name) (ds : List Decl) (body : CommandTree) → declaration (declared.Procedure r ds body) ≡ procedure_pieces r ds body
unfolding declaration
procedure_is r ds body =
    ap declaration (sym (declared.rolls-Procedure r ds body)) ∙ (fold-roll-Decl (List Piece) declaration_step (Decl-F.Procedure r ds body)
    ∙ ap (λ (l : List Piece). p.Name r ∷ p.Sign k.Equal ∷ (l ++ command body)) (locals_are ds))

procedure_reads : (m n : ℕ) (r : Name) (ds : List Decl) (body : CommandTree) → IsNamed wants.ProcedureName r → LocalsRead ds m n → Reads (command body) (shape_of (commands_of m)) body
    → Reads (procedure_pieces r ds body) (shape_of (procedure m (declarations m n))) (whole (declared.Procedure r ds body))
unfolding procedure meets same_kind
procedure_reads m n r ds body h l b =
    made_into _ procedure_of _ (λ (x : Name × (Token × (Ranged (List Decl) × CommandTree))). (x.0 ≡ r) × ((x.1.1.0 ≡ whole ds) × (x.1.1.1 ≡ body))) (whole (declared.Procedure r ds body))
    (λ x j i. with (λ (ds : List Decl). declared.Procedure (j.0 i) ds (j.1.1 i)) (j.1.0 i))
    (then_takes (p.Name r ∷ []) (p.Sign k.Equal ∷ (locals_pieces ds ++ command body)) _ _ (λ x. x ≡ r) (λ (x : Token × (Ranged (List Decl) × CommandTree)). (x.1.0 ≡ whole ds) × (x.1.1 ≡ body)) (some _ _ r (name_reads wants.ProcedureName r h))
    (behind_takes (p.Sign k.Equal) (locals_pieces ds ++ command body) equal _ (λ (x : Ranged (List Decl) × CommandTree). (x.0 ≡ whole ds) × (x.1 ≡ body)) (λ start. refl)
    (then_takes (locals_pieces ds) (command body) _ _ (λ x. x ≡ whole ds) (λ x. x ≡ body) (some _ _ (whole ds) l) (some _ _ body b))))

pub good_procedure_decl : (r : Name) (ds : List Decl) (body : CommandTree) → IsNamed wants.ProcedureName r → AllByRecursion IsGoodDecl ds → IsGoodCommand body → IsGoodDecl (declared.Procedure r ds body)
good_procedure_decl r ds body h hs b = record {
  well = subst AreWell (sym (procedure_is r ds body)) (h.word, (equal_well, well_append (locals_pieces ds) (command body) (locals_well ds hs) b.well));
  reads = becomes (λ m n. LocalsRead ds m n × Reads (command body) (shape_of (commands_of m)) body) (DeclReads (declared.Procedure r ds body))
      (λ m n q. inr (subst (λ (ps : List Piece). Reads ps (shape_of (procedure m (declarations m n))) (whole (declared.Procedure r ds body))) (sym (procedure_is r ds body)) (procedure_reads m n r ds body h q.0 q.1)))
      (together (LocalsRead ds) (λ m n. Reads (command body) (shape_of (commands_of m)) body) (good_locals ds hs)
      (of_lists (λ m. Reads (command body) (shape_of (commands_of m)) body) (as_sequence (part_of_command body) body b)));
}
