-- A canonical text is read again, and means what the text meant that its tree comes from.
use Rattle.std.proofs.Common.{ℕ, List, ap, subst}
use Rattle.gp_syntax.specs.declared.tree.Ast.{Ast}
use Rattle.gp_syntax.specs.Run.{Program}
use Rattle.gp_program.specs.Laws.{TokensHaveOneTree}
use Rattle.gp_reader.specs.declared.fault.ProgramFault.{ProgramFault}
use Rattle.gp_reader.specs.Program.{HasTree, IsProgramText, IsFaultyText, treeless, scope, rule}
use Rattle.gp_reader.proofs.Unique.{same_tree, no_tree_fault}
use Rattle.gp_fmt.specs.Canonical.{canonical_text}
use Rattle.gp_fmt.specs.Laws.{CanonicalTextsAreRead, CanonicalTextsMeanTheSame, CanonicalTextsStay}
use Rattle.gp_fmt.proofs.Cut.Whole.{all_cut, all_spelled}
use Rattle.gp_fmt.proofs.Deep.Whole.{no_deeper}
use Rattle.gp_fmt.proofs.Parse.Whole.{all_well_spelled, read_again}

pub are_read : CanonicalTextsAreRead
are_read text ast h =
    let spelled = all_spelled text h.tokens h.has_tokens.lexed in
    let c = all_cut ast.declarations (all_well_spelled h.tokens ast spelled h.is_tree) in
    record {
      tokens = c.0;
      cut = c.1;
      are = c.2;
      shallow = no_deeper h.tokens c.0 ast spelled h.is_tree h.has_tokens.shallow c.2;
      is_tree = read_again h.tokens c.0 ast spelled h.is_tree c.2;
    }

-- the canonical text has the tree of the text
canonical_tree : (text : List ℕ) (ast : Ast) → HasTree text ast → HasTree (canonical_text ast) ast
canonical_tree text ast h =
    let a = are_read text ast h in
    record { tokens = a.tokens; has_tokens = record { lexed = a.cut; shallow = a.shallow }; is_tree = a.is_tree }

-- ---- texts of one tree

module _ (one_tree : TokensHaveOneTree) (text other : List ℕ) (ast : Ast) (h : HasTree text ast) (k : HasTree other ast) where
  -- a tree of the text is one of the other
  moves : (t : Ast) → HasTree text t → HasTree other t
  moves t a = subst (HasTree other) (same_tree one_tree text ast t h a) k

  program_moves : (p : Program) → IsProgramText text p → IsProgramText other p
  program_moves p a = record {
    tree = a.tree;
    scoped = record { has_tree = moves a.tree a.scoped.has_tree; faultless = a.scoped.faultless };
    checked = a.checked;
    is = a.is;
  }

  fault_moves : (f : ProgramFault) → IsFaultyText text f → IsFaultyText other f
  fault_moves _ (treeless f) = absurd (no_tree_fault one_tree text ast _ h f)
  fault_moves _ (scope tree a fault told) = scope tree (moves tree a) fault told
  fault_moves _ (rule tree a first refuses known) = rule tree (record { has_tree = moves tree a.has_tree; faultless = a.faultless }) first refuses known

-- ---- the laws

pub mean_the_same : TokensHaveOneTree → CanonicalTextsMeanTheSame
mean_the_same one_tree = record {
  program = λ text ast p h. (program_moves one_tree text (canonical_text ast) ast h (canonical_tree text ast h) p, program_moves one_tree (canonical_text ast) text ast (canonical_tree text ast h) h p);
  fault = λ text ast f h. (fault_moves one_tree text (canonical_text ast) ast h (canonical_tree text ast h) f, fault_moves one_tree (canonical_text ast) text ast (canonical_tree text ast h) h f);
}

pub stay : TokensHaveOneTree → CanonicalTextsStay
stay one_tree text ast again h k = ap canonical_text (same_tree one_tree (canonical_text ast) again ast k (canonical_tree text ast h))
