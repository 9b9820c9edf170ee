-- Each text has a graph or a fault.
use Rattle.std.proofs.Common.{◌≡◌, ℕ, ℤ, pos, zero, suc, ◌^◌, ◌<◌, ◌≤◌, Bool, true, false, List, [], ◌∷◌, Option, Some, None, Err, refl, sym, subst, arith}
use Rattle.std.specs.Prelude.{FitsSigned, neg_ℤ, nat_le, nat_lt, if◌then◌else◌, option_map}
use Rattle.std.specs.Int.{w128}
use Rattle.std.proofs.lemmas.Bool.{leb-true, ltb-true}
use Rattle.std.proofs.lemmas.List.Elements.{All-nil, All-cons}
use Rattle.gp_memory.proofs.Basics.{some_is}
use Rattle.gp_tokens.specs.declared.fault.LexFault.{LexFault}
use Rattle.gp_tokens.specs.declared.fault.LexFault.TheVariants as lex_faults
use Rattle.gp_tokens.specs.declared.token.Token.{Token}
use Rattle.gp_tokens.specs.Cut.{IsStuck, bad_byte, bad_byte_in_string, open_string, open_comment, number_too_long, IsFaultFrom, here, later}
use Rattle.gp_tokens.specs.Lexed.{tokens_of}
use Rattle.gp_tokens.proofs.Cuts.{fault_of}
use Rattle.gp_tokens.specs.Grammar.{shape_of}
use Rattle.gp_tokens.specs.Numerals.{signed}
use Rattle.gp_tokens.specs.Shape.{Is, ◌then◌, Made, Many, one, other, none, more, second_of}
use Rattle.gp_tokens.specs.SignWants.{colon}
use Rattle.gp_tokens.proofs.Shapes.{bind_some}
use Rattle.gp_values.specs.declared.atom.Atom.{Atom}
use Rattle.gp_values.specs.declared.atom.Atom.TheVariants.{Int, Str}
use Rattle.gp_values.specs.Atoms.{IsAtom, AreAtoms}
use Rattle.gp_values.specs.Texts.{IsText}
use Rattle.gp_hostfile.specs.declared.tree.AtomTree.{AtomTree}
use Rattle.gp_hostfile.specs.declared.tree.AtomTree.TheVariants as atoms
use Rattle.gp_hostfile.specs.declared.tree.NodeTree.{NodeTree}
use Rattle.gp_hostfile.specs.declared.tree.EdgeTree.{EdgeTree}
use Rattle.gp_hostfile.specs.Grammar.{negative, atom, atom_list, label, node, edge}
use Rattle.gp_hostfile.specs.Host.{atom_of, atoms_of}

-- ---- the lexer is never in want of memory

stuck_for_no_memory : (at : ℕ) (text : List ℕ) (e : LexFault) → IsStuck at text e → e ≡ lex_faults.NoMemory → ⊥
stuck_for_no_memory at _ _ (bad_byte a b c d) h = cc
stuck_for_no_memory at _ _ (bad_byte_in_string i b t p q r) h = cc
stuck_for_no_memory at _ _ (open_string p) h = cc
stuck_for_no_memory at _ _ (open_comment p) h = cc
stuck_for_no_memory at _ _ (number_too_long t b p q r) h = cc

fault_is_no_memory : (source : List ℕ) (at : ℕ) (e : LexFault) → IsFaultFrom source at e → e ≡ lex_faults.NoMemory → ⊥
fault_is_no_memory source at e (here le g s) h = stuck_for_no_memory _ _ e s h
fault_is_no_memory source at e (later le g t rest) h = fault_is_no_memory source _ e rest h

pub some_fault : (bytes : List ℕ) (e : LexFault) → tokens_of bytes ≡ Err e → e ≡ lex_faults.NoMemory → ⊥
some_fault bytes e h = fault_is_no_memory bytes 0 e (fault_of bytes e h)

-- ---- the strings of a tree are texts

abbrev pub HasText : AtomTree → Type 0
HasText (atoms.Number negative start value) = Unit {0}
HasText (atoms.String s) = IsText s

abbrev pub AllTexts : List AtomTree → Type 0
AllTexts [] = Unit {0}
AllTexts (a ∷ label) = HasText a × AllTexts label

atom_text : (ts rest : List Token) (a : AtomTree) → shape_of atom ts rest a → HasText a
unfolding atom
atom_text ts rest a (one h) = subst HasText (sym h.made) tt
atom_text ts rest a (other (one h)) = subst HasText (sym h.made) tt
atom_text ts rest a (other (other h)) = subst HasText (sym h.made) h.shape.text

more_texts : (ts rest : List Token) (label : List AtomTree) → Many (Made second_of (Is colon then shape_of atom)) ts rest label → AllTexts label
more_texts ts _ _ none = tt
more_texts ts rest _ (more {mid = mid} {x = x} h hs) = (subst HasText (sym h.made) (atom_text _ _ _ h.shape.second), more_texts mid rest _ hs)

list_texts : (ts rest : List Token) (label : List AtomTree) → shape_of atom_list ts rest label → AllTexts label
unfolding atom_list
list_texts ts rest xs (one h) = subst AllTexts (sym h.made) tt
list_texts ts rest xs (other h) = subst AllTexts (sym h.made) (atom_text _ _ _ h.shape.first, more_texts _ _ _ h.shape.second)

node_texts : (ts rest : List Token) (n : NodeTree) → shape_of node ts rest n → AllTexts n.label
unfolding node label
node_texts ts rest n h = subst (λ (n : NodeTree). AllTexts n.label) (sym h.made) (list_texts _ _ _ h.shape.second.second.second.second.first.first)

edge_texts : (ts rest : List Token) (e : EdgeTree) → shape_of edge ts rest e → AllTexts e.label
unfolding edge label
edge_texts ts rest e h = subst (λ (e : EdgeTree). AllTexts e.label) (sym h.made) (list_texts _ _ _ h.shape.second.second.second.second.second.second.second.first.first)

abbrev pub NodeTexts : List NodeTree → Type 0
NodeTexts [] = Unit {0}
NodeTexts (n ∷ ns) = AllTexts n.label × NodeTexts ns

abbrev pub EdgeTexts : List EdgeTree → Type 0
EdgeTexts [] = Unit {0}
EdgeTexts (e ∷ es) = AllTexts e.label × EdgeTexts es

pub nodes_texts : (ts rest : List Token) (ns : List NodeTree) → Many (shape_of node) ts rest ns → NodeTexts ns
nodes_texts ts _ _ none = tt
nodes_texts ts rest _ (more {mid = mid} h hs) = (node_texts ts mid _ h, nodes_texts mid rest _ hs)

pub edges_texts : (ts rest : List Token) (es : List EdgeTree) → Many (shape_of edge) ts rest es → EdgeTexts es
edges_texts ts _ _ none = tt
edges_texts ts rest _ (more {mid = mid} h hs) = (edge_texts ts mid _ h, edges_texts mid rest _ hs)

-- ---- and its values are atoms

within : {A : Type 0} (b : Bool) (x y : A) → (if b then Some x else None) ≡ Some y → (b ≡ true) × (x ≡ y)
within true x y h = (refl, some_is x y h)
within false x y h = absurd cc

signed_fits : (negative : Bool) (n : ℕ) (z : ℤ) → signed negative n ≡ Some z → FitsSigned w128 z
signed_fits false n z h = let p = within (nat_lt n (2 ^ 127)) (pos n) z h in let lt : n < 2 ^ 127 = ltb-true n (2 ^ 127) p.0 in subst (FitsSigned w128) p.1 (record { sfits = lt })
signed_fits true zero z h = let p = within (nat_le 0 (2 ^ 127)) (neg_ℤ (pos 0)) z h in subst (FitsSigned w128) p.1 (record { sfits = omega arith })
signed_fits true (suc n) z h = let p = within (nat_le (suc n) (2 ^ 127)) (neg_ℤ (pos (suc n))) z h in let le : suc n ≤ 2 ^ 127 = leb-true (suc n) (2 ^ 127) p.0 in subst (FitsSigned w128) p.1 (record { sfits = le })

mapped : {A B : Type 0} (f : A → B) (o : Option A) (y : B) → option_map f o ≡ Some y → (x : A) × (o ≡ Some x) × (f x ≡ y)
mapped f None y h = absurd cc
mapped f (Some x) y h = (x, refl, some_is (f x) y h)

value_is_atom : (a : AtomTree) (x : Atom) → HasText a → atom_of a ≡ Some x → IsAtom x
value_is_atom (atoms.Number negative start value) x t h = let p = mapped Int (signed negative value) x h in subst IsAtom p.2 (signed_fits negative value p.0 p.1)
value_is_atom (atoms.String s) x t h = subst IsAtom (some_is (Str s) x h) t

pub values_are_atoms : (label : List AtomTree) (v : List Atom) → AllTexts label → atoms_of label ≡ Some v → AreAtoms v
values_are_atoms [] v t h = subst AreAtoms (some_is [] v h) (All-nil IsAtom)
values_are_atoms (a ∷ label) v t h =
    let x = bind_some (atom_of a) (λ x. option_map (λ xs. x ∷ xs) (atoms_of label)) v h in
    let xs = mapped (λ xs. x.0 ∷ xs) (atoms_of label) v x.2 in
    subst AreAtoms xs.2 (All-cons IsAtom x.0 xs.0 (value_is_atom a x.0 t.0 x.1) (values_are_atoms label xs.0 t.1 xs.1))
