-- A string pattern, matched and not.
use Rattle.std.proofs.Common.{◌≡◌, ℕ, zero, suc, ◌+◌, ◌<◌, true, false, List, [], ◌∷◌, ◌++◌, length, get_or, codes, refl, ap, arith, length-append}
use Rattle.std.specs.Prelude.{pos}
use Rattle.gp_values.specs.declared.atom.Atom.{Atom}
use Rattle.gp_values.specs.declared.atom.Atom.TheVariants.{Int, Str}
use Rattle.gp_values.specs.declared.marks.NodeMark.TheVariants as node_marks
use Rattle.gp_values.specs.Graph.{Node}
use Rattle.gp_syntax.specs.declared.kinds.VariableType.TheVariants as types
use Rattle.gp_syntax.specs.Expression.{Expression, Text, Variable, Dot, Join}
use Rattle.gp_syntax.specs.Value.{Assignment, Value, is_of, characters}
use Rattle.gp_syntax.specs.Rule.{Found}
use Rattle.gp_syntax.specs.Match.{MatchBy}
use Rattle.gp_syntax.specs.Step.{Step}
use Rattle.gp_syntax.specs.Rows.{at_first, cut, left, unmarked, with_label, StringPatterns}
use Rattle.gp_syntax.proofs.Small.{step_made, only_image, blocked_alone}

abbrev pattern : Expression ℕ
pattern = Dot (Dot (Text (codes "a")) (Variable 0)) (Variable 1)

abbrev node : List Atom → Node
node v = record { label = v; mark = node_marks.None; root = false }

both_typed : (s : List ℕ) (c i : ℕ) → i < 2 → is_of (get_or (types.String ∷ types.Char ∷ []) i types.List) (get_or ((Str s ∷ []) ∷ (Str (c ∷ []) ∷ []) ∷ []) i []) ≡ true
both_typed s c zero l = refl
both_typed s c (suc zero) l = refl
both_typed s c (suc (suc i)) l = absurd (omega arith)

cuts : (s : List ℕ) (c : ℕ) → Step cut (with_label (Str ((codes "a" ++ s) ++ c ∷ []) ∷ [])) (at_first 0) (with_label (Str s ∷ Str (c ∷ []) ∷ []))
cuts s c =
    step_made (types.String ∷ types.Char ∷ []) ((Str s ∷ []) ∷ (Str (c ∷ []) ∷ []) ∷ []) pattern unmarked false (Join (Variable 0) (Variable 1)) unmarked false
    (node (Str ((codes "a" ++ s) ++ c ∷ []) ∷ [])) (node (Str s ∷ Str (c ∷ []) ∷ [])) 0 refl (both_typed s c) refl refl refl refl refl refl

one_character : (v : List Atom) → is_of types.Char v ≡ true → length (characters v) ≡ 1
one_character (Str (c ∷ []) ∷ []) h = refl
one_character other h = absurd cc

text_same : {s t : List ℕ} → Value (Str s ∷ []) ≡ Value (Str t ∷ []) → s ≡ t
text_same e = cc

too_short : (m : Found) (a : Assignment) → MatchBy cut (with_label (Str (codes "a") ∷ [])) m a → ⊥
too_short m a h =
    let f = only_image (node (Str (codes "a") ∷ [])) 0 (left pattern unmarked false) h refl in
    let one : length (characters (get_or a 1 [])) ≡ 1 = one_character (get_or a 1 []) (h.in_types 1 (let l : 1 < 2 = omega arith in l)) in
    let first = characters (get_or a 0 []) in
    let l : length ((codes "a" ++ first) ++ characters (get_or a 1 [])) ≡ 1 = ap length (text_same f.label) in
    let m = length-append (codes "a" ++ first) (characters (get_or a 1 [])) in
    let n : length (codes "a" ++ first) ≡ 1 + length first = length-append (codes "a") first in
    omega arith

no_string : (m : Found) (a : Assignment) → MatchBy cut (with_label (Int (pos 1) ∷ [])) m a → ⊥
no_string m a h =
    let f = (only_image (node (Int (pos 1) ∷ [])) 0 (left pattern unmarked false) h refl).label in
    absurd cc

pub string_patterns : StringPatterns
string_patterns = record {
  shortest = cuts [] 98;
  longer = cuts (98 ∷ []) 99;
  too_short = blocked_alone (cut ∷ []) 0 cut (with_label (Str (codes "a") ∷ [])) refl too_short;
  no_string = blocked_alone (cut ∷ []) 0 cut (with_label (Int (pos 1) ∷ [])) refl no_string;
}
