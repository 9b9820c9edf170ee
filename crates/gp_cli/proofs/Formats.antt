-- What `fmt` answers: from the cause to the status, and that a text that it wrote stays.
use Rattle.std.proofs.Common.{◌≡◌, ℕ, Bool, List, refl, sym, subst, ◌∙◌, arith}
use Rattle.std.specs.Prelude.{Some}
use Rattle.gp_io.specs.Outside.{Content, KnownFiles}
use Rattle.gp_values.specs.Names.{Name}
use Rattle.gp_syntax.specs.declared.tree.Ast.{Ast}
use Rattle.gp_reader.specs.Program.{HasTree, IsProgramText, IsFaultyText}
use Rattle.gp_reader.specs.Laws.{TreesHaveNoFault}
use Rattle.gp_fmt.specs.Canonical.{canonical_text}
use Rattle.gp_fmt.specs.Laws.{CanonicalTextsAreRead, CanonicalTextsMeanTheSame, CanonicalTextsStay}
use Rattle.gp_words.specs.CommandLine.{FmtCommand, fmt, command_of}
use Rattle.gp_cli.specs.Texts.{Said, Shows, formatted_shown}
use Rattle.gp_cli.specs.Inputs.{HasBytes, HasProgramTree, HasTreelessProgram, has_long_text, has_no_tree, tree_is_long, tree_is_none, tree_is_unread}
use Rattle.gp_cli.specs.Answer.{FmtAnswers, stops, formats, Replies}
use Rattle.gp_cli.specs.Completes.{AreOneProgram, HasFormatted, GivesAgain}
use Rattle.gp_cli.proofs.Held.{tree_bytes, tree_again, sound_tree}
use Rattle.gp_cli.proofs.Causes.{status_of, shown, MayBeUnread}
use Rattle.gp_cli.proofs.Commands.{by_command}

module _ {old new : KnownFiles} {held : Content} (known : old.content ≡ Some held) (Good : ℕ → Type 0) (unread_well : MayBeUnread old new Good) {k : FmtCommand} (faultless : TreesHaveNoFault) where
  pub of_tree : {tree : Ast} {said : Said} → HasProgramTree old.content k.program tree → Good 0 → FmtAnswers old new k said → Good (status_of said)
  of_tree h good (stops (tree_is_long l)) = absurd (sound_tree known faultless h (has_long_text l))
  of_tree h good (stops (tree_is_none b x)) = absurd (sound_tree known faultless h (has_no_tree b x))
  of_tree h good (stops (tree_is_unread u)) = unread_well _ h.bytes h.has.file u
  of_tree h good (formats _) = good

  pub of_treeless : {said : Said} → Good 3 → HasTreelessProgram old.content k.program → FmtAnswers old new k said → Good (status_of said)
  of_treeless three f (stops (tree_is_long _)) = three
  of_treeless three f (stops (tree_is_none _ _)) = three
  of_treeless three f (stops (tree_is_unread u)) = let b = tree_bytes f in unread_well _ b.0 b.1 u
  of_treeless three f (formats h) = absurd (sound_tree known faultless h f)

-- ---- what a reply of status 0 has as its result

-- the canonical text of a tree of a text
pub record IsWritten (result : List ℕ) : Type 0 where
  pub source : List ℕ
  pub tree : Ast
  pub has_tree : HasTree source tree
  pub is : result ≡ canonical_text tree

written : {old new : KnownFiles} {k : FmtCommand} {said : Said} {asked : Bool} {s : ℕ} {journal result text : List ℕ} → s ≡ 0 →
    FmtAnswers old new k said → Shows asked said s journal result text → (tree : Ast) × HasProgramTree old.content k.program tree × (result ≡ canonical_text tree)
written is (stops (tree_is_long _)) shows = absurd (let e = shown shows in omega arith)
written is (stops (tree_is_none _ _)) shows = absurd (let e = shown shows in omega arith)
written is (stops (tree_is_unread _)) shows = absurd (let e = shown shows in omega arith)
written is (formats {tree} h) formatted_shown = (tree, h, refl)

pub tree_of_reply : {words : List Name} {old new : KnownFiles} {journal result text : List ℕ} (k : FmtCommand) → command_of words ≡ Some (fmt k) → Replies words old new 0 journal result text →
    (tree : Ast) × HasProgramTree old.content k.program tree × (result ≡ canonical_text tree)
tree_of_reply k w r = written refl (by_command (fmt k) w r.is_true) r.shows

pub is_written : {result : List ℕ} → HasFormatted result → IsWritten result
is_written f = let t = tree_of_reply f.command f.is_fmt f.replies in record { source = t.1.bytes; tree = t.0; has_tree = t.1.has_tree; is = t.2 }

-- ---- a canonical text has the tree again, and it is a text of the same program

canonical_has : {bytes : List ℕ} {tree : Ast} → CanonicalTextsAreRead → HasTree bytes tree → HasTree (canonical_text tree) tree
canonical_has {bytes} {tree} read h =
    let r = read bytes tree h in
    record { tokens = r.tokens; has_tokens = record { lexed = r.cut; shallow = r.shallow }; is_tree = r.is_tree }

pub read_back : {result : List ℕ} → CanonicalTextsAreRead → (w : IsWritten result) → HasTree result w.tree
read_back read w = subst (λ (b : List ℕ). HasTree b w.tree) (sym w.is) (canonical_has read w.has_tree)

canonical_is_one : {bytes : List ℕ} {tree : Ast} → CanonicalTextsAreRead → CanonicalTextsMeanTheSame → HasTree bytes tree → AreOneProgram bytes (canonical_text tree)
canonical_is_one {bytes} {tree} read mean h = record {
  tree = tree;
  has_tree = h;
  other_has = canonical_has read h;
  program = λ p. mean.program bytes tree p h;
  fault = λ f. mean.fault bytes tree f h;
}

pub writes_the_same : {words : List Name} {old new : KnownFiles} {journal result text : List ℕ} → CanonicalTextsAreRead → CanonicalTextsMeanTheSame → (k : FmtCommand) → command_of words ≡ Some (fmt k) →
    Replies words old new 0 journal result text → (bytes : List ℕ) × HasBytes old.content k.program bytes × AreOneProgram bytes result
writes_the_same read mean k w r =
    let t = tree_of_reply k w r in
    (t.1.bytes, t.1.has, subst (λ (b : List ℕ). AreOneProgram t.1.bytes b) (sym t.2) (canonical_is_one read mean t.1.has_tree))

pub gives_again : {held : Content} {words : List Name} {old new : KnownFiles} {result : List ℕ} (k : FmtCommand) → CanonicalTextsStay → old.content ≡ Some held → command_of words ≡ Some (fmt k) →
    IsWritten result → HasBytes old.content k.program result → GivesAgain words old new result
gives_again {result = result} k stay known w f b journal again text r =
    let t = tree_of_reply k w r in
    let has = tree_again known result b.file t.1 in
    t.2 ∙ stay f.source f.tree t.0 f.has_tree (subst (λ (x : List ℕ). HasTree x t.0) f.is has) ∙ sym f.is
