-- What files in memory have under a name, one file after another.
use Rattle.std.proofs.Common.{◌≡◌, ℕ, suc, ◌+◌, ◌<◌, ◌≤◌, Bool, cond, List, ◌∷◌, length, get_or, drop, sym, ap, ◌∙◌, arith, add-one, length-drop, String, Vec, Global, string_bytes, nat_eq}
use Rattle.std.specs.Prelude.{Some, None}
use Rattle.std.proofs.lemmas.List.{nil_from_length}
use Rattle.std.proofs.Math.Seq.{drop-cons}
use Rattle.std.proofs.lemmas.Cmp.{nat_list_cmp_total, eq_by_cmp_equiv}
use Rattle.std.specs.Ordering.{nat_cmp}
use Rattle.std.specs.Cmp.Lexicographic.{slice_cmp, texts_ties, pointwise}
use Rattle.std.specs.FinMap.{get, get-insert, get-empty}
use Rattle.gp_io.specs.Stored.{content_of}

abbrev pub File : Type 0
File = String Global × Vec ℕ Global

-- from a place on, the name has the bytes of the file there, or what the files behind it have
step : (files : List File) (i : ℕ) (f : File) (q : List ℕ) → i < length files → f ≡ get_or files i f →
    get (content_of (drop i files)) q ≡ cond (pointwise nat_eq (string_bytes f.0) q) (Some f.1.items) (get (content_of (drop (i + 1) files)) q)
step files i f q h e =
    ap (λ fs. get (content_of fs) q) (drop-cons files i f h ∙ ap (λ g. g ∷ drop (suc i) files) (sym e) ∙ ap (λ n. f ∷ drop n files) (sym (add-one i)))
    ∙ get-insert nat_list_cmp_total (content_of (drop (i + 1) files)) (string_bytes f.0) f.1.items q
    ∙ ap (λ b. cond b (Some f.1.items) (get (content_of (drop (i + 1) files)) q)) ((eq_by_cmp_equiv nat_list_cmp_total).symm q (string_bytes f.0) ∙ sym (texts_ties (string_bytes f.0) q))

-- the same, where the test on the name is known, as the code made it on a copy of the name's bytes
pub at_test : (files : List File) (i : ℕ) (f : File) (q name : List ℕ) (b : Bool) → i < length files → f ≡ get_or files i f → name ≡ string_bytes f.0 → pointwise nat_eq name q ≡ b →
    get (content_of (drop i files)) q ≡ cond b (Some f.1.items) (get (content_of (drop (i + 1) files)) q)
at_test files i f q name b h e same test =
    step files i f q h e ∙ ap (λ t. cond t (Some f.1.items) (get (content_of (drop (i + 1) files)) q)) (ap (λ n. pointwise nat_eq n q) (sym same) ∙ test)

pub at_end : (files : List File) (i : ℕ) (q : List ℕ) → length files ≤ i → get (content_of (drop i files)) q ≡ None
at_end files i q h = ap (λ fs. get (content_of fs) q) (nil_from_length _ (omega (arith, length-drop i files))) ∙ get-empty (slice_cmp nat_cmp) q
