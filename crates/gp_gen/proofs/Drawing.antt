-- Edges that are put one after another.
use Rattle.std.proofs.Common.{◌≡◌, ℕ, zero, suc, ◌+◌, List, [], ◌∷◌, ◌++◌, length, map, refl, sym, ap, ap₂, ◌∙◌, append_assoc, append-nil, arith}
use Rattle.std.proofs.lemmas.List.{length-append}
use Rattle.std.specs.List.{zip}
use Rattle.rand_core.specs.Steps.{first_words}
use Rattle.rand_pcg.specs.Lcg.{Lcg}
use Rattle.rand_pcg.specs.Pcg.{pcg32}
use Rattle.gp_gen.specs.declared.sheet.Sheet.{Sheet}
use Rattle.gp_gen.specs.Host.{HostEdge, seeded, drawn}
use Rattle.gp_gen.specs.Texts.{edge_line, edge_lines}
use Rattle.gp_gen.specs.inside.Draws.{after, drawn_lines, Draws}
use Rattle.gp_gen.specs.inside.Puts.{Puts}
use Rattle.gp_gen.proofs.Puts.{nothing, and_then, told}

after_both : (a b : ℕ) (s : Lcg) → after b (after a s) ≡ after (a + b) s
unfolding after
after_both zero b s = let e : b ≡ zero + b = omega arith in ap (λ k. after k s) e
after_both (suc a) b s = let e : suc (a + b) ≡ suc a + b = omega arith in after_both a b (pcg32 s).1 ∙ ap (λ k. after k s) e

module _ {A : Type 0} (edge : A × ℕ → HostEdge) where
  lines_of_both : (i : ℕ) (xs ys : List A) (s : Lcg) → drawn_lines edge i (xs ++ ys) s ≡ drawn_lines edge i xs s ++ drawn_lines edge (i + length xs) ys (after (length xs) s)
  unfolding drawn_lines after
  lines_of_both i [] ys s = let e : i ≡ i + 0 = omega arith in ap (λ k. drawn_lines edge k ys s) e
  lines_of_both i (x ∷ xs) ys s =
      let line = edge_line i (edge (x, (pcg32 s).0)) in
      let e : (i + 1) + length xs ≡ i + suc (length xs) = omega arith in
      ap (λ l. line ++ l) (lines_of_both (i + 1) xs ys (pcg32 s).1 ∙ ap (λ k. drawn_lines edge (i + 1) xs (pcg32 s).1 ++ drawn_lines edge k ys (after (length xs) (pcg32 s).1)) e)
      ∙ sym (append_assoc line (drawn_lines edge (i + 1) xs (pcg32 s).1) (drawn_lines edge (i + suc (length xs)) ys (after (length xs) (pcg32 s).1)))

  -- the lines are those of the edges that the words give
  lines_are : (i : ℕ) (xs : List A) (s : Lcg) → edge_lines i (map edge (zip xs (first_words pcg32 (length xs) s))) ≡ drawn_lines edge i xs s
  unfolding drawn_lines first_words
  lines_are i [] s = refl
  lines_are i (x ∷ xs) s = ap (λ l. edge_line i (edge (x, (pcg32 s).0)) ++ l) (lines_are (i + 1) xs (pcg32 s).1)

module _ {A : Type 0} {edge : A × ℕ → HostEdge} where
  -- no edges
  pub draws_none : {i : ℕ} {sheet : Sheet} {s : Lcg} → Draws edge [] i sheet sheet s s
  unfolding drawn_lines after
  draws_none = record { written = nothing; taken = refl }

  -- one edge, by one word
  pub draws_one : (x : A) {i : ℕ} {a b : Sheet} {s u : Lcg} (word : ℕ) → (word, u) ≡ pcg32 s → Puts a b (edge_line i (edge (x, word))) → Draws edge (x ∷ []) i a b s u
  unfolding drawn_lines after
  draws_one x {i} {a} {b} {s} {u} word drew h = record {
    written = told (append-nil (edge_line i (edge (x, (pcg32 s).0))) ∙ sym (ap (λ (p : ℕ × Lcg). edge_line i (edge (x, p.0))) drew)) h;
    taken = ap (λ (p : ℕ × Lcg). p.1) drew;
  }

  -- edges, and then more edges
  pub draws_both : {xs ys zs : List A} {i j : ℕ} {a b d : Sheet} {s u v : Lcg} → zs ≡ xs ++ ys → j ≡ i + length xs → Draws edge xs i a b s u → Draws edge ys j b d u v → Draws edge zs i a d s v
  draws_both {xs} {ys} {zs} {i} {j} {a} {b} {d} {s} {u} {v} items number first second = record {
    written =
        told (ap (λ l. drawn_lines edge i l s) items ∙ lines_of_both edge i xs ys s ∙ sym (ap₂ (λ k (w : Lcg). drawn_lines edge i xs s ++ drawn_lines edge k ys w) number first.taken))
        (and_then first.written second.written);
    taken = second.taken ∙ ap (after (length ys)) first.taken ∙ after_both (length xs) (length ys) s ∙ ap (λ k. after k s) (sym (ap length items ∙ length-append xs ys));
  }

  pub all_put : {xs : List A} (seed : ℕ) {a b : Sheet} {s u : Lcg} → s ≡ seeded seed → Draws edge xs 0 a b s u → Puts a b (edge_lines 0 (drawn edge xs seed))
  all_put {xs} seed e h = told (lines_are edge 0 xs (seeded seed) ∙ ap (λ s. drawn_lines edge 0 xs s) (sym e)) h.written
