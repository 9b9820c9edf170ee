-- The commands of a table, each with its words.
use Rattle.std.proofs.Common.{◌≡◌, ◌<◌, ◌≤◌, ◌+◌, ◌&&◌, Bool, true, List, [], ◌∷◌, map, drop, length, get_or, ℕ, zero, suc, Bor, ap, sym, ◌∙◌, arith}
use Rattle.std.proofs.lemmas.List.{at_drop_more, at_drop_all}
use Rattle.gp_memory.proofs.Basics.{and_left as left_true, and_right as right_true}
use Rattle.clap.specs.Words.{App, new_app, with_subcommand}
use Rattle.gp_words.specs.CommandLine.{gp2, top}
use Rattle.gp_words.specs.inside.Words.{AddsLevel, with_words}
use Rattle.gp_words.specs.declared.apps.Form.{Form}

-- a command's name and its words
abbrev pub Level : Type 0
Level = Bor (List ℕ) × Bor (List (Form × Bor (List ℕ)))

abbrev pub level_of : Level → App
level_of level = with_words (new_app level.0.now) (map (λ w. (w.0, w.1.now)) level.1.now)

-- the command with these below it
abbrev pub with_levels : App → List Level → App
with_levels app [] = app
with_levels app (level ∷ levels) = with_levels (with_subcommand app (level_of level).top) levels

-- none says anything of what stands below it
abbrev pub are_plain : List Level → Bool
are_plain [] = true
are_plain (level ∷ levels) = (level_of level).top.is_plain && are_plain levels

-- what is left of the table makes all of `gp2`
pub record Left (levels : List Level) (k : ℕ) (app : App) : Type 0 where
  pub makes : with_levels app (drop k levels) ≡ gp2
  pub plain : are_plain levels ≡ true

plain_at : (levels : List Level) (k : ℕ) (d : Level) → are_plain levels ≡ true → k < length levels → (level_of (get_or levels k d)).top.is_plain ≡ true
plain_at [] k d e h = absurd (omega (arith, h))
plain_at (level ∷ levels) zero d e h = left_true _ _ e
plain_at (level ∷ levels) (suc k) d e h = plain_at levels k d (right_true (level_of level).top.is_plain _ e) (omega (arith, h))

-- all of the table, below the level above the commands
pub begins : (levels : List Level) (app : App) → app ≡ top → with_levels top levels ≡ gp2 → are_plain levels ≡ true → Left levels 0 app
begins levels app e makes plain = record { makes = ap (λ (a : App). with_levels a levels) e ∙ makes; plain = plain }

-- one more
pub goes_on : {levels : List Level} {k : ℕ} {app : App} → (d : Level) (grown : App) → Left levels k app → k < length levels → AddsLevel app (level_of (get_or levels k d)) grown → Left levels (k + 1) grown
goes_on {levels} {k} {app} d grown left h adds = record {
  makes = ap (λ (a : App). with_levels a (drop (k + 1) levels)) (adds (plain_at levels k d left.plain h)) ∙ sym (at_drop_more (with_levels app) levels k d h) ∙ left.makes;
  plain = left.plain;
}

-- the end of the table
pub ends : {levels : List Level} {k : ℕ} {app : App} → Left levels k app → length levels ≤ k → app ≡ gp2
ends {levels} {k} {app} left h = sym (at_drop_all (with_levels app) levels k h) ∙ left.makes
