-- The command of words that clap takes, and of words that it refuses.
use Rattle.std.proofs.Common.{◌≡◌, true, List, [], ◌∷◌, Option, None, refl}
use Rattle.std.specs.Prelude.{option_and_then}
use Rattle.clap.specs.Words.{Row, Kinds, fault_of, is_simple, is_simple_and_free, subcommand_of}
use Rattle.clap.proofs.OnLiterals.{clap_on_literals}
use Rattle.gp_values.specs.Names.{Name}
use Rattle.gp_words.specs.CommandLine.{gp2, command_at, command_of}

pub simple : is_simple gp2 ≡ true
unfolding clap_on_literals
simple = refl

pub simple_and_free : is_simple_and_free gp2 ≡ true
unfolding clap_on_literals
simple_and_free = refl

-- nothing is refused: the command of what is found
pub taken : (ws : List Name) (o : Option (Name × List Row)) → fault_of gp2 ws ≡ [] → o ≡ subcommand_of gp2 ws → option_and_then command_at o ≡ command_of ws
unfolding command_of
taken ws o e h = rw (e, h) refl

-- something is
pub refused : (ws : List Name) → (fault_of gp2 ws ≡ [] → ⊥) → None ≡ command_of ws
unfolding command_of
refused ws n = go (fault_of gp2 ws) refl
  where
    go : (ks : Kinds) → fault_of gp2 ws ≡ ks → None ≡ command_of ws
    go [] e = absurd (n e)
    go (k ∷ ks) e = rw e refl
