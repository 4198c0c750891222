-- What is known of each scope of a program that breaks no rule. Read `Soundness` of `p4_typing_laws` before it and `Laws`
-- after it.
use Rattle.std.specs.Prelude.{ℕ, List}
use Rattle.p4_scopes.specs.Scopes.{Scope}
use Rattle.p4_typing_laws.specs.Soundness.{IsSound}
use Rattle.p4_typing_laws.proofs.CountedNames.{KeepsCore, Calls}

-- of actions and tables nothing is asked
abbrev pub Any : List ℕ → ℕ → Type 0
Any x m = Unit {0}

-- widths are those of numbers, names of the architecture's own stand for what they stood for at first, and no other name
-- stands for one of its functions
pub record Knows (s : Scope) : Type 0 where
  pub sound : IsSound s
  pub core : KeepsCore s
  pub calls : Calls Any Any s
