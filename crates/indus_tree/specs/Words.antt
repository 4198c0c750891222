-- What an expression sees and gives are words: of 1 to 128 bits, and in range. Read `Value` before it.
use Rattle.std.specs.Prelude.{◌≡◌, ℕ, List, Some}
use Rattle.std.specs.List.{All}
use Rattle.bit_values.specs.Bits.{Word, IsWord}
use Rattle.indus_tree.specs.Tree.{Decl}
use Rattle.indus_tree.specs.State.{Contents, single, members, pairs, lookup}
use Rattle.indus_tree.specs.Reads.{Items, Seen}
use Rattle.indus_tree.specs.declared.tree.DeclKind.TheVariants.{Tele, Sensor, Header, Control}

-- what a control variable gives: its value, or a dict's values
abbrev pub GiveWords : Contents → Type 0
GiveWords (single w) = IsWord w
GiveWords (members ks) = Unit {0}
GiveWords (pairs es) = All (λ (e : List Word × Word). IsWord e.1) es

abbrev pub AreWords : Items → Type 0
AreWords = All (λ (i : List ℕ × Word). IsWord i.1)

-- an expression sees words: as items, and in the variables that are declared. Nothing is said of other names
pub record SeesWords (s : Seen) : Type 0 where
  pub items : AreWords s.items
  pub tele : (x : List ℕ) (d : Decl) → lookup s.hop.decls x ≡ Some d → d.kind ≡ Tele → All IsWord (s.tele x)
  pub sensors : (x : List ℕ) (d : Decl) → lookup s.hop.decls x ≡ Some d → d.kind ≡ Sensor → All IsWord (s.sensors x)
  pub headers : (x : List ℕ) (d : Decl) → lookup s.hop.decls x ≡ Some d → d.kind ≡ Header → IsWord (s.hop.headers x)
  pub contents : (x : List ℕ) (d : Decl) → lookup s.hop.decls x ≡ Some d → d.kind ≡ Control → GiveWords (s.hop.contents x)
