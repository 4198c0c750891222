-- Linking a whole property: what is asked of a program and a property, and what is said of the linked programs of all
-- switches. Read `Faults` of `link_faults` before it, `Within` of `faultless_programs`, `Trees` of `monitor_trees` and of
-- `tree_linkage`, and `Form` and `Promises` of `linked_rules`.
use Rattle.std.specs.Prelude.{◌≡◌, ℕ, suc, ◌<◌, ◌≤◌, ◌^◌, List, true, None}
use Rattle.std.specs.List.{AllByRecursion, list_all}
use Rattle.lex_text.specs.NameToken.{is_name_byte}
use Rattle.indus_tree.specs.Tree.{Property, Decl}
use Rattle.indus_tree.specs.State.{Held}
use Rattle.indus_tree.specs.Reports.{HasReportsBelow}
use Rattle.indus_types.specs.Sums.{property_bits}
use Rattle.tele_layout.specs.Telemetry.{first_byte, tele_bytes, whole_bytes}
use Rattle.flat_laws.specs.Meaning.{IsPlainProperty}
use Rattle.p4_tree.specs.Tree.{Program}
use Rattle.p4_meaning.specs.Scope.{is_among}
use Rattle.p4_rules.specs.ProgramRules.{IsWellTyped}
use Rattle.p4_printer.specs.CanSpell.{CanSpell}
use Rattle.exit_programs.specs.Laws.{tops_names}
use Rattle.network_run.specs.Network.{Wiring, IsWiring}
use Rattle.monitor_laws.specs.Telemetry.{tele_bytes as linked_bytes}
use Rattle.own_programs.specs.OwnPrograms.{is_own}
use Rattle.linked_programs.specs.Lowered.{Lowered}
use Rattle.linked_programs.specs.Linked.{control_roots, linked}
use Rattle.linked_hosts.specs.Linkable.{Linkable}
use Rattle.linked_rules.specs.Promises.{KeepsRules}
use Rattle.linked_rules.specs.Fine.{CountAlike}
use Rattle.linked_rules.specs.Form.{DeclaresItsOwn}
use Rattle.tree_linkage.specs.Trees.{linked_form, linked_trees, AreLinkedTrees}
use Rattle.whole_properties.specs.Whole.{Given, words, lower_monitor, IsFitTele, IsVariable, IsFitContents}
use Rattle.whole_properties.specs.Asked.{IsGiven}
use Rattle.monitor_trees.specs.Trees.{trees_of, halves_of}
use Rattle.link_faults.specs.Faults.{link_fault}
use Rattle.faultless_programs.specs.Within.{LeavesRoom}

-- a well-typed plain property whose reports have numbers of 16 bits, as those of a text have; a well-typed program of a text
-- that leaves room for a monitor; and no fault. f: the program as it is written, with its exits
pub record CanBeLinked (property : Property) (f : Program) (room : ℕ) : Type 0 where
  pub plain : IsPlainProperty property
  pub reports : HasReportsBelow (2 ^ 16) property
  pub typed : IsWellTyped f
  pub spelled : CanSpell f
  pub leaves : LeavesRoom f
  pub small : room ≤ 256
  pub faultless : link_fault f property room ≡ None

module _ (property : Property) (f : Program) (k : Linkable (linked_form f)) where
  -- the property with the names of ingress and of egress of what is linked
  abbrev pub given_in : Given
  given_in = record { property = property; ingress = k.ingress.name; egress = k.egress.name }

  -- its monitor's trees there
  abbrev pub trees_in : Lowered
  trees_in = trees_of given_in (control_roots k.ingress) (control_roots k.egress)

-- it is what is asked of a property that is lowered
abbrev pub FaultlessIsGiven : Type 0
FaultlessIsGiven =
    (property : Property) (f : Program) (room : ℕ) → CanBeLinked property f room → (k : Linkable (linked_form f)) → IsGiven (given_in property f k)

-- the monitor's trees break no rule there
abbrev pub TreesKeepRules : Type 0
TreesKeepRules =
    (property : Property) (f : Program) (room : ℕ) → CanBeLinked property f room → (k : Linkable (linked_form f))
    → KeepsRules (trees_in property f k) (linked_form f) k

-- the declared names are of letters, digits and `_`, as those of a text are
abbrev pub AreTextNames : List Decl → Type 0
AreTextNames ds = AllByRecursion (λ d. list_all is_name_byte d.name ≡ true) ds

-- what is said of the linked programs
module _ (property : Property) (f : Program) (k : Linkable (linked_form f)) (net : Wiring) where
  abbrev given : Given
  given = given_in property f k

  abbrev trees : Lowered
  trees = trees_in property f k

  pub record IsPropertyLinked : Type 0 where
    -- each is well typed
    pub typed : (size s : ℕ) (links : List ℕ) → s < 2 ^ 16 → IsWellTyped (linked trees size s links (linked_form f))
    -- as much is counted of it at all switches
    pub counts :
        (size s : ℕ) (links : List ℕ) → s < 2 ^ 16 → (r : ℕ) (ports : List ℕ) → r < 2 ^ 16 →
        CountAlike (linked trees size s links (linked_form f)) (linked trees size r ports (linked_form f))
    -- they are a linkage of the given program and the property, in every valid world and after every number of steps
    pub linkage : AreLinkedTrees trees (lower_monitor given) (halves_of given) f k net (IsVariable given) (IsFitContents given)
    -- the telemetry in front of a frame has the bytes that were reckoned, and is the property's
    pub size : suc (lower_monitor given).room ≡ whole_bytes (property_bits property)
    pub telemetry : (t : Held) → IsFitTele given t → tele_bytes property t ≡ linked_bytes (first_byte property.edition) (words given t)
    -- they are texts, where the property's names are those of a text
    pub spelled : AreTextNames property.decls → (s : ℕ) → s < 2 ^ 128 → CanSpell (linked_trees trees (lower_monitor given) f net s)
    -- of names that are no monitor's they declare those of what is linked and no others
    pub own : DeclaresItsOwn trees
    pub names :
        (size s : ℕ) (links : List ℕ) (x : List ℕ) → is_own x ≡ true →
        is_among (tops_names (linked trees size s links (linked_form f)).tops) x ≡ is_among (tops_names (linked_form f).tops) x

-- the law, on every network
abbrev pub FaultlessIsLinked : Type 0
FaultlessIsLinked =
    (property : Property) (f : Program) (room : ℕ) → CanBeLinked property f room →
    (k : Linkable (linked_form f)) (net : Wiring) → IsWiring net → IsPropertyLinked property f k net
