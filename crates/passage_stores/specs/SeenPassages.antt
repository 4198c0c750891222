-- Along both halves of a passage of a well-typed program what is in sight is seen at each statement to which a run comes.
-- Read `PassageStores`, `Sights` and `SeenStores` before it.
use Rattle.std.specs.Prelude.{◌≡◌, ℕ, List, Some}
use Rattle.p4_tree.specs.Tree.{Control, Parser, Program}
use Rattle.p4_meaning.specs.Store.{Store}
use Rattle.p4_meaning.specs.Statements.{no_calls}
use Rattle.p4_meaning.specs.Under as under
use Rattle.p4_meaning.specs.Under.{in_parser}
use Rattle.p4_meaning.specs.Tables.{Tables, calls_in}
use Rattle.p4_meaning.specs.Parts.{parser_in, control_in, parts_of}
use Rattle.p4_meaning.specs.Pass.{Registers, Queued}
use Rattle.p4_meaning.specs.Laws.{HasStandard}
use Rattle.p4_declaration_rules.specs.Parsers.{with_ways, in_states}
use Rattle.p4_rules.specs.ProgramRules.{IsWellTyped}
use Rattle.p4_typing_laws.specs.Plain.{HavePlainNames, HavePlainValues}
use Rattle.p4_typing_laws.specs.Stores.{Fits}
use Rattle.passage_stores.specs.FitStores.{IsFit, IsFitQueued}
use Rattle.passage_stores.specs.PassageStores.{reading_before, verify_run, ingress_run, egress_run, compute_run}
use Rattle.passage_stores.specs.Sights.{parser_rules, parser_scope, control_rules, control_scope}
use Rattle.passage_stores.specs.SeenStores.{Sees, AlongParse, ControlSees}

-- ---- where a part begins

-- a store that fits the program fits what is in sight at the beginning of each part: this is what the laws of
-- `p4_typing_laws` on runs of a control ask for
pub record PartsBegin (p : Program) : Type 0 where
  pub standard : (st : Store) → IsFit (parts_of p) st → HasStandard st
  pub parser : (d : Parser) → parser_in p ≡ Some d → (st : Store) → IsFit (parts_of p) st → Fits (in_states (parser_rules p) d) (in_parser (parser_scope p) d) st
  pub verify : (c : Control) → control_in p 1 ≡ Some c → (st : Store) → IsFit (parts_of p) st → Fits (with_ways (control_rules p 1) c.params) (under.in_control 0 1 9 (control_scope p 1) c) st
  pub ingress : (c : Control) → control_in p 2 ≡ Some c → (st : Store) → IsFit (parts_of p) st → Fits (with_ways (control_rules p 2) c.params) (under.in_control 0 1 2 (control_scope p 2) c) st
  pub egress : (c : Control) → control_in p 3 ≡ Some c → (st : Store) → IsFit (parts_of p) st → Fits (with_ways (control_rules p 3) c.params) (under.in_control 0 1 2 (control_scope p 3) c) st
  pub compute : (c : Control) → control_in p 4 ≡ Some c → (st : Store) → IsFit (parts_of p) st → Fits (with_ways (control_rules p 4) c.params) (under.in_control 0 1 9 (control_scope p 4) c) st

abbrev pub EachPartBegins : Type 0
EachPartBegins = (p : Program) → IsWellTyped p → HavePlainNames p.tops → HavePlainValues p.tops → PartsBegin p

-- ---- whole passages

-- whatever tables and registers hold. In the exit half, whatever is queued in a store that fits, as what the entry half
-- queues is
pub record PassageSees (p : Program) : Type 0 where
  pub parser :
      (d : Parser) → parser_in p ≡ Some d → (port : ℕ) (frame : List ℕ)
      → AlongParse (parts_of p).headers (λ r. Sees (parts_of p) (in_states (parser_rules p) d) (in_parser (parser_scope p) d) r.store × IsFit (parts_of p) r.store) (parts_of p).states (reading_before (parts_of p) port frame)
  pub verify :
      (c : Control) → control_in p 1 ≡ Some c → (cells : Registers) (port : ℕ) (frame : List ℕ)
      → ControlSees (parts_of p) 0 1 9 (control_rules p 1) (control_scope p 1) c no_calls (verify_run (parts_of p) cells port frame)
  pub ingress :
      (c : Control) → control_in p 2 ≡ Some c → (held : Tables) (cells : Registers) (port : ℕ) (frame : List ℕ)
      → ControlSees (parts_of p) 0 1 2 (control_rules p 2) (control_scope p 2) c (calls_in (parts_of p).actions (parts_of p).tables held) (ingress_run (parts_of p) cells port frame)
  pub egress :
      (c : Control) → control_in p 3 ≡ Some c → (held : Tables) (cells : Registers) (q : Queued) → IsFitQueued (parts_of p) q
      → ControlSees (parts_of p) 0 1 2 (control_rules p 3) (control_scope p 3) c (calls_in (parts_of p).actions (parts_of p).tables held) (egress_run cells q)
  pub compute :
      (c : Control) → control_in p 4 ≡ Some c → (held : Tables) (cells : Registers) (q : Queued) → IsFitQueued (parts_of p) q
      → ControlSees (parts_of p) 0 1 9 (control_rules p 4) (control_scope p 4) c no_calls (compute_run (parts_of p) held cells q)

abbrev pub EachPassageSees : Type 0
EachPassageSees = (p : Program) → IsWellTyped p → HavePlainNames p.tops → HavePlainValues p.tops → PassageSees p
