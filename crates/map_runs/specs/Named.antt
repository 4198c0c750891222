-- The monitor's tables as a map by full names, and what it does. Read `Whole` and `Asked` of `whole_properties` before it, and
-- `Maps` and `Numbers` of `control_maps`.
use Rattle.std.specs.Prelude.{◌≡◌, ℕ, List, map, Some}
use Rattle.indus_tree.specs.Tree.{Decl, Property}
use Rattle.indus_tree.specs.State.{Contents, lookup}
use Rattle.indus_tree.specs.Hops.{variable_number}
use Rattle.indus_tree.specs.declared.tree.DeclKind.TheVariants.{Control}
use Rattle.p4_meaning.specs.Tables.{Tables}
use Rattle.lowered_code.specs.Names.{table_name, action_name}
use Rattle.lookup_tables.specs.Tables as code
use Rattle.whole_properties.specs.Whole.{Given, lookups, lower_monitor}
use Rattle.whole_properties.specs.Asked.{IsGiven}
use Rattle.control_maps.specs.Maps.{Lookup, map_controls}
use Rattle.control_maps.specs.Numbers.{HasShape}
use Rattle.carried_entries.specs.Forms.{number_or}

-- the table and the first action of a lookup, and the number of its variable, which each lookup of a property that is given has
abbrev pub lookup_named : Property → code.Lookup → Lookup
lookup_named p l =
    record {
      table = table_name l.control l.number;
      action = action_name l.control l.number;
      variable = number_or (variable_number p.decls l.decl.name);
    }

-- the whole map
abbrev pub named_lookups : Given → List Lookup
named_lookups g = map (lookup_named g.property) (lookups g)

-- ---- what fits

-- contents have the shape that is declared for the control variable of this number
abbrev pub IsOfShape : Given → (variable : ℕ) → Contents → Type 0
IsOfShape g v c =
    (x : List ℕ) (d : Decl) → lookup g.property.decls x ≡ Some d → d.kind ≡ Control → variable_number g.property.decls x ≡ Some v
    → HasShape d.shape c

-- those of each control variable do
abbrev pub FitsMap : Given → (contents : ℕ → Contents) → Type 0
FitsMap g c = (v : ℕ) → IsOfShape g v (c v)

-- ---- the laws

-- a switch that is loaded by the map holds what the monitor's controls load
abbrev pub LoadsAgree : Type 0
LoadsAgree =
    (g : Given) → IsGiven g → (c : ℕ → Contents) → FitsMap g c → (held : Tables)
    → (lower_monitor g).controls.loaded c held ≡ (map_controls (named_lookups g)).loaded c held

-- and where a variable is set, what they set
abbrev pub SetsAgree : Type 0
SetsAgree =
    (g : Given) → IsGiven g → (v : ℕ) (c : Contents) → IsOfShape g v c → (held : Tables)
    → (lower_monitor g).controls.set v c held ≡ (map_controls (named_lookups g)).set v c held
