-- The monitor of a whole property: its flat code over numbered scalars in P4. Read `Statements` of `lowered_code`,
-- `Tables` of `lookup_tables`, `Numbered` of `flat_laws` and `Monitor` of `monitor_laws` before it.
use Rattle.std.specs.Prelude.{◌≡◌, codes, ℕ, zero, suc, ◌+◌, ◌-◌, ◌*◌, ◌/◌, List, [], ◌∷◌, ◌++◌, map, length, slice_get, Bool, false, Option, Some, None, if◌then◌else◌, nat_eq}
use Rattle.std.specs.List.{AllByRecursion}
use Rattle.bit_values.specs.Bits.{Word, word}
use Rattle.lex_text.specs.Names.{same_text}
use Rattle.indus_tree.specs.Tree as indus
use Rattle.indus_tree.specs.Tree.{Shape, one, list, set, dict, Decl, Property, block_from}
use Rattle.indus_tree.specs.State.{Contents, Held, lookup, shape_width, width_of, nothing_of}
use Rattle.indus_tree.specs.Start.{start_word}
use Rattle.indus_tree.specs.Reads.{scalar, or_word}
use Rattle.indus_tree.specs.Hops.{variable_number, contents_in}
use Rattle.indus_tree.specs.Shapes.{IsHeld, IsTeleCount, IsSensorCount}
use Rattle.indus_tree.specs.Law.{law_of}
use Rattle.indus_tree.specs.declared.tree.DeclKind.{DeclKind}
use Rattle.indus_tree.specs.declared.tree.DeclKind.TheVariants.{Tele, Sensor, Header, Control}
use Rattle.indus_tree.specs.declared.tree.Ty.{Ty}
use Rattle.indus_types.specs.StaticWidths.{GiveWidth}
use Rattle.lower_lists.specs.Flat.{flat_of}
use Rattle.flat_laws.specs.Numbered.{numbered}
use Rattle.p4_tree.specs.Tree as p4
use Rattle.p4_tree.specs.Tree.{Expr, Stmts, done, next, and_then}
use Rattle.p4_meaning.specs.Parsing.{Field, width_sum}
use Rattle.p4_meaning.specs.Parts.{Cells}
use Rattle.p4_meaning.specs.Tables.{Tables}
use Rattle.p4_meaning.specs.Pass.{Kept}
use Rattle.linkage.specs.Linkage.{SensorRegister}
use Rattle.sensor_registers.specs.Registers.{cell_value, cell_count}
use Rattle.tele_layout.specs.Telemetry.{first_byte}
use Rattle.monitor_laws.specs.Names.{last_name, rejected_name}
use Rattle.monitor_laws.specs.Trees.{only_if}
use Rattle.monitor_laws.specs.Telemetry.{zeros}
use Rattle.monitor_laws.specs.Monitor.{Monitor}
use Rattle.lookup_names.specs.Keys.{variable}
use Rattle.lowered_code.specs.Names.{tele_name, sensor_name, table_name}
use Rattle.lowered_code.specs.Environment.{view_of, on_switch}
use Rattle.lowered_code.specs.Reads.{start_of}
use Rattle.lowered_code.specs.Statements.{block_end, block_code, block_vars, block_lookups}
use Rattle.lookup_tables.specs.Tables.{Lookup, table_for, action_for, entries_for}

-- a property, and the names of the controls of the two parts
pub record Given : Type 0 where
  pub property : Property
  pub ingress : List ℕ
  pub egress : List ℕ

-- ---- the telemetry

abbrev pub tele_field : DeclKind → Decl → List Field
tele_field Tele d = record { name = tele_name d.name; width = shape_width d.shape } ∷ []
tele_field Sensor d = []
tele_field Header d = []
tele_field Control d = []

-- a field for each numbered scalar
abbrev pub tele_fields : List Decl → List Field
tele_fields [] = []
tele_fields (d ∷ ds) = tele_field d.kind d ++ tele_fields ds

abbrev pub item_words : Ty → (n : ℕ) → List Word → List Word
item_words t zero ws = []
item_words t (suc i) ws = item_words t i ws ++ or_word (slice_get ws i) (nothing_of (width_of t)) ∷ []

-- a scalar's word, or a list's count and items, which are 0 past the last
abbrev pub shape_words : Shape → List Word → List Word
shape_words (one t) ws = scalar ws (width_of t) ∷ []
shape_words (list t n) ws = word 8 (length ws) ∷ item_words t n ws
shape_words (set ks) ws = []
shape_words (dict ks t) ws = []

abbrev pub kind_words : DeclKind → Decl → Held → List Word
kind_words Tele d t = shape_words d.shape (t d.name)
kind_words Sensor d t = []
kind_words Header d t = []
kind_words Control d t = []

abbrev pub tele_words : List Decl → Held → List Word
tele_words [] t = []
tele_words (d ∷ ds) t = kind_words d.kind d t ++ tele_words ds t

-- the bytes of the telemetry, the mark's among them
abbrev pub tele_room : List Field → ℕ
tele_room fs = (8 + width_sum fs + 7) / 8

abbrev pub fill_field : (width : ℕ) → List Field
fill_field zero = []
fill_field (suc w) = record { name = codes "hydra_fill"; width = suc w } ∷ []

-- the bits that are left of the last byte
abbrev pub fill_fields : List Field → List Field
fill_fields fs = fill_field (tele_room fs * 8 - (8 + width_sum fs))

-- ---- sensors

abbrev pub register_in : DeclKind → Decl → List Cells
register_in Tele d = []
register_in Sensor d =
    record { name = sensor_name d.name; width = shape_width d.shape; count = cell_count d.shape } ∷ []
register_in Header d = []
register_in Control d = []

abbrev pub registers_in : List Decl → List Cells
registers_in [] = []
registers_in (d ∷ ds) = register_in d.kind d ++ registers_in ds

abbrev pub sensor_in : DeclKind → Decl → List (SensorRegister Held (List ℕ))
sensor_in Tele d = []
sensor_in Sensor d =
    record { name = sensor_name d.name; cells = λ z. map (λ (w : Word). w.value) (z d.name); initial = start_of d } ∷ []
sensor_in Header d = []
sensor_in Control d = []

abbrev pub sensors_in : List Decl → List (SensorRegister Held (List ℕ))
sensors_in [] = []
sensors_in (d ∷ ds) = sensor_in d.kind d ++ sensors_in ds

-- ---- header variables

abbrev pub view_in : DeclKind → Decl → List Expr
view_in Tele d = []
view_in Sensor d = []
view_in Header d = view_of d ∷ []
view_in Control d = []

abbrev pub views_in : List Decl → List Expr
views_in [] = []
views_in (d ∷ ds) = view_in d.kind d ++ views_in ds

-- ---- control variables

-- the tables hold these contents of the variables, by their numbers
abbrev pub loads : List Decl → List Lookup → (ℕ → Contents) → Tables → Tables
loads ds [] c held x = held x
loads ds (l ∷ ls) c held x =
    if same_text (table_name l.control l.number) x
    then entries_for l (contents_in ds c l.decl.name)
    else loads ds ls c held x

abbrev pub is_number : Option ℕ → ℕ → Bool
is_number None v = false
is_number (Some n) v = nat_eq n v

-- those of one variable do
abbrev pub sets : List Decl → List Lookup → (variable : ℕ) → Contents → Tables → Tables
sets ds [] v k held x = held x
sets ds (l ∷ ls) v k held x =
    if same_text (table_name l.control l.number) x
    then (if is_number (variable_number ds l.decl.name) v then entries_for l k else held x)
    else sets ds ls v k held x

module _ (g : Given) where
  abbrev pub decls : List Decl
  decls = numbered g.property.decls

  -- the three blocks in flat code
  abbrev pub init : indus.Stmts
  init = block_from (flat_of g.property.decls g.property.init)

  abbrev pub tele : indus.Stmts
  tele = block_from (flat_of g.property.decls g.property.tele)

  abbrev pub check : indus.Stmts
  check = block_from (flat_of g.property.decls g.property.check)

  -- the numbers from which on the exit part's two blocks number what they read. They are the same for all switches
  abbrev pub tele_first : ℕ
  tele_first = block_end decls init 0

  abbrev pub check_first : ℕ
  check_first = block_end decls tele tele_first

  abbrev pub lookups_of : (control : List ℕ) → indus.Stmts → (n : ℕ) → List Lookup
  lookups_of c ss n = map (λ l. record { control = c; number = l.0; decl = l.1 }) (block_lookups decls ss n)

  abbrev pub lookups : List Lookup
  lookups =
      lookups_of g.ingress init 0
      ++ (lookups_of g.egress tele tele_first ++ lookups_of g.egress check check_first)

  abbrev pub fields : List Field
  fields = tele_fields decls ++ fill_fields (tele_fields decls)

  abbrev pub words : Held → List Word
  words t = tele_words g.property.decls t ++ zeros (fill_fields (tele_fields decls))

  -- the checker at the last hop, which begins with nothing rejected
  abbrev pub checks : (switch : ℕ) → p4.Stmt
  checks s =
      only_if (variable last_name)
      (next (p4.assign 0 (rejected_name ∷ []) (p4.flag 0 false))
      (block_code (on_switch s g.egress) decls check check_first))

  abbrev pub lower_monitor : Monitor Held Held Contents
  lower_monitor =
      record {
        property = law_of g.property;
        mark = first_byte g.property.edition;
        fields = fields;
        words = words;
        room = tele_room (tele_fields decls) - 1;
        registers = registers_in g.property.decls;
        sensors = sensors_in g.property.decls;
        actions = map action_for lookups;
        tables = map table_for lookups;
        controls = record { loaded = loads g.property.decls lookups; set = sets g.property.decls lookups };
        views = views_in g.property.decls;
        entry_locals = block_vars decls init 0;
        exit_locals = block_vars decls tele tele_first ++ block_vars decls check check_first;
        entry = λ s. block_code (on_switch s g.ingress) decls init 0;
        exit = λ s. and_then (block_code (on_switch s g.egress) decls tele tele_first) (next (checks s) done);
      }

  -- ---- what is kept and what fits

  -- the tele values can come back from their bytes
  abbrev pub IsFitTele : Held → Type 0
  IsFitTele t =
      (x : List ℕ) (d : Decl) → lookup g.property.decls x ≡ Some d → d.kind ≡ Tele → IsHeld IsTeleCount d.shape (t x)

  -- the contents give words of the declared width
  abbrev pub FitContents : (ℕ → Contents) → Type 0
  FitContents c =
      (x : List ℕ) (d : Decl) → lookup g.property.decls x ≡ Some d → d.kind ≡ Control
      → GiveWidth (shape_width d.shape) (contents_in g.property.decls c x)

  pub record Keeps (z : Held) (c : ℕ → Contents) (b : Kept) : Type 0 where
    pub cells :
        (x : List ℕ) (d : Decl) → lookup g.property.decls x ≡ Some d → d.kind ≡ Sensor
        → b.registers (sensor_name x) ≡ map (cell_value (start_word d.start (shape_width d.shape))) (z x)
    pub shaped :
        (x : List ℕ) (d : Decl) → lookup g.property.decls x ≡ Some d → d.kind ≡ Sensor
        → IsHeld IsSensorCount d.shape (z x)
    pub contents : FitContents c
    pub tables :
        AllByRecursion
        (λ l. b.tables (table_name l.control l.number) ≡ entries_for l (contents_in g.property.decls c l.decl.name)) lookups

  -- the numbers that name a control variable
  abbrev pub IsVariable : ℕ → Type 0
  IsVariable v =
      (x : List ℕ) × (d : Decl) × (lookup g.property.decls x ≡ Some d) × (d.kind ≡ Control)
      × (variable_number g.property.decls x ≡ Some v)

  -- the contents that it may have
  abbrev pub IsFitContents : (variable : ℕ) → Contents → Type 0
  IsFitContents v k =
      (x : List ℕ) (d : Decl) → lookup g.property.decls x ≡ Some d → d.kind ≡ Control
      → variable_number g.property.decls x ≡ Some v → GiveWidth (shape_width d.shape) k
