-- The tables of a program: what each takes, and what it holds before anything is loaded. Read `State` before it, `Parts`
-- of the meaning, and `Values` of `value_shapes`.
use Rattle.std.specs.Prelude.{◌≡◌, ℕ, suc, codes, List, [], ◌∷◌, map, get_or, false, if◌then◌else◌}
use Rattle.lex_text.specs.Names.{same_text}
use Rattle.p4_tree.specs.Tree.{Program}
use Rattle.p4_meaning.specs.Actions.{Action}
use Rattle.p4_meaning.specs.Tables.{Key, Table, Chosen}
use Rattle.p4_meaning.specs.Parts.{parts_of}
use Rattle.p4_scopes.specs.Scopes.{core}
use Rattle.value_shapes.specs.Values.{tops_values}
use Rattle.table_shapes.specs.Shapes.{ActionShape, Shape}
use Rattle.table_entries.specs.Entries.{Act}
use Rattle.p4_tables.specs.State.{Held}
use Rattle.table_shapes.specs.declared.shape.KeyKind.{KeyKind}
use Rattle.table_shapes.specs.declared.shape.KeyKind.TheVariants.{Exact, Lpm, Ternary}
use Rattle.table_shapes.specs.declared.shape.KeyShape.{KeyShape}
use Rattle.value_shapes.specs.declared.values.ValueShape.{ValueShape}
use Rattle.value_shapes.specs.declared.values.Holder.TheVariants.{Keys, Params}

-- ---- keys

-- how a key is matched, by the name of that
abbrev pub kind_of : List ℕ → KeyKind
kind_of x = if same_text x (codes "ternary") then Ternary else if same_text x (codes "lpm") then Lpm else Exact

-- no value
abbrev pub no_value : ValueShape
no_value = record { width = 0; is_truth = false }

-- keys with what they hold
abbrev pub key_shapes : List Key → List ValueShape → List KeyShape
key_shapes [] vs = []
key_shapes (k ∷ ks) [] = record { kind = kind_of k.kind; value = no_value } ∷ key_shapes ks []
key_shapes (k ∷ ks) (v ∷ vs) = record { kind = kind_of k.kind; value = v } ∷ key_shapes ks vs

-- ---- actions

-- the number of the action of a full name: from 0 in the order of the text, and behind all that of `NoAction`
abbrev pub action_place : List Action → List ℕ → ℕ
action_place [] x = 0
action_place (a ∷ as') x = if same_text a.name x then 0 else suc (action_place as' x)

-- what the table or the action of a number holds
abbrev pub values_at : List (List ValueShape) → ℕ → List ValueShape
values_at vss i = get_or vss i []

-- the action of a full name in the list of a table, among actions whose parameters hold this
abbrev pub action_shape : List Action → List (List ValueShape) → List ℕ → ActionShape
action_shape as' pss x = record { number = action_place as' x; params = values_at pss (action_place as' x) }

-- an action by its number
abbrev pub numbered : List Action → Chosen → Act
numbered as' c = record { action = action_place as' c.action; args = c.args }

-- ---- tables

-- what a table takes, where its keys hold `ks`, and the parameters of these actions `pss`
abbrev pub table_shape : List Action → List (List ValueShape) → Table → List ValueShape → Shape
table_shape as' pss t ks = record { keys = key_shapes t.keys ks; actions = map (action_shape as' pss) t.actions; written = action_place as' t.default.action; written_args = t.default.args; fixed = t.fixed }

-- it holds no entry, and has the default that is written
abbrev pub table_before : List Action → List (List ValueShape) → Table → List ValueShape → Held
table_before as' pss t ks = record { shape = table_shape as' pss t ks; listed = []; default = numbered as' t.default }

-- tables with what their keys hold
abbrev pub tables_before : List Action → List (List ValueShape) → List Table → List (List ValueShape) → List Held
tables_before as' pss [] kss = []
tables_before as' pss (t ∷ ts) [] = table_before as' pss t [] ∷ tables_before as' pss ts []
tables_before as' pss (t ∷ ts) (ks ∷ kss) = table_before as' pss t ks ∷ tables_before as' pss ts kss

-- what the keys of a program's tables hold, and what the parameters of its actions do
abbrev pub keys_hold : Program → List (List ValueShape)
keys_hold p = tops_values Keys core p.tops

abbrev pub params_hold : Program → List (List ValueShape)
params_hold p = tops_values Params core p.tops

-- what the tables of a program hold before anything is loaded
unfoldable pub state_before : Program → List Held
state_before p = tables_before (parts_of p).actions (params_hold p) (parts_of p).tables (keys_hold p)

-- what tables take
abbrev pub shapes : List Held → List Shape
shapes st = map (λ h. h.shape) st

-- the tables are those of a program
pub record IsStateOf (p : Program) (st : List Held) : Type 0 where
  pub same : shapes st ≡ shapes (state_before p)
