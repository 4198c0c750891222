-- Tests of what `Carried` says of two programs, in which the one has a place for all that the other's tables hold. Read
-- `Carried` before it.
use Rattle.std.specs.Prelude.{ℕ, List, [], ◌∷◌, length, Bool, true, false, ◌&&◌, nat_eq, nat_lt}
use Rattle.std.specs.Bool.{beq}
use Rattle.std.specs.Cmp.Lexicographic.{pointwise}
use Rattle.bit_values.specs.Bits.{Word}
use Rattle.lex_text.specs.Names.{same_text}
use Rattle.p4_meaning.specs.Actions.{Action}
use Rattle.p4_meaning.specs.Tables.{Table}
use Rattle.table_shapes.specs.Shapes.{ActionShape, Shape}
use Rattle.table_shapes.specs.declared.shape.KeyKind.{KeyKind}
use Rattle.table_shapes.specs.declared.shape.KeyKind.TheVariants.{Exact, Lpm, Ternary}
use Rattle.table_shapes.specs.declared.shape.KeyShape.{KeyShape}
use Rattle.value_shapes.specs.declared.values.ValueShape.{ValueShape}
use Rattle.p4_tables.specs.State.{Held, held_at}
use Rattle.p4_tables.specs.Programs.{action_place}
use Rattle.p4_tables.specs.Named.{action_name, table_place}
use Rattle.p4_tables.specs.Carried.{same_number}

-- ---- equal values

abbrev pub same_value : ValueShape → ValueShape → Bool
same_value v w = nat_eq v.width w.width && beq v.is_truth w.is_truth

abbrev pub same_kind : KeyKind → KeyKind → Bool
same_kind Exact Exact = true
same_kind Exact Lpm = false
same_kind Exact Ternary = false
same_kind Lpm Exact = false
same_kind Lpm Lpm = true
same_kind Lpm Ternary = false
same_kind Ternary Exact = false
same_kind Ternary Lpm = false
same_kind Ternary Ternary = true

abbrev pub same_key : KeyShape → KeyShape → Bool
same_key k l = same_kind k.kind l.kind && same_value k.value l.value

abbrev pub same_word : Word → Word → Bool
same_word v w = nat_eq v.width w.width && nat_eq v.value w.value

-- ---- actions and tables

-- the action of a number stands in the other program
abbrev pub action_stands : (from to : List Action) → ℕ → Bool
action_stands from to n = nat_eq (action_place from (action_name from n)) n && same_text (action_name to (same_number from to n)) (action_name from n)

-- an action of another program's list is this one
abbrev pub is_listed : (from to : List Action) → (other own : ActionShape) → Bool
is_listed from to b a = action_stands from to a.number && (nat_eq b.number (same_number from to a.number) && pointwise same_value b.params a.params)

-- what another program's table takes is this
abbrev pub takes_same : (from to : List Action) → (other own : Shape) → Bool
takes_same from to o s =
    action_stands from to s.written && (pointwise (is_listed from to) o.actions s.actions
    && (pointwise same_key o.keys s.keys && (nat_eq o.written (same_number from to s.written) && (pointwise same_word o.written_args s.written_args && beq o.fixed s.fixed))))

-- a table of this name stands in a program of these actions and tables, which hold this
abbrev pub table_stands : (from to : List Action) → List Table → List Held → (x : List ℕ) → Shape → Bool
table_stands from to us hs x s = nat_lt (table_place us x) (length hs) && takes_same from to (held_at hs (table_place us x)).shape s

-- so does each of these
abbrev pub tables_stand : (from to : List Action) → List Table → List Held → List Table → List Held → Bool
tables_stand from to us hs [] gs = true
tables_stand from to us hs (t ∷ ts) [] = true
tables_stand from to us hs (t ∷ ts) (g ∷ gs) = table_stands from to us hs t.name g.shape && tables_stand from to us hs ts gs
