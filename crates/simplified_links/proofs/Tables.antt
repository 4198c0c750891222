-- What rests on the names of tables and actions, and on what tables take, is the same with other values.
use Rattle.std.proofs.Common.{◌≡◌, ℕ, zero, suc, ◌<◌, List, [], ◌∷◌, length, map, get_or, cond, refl, sym, ap, ap₂, ◌∙◌, subst}
use Rattle.std.specs.List.{AllZip, AllByRecursion}
use Rattle.lex_text.specs.Names.{same_text}
use Rattle.p4_tree.specs.Tree.{Program}
use Rattle.p4_meaning.specs.Scope.{is_among}
use Rattle.p4_meaning.specs.Actions.{Action}
use Rattle.p4_meaning.specs.Tables.{Table}
use Rattle.p4_meaning.specs.Parts.{Parts, parts_of}
use Rattle.table_shapes.specs.Shapes as shape
use Rattle.p4_tables.specs.State.{Held, held_at, no_table}
use Rattle.p4_tables.specs.Named.{action_name, named_act, table_place}
use Rattle.p4_tables.specs.Programs.{action_place, state_before, shapes}
use Rattle.p4_tables.specs.Carried as carried
use Rattle.p4_tables.specs.Carried.{is_table, same_number, shape_renumbered, TablesStand, StandsIn}
use Rattle.indus_tree.specs.Tree.{Decl}
use Rattle.control_maps.specs.Maps.{Lookup}
use Rattle.control_maps.specs.Numbers.{Numbered, table_name, named_in, IsOfForm, IsMapOf}
use Rattle.loaded_tables.specs.Rows.{Row, row_name, first_action, declared_shape, numbered_rows}
use Rattle.linked_starts.specs.Starts.{CanBeLoaded}
use Rattle.rewriting_passages.specs.Passages.{ActionStands, TableStands}
use Rattle.rewriting_tables.specs.Tables.{SameTables}
use Rattle.simplified_links.proofs.Lists.{zip_long}

-- ---- names and numbers

tables_named : (ts us : List Table) → AllZip TableStands ts us → map (λ (t : Table). t.name) us ≡ map (λ (t : Table). t.name) ts
tables_named [] [] h = refl
tables_named [] (u ∷ us) h = absurd h
tables_named (t ∷ ts) [] h = absurd h
tables_named (t ∷ ts) (u ∷ us) h = ap₂ (λ (x : List ℕ) (xs : List (List ℕ)). x ∷ xs) h.0.name (tables_named ts us h.1)

table_placed : (ts us : List Table) → AllZip TableStands ts us → (x : List ℕ) → table_place us x ≡ table_place ts x
table_placed [] [] h x = refl
table_placed [] (u ∷ us) h x = absurd h
table_placed (t ∷ ts) [] h x = absurd h
table_placed (t ∷ ts) (u ∷ us) h x = ap₂ (λ (y : List ℕ) (n : ℕ). cond (same_text y x) 0 (suc n)) h.0.name (table_placed ts us h.1 x)

table_numbered : (ts us : List Table) → AllZip TableStands ts us → (n : ℕ) → table_name us n ≡ table_name ts n
table_numbered [] [] h n = refl
table_numbered [] (u ∷ us) h n = absurd h
table_numbered (t ∷ ts) [] h n = absurd h
table_numbered (t ∷ ts) (u ∷ us) h zero = h.0.name
table_numbered (t ∷ ts) (u ∷ us) h (suc n) = table_numbered ts us h.1 n

action_placed : (as' bs : List Action) → AllZip ActionStands as' bs → (x : List ℕ) → action_place bs x ≡ action_place as' x
action_placed [] [] h x = refl
action_placed [] (b ∷ bs) h x = absurd h
action_placed (a ∷ as') [] h x = absurd h
action_placed (a ∷ as') (b ∷ bs) h x = ap₂ (λ (y : List ℕ) (n : ℕ). cond (same_text y x) 0 (suc n)) h.0.name (action_placed as' bs h.1 x)

action_numbered : (as' bs : List Action) → AllZip ActionStands as' bs → (n : ℕ) → action_name bs n ≡ action_name as' n
action_numbered [] [] h n = refl
action_numbered [] (b ∷ bs) h n = absurd h
action_numbered (a ∷ as') [] h n = absurd h
action_numbered (a ∷ as') (b ∷ bs) h zero = h.0.name
action_numbered (a ∷ as') (b ∷ bs) h (suc n) = action_numbered as' bs h.1 n

-- a row by numbers, where tables have these numbers and take this
abbrev row_by : (place : List ℕ → ℕ) → List Held → List Decl → Row → Numbered
row_by place st ds r =
    record {
      table = place (row_name r);
      action = first_action (get_or (shapes st) (place (row_name r)) no_table.shape);
      variable = r.2;
      shape = declared_shape ds r.2;
    }

module _ (p q : Program) (same : SameTables p q) where
  abbrev P : Parts
  P = parts_of p

  abbrev Q : Parts
  Q = parts_of q

  places : table_place Q.tables ≡ table_place P.tables
  places = λ i x. table_placed P.tables Q.tables same.tables x i

  names : table_name Q.tables ≡ table_name P.tables
  names = λ i n. table_numbered P.tables Q.tables same.tables n i

  action_places : action_place Q.actions ≡ action_place P.actions
  action_places = λ i x. action_placed P.actions Q.actions same.actions x i

  action_names : action_name Q.actions ≡ action_name P.actions
  action_names = λ i n. action_numbered P.actions Q.actions same.actions n i

  long : length Q.tables ≡ length P.tables
  long = zip_long TableStands P.tables Q.tables same.tables

  is_same_table : (x : List ℕ) → is_table Q.tables x ≡ is_table P.tables x
  is_same_table x = ap (λ (xs : List (List ℕ)). is_among xs x) (tables_named P.tables Q.tables same.tables)

  -- ---- maps

  -- the rows of a map have the same numbers
  pub rows_same : (ds : List Decl) (rows : List Row) → numbered_rows q ds rows ≡ numbered_rows p ds rows
  rows_same ds rows = ap₂ (λ (place : List ℕ → ℕ) (st : List Held). map (row_by place st ds) rows) places same.before

  -- which stand for the same names
  pub named_same : (ns : List Numbered) → map (named_in Q) ns ≡ map (named_in P) ns
  named_same ns =
      ap₂ (λ (table act : ℕ → List ℕ). map (λ (n : Numbered). (let l : Lookup = record { table = table n.table; action = act n.action; variable = n.variable } in l)) ns) names action_names

  form_stays : (st : List Held) (n : Numbered) → IsOfForm P st n → IsOfForm Q st n
  form_stays st n k =
      record {
        long = k.long ∙ sym long;
        there = subst (λ (m : ℕ). n.table < m) (sym long) k.there;
        named = ap₂ (λ (place : List ℕ → ℕ) (name : ℕ → List ℕ). place (name n.table)) places names ∙ k.named;
        form = k.form;
        misses = λ some. ap (λ (name : ℕ → List ℕ). named_act name (held_at st n.table).default) action_names ∙ k.misses some;
      }

  map_stays : (st : List Held) (ns : List Numbered) → IsMapOf P st ns → IsMapOf Q st ns
  map_stays st [] k = k
  map_stays st (n ∷ ns) k = (form_stays st n k.0, (k.1.0, map_stays st ns k.1.1))

  pub can_stays : (f : Program) (ds : List Decl) (rows : List Row) → CanBeLoaded f p ds rows → CanBeLoaded f q ds rows
  can_stays f ds rows k =
      record {
        map = record {
          map = subst (λ (ns : List Numbered). IsMapOf Q (state_before q) ns) (sym (rows_same ds rows))
              (subst (λ (st : List Held). IsMapOf Q st (numbered_rows p ds rows)) (sym same.before) (map_stays (state_before p) (numbered_rows p ds rows) k.map.map));
          declared = k.map.declared;
        };
        new = k.new;
        own = λ x none there. k.own x none (sym (is_same_table x) ∙ there);
      }

  -- ---- tables of another program

  module _ (from : List Action) where
    numbers : same_number from Q.actions ≡ same_number from P.actions
    numbers = λ i n. action_places i (action_name from n)

    action_stays : (n : ℕ) → carried.ActionStands from P.actions n → carried.ActionStands from Q.actions n
    action_stays n k =
        record {
          first = k.first;
          there = ap₂ (λ (name : ℕ → List ℕ) (place : List ℕ → ℕ). name (place (action_name from n))) action_names action_places ∙ k.there;
        }

    actions_stay : (ns : List ℕ) → AllByRecursion (carried.ActionStands from P.actions) ns → AllByRecursion (carried.ActionStands from Q.actions) ns
    actions_stay [] k = k
    actions_stay (n ∷ ns) k = (action_stays n k.0, actions_stay ns k.1)

    table_stays : (t : Table) (s : shape.Shape) → carried.TableStands from p t s → carried.TableStands from q t s
    table_stays t s k =
        record {
          there = is_same_table t.name ∙ k.there;
          actions = actions_stay (s.written ∷ map (λ (a : shape.ActionShape). a.number) s.actions) k.actions;
          shape =
              ap₂ (λ (st : List Held) (place : List ℕ → ℕ). (held_at st (place t.name)).shape) same.before places
              ∙ (k.shape ∙ ap (λ (number : ℕ → ℕ). shape_renumbered number s) (sym numbers));
        }

    tables_stay : (ts : List Table) (ss : List shape.Shape) → TablesStand from p ts ss → TablesStand from q ts ss
    tables_stay [] ss k = tt
    tables_stay (t ∷ ts) [] k = tt
    tables_stay (t ∷ ts) (s ∷ ss) k = (table_stays t s k.0, tables_stay ts ss k.1)

  pub stands_stays : (f : Program) → StandsIn f p → StandsIn f q
  stands_stays f k = record { tables = tables_stay (parts_of f).actions (parts_of f).tables (shapes (state_before f)) k.tables }
