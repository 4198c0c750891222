-- The tables of a program behind a walk over those of another one: what each holds, and that they are sound.
use Rattle.std.proofs.Common.{◌≡◌, ◌≢◌, ℕ, zero, suc, ◌+◌, ◌<◌, ◌≤◌, List, [], ◌∷◌, length, map, drop, get_or, set, Bool, true, false, cond, Some, refl, sym, ap, ap₂, subst, ◌∙◌, arith}
use Rattle.std.specs.Prelude.{◌||◌}
use Rattle.std.specs.List.{AllByRecursion}
use Rattle.std.specs.Cmp.Lexicographic.{bytes_decides, same_text as texts_same}
use Rattle.std.proofs.lemmas.Bool.{false≢true, or_parts}
use Rattle.std.proofs.lemmas.List.{get_or-set_same, get_or-set_other, set-set, set_past, length-map, drop_more}
use Rattle.std.proofs.Math.Seq.{map-set_same}
use Rattle.lex_text.specs.Names.{same_text}
use Rattle.p4_tree.specs.Tree.{Program}
use Rattle.p4_meaning.specs.Actions.{Action}
use Rattle.p4_meaning.specs.Tables.{Table}
use Rattle.p4_meaning.specs.Parts.{Parts, parts_of}
use Rattle.table_shapes.specs.Shapes.{Shape}
use Rattle.p4_tables.specs.State.{Held, no_table, held_at, entries_in, replaced}
use Rattle.p4_tables.specs.Kept.{IsSound, AreSound}
use Rattle.value_shapes.specs.declared.values.ValueShape.{ValueShape}
use Rattle.p4_tables.specs.Programs.{shapes, state_before, tables_before, params_hold, keys_hold}
use Rattle.p4_tables.specs.Named.{action_name, entries_named, tables_in, table_place}
use Rattle.p4_tables.specs.Carried.{is_table, same_number, renumbered, act_renumbered, refilled, AreRefilled, TablesStand, StandsIn, HoldsCarried}
use Rattle.p4_tables.specs.CarriedWalk.{with_refilled, all_refilled}
use Rattle.p4_tables.proofs.Sound.{all_set, entries_set}
use Rattle.p4_tables.proofs.Started.{no_entries}
use Rattle.p4_tables.proofs.TableNames.{found}
use Rattle.p4_tables.proofs.Renumbered.{refilled_sound, refilled_named}

-- ---- the tables of names

-- a table that is declared has a place
pub place_there : (ts : List Table) (x : List ℕ) → is_table ts x ≡ true → table_place ts x < length ts
place_there [] x e = absurd (false≢true e)
place_there (t ∷ ts) x e = go (same_text t.name x) e (place_there ts x)
  where
    go : (b : Bool) → (b || is_table ts x) ≡ true → (is_table ts x ≡ true → table_place ts x < length ts) → cond b 0 (suc (table_place ts x)) < suc (length ts)
    go true f more = omega arith
    go false f more = let lt = more f in omega (arith, lt)

-- and no other name has it
one_name : (ts : List Table) (x y : List ℕ) → is_table ts x ≡ true → table_place ts x ≡ table_place ts y → x ≡ y
one_name [] x y e p = absurd (false≢true e)
one_name (t ∷ ts) x y e p = go (same_text t.name x) (same_text t.name y) refl refl e p (one_name ts x y)
  where
    go : (b c : Bool) → same_text t.name x ≡ b → same_text t.name y ≡ c → (b || is_table ts x) ≡ true → cond b 0 (suc (table_place ts x)) ≡ cond c 0 (suc (table_place ts y))
        → (is_table ts x ≡ true → table_place ts x ≡ table_place ts y → x ≡ y) → x ≡ y
    go true true i j f q more = sym (texts_same t.name x (sym i)) ∙ texts_same t.name y (sym j)
    go true false i j f q more = absurd (omega (arith, q))
    go false true i j f q more = absurd (omega (arith, q))
    go false false i j f q more = more f (omega (arith, q))

-- a name is the same as itself
same_self : (x y : List ℕ) → x ≡ y → same_text x y ≡ true
same_self x y e = (bytes_decides x y).1 e

-- a name of none of these tables has the place of none
all_apart : (ts us : List Table) (x : List ℕ) → is_table us x ≡ true → is_table ts x ≡ false → AllByRecursion (λ t. table_place us t.name ≢ table_place us x) ts
all_apart [] us x e f = tt
all_apart (t ∷ ts) us x e f =
    let parts = or_parts (same_text t.name x) (is_table ts x) f in
    (λ p. false≢true (sym parts.0 ∙ same_self t.name x (sym (one_name us x t.name e (sym p)))), all_apart ts us x e parts.1)

-- ---- what tables take

shape_of_at : (st : List Held) (n : ℕ) → get_or (shapes st) n ((λ (h : Held). h.shape) no_table) ≡ (held_at st n).shape
shape_of_at [] n = refl
shape_of_at (h ∷ st) zero = refl
shape_of_at (h ∷ st) (suc n) = shape_of_at st n

shape_at : (gs hs : List Held) (n : ℕ) → shapes gs ≡ shapes hs → (held_at gs n).shape ≡ (held_at hs n).shape
shape_at gs hs n e = sym (shape_of_at gs n) ∙ (ap (λ (l : List Shape). get_or l n ((λ (h : Held). h.shape) no_table)) e ∙ shape_of_at hs n)

pub as_many : (gs hs : List Held) → shapes gs ≡ shapes hs → length gs ≡ length hs
as_many gs hs e = sym (length-map gs (λ (h : Held). h.shape)) ∙ (ap length e ∙ length-map hs (λ (h : Held). h.shape))

-- ---- one table

-- it is given a list of entries and a default
pub refilled_is : (from to : Parts) (x : List ℕ) (h : Held) (st : List Held) (n : ℕ) → n ≡ table_place to.tables x → n < length st
    → replaced st n (map (renumbered (same_number from.actions to.actions)) h.listed) (Some (act_renumbered (same_number from.actions to.actions) h.default)) ≡ with_refilled from to x h st
refilled_is from to x h st n at lt =
    let es = map (renumbered (same_number from.actions to.actions)) h.listed in
    let d = act_renumbered (same_number from.actions to.actions) h.default in
    ap (λ (g : Held). set (set st n (record (held_at st n) { listed = es })) n (record g { default = d })) (get_or-set_same st n (record (held_at st n) { listed = es }) no_table lt)
    ∙ (set-set st n (record (held_at st n) { listed = es }) (record (held_at st n) { listed = es; default = d })
    ∙ ap (λ (i : ℕ). set st i (refilled (same_number from.actions to.actions) (held_at st i) h)) at)

-- there is none
pub refilled_past : (from to : Parts) (x : List ℕ) (h : Held) (st : List Held) (n : ℕ) → n ≡ table_place to.tables x → length st ≤ n → st ≡ with_refilled from to x h st
refilled_past from to x h st n at le = sym (set_past st (table_place to.tables x) (refilled (same_number from.actions to.actions) (held_at st (table_place to.tables x)) h) (omega (arith, at)))

-- ---- the walk

-- one table more
pub one_refilled : (from to : Parts) (ts : List Table) (hs before st after : List Held) (left : ℕ) (t : Table) (h : Held) → left < length ts → left < length hs → t ≡ get_or ts left t → h ≡ get_or hs left h
    → st ≡ all_refilled from to (drop (left + 1) ts) (drop (left + 1) hs) before → after ≡ with_refilled from to t.name h st → after ≡ all_refilled from to (drop left ts) (drop left hs) before
one_refilled from to ts hs before st after left t h lt lh at ah now is =
    is
    ∙ (ap (with_refilled from to t.name h) now
    ∙ (ap₂ (λ (u : Table) (g : Held). with_refilled from to u.name g (all_refilled from to (drop (left + 1) ts) (drop (left + 1) hs) before)) at ah
    ∙ sym (ap₂ (λ (us : List Table) (gs : List Held). all_refilled from to us gs before) (drop_more ts left t lt) (drop_more hs left h lh))))

module _ (from : Parts) (to : Parts) (before : List Held) where
  pub shapes_stay : (ts : List Table) (hs : List Held) → shapes (all_refilled from to ts hs before) ≡ shapes before
  shapes_stay [] hs = refl
  shapes_stay (t ∷ ts) [] = refl
  shapes_stay (t ∷ ts) (h ∷ hs) =
      let rest = all_refilled from to ts hs before in
      map-set_same (λ (g : Held). g.shape) rest (table_place to.tables t.name) (refilled (same_number from.actions to.actions) (held_at rest (table_place to.tables t.name)) h) no_table refl ∙ shapes_stay ts hs

  -- a table that has none of these names
  pub others_stay : (ts : List Table) (hs : List Held) (n : ℕ) → AllByRecursion (λ t. table_place to.tables t.name ≢ n) ts → held_at (all_refilled from to ts hs before) n ≡ held_at before n
  others_stay [] hs n h = refl
  others_stay (t ∷ ts) [] n h = refl
  others_stay (t ∷ ts) (g ∷ hs) n h =
      let rest = all_refilled from to ts hs before in
      get_or-set_other rest (table_place to.tables t.name) n (refilled (same_number from.actions to.actions) (held_at rest (table_place to.tables t.name)) g) no_table (λ e. h.0 (sym e)) ∙ others_stay ts hs n h.1

  -- a table that has one of them
  refilled_shape : (g k h : Held) → g.shape ≡ k.shape → refilled (same_number from.actions to.actions) g h ≡ refilled (same_number from.actions to.actions) k h
  refilled_shape g k h e = ap (λ (s : Shape). record { shape = s; listed = map (renumbered (same_number from.actions to.actions)) h.listed; default = act_renumbered (same_number from.actions to.actions) h.default }) e

  pub same_there : length before ≡ length to.tables → (ts : List Table) (hs : List Held) → length ts ≤ length hs → AllByRecursion (λ t. is_table to.tables t.name ≡ true) ts → (x : List ℕ) → is_table ts x ≡ true
      → held_at (all_refilled from to ts hs before) (table_place to.tables x) ≡ refilled (same_number from.actions to.actions) (held_at before (table_place to.tables x)) (held_at hs (table_place ts x))
  same_there many [] hs le there x e = absurd (false≢true e)
  same_there many (t ∷ ts) [] le there x e = absurd (omega (arith, le))
  same_there many (t ∷ ts) (h ∷ hs) le there x e = go (same_text t.name x) refl e (same_there many ts hs (omega (arith, le)) there.1 x)
    where
      go : (b : Bool) → same_text t.name x ≡ b → (b || is_table ts x) ≡ true
          → (is_table ts x ≡ true → held_at (all_refilled from to ts hs before) (table_place to.tables x) ≡ refilled (same_number from.actions to.actions) (held_at before (table_place to.tables x)) (held_at hs (table_place ts x)))
          → held_at (with_refilled from to t.name h (all_refilled from to ts hs before)) (table_place to.tables x)
          ≡ refilled (same_number from.actions to.actions) (held_at before (table_place to.tables x)) (held_at (h ∷ hs) (cond b 0 (suc (table_place ts x))))
      go true i f more =
          let is : t.name ≡ x = texts_same t.name x (sym i) in
          let in_all : table_place to.tables t.name < length to.tables = place_there to.tables t.name there.0 in
          let counted : length (all_refilled from to ts hs before) ≡ length before = as_many (all_refilled from to ts hs before) before (shapes_stay ts hs) in
          ap (λ (y : List ℕ). held_at (with_refilled from to t.name h (all_refilled from to ts hs before)) (table_place to.tables y)) (sym is)
          ∙ (get_or-set_same (all_refilled from to ts hs before) (table_place to.tables t.name) (refilled (same_number from.actions to.actions) (held_at (all_refilled from to ts hs before) (table_place to.tables t.name)) h) no_table (omega (arith, in_all, counted, many))
          ∙ (refilled_shape (held_at (all_refilled from to ts hs before) (table_place to.tables t.name)) (held_at before (table_place to.tables t.name)) h (shape_at (all_refilled from to ts hs before) before (table_place to.tables t.name) (shapes_stay ts hs))
          ∙ ap (λ (y : List ℕ). refilled (same_number from.actions to.actions) (held_at before (table_place to.tables y)) h) is))
      go false i f more =
          let apart : table_place to.tables x ≢ table_place to.tables t.name = λ p. false≢true (sym i ∙ same_self t.name x (one_name to.tables t.name x there.0 (sym p))) in
          get_or-set_other (all_refilled from to ts hs before) (table_place to.tables t.name) (table_place to.tables x) (refilled (same_number from.actions to.actions) (held_at (all_refilled from to ts hs before) (table_place to.tables t.name)) h) no_table apart ∙ more f

-- ---- where all stand in the other program

module _ (from : Parts) (to : Program) where
  names_stand : (ts : List Table) (hs : List Held) → length ts ≤ length hs → TablesStand from.actions to ts (shapes hs) → AllByRecursion (λ t. is_table (parts_of to).tables t.name ≡ true) ts
  names_stand [] hs le s = tt
  names_stand (t ∷ ts) [] le s = absurd (omega (arith, le))
  names_stand (t ∷ ts) (h ∷ hs) le s = (s.0.there, names_stand ts hs (omega (arith, le)) s.1)

  -- each table is sound
  each_sound : (before : List Held) → shapes before ≡ shapes (state_before to) → AllByRecursion IsSound before → (ts : List Table) (hs : List Held) → AllByRecursion IsSound hs → TablesStand from.actions to ts (shapes hs)
      → AllByRecursion IsSound (all_refilled from (parts_of to) ts hs before)
  each_sound before same b [] hs h s = b
  each_sound before same b (t ∷ ts) [] h s = b
  each_sound before same b (t ∷ ts) (g ∷ hs) h s =
      let rest = all_refilled from (parts_of to) ts hs before in
      let n = table_place (parts_of to).tables t.name in
      let shape = shape_at (all_refilled from (parts_of to) ts hs before) (state_before to) (table_place (parts_of to).tables t.name) (shapes_stay from (parts_of to) before ts hs ∙ same) ∙ s.0.shape in
      all_set IsSound rest n (refilled (same_number from.actions (parts_of to).actions) (held_at rest n) g) (each_sound before same b ts hs h.1 s.1) (refilled_sound from.actions (parts_of to).actions g h.0 s.0.actions (held_at rest n) shape)

  -- they hold no more entries
  few_entries : (before : List Held) → length before ≡ length (parts_of to).tables → (ts : List Table) (hs : List Held) → TablesStand from.actions to ts (shapes hs)
      → entries_in (all_refilled from (parts_of to) ts hs before) ≤ entries_in before + entries_in hs
  few_entries before many [] hs s = omega arith
  few_entries before many (t ∷ ts) [] s = omega arith
  few_entries before many (t ∷ ts) (h ∷ hs) s =
      let rest = all_refilled from (parts_of to) ts hs before in
      let n = table_place (parts_of to).tables t.name in
      let g = refilled (same_number from.actions (parts_of to).actions) (held_at rest n) h in
      let there : n < length (parts_of to).tables = place_there (parts_of to).tables t.name s.0.there in
      let counted : length rest ≡ length before = as_many rest before (shapes_stay from (parts_of to) before ts hs) in
      let fewer : entries_in rest ≤ entries_in before + entries_in hs = few_entries before many ts hs s.1 in
      let one : entries_in (set rest n g) + length (held_at rest n).listed ≡ entries_in rest + length g.listed = entries_set rest n g (omega (arith, there, counted, many)) in
      let long : length g.listed ≡ length h.listed = length-map h.listed (renumbered (same_number from.actions (parts_of to).actions)) in
      omega (arith, fewer, one, long)

  -- they hold the same by names
  same_named : (ts : List Table) (hs : List Held) → length ts ≤ length hs → AllByRecursion IsSound hs → TablesStand from.actions to ts (shapes hs) → (g : Held) (x : List ℕ) → is_table ts x ≡ true
      → entries_named (action_name (parts_of to).actions) (refilled (same_number from.actions (parts_of to).actions) g (held_at hs (table_place ts x))) ≡ entries_named (action_name from.actions) (held_at hs (table_place ts x))
  same_named [] hs le h s g x e = absurd (false≢true e)
  same_named (t ∷ ts) [] le h s g x e = absurd (omega (arith, le))
  same_named (t ∷ ts) (k ∷ hs) le h s g x e = go (same_text t.name x) e (same_named ts hs (omega (arith, le)) h.1 s.1 g x)
    where
      go : (b : Bool) → (b || is_table ts x) ≡ true
          → (is_table ts x ≡ true → entries_named (action_name (parts_of to).actions) (refilled (same_number from.actions (parts_of to).actions) g (held_at hs (table_place ts x))) ≡ entries_named (action_name from.actions) (held_at hs (table_place ts x)))
          → entries_named (action_name (parts_of to).actions) (refilled (same_number from.actions (parts_of to).actions) g (held_at (k ∷ hs) (cond b 0 (suc (table_place ts x))))) ≡ entries_named (action_name from.actions) (held_at (k ∷ hs) (cond b 0 (suc (table_place ts x))))
      go true f more = refilled_named from.actions (parts_of to).actions k h.0 s.0.actions g
      go false f more = more f

-- ---- all tables

tables_long : (as' : List Action) (pss : List (List ValueShape)) (ts : List Table) (kss : List (List ValueShape)) → length (tables_before as' pss ts kss) ≡ length ts
tables_long as' pss [] kss = refl
tables_long as' pss (t ∷ ts) [] = ap suc (tables_long as' pss ts [])
tables_long as' pss (t ∷ ts) (ks ∷ kss) = ap suc (tables_long as' pss ts kss)

pub before_long : (p : Program) → length (state_before p) ≡ length (parts_of p).tables
unfolding state_before
before_long p = tables_long (parts_of p).actions (params_hold p) (parts_of p).tables (keys_hold p)

-- the tables of a program, into which those of another one were carried
abbrev pub carried_in : (from to : Program) → List Held → List Held
carried_in from to st = all_refilled (parts_of from) (parts_of to) (parts_of from).tables st (state_before to)

pub carried_is : (from to : Program) (st : List Held) (f g : Parts) (hs before after : List Held) → f ≡ parts_of from → g ≡ parts_of to → hs ≡ st → before ≡ state_before to → after ≡ all_refilled f g f.tables hs before → after ≡ carried_in from to st
carried_is from to st f g hs before after own other now first is =
    is
    ∙ (ap (λ (x : Parts). all_refilled x g x.tables hs before) own
    ∙ (ap₂ (λ (y : Parts) (ks : List Held). all_refilled (parts_of from) y (parts_of from).tables ks before) other now
    ∙ ap (all_refilled (parts_of from) (parts_of to) (parts_of from).tables st) first))

pub carried_shapes : (from to : Program) (st : List Held) → shapes (carried_in from to st) ≡ shapes (state_before to)
carried_shapes from to st = shapes_stay (parts_of from) (parts_of to) (state_before to) (parts_of from).tables st

module _ (from to : Program) (st : List Held) (same : shapes st ≡ shapes (state_before from)) (stand : StandsIn from to) where
  many : length (parts_of from).tables ≤ length st
  many = (let a = as_many st (state_before from) same in let b = before_long from in omega (arith, a, b))

  stands_now : TablesStand (parts_of from).actions to (parts_of from).tables (shapes st)
  stands_now = subst (TablesStand (parts_of from).actions to (parts_of from).tables) (sym same) stand.tables

  pub carried_few : entries_in (carried_in from to st) ≤ entries_in st
  carried_few =
      let f = few_entries (parts_of from) to (state_before to) (before_long to) (parts_of from).tables st stands_now in
      let z = no_entries to in
      omega (arith, f, z)

  pub carried_refilled : AreRefilled (parts_of from) st (parts_of to) (state_before to) (carried_in from to st)
  carried_refilled =
      record {
        same = same_there (parts_of from) (parts_of to) (state_before to) (before_long to) (parts_of from).tables st many (names_stand (parts_of from) to (parts_of from).tables st many stands_now);
        others = others_stay (parts_of from) (parts_of to) (state_before to) (parts_of from).tables st;
      }

  module _ (sound : AreSound st) where
    pub carried_sound : AreSound (state_before to) → AreSound (carried_in from to st)
    carried_sound b =
        let f = carried_few in
        let few = sound.few in
        record { each = each_sound (parts_of from) to (state_before to) refl b.each (parts_of from).tables st sound.each stands_now; few = omega (arith, f, few) }

    -- what a table of the program holds, behind it and before
    named_now : (hs : List Held) → shapes hs ≡ shapes (state_before to) → (x : List ℕ) → is_table (parts_of to).tables x ≡ true → tables_in (parts_of to) hs x ≡ entries_named (action_name (parts_of to).actions) (held_at hs (table_place (parts_of to).tables x))
    named_now hs e x is =
        let lt = place_there (parts_of to).tables x is in
        let a = as_many hs (state_before to) e in
        let b = before_long to in
        (found (action_name (parts_of to).actions) (parts_of to).tables hs x lt (omega (arith, lt, a, b))).1

    one_carried : (x : List ℕ) → is_table (parts_of to).tables x ≡ true → (b : Bool) → is_table (parts_of from).tables x ≡ b
        → tables_in (parts_of to) (carried_in from to st) x ≡ cond b (tables_in (parts_of from) st x) (tables_in (parts_of to) (state_before to) x)
    one_carried x is true e =
        let lt = place_there (parts_of from).tables x e in
        let n = many in
        named_now (carried_in from to st) (carried_shapes from to st) x is
        ∙ (ap (entries_named (action_name (parts_of to).actions)) (carried_refilled.same x e)
        ∙ (same_named (parts_of from) to (parts_of from).tables st many sound.each stands_now (held_at (state_before to) (table_place (parts_of to).tables x)) x e
        ∙ sym (found (action_name (parts_of from).actions) (parts_of from).tables st x lt (omega (arith, lt, n))).1))
    one_carried x is false e =
        named_now (carried_in from to st) (carried_shapes from to st) x is
        ∙ (ap (entries_named (action_name (parts_of to).actions)) (carried_refilled.others (table_place (parts_of to).tables x) (all_apart (parts_of from).tables (parts_of to).tables x is e))
        ∙ sym (named_now (state_before to) refl x is))

    pub carried_named : HoldsCarried from st to (carried_in from to st)
    carried_named = record { held = λ x is. one_carried x is (is_table (parts_of from).tables x) refl }
