-- The tests of two programs tell what they are to tell.
use Rattle.std.proofs.Common.{◌≡◌, ℕ, ◌+◌, ◌<◌, List, [], ◌∷◌, length, map, drop, get_or, Bool, true, false, refl, sym, ap, ap₂, ◌∙◌, arith}
use Rattle.std.specs.Prelude.{◌&&◌, nat_eq, nat_lt}
use Rattle.std.specs.Bool.{beq, Decides, OnTrue, OnFalse}
use Rattle.std.specs.List.{AllByRecursion}
use Rattle.std.specs.Cmp.{booleans_Decides}
use Rattle.std.specs.Cmp.Lexicographic.{pointwise, bytes_decides}
use Rattle.std.proofs.lemmas.Bool.{false≢true}
use Rattle.std.proofs.lemmas.Bool.Decides.{Decides-eqb, Decides-ltb}
use Rattle.std.proofs.lemmas.List.{drop_more}
use Rattle.bit_values.specs.Bits.{Word, word}
use Rattle.lex_text.specs.Names.{same_text}
use Rattle.p4_tree.specs.Tree.{Program}
use Rattle.p4_meaning.specs.Actions.{Action}
use Rattle.p4_meaning.specs.Tables.{Table}
use Rattle.p4_meaning.specs.Parts.{Parts, parts_of}
use Rattle.p4_parts.specs.PartsIn.{action_in, table_in}
use Rattle.p4_parts.specs.declared.parts.Action as code_action
use Rattle.p4_parts.specs.declared.parts.Table as code_table
use Rattle.table_shapes.specs.Shapes.{ActionShape, Shape}
use Rattle.table_shapes.specs.declared.shape.KeyKind.{KeyKind}
use Rattle.table_shapes.specs.declared.shape.KeyKind.TheVariants.{Exact, Lpm, Ternary}
use Rattle.table_shapes.specs.declared.shape.KeyShape.{KeyShape}
use Rattle.value_shapes.specs.declared.values.ValueShape.{ValueShape}
use Rattle.p4_tables.specs.State.{Held, held_at}
use Rattle.p4_tables.specs.Programs.{action_place, shapes, state_before}
use Rattle.p4_tables.specs.Named.{action_name, table_place}
use Rattle.p4_tables.specs.Carried.{same_number, action_renumbered, shape_renumbered, ActionStands, TableStands, TablesStand, StandsIn}
use Rattle.p4_tables.specs.StandsTests.{same_value, same_kind, same_key, same_word, action_stands, is_listed, takes_same, table_stands, tables_stand}
use Rattle.p4_tables.proofs.TableNames.{found}
use Rattle.p4_tables.proofs.Renumbered.{both_true}
use Rattle.p4_tables.proofs.Refilled.{place_there, before_long}

-- ---- decisions

both_decided : (a b : Bool) {P Q R : Type 0} → Decides a P → Decides b Q → (P → Q → R) → (R → P × Q) → Decides (a && b) R
both_decided a b h k to from = (
  λ e. (let p = both_true a b e in to (h.0 p.0) (k.0 p.1)),
  λ r. (let p = from r in ap₂ (λ (x y : Bool). x && y) (h.1 p.0) (k.1 p.1)),
)

abbrev head_or : {A : Type 0} → A → List A → A
head_or d [] = d
head_or d (z ∷ zs) = z

abbrev tail_of : {A : Type 0} → List A → List A
tail_of [] = []
tail_of (z ∷ zs) = zs

all_decided : {A : Type 0} (E : A → A → Bool) → ((x y : A) → Decides (E x y) (x ≡ y)) → (xs ys : List A) → Decides (pointwise E xs ys) (xs ≡ ys)
all_decided E h [] [] = (λ e. refl, λ e. refl)
all_decided E h [] (y ∷ ys) = (λ e. absurd (false≢true e), λ e. absurd (omega (arith, ap length e)))
all_decided E h (x ∷ xs) [] = (λ e. absurd (false≢true e), λ e. absurd (omega (arith, ap length e)))
all_decided E h (x ∷ xs) (y ∷ ys) =
    both_decided (E x y) (pointwise E xs ys) (h x y) (all_decided E h xs ys) (λ e r. ap₂ (λ u us. u ∷ us) e r) (λ e. (ap (head_or x) e, ap tail_of e))

value_decided : (v w : ValueShape) → Decides (same_value v w) (v ≡ w)
value_decided v w =
    both_decided (nat_eq v.width w.width) (beq v.is_truth w.is_truth) (Decides-eqb v.width w.width) (booleans_Decides v.is_truth w.is_truth)
    (λ e f. ap₂ (λ (n : ℕ) (b : Bool). record { width = n; is_truth = b }) e f) (λ e. (ap (λ (x : ValueShape). x.width) e, ap (λ (x : ValueShape). x.is_truth) e))

kind_decided : (k l : KeyKind) → Decides (same_kind k l) (k ≡ l)
kind_decided Exact Exact = (λ e. refl, λ e. refl)
kind_decided Exact Lpm = (λ e. absurd (false≢true e), λ e. ap (same_kind Exact) (sym e))
kind_decided Exact Ternary = (λ e. absurd (false≢true e), λ e. ap (same_kind Exact) (sym e))
kind_decided Lpm Exact = (λ e. absurd (false≢true e), λ e. ap (same_kind Lpm) (sym e))
kind_decided Lpm Lpm = (λ e. refl, λ e. refl)
kind_decided Lpm Ternary = (λ e. absurd (false≢true e), λ e. ap (same_kind Lpm) (sym e))
kind_decided Ternary Exact = (λ e. absurd (false≢true e), λ e. ap (same_kind Ternary) (sym e))
kind_decided Ternary Lpm = (λ e. absurd (false≢true e), λ e. ap (same_kind Ternary) (sym e))
kind_decided Ternary Ternary = (λ e. refl, λ e. refl)

key_decided : (k l : KeyShape) → Decides (same_key k l) (k ≡ l)
key_decided k l =
    both_decided (same_kind k.kind l.kind) (same_value k.value l.value) (kind_decided k.kind l.kind) (value_decided k.value l.value)
    (λ e f. ap₂ (λ (n : KeyKind) (v : ValueShape). record { kind = n; value = v }) e f) (λ e. (ap (λ (x : KeyShape). x.kind) e, ap (λ (x : KeyShape). x.value) e))

word_decided : (v w : Word) → Decides (same_word v w) (v ≡ w)
word_decided v w =
    both_decided (nat_eq v.width w.width) (nat_eq v.value w.value) (Decides-eqb v.width w.width) (Decides-eqb v.value w.value)
    (λ e f. ap₂ word e f) (λ e. (ap (λ (x : Word). x.width) e, ap (λ (x : Word). x.value) e))

-- ---- actions

module _ (from to : List Action) where
  action_decided : (n : ℕ) → Decides (action_stands from to n) (ActionStands from to n)
  action_decided n =
      both_decided (nat_eq (action_place from (action_name from n)) n) (same_text (action_name to (same_number from to n)) (action_name from n))
      (Decides-eqb (action_place from (action_name from n)) n) (bytes_decides (action_name to (same_number from to n)) (action_name from n))
      (λ e f. record { first = e; there = f }) (λ r. (r.first, r.there))

  -- an action of another list stands for this one, whose name stands in both programs
  record Stands (b a : ActionShape) : Type 0 where
    stands : ActionStands from to a.number
    same : b ≡ action_renumbered (same_number from to) a

  listed_decided : (b a : ActionShape) → Decides (is_listed from to b a) (Stands b a)
  listed_decided b a =
      both_decided (action_stands from to a.number) (nat_eq b.number (same_number from to a.number) && pointwise same_value b.params a.params)
      (action_decided a.number)
      (both_decided (nat_eq b.number (same_number from to a.number)) (pointwise same_value b.params a.params) {R = b ≡ action_renumbered (same_number from to) a} (Decides-eqb b.number (same_number from to a.number)) (all_decided same_value value_decided b.params a.params)
      (λ e f. ap₂ (λ (n : ℕ) (vs : List ValueShape). record { number = n; params = vs }) e f) (λ e. (ap (λ (x : ActionShape). x.number) e, ap (λ (x : ActionShape). x.params) e)))
      (λ s e. record { stands = s; same = e }) (λ r. (r.stands, r.same))

  -- so do all
  record AllStand (bs xs : List ActionShape) : Type 0 where
    stand : AllByRecursion (ActionStands from to) (map (λ a. a.number) xs)
    same : bs ≡ map (action_renumbered (same_number from to)) xs

  lists_decided : (bs xs : List ActionShape) → Decides (pointwise (is_listed from to) bs xs) (AllStand bs xs)
  lists_decided [] [] = (λ e. record { stand = tt; same = refl }, λ e. refl)
  lists_decided [] (x ∷ xs) = (λ e. absurd (false≢true e), λ e. absurd (omega (arith, ap length e.same)))
  lists_decided (b ∷ bs) [] = (λ e. absurd (false≢true e), λ e. absurd (omega (arith, ap length e.same)))
  lists_decided (b ∷ bs) (x ∷ xs) =
      both_decided (is_listed from to b x) (pointwise (is_listed from to) bs xs) (listed_decided b x) (lists_decided bs xs)
      (λ h r. record { stand = (h.stands, r.stand); same = ap₂ (λ u us. u ∷ us) h.same r.same })
      (λ r. (record { stands = r.stand.0; same = ap (head_or b) r.same }, record { stand = r.stand.1; same = ap tail_of r.same }))

  -- what a table takes
  record TakesSame (o s : Shape) : Type 0 where
    stand : AllByRecursion (ActionStands from to) (s.written ∷ map (λ a. a.number) s.actions)
    same : o ≡ shape_renumbered (same_number from to) s

  takes_decided : (o s : Shape) → Decides (takes_same from to o s) (TakesSame o s)
  takes_decided o s =
      both_decided (action_stands from to s.written) _ (action_decided s.written)
      (both_decided (pointwise (is_listed from to) o.actions s.actions) _ (lists_decided o.actions s.actions)
      (both_decided (pointwise same_key o.keys s.keys) _ (all_decided same_key key_decided o.keys s.keys)
      (both_decided (nat_eq o.written (same_number from to s.written)) _ (Decides-eqb o.written (same_number from to s.written))
      (both_decided (pointwise same_word o.written_args s.written_args) (beq o.fixed s.fixed) (all_decided same_word word_decided o.written_args s.written_args) (booleans_Decides o.fixed s.fixed)
      (λ e f. (e, f)) (λ p. p))
      (λ e f. (e, f)) (λ p. p))
      (λ e f. (e, f)) (λ p. p))
      (λ e f. (e, f)) (λ p. p))
      (λ w p. record { stand = (w, p.0.stand); same = shape_is p.1.0 p.0.same p.1.1.0 p.1.1.1.0 p.1.1.1.1 })
      (λ r. (
        r.stand.0,
        (
          record { stand = r.stand.1; same = ap (λ (x : Shape). x.actions) r.same },
          (ap (λ (x : Shape). x.keys) r.same, (ap (λ (x : Shape). x.written) r.same, (ap (λ (x : Shape). x.written_args) r.same, ap (λ (x : Shape). x.fixed) r.same))),
        ),
      ))
    where
      shape_is : {t : Shape} → o.keys ≡ t.keys → o.actions ≡ t.actions → o.written ≡ t.written → o.written_args ≡ t.written_args → o.fixed ≡ t.fixed → o ≡ t
      shape_is {t} k a w ws f =
          ap (λ (x : List KeyShape). record { keys = x; actions = o.actions; written = o.written; written_args = o.written_args; fixed = o.fixed }) k
          ∙ (ap (λ (x : List ActionShape). record { keys = t.keys; actions = x; written = o.written; written_args = o.written_args; fixed = o.fixed }) a
          ∙ (ap (λ (x : ℕ). record { keys = t.keys; actions = t.actions; written = x; written_args = o.written_args; fixed = o.fixed }) w
          ∙ (ap (λ (x : List Word). record { keys = t.keys; actions = t.actions; written = t.written; written_args = x; fixed = o.fixed }) ws
          ∙ ap (λ (x : Bool). record { keys = t.keys; actions = t.actions; written = t.written; written_args = t.written_args; fixed = x }) f)))

-- ---- tables

module _ (from : List Action) (to : Program) where
  table_decided : (t : Table) (s : Shape) → Decides (table_stands from (parts_of to).actions (parts_of to).tables (state_before to) t.name s) (TableStands from to t s)
  table_decided t s =
      both_decided (nat_lt (table_place (parts_of to).tables t.name) (length (state_before to))) _
      (Decides-ltb (table_place (parts_of to).tables t.name) (length (state_before to)))
      (takes_decided from (parts_of to).actions (held_at (state_before to) (table_place (parts_of to).tables t.name)).shape s)
      (λ lt r. record { there = (found (λ n. []) (parts_of to).tables (state_before to) t.name (let b = before_long to in omega (arith, lt, b)) lt).0; actions = r.stand; shape = r.same })
      (λ r. ((let lt = place_there (parts_of to).tables t.name r.there in let b = before_long to in omega (arith, lt, b)), record { stand = r.actions; same = r.shape }))

  tables_decided : (ts : List Table) (gs : List Held) → Decides (tables_stand from (parts_of to).actions (parts_of to).tables (state_before to) ts gs) (TablesStand from to ts (shapes gs))
  tables_decided [] gs = (λ e. tt, λ e. refl)
  tables_decided (t ∷ ts) [] = (λ e. tt, λ e. refl)
  tables_decided (t ∷ ts) (g ∷ gs) =
      both_decided (table_stands from (parts_of to).actions (parts_of to).tables (state_before to) t.name g.shape) (tables_stand from (parts_of to).actions (parts_of to).tables (state_before to) ts gs)
      (table_decided t g.shape) (tables_decided ts gs) (λ h r. (h, r)) (λ p. p)

pub program_decided : (from to : Program) → Decides (tables_stand (parts_of from).actions (parts_of to).actions (parts_of to).tables (state_before to) (parts_of from).tables (state_before from)) (StandsIn from to)
program_decided from to =
    let d = tables_decided (parts_of from).actions to (parts_of from).tables (state_before from) in
    (λ e. record { tables = d.0 e }, λ r. d.1 r.tables)

-- the parts and the tables of both programs as they are kept
pub program_same : (from to : Program) (f g : Parts) (hs gs : List Held) → f ≡ parts_of from → g ≡ parts_of to → hs ≡ state_before to → gs ≡ state_before from
    → tables_stand f.actions g.actions g.tables hs f.tables gs ≡ tables_stand (parts_of from).actions (parts_of to).actions (parts_of to).tables (state_before to) (parts_of from).tables (state_before from)
program_same from to f g hs gs own other theirs ours =
    ap (λ (x : Parts). tables_stand x.actions g.actions g.tables hs x.tables gs) own
    ∙ (ap (λ (y : Parts). tables_stand (parts_of from).actions y.actions y.tables hs (parts_of from).tables gs) other
    ∙ ap₂ (λ (ks ls : List Held). tables_stand (parts_of from).actions (parts_of to).actions (parts_of to).tables ks (parts_of from).tables ls) theirs ours)

-- the same lists
pub listed_same : (as' bs cs ds : List code_action.Action) (ts us vs ws : List code_table.Table) (hs gs : List Held) → as' ≡ bs → cs ≡ ds → ts ≡ us → vs ≡ ws
    → tables_stand (map action_in as') (map action_in cs) (map table_in ts) hs (map table_in vs) gs ≡ tables_stand (map action_in bs) (map action_in ds) (map table_in us) hs (map table_in ws) gs
listed_same as' bs cs ds ts us vs ws hs gs a c t v =
    ap₂ (λ (xs ys : List code_action.Action). tables_stand (map action_in xs) (map action_in ys) (map table_in ts) hs (map table_in vs) gs) a c
    ∙ ap₂ (λ (xs ys : List code_table.Table). tables_stand (map action_in bs) (map action_in ds) (map table_in xs) hs (map table_in ys) gs) t v

pub on_true : (b c : Bool) {P : Type 0} → b ≡ c → Decides c P → OnTrue b P
on_true true c e d = d.0 (sym e)
on_true false c e d = tt

pub on_false : (b c : Bool) {P : Type 0} → b ≡ c → Decides c P → OnFalse b (P → ⊥)
on_false true c e d = tt
on_false false c e d = λ p. false≢true (e ∙ d.1 p)

-- ---- the walk over the tables

module _ (from to : List Action) (us : List Table) (hs : List Held) (ts : List Table) (gs : List Held) (all : Bool) where
  step : (i : ℕ) (t : Table) (g : Held) → i < length ts → i < length gs → t ≡ get_or ts i t → g ≡ get_or gs i g
      → tables_stand from to us hs (drop i ts) (drop i gs) ≡ (table_stands from to us hs t.name g.shape && tables_stand from to us hs (drop (i + 1) ts) (drop (i + 1) gs))
  step i t g lt lg at ag =
      ap₂ (λ (xs : List Table) (ks : List Held). tables_stand from to us hs xs ks) (drop_more ts i t lt) (drop_more gs i g lg)
      ∙ sym (ap₂ (λ (u : Table) (k : Held). table_stands from to us hs u.name k.shape && tables_stand from to us hs (drop (i + 1) ts) (drop (i + 1) gs)) at ag)

  ends : (b r : Bool) → b ≡ false → (b && r) ≡ all → false ≡ all
  ends true r h e = absurd (false≢true (sym h))
  ends false r h e = e

  stays : (b r : Bool) → b ≡ true → (b && r) ≡ all → r ≡ all
  stays true r h e = e
  stays false r h e = absurd (false≢true h)

  -- a table that does not stand ends it
  pub one_missing : (i : ℕ) (t : Table) (g : Held) (b : Bool) → i < length ts → i < length gs → t ≡ get_or ts i t → g ≡ get_or gs i g → b ≡ table_stands from to us hs t.name g.shape → b ≡ false
      → tables_stand from to us hs (drop i ts) (drop i gs) ≡ all → false ≡ all
  one_missing i t g b lt lg at ag is h now =
      let rest = tables_stand from to us hs (drop (i + 1) ts) (drop (i + 1) gs) in
      ends b rest h (ap (λ (x : Bool). x && rest) is ∙ (sym (step i t g lt lg at ag) ∙ now))

  -- and one that does leaves the rest
  pub one_standing : (i : ℕ) (t : Table) (g : Held) (b : Bool) → i < length ts → i < length gs → t ≡ get_or ts i t → g ≡ get_or gs i g → b ≡ table_stands from to us hs t.name g.shape → b ≡ true
      → tables_stand from to us hs (drop i ts) (drop i gs) ≡ all → tables_stand from to us hs (drop (i + 1) ts) (drop (i + 1) gs) ≡ all
  one_standing i t g b lt lg at ag is h now =
      let rest = tables_stand from to us hs (drop (i + 1) ts) (drop (i + 1) gs) in
      stays b rest h (ap (λ (x : Bool). x && rest) is ∙ (sym (step i t g lt lg at ag) ∙ now))
