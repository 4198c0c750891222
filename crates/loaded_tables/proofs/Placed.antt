-- Tables by their names and numbers.
use Rattle.std.proofs.Common.{◌≡◌, ◌≢◌, ℕ, zero, suc, ◌<◌, ◌≤◌, List, [], ◌∷◌, ◌||◌, length, get_or, Bool, true, false, cond, refl, sym, ap, ◌∙◌, subst, arith}
use Rattle.std.specs.List.{AllByRecursion}
use Rattle.std.proofs.lemmas.Slice.Eq.{bytes_eq-Decides}
use Rattle.lex_text.specs.Names.{same_text}
use Rattle.p4_meaning.specs.Actions.{Action}
use Rattle.p4_meaning.specs.Tables.{Table}
use Rattle.p4_meaning.specs.Parts.{parts_of}
use Rattle.p4_tree.specs.Tree.{Program}
use Rattle.p4_typing_laws.proofs.CallCounts.{text_is}
use Rattle.table_shapes.specs.Shapes as table
use Rattle.p4_tables.specs.State.{Held, no_table, held_at, entries_in}
use Rattle.p4_tables.specs.Named.{table_place}
use Rattle.p4_tables.specs.Programs.{shapes}
use Rattle.p4_tables.specs.Carried.{is_table, TablesStand}
use Rattle.control_maps.specs.Numbers.{table_name}

-- what a table takes, by its number
pub shape_at : (st : List Held) (n : ℕ) → get_or (shapes st) n no_table.shape ≡ (held_at st n).shape
shape_at [] n = refl
shape_at (h ∷ st) zero = refl
shape_at (h ∷ st) (suc n) = shape_at st n

-- the same in tables that take the same
pub shape_there : (st now : List Held) (n : ℕ) → shapes now ≡ shapes st → (held_at now n).shape ≡ (held_at st n).shape
shape_there st now n e = sym (shape_at now n) ∙ (ap (λ (l : List table.Shape). get_or l n no_table.shape) e ∙ shape_at st n)

-- ---- names

-- a table's name stands at its place
pub name_there : (ts : List Table) (x : List ℕ) → table_place ts x < length ts → table_name ts (table_place ts x) ≡ x
name_there [] x lt = absurd (omega arith)
name_there (t ∷ ts) x lt = go (same_text t.name x) refl lt (name_there ts x)
  where
    go : (b : Bool) → same_text t.name x ≡ b → cond b 0 (suc (table_place ts x)) < suc (length ts) → (table_place ts x < length ts → table_name ts (table_place ts x) ≡ x) → table_name (t ∷ ts) (cond b 0 (suc (table_place ts x))) ≡ x
    go true e less more = text_is t.name x e
    go false e less more = more (omega arith)

pub text_same : (x y : List ℕ) → x ≡ y → same_text x y ≡ true
text_same x y e = (bytes_eq-Decides x y).1 e

pub neither : (a b : Bool) → (a || b) ≡ false → (a ≡ false) × (b ≡ false)
neither true b e = absurd (cc)
neither false b e = (refl, e)

-- tables of other names have other places
pub all_apart : (ts us : List Table) (x : List ℕ) → table_place us x < length us → is_table ts x ≡ false → AllByRecursion (λ t. table_place us t.name ≢ table_place us x) ts
all_apart [] us x lt e = tt
all_apart (t ∷ ts) us x lt e =
    let parts = neither (same_text t.name x) (is_table ts x) e in (
      (λ p.
          let same : t.name ≡ x = sym (name_there us t.name (omega (arith, lt, p))) ∙ (ap (table_name us) p ∙ name_there us x lt) in
          let own : same_text t.name x ≡ true = text_same t.name x same in
          let other : same_text t.name x ≡ false = parts.0 in
          absurd (cc)),
      all_apart ts us x lt parts.1,
    )

-- a table that stands in another program is one of its tables
pub stands_there : (from : List Action) (to : Program) (ts : List Table) (ss : List table.Shape) (x : List ℕ) → length ts ≤ length ss → TablesStand from to ts ss → is_table ts x ≡ true → is_table (parts_of to).tables x ≡ true
stands_there from to [] ss x few stand e = absurd (let q : false ≡ true = e in cc)
stands_there from to (t ∷ ts) [] x few stand e = absurd (omega arith)
stands_there from to (t ∷ ts) (s ∷ ss) x few stand e = go (same_text t.name x) refl e (stands_there from to ts ss x (omega arith) stand.1)
  where
    go : (b : Bool) → same_text t.name x ≡ b → (b || is_table ts x) ≡ true → (is_table ts x ≡ true → is_table (parts_of to).tables x ≡ true) → is_table (parts_of to).tables x ≡ true
    go true same own more = subst (λ (y : List ℕ). is_table (parts_of to).tables y ≡ true) (text_is t.name x same) stand.0.there
    go false same own more = more own

-- ---- entries

no_items : {A : Type 0} (xs : List A) → length xs ≡ 0 → xs ≡ []
no_items [] e = refl
no_items (x ∷ xs) e = absurd (omega (arith, e))

-- where there are none at all, a table holds none
pub none_at : (st : List Held) (n : ℕ) → entries_in st ≡ 0 → (held_at st n).listed ≡ []
none_at [] n e = refl
none_at (h ∷ st) zero e = no_items h.listed (omega (arith, e))
none_at (h ∷ st) (suc n) e = none_at st n (omega (arith, e))
