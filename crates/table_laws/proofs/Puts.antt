-- A table that is given entries holds them by its name, and the others hold what they held.
use Rattle.std.proofs.Common.{◌≡◌, ◌≢◌, ℕ, suc, ◌<◌, ◌≤◌, List, [], ◌∷◌, length, set, Bool, true, false, ◌||◌, cond, Option, Some, None, refl, sym, ap, ◌∙◌, arith, inl, inr}
use Rattle.lex_text.specs.Names.{same_text}
use Rattle.std.proofs.lemmas.Bool.Decides.{leb_tells}
use Rattle.std.proofs.lemmas.List.{get_or-set_same, get_or-set_other, set-set, length-set}
use Rattle.p4_meaning.specs.Tables.{Table, Entries}
use Rattle.p4_meaning.specs.Parts.{Parts}
use Rattle.table_entries.specs.Entries.{Entry, Act}
use Rattle.p4_tables.specs.State.{Held, no_table, held_at, replaced}
use Rattle.p4_tables.specs.Named.{action_name, entries_named, nothing_held, tables_named, tables_in, table_place}
use Rattle.p4_tables.specs.Carried.{is_table}
use Rattle.p4_tables.proofs.TableNames as walk
use Rattle.table_laws.specs.Loaded.{given_entries, PutsByName, ReplacedIsPut}

-- a table that is not declared holds nothing
pub unlisted : (name : ℕ → List ℕ) (ts : List Table) (hs : List Held) (x : List ℕ) → is_table ts x ≡ false → tables_named name ts hs x ≡ nothing_held
unlisted name [] hs x h = refl
unlisted name (t ∷ ts) [] x h = refl
unlisted name (t ∷ ts) (k ∷ hs) x h = go (same_text t.name x) h (unlisted name ts hs x)
  where
    go : (b : Bool) → (b || is_table ts x) ≡ false → (is_table ts x ≡ false → tables_named name ts hs x ≡ nothing_held) → cond b (entries_named name k) (tables_named name ts hs x) ≡ nothing_held
    go true e more = absurd (let c : true ≡ false = e in cc)
    go false e more = more e

module _ (f : Parts) (st : List Held) (x : List ℕ) (long : length st ≡ length f.tables) (there : table_place f.tables x < length f.tables) where
  abbrev n : ℕ
  n = table_place f.tables x

  abbrev name : ℕ → List ℕ
  name = action_name f.actions

  low : table_place f.tables x < length st
  low = (let e = long in let h = there in omega arith)

  before : tables_in f st x ≡ entries_named (action_name f.actions) (held_at st (table_place f.tables x))
  before = (walk.found (action_name f.actions) f.tables st x there low).1

  put_there : (h : Held) → tables_in f (set st (table_place f.tables x) h) x ≡ entries_named (action_name f.actions) h
  put_there h =
      (walk.found (action_name f.actions) f.tables (set st (table_place f.tables x) h) x there (let e = length-set st (table_place f.tables x) h in let l = low in omega arith)).1
      ∙ ap (entries_named (action_name f.actions)) (get_or-set_same st (table_place f.tables x) h no_table low)

  put_other : (h : Held) (y : List ℕ) → table_place f.tables y ≢ table_place f.tables x → tables_in f (set st (table_place f.tables x) h) y ≡ tables_in f st y
  put_other h y apart = elim (leb_tells (suc (table_place f.tables y)) (length f.tables)) [ inl k ↦ here k.1 | inr k ↦ beyond k.1 ]
    where
      here : suc (table_place f.tables y) ≤ length f.tables → tables_in f (set st (table_place f.tables x) h) y ≡ tables_in f st y
      here lt =
          (let k = long in
          (walk.found (action_name f.actions) f.tables (set st (table_place f.tables x) h) y (omega arith) (let l = length-set st (table_place f.tables x) h in omega arith)).1
          ∙ (ap (entries_named (action_name f.actions)) (get_or-set_other st (table_place f.tables x) (table_place f.tables y) h no_table apart)
          ∙ sym (walk.found (action_name f.actions) f.tables st y (omega arith) (omega arith)).1))

      beyond : length f.tables < suc (table_place f.tables y) → tables_in f (set st (table_place f.tables x) h) y ≡ tables_in f st y
      beyond lt =
          (let none : is_table f.tables y ≡ false = walk.none f.tables y (omega arith) in
          unlisted (action_name f.actions) f.tables (set st (table_place f.tables x) h) y none ∙ sym (unlisted (action_name f.actions) f.tables st y none))

  module _ (es : List Entry) where
    abbrev listed : Held
    listed = record (held_at st (table_place f.tables x)) { listed = es }

    both : (d : Act) → replaced st (table_place f.tables x) es (Some d) ≡ set st (table_place f.tables x) (record (held_at st (table_place f.tables x)) { listed = es; default = d })
    both d =
        ap (λ (h : Held). set (set st (table_place f.tables x) (record (held_at st (table_place f.tables x)) { listed = es })) (table_place f.tables x) (record h { default = d }))
        (get_or-set_same st (table_place f.tables x) (record (held_at st (table_place f.tables x)) { listed = es }) no_table low)
        ∙ set-set st (table_place f.tables x) (record (held_at st (table_place f.tables x)) { listed = es }) (record (held_at st (table_place f.tables x)) { listed = es; default = d })

    puts : (d : Option Act) → PutsByName f st x es d
    puts None =
        record {
          there = put_there (record (held_at st (table_place f.tables x)) { listed = es }) ∙ ap (λ (o : Entries). given_entries (action_name f.actions) o es None) (sym before);
          others = λ y apart. put_other (record (held_at st (table_place f.tables x)) { listed = es }) y apart;
        }
    puts (Some d) =
        record {
          there = ap (λ (s : List Held). tables_in f s x) (both d) ∙ put_there (record (held_at st (table_place f.tables x)) { listed = es; default = d });
          others = λ y apart. ap (λ (s : List Held). tables_in f s y) (both d) ∙ put_other (record (held_at st (table_place f.tables x)) { listed = es; default = d }) y apart;
        }

pub replaced_is_put : ReplacedIsPut
replaced_is_put f st x es d long there = puts f st x long there es d
