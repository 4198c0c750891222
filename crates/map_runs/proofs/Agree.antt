-- The laws of loads and sets: the first table of a name in the one is the only one in the other.
use Rattle.std.proofs.Common.{◌≡◌, ℕ, suc, List, [], ◌∷◌, map, Bool, true, false, cond, Option, Some, refl, sym, ap, ◌∙◌, subst}
use Rattle.std.specs.Prelude.{nat_eq}
use Rattle.std.specs.List.{AllByRecursion}
use Rattle.std.proofs.lemmas.Bool.{eqb-true}
use Rattle.lex_text.specs.Names.{same_text}
use Rattle.indus_tree.specs.Tree.{Property}
use Rattle.indus_tree.specs.State.{Contents}
use Rattle.indus_tree.specs.Hops.{variable_number, contents_at, contents_in}
use Rattle.p4_meaning.specs.Tables.{Entries, Tables}
use Rattle.p4_typing_laws.proofs.CallCounts.{text_is, text_same}
use Rattle.p4_typing_laws.proofs.FullNames.{other_text}
use Rattle.own_programs.proofs.Names.{broken}
use Rattle.lowered_code.specs.Names.{table_name, action_name}
use Rattle.lookup_tables.specs.Tables.{Lookup, entries_for}
use Rattle.lookup_tables.specs.Finding.{AreNumbered}
use Rattle.lookup_tables.proofs.Named.{tables_differ}
use Rattle.whole_properties.specs.Whole as whole
use Rattle.whole_properties.specs.Whole.{Given, is_number, lookups}
use Rattle.whole_properties.specs.Asked.{IsGiven}
use Rattle.whole_properties.proofs.Facts.{lookups_numbered}
use Rattle.control_maps.specs.Maps as maps
use Rattle.control_maps.specs.Maps.{held_for, put_named, Misses}
use Rattle.control_maps.proofs.Names.{others_are_left}
use Rattle.carried_entries.specs.Forms.{number_or}
use Rattle.map_runs.specs.Named.{lookup_named, IsOfShape, FitsMap, LoadsAgree, SetsAgree}
use Rattle.map_runs.proofs.Known.{OwnLookup, own_lookups, held_is}

-- ---- what a table holds rests on what it held alone

loads_at : (ls : List maps.Lookup) (c : ℕ → Contents) (a b : Tables) (x : List ℕ) → a x ≡ b x → maps.loads ls c a x ≡ maps.loads ls c b x
loads_at [] c a b x e = e
loads_at (l ∷ ls) c a b x e =
    loads_at ls c (put_named l (c l.variable) a) (put_named l (c l.variable) b) x (ap (λ (y : Entries). cond (same_text l.table x) (held_for l.action (c l.variable)) y) e)

sets_at : (ls : List maps.Lookup) (v : ℕ) (c : Contents) (a b : Tables) (x : List ℕ) → a x ≡ b x → maps.sets ls v c a x ≡ maps.sets ls v c b x
sets_at [] v c a b x e = e
sets_at (l ∷ ls) v c a b x e = go (nat_eq l.variable v) (λ d f k. sets_at ls v c d f x k)
  where
    go : (t : Bool) → ((d f : Tables) → d x ≡ f x → maps.sets ls v c d x ≡ maps.sets ls v c f x) → maps.sets ls v c (cond t (put_named l c a) a) x ≡ maps.sets ls v c (cond t (put_named l c b) b) x
    go true more = more (put_named l c a) (put_named l c b) (ap (λ (y : Entries). cond (same_text l.table x) (held_for l.action c) y) e)
    go false more = more a b e

module _ (p : Property) where
  abbrev named : List Lookup → List maps.Lookup
  named ls = map (lookup_named p) ls

  others_missed : (x : List ℕ) (ls : List Lookup) → AllByRecursion (λ m. same_text x (table_name m.control m.number) ≡ false) ls → Misses x (named ls)
  others_missed x [] h = tt
  others_missed x (m ∷ ms) h = (
    other_text (table_name m.control m.number) x (λ e. broken (sym (text_same x (table_name m.control m.number) (sym e)) ∙ h.0)),
    others_missed x ms h.1,
  )

  -- no lookup behind one has its table
  behind_missed : (n : ℕ) (l : Lookup) (ls : List Lookup) (x : List ℕ) → AreNumbered n (l ∷ ls) → same_text (table_name l.control l.number) x ≡ true → Misses x (named ls)
  behind_missed n l ls x a e =
      subst (λ (y : List ℕ). Misses y (named ls)) (text_is (table_name l.control l.number) x e) (others_missed (table_name l.control l.number) ls (tables_differ n l ls a))

module _ (g : Given) (i : IsGiven g) where
  abbrev q : Property
  q = g.property

  -- ---- loads

  module _ (c : ℕ → Contents) (fits : FitsMap g c) where
    load_is : (l : Lookup) → OwnLookup g i l → entries_for l (contents_in q.decls c l.decl.name) ≡ held_for (action_name l.control l.number) (c (lookup_named q l).variable)
    load_is l own =
        ap (λ (o : Option ℕ). entries_for l (contents_at c o)) own.is
        ∙ (held_is l (c own.number) (fits own.number l.decl.name l.decl own.found own.control own.is)
        ∙ ap (λ (o : Option ℕ). held_for (action_name l.control l.number) (c (number_or o))) (sym own.is))

    loads_same : (n : ℕ) (ls : List Lookup) → AreNumbered n ls → AllByRecursion (OwnLookup g i) ls → (held : Tables) (x : List ℕ) → whole.loads q.decls ls c held x ≡ maps.loads (named q ls) c held x
    loads_same n [] a o held x = refl
    loads_same n (l ∷ ls) a o held x = go (same_text (table_name l.control l.number) x) refl (loads_same (suc l.number) ls a.1 o.1 held x)
      where
        go : (b : Bool) → same_text (table_name l.control l.number) x ≡ b → whole.loads q.decls ls c held x ≡ maps.loads (named q ls) c held x
            → cond b (entries_for l (contents_in q.decls c l.decl.name)) (whole.loads q.decls ls c held x) ≡ maps.loads (named q ls) c (put_named (lookup_named q l) (c (lookup_named q l).variable) held) x
        go true e more =
            load_is l o.0
            ∙ (ap (λ (b : Bool). cond b (held_for (action_name l.control l.number) (c (lookup_named q l).variable)) (held x)) (sym e)
            ∙ sym (others_are_left.loads (named q ls) c (put_named (lookup_named q l) (c (lookup_named q l).variable) held) x (behind_missed q n l ls x a e)))
        go false e more =
            more
            ∙ loads_at (named q ls) c held (put_named (lookup_named q l) (c (lookup_named q l).variable) held) x (ap (λ (b : Bool). cond b (held_for (action_name l.control l.number) (c (lookup_named q l).variable)) (held x)) (sym e))

  -- ---- sets

  module _ (v : ℕ) (c : Contents) (fits : IsOfShape g v c) where
    -- both ask for the same number
    number_same : (l : Lookup) → OwnLookup g i l → is_number (variable_number q.decls l.decl.name) v ≡ nat_eq (lookup_named q l).variable v
    number_same l own = ap (λ (o : Option ℕ). is_number o v) own.is ∙ ap (λ (o : Option ℕ). nat_eq (number_or o) v) (sym own.is)

    set_is : (l : Lookup) → OwnLookup g i l → nat_eq (lookup_named q l).variable v ≡ true → entries_for l c ≡ held_for (action_name l.control l.number) c
    set_is l own e =
        (let same : own.number ≡ v = eqb-true own.number v (ap (λ (o : Option ℕ). nat_eq (number_or o) v) (sym own.is) ∙ e) in
        held_is l c (fits l.decl.name l.decl own.found own.control (own.is ∙ ap (λ (n : ℕ). Some n) same)))

    sets_same : (n : ℕ) (ls : List Lookup) → AreNumbered n ls → AllByRecursion (OwnLookup g i) ls → (held : Tables) (x : List ℕ) → whole.sets q.decls ls v c held x ≡ maps.sets (named q ls) v c held x
    sets_same n [] a o held x = refl
    sets_same n (l ∷ ls) a o held x = go (same_text (table_name l.control l.number) x) (nat_eq (lookup_named q l).variable v) refl refl (sets_same (suc l.number) ls a.1 o.1 held x)
      where
        go : (b t : Bool) → same_text (table_name l.control l.number) x ≡ b → nat_eq (lookup_named q l).variable v ≡ t → whole.sets q.decls ls v c held x ≡ maps.sets (named q ls) v c held x
            → cond b (cond (is_number (variable_number q.decls l.decl.name) v) (entries_for l c) (held x)) (whole.sets q.decls ls v c held x) ≡ maps.sets (named q ls) v c (cond t (put_named (lookup_named q l) c held) held) x
        go true true e k more =
            ap (λ (b : Bool). cond b (entries_for l c) (held x)) (number_same l o.0 ∙ k)
            ∙ (set_is l o.0 k
            ∙ (ap (λ (b : Bool). cond b (held_for (action_name l.control l.number) c) (held x)) (sym e)
            ∙ sym (others_are_left.sets (named q ls) v c (put_named (lookup_named q l) c held) x (behind_missed q n l ls x a e))))
        go true false e k more =
            ap (λ (b : Bool). cond b (entries_for l c) (held x)) (number_same l o.0 ∙ k)
            ∙ sym (others_are_left.sets (named q ls) v c held x (behind_missed q n l ls x a e))
        go false true e k more =
            more
            ∙ sets_at (named q ls) v c held (put_named (lookup_named q l) c held) x (ap (λ (b : Bool). cond b (held_for (action_name l.control l.number) c) (held x)) (sym e))
        go false false e k more = more

pub loads_agree : LoadsAgree
loads_agree g i c fits held = λ k x. loads_same g i c fits 0 (lookups g) (lookups_numbered g i) (own_lookups g i) held x k

pub sets_agree : SetsAgree
sets_agree g i v c fits held = λ k x. sets_same g i v c fits 0 (lookups g) (lookups_numbered g i) (own_lookups g i) held x k
