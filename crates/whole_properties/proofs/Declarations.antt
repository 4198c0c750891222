-- What is asked of declarations follows from the rules of types.
use Rattle.std.proofs.Common.{◌≡◌, codes, ℕ, zero, suc, ◌+◌, ◌≤◌, List, [], ◌∷◌, ◌++◌, length, Bool, true, false, cond, ◌||◌, Option, Some, None, refl, sym, ap, ◌∙◌, subst, arith, nat_eq, nat_lt, append_assoc}
use Rattle.std.specs.Prelude.{is_some}
use Rattle.std.specs.List.{AllByRecursion}
use Rattle.std.proofs.lemmas.Bool.{ltb-false}
use Rattle.bit_values.specs.Widths.{sound_width}
use Rattle.lex_text.specs.Names.{same_text}
use Rattle.p4_meaning.specs.Parsing.{Field}
use Rattle.p4_meaning.proofs.Words.{sound}
use Rattle.indus_tree.specs.Tree.{Shape, one, list, set, dict, Decl, Property}
use Rattle.indus_tree.specs.State.{lookup, shape_width}
use Rattle.indus_tree.specs.declared.tree.DeclKind.{DeclKind}
use Rattle.indus_tree.specs.declared.tree.DeclKind.TheVariants.{Tele, Sensor, Header, Control}
use Rattle.indus_tree.specs.declared.tree.Ty.{Ty}
use Rattle.indus_scopes.specs.Scopes.{builtin_of}
use Rattle.indus_scopes.specs.declared.scope.Block.TheVariants as block
use Rattle.indus_rules.specs.Sites.{decl_sites}
use Rattle.indus_rules.specs.Rules.{Fine, IsWellTyped, bad_widths, bad_width, bad_shape, misshapen}
use Rattle.indus_rules.specs.declared.rule.Rule.TheVariants.{NameTwice, BadSize}
use Rattle.indus_types.proofs.Widths.{neither}
use Rattle.indus_types.proofs.SoundSights.{block_sound}
use Rattle.indus_types.proofs.Checked.{each_fine}
use Rattle.flat_laws.specs.Numbered.{scalar_decl, item_decls, numbered_shape, numbered_kind, numbered_from, numbered}
use Rattle.flat_laws.proofs.NameLemmas.{apart, not_same}
use Rattle.flat_laws.proofs.Typed.{IsFineDecl, fine_decl, shaped_well}
use Rattle.monitor_laws.specs.Telemetry.{mark_field, AreApart}
use Rattle.lookup_names.specs.Keys.{key_types}
use Rattle.lowered_code.specs.Names.{tele_name}
use Rattle.lowered_code.specs.Statements.{kept_types}
use Rattle.lowered_code.specs.Suiting.{IsScalar}
use Rattle.lowered_code.specs.Lookups.{IsLookup}
use Rattle.whole_properties.specs.Whole.{tele_field, tele_fields, fill_field}
use Rattle.whole_properties.proofs.Lists.{all_both, all_weaker, all_given}
use Rattle.whole_properties.proofs.Once.{AreOnce, found_all, name_found, each_found}
use Rattle.whole_properties.proofs.TelemetryWords.{IsShort, AreTele}

pub clash : {A : Type 0} → true ≡ false → A
clash e = absurd (cc e)

-- ---- each declaration

-- what is declared is well shaped, and has no name of the language's own
pub record AreShapely (ds : List Decl) : Type 0 where
  pub shaped : (x : List ℕ) (d : Decl) → lookup ds x ≡ Some d → misshapen d.kind d.shape ≡ false
  pub sized : (x : List ℕ) (d : Decl) → lookup ds x ≡ Some d → bad_shape d.shape ≡ false
  pub own : (x : List ℕ) (d : Decl) → lookup ds x ≡ Some d → builtin_of x ≡ None

module _ (p : Property) (typed : IsWellTyped p) where
  fine_at : (x : List ℕ) (d : Decl) → lookup p.decls x ≡ Some d → IsFineDecl d
  fine_at x d is = fine_decl p.decls [] x d (each_fine p typed).1.0 is

  pub shapely : AreShapely p.decls
  shapely =
      record {
        shaped = λ x d is. shaped_well d (fine_at x d is);
        sized = λ x d is. (fine_at x d is).fine BadSize;
        own = λ x d is. (block_sound p typed block.Init).apart x d is;
      }

  pub sound_widths :
      (x : List ℕ) (c : Decl) → lookup p.decls x ≡ Some c → sound_width (shape_width c.shape) ≡ shape_width c.shape
  sound_widths x c is = let w = (block_sound p typed block.Init).decls x c is in sound (shape_width c.shape) w.least w.most

  pub lookups_shaped : (x : List ℕ) (c : Decl) → lookup p.decls x ≡ Some c → c.kind ≡ Control → IsLookup c.shape
  lookups_shaped x c is k = go c.shape (subst (λ k. misshapen k c.shape ≡ false) k (shapely.shaped x c is))
    where
      go : (s : Shape) → misshapen Control s ≡ false → IsLookup s
      go (one t) h = tt
      go (list t n) h = clash h
      go (set ts) h = tt
      go (dict ts t) h = tt

  -- a key has few parts
  pub parts_small : (x : List ℕ) (c : Decl) → lookup p.decls x ≡ Some c → length (kept_types c.kind c.shape) ≤ 4
  parts_small x c is = go c.kind c.shape (shapely.sized x c is)
    where
      of_keys : (s : Shape) → bad_shape s ≡ false → length (key_types s) ≤ 4
      of_keys (one t) h = omega arith
      of_keys (list t n) h = omega arith
      of_keys (set ts) h = ltb-false 4 (length ts) (neither (bad_widths ts) (nat_lt 4 (length ts)) h).1
      of_keys (dict ts t) h = ltb-false 4 (length ts) (neither (bad_widths ts) (nat_lt 4 (length ts)) (neither (bad_widths ts || nat_lt 4 (length ts)) (bad_width t) h).0).1

      go : (k : DeclKind) (s : Shape) → bad_shape s ≡ false → length (kept_types k s) ≤ 4
      go Sensor (list t n) h = omega arith
      go Sensor (one t) h = omega arith
      go Sensor (set ts) h = of_keys (set ts) h
      go Sensor (dict ts t) h = of_keys (dict ts t) h
      go Tele s h = of_keys s h
      go Header s h = of_keys s h
      go Control s h = of_keys s h

-- ---- once

or_none : {A : Type 0} (o : Option A) → is_some o ≡ false → o ≡ None
or_none None h = refl
or_none (Some a) h = clash h

not_before :
    (before : List Decl) (d : Decl) (more : List Decl) (x : List ℕ) → lookup (before ++ d ∷ more) x ≡ None →
    same_text d.name x ≡ false
not_before [] d more x h = go (same_text d.name x) refl h
  where
    go : (b : Bool) → same_text d.name x ≡ b → cond b (Some d) (lookup more x) ≡ None → b ≡ false
    go true e h = absurd (cc)
    go false e h = refl
not_before (e ∷ before) d more x h = go (same_text e.name x) h (not_before before d more x)
  where
    go :
        (b : Bool) → cond b (Some e) (lookup (before ++ d ∷ more) x) ≡ None →
        (lookup (before ++ d ∷ more) x ≡ None → same_text d.name x ≡ false) → same_text d.name x ≡ false
    go true h j = absurd (cc)
    go false h j = j h

turned_text : (x y : List ℕ) → same_text x y ≡ false → same_text y x ≡ false
turned_text x y h = apart y x (λ e. not_same x y h (sym e))

-- a name that stands before is not declared behind
not_behind :
    (before : List Decl) (d : Decl) (more ds : List Decl) → Fine (decl_sites (before ++ d ∷ more) ds) →
    lookup ds d.name ≡ None
not_behind before d more [] f = refl
not_behind before d more (e ∷ ds) f =
    let free = neither (is_some (lookup (before ++ d ∷ more) e.name)) (is_some (builtin_of e.name)) (f.0.0 NameTwice) in
    ap (λ b. cond b (Some e) (lookup ds d.name)) (turned_text d.name e.name (not_before before d more e.name (or_none (lookup (before ++ d ∷ more) e.name) free.0)))
    ∙ not_behind before d (more ++ e ∷ []) ds (subst (λ l. Fine (decl_sites l ds)) (append_assoc before (d ∷ more) (e ∷ [])) f.1)

once_of : (before ds : List Decl) → Fine (decl_sites before ds) → AreOnce ds
once_of before [] f = tt
once_of before (d ∷ ds) f = (not_behind before d [] ds f.1, once_of (before ++ d ∷ []) ds f.1)

pub once : (p : Property) → IsWellTyped p → AreOnce p.decls
once p typed = once_of [] p.decls (each_fine p typed).1.0

-- ---- the packet's variables

pub tele_of : (p : Property) → IsWellTyped p → AreTele p.decls
tele_of p typed =
    all_weaker (λ d. lookup p.decls d.name ≡ Some d) (λ d. d.kind ≡ Tele → (sound_width (shape_width d.shape) ≡ shape_width d.shape) × IsShort d.shape)
    (λ d is k. (sound_widths p typed d.name d is, short d.shape ((shapely p typed).sized d.name d is))) p.decls (each_found p.decls (once p typed))
  where
    short : (s : Shape) → bad_shape s ≡ false → IsShort s
    short (one t) h = tt
    short (list t n) h = let le = ltb-false 255 n (neither (bad_width t || nat_eq n 0) (nat_lt 255 n) h).1 in omega (arith, le)
    short (set ks) h = tt
    short (dict ks t) h = tt

-- ---- numbered scalars

items_all :
    (P : Decl → Type 0) (p v : ℕ) (t : Ty) (n : ℕ) → ((x : List ℕ) → P (scalar_decl p x t)) →
    AllByRecursion P (item_decls p v t n)
items_all P p v t zero f = tt
items_all P p v t (suc i) f = all_both P (item_decls p v t i) _ (items_all P p v t i f) (f _, tt)

-- what holds of numbered scalars and of all that is no variable of the packet's holds of all that flat code declares
module _ (P : Decl → Type 0) (scalar : (p : ℕ) (x : List ℕ) (t : Ty) → P (scalar_decl p x t)) where
  shape_all : (p v : ℕ) (s : Shape) → AllByRecursion P (numbered_shape p v s)
  shape_all p v (one t) = (scalar p _ t, tt)
  shape_all p v (list t n) = (scalar p _ _, items_all P p v t n (λ x. scalar p x t))
  shape_all p v (set ks) = tt
  shape_all p v (dict ks t) = tt

  kind_all : (k : DeclKind) (v : ℕ) (d : Decl) → ((k ≡ Tele → ⊥) → P d) → AllByRecursion P (numbered_kind k v d)
  kind_all Tele v d f = shape_all d.at v d.shape
  kind_all Sensor v d f = (f (λ e. absurd (cc)), tt)
  kind_all Header v d f = (f (λ e. absurd (cc)), tt)
  kind_all Control v d f = (f (λ e. absurd (cc)), tt)

  pub numbered_all :
      (ds : List Decl) (n : ℕ) → AllByRecursion (λ d. (d.kind ≡ Tele → ⊥) → P d) ds →
      AllByRecursion P (numbered_from n ds)
  numbered_all [] n h = tt
  numbered_all (d ∷ ds) n h = all_both P (numbered_kind d.kind n d) (numbered_from (n + 1) ds) (kind_all d.kind n d h.0) (numbered_all ds (n + 1) h.1)

-- the packet's variables are scalars
pub scalars :
    (ds : List Decl) (x : List ℕ) (c : Decl) → lookup (numbered ds) x ≡ Some c → c.kind ≡ Tele → IsScalar c.shape
scalars ds x c is =
    found_all (λ c. c.kind ≡ Tele → IsScalar c.shape) (numbered ds)
    (numbered_all (λ c. c.kind ≡ Tele → IsScalar c.shape) (λ p x t k. tt) ds 0 (all_given (λ d. (d.kind ≡ Tele → ⊥) → d.kind ≡ Tele → IsScalar d.shape) (λ d n k. absurd (n k)) ds)) x c is

-- all else is declared as before
pub kept :
    (ds : List Decl) → AreOnce ds → (x : List ℕ) (c : Decl) → lookup (numbered ds) x ≡ Some c → (c.kind ≡ Tele → ⊥) →
    lookup ds x ≡ Some c
kept ds o x c is n =
    subst (λ y. lookup ds y ≡ Some c) (name_found (numbered ds) x c is)
    (found_all (λ c. (c.kind ≡ Tele → ⊥) → lookup ds c.name ≡ Some c) (numbered ds)
    (numbered_all (λ c. (c.kind ≡ Tele → ⊥) → lookup ds c.name ≡ Some c) (λ p x t n. absurd (n refl)) ds 0
    (all_weaker (λ d. lookup ds d.name ≡ Some d) (λ d. (d.kind ≡ Tele → ⊥) → (d.kind ≡ Tele → ⊥) → lookup ds d.name ≡ Some d) (λ d h a b. h) ds (each_found ds o))) x c is n)

-- ---- fields are apart

field_from :
    (d : Decl) (ds : List Decl) → lookup ds d.name ≡ None →
    AllByRecursion (λ g. same_text (tele_name d.name) g.name ≡ false) (tele_fields ds)
field_from d [] h = tt
field_from d (e ∷ ds) h = go e.kind (same_text e.name d.name) refl h (field_from d ds)
  where
    go :
        (k : DeclKind) (b : Bool) → same_text e.name d.name ≡ b → cond b (Some e) (lookup ds d.name) ≡ None →
        (lookup ds d.name ≡ None → AllByRecursion (λ g. same_text (tele_name d.name) g.name ≡ false) (tele_fields ds)) →
        AllByRecursion (λ g. same_text (tele_name d.name) g.name ≡ false) (tele_field k e ++ tele_fields ds)
    go k true q h rest = absurd (cc)
    go Tele false q h rest = (turned_text e.name d.name q, rest h)
    go Sensor false q h rest = rest h
    go Header false q h rest = rest h
    go Control false q h rest = rest h

with_fill :
    (x : List ℕ) (fs : List Field) (w : ℕ) → same_text x (codes "hydra_fill") ≡ false →
    AllByRecursion (λ g. same_text x g.name ≡ false) fs →
    AllByRecursion (λ g. same_text x g.name ≡ false) (fs ++ fill_field w)
with_fill x [] zero f h = tt
with_fill x [] (suc w) f h = (f, tt)
with_fill x (g ∷ fs) w f h = (h.0, with_fill x fs w f h.1)

fields_differ : (ds : List Decl) (w : ℕ) → AreOnce ds → AreApart (tele_fields ds ++ fill_field w)
fields_differ [] zero o = tt
fields_differ [] (suc w) o = (tt, tt)
fields_differ (d ∷ ds) w o = go d.kind (fields_differ ds w o.1)
  where
    go :
        (k : DeclKind) → AreApart (tele_fields ds ++ fill_field w) →
        AreApart ((tele_field k d ++ tele_fields ds) ++ fill_field w)
    go Tele r = (with_fill (tele_name d.name) (tele_fields ds) w refl (field_from d ds o.0), r)
    go Sensor r = r
    go Header r = r
    go Control r = r

mark_from : (ds : List Decl) → AllByRecursion (λ g. same_text (codes "hydra_mark") g.name ≡ false) (tele_fields ds)
mark_from [] = tt
mark_from (d ∷ ds) = go d.kind (mark_from ds)
  where
    go :
        (k : DeclKind) → AllByRecursion (λ g. same_text (codes "hydra_mark") g.name ≡ false) (tele_fields ds) →
        AllByRecursion (λ g. same_text (codes "hydra_mark") g.name ≡ false) (tele_field k d ++ tele_fields ds)
    go Tele h = (refl, h)
    go Sensor h = h
    go Header h = h
    go Control h = h

pub fields_apart : (ds : List Decl) (w : ℕ) → AreOnce ds → AreApart (mark_field ∷ (tele_fields ds ++ fill_field w))
fields_apart ds w o = (with_fill (codes "hydra_mark") (tele_fields ds) w refl (mark_from ds), fields_differ ds w o)
