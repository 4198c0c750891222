-- Behind all declarations a struct and a header type have the paths of their fields, as the meaning finds them.
use Rattle.std.proofs.Common.{◌≡◌, ℕ, List, [], ◌∷◌, Bool, true, false, cond, not, refl, sym, ap, ◌∙◌, subst}
use Rattle.lex_text.specs.Names.{same_text}
use Rattle.rule_tests.specs.Tests.{IsFine}
use Rattle.p4_tree.specs.Tree.{Top, constant, typedef, header_type, struct_type, register, parser, control}
use Rattle.p4_tree.specs.declared.statement.PTy.{PTy}
use Rattle.p4_tree.specs.declared.statement.PTy.TheVariants as type
use Rattle.p4_meaning.specs.Parts.{struct_fields, header_fields}
use Rattle.p4_scopes.specs.Scopes.{Stands, missing, typed, held, cells, act, rows, state, function, algorithm, other, is_missing, typed_thing, as_typed, type_at, field_at, thing_in, Scope, What, alias, fields, value, part, behind, declare, fields_bits}
use Rattle.p4_scopes.specs.Scopes as scope
use Rattle.p4_scopes.specs.Uses.{is_scalar, is_header, is_type}
use Rattle.p4_scopes.specs.declared.kind.Kind.TheVariants.{Unknown}
use Rattle.p4_scopes.specs.declared.thing.Thing.{Thing}
use Rattle.p4_scopes.specs.declared.thing.Thing.TheVariants.{Scalar, Header, Struct, Standard, PacketIn, PacketOut}
use Rattle.p4_scopes.specs.declared.thing.Access.TheVariants.{Constant}
use Rattle.p4_statement_rules.specs.Expressions.{type_tests, scalar_tests}
use Rattle.p4_declaration_rules.specs.Declarations.{is_no_number, is_no_field, fields_tests}
use Rattle.p4_declaration_rules.specs.Controls.{top_tests, after_top, tops_tests, after_tops}
use Rattle.p4_rules.specs.Mains.{is_struct}
use Rattle.p4_typing_laws.proofs.Fine.{twice_not}
use Rattle.p4_typing_laws.proofs.CallCounts.{text_is, text_same}
use Rattle.p4_typing_laws.proofs.FullNames.{other_text}
use Rattle.p4_typing_laws.proofs.CountedNames.{other_kept, self_stands}

pub broken : {A : Type 0} → true ≡ false → A
broken h = absurd (cc)

-- ---- what stands behind a name goes on to stand there

pub other_behind : (s : Scope) (n : List ℕ) (w : What) (x : List ℕ) (xs : List (List ℕ)) → (n ≡ x → ⊥) → declare s n w (x ∷ xs) ≡ s (x ∷ xs)
unfolding declare
other_behind s n w x xs apart = ap (λ (b : Bool). cond b (behind s w xs) (s (x ∷ xs))) (other_text n x apart)

pub self_behind : (s : Scope) (n : List ℕ) (w : What) (xs : List (List ℕ)) → declare s n w (n ∷ xs) ≡ behind s w xs
unfolding declare
self_behind s n w xs = ap (λ (b : Bool). cond b (behind s w xs) (s (n ∷ xs))) (text_same n n refl)

-- another name than one that is new
there_apart : (s : Scope) (n x : List ℕ) → is_missing (s (n ∷ [])) ≡ true → is_missing (s (x ∷ [])) ≡ false → n ≡ x → ⊥
there_apart s n x new h e = (let c : true ≡ false = sym new ∙ ap (λ (y : List ℕ). is_missing (s (y ∷ []))) e ∙ h in cc)

pub top_stays : (main : List (List ℕ)) (s : Scope) (t : Top) → IsFine (top_tests main s t) → (x : List ℕ) (xs : List (List ℕ)) → is_missing (s (x ∷ [])) ≡ false → after_top s t (x ∷ xs) ≡ s (x ∷ xs)
top_stays main s (constant p ty y e) g x xs h = other_behind s y (value Constant ty) x xs (there_apart s y x (twice_not _ g.0) h)
top_stays main s (typedef p ty y) g x xs h = other_behind s y (alias ty) x xs (there_apart s y x (twice_not _ g.0) h)
top_stays main s (header_type p y fs) g x xs h = other_behind s y (fields (Header _) fs) x xs (there_apart s y x (twice_not _ g.0) h)
top_stays main s (struct_type p y fs) g x xs h = other_behind s y (fields Struct fs) x xs (there_apart s y x (twice_not _ g.0) h)
top_stays main s (register p r) g x xs h = other_behind s r.name (scope.register r.ty) x xs (there_apart s r.name x (twice_not _ g.0) h)
top_stays main s (parser p d) g x xs h = other_behind s d.name part x xs (there_apart s d.name x (twice_not _ g.0) h)
top_stays main s (control p c) g x xs h = other_behind s c.name part x xs (there_apart s c.name x (twice_not _ g.0) h)

pub all_stays : (main : List (List ℕ)) (ts : List Top) (s : Scope) → IsFine (tops_tests main s ts) → (x : List ℕ) (xs : List (List ℕ)) → is_missing (s (x ∷ [])) ≡ false → after_tops s ts (x ∷ xs) ≡ s (x ∷ xs)
all_stays main [] s f x xs h = refl
all_stays main (t ∷ ts) s f x xs h =
    (let one = top_stays main s t f.0 x [] h in all_stays main ts (after_top s t) f.1 x xs (ap is_missing one ∙ h) ∙ top_stays main s t f.0 x xs h)

-- ---- fields

-- S: behind all declarations. What stands behind a type that stands at a place stands there at the end
abbrev pub StaysIn : (S s : Scope) → Type 0
StaysIn S s = (x : List ℕ) (xs : List (List ℕ)) → is_missing (s (x ∷ [])) ≡ false → S (x ∷ xs) ≡ s (x ∷ xs)

pub type_stays : (S s : Scope) → StaysIn S s → (p : ℕ) (t : PTy) → IsFine (type_tests p s t) → (xs : List (List ℕ)) → type_at S t xs ≡ type_at s t xs
type_stays S s on p (type.Bit w) f xs = refl
type_stays S s on p type.Bool f xs = refl
type_stays S s on p (type.Named x) f xs = ap as_typed (on x xs f.0)

-- each is a type
abbrev pub AreTypes : Scope → List (PTy × List ℕ) → Type 0
AreTypes S [] = Unit {0}
AreTypes S (f ∷ fs) = IsFine (type_tests 0 S f.0) × AreTypes S fs

-- each is a type of single values
abbrev pub AreScalars : Scope → List (PTy × List ℕ) → Type 0
AreScalars S [] = Unit {0}
AreScalars S (f ∷ fs) = IsFine (scalar_tests 0 S f.0) × AreScalars S fs

types_fine : (S s : Scope) → StaysIn S s → (p : ℕ) (t : PTy) → IsFine (type_tests p s t) → IsFine (type_tests 0 S t)
types_fine S s on p (type.Bit w) f = f
types_fine S s on p type.Bool f = f
types_fine S s on p (type.Named x) f = subst (λ (st : Stands). (is_missing st ≡ false) × (not (is_type st) ≡ false)) (sym (on x [] f.0)) f

fields_stay : (S s : Scope) → StaysIn S s → (p : ℕ) (misfit : Thing → Bool) (fs : List (PTy × List ℕ)) → IsFine (fields_tests p misfit s fs) → (y : List ℕ) (rest : List (List ℕ)) → field_at S fs y rest ≡ field_at s fs y rest
fields_stay S s on p misfit [] f y rest = refl
fields_stay S s on p misfit (g ∷ fs) f y rest =
    ap (λ (st : Stands). cond (same_text g.1 y) st (field_at S fs y rest)) (type_stays S s on p g.0 f.0.0 rest)
    ∙ ap (λ (st : Stands). cond (same_text g.1 y) (type_at s g.0 rest) st) (fields_stay S s on p misfit fs f.1 y rest)

fields_types : (S s : Scope) → StaysIn S s → (p : ℕ) (misfit : Thing → Bool) (fs : List (PTy × List ℕ)) → IsFine (fields_tests p misfit s fs) → AreTypes S fs
fields_types S s on p misfit [] f = tt
fields_types S s on p misfit (g ∷ fs) f = (types_fine S s on p g.0 f.0.0, fields_types S s on p misfit fs f.1)

number_scalar : (t : Thing) → is_no_number t ≡ false → not (is_scalar t) ≡ false
number_scalar (Scalar k) h = refl
number_scalar (Header n) h = broken h
number_scalar Struct h = broken h
number_scalar Standard h = broken h
number_scalar PacketIn h = broken h
number_scalar PacketOut h = broken h

fields_scalars : (S s : Scope) → StaysIn S s → (p : ℕ) (fs : List (PTy × List ℕ)) → IsFine (fields_tests p is_no_number s fs) → AreScalars S fs
fields_scalars S s on p [] f = tt
fields_scalars S s on p (g ∷ fs) f = (
  (types_fine S s on p g.0 f.0.0, subst (λ (st : Stands). not (is_scalar (typed_thing st)) ≡ false) (sym (type_stays S s on p g.0 f.0.0 [])) (number_scalar (thing_in s g.0) f.0.1)),
  fields_scalars S s on p fs f.1,
)

-- ---- structs and header types

-- All holds of the fields of a type's name, which have the paths behind it
pub record FieldsAt (All : Scope → List (PTy × List ℕ) → Type 0) (S : Scope) (fs : List (PTy × List ℕ)) (x : List ℕ) : Type 0 where
  pub paths : (y : List ℕ) (rest : List (List ℕ)) → S (x ∷ y ∷ rest) ≡ field_at S fs y rest
  pub all : All S fs

abbrev pub StructAt : Scope → List Top → List ℕ → Type 0
StructAt S ts x = FieldsAt AreTypes S (struct_fields ts x) x

abbrev pub HeaderAt : Scope → List Top → List ℕ → Type 0
HeaderAt S ts x = FieldsAt AreScalars S (header_fields ts x) x

-- what a type's name is
abbrev pub thing_at : Stands → Thing
thing_at st = typed_thing (as_typed st)

no_scalar_struct : (t : Thing) → not (is_scalar t) ≡ false → is_struct t ≡ false
no_scalar_struct (Scalar k) h = refl
no_scalar_struct (Header n) h = broken h
no_scalar_struct Struct h = broken h
no_scalar_struct Standard h = broken h
no_scalar_struct PacketIn h = broken h
no_scalar_struct PacketOut h = broken h

no_scalar_header : (t : Thing) → not (is_scalar t) ≡ false → is_header t ≡ false
no_scalar_header (Scalar k) h = refl
no_scalar_header (Header n) h = broken h
no_scalar_header Struct h = broken h
no_scalar_header Standard h = broken h
no_scalar_header PacketIn h = broken h
no_scalar_header PacketOut h = broken h

module _ (main : List (List ℕ)) where
  -- the declared name is another, or it stands for what was declared to the end
  pub either_name : {A : Type 0} (s : Scope) (n : List ℕ) (w : What) (ts : List Top) → is_missing (s (n ∷ [])) ≡ true → is_missing (behind s w []) ≡ false → IsFine (tops_tests main (declare s n w) ts) → (x : List ℕ) → is_missing (s (x ∷ [])) ≡ true
      → (n ≡ x → ((xs : List (List ℕ)) → after_tops (declare s n w) ts (x ∷ xs) ≡ behind s w xs) → A) → (same_text n x ≡ false → is_missing (declare s n w (x ∷ [])) ≡ true → A) → A
  either_name {A} s n w ts new some f x h this that = go (same_text n x) refl
    where
      there : is_missing (declare s n w (n ∷ [])) ≡ false
      there = ap is_missing (self_stands s n w) ∙ some

      go : (b : Bool) → same_text n x ≡ b → A
      go true e =
          (let same : n ≡ x = text_is n x e in
          this same (λ xs. subst (λ (y : List ℕ). after_tops (declare s n w) ts (y ∷ xs) ≡ behind s w xs) same (all_stays main ts (declare s n w) f n xs there ∙ self_behind s n w xs)))
      go false e = that e (ap is_missing (other_kept s n w x (λ q. (let c : true ≡ false = sym (text_same n x q) ∙ e in cc))) ∙ h)

  -- what is declared does not pass the test
  pub skip : {A : Type 0} (fits : Thing → Bool) (s : Scope) (n : List ℕ) (w : What) (ts : List Top) → is_missing (s (n ∷ [])) ≡ true → is_missing (behind s w []) ≡ false → fits (thing_at (behind s w [])) ≡ false → IsFine (tops_tests main (declare s n w) ts) → (x : List ℕ) → is_missing (s (x ∷ [])) ≡ true
      → fits (thing_at (after_tops (declare s n w) ts (x ∷ []))) ≡ true → (is_missing (declare s n w (x ∷ [])) ≡ true → A) → A
  skip fits s n w ts new some misfit f x h k more =
      either_name s n w ts new some f x h (λ e same. (let c : true ≡ false = sym k ∙ ap (λ (st : Stands). fits (thing_at st)) (same []) ∙ misfit in absurd (cc))) (λ e m. more m)

  -- what is declared has these fields, where it is the name, or what follows declares it. gs: the fields that are found there
  found_fields : (All : Scope → List (PTy × List ℕ) → Type 0) (s : Scope) (y : List ℕ) (t : Thing) (fs : List (PTy × List ℕ)) (ts : List Top) → is_missing (s (y ∷ [])) ≡ true → IsFine (tops_tests main (declare s y (fields t fs)) ts)
      → (at : ℕ) (misfit : Thing → Bool) → IsFine (fields_tests at misfit s fs) → StaysIn (after_tops (declare s y (fields t fs)) ts) s → All (after_tops (declare s y (fields t fs)) ts) fs → (x : List ℕ) → is_missing (s (x ∷ [])) ≡ true
      → (gs : List (PTy × List ℕ)) → (is_missing (declare s y (fields t fs) (x ∷ [])) ≡ true → FieldsAt All (after_tops (declare s y (fields t fs)) ts) gs x) → FieldsAt All (after_tops (declare s y (fields t fs)) ts) (cond (same_text y x) fs gs) x
  found_fields All s y t fs ts new f at misfit fine on all x h gs more =
      either_name s y (fields t fs) ts new refl f x h
      (λ e same. subst (λ (b : Bool). FieldsAt All (after_tops (declare s y (fields t fs)) ts) (cond b fs gs) x) (sym (text_same y x e))
      (record { paths = λ z rest. same (z ∷ rest) ∙ sym (fields_stay (after_tops (declare s y (fields t fs)) ts) s on at misfit fs fine z rest); all = all }))
      (λ e m. subst (λ (b : Bool). FieldsAt All (after_tops (declare s y (fields t fs)) ts) (cond b fs gs) x) (sym e) (more m))

  -- nothing is no type
  pub none_fits : (fits : Thing → Bool) → fits (Scalar Unknown) ≡ false → (st : Stands) → is_missing st ≡ true → fits (thing_at st) ≡ true → ⊥
  none_fits fits no_type missing i j = broken (sym j ∙ no_type)
  none_fits fits no_type (typed b t) i j = broken (sym i)
  none_fits fits no_type (held a t) i j = broken (sym i)
  none_fits fits no_type (cells q) i j = broken (sym i)
  none_fits fits no_type (act ks m) i j = broken (sym i)
  none_fits fits no_type (rows m) i j = broken (sym i)
  none_fits fits no_type state i j = broken (sym i)
  none_fits fits no_type (function g) i j = broken (sym i)
  none_fits fits no_type algorithm i j = broken (sym i)
  none_fits fits no_type other i j = broken (sym i)

  pub struct_found : (ts : List Top) (s : Scope) → IsFine (tops_tests main s ts) → (x : List ℕ) → is_missing (s (x ∷ [])) ≡ true → is_struct (thing_at (after_tops s ts (x ∷ []))) ≡ true → StructAt (after_tops s ts) ts x
  struct_found [] s f x h k = absurd (none_fits is_struct refl (s (x ∷ [])) h k)
  struct_found (constant p t y e ∷ ts) s f x h k = skip is_struct s y (value Constant t) ts (twice_not _ f.0.0) refl refl f.1 x h k (λ m. struct_found ts _ f.1 x m k)
  struct_found (typedef p t y ∷ ts) s f x h k = skip is_struct s y (alias t) ts (twice_not _ f.0.0) refl (no_scalar_struct (thing_in s t) f.0.1.1) f.1 x h k (λ m. struct_found ts _ f.1 x m k)
  struct_found (header_type p y fs ∷ ts) s f x h k = skip is_struct s y (fields (Header _) fs) ts (twice_not _ f.0.0) refl refl f.1 x h k (λ m. struct_found ts _ f.1 x m k)
  struct_found (struct_type p y fs ∷ ts) s f x h k =
      (let on : StaysIn (after_tops s (struct_type p y fs ∷ ts)) s = λ z zs i. all_stays main (struct_type p y fs ∷ ts) s f z zs i in
      found_fields AreTypes s y Struct fs ts (twice_not _ f.0.0) f.1 p is_no_field f.0.1.1 on (fields_types (after_tops s (struct_type p y fs ∷ ts)) s on p is_no_field fs f.0.1.1) x h (struct_fields ts x) (λ m. struct_found ts _ f.1 x m k))
  struct_found (register p r ∷ ts) s f x h k = skip is_struct s r.name (scope.register r.ty) ts (twice_not _ f.0.0) refl refl f.1 x h k (λ m. struct_found ts _ f.1 x m k)
  struct_found (parser p d ∷ ts) s f x h k = skip is_struct s d.name part ts (twice_not _ f.0.0) refl refl f.1 x h k (λ m. struct_found ts _ f.1 x m k)
  struct_found (control p c ∷ ts) s f x h k = skip is_struct s c.name part ts (twice_not _ f.0.0) refl refl f.1 x h k (λ m. struct_found ts _ f.1 x m k)

  pub header_found : (ts : List Top) (s : Scope) → IsFine (tops_tests main s ts) → (x : List ℕ) → is_missing (s (x ∷ [])) ≡ true → is_header (thing_at (after_tops s ts (x ∷ []))) ≡ true → HeaderAt (after_tops s ts) ts x
  header_found [] s f x h k = absurd (none_fits is_header refl (s (x ∷ [])) h k)
  header_found (constant p t y e ∷ ts) s f x h k = skip is_header s y (value Constant t) ts (twice_not _ f.0.0) refl refl f.1 x h k (λ m. header_found ts _ f.1 x m k)
  header_found (typedef p t y ∷ ts) s f x h k = skip is_header s y (alias t) ts (twice_not _ f.0.0) refl (no_scalar_header (thing_in s t) f.0.1.1) f.1 x h k (λ m. header_found ts _ f.1 x m k)
  header_found (header_type p y fs ∷ ts) s f x h k =
      (let on : StaysIn (after_tops s (header_type p y fs ∷ ts)) s = λ z zs i. all_stays main (header_type p y fs ∷ ts) s f z zs i in
      found_fields AreScalars s y (Header (fields_bits s fs)) fs ts (twice_not _ f.0.0) f.1 p is_no_number f.0.1.1.0 on (fields_scalars (after_tops s (header_type p y fs ∷ ts)) s on p fs f.0.1.1.0) x h (header_fields ts x) (λ m. header_found ts _ f.1 x m k))
  header_found (struct_type p y fs ∷ ts) s f x h k = skip is_header s y (fields Struct fs) ts (twice_not _ f.0.0) refl refl f.1 x h k (λ m. header_found ts _ f.1 x m k)
  header_found (register p r ∷ ts) s f x h k = skip is_header s r.name (scope.register r.ty) ts (twice_not _ f.0.0) refl refl f.1 x h k (λ m. header_found ts _ f.1 x m k)
  header_found (parser p d ∷ ts) s f x h k = skip is_header s d.name part ts (twice_not _ f.0.0) refl refl f.1 x h k (λ m. header_found ts _ f.1 x m k)
  header_found (control p c ∷ ts) s f x h k = skip is_header s c.name part ts (twice_not _ f.0.0) refl refl f.1 x h k (λ m. header_found ts _ f.1 x m k)
