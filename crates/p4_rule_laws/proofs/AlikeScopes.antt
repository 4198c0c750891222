-- Scopes that agree on old names go on to do so behind a declaration.
use Rattle.std.proofs.Common.{◌≡◌, ℕ, List, [], ◌∷◌, Bool, true, false, cond, refl, sym, ap, ◌∙◌}
use Rattle.std.proofs.lemmas.Slice.Eq.{bytes_eq-Decides}
use Rattle.lex_text.specs.Names.{same_text}
use Rattle.p4_tree.specs.declared.statement.PTy.{PTy}
use Rattle.p4_tree.specs.declared.statement.PTy.TheVariants as type
use Rattle.p4_scopes.specs.Scopes.{Stands, typed, held, cells, act, Scope, as_held, as_typed, typed_thing, thing_kind, type_at, thing_in, kind_in, kinds_in, field_at, fields_bits, What, alias, fields, value, action, table, parser_state, part, behind, declare}
use Rattle.p4_scopes.specs.Scopes as scope
use Rattle.p4_rule_laws.specs.Old.{Names, OldPath, Alike, OldType, OldFields, OldWhat}

module _ (old : Names) (s t : Scope) (a : Alike old s t) where
  pub type_alike : (y : PTy) → OldType old y → (xs : List (List ℕ)) → OldPath old xs → type_at s y xs ≡ type_at t y xs
  type_alike (type.Bit w) o xs os = refl
  type_alike type.Bool o xs os = refl
  type_alike (type.Named y) o xs os = ap as_typed (a.same (y ∷ xs) (o, os))

  pub thing_alike : (y : PTy) → OldType old y → thing_in s y ≡ thing_in t y
  thing_alike y o = ap typed_thing (type_alike y o [] tt)

  pub kind_alike : (y : PTy) → OldType old y → kind_in s y ≡ kind_in t y
  kind_alike y o = ap thing_kind (thing_alike y o)

  pub kinds_alike : (ps : List (PTy × List ℕ)) → OldFields old ps → kinds_in s ps ≡ kinds_in t ps
  kinds_alike [] o = refl
  kinds_alike (p ∷ ps) o = let e = kind_alike p.0 o.0 in let f = kinds_alike ps o.2 in cc

  pub fields_bits_alike : (fs : List (PTy × List ℕ)) → OldFields old fs → fields_bits s fs ≡ fields_bits t fs
  fields_bits_alike [] o = refl
  fields_bits_alike (f ∷ fs) o = let e = kind_alike f.0 o.0 in let g = fields_bits_alike fs o.2 in cc

  field_step : (b : Bool) (y : PTy) (xs : List (List ℕ)) (u v : Stands) → OldType old y → OldPath old xs → u ≡ v → cond b (type_at s y xs) u ≡ cond b (type_at t y xs) v
  field_step true y xs u v o os e = type_alike y o xs os
  field_step false y xs u v o os e = e

  pub field_alike : (fs : List (PTy × List ℕ)) → OldFields old fs → (x : List ℕ) (xs : List (List ℕ)) → OldPath old xs → field_at s fs x xs ≡ field_at t fs x xs
  field_alike [] o x xs os = refl
  field_alike (f ∷ fs) o x xs os = field_step (same_text f.1 x) f.0 xs (field_at s fs x xs) (field_at t fs x xs) o.0 os (field_alike fs o.2 x xs os)

  pub behind_alike : (w : What) → OldWhat old w → (xs : List (List ℕ)) → OldPath old xs → behind s w xs ≡ behind t w xs
  behind_alike (alias y) o [] os = ap (λ h. typed false h) (thing_alike y o)
  behind_alike (alias y) o (x ∷ xs) os = refl
  behind_alike (fields h fs) o [] os = refl
  behind_alike (fields h fs) o (x ∷ xs) os = field_alike fs o x xs os.1
  behind_alike (value c y) o [] os = ap (λ h. held c h) (thing_alike y o)
  behind_alike (value c y) o (x ∷ xs) os = ap (as_held c) (type_alike y o (x ∷ xs) os)
  behind_alike (scope.register y) o [] os = ap (λ k. cells k) (kind_alike y o)
  behind_alike (scope.register y) o (x ∷ xs) os = refl
  behind_alike (action ps m) o [] os = ap (λ ks. act ks m) (kinds_alike ps o)
  behind_alike (action ps m) o (x ∷ xs) os = refl
  behind_alike (table m) o [] os = refl
  behind_alike (table m) o (x ∷ xs) os = refl
  behind_alike parser_state o [] os = refl
  behind_alike parser_state o (x ∷ xs) os = refl
  behind_alike part o [] os = refl
  behind_alike part o (x ∷ xs) os = refl

  declare_step : (b : Bool) (w : What) (x : List ℕ) (xs : List (List ℕ)) → OldWhat old w → OldPath old (x ∷ xs) → cond b (behind s w xs) (s (x ∷ xs)) ≡ cond b (behind t w xs) (t (x ∷ xs))
  declare_step true w x xs o os = behind_alike w o xs os.1
  declare_step false w x xs o os = a.same (x ∷ xs) os

  declare_same : (n : List ℕ) (w : What) → OldWhat old w → (xs : List (List ℕ)) → OldPath old xs → declare s n w xs ≡ declare t n w xs
  unfolding declare
  declare_same n w o [] os = a.same [] os
  declare_same n w o (x ∷ xs) os = declare_step (same_text n x) w x xs o os

  -- both declare the same
  pub declare_alike : (n : List ℕ) (w : What) → OldWhat old w → Alike old (declare s n w) (declare t n w)
  declare_alike n w o = record { same = declare_same n w o }

  skip_step : (b : Bool) (n : List ℕ) (w : What) (x : List ℕ) (xs : List (List ℕ)) → same_text n x ≡ b → old n ≡ false → OldPath old (x ∷ xs) → s (x ∷ xs) ≡ cond b (behind t w xs) (t (x ∷ xs))
  skip_step true n w x xs e nw os = absurd (let h : n ≡ x = (bytes_eq-Decides n x).0 e in let c : false ≡ true = sym nw ∙ (ap old h ∙ os.0) in cc)
  skip_step false n w x xs e nw os = a.same (x ∷ xs) os

  skip_same : (n : List ℕ) (w : What) → old n ≡ false → (xs : List (List ℕ)) → OldPath old xs → s xs ≡ declare t n w xs
  unfolding declare
  skip_same n w nw [] os = a.same [] os
  skip_same n w nw (x ∷ xs) os = skip_step (same_text n x) n w x xs refl nw os

  -- the second declares a name that is not old
  pub skip_alike : (n : List ℕ) (w : What) → old n ≡ false → Alike old s (declare t n w)
  skip_alike n w nw = record { same = skip_same n w nw }

pub alike_self : (old : Names) (s : Scope) → Alike old s s
alike_self old s = record { same = λ x o. refl }

pub alike_back : (old : Names) (s t : Scope) → Alike old s t → Alike old t s
alike_back old s t a = record { same = λ x o. sym (a.same x o) }

pub alike_trans : (old : Names) (s t u : Scope) → Alike old s t → Alike old t u → Alike old s u
alike_trans old s t u a b = record { same = λ x o. a.same x o ∙ b.same x o }
