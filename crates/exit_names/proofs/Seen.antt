-- What is read in sight of a place is shown, and so expressions and calls use what is shown alone.
use Rattle.std.proofs.Common.{◌≡◌, ◌⊎◌, inl, inr, ℕ, List, [], ◌∷◌, Bool, true, false, cond, Option, Some, None, refl, sym, ap, ◌∙◌, subst}
use Rattle.std.specs.List.{AllByRecursion}
use Rattle.std.proofs.lemmas.Slice.Eq.{slice_eq-Decides, bytes_eq-Decides}
use Rattle.bit_values.specs.Bits.{Word}
use Rattle.lex_text.specs.Names.{same_text, same_path}
use Rattle.p4_tree.specs.Tree.{Expr, num, path, applied, negation, inversion, opposite, binary, conditional, slice, cast, Arg, one, many}
use Rattle.p4_meaning.specs.Statements.{Act, makes, drops, reads, writes, tells, sums, runs, applies, idle, read_of, write_of, digest_of, sum_of, values_in, act_named, act_on, act_on_header, act_of}
use Rattle.p4_meaning.specs.Scope as meaning
use Rattle.p4_meaning.specs.Scope.{first_name, path_under, constant_at}
use Rattle.p4_meaning.specs.Under.{constant_or_path, expr_under}
use Rattle.p4_scopes.specs.Scopes.{is_missing, Scope, What, behind, declare}
use Rattle.p4_scopes.specs.Uses as fits
use Rattle.p4_scopes.specs.Uses.{is_writable}
use Rattle.p4_typing_laws.specs.Names.{StandsFor, Resolves}
use Rattle.p4_typing_laws.proofs.CallCounts.{text_is}
use Rattle.exit_statements.specs.Free.{Hides, shows, IsFreeExpr, IsFreeAct}
use Rattle.exit_names.proofs.Names.{broken}

-- ---- what is shown

-- a variable that is read, and is no constant, is shown, and so is one that is written; paths of other lengths are shown
pub record Sees (s : Scope) (sc : meaning.Scope) (hides : Hides) : Type 0 where
  pub shown : (x : List ℕ) → is_missing (s (x ∷ [])) ≡ false → fits.reads (s (x ∷ [])) ≡ true → (constant_at sc (x ∷ []) ≡ None) ⊎ (is_writable (s (x ∷ [])) ≡ true) → hides (first_name sc x ∷ []) ≡ false
  pub long : (x y : List ℕ) (rest : List (List ℕ)) → hides (x ∷ y ∷ rest) ≡ false
  pub empty : hides [] ≡ false

-- what is shown stays so
pub shows_more : (hides : Hides) (y : List ℕ) (q : List (List ℕ)) → hides q ≡ false → shows hides y q ≡ false
shows_more hides y q h = go (same_path (y ∷ []) q)
  where
    go : (b : Bool) → cond b false (hides q) ≡ false
    go true = refl
    go false = h

pub shows_it : (hides : Hides) (y : List ℕ) → shows hides y (y ∷ []) ≡ false
shows_it hides y = ap (λ (b : Bool). cond b false (hides (y ∷ []))) ((slice_eq-Decides bytes_eq-Decides (y ∷ []) (y ∷ []) (same_path (y ∷ []) (y ∷ [])) refl).1 refl)

-- another name stays hidden
pub shows_other : (hides : Hides) (y z : List ℕ) → (y ≡ z → ⊥) → hides (z ∷ []) ≡ true → shows hides y (z ∷ []) ≡ true
shows_other hides y z apart h = go (same_path (y ∷ []) (z ∷ [])) refl
  where
    go : (b : Bool) → same_path (y ∷ []) (z ∷ []) ≡ b → cond b false (hides (z ∷ [])) ≡ true
    go true e = (let same = (slice_eq-Decides bytes_eq-Decides (y ∷ []) (z ∷ []) (same_path (y ∷ []) (z ∷ [])) refl).0 e in absurd (apart (cc)))
    go false e = h

-- behind a declaration, in a scope in which other names are no more constants
pub sees_declared : (s : Scope) (sc sd : meaning.Scope) (hides more : Hides) (n : List ℕ) (w : What) → Sees s sc hides → ((q : List (List ℕ)) → hides q ≡ false → more q ≡ false)
    → ((y : List ℕ) → first_name sc y ≡ first_name sd y) → ((y : List ℕ) → same_text n y ≡ false → constant_at sd (y ∷ []) ≡ None → constant_at sc (y ∷ []) ≡ None)
    → (fits.reads (behind s w []) ≡ true → (constant_at sd (n ∷ []) ≡ None) ⊎ (is_writable (behind s w []) ≡ true) → more (first_name sd n ∷ []) ≡ false) → Sees (declare s n w) sd more
unfolding declare
sees_declared s sc sd hides more n w sees keeps names constants this = record { shown = λ y h r k. go y (same_text n y) refl h r k; long = λ x y rest. keeps _ (sees.long x y rest); empty = keeps _ sees.empty }
  where
    go : (y : List ℕ) (b : Bool) → same_text n y ≡ b → is_missing (cond b (behind s w []) (s (y ∷ []))) ≡ false → fits.reads (cond b (behind s w []) (s (y ∷ []))) ≡ true → (constant_at sd (y ∷ []) ≡ None) ⊎ (is_writable (cond b (behind s w []) (s (y ∷ []))) ≡ true)
        → more (first_name sd y ∷ []) ≡ false
    go y true e h r k =
        subst (λ (z : List ℕ). more (first_name sd z ∷ []) ≡ false) (text_is n y e)
        (this r (subst (λ (z : List ℕ). (constant_at sd (z ∷ []) ≡ None) ⊎ (is_writable (behind s w []) ≡ true)) (sym (text_is n y e)) k))
    go y false e h r (inl c) = subst (λ (z : List ℕ). more (z ∷ []) ≡ false) (names y) (keeps _ (sees.shown y h r (inl (constants y e c))))
    go y false e h r (inr k) = subst (λ (z : List ℕ). more (z ∷ []) ≡ false) (names y) (keeps _ (sees.shown y h r (inr k)))

-- behind what is not read
pub sees_quiet : (s : Scope) (sc : meaning.Scope) (hides : Hides) (n : List ℕ) (w : What) → Sees s sc hides → fits.reads (behind s w []) ≡ false → Sees (declare s n w) sc hides
sees_quiet s sc hides n w sees unread = sees_declared s sc sc hides hides n w sees (λ q h. h) (λ y. refl) (λ y e c. c) (λ r k. broken (sym r ∙ unread))

-- ---- expressions

module _ (s : Scope) (sc : meaning.Scope) (hides : Hides) (sees : Sees s sc hides) where
  pub path_free : (p : ℕ) (x : List (List ℕ)) → StandsFor s fits.reads x → IsFreeExpr hides (constant_or_path p (constant_at sc x) (path_under sc x))
  path_free p [] h = sees.empty
  path_free p (x ∷ []) h = go (constant_at sc (x ∷ [])) refl
    where
      go : (o : Option Word) → constant_at sc (x ∷ []) ≡ o → IsFreeExpr hides (constant_or_path p o (first_name sc x ∷ []))
      go None e = sees.shown x h.known h.fitting (inl e)
      go (Some w) e = tt
  path_free p (x ∷ y ∷ rest) h = sees.long (first_name sc x) y rest

  pub expr_free : (e : Expr) → Resolves s e → IsFreeExpr hides (expr_under sc e)
  expr_free (path p x) h = path_free p x h
  expr_free (applied p t b) h = absurd h
  expr_free (negation p a) h = expr_free a h
  expr_free (inversion p a) h = expr_free a h
  expr_free (opposite p a) h = expr_free a h
  expr_free (binary p op a b) h = (expr_free a h.0, expr_free b h.1)
  expr_free (conditional p c a b) h = (expr_free c h.0, expr_free a h.1, expr_free b h.2)
  expr_free (slice p a i l) h = expr_free a h
  expr_free (cast p t a) h = expr_free a h
  expr_free _ h = tt

  -- a path that is written
  pub target_free : (x : List (List ℕ)) → StandsFor s fits.reads x → StandsFor s is_writable x → hides (path_under sc x) ≡ false
  target_free [] h k = sees.empty
  target_free (x ∷ []) h k = sees.shown x h.known h.fitting (inr k.fitting)
  target_free (x ∷ y ∷ rest) h k = sees.long (first_name sc x) y rest

-- ---- calls: what a call is for holds what its arguments hold

-- what neither runs an action nor applies a table has the property P, where its expressions have E
pub record AreQuiet (P : Act → Type 0) (E : Expr → Type 0) : Type 0 where
  pub made : (h : List (List ℕ)) (b : Bool) → P (makes h b)
  pub dropped : P drops
  pub read : (x : List ℕ) (q : ℕ) (t : List (List ℕ)) (i : Expr) → E (path q t) → E i → P (reads x t i)
  pub written : (x : List ℕ) (i v : Expr) → E i → E v → P (writes x i v)
  pub told : (n : ℕ) (es : List Expr) → AllByRecursion E es → P (tells n es)
  pub summed : (v : Bool) (c : Expr) (es : List Expr) (q : ℕ) (f : List (List ℕ)) → E c → AllByRecursion E es → E (path q f) → P (sums v c es f)
  pub none : P idle

abbrev pub HasArg : (E : Expr → Type 0) → Arg → Type 0
HasArg E (one p e) = E e
HasArg E (many p es) = AllByRecursion E es

module _ (P : Act → Type 0) (E : Expr → Type 0) (quiet : AreQuiet P E) where
  values_have : (args : List Arg) → AllByRecursion (HasArg E) args → AllByRecursion E (values_in args)
  values_have [] h = tt
  values_have (one p e ∷ args) h = (h.0, values_have args h.1)
  values_have (many p es ∷ args) h = values_have args h.1

  read_has : (x : List ℕ) (args : List Arg) → AllByRecursion (HasArg E) args → P (read_of x args)
  read_has x (one p (path q y) ∷ one r i ∷ []) h = quiet.read x q y i h.0 h.1.0
  read_has x _ h = quiet.none

  write_has : (x : List ℕ) (args : List Arg) → AllByRecursion (HasArg E) args → P (write_of x args)
  write_has x (one p e ∷ one q v ∷ []) h = quiet.written x e v h.0 h.1.0
  write_has x _ h = quiet.none

  digest_has : (args : List Arg) → AllByRecursion (HasArg E) args → P (digest_of args)
  digest_has (one p (num q n) ∷ many r es ∷ []) h = quiet.told _ es h.1.0
  digest_has _ h = quiet.none

  sum_has : (v : Bool) (args : List Arg) → AllByRecursion (HasArg E) args → P (sum_of v args)
  sum_has v (one p c ∷ many q es ∷ one r (path t x) ∷ one u a ∷ []) h = quiet.summed v c es t x h.0 h.1.0 h.1.1.0
  sum_has v _ h = quiet.none

  -- of a checksum's arguments the last one is not looked at
  pub sum_first : (v : Bool) (c list field : Arg) (rest : List Arg) → HasArg E c → HasArg E list → HasArg E field → P (sum_of v (c ∷ list ∷ field ∷ rest))
  sum_first v (one p c) (many q es) (one r (path t x)) (one u h ∷ []) i j k = quiet.summed v c es t x i j k
  sum_first v _ _ _ _ i j k = quiet.none

  pub named_has : (x : List ℕ) (args : List Arg) → AllByRecursion (HasArg E) args → ((es : List Expr) → AllByRecursion E es → P (runs x es)) → P (act_named x args)
  named_has x args h run = go _ _ _ _
    where
      go : (a b c d : Bool) → P (cond a drops (cond b (digest_of args) (cond c (sum_of true args) (cond d (sum_of false args) (runs x (values_in args))))))
      go true b c d = quiet.dropped
      go false true c d = digest_has args h
      go false false true d = sum_has true args h
      go false false false true = sum_has false args h
      go false false false false = run (values_in args) (values_have args h)

  pub on_has : (x verb : List ℕ) (args : List Arg) → AllByRecursion (HasArg E) args → P (applies x) → P (act_on x verb args)
  on_has x verb args h apply = go _ _ _
    where
      go : (a b c : Bool) → P (cond a (read_of x args) (cond b (write_of x args) (cond c (applies x) idle)))
      go true b c = read_has x args h
      go false true c = write_has x args h
      go false false true = apply
      go false false false = quiet.none

  pub header_has : (x : List (List ℕ)) (verb : List ℕ) → P (act_on_header x verb)
  header_has x verb = go _ _
    where
      go : (a b : Bool) → P (cond a (makes x true) (cond b (makes x false) idle))
      go true b = quiet.made x true
      go false true = quiet.made x false
      go false false = quiet.none

-- acts that use what is shown alone
pub quiet_free : (hides : Hides) → AreQuiet (IsFreeAct hides) (IsFreeExpr hides)
quiet_free hides = record { made = λ h b. tt; dropped = tt; read = λ x q t i h k. (h, k); written = λ x i v h k. (h, k); told = λ n es h. h; summed = λ v c es q f h k l. (h, k, l); none = tt }

pub act_free : (hides : Hides) (callee : List (List ℕ)) (args : List Arg) → AllByRecursion (HasArg (IsFreeExpr hides)) args → IsFreeAct hides (act_of callee args)
act_free hides (x ∷ []) args h = named_has (IsFreeAct hides) (IsFreeExpr hides) (quiet_free hides) x args h (λ es k. k)
act_free hides (x ∷ verb ∷ []) args h = on_has (IsFreeAct hides) (IsFreeExpr hides) (quiet_free hides) x verb args h tt
act_free hides (x ∷ y ∷ verb ∷ []) args h = header_has (IsFreeAct hides) (IsFreeExpr hides) (quiet_free hides) (x ∷ y ∷ []) verb
act_free hides _ args h = tt
