-- Each refusal is given exactly where it has its cause.
use Rattle.std.proofs.Common.{◌≡◌, ◌⊎◌, inl, inr, ℕ, List, [], ◌∷◌, ◌++◌, Bool, true, false, cond, Option, Some, None, nat_lt, le-ltb, refl, sym, ap, ◌∙◌, subst}
use Rattle.std.proofs.lemmas.Bool.{ltb-true, ltb-false, lt-ltb}
use Rattle.std.specs.List.{AllByRecursion}
use Rattle.std.specs.Option.{option_map}
use Rattle.indus_tree.specs.Tree.{Decl, Property}
use Rattle.indus_tree.specs.Hops.{same_kind}
use Rattle.indus_tree.specs.declared.tree.DeclKind.TheVariants.{Header}
use Rattle.indus_types.specs.Sums.{cut, cut_wide, property_bits, property_weight}
use Rattle.tele_layout.specs.Telemetry.{whole_bytes}
use Rattle.lower_lists.specs.FlatProperty.{greatest_weight}
use Rattle.p4_tree.specs.Tree.{Program}
use Rattle.p4_scopes.specs.Scopes.{is_missing}
use Rattle.p4_rules.specs.ProgramRules.{program_scope}
use Rattle.link_faults.specs.Refusals.{Refusal, no_such_field, field_width, name_taken, room_short, too_large, or_else}
use Rattle.link_faults.specs.HeaderFields.{fits, dotted, decl_fault, fields_fault}
use Rattle.link_faults.specs.WrittenNames.{Names, names_of_program, is_taken, first_taken}
use Rattle.link_faults.specs.Faults.{taken_fault, room_fault, weight_fault, link_fault}
use Rattle.link_faults.specs.Causes.{found, IsUnknown, IsMisfit, Fits, IsFirst, IsFirstTaken, AllFit, NoneTaken, HasCause, FaultsHaveCauses}

no_case : {A : Type 0} → true ≡ false → A
no_case e = absurd (cc)

-- ---- one declaration

module _ (f : Program) where
  abbrev fault : Decl → Option Refusal
  fault d = decl_fault (program_scope f) f d

  -- what a declaration that has a fault is
  abbrev IsFault : Decl → Refusal → Type 0
  IsFault d r = (IsUnknown f d × (r ≡ no_such_field (dotted d.path))) ⊎ (IsMisfit f d × (r ≡ field_width (dotted d.path)))

  a_fault : (d : Decl) (r : Refusal) → fault d ≡ Some r → IsFault d r
  a_fault d r h = go (same_kind Header d.kind) refl (is_missing (found f d)) refl (fits d.valid d.shape (found f d)) refl h
    where
      go : (a : Bool) → same_kind Header d.kind ≡ a → (b : Bool) → is_missing (found f d) ≡ b → (c : Bool) → fits d.valid d.shape (found f d) ≡ c
          → cond a (cond b (Some (no_such_field (dotted d.path))) (cond c None (Some (field_width (dotted d.path))))) None ≡ Some r → IsFault d r
      go true i true j c k h = inl (record { header = i; missing = j }, cc)
      go true i false j true k h = absurd (cc)
      go true i false j false k h = inr (record { header = i; there = j; misfit = k }, cc)
      go false i b j c k h = absurd (cc)

  no_fault : (d : Decl) → fault d ≡ None → Fits f d
  no_fault d h = go (same_kind Header d.kind) refl (is_missing (found f d)) refl (fits d.valid d.shape (found f d)) refl h
    where
      go : (a : Bool) → same_kind Header d.kind ≡ a → (b : Bool) → is_missing (found f d) ≡ b → (c : Bool) → fits d.valid d.shape (found f d) ≡ c
          → cond a (cond b (Some (no_such_field (dotted d.path))) (cond c None (Some (field_width (dotted d.path))))) None ≡ None → Fits f d
      go true i true j c k h = absurd (cc)
      go true i false j true k h = record { there = λ e. j; fit = λ e. k }
      go true i false j false k h = absurd (cc)
      go false i b j c k h = record { there = λ e. no_case (sym e ∙ i); fit = λ e. no_case (sym e ∙ i) }

  fits_none : (d : Decl) → Fits f d → fault d ≡ None
  fits_none d i = go (same_kind Header d.kind) refl
    where
      go : (a : Bool) → same_kind Header d.kind ≡ a → cond a (cond (is_missing (found f d)) (Some (no_such_field (dotted d.path))) (cond (fits d.valid d.shape (found f d)) None (Some (field_width (dotted d.path))))) None ≡ None
      go true e = λ j. cond (i.there e j) (Some (no_such_field (dotted d.path))) (cond (i.fit e j) None (Some (field_width (dotted d.path))))
      go false e = refl

  unknown_fault : (d : Decl) → IsUnknown f d → fault d ≡ Some (no_such_field (dotted d.path))
  unknown_fault d i = λ j. cond (i.header j) (cond (i.missing j) (Some (no_such_field (dotted d.path))) (cond (fits d.valid d.shape (found f d)) None (Some (field_width (dotted d.path))))) None

  misfit_fault : (d : Decl) → IsMisfit f d → fault d ≡ Some (field_width (dotted d.path))
  misfit_fault d i = λ j. cond (i.header j) (cond (i.there j) (Some (no_such_field (dotted d.path))) (cond (i.misfit j) None (Some (field_width (dotted d.path))))) None

  -- ---- all declarations

  abbrev faults : List Decl → Option Refusal
  faults ds = fields_fault (program_scope f) f ds

  all_fit : (ds : List Decl) → faults ds ≡ None → AllByRecursion (Fits f) ds
  all_fit [] h = tt
  all_fit (d ∷ ds) h = go (fault d) refl h (λ k. all_fit ds k)
    where
      go : (o : Option Refusal) → fault d ≡ o → or_else o (faults ds) ≡ None → (faults ds ≡ None → AllByRecursion (Fits f) ds) → Fits f d × AllByRecursion (Fits f) ds
      go None e k more = (no_fault d e, more k)
      go (Some r) e k more = absurd (cc)

  fit_none : (ds : List Decl) → AllByRecursion (Fits f) ds → faults ds ≡ None
  fit_none [] i = refl
  fit_none (d ∷ ds) i = ap (λ (o : Option Refusal). or_else o (faults ds)) (fits_none d i.0) ∙ fit_none ds i.1

  -- the first that does not fit
  abbrev IsFirstFault : List Decl → Refusal → Type 0
  IsFirstFault ds (no_such_field name) = IsFirst f (IsUnknown f) ds name
  IsFirstFault ds (field_width name) = IsFirst f (IsMisfit f) ds name
  IsFirstFault ds _ = ⊥

  first_here : (d : Decl) (ds : List Decl) (r : Refusal) → IsFault d r → IsFirstFault (d ∷ ds) r
  first_here d ds r (inl (i, e)) = subst (IsFirstFault (d ∷ ds)) (sym e) (record { before = []; here = d; behind = ds; all = refl; others = tt; so = i; named = refl })
  first_here d ds r (inr (i, e)) = subst (IsFirstFault (d ∷ ds)) (sym e) (record { before = []; here = d; behind = ds; all = refl; others = tt; so = i; named = refl })

  first_later : (d : Decl) (ds : List Decl) (r : Refusal) → Fits f d → IsFirstFault ds r → IsFirstFault (d ∷ ds) r
  first_later d ds (no_such_field name) i k = record { before = d ∷ k.before; here = k.here; behind = k.behind; all = ap (λ (xs : List Decl). d ∷ xs) k.all; others = (i, k.others); so = k.so; named = k.named }
  first_later d ds (field_width name) i k = record { before = d ∷ k.before; here = k.here; behind = k.behind; all = ap (λ (xs : List Decl). d ∷ xs) k.all; others = (i, k.others); so = k.so; named = k.named }
  first_later d ds (name_taken name) i k = absurd k
  first_later d ds (room_short need room) i k = absurd k
  first_later d ds (too_large weight) i k = absurd k

  first_fault : (ds : List Decl) (r : Refusal) → faults ds ≡ Some r → IsFirstFault ds r
  first_fault [] r h = absurd (cc)
  first_fault (d ∷ ds) r h = go (fault d) refl h (λ k. first_fault ds r k)
    where
      go : (o : Option Refusal) → fault d ≡ o → or_else o (faults ds) ≡ Some r → (faults ds ≡ Some r → IsFirstFault ds r) → IsFirstFault (d ∷ ds) r
      go None e k more = first_later d ds r (no_fault d e) (more k)
      go (Some q) e k more = first_here d ds r (a_fault d r (e ∙ k))

  is_first : (before behind : List Decl) (d : Decl) (r : Refusal) → AllByRecursion (Fits f) before → fault d ≡ Some r → faults (before ++ d ∷ behind) ≡ Some r
  is_first [] behind d r i e = ap (λ (o : Option Refusal). or_else o (faults behind)) e
  is_first (b ∷ before) behind d r i e = ap (λ (o : Option Refusal). or_else o (faults (before ++ d ∷ behind))) (fits_none b i.0) ∙ is_first before behind d r i.1 e

-- ---- names

none_taken : (xs : Names) → first_taken xs ≡ None → AllByRecursion (λ x. is_taken x ≡ false) xs
none_taken [] h = tt
none_taken (x ∷ xs) h = go (is_taken x) refl h (λ k. none_taken xs k)
  where
    go : (b : Bool) → is_taken x ≡ b → cond b (Some x) (first_taken xs) ≡ None → (first_taken xs ≡ None → AllByRecursion (λ y. is_taken y ≡ false) xs) → (is_taken x ≡ false) × AllByRecursion (λ y. is_taken y ≡ false) xs
    go true e k more = absurd (cc)
    go false e k more = (e, more k)

taken_none : (xs : Names) → AllByRecursion (λ x. is_taken x ≡ false) xs → first_taken xs ≡ None
taken_none [] i = refl
taken_none (x ∷ xs) i = ap (λ (b : Bool). cond b (Some x) (first_taken xs)) i.0 ∙ taken_none xs i.1

first_name : (xs : Names) (n : List ℕ) → first_taken xs ≡ Some n → IsFirstTaken xs n
first_name [] n h = absurd (cc)
first_name (x ∷ xs) n h = go (is_taken x) refl h (λ k. first_name xs n k)
  where
    go : (b : Bool) → is_taken x ≡ b → cond b (Some x) (first_taken xs) ≡ Some n → (first_taken xs ≡ Some n → IsFirstTaken xs n) → IsFirstTaken (x ∷ xs) n
    go true e k more = let same : x ≡ n = cc in subst (IsFirstTaken (x ∷ xs)) same (record { before = []; behind = xs; all = refl; others = tt; taken = e })
    go false e k more = let i = more k in record { before = x ∷ i.before; behind = i.behind; all = ap (λ (ys : Names). x ∷ ys) i.all; others = (e, i.others); taken = i.taken }

name_first : (before behind : Names) (n : List ℕ) → AllByRecursion (λ x. is_taken x ≡ false) before → is_taken n ≡ true → first_taken (before ++ n ∷ behind) ≡ Some n
name_first [] behind n i e = ap (λ (b : Bool). cond b (Some n) (first_taken behind)) e
name_first (b ∷ before) behind n i e = ap (λ (c : Bool). cond c (Some b) (first_taken (before ++ n ∷ behind))) i.0 ∙ name_first before behind n i.1 e

-- ---- all five

module _ (f : Program) (p : Property) (room : ℕ) where
  abbrev fields : Option Refusal
  fields = faults f p.decls

  abbrev need : ℕ
  need = whole_bytes (property_bits p)

  abbrev short : Refusal
  short = room_short (whole_bytes (cut_wide (property_bits p))) room

  abbrev large : Refusal
  large = too_large (cut (property_weight p))

  -- the test of fields gives no other refusals
  field_cause : (r : Refusal) → IsFirstFault f p.decls r → HasCause f p room r
  field_cause (no_such_field name) i = i
  field_cause (field_width name) i = i
  field_cause (name_taken name) i = absurd i
  field_cause (room_short n m) i = absurd i
  field_cause (too_large w) i = absurd i

  has_cause : (r : Refusal) → link_fault f p room ≡ Some r → HasCause f p room r
  has_cause r h = go fields refl (first_taken (names_of_program f)) refl (nat_lt room need) refl (nat_lt greatest_weight (property_weight p)) refl h
    where
      go : (a : Option Refusal) → fields ≡ a → (b : Option (List ℕ)) → first_taken (names_of_program f) ≡ b → (c : Bool) → nat_lt room need ≡ c → (d : Bool) → nat_lt greatest_weight (property_weight p) ≡ d
          → or_else a (or_else (option_map name_taken b) (or_else (cond c (Some short) None) (cond d (Some large) None))) ≡ Some r → HasCause f p room r
      go (Some q) i b j c k d m h = field_cause r (first_fault f p.decls r (i ∙ h))
      go None i (Some n) j c k d m h = subst (HasCause f p room) (let e : name_taken n ≡ r = cc in e) (all_fit f p.decls i, first_name (names_of_program f) n j)
      go None i None j true k d m h =
          subst (HasCause f p room) (let e : short ≡ r = cc in e)
          (record { fit = all_fit f p.decls i; names = none_taken (names_of_program f) j; more = ltb-true room need k; need_is = refl; given_is = refl })
      go None i None j false k true m h =
          subst (HasCause f p room) (let e : large ≡ r = cc in e)
          (record { fit = all_fit f p.decls i; names = none_taken (names_of_program f) j; enough = ltb-false room need k; more = ltb-true greatest_weight (property_weight p) m; weight_is = refl })
      go None i None j false k false m h = absurd (cc)

  -- where those before it are not
  past : (q : Option Refusal) → AllFit f p room → or_else fields q ≡ q
  past q i = ap (λ (o : Option Refusal). or_else o q) (fit_none f p.decls i)

  past_names : (q : Option Refusal) → AllFit f p room → NoneTaken f p room → or_else fields (or_else (taken_fault f) q) ≡ q
  past_names q i j = past (or_else (taken_fault f) q) i ∙ ap (λ (o : Option (List ℕ)). or_else (option_map name_taken o) q) (taken_none (names_of_program f) j)

  is_given : (r : Refusal) → HasCause f p room r → link_fault f p room ≡ Some r
  is_given (no_such_field name) i =
      ap (λ (o : Option Refusal). or_else o (or_else (taken_fault f) (or_else (room_fault p room) (weight_fault p))))
      (ap (faults f) i.all ∙ is_first f i.before i.behind i.here (no_such_field (dotted i.here.path)) i.others (unknown_fault f i.here i.so) ∙ ap (λ (x : List ℕ). Some (no_such_field x)) (sym i.named))
  is_given (field_width name) i =
      ap (λ (o : Option Refusal). or_else o (or_else (taken_fault f) (or_else (room_fault p room) (weight_fault p))))
      (ap (faults f) i.all ∙ is_first f i.before i.behind i.here (field_width (dotted i.here.path)) i.others (misfit_fault f i.here i.so) ∙ ap (λ (x : List ℕ). Some (field_width x)) (sym i.named))
  is_given (name_taken name) (i, n) =
      past (or_else (taken_fault f) (or_else (room_fault p room) (weight_fault p))) i
      ∙ ap (λ (o : Option (List ℕ)). or_else (option_map name_taken o) (or_else (room_fault p room) (weight_fault p))) (ap first_taken n.all ∙ name_first n.before n.behind name n.others n.taken)
  is_given (room_short n m) i =
      past_names (or_else (room_fault p room) (weight_fault p)) i.fit i.names
      ∙ ap (λ (b : Bool). or_else (cond b (Some short) None) (weight_fault p)) (lt-ltb room need i.more)
      ∙ λ j. Some (room_short (sym i.need_is j) (sym i.given_is j))
  is_given (too_large w) i =
      past_names (or_else (room_fault p room) (weight_fault p)) i.fit i.names
      ∙ ap (λ (b : Bool). or_else (cond b (Some short) None) (weight_fault p)) (le-ltb room need i.enough)
      ∙ ap (λ (b : Bool). cond b (Some large) None) (lt-ltb greatest_weight (property_weight p) i.more)
      ∙ λ j. Some (too_large (sym i.weight_is j))

pub faults_have_causes : FaultsHaveCauses
faults_have_causes f p room r = (has_cause f p room r, is_given f p room r)
