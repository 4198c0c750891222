-- Calls with other arguments, by what they are for: their values alone are others. A call that breaks no rule has no
-- other form.
use Rattle.std.proofs.Common.{◌≡◌, codes, ℕ, suc, List, [], ◌∷◌, Bool, true, false, refl, sym, ap, ap₂, ◌∙◌, subst}
use Rattle.std.specs.List.{AllZip}
use Rattle.lex_text.specs.Names.{same_text}
use Rattle.rule_tests.specs.Tests.{IsFine}
use Rattle.p4_tree.specs.Tree.{Expr, Arg, one, many}
use Rattle.p4_scopes.specs.Scopes.{Stands, missing, typed, held, cells, act, rows, state, function, algorithm, other, Scope}
use Rattle.p4_scopes.specs.declared.thing.Thing.TheVariants.{Scalar, Header, Struct, Standard, PacketIn, PacketOut}
use Rattle.p4_scopes.specs.declared.thing.Function.TheVariants.{Digest, VerifyChecksum, UpdateChecksum}
use Rattle.p4_statement_rules.specs.Forms.{plain_form, verb_form, form_of}
use Rattle.p4_statement_rules.specs.Calls.{form_tests}
use Rattle.p4_typing_laws.proofs.CallCounts.{text_is, is_function_name}
use Rattle.p4_typing_laws.proofs.CountedNames.{KeepsCore}
use Rattle.rewritten_programs.specs.Values.{is_value}
use Rattle.rewritten_programs.specs.Rewritten.{ArgRewritten, in_one, in_many, no_value, ArgsRewritten, no_args, arg_then}

broken : {A : Type 0} → true ≡ false → A
broken h = absurd (cc)

module _ (E : Expr → Expr → Type 0) where
  -- ---- an argument that is a value, and one that is none

  abbrev pub ArgStands : Arg → Arg → Type 0
  ArgStands (one p e) (one q f) = (p ≡ q) × E e f
  ArgStands (many p es) (many q fs) = (p ≡ q) × AllZip E es fs
  ArgStands _ _ = ⊥

  abbrev pub ArgsStand : List Arg → List Arg → Type 0
  ArgsStand [] [] = Unit {0}
  ArgsStand (a ∷ xs) (b ∷ ys) = ArgStands a b × ArgsStand xs ys
  ArgsStand _ _ = ⊥

  stays : {v : Bool} {a b : Arg} → ArgRewritten E v a b → v ≡ false → b ≡ a
  stays (in_one p r) h = broken h
  stays (in_many p r) h = broken h
  stays (no_value a) h = refl

  stands : {v : Bool} {a b : Arg} → ArgRewritten E v a b → v ≡ true → ArgStands a b
  stands (in_one p r) h = (refl, r)
  stands (in_many p r) h = (refl, r)
  stands (no_value a) h = broken (sym h)

  all_stay : {v : ℕ → Bool} {n : ℕ} {xs ys : List Arg} → ArgsRewritten E v n xs ys → ((m : ℕ) → v m ≡ false) → ys ≡ xs
  all_stay (no_args n) h = refl
  all_stay (arg_then n r q) h = ap₂ (λ (a : Arg) (as' : List Arg). a ∷ as') (stays r (h n)) (all_stay q h)

  all_stand : {v : ℕ → Bool} {n : ℕ} {xs ys : List Arg} → ArgsRewritten E v n xs ys → ((m : ℕ) → v m ≡ true) → ArgsStand xs ys
  all_stand (no_args n) h = tt
  all_stand (arg_then n r q) h = (stands r (h n), all_stand q h)

  -- ---- the first argument, and the others

  record Split (v : ℕ → Bool) (n : ℕ) (a : Arg) (xs ys : List Arg) : Type 0 where
    b : Arg
    zs : List Arg
    is : ys ≡ b ∷ zs
    first : ArgRewritten E (v n) a b
    rest : ArgsRewritten E v (suc n) xs zs

  split : {v : ℕ → Bool} {n : ℕ} {a : Arg} {xs ys : List Arg} → ArgsRewritten E v n (a ∷ xs) ys → Split v n a xs ys
  split (arg_then {b = b} {ys = zs} n r q) = record { b = b; zs = zs; is = refl; first = r; rest = q }

  ended : {v : ℕ → Bool} {n : ℕ} {ys : List Arg} → ArgsRewritten E v n [] ys → ys ≡ []
  ended (no_args n) = refl

  record IsOne (p : ℕ) (e : Expr) (b : Arg) : Type 0 where
    f : Expr
    is : b ≡ one p f
    fits : E e f

  one_is : {v : Bool} {p : ℕ} {e : Expr} {b : Arg} → ArgRewritten E v (one p e) b → v ≡ true → IsOne p e b
  one_is (in_one {f = f} p r) h = record { f = f; is = refl; fits = r }
  one_is (no_value a) h = broken (sym h)

  record IsMany (p : ℕ) (es : List Expr) (b : Arg) : Type 0 where
    fs : List Expr
    is : b ≡ many p fs
    fits : AllZip E es fs

  many_is : {v : Bool} {p : ℕ} {es : List Expr} {b : Arg} → ArgRewritten E v (many p es) b → v ≡ true → IsMany p es b
  many_is (in_many {fs = fs} p r) h = record { fs = fs; is = refl; fits = r }
  many_is (no_value a) h = broken (sym h)

  -- a list of these two
  two : {ys zs : List Arg} {a b c d : Arg} → ys ≡ a ∷ zs → a ≡ c → zs ≡ b ∷ [] → b ≡ d → ys ≡ c ∷ d ∷ []
  two h i j k = h ∙ ap₂ (λ (x : Arg) (xs : List Arg). x ∷ xs) i (j ∙ ap (λ (x : Arg). x ∷ []) k)

  -- ---- calls

  -- no argument of such a call is a value
  abbrev pub HasNoValue : List (List ℕ) → Type 0
  HasNoValue [] = Unit {0}
  HasNoValue (x ∷ []) = x ≡ codes "mark_to_drop"
  HasNoValue (x ∷ verb ∷ []) = (same_text verb (codes "read") ≡ false) × (same_text verb (codes "write") ≡ false)
  HasNoValue (x ∷ y ∷ z ∷ rest) = Unit {0}

  -- what is called, by its path, and other values in the place of those that were there
  pub data CallStands : List (List ℕ) → List Arg → List Arg → Type 0 where
    kept : {x : List (List ℕ)} {xs : List Arg} → HasNoValue x → CallStands x xs xs
    in_action : (x : List ℕ) {xs ys : List Arg} → is_function_name x ≡ false → ArgsStand xs ys → CallStands (x ∷ []) xs ys
    in_digest : (n : Arg) (p : ℕ) {es fs : List Expr} → AllZip E es fs → CallStands (codes "digest" ∷ []) (n ∷ many p es ∷ []) (n ∷ many p fs ∷ [])
    in_verify : (p q : ℕ) (n h : Arg) {c d : Expr} {es fs : List Expr} → E c d → AllZip E es fs → CallStands (codes "verify_checksum" ∷ []) (one p c ∷ many q es ∷ n ∷ h ∷ []) (one p d ∷ many q fs ∷ n ∷ h ∷ [])
    in_update : (p q : ℕ) (n h : Arg) {c d : Expr} {es fs : List Expr} → E c d → AllZip E es fs → CallStands (codes "update_checksum" ∷ []) (one p c ∷ many q es ∷ n ∷ h ∷ []) (one p d ∷ many q fs ∷ n ∷ h ∷ [])
    in_read : (x : List ℕ) (t : Arg) (p : ℕ) {i j : Expr} → E i j → CallStands (x ∷ codes "read" ∷ []) (t ∷ one p i ∷ []) (t ∷ one p j ∷ [])
    in_write : (x : List ℕ) (p q : ℕ) {i j v u : Expr} → E i j → E v u → CallStands (x ∷ codes "write" ∷ []) (one p i ∷ one q v ∷ []) (one p j ∷ one q u ∷ [])

  kept_if : (x : List (List ℕ)) (xs ys : List Arg) → HasNoValue x → ys ≡ xs → CallStands x xs ys
  kept_if x xs ys h e = subst (CallStands x xs) (sym e) (kept h)

  -- a receiver, and a list of values
  digest_stands : (n : Arg) (q : ℕ) (es : List Expr) (ys : List Arg) → ArgsRewritten E (is_value (codes "digest" ∷ [])) 0 (n ∷ many q es ∷ []) ys → CallStands (codes "digest" ∷ []) (n ∷ many q es ∷ []) ys
  digest_stands n q es ys r =
      let s = split r in
      let t = split s.rest in
      let m = many_is t.first refl in
      subst (CallStands (codes "digest" ∷ []) (n ∷ many q es ∷ [])) (sym (two s.is (stays s.first refl) (t.is ∙ ap (λ (xs : List Arg). t.b ∷ xs) (ended t.rest)) m.is)) (in_digest n q m.fits)

  digest_fine : (p : ℕ) (s : Scope) (xs ys : List Arg) → ArgsRewritten E (is_value (codes "digest" ∷ [])) 0 xs ys → IsFine (form_tests p s (plain_form (function Digest)) xs) → CallStands (codes "digest" ∷ []) xs ys
  digest_fine p s [] ys r f = broken f
  digest_fine p s (a ∷ []) ys r f = broken f
  digest_fine p s (a ∷ one q e ∷ []) ys r f = broken f.1
  digest_fine p s (a ∷ many q es ∷ []) ys r f = digest_stands a q es ys r
  digest_fine p s (a ∷ b ∷ c ∷ xs) ys r f = broken f

  -- a condition, a list of values, a field and an algorithm
  record Summed (o q : ℕ) (c : Expr) (es : List Expr) (n h : Arg) (ys : List Arg) : Type 0 where
    d : Expr
    fs : List Expr
    is : ys ≡ one o d ∷ many q fs ∷ n ∷ h ∷ []
    condition : E c d
    values : AllZip E es fs

  summed : (v : ℕ → Bool) → v 0 ≡ true → v 1 ≡ true → v 2 ≡ false → v 3 ≡ false → (o q : ℕ) (c : Expr) (es : List Expr) (n h : Arg) (ys : List Arg) → ArgsRewritten E v 0 (one o c ∷ many q es ∷ n ∷ h ∷ []) ys → Summed o q c es n h ys
  summed v v0 v1 v2 v3 o q c es n h ys r =
      let s = split r in
      let t = split s.rest in
      let u = split t.rest in
      let w = split u.rest in
      let a = one_is s.first v0 in
      let m = many_is t.first v1 in
      let last : u.zs ≡ h ∷ [] = w.is ∙ ap₂ (λ (x : Arg) (xs : List Arg). x ∷ xs) (stays w.first v3) (ended w.rest) in
      let third : t.zs ≡ n ∷ h ∷ [] = u.is ∙ ap₂ (λ (x : Arg) (xs : List Arg). x ∷ xs) (stays u.first v2) last in
      let second : s.zs ≡ many q m.fs ∷ n ∷ h ∷ [] = t.is ∙ ap₂ (λ (x : Arg) (xs : List Arg). x ∷ xs) m.is third in
      record { d = a.f; fs = m.fs; is = s.is ∙ ap₂ (λ (x : Arg) (xs : List Arg). x ∷ xs) a.is second; condition = a.fits; values = m.fits }

  verify_fine : (p : ℕ) (s : Scope) (xs ys : List Arg) → ArgsRewritten E (is_value (codes "verify_checksum" ∷ [])) 0 xs ys → IsFine (form_tests p s (plain_form (function VerifyChecksum)) xs) → CallStands (codes "verify_checksum" ∷ []) xs ys
  verify_fine p s [] ys r f = broken f
  verify_fine p s (a ∷ []) ys r f = broken f
  verify_fine p s (a ∷ b ∷ []) ys r f = broken f
  verify_fine p s (a ∷ b ∷ n ∷ []) ys r f = broken f
  verify_fine p s (one o c ∷ many q es ∷ n ∷ h ∷ []) ys r f =
      let u = summed (is_value (codes "verify_checksum" ∷ [])) refl refl refl refl o q c es n h ys r in
      subst (CallStands (codes "verify_checksum" ∷ []) (one o c ∷ many q es ∷ n ∷ h ∷ [])) (sym u.is) (in_verify o q n h u.condition u.values)
  verify_fine p s (many o cs ∷ b ∷ n ∷ h ∷ []) ys r f = broken f.0
  verify_fine p s (one o c ∷ one q e ∷ n ∷ h ∷ []) ys r f = broken f.1.0
  verify_fine p s (a ∷ b ∷ n ∷ h ∷ x ∷ xs) ys r f = broken f

  update_fine : (p : ℕ) (s : Scope) (xs ys : List Arg) → ArgsRewritten E (is_value (codes "update_checksum" ∷ [])) 0 xs ys → IsFine (form_tests p s (plain_form (function UpdateChecksum)) xs) → CallStands (codes "update_checksum" ∷ []) xs ys
  update_fine p s [] ys r f = broken f
  update_fine p s (a ∷ []) ys r f = broken f
  update_fine p s (a ∷ b ∷ []) ys r f = broken f
  update_fine p s (a ∷ b ∷ n ∷ []) ys r f = broken f
  update_fine p s (one o c ∷ many q es ∷ n ∷ h ∷ []) ys r f =
      let u = summed (is_value (codes "update_checksum" ∷ [])) refl refl refl refl o q c es n h ys r in
      subst (CallStands (codes "update_checksum" ∷ []) (one o c ∷ many q es ∷ n ∷ h ∷ [])) (sym u.is) (in_update o q n h u.condition u.values)
  update_fine p s (many o cs ∷ b ∷ n ∷ h ∷ []) ys r f = broken f.0
  update_fine p s (one o c ∷ one q e ∷ n ∷ h ∷ []) ys r f = broken f.1.0
  update_fine p s (a ∷ b ∷ n ∷ h ∷ x ∷ xs) ys r f = broken f

  -- what is read and written is a register
  abbrev pub IsCells : Stands → Type 0
  IsCells (cells k) = Unit {0}
  IsCells _ = ⊥

  pub read_cells : (p : ℕ) (s : Scope) (xs : List Arg) (st : Stands) → IsFine (form_tests p s (verb_form st (codes "read")) xs) → IsCells st
  read_cells p s xs missing f = broken f
  read_cells p s xs (typed g u) f = broken f
  read_cells p s xs (held a (Scalar k)) f = broken f
  read_cells p s xs (held a (Header n)) f = broken f
  read_cells p s xs (held a Struct) f = broken f
  read_cells p s xs (held a Standard) f = broken f
  read_cells p s xs (held a PacketIn) f = broken f
  read_cells p s xs (held a PacketOut) f = broken f
  read_cells p s xs (cells k) f = tt
  read_cells p s xs (act ks m) f = broken f
  read_cells p s xs (rows m) f = broken f
  read_cells p s xs state f = broken f
  read_cells p s xs (function g) f = broken f
  read_cells p s xs algorithm f = broken f
  read_cells p s xs other f = broken f

  pub written_cells : (p : ℕ) (s : Scope) (xs : List Arg) (st : Stands) → IsFine (form_tests p s (verb_form st (codes "write")) xs) → IsCells st
  written_cells p s xs missing f = broken f
  written_cells p s xs (typed g u) f = broken f
  written_cells p s xs (held a (Scalar k)) f = broken f
  written_cells p s xs (held a (Header n)) f = broken f
  written_cells p s xs (held a Struct) f = broken f
  written_cells p s xs (held a Standard) f = broken f
  written_cells p s xs (held a PacketIn) f = broken f
  written_cells p s xs (held a PacketOut) f = broken f
  written_cells p s xs (cells k) f = tt
  written_cells p s xs (act ks m) f = broken f
  written_cells p s xs (rows m) f = broken f
  written_cells p s xs state f = broken f
  written_cells p s xs (function g) f = broken f
  written_cells p s xs algorithm f = broken f
  written_cells p s xs other f = broken f

  read_stands : (x : List ℕ) (t : Arg) (q : ℕ) (i : Expr) (ys : List Arg) → ArgsRewritten E (is_value (x ∷ codes "read" ∷ [])) 0 (t ∷ one q i ∷ []) ys → CallStands (x ∷ codes "read" ∷ []) (t ∷ one q i ∷ []) ys
  read_stands x t q i ys r =
      let s = split r in
      let u = split s.rest in
      let j = one_is u.first refl in
      subst (CallStands (x ∷ codes "read" ∷ []) (t ∷ one q i ∷ [])) (sym (two s.is (stays s.first refl) (u.is ∙ ap (λ (xs : List Arg). u.b ∷ xs) (ended u.rest)) j.is)) (in_read x t q j.fits)

  read_fine : (p : ℕ) (s : Scope) (x : List ℕ) (xs ys : List Arg) → ArgsRewritten E (is_value (x ∷ codes "read" ∷ [])) 0 xs ys → (st : Stands) → IsCells st → IsFine (form_tests p s (verb_form st (codes "read")) xs) → CallStands (x ∷ codes "read" ∷ []) xs ys
  read_fine p s x [] ys r (cells k) c f = broken f
  read_fine p s x (t ∷ []) ys r (cells k) c f = broken f
  read_fine p s x (t ∷ one q i ∷ []) ys r (cells k) c f = read_stands x t q i ys r
  read_fine p s x (t ∷ many q es ∷ []) ys r (cells k) c f = broken f.1
  read_fine p s x (t ∷ a ∷ b ∷ xs) ys r (cells k) c f = broken f
  read_fine p s x xs ys r _ c f = absurd c

  write_stands : (x : List ℕ) (o q : ℕ) (i v : Expr) (ys : List Arg) → ArgsRewritten E (is_value (x ∷ codes "write" ∷ [])) 0 (one o i ∷ one q v ∷ []) ys → CallStands (x ∷ codes "write" ∷ []) (one o i ∷ one q v ∷ []) ys
  write_stands x o q i v ys r =
      let s = split r in
      let u = split s.rest in
      let j = one_is s.first refl in
      let w = one_is u.first refl in
      subst (CallStands (x ∷ codes "write" ∷ []) (one o i ∷ one q v ∷ [])) (sym (two s.is j.is (u.is ∙ ap (λ (xs : List Arg). u.b ∷ xs) (ended u.rest)) w.is)) (in_write x o q j.fits w.fits)

  write_fine : (p : ℕ) (s : Scope) (x : List ℕ) (xs ys : List Arg) → ArgsRewritten E (is_value (x ∷ codes "write" ∷ [])) 0 xs ys → (st : Stands) → IsCells st → IsFine (form_tests p s (verb_form st (codes "write")) xs) → CallStands (x ∷ codes "write" ∷ []) xs ys
  write_fine p s x [] ys r (cells k) c f = broken f
  write_fine p s x (t ∷ []) ys r (cells k) c f = broken f
  write_fine p s x (one o i ∷ one q v ∷ []) ys r (cells k) c f = write_stands x o q i v ys r
  write_fine p s x (many o es ∷ b ∷ []) ys r (cells k) c f = broken f.0
  write_fine p s x (one o i ∷ many q es ∷ []) ys r (cells k) c f = broken f.1
  write_fine p s x (t ∷ a ∷ b ∷ xs) ys r (cells k) c f = broken f
  write_fine p s x xs ys r _ c f = absurd c

  -- ---- by the path that is called

  module _ (p : ℕ) (s : Scope) (core : KeepsCore s) (xs ys : List Arg) where
    -- what is known of the call of a path
    abbrev Known : List (List ℕ) → Type 0
    Known x = ArgsRewritten E (is_value x) 0 xs ys → IsFine (form_tests p s (form_of s x) xs) → CallStands x xs ys

    -- a name of the architecture's own stands for what it stood for at first
    drop_known : Known (codes "mark_to_drop" ∷ [])
    drop_known r f = kept_if _ xs ys refl (all_stay r (λ m. refl))

    digest_known : Known (codes "digest" ∷ [])
    digest_known r f = digest_fine p s xs ys r (subst (λ (st : Stands). IsFine (form_tests p s (plain_form st) xs)) (core.kept (codes "digest") refl) f)

    verify_known : Known (codes "verify_checksum" ∷ [])
    verify_known r f = verify_fine p s xs ys r (subst (λ (st : Stands). IsFine (form_tests p s (plain_form st) xs)) (core.kept (codes "verify_checksum") refl) f)

    update_known : Known (codes "update_checksum" ∷ [])
    update_known r f = update_fine p s xs ys r (subst (λ (st : Stands). IsFine (form_tests p s (plain_form st) xs)) (core.kept (codes "update_checksum") refl) f)

    named : (x : List ℕ) (a b c d : Bool) → same_text x (codes "mark_to_drop") ≡ a → same_text x (codes "digest") ≡ b → same_text x (codes "verify_checksum") ≡ c → same_text x (codes "update_checksum") ≡ d → Known (x ∷ [])
    named x true b c d i j k l = subst (λ (y : List ℕ). Known (y ∷ [])) (sym (text_is x (codes "mark_to_drop") i)) drop_known
    named x false true c d i j k l = subst (λ (y : List ℕ). Known (y ∷ [])) (sym (text_is x (codes "digest") j)) digest_known
    named x false false true d i j k l = subst (λ (y : List ℕ). Known (y ∷ [])) (sym (text_is x (codes "verify_checksum") k)) verify_known
    named x false false false true i j k l = subst (λ (y : List ℕ). Known (y ∷ [])) (sym (text_is x (codes "update_checksum") l)) update_known
    named x false false false false i j k l = λ r f. (let no : is_function_name x ≡ false = cc in in_action x no (all_stand r (λ m. cc)))

    on_name : (x verb : List ℕ) (a b : Bool) → same_text verb (codes "read") ≡ a → same_text verb (codes "write") ≡ b → Known (x ∷ verb ∷ [])
    on_name x verb true b i j = subst (λ (v : List ℕ). Known (x ∷ v ∷ [])) (sym (text_is verb (codes "read") i)) (λ r f. read_fine p s x xs ys r (s (x ∷ [])) (read_cells p s xs (s (x ∷ [])) f) f)
    on_name x verb false true i j = subst (λ (v : List ℕ). Known (x ∷ v ∷ [])) (sym (text_is verb (codes "write") j)) (λ r f. write_fine p s x xs ys r (s (x ∷ [])) (written_cells p s xs (s (x ∷ [])) f) f)
    on_name x verb false false i j = λ r f. kept_if (x ∷ verb ∷ []) xs ys (i, j) (all_stay r (λ m. cc))

    pub call_stands : (x : List (List ℕ)) → Known x
    call_stands [] = λ r f. kept_if [] xs ys tt (all_stay r (λ m. refl))
    call_stands (x ∷ []) = named x (same_text x (codes "mark_to_drop")) (same_text x (codes "digest")) (same_text x (codes "verify_checksum")) (same_text x (codes "update_checksum")) refl refl refl refl
    call_stands (x ∷ verb ∷ []) = on_name x verb (same_text verb (codes "read")) (same_text verb (codes "write")) refl refl
    call_stands (x ∷ y ∷ z ∷ rest) = λ r f. kept_if (x ∷ y ∷ z ∷ rest) xs ys tt (all_stay r (λ m. refl))
