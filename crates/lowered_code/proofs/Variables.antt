-- The variables of reads have names of their own, of which each is that of what is found or that of a part of a key.
use Rattle.std.proofs.Common.{◌≡◌, ◌⊎◌, inl, inr, ℕ, suc, ◌+◌, ◌≤◌, ◌<◌, ◌^◌, List, [], ◌∷◌, ◌++◌, length, false, Option, Some, None, refl, ap₂, ◌∙◌, arith}
use Rattle.std.specs.List.{AllByRecursion}
use Rattle.lex_text.specs.Names.{same_text}
use Rattle.indus_tree.specs.Tree.{Decl}
use Rattle.indus_tree.specs.State.{lookup}
use Rattle.indus_tree.specs.declared.tree.Ty.{Ty}
use Rattle.monitor_laws.specs.Telemetry.{AreApart}
use Rattle.monitor_laws.specs.Monitor.{fields_of}
use Rattle.lookup_names.specs.Names.{found_name, key_name}
use Rattle.lowered_code.specs.Statements.{Var, key_vars, kept_types, read_vars, vars_in}
use Rattle.lowered_code.proofs.Numbers.{found_apart, parts_apart, keys_apart}
use Rattle.lowered_code.proofs.Rising.{AreRising, rising_up, IsDeclared, AreReads}

-- ---- what holds of the names of what is found and of parts of keys holds of all

module _ (P : List ℕ → Type 0) (found : (n : ℕ) → P (found_name n)) (key : (n i : ℕ) → P (key_name n i)) where
  both_each : (xs ys : List Var) → AllByRecursion (λ l. P l.1) xs → AllByRecursion (λ l. P l.1) ys → AllByRecursion (λ l. P l.1) (xs ++ ys)
  both_each [] ys h k = k
  both_each (x ∷ xs) ys h k = (h.0, both_each xs ys h.1 k)

  keys_each : (n i : ℕ) (ts : List Ty) → AllByRecursion (λ l. P l.1) (key_vars n i ts)
  keys_each n i [] = tt
  keys_each n i (t ∷ ts) = (key n i, keys_each n (suc i) ts)

  read_each : (n : ℕ) (o : Option Decl) → AllByRecursion (λ l. P l.1) (read_vars n o)
  read_each n None = tt
  read_each n (Some d) = (found n, keys_each n 0 (kept_types d.kind d.shape))

  pub each_name : (ds : List Decl) (rs : List (ℕ × Option Decl)) → AllByRecursion (λ l. P l.1) (vars_in rs)
  each_name ds [] = tt
  each_name ds (r ∷ rs) = both_each (read_vars r.0 r.1) (vars_in rs) (read_each r.0 r.1) (each_name ds rs)

-- ---- names of a range of numbers

abbrev IsOf : (a b : ℕ) → List ℕ → Type 0
IsOf a b x = (m : ℕ) × (a ≤ m) × (m < b) × ((x ≡ found_name m) ⊎ ((i : ℕ) × (x ≡ key_name m i)))

abbrev AreOf : (a b : ℕ) → List Var → Type 0
AreOf a b = AllByRecursion (λ l. IsOf a b l.1)

abbrev Past : List ℕ → List Var → Type 0
Past x vs = AllByRecursion (λ g. same_text x g.name ≡ false) (fields_of vs)

keys_of_number : (n i : ℕ) (ts : List Ty) → AreOf n (suc n) (key_vars n i ts)
keys_of_number n i [] = tt
keys_of_number n i (t ∷ ts) = ((n, omega arith, omega arith, inr (i, refl)), keys_of_number n (suc i) ts)

read_of_number : (n : ℕ) (o : Option Decl) → AreOf n (suc n) (read_vars n o)
read_of_number n None = tt
read_of_number n (Some d) = ((n, omega arith, omega arith, inl refl), keys_of_number n 0 (kept_types d.kind d.shape))

both_of : (a b c : ℕ) (xs ys : List Var) → a ≤ b → AreOf a b xs → AreOf b c ys → b ≤ c → AreOf a c (xs ++ ys)
both_of a b c [] [] ab h k bc = tt
both_of a b c [] (y ∷ ys) ab h k bc = ((k.0.0, (let le = k.0.1 in omega (arith, le, ab)), k.0.2, k.0.3), both_of a b c [] ys ab h k.1 bc)
both_of a b c (x ∷ xs) ys ab h k bc = ((h.0.0, h.0.1, (let lt = h.0.2 in omega (arith, lt, bc)), h.0.3), both_of a b c xs ys ab h.1 k bc)

lower_of : (a b c : ℕ) (xs : List Var) → a ≤ b → AreOf b c xs → AreOf a c xs
lower_of a b c [] le h = tt
lower_of a b c (x ∷ xs) le h = ((h.0.0, (let k = h.0.1 in omega (arith, k, le)), h.0.2, h.0.3), lower_of a b c xs le h.1)

reads_of_numbers : (ds : List Decl) (a b : ℕ) (rs : List (ℕ × Option Decl)) → AreRising a b rs → AreOf a b (vars_in rs)
reads_of_numbers ds a b [] h = tt
reads_of_numbers ds a b (r ∷ rs) h =
    lower_of a r.0 b (vars_in (r ∷ rs)) h.0
    (both_of r.0 (suc r.0) b (read_vars r.0 r.1) (vars_in rs) (omega arith) (read_of_number r.0 r.1) (reads_of_numbers ds (suc r.0) b rs h.1) (rising_up (suc r.0) b rs h.1))

-- ---- names are apart

one_apart : (a b c : ℕ) (x y : List ℕ) → c ≤ 2 ^ 64 → IsOf a b x → IsOf b c y → same_text x y ≡ false
one_apart a b c x y few h k = go h.3 k.3
  where
    differ : h.0 ≡ k.0 → ⊥
    differ e = (let lt = h.2 in let le = k.1 in omega (arith, lt, le, e))

    first_low : h.0 < 2 ^ 64
    first_low = (let lt = h.2 in let le = k.1 in let up = k.2 in omega (arith, lt, le, up, few))

    second_low : k.0 < 2 ^ 64
    second_low = (let up = k.2 in omega (arith, up, few))

    go : ((x ≡ found_name h.0) ⊎ ((i : ℕ) × (x ≡ key_name h.0 i))) → ((y ≡ found_name k.0) ⊎ ((i : ℕ) × (y ≡ key_name k.0 i))) → same_text x y ≡ false
    go (inl e) (inl f) = ap₂ same_text e f ∙ found_apart h.0 k.0 first_low second_low differ
    go (inl e) (inr f) = ap₂ same_text e f.1
    go (inr e) (inl f) = ap₂ same_text e.1 f
    go (inr e) (inr f) = ap₂ same_text e.1 f.1 ∙ keys_apart h.0 k.0 e.0 f.0 first_low second_low differ

past_all : (a b c : ℕ) (x : List ℕ) (ys : List Var) → c ≤ 2 ^ 64 → IsOf a b x → AreOf b c ys → Past x ys
past_all a b c x [] few h k = tt
past_all a b c x (y ∷ ys) few h k = (one_apart a b c x y.1 few h k.0, past_all a b c x ys few h k.1)

past_both : (x : List ℕ) (xs ys : List Var) → Past x xs → Past x ys → Past x (xs ++ ys)
past_both x [] ys h k = k
past_both x (y ∷ xs) ys h k = (h.0, past_both x xs ys h.1 k)

both_apart : (a b c : ℕ) (xs ys : List Var) → c ≤ 2 ^ 64 → AreOf a b xs → AreOf b c ys → AreApart (fields_of xs) → AreApart (fields_of ys) → AreApart (fields_of (xs ++ ys))
both_apart a b c [] ys few h k i j = j
both_apart a b c (x ∷ xs) ys few h k i j = (past_both x.1 xs ys i.0 (past_all a b c x.1 ys few h.0 k), both_apart a b c xs ys few h.1 k i.1 j)

-- ---- one read

found_past : (n m i : ℕ) (ts : List Ty) → Past (found_name n) (key_vars m i ts)
found_past n m i [] = tt
found_past n m i (t ∷ ts) = (refl, found_past n m (suc i) ts)

part_past : (n i j : ℕ) (ts : List Ty) → i < j → j + length ts ≤ 2 ^ 64 → Past (key_name n i) (key_vars n j ts)
part_past n i j [] lt few = tt
part_past n i j (t ∷ ts) lt few = (parts_apart n i j (omega (arith, lt, few)) (omega (arith, few)) (λ e. omega (arith, lt, e)), part_past n i (suc j) ts (omega (arith, lt)) (omega (arith, few)))

key_apart : (n i : ℕ) (ts : List Ty) → i + length ts ≤ 2 ^ 64 → AreApart (fields_of (key_vars n i ts))
key_apart n i [] few = tt
key_apart n i (t ∷ ts) few = (part_past n i (suc i) ts (omega arith) (omega (arith, few)), key_apart n (suc i) ts (omega (arith, few)))

-- ---- reads whose numbers rise, of keys with few parts

module _ (ds : List Decl) (few_parts : (x : List ℕ) (d : Decl) → lookup ds x ≡ Some d → length (kept_types d.kind d.shape) ≤ 2 ^ 64) where
  read_apart : (n : ℕ) (o : Option Decl) → IsDeclared ds o → AreApart (fields_of (read_vars n o))
  read_apart n None is = tt
  read_apart n (Some d) is = (found_past n n 0 (kept_types d.kind d.shape), key_apart n 0 (kept_types d.kind d.shape) (let few = few_parts d.name d is in omega (arith, few)))

  pub vars_apart : (a b : ℕ) (rs : List (ℕ × Option Decl)) → b ≤ 2 ^ 64 → AreReads ds a b rs → AreApart (fields_of (vars_in rs))
  vars_apart a b [] few h = tt
  vars_apart a b (r ∷ rs) few h =
      let rising = h.rising.1 in
      both_apart r.0 (suc r.0) b (read_vars r.0 r.1) (vars_in rs) few (read_of_number r.0 r.1) (reads_of_numbers ds (suc r.0) b rs rising) (read_apart r.0 r.1 h.declared.0)
      (vars_apart (suc r.0) b rs few (record { rising = rising; declared = h.declared.1 }))
