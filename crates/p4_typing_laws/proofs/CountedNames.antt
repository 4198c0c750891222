-- What the names in sight count, along the declarations of a program: an action what its body counts, a table the most
-- that its actions and its default count.
use Rattle.std.proofs.Common.{◌≡◌, ◌⊎◌, inl, inr, ℕ, List, [], ◌∷◌, Bool, true, false, cond, ◌&&◌, ◌||◌, codes, refl, sym, ap, ◌∙◌, subst}
use Rattle.lex_text.specs.Names.{same_text}
use Rattle.p4_tree.specs.declared.statement.PTy.{PTy}
use Rattle.p4_tree.specs.declared.statement.PTy.TheVariants as type
use Rattle.p4_scopes.specs.Scopes.{Stands, missing, typed, held, cells, act, rows, state, function, algorithm, other, is_missing, as_held, as_typed, scalar_at, type_at, field_at, Scope, What, alias, fields, value, register, action, table, parser_state, part, behind, declare, standard_at, core_name, core}
use Rattle.p4_scopes.specs.declared.kind.Kind.{Kind}
use Rattle.p4_scopes.specs.declared.kind.Kind.TheVariants.{Number, Truth}
use Rattle.p4_scopes.specs.declared.thing.Thing.{Thing}
use Rattle.p4_scopes.specs.declared.thing.Access.{Access}
use Rattle.p4_scopes.specs.declared.thing.Function.{Function}
use Rattle.p4_scopes.specs.declared.thing.Function.TheVariants.{MarkToDrop, Digest, VerifyChecksum, UpdateChecksum}
use Rattle.p4_typing_laws.proofs.CallCounts.{text_is, text_same, function_name, IsQuiet}
use Rattle.p4_typing_laws.proofs.FullNames.{other_text}

broken : {A : Type 0} → true ≡ false → A
broken h = absurd (cc)

-- ---- one declaration more

-- what stands at a name behind a declaration is what was declared, or what stood there
abbrev DeclaredAt : Scope → List ℕ → What → List ℕ → Stands → Type 0
DeclaredAt s n w x st = ((n ≡ x) × (behind s w [] ≡ st)) ⊎ (s (x ∷ []) ≡ st)

declared_at : (s : Scope) (n : List ℕ) (w : What) (x : List ℕ) (st : Stands) → declare s n w (x ∷ []) ≡ st → DeclaredAt s n w x st
unfolding declare
declared_at s n w x st e = go (same_text n x) refl e
  where
    go : (b : Bool) → same_text n x ≡ b → cond b (behind s w []) (s (x ∷ [])) ≡ st → DeclaredAt s n w x st
    go true h k = inl (text_is n x h, k)
    go false h k = inr k

-- another name stands for what it stood for
pub other_kept : (s : Scope) (n : List ℕ) (w : What) (x : List ℕ) → (n ≡ x → ⊥) → declare s n w (x ∷ []) ≡ s (x ∷ [])
unfolding declare
other_kept s n w x h = ap (λ (b : Bool). cond b (behind s w []) (s (x ∷ []))) (other_text n x h)

pub self_stands : (s : Scope) (n : List ℕ) (w : What) → declare s n w (n ∷ []) ≡ behind s w []
unfolding declare
self_stands s n w = ap (λ (b : Bool). cond b (behind s w []) (s (n ∷ []))) (text_same n n refl)

-- a name that stands for nothing behind a declaration is not the declared one, and stood for nothing before
pub record WasMissing (s : Scope) (n x : List ℕ) : Type 0 where
  pub apart : n ≡ x → ⊥
  pub before : is_missing (s (x ∷ [])) ≡ true

pub was_missing : (s : Scope) (n : List ℕ) (w : What) → is_missing (behind s w []) ≡ false → (x : List ℕ) → is_missing (declare s n w (x ∷ [])) ≡ true → WasMissing s n x
unfolding declare
was_missing s n w some x h = go (same_text n x) refl h
  where
    go : (b : Bool) → same_text n x ≡ b → is_missing (cond b (behind s w []) (s (x ∷ []))) ≡ true → WasMissing s n x
    go true e k = (let c : true ≡ false = sym k ∙ some in absurd (cc))
    go false e k = record { apart = λ q. (let c : true ≡ false = sym (text_same n x q) ∙ e in cc); before = k }

-- ---- names of the architecture's own

-- they stand for what they stood for at first
pub record KeepsCore (s : Scope) : Type 0 where
  pub kept : (x : List ℕ) → is_missing (core_name x) ≡ false → s (x ∷ []) ≡ core_name x

pub core_keeps : KeepsCore core
unfolding core
core_keeps = record { kept = λ x h. refl }

pub declare_keeps : (s : Scope) → KeepsCore s → (n : List ℕ) (w : What) → is_missing (s (n ∷ [])) ≡ true → KeepsCore (declare s n w)
declare_keeps s k n w new = record { kept = λ x h. other_kept s n w x (λ e. (let there : s (n ∷ []) ≡ core_name x = ap (λ (y : List ℕ). s (y ∷ [])) e ∙ k.kept x h in let c : true ≡ false = sym new ∙ ap is_missing there ∙ h in cc)) ∙ k.kept x h }

-- ---- what is called at top level

-- where values, types and fields stand, and behind each declared name, nothing is called
typed_quiet : (st : Stands) → IsQuiet (as_typed st)
typed_quiet missing = tt
typed_quiet (typed f t) = tt
typed_quiet (held a t) = tt
typed_quiet (cells k) = tt
typed_quiet (act ks m) = tt
typed_quiet (rows m) = tt
typed_quiet state = tt
typed_quiet (function f) = tt
typed_quiet algorithm = tt
typed_quiet other = tt

held_quiet : (a : Access) (st : Stands) → IsQuiet (as_held a st)
held_quiet a missing = tt
held_quiet a (typed f t) = tt
held_quiet a (held b t) = tt
held_quiet a (cells k) = tt
held_quiet a (act ks m) = tt
held_quiet a (rows m) = tt
held_quiet a state = tt
held_quiet a (function f) = tt
held_quiet a algorithm = tt
held_quiet a other = tt

scalar_quiet : (k : Kind) (xs : List (List ℕ)) → IsQuiet (scalar_at k xs)
scalar_quiet k [] = tt
scalar_quiet k (x ∷ xs) = tt

type_quiet : (s : Scope) (ty : PTy) (xs : List (List ℕ)) → IsQuiet (type_at s ty xs)
type_quiet s (type.Bit w) xs = scalar_quiet (Number w) xs
type_quiet s type.Bool xs = scalar_quiet Truth xs
type_quiet s (type.Named t) xs = typed_quiet (s (t ∷ xs))

if_quiet : (b : Bool) (u v : Stands) → IsQuiet u → IsQuiet v → IsQuiet (cond b u v)
if_quiet true u v h k = h
if_quiet false u v h k = k

field_quiet : (s : Scope) (fs : List (PTy × List ℕ)) (x : List ℕ) (xs : List (List ℕ)) → IsQuiet (field_at s fs x xs)
field_quiet s [] x xs = tt
field_quiet s (f ∷ fs) x xs = if_quiet (same_text f.1 x) _ _ (type_quiet s f.0 xs) (field_quiet s fs x xs)

behind_quiet : (s : Scope) (w : What) (x : List ℕ) (xs : List (List ℕ)) → IsQuiet (behind s w (x ∷ xs))
behind_quiet s (alias t) x xs = tt
behind_quiet s (fields h fs) x xs = field_quiet s fs x xs
behind_quiet s (value a t) x xs = held_quiet a (type_at s t (x ∷ xs))
behind_quiet s (register t) x xs = tt
behind_quiet s (action ps m) x xs = tt
behind_quiet s (table m) x xs = tt
behind_quiet s parser_state x xs = tt
behind_quiet s part x xs = tt

-- the action that does nothing
abbrev pub IsNoAction : List ℕ → ℕ → Type 0
IsNoAction x m = (x ≡ codes "NoAction") × (m ≡ 0)

-- L, T: what is known of the other actions and of the tables in sight. Nothing is called by more names than one
pub record Calls (L T : List ℕ → ℕ → Type 0) (s : Scope) : Type 0 where
  pub functions : (x : List ℕ) (f : Function) → s (x ∷ []) ≡ function f → x ≡ function_name f
  pub actions : (x : List ℕ) (ks : List Kind) (m : ℕ) → s (x ∷ []) ≡ act ks m → IsNoAction x m ⊎ L x m
  pub tables : (x : List ℕ) (m : ℕ) → s (x ∷ []) ≡ rows m → T x m
  pub inner : (x y : List ℕ) (rest : List (List ℕ)) → IsQuiet (s (x ∷ y ∷ rest))

inner_quiet : (s : Scope) (n : List ℕ) (w : What) → ((x y : List ℕ) (rest : List (List ℕ)) → IsQuiet (s (x ∷ y ∷ rest))) → (x y : List ℕ) (rest : List (List ℕ)) → IsQuiet (declare s n w (x ∷ y ∷ rest))
unfolding declare
inner_quiet s n w h x y rest = if_quiet (same_text n x) _ _ (behind_quiet s w y rest) (h x y rest)

pub quiet_calls : (L T : List ℕ → ℕ → Type 0) (s : Scope) → Calls L T s → (n : List ℕ) (w : What) → IsQuiet (behind s w []) → Calls L T (declare s n w)
quiet_calls L T s c n w q =
    record {
      functions = λ x f e. functions x f (declared_at s n w x (function f) e);
      actions = λ x ks m e. actions x ks m (declared_at s n w x (act ks m) e);
      tables = λ x m e. tables x m (declared_at s n w x (rows m) e);
      inner = inner_quiet s n w c.inner;
    }
  where
    functions : (x : List ℕ) (f : Function) → DeclaredAt s n w x (function f) → x ≡ function_name f
    functions x f (inl e) = absurd (subst IsQuiet e.1 q)
    functions x f (inr e) = c.functions x f e

    actions : (x : List ℕ) (ks : List Kind) (m : ℕ) → DeclaredAt s n w x (act ks m) → IsNoAction x m ⊎ L x m
    actions x ks m (inl e) = absurd (subst IsQuiet e.1 q)
    actions x ks m (inr e) = c.actions x ks m e

    tables : (x : List ℕ) (m : ℕ) → DeclaredAt s n w x (rows m) → T x m
    tables x m (inl e) = absurd (subst IsQuiet e.1 q)
    tables x m (inr e) = c.tables x m e

pub action_calls : (L T : List ℕ → ℕ → Type 0) (s : Scope) → Calls L T s → (n : List ℕ) (ps : List (PTy × List ℕ)) (m : ℕ) → L n m → Calls L T (declare s n (action ps m))
action_calls L T s c n ps m h =
    record {
      functions = λ x f e. functions x f (declared_at s n (action ps m) x (function f) e);
      actions = λ x ks k e. actions x ks k (declared_at s n (action ps m) x (act ks k) e);
      tables = λ x k e. tables x k (declared_at s n (action ps m) x (rows k) e);
      inner = inner_quiet s n (action ps m) c.inner;
    }
  where
    functions : (x : List ℕ) (f : Function) → DeclaredAt s n (action ps m) x (function f) → x ≡ function_name f
    functions x f (inl e) = (let d = e.1 in absurd (cc))
    functions x f (inr e) = c.functions x f e

    actions : (x : List ℕ) (ks : List Kind) (k : ℕ) → DeclaredAt s n (action ps m) x (act ks k) → IsNoAction x k ⊎ L x k
    actions x ks k (inl e) = (let d = e.1 in let same : m ≡ k = cc in inr (subst (λ (y : List ℕ). L y k) e.0 (subst (λ (j : ℕ). L n j) same h)))
    actions x ks k (inr e) = c.actions x ks k e

    tables : (x : List ℕ) (k : ℕ) → DeclaredAt s n (action ps m) x (rows k) → T x k
    tables x k (inl e) = (let d = e.1 in absurd (cc))
    tables x k (inr e) = c.tables x k e

pub table_calls : (L T : List ℕ → ℕ → Type 0) (s : Scope) → Calls L T s → (n : List ℕ) (m : ℕ) → T n m → Calls L T (declare s n (table m))
table_calls L T s c n m h =
    record {
      functions = λ x f e. functions x f (declared_at s n (table m) x (function f) e);
      actions = λ x ks k e. actions x ks k (declared_at s n (table m) x (act ks k) e);
      tables = λ x k e. tables x k (declared_at s n (table m) x (rows k) e);
      inner = inner_quiet s n (table m) c.inner;
    }
  where
    functions : (x : List ℕ) (f : Function) → DeclaredAt s n (table m) x (function f) → x ≡ function_name f
    functions x f (inl e) = (let d = e.1 in absurd (cc))
    functions x f (inr e) = c.functions x f e

    actions : (x : List ℕ) (ks : List Kind) (k : ℕ) → DeclaredAt s n (table m) x (act ks k) → IsNoAction x k ⊎ L x k
    actions x ks k (inl e) = (let d = e.1 in absurd (cc))
    actions x ks k (inr e) = c.actions x ks k e

    tables : (x : List ℕ) (k : ℕ) → DeclaredAt s n (table m) x (rows k) → T x k
    tables x k (inl e) = (let d = e.1 in let same : m ≡ k = cc in subst (λ (y : List ℕ). T y k) e.0 (subst (λ (j : ℕ). T n j) same h))
    tables x k (inr e) = c.tables x k e

abbrev pub Nothing : List ℕ → ℕ → Type 0
Nothing x m = ⊥

-- before the first declaration functions and `NoAction` alone are called
pub record IsCore (x : List ℕ) (st : Stands) : Type 0 where
  pub functions : (f : Function) → st ≡ function f → x ≡ function_name f
  pub actions : (ks : List Kind) (m : ℕ) → st ≡ act ks m → IsNoAction x m
  pub tables : (m : ℕ) → st ≡ rows m → ⊥

if_core : (x : List ℕ) (b : Bool) (u v : Stands) → (b ≡ true → IsCore x u) → IsCore x v → IsCore x (cond b u v)
if_core x true u v h k = h refl
if_core x false u v h k = k

typed_core : (x : List ℕ) (b : Bool) (t : Thing) → IsCore x (typed b t)
typed_core x b t = record { functions = λ f e. absurd (cc); actions = λ ks m e. absurd (cc); tables = λ m e. cc }

state_core : (x : List ℕ) → IsCore x state
state_core x = record { functions = λ f e. absurd (cc); actions = λ ks m e. absurd (cc); tables = λ m e. cc }

other_core : (x : List ℕ) → IsCore x other
other_core x = record { functions = λ f e. absurd (cc); actions = λ ks m e. absurd (cc); tables = λ m e. cc }

missing_core : (x : List ℕ) → IsCore x missing
missing_core x = record { functions = λ f e. absurd (cc); actions = λ ks m e. absurd (cc); tables = λ m e. cc }

no_action_core : (x : List ℕ) → x ≡ codes "NoAction" → IsCore x (act [] 0)
no_action_core x h = record { functions = λ f e. absurd (cc); actions = λ ks m e. (h, cc); tables = λ m e. cc }

function_core : (x : List ℕ) (g : Function) → x ≡ function_name g → IsCore x (function g)
function_core x g h = record { functions = λ f e. (let same : g ≡ f = cc in h ∙ ap function_name same); actions = λ ks m e. absurd (cc); tables = λ m e. cc }

core_is : (x : List ℕ) → IsCore x (core_name x)
core_is x =
    if_core x (same_text x (codes "standard_metadata_t")) _ _ (λ e. typed_core x _ _)
    (if_core x (same_text x (codes "packet_in")) _ _ (λ e. typed_core x _ _)
    (if_core x (same_text x (codes "packet_out")) _ _ (λ e. typed_core x _ _)
    (if_core x (same_text x (codes "NoAction")) _ _ (λ e. no_action_core x (text_is x (codes "NoAction") e))
    (if_core x (same_text x (codes "mark_to_drop")) _ _ (λ e. function_core x MarkToDrop (text_is x (codes "mark_to_drop") e))
    (if_core x (same_text x (codes "digest")) _ _ (λ e. function_core x Digest (text_is x (codes "digest") e))
    (if_core x (same_text x (codes "verify_checksum")) _ _ (λ e. function_core x VerifyChecksum (text_is x (codes "verify_checksum") e))
    (if_core x (same_text x (codes "update_checksum")) _ _ (λ e. function_core x UpdateChecksum (text_is x (codes "update_checksum") e))
    (if_core x (same_text x (codes "HashAlgorithm")) _ _ (λ e. other_core x) (missing_core x)))))))))

standard_quiet : (y : List ℕ) → IsQuiet (standard_at y)
standard_quiet y =
    if_quiet (same_text y (codes "egress_spec")) _ _ tt
    (if_quiet (same_text y (codes "ingress_port") || same_text y (codes "egress_port")) _ _ tt
    (if_quiet (same_text y (codes "packet_length")) _ _ tt
    (if_quiet (same_text y (codes "checksum_error")) _ _ tt
    (if_quiet (same_text y (codes "parser_error")) _ _ tt tt))))

core_quiet : (x y : List ℕ) (rest : List (List ℕ)) → IsQuiet (core (x ∷ y ∷ rest))
unfolding core
core_quiet x y [] =
    if_quiet (same_text x (codes "standard_metadata_t")) _ _ (standard_quiet y)
    (if_quiet (same_text x (codes "HashAlgorithm") && same_text y (codes "csum16")) _ _ tt tt)
core_quiet x y (z ∷ zs) = tt

pub core_calls : (L T : List ℕ → ℕ → Type 0) → Calls L T core
unfolding core
core_calls L T =
    record {
      functions = λ x f e. (core_is x).functions f e;
      actions = λ x ks m e. inl ((core_is x).actions ks m e);
      tables = λ x m e. absurd ((core_is x).tables m e);
      inner = core_quiet;
    }
