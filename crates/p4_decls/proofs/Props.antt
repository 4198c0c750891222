-- The properties of a table as a list and by their kind.
use Rattle.std.proofs.Common.{◌≡◌, ◌≢◌, ℕ, Bool, false, List, [], ◌∷◌, ◌++◌, Option, Some, None, refl, sym, ap, ◌∙◌, arith}
use Rattle.std.specs.Prelude.{is_some}
use Rattle.p4_tree.specs.Tree.{Expr}
use Rattle.p4_spelling.specs.Controls.{TableProp, keys, size, actions, default, kind_of, Lacks, AreOnce, keys_in, actions_in, default_in, fixed_in, size_in, table_of}
use Rattle.p4_decls.specs.Tables.{Props, with_keys, with_size, with_actions, with_default, items_or_none, table_with}

-- ---- the first of a kind

abbrev pub or_else : {A : Type 0} → Option A → Option A → Option A
or_else None y = y
or_else (Some x) y = Some x

abbrev pub pick : {A : Type 0} → (TableProp → Option A) → List TableProp → Option A
pick f [] = None
pick f (a ∷ ps) = or_else (f a) (pick f ps)

or_else-none : {A : Type 0} (o : Option A) → or_else o None ≡ o
or_else-none None = refl
or_else-none (Some x) = refl

pick-push : {A : Type 0} (f : TableProp → Option A) (ps : List TableProp) (a : TableProp) → pick f (ps ++ a ∷ []) ≡ or_else (pick f ps) (f a)
pick-push f [] a = or_else-none (f a)
pick-push f (c ∷ ps) a = ap (or_else (f c)) (pick-push f ps a) ∙ both (f c) (pick f ps) (f a)
  where
    both : {A : Type 0} (x y z : Option A) → or_else x (or_else y z) ≡ or_else (or_else x y) z
    both None y z = refl
    both (Some w) y z = refl

-- the last is of another kind, or the first of its own
pick_same : {A : Type 0} (f : TableProp → Option A) (ps : List TableProp) (a : TableProp) → f a ≡ None → pick f (ps ++ a ∷ []) ≡ pick f ps
pick_same f ps a e = pick-push f ps a ∙ ap (or_else (pick f ps)) e ∙ or_else-none (pick f ps)

pick_first : {A : Type 0} (f : TableProp → Option A) (ps : List TableProp) (a : TableProp) → pick f ps ≡ None → pick f (ps ++ a ∷ []) ≡ f a
pick_first f ps a e = pick-push f ps a ∙ ap (λ o. or_else o (f a)) e

-- ---- the kinds

abbrev pub some_keys : TableProp → Option (List (Expr × List ℕ))
some_keys (keys es) = Some es
some_keys (size n) = None
some_keys (actions xs) = None
some_keys (default f d) = None

abbrev pub some_size : TableProp → Option ℕ
some_size (keys es) = None
some_size (size n) = Some n
some_size (actions xs) = None
some_size (default f d) = None

abbrev pub some_actions : TableProp → Option (List (List ℕ))
some_actions (keys es) = None
some_actions (size n) = None
some_actions (actions xs) = Some xs
some_actions (default f d) = None

abbrev pub some_default : TableProp → Option (List ℕ × List Expr)
some_default (keys es) = None
some_default (size n) = None
some_default (actions xs) = None
some_default (default f d) = Some d

abbrev some_fixed : TableProp → Option Bool
some_fixed (keys es) = None
some_fixed (size n) = None
some_fixed (actions xs) = None
some_fixed (default f d) = Some f

abbrev is_fixed : Option Bool → Bool
is_fixed None = false
is_fixed (Some f) = f

-- the properties of a list
abbrev pub props_from : List TableProp → Props
props_from ps = record { keys = pick some_keys ps; size = pick some_size ps; actions = pick some_actions ps; default = pick some_default ps; fixed = is_fixed (pick some_fixed ps) }

pub push_keys : (ps : List TableProp) (es : List (Expr × List ℕ)) → pick some_keys ps ≡ None → props_from (ps ++ keys es ∷ []) ≡ with_keys (props_from ps) es
push_keys ps es e =
    rw (pick_first some_keys ps (keys es) e, pick_same some_size ps (keys es) refl, pick_same some_actions ps (keys es) refl, pick_same some_default ps (keys es) refl, pick_same some_fixed ps (keys es) refl) refl

pub push_size : (ps : List TableProp) (n : ℕ) → pick some_size ps ≡ None → props_from (ps ++ size n ∷ []) ≡ with_size (props_from ps) n
push_size ps n e =
    rw (pick_first some_size ps (size n) e, pick_same some_keys ps (size n) refl, pick_same some_actions ps (size n) refl, pick_same some_default ps (size n) refl, pick_same some_fixed ps (size n) refl) refl

pub push_actions : (ps : List TableProp) (xs : List (List ℕ)) → pick some_actions ps ≡ None → props_from (ps ++ actions xs ∷ []) ≡ with_actions (props_from ps) xs
push_actions ps xs e =
    rw (pick_first some_actions ps (actions xs) e, pick_same some_keys ps (actions xs) refl, pick_same some_size ps (actions xs) refl, pick_same some_default ps (actions xs) refl, pick_same some_fixed ps (actions xs) refl) refl

-- one default has both parts
no_fixed : (ps : List TableProp) → pick some_default ps ≡ None → pick some_fixed ps ≡ None
no_fixed [] e = refl
no_fixed (keys es ∷ ps) e = no_fixed ps e
no_fixed (size n ∷ ps) e = no_fixed ps e
no_fixed (actions xs ∷ ps) e = no_fixed ps e
no_fixed (default f d ∷ ps) e = absurd cc

pub push_default : (ps : List TableProp) (f : Bool) (d : List ℕ × List Expr) → pick some_default ps ≡ None → props_from (ps ++ default f d ∷ []) ≡ with_default (props_from ps) f d
push_default ps f d e =
    rw (pick_first some_default ps (default f d) e, pick_first some_fixed ps (default f d) (no_fixed ps e), pick_same some_keys ps (default f d) refl, pick_same some_size ps (default f d) refl, pick_same some_actions ps (default f d) refl) refl

-- ---- each kind once

-- f takes the properties of a kind
pub record Kind {A : Type 0} (f : TableProp → Option A) (kind : ℕ) : Type 0 where
  pub other : (a : TableProp) → f a ≡ None → kind_of a ≢ kind
  pub none : (a : TableProp) → kind_of a ≢ kind → f a ≡ None

keys_other : (a : TableProp) → some_keys a ≡ None → kind_of a ≢ 0
keys_other (keys es) e = absurd cc
keys_other (size n) e = λ x. omega (arith, x)
keys_other (actions xs) e = λ x. omega (arith, x)
keys_other (default f d) e = λ x. omega (arith, x)

keys_none : (a : TableProp) → kind_of a ≢ 0 → some_keys a ≡ None
keys_none (keys es) h = absurd (h refl)
keys_none (size n) h = refl
keys_none (actions xs) h = refl
keys_none (default f d) h = refl

size_other : (a : TableProp) → some_size a ≡ None → kind_of a ≢ 1
size_other (keys es) e = λ x. omega (arith, x)
size_other (size n) e = absurd cc
size_other (actions xs) e = λ x. omega (arith, x)
size_other (default f d) e = λ x. omega (arith, x)

size_none : (a : TableProp) → kind_of a ≢ 1 → some_size a ≡ None
size_none (keys es) h = refl
size_none (size n) h = absurd (h refl)
size_none (actions xs) h = refl
size_none (default f d) h = refl

actions_other : (a : TableProp) → some_actions a ≡ None → kind_of a ≢ 2
actions_other (keys es) e = λ x. omega (arith, x)
actions_other (size n) e = λ x. omega (arith, x)
actions_other (actions xs) e = absurd cc
actions_other (default f d) e = λ x. omega (arith, x)

actions_none : (a : TableProp) → kind_of a ≢ 2 → some_actions a ≡ None
actions_none (keys es) h = refl
actions_none (size n) h = refl
actions_none (actions xs) h = absurd (h refl)
actions_none (default f d) h = refl

default_other : (a : TableProp) → some_default a ≡ None → kind_of a ≢ 3
default_other (keys es) e = λ x. omega (arith, x)
default_other (size n) e = λ x. omega (arith, x)
default_other (actions xs) e = λ x. omega (arith, x)
default_other (default f d) e = absurd cc

default_none : (a : TableProp) → kind_of a ≢ 3 → some_default a ≡ None
default_none (keys es) h = refl
default_none (size n) h = refl
default_none (actions xs) h = refl
default_none (default f d) h = absurd (h refl)

pub the_keys_kind : Kind some_keys 0
the_keys_kind = record { other = keys_other; none = keys_none }

pub the_size_kind : Kind some_size 1
the_size_kind = record { other = size_other; none = size_none }

pub the_actions_kind : Kind some_actions 2
the_actions_kind = record { other = actions_other; none = actions_none }

pub the_default_kind : Kind some_default 3
the_default_kind = record { other = default_other; none = default_none }

or_else_both : {A : Type 0} (x y : Option A) → or_else x y ≡ None → (x ≡ None) × (y ≡ None)
or_else_both None y e = (refl, e)
or_else_both (Some w) y e = absurd cc

-- none of a kind was taken
pub lacks_of : {A : Type 0} (f : TableProp → Option A) (kind : ℕ) → Kind f kind → (ps : List TableProp) → pick f ps ≡ None → Lacks kind ps
lacks_of f kind is [] e = tt
lacks_of f kind is (a ∷ ps) e = let o = or_else_both (f a) (pick f ps) e in (is.other a o.0, lacks_of f kind is ps o.1)

pub lacks_none : {A : Type 0} (f : TableProp → Option A) (kind : ℕ) → Kind f kind → (ps : List TableProp) → Lacks kind ps → pick f ps ≡ None
lacks_none f kind is [] l = refl
lacks_none f kind is (a ∷ ps) l = ap (λ o. or_else o (pick f ps)) (is.none a l.0) ∙ lacks_none f kind is ps l.1

lacks_push : (kind : ℕ) (ps : List TableProp) (a : TableProp) → Lacks kind ps → kind_of a ≢ kind → Lacks kind (ps ++ a ∷ [])
lacks_push kind [] a l h = (h, tt)
lacks_push kind (c ∷ ps) a l h = (l.0, lacks_push kind ps a l.1 h)

-- one more, of a kind of which there is none
pub once_push : (ps : List TableProp) (a : TableProp) → AreOnce ps → Lacks (kind_of a) ps → AreOnce (ps ++ a ∷ [])
once_push [] a o l = (tt, tt)
once_push (c ∷ ps) a o l = (lacks_push (kind_of c) ps a o.0 (λ e. l.0 (sym e)), once_push ps a o.1 l.1)

lacks_at : (kind : ℕ) (ps : List TableProp) (a : TableProp) (rest : List TableProp) → Lacks kind (ps ++ a ∷ rest) → kind_of a ≢ kind
lacks_at kind [] a rest l = l.0
lacks_at kind (c ∷ ps) a rest l = lacks_at kind ps a rest l.1

-- none before it is of its kind
pub once_front : (ps : List TableProp) (a : TableProp) (rest : List TableProp) → AreOnce (ps ++ a ∷ rest) → Lacks (kind_of a) ps
once_front [] a rest o = tt
once_front (c ∷ ps) a rest o = let h = lacks_at (kind_of c) ps a rest o.0 in (λ e. h (sym e), once_front ps a rest o.1)

pub is_none : {A : Type 0} (o : Option A) → is_some o ≡ false → o ≡ None
is_none None e = refl
is_none (Some x) e = absurd cc

-- ---- the table of a list

keys_are : (ps : List TableProp) → items_or_none (pick some_keys ps) ≡ keys_in ps
keys_are [] = refl
keys_are (keys es ∷ ps) = refl
keys_are (size n ∷ ps) = keys_are ps
keys_are (actions xs ∷ ps) = keys_are ps
keys_are (default f d ∷ ps) = keys_are ps

size_is : (ps : List TableProp) → pick some_size ps ≡ size_in ps
size_is [] = refl
size_is (keys es ∷ ps) = size_is ps
size_is (size n ∷ ps) = refl
size_is (actions xs ∷ ps) = size_is ps
size_is (default f d ∷ ps) = size_is ps

actions_are : (ps : List TableProp) → items_or_none (pick some_actions ps) ≡ actions_in ps
actions_are [] = refl
actions_are (keys es ∷ ps) = actions_are ps
actions_are (size n ∷ ps) = actions_are ps
actions_are (actions xs ∷ ps) = refl
actions_are (default f d ∷ ps) = actions_are ps

default_is : (ps : List TableProp) → pick some_default ps ≡ default_in ps
default_is [] = refl
default_is (keys es ∷ ps) = default_is ps
default_is (size n ∷ ps) = default_is ps
default_is (actions xs ∷ ps) = default_is ps
default_is (default f d ∷ ps) = refl

fixed_is : (ps : List TableProp) → is_fixed (pick some_fixed ps) ≡ fixed_in ps
fixed_is [] = refl
fixed_is (keys es ∷ ps) = fixed_is ps
fixed_is (size n ∷ ps) = fixed_is ps
fixed_is (actions xs ∷ ps) = fixed_is ps
fixed_is (default f d ∷ ps) = refl

pub table_is : (p : ℕ) (x : List ℕ) (ps : List TableProp) → table_with p x (props_from ps) ≡ table_of p x ps
table_is p x ps = rw (keys_are ps, size_is ps, actions_are ps, default_is ps, fixed_is ps) refl
