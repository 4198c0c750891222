-- The numbered scalars that stand for the packet's variables, and what they hold. Read `Names` before it.
use Rattle.std.specs.Prelude.{◌≡◌, ℕ, zero, suc, ◌+◌, ◌<◌, List, [], ◌∷◌, ◌++◌, length, slice_get, true, false, Some, None}
use Rattle.std.specs.List.{All}
use Rattle.bit_values.specs.Bits.{Word, word}
use Rattle.network_run.specs.PathMeaning.{Doing}
use Rattle.indus_tree.specs.Tree.{Shape, one, list, set, dict, Decl}
use Rattle.indus_tree.specs.State.{Hop, Held, lookup, width_of, nothing_of}
use Rattle.indus_tree.specs.Reads.{or_word}
use Rattle.indus_tree.specs.Hops.{variable_number}
use Rattle.indus_tree.specs.declared.tree.DeclKind.{DeclKind}
use Rattle.indus_tree.specs.declared.tree.DeclKind.TheVariants.{Tele, Sensor, Header, Control}
use Rattle.indus_tree.specs.declared.tree.Ty.{Ty}
use Rattle.indus_tree.specs.declared.tree.Ty.TheVariants as ty
use Rattle.lower_lists.specs.Names.{item_name, count_name, is_plain}

-- ---- declarations

-- a scalar of the packet's
abbrev pub scalar_decl : (at : ℕ) → List ℕ → Ty → Decl
scalar_decl p x t = record { at = p; kind = Tele; name = x; shape = one t; start = None; path = []; valid = false }

-- the first n items of a list
abbrev pub item_decls : (at variable : ℕ) → Ty → (n : ℕ) → List Decl
item_decls p v t zero = []
item_decls p v t (suc i) = item_decls p v t i ++ scalar_decl p (item_name v i) t ∷ []

-- a scalar is numbered; a list is its count, of 8 bits, and its items
abbrev pub numbered_shape : (at variable : ℕ) → Shape → List Decl
numbered_shape p v (one t) = scalar_decl p (item_name v 0) t ∷ []
numbered_shape p v (list t n) = scalar_decl p (count_name v) (ty.Bit 8) ∷ item_decls p v t n
numbered_shape p v (set ks) = []
numbered_shape p v (dict ks t) = []

abbrev pub numbered_kind : DeclKind → (variable : ℕ) → Decl → List Decl
numbered_kind Tele v d = numbered_shape d.at v d.shape
numbered_kind Sensor v d = d ∷ []
numbered_kind Header v d = d ∷ []
numbered_kind Control v d = d ∷ []

-- declarations of which the first has the number v
abbrev pub numbered_from : (v : ℕ) → List Decl → List Decl
numbered_from v [] = []
numbered_from v (d ∷ ds) = numbered_kind d.kind v d ++ numbered_from (v + 1) ds

-- the declarations of flat code: numbered scalars in place of the packet's variables, and the others as they are
abbrev pub numbered : List Decl → List Decl
numbered ds = numbered_from 0 ds

-- what a hop shows flat code
abbrev pub numbered_hop : Hop → Hop
numbered_hop h = record h { decls = numbered h.decls }

-- no declared name begins with a digit, as no name in a text does
abbrev pub ArePlain : List Decl → Type 0
ArePlain [] = Unit {0}
ArePlain (d ∷ ds) = (is_plain d.name ≡ true) × ArePlain ds

-- ---- what they hold

-- the numbered scalars of a list: its count, and at each place the item, or 0 or false past the last
pub record HoldsList (v : ℕ) (t : Ty) (n : ℕ) (ws : List Word) (flat : Held) : Type 0 where
  pub count : flat (count_name v) ≡ word 8 (length ws) ∷ []
  pub items : (i : ℕ) → i < n → flat (item_name v i) ≡ or_word (slice_get ws i) (nothing_of (width_of t)) ∷ []

-- the numbered scalars of the v-th variable, which has a shape, hold its words
abbrev pub Holds : (v : ℕ) → Shape → List Word → (flat : Held) → Type 0
Holds v (one t) ws flat = flat (item_name v 0) ≡ ws
Holds v (list t n) ws flat = HoldsList v t n ws flat
Holds v (set ks) ws flat = Unit {0}
Holds v (dict ks t) ws flat = Unit {0}

-- the second state is the numbered form of the first: the numbered scalars hold what the packet's variables do, and the
-- rest is the same
pub record Numbers (ds : List Decl) (s flat : Doing Held Held) : Type 0 where
  pub tele : (x : List ℕ) (d : Decl) (v : ℕ) → lookup ds x ≡ Some d → variable_number ds x ≡ Some v → d.kind ≡ Tele → Holds v d.shape (s.tele x) flat.tele
  pub sensors : flat.sensors ≡ s.sensors
  pub rejected : flat.rejected ≡ s.rejected
  pub reports : flat.reports ≡ s.reports
