-- What holds of the meaning, for every program. Read the files of the meaning before it.
use Rattle.std.specs.Prelude.{◌≡◌, ◌≢◌, ℕ, ◌≤◌, List, [], ◌∷◌, length, true, Option, Some, None}
use Rattle.std.specs.List.{AllByRecursion}
use Rattle.bit_values.specs.Bits.{Word, IsWord}
use Rattle.p4_tree.specs.Tree.{Expr, Stmts, Local, Top}
use Rattle.p4_meaning.specs.Standard.{egress_spec, checksum_error}
use Rattle.p4_meaning.specs.Store.{Store}
use Rattle.p4_meaning.specs.Value.{value_of, own_width}
use Rattle.p4_meaning.specs.Statements.{Return, Run, Calls, meaning_of}
use Rattle.p4_meaning.specs.Scope.{Scope, seen, is_among}
use Rattle.p4_meaning.specs.Under.{expr_under, behind_tops, behind_locals}
use Rattle.p4_meaning.specs.Actions.{Action}
use Rattle.p4_meaning.specs.Tables.{Table, Entries, Tables, table_named, calls_in}
use Rattle.p4_meaning.specs.Parts.{Parts}
use Rattle.p4_meaning.specs.Pass.{Registers, Queued, parts_enter, parts_leave}
use Rattle.p4_meaning.specs.DigestBound.{enter_bound, leave_bound}

-- ---- names

-- the constants in sight have words of 1 to 128 bits
abbrev pub AreWords : Scope → Type 0
AreWords sc = AllByRecursion (λ c. IsWord c.1) sc.constants

-- an expression with what its names stand for in their place has, in a store, the value that it has in what is seen of
-- the store. No header has the empty path
abbrev pub ValueIsSeen : Type 0
ValueIsSeen =
    (sc : Scope) (e : Expr) (w : ℕ) (s : Store) → AreWords sc → s.headers [] ≡ None →
    value_of (expr_under sc e) w s ≡ value_of e w (seen sc s)

abbrev pub WidthIsSeen : Type 0
WidthIsSeen =
    (sc : Scope) (e : Expr) (s : Store) → AreWords sc → s.headers [] ≡ None →
    own_width (expr_under sc e) s ≡ own_width e (seen sc s)

-- so it is at each place of a program: before a parser or control, and behind declarations of a control
abbrev pub ConstantsAreWords : Type 0
ConstantsAreWords = (sc : Scope) → AreWords sc → (ts : List Top) (ls : List Local) → AreWords (behind_locals (behind_tops sc ts) ls)

-- ---- widths

-- a word of so many bits
pub record IsOf (bits : ℕ) (w : Word) : Type 0 where
  pub word : IsWord w
  pub width : w.width ≡ bits

-- each path of two names or more, which is no variable, keeps its width, and has a word in range
pub record KeepsWords (a b : Store) : Type 0 where
  pub words : (x y : List ℕ) (rest : List (List ℕ)) → IsWord (a.values (x ∷ y ∷ rest)) → IsOf (a.values (x ∷ y ∷ rest)).width (b.values (x ∷ y ∷ rest))

-- the standard metadata that the switch itself writes have their widths
pub record HasStandard (s : Store) : Type 0 where
  pub spec : IsOf 9 (s.values egress_spec)
  pub error : IsOf 1 (s.values checksum_error)

-- whatever statements do, with calls of these actions and applications of these tables: headers, metadata and standard
-- metadata keep their widths, so that views have the widths that are declared
abbrev pub WidthsAreKept : Type 0
WidthsAreKept =
    (as' : List Action) (ts : List Table) (held : Tables) (ss : Stmts) (r : Run) → HasStandard r.store →
    KeepsWords r.store (meaning_of (calls_in as' ts held) ss r).0.store

-- ---- calls

-- no call of an action and no application of a table ends with `return`
pub record NeverReturns (calls : Calls) : Type 0 where
  pub actions : (x : List ℕ) (es : List Expr) (r : Run) → (calls.run_action x es r).1 ≢ Return
  pub tables : (x : List ℕ) (r : Run) → (calls.apply_table x r).flow ≢ Return

abbrev pub ReturnEndsTheAction : Type 0
ReturnEndsTheAction = (as' : List Action) (ts : List Table) (held : Tables) → NeverReturns (calls_in as' ts held)

-- ---- digests

-- the entries and the default of a table run actions of its list, or the default that is written
abbrev pub RunsListed : Option Table → Entries → Type 0
RunsListed None h = Unit {0}
RunsListed (Some t) h =
    AllByRecursion (λ e. is_among (t.default.action ∷ t.actions) e.action ≡ true) h.listed × (is_among (t.default.action ∷ t.actions) h.default.action ≡ true)

-- so it is in all tables
abbrev pub AreListed : Parts → Tables → Type 0
AreListed p held = (x : List ℕ) → RunsListed (table_named p.tables x) (held x)

-- a passage gives at most as many digests as the bound says
abbrev pub FewDigests : Type 0
FewDigests =
    (p : Parts) (held : Tables) → AreListed p held → (cells : Registers) (port : ℕ) (frame : List ℕ) (q : Queued) →
    (length (parts_enter p held cells port frame).digests ≤ enter_bound p) × (length (parts_leave p held cells q).digests ≤ leave_bound p)
