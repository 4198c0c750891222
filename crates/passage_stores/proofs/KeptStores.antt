-- A store goes on to fit where paths of two names and more keep their widths, as they do whatever statements do.
use Rattle.std.proofs.Common.{◌≡◌, ℕ, List, [], ◌∷◌, ◌++◌, None, refl, ◌∙◌}
use Rattle.bit_values.specs.Bits.{Word, IsWord}
use Rattle.p4_tree.specs.Tree.{Expr, Stmt, Stmts, MaybeStmt, nothing, block, var, assign, choice, return_, exit_, call, done, next, without, otherwise}
use Rattle.p4_meaning.specs.Standard.{metadata_root}
use Rattle.p4_meaning.specs.Store.{Store}
use Rattle.p4_meaning.specs.Statements.{Run, Calls, no_calls, application, tested, meaning_of_stmt, meaning_of}
use Rattle.p4_meaning.specs.Parsing.{Field, Header}
use Rattle.p4_meaning.specs.Actions.{Param, Action}
use Rattle.p4_meaning.specs.Tables.{Table, Tables, calls_in}
use Rattle.p4_meaning.specs.Parts.{Parts}
use Rattle.p4_meaning.specs.Laws.{IsOf, HasStandard}
use Rattle.p4_typing_laws.specs.Along.{Keeps}
use Rattle.p4_typing_laws.proofs.KeptPlaces.{CallsKeep, HasPlaces, SparesStmt, SparesElse, Spares, ParamsSpare, SpareAll, CallsKeepNone, no_calls_keep, no_calls_none, calls_keep, calls_none, stmt_keeps, all_keep, test_keeps, stmt_none, all_none, test_none}
use Rattle.passage_stores.specs.FitStores.{FieldsFit, HeadersFit, IsFit}

-- paths of two names and more
abbrev pub IsLong : List (List ℕ) → Type 0
IsLong [] = ⊥
IsLong (x ∷ []) = ⊥
IsLong (x ∷ y ∷ rest) = Unit {0}

pub long_places : HasPlaces IsLong
long_places = record { spec = tt; error = tt }

-- each header has a path
abbrev pub HavePaths : List Header → Type 0
HavePaths [] = Unit {0}
HavePaths (h ∷ hs) = (h.path ≡ [] → ⊥) × HavePaths hs

pub long_field : (above : List (List ℕ)) → (above ≡ [] → ⊥) → (x : List ℕ) → IsLong (above ++ x ∷ [])
long_field [] some x = absurd (some refl)
long_field (y ∷ []) some x = tt
long_field (y ∷ z ∷ rest) some x = tt

-- ---- a store that keeps its long paths

-- a word of the width that was there
pub of_kept : (n : ℕ) (v w : Word) → IsOf n v → (IsWord v → IsOf v.width w) → IsOf n w
of_kept n v w h k = (let i = k h.word in record { word = i.word; width = i.width ∙ h.width })

pub path_kept : (n : ℕ) (a b : Store) (q : List (List ℕ)) → IsLong q → Keeps IsLong a b → IsOf n (a.values q) → IsOf n (b.values q)
path_kept n a b q long k h = of_kept n (a.values q) (b.values q) h (k.words q long)

pub fields_kept : (above : List (List ℕ)) → (above ≡ [] → ⊥) → (fs : List Field) (a b : Store) → Keeps IsLong a b → FieldsFit above fs a → FieldsFit above fs b
fields_kept above some [] a b k h = tt
fields_kept above some (f ∷ fs) a b k h = (path_kept f.width a b (above ++ f.name ∷ []) (long_field above some f.name) k h.0, fields_kept above some fs a b k h.1)

pub headers_kept : (hs : List Header) → HavePaths hs → (a b : Store) → Keeps IsLong a b → HeadersFit hs a → HeadersFit hs b
headers_kept [] paths a b k h = tt
headers_kept (g ∷ hs) paths a b k h = (fields_kept g.path paths.0 g.fields a b k h.0, headers_kept hs paths.1 a b k h.1)

pub fit_kept : (p : Parts) → HavePaths p.headers → (a b : Store) → Keeps IsLong a b → b.headers [] ≡ None → IsFit p a → IsFit p b
fit_kept p paths a b k plain h =
    record {
      headers = headers_kept p.headers paths a b k h.headers;
      metadata = fields_kept (metadata_root ∷ []) (λ e. absurd (cc)) p.metadata a b k h.metadata;
      standard =
          record {
            entry = path_kept 9 a b _ tt k h.standard.entry;
            spec = path_kept 9 a b _ tt k h.standard.spec;
            port = path_kept 9 a b _ tt k h.standard.port;
            length = path_kept 32 a b _ tt k h.standard.length;
            error = path_kept 1 a b _ tt k h.standard.error;
            parser = path_kept 2 a b _ tt k h.standard.parser;
          };
      plain = plain;
    }

pub fit_standard : (p : Parts) (st : Store) → IsFit p st → HasStandard st
fit_standard p st h = record { spec = h.standard.spec; error = h.standard.error }

-- ---- whatever statements do

mutual
  long_spare_stmt : (c : Stmt) → SparesStmt IsLong c
  long_spare_stmt (nothing p) = tt
  long_spare_stmt (block p b) = long_spare b
  long_spare_stmt (var p ty x e) = λ k. k
  long_spare_stmt (assign p x e) = tt
  long_spare_stmt (choice p e a b) = (long_spare_stmt a, long_spare_else b)
  long_spare_stmt (return_ p) = tt
  long_spare_stmt (exit_ p) = tt
  long_spare_stmt (call p x args) = tt

  long_spare_else : (c : MaybeStmt) → SparesElse IsLong c
  long_spare_else without = tt
  long_spare_else (otherwise c) = long_spare_stmt c

  long_spare : (ss : Stmts) → Spares IsLong ss
  long_spare done = tt
  long_spare (next c ss) = (long_spare_stmt c, long_spare ss)

pub long_params : (ps : List Param) → ParamsSpare IsLong ps
long_params [] = tt
long_params (p ∷ ps) = ((λ k. k), long_params ps)

long_actions : (as' : List Action) → SpareAll IsLong as'
long_actions [] = tt
long_actions (a ∷ as') = ((long_params a.params, long_spare a.body), long_actions as')

-- what calls do keeps long paths
pub record CallsFit (calls : Calls) : Type 0 where
  pub keep : CallsKeep IsLong calls
  pub none : CallsKeepNone calls

pub no_calls_fit : CallsFit no_calls
no_calls_fit = record { keep = no_calls_keep IsLong; none = no_calls_none }

pub program_calls_fit : (as' : List Action) (ts : List Table) (held : Tables) → CallsFit (calls_in as' ts held)
program_calls_fit as' ts held = record { keep = calls_keep IsLong long_places as' (long_actions as') ts held; none = calls_none as' ts held }

module _ (p : Parts) (paths : HavePaths p.headers) (calls : Calls) (fit : CallsFit calls) where
  pub stmt_fits : (c : Stmt) (r : Run) → IsFit p r.store → IsFit p (meaning_of_stmt calls c r).0.store
  stmt_fits c r h =
      fit_kept p paths r.store (meaning_of_stmt calls c r).0.store (stmt_keeps IsLong long_places calls fit.keep c (long_spare_stmt c) r (fit_standard p r.store h))
      (stmt_none calls fit.none c r h.plain) h

  pub stmts_fit : (ss : Stmts) (r : Run) → IsFit p r.store → IsFit p (meaning_of calls ss r).0.store
  stmts_fit ss r h =
      fit_kept p paths r.store (meaning_of calls ss r).0.store (all_keep IsLong long_places calls fit.keep ss (long_spare ss) r (fit_standard p r.store h))
      (all_none calls fit.none ss r h.plain) h

  pub test_fits : (e : Expr) (r : Run) → IsFit p r.store → IsFit p (tested calls e r).run.store
  test_fits e r h =
      fit_kept p paths r.store (tested calls e r).run.store (test_keeps IsLong long_places calls fit.keep (application e) e r (fit_standard p r.store h))
      (test_none calls fit.none (application e) e r h.plain) h
