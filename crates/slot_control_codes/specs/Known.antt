-- Which statements of a control have steps, by the places in sight. Read `StepRuns` of `slot_controls` before it, and
-- `Known` of `slot_statements`.
use Rattle.std.specs.Prelude.{ℕ, List, [], ◌∷◌, Bool, true, false, not, ◌&&◌, ◌||◌, is_some, Option, Some, None, nat_eq, slice_get}
use Rattle.std.specs.Option.{option_and_then}
use Rattle.p4_tree.specs.Tree.{Expr, Stmt, Stmts, MaybeStmt, nothing, block, var, assign, choice, return_, exit_, call, done, next, without, otherwise}
use Rattle.p4_meaning.specs.Standard.{egress_spec, checksum_error, is_assignable}
use Rattle.p4_meaning.specs.Statements.{Act, makes, drops, reads, writes, tells, sums, runs, applies, idle, act_of, application}
use Rattle.p4_meaning.specs.Actions.{Action, action_named}
use Rattle.p4_meaning.specs.Tables.{Table, table_named}
use Rattle.slot_terms.specs.Places.{Place, Places, place_at, header_number}
use Rattle.slot_terms.specs.Known.{is_known}
use Rattle.slot_statements.specs.Parameters.{with_params}
use Rattle.slot_statements.specs.Known.{are_free, has_port, only_if, places_behind, are_known_args, is_known_target, are_known_keys}
use Rattle.slot_controls.specs.Steps.{HeaderSlots}
use Rattle.slot_controls.specs.Callees.{Callees, lists}
use Rattle.slot_control_codes.specs.declared.statements.Asked as code_asked

-- the table that a test applies, and whether it asks for a hit, as the code has them
abbrev pub asked_of : code_asked.Asked → List ℕ × Bool
asked_of a = (a.table.now, a.hit)

-- the error of checksums has a place of one bit
abbrev pub has_error : Option Place → Bool
has_error None = false
has_error (Some r) = nat_eq r.width 1

-- the paths in some expressions have places
abbrev pub are_known : Places → List Expr → Bool
are_known m [] = true
are_known m (e ∷ es) = is_known m e && are_known m es

-- the slots of headers, and which calls of actions and which applications of tables have steps
pub record KnownCalls : Type 0 where
  pub headers : List HeaderSlots
  pub run : (action : List ℕ) → List Expr → Places → Bool
  pub apply : (table : List ℕ) → Places → Bool

module _ (k : KnownCalls) where
  -- the fields of a header have slots
  abbrev pub has_slots : Option ℕ → Bool
  has_slots None = false
  has_slots (Some n) = is_some (slice_get k.headers n)

  -- what a call is for has a step: the paths that it names have places, and nothing else is wanting
  abbrev pub has_act : Act → Places → Bool
  has_act (makes h b) m = has_slots (header_number m.headers h)
  has_act drops m = has_port (place_at m.rows egress_spec)
  has_act (reads x t i) m = is_known_target m t i
  has_act (writes x i v) m = is_known m i && is_known m v
  has_act (tells n es) m = are_known m es
  has_act (sums true c es field) m = has_error (place_at m.rows checksum_error) && (is_known m c && (are_known m es && is_some (place_at m.rows field)))
  has_act (sums false c es field) m = not (is_assignable field) || (is_some (place_at m.rows field) && (is_known m c && are_known m es))
  has_act (runs x es) m = k.run x es m
  has_act (applies x) m = k.apply x m
  has_act idle m = true

  -- a test has a term, or the table that it applies can be applied
  abbrev pub can_test : Option (List ℕ × Bool) → Expr → Places → Bool
  can_test None e m = is_known m e
  can_test (Some t) e m = k.apply t.0 m

  abbrev mutual
    -- the places in sight behind a statement that has a step
    pub steps_behind : Stmt → Places → Option Places
    steps_behind (nothing p) m = Some m
    steps_behind (block p ss) m = only_if (is_some (steps_behind_all ss m)) m
    steps_behind (var p ty x e) m = places_behind (var p ty x e) m
    steps_behind (assign p target e) m = places_behind (assign p target e) m
    steps_behind (choice p e a b) m = only_if (can_test (application e) e m && (is_some (steps_behind a m) && has_step_else b m)) m
    steps_behind (return_ p) m = Some m
    steps_behind (exit_ p) m = Some m
    steps_behind (call p callee args) m = only_if (has_act (act_of callee args) m) m

    -- whether an `else`, where there is one, has a step
    pub has_step_else : MaybeStmt → Places → Bool
    has_step_else without m = true
    has_step_else (otherwise s) m = is_some (steps_behind s m)

    -- the places in sight behind statements that have steps, one after the other
    pub steps_behind_all : Stmts → Places → Option Places
    steps_behind_all done m = Some m
    steps_behind_all (next s ss) m = option_and_then (steps_behind_all ss) (steps_behind s m)

-- ---- actions

-- in an action, where no action is called and no table applied: calls of these do nothing
abbrev pub bare_calls : List HeaderSlots → KnownCalls
bare_calls hs = record { headers = hs; run = λ x es m. true; apply = λ x m. true }

-- an action has a body where it runs: its parameters are new, and behind them its statements have steps
abbrev pub has_body : List HeaderSlots → Action → Places → Bool
has_body hs a m = are_free m a.params && is_some (steps_behind_all (bare_calls hs) a.body (with_params m a.params))

abbrev pub has_body_if : List HeaderSlots → Option Action → Places → Bool
has_body_if hs None m = true
has_body_if hs (Some a) m = has_body hs a m

-- ---- controls

module _ (k : Callees) where
  -- an action's call has a step: its arguments are known, and it has a body; that of none does nothing
  abbrev pub can_run : Option Action → List Expr → Places → Bool
  can_run None es m = true
  can_run (Some a) es m = are_known_args m a.params es && has_body k.headers a m

  -- of some actions, each that a table may run has a body, which is that of the first of its name
  abbrev pub has_bodies : Table → List Action → Places → Bool
  has_bodies t [] m = true
  has_bodies t (a ∷ as') m = (not (lists t a.name) || has_body_if k.headers (action_named k.actions a.name) m) && has_bodies t as' m

  -- a table can be applied: the paths of its keys have places, and what it may run has bodies. That of none is a miss
  abbrev pub can_apply : Option Table → Places → Bool
  can_apply None m = true
  can_apply (Some t) m = are_known_keys m t.keys && has_bodies t k.actions m

  abbrev pub known_calls : KnownCalls
  known_calls = record { headers = k.headers; run = λ x es m. can_run (action_named k.actions x) es m; apply = λ x m. can_apply (table_named k.tables x) m }
