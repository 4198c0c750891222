-- Calls of actions do what actions do.
use Rattle.std.proofs.Common.{◌≡◌, ℕ, ◌≤◌, length, List, Some, None, refl, sym, ap, ◌∙◌, subst}
use Rattle.bit_values.specs.Bits.{Word}
use Rattle.p4_tree.specs.Tree.{Expr}
use Rattle.p4_meaning.specs.Statements as meaning
use Rattle.p4_meaning.specs.Statements.{Run, in_store, no_calls, meaning_of}
use Rattle.p4_meaning.specs.Actions.{Action, action_named, act, act_if, args_of, params_of, bound, flow_behind}
use Rattle.p4_meaning.specs.Tables.{Tables}
use Rattle.slot_terms.specs.Terms.{Term}
use Rattle.slot_terms.specs.Places.{Places, Follows}
use Rattle.slot_statements.specs.Codes as codes
use Rattle.slot_statements.specs.Actions.{bind}
use Rattle.slot_statements.specs.Parameters.{with_params, slots_from, FillAll}
use Rattle.slot_statements.specs.Tables.{NumberedOutcome}
use Rattle.slot_statements.proofs.KnownLemmas.{free_names}
use Rattle.slot_statements.proofs.FlowLemmas.{follows_before}
use Rattle.slot_statements.proofs.CallLemmas.{params_grow, bind_follows}
use Rattle.slot_controls.specs.Steps.{Steps, SlotRun, plain, calls, in_state, body_ended, run_all}
use Rattle.slot_controls.specs.Callees.{Callees, Fits, AreCells, bare}
use Rattle.slot_controls.specs.StepRuns.{Running, Stands, StepEnds, DoesAct, IsBody}
use Rattle.slot_controls.proofs.ActLemmas.{nothing_ends}
use Rattle.slot_controls.proofs.VariableLemmas.{widens_params}
use Rattle.slot_controls.proofs.LengthLemmas.{bind_valid}

-- what fits a control fits its actions
bare_fits : (base : Places) (k : Callees) (held : Tables) (chosen : ℕ → List Word → NumberedOutcome) → Fits base k held chosen → Fits base (bare k) held chosen
bare_fits base k held chosen fits = record { laid = fits.laid; own = λ x t e. absurd (cc e); choices = λ x t ws e. absurd (cc e); headers = fits.headers }

-- an action's body, where its parameters have their words
pub body_ends :
    (k : Callees) (m : Places) (a : Action) (f : Running) → IsBody k m a f → (base : Places) (held : Tables) (chosen : ℕ → List Word → NumberedOutcome) (u z : SlotRun) (r : Run) (ws : List Word) → Stands base k m held chosen u r
    → Follows (with_params m a.params) z.state.slots z.state.valid (bound a.params ws r.store) → z.state.valid ≡ u.state.valid → z.cells ≡ u.cells → z.digests ≡ u.digests → StepEnds k m m (body_ended (f chosen z)) (act a ws r)
body_ends k m a f is base held chosen u z r ws stands follows valid cells digests =
    let n : Places = with_params m a.params in
    let q : Run = in_store r (bound a.params ws r.store) in
    let e : StepEnds (bare k) n is.last (f chosen z) (meaning_of no_calls a.body q) =
    is.does base held chosen z q (record {
      fits = bare_fits base k held chosen stands.fits;
      adds = widens_params m a.params (free_names m a.params is.free) base stands.adds;
      follows = follows;
      headers = subst (λ i. length base.headers ≤ length i) (sym valid) stands.headers;
      beside = record { cells = subst (λ cs. AreCells k.registers cs r.cells) (sym cells) stands.beside.cells; digests = digests ∙ stands.beside.digests };
    }) in
    let kept : Follows m (f chosen z).0.state.slots (f chosen z).0.state.valid (meaning_of no_calls a.body q).0.store =
    follows_before m n (params_grow m a.params) (f chosen z).0.state (meaning_of no_calls a.body q).0 e.ends.kept in
    record { ends = record { flow = ap flow_behind e.ends.flow; kept = kept; grown = λ g. kept }; beside = record { cells = e.beside.cells; digests = e.beside.digests } }

pub runs_none : (k : Callees) (m : Places) (x : List ℕ) (es : List Expr) → action_named k.actions x ≡ None → DoesAct k m (plain codes.skip) (meaning.runs x es)
runs_none k m x es none base held chosen u r stands =
    subst (λ o. StepEnds k m m (u, meaning.Go) (act_if o (args_of (params_of o) es r.store) r)) (sym none) (nothing_ends k m u r stands.follows stands.beside)

pub runs_some :
    (k : Callees) (m : Places) (x : List ℕ) (es : List Expr) (a : Action) (ts : List Term) (body : Steps) → action_named k.actions x ≡ Some a → FillAll m a.params es ts → IsBody k m a (λ chosen. run_all chosen body)
    → DoesAct k m (calls (slots_from m.next a.params) ts body) (meaning.runs x es)
runs_some k m x es a ts body some fills is base held chosen u r stands =
    let z : SlotRun = in_state u (bind (slots_from m.next a.params) ts u.state) in
    let follows : Follows (with_params m a.params) z.state.slots z.state.valid (bound a.params (args_of a.params es r.store) r.store) =
    bind_follows m m a.params es ts u.state r.store r.store is.laid (record { below = is.laid.below }) (free_names m a.params is.free) fills stands.follows.shows stands.follows in
    subst (λ o. StepEnds k m m (body_ended (run_all chosen body z)) (act_if o (args_of (params_of o) es r.store) r)) (sym some)
    (body_ends k m a (λ chosen. run_all chosen body) is base held chosen u z r (args_of a.params es r.store) stands follows (bind_valid (slots_from m.next a.params) ts u.state) refl refl)
