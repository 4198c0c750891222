-- Which controls have code, part by part.
use Rattle.std.proofs.Common.{◌≡◌, ℕ, [], Bool, true, false, ◌&&◌, is_some, Option, Some, None, refl, sym, ap, ◌∙◌, subst}
use Rattle.std.specs.Prelude.{Result, Err, IsErr, IsErrAnd, IfErr}
use Rattle.std.proofs.lemmas.Result.{err_from_is_err_and}
use Rattle.std.specs.Option.{option_and_then}
use Rattle.std.proofs.lemmas.Bool.{and_from}
use Rattle.p4_tree.specs.Tree.{Stmts, done, next, and_then}
use Rattle.p4_meaning.specs.Parts.{Body, Parts, whole}
use Rattle.slot_terms.specs.Places.{Places}
use Rattle.slot_terms.specs.declared.fault.Fault.{Fault}
use Rattle.slot_terms.specs.declared.fault.Fault.TheVariants as fault
use Rattle.slot_places.specs.ProgramPlaces.{ArePlaced, BlamesParts, can_place}
use Rattle.slot_controls.specs.Callees.{Callees}
use Rattle.slot_control_codes.specs.Known.{KnownCalls, known_calls, steps_behind, steps_behind_all}
use Rattle.slot_parser_codes.specs.KnownParsers.{is_known_parser}
use Rattle.slot_programs.specs.Room.{room_of}
use Rattle.slot_programs.specs.Sight.{sight_of, bare_callees, program_callees}
use Rattle.slot_programs.specs.Known.{has_control, is_silent, has_controls, has_code_at, has_code}

-- what the exit of a `?` answers
pub at_exit : {T P : Type 0} {e : Fault} (r : Result T Fault) → IsErr r × IsErrAnd r (λ y. y ≡ e) → (e ≡ fault.Unknown → P) → IfErr r (λ f. f ≡ fault.Unknown → P)
at_exit {T} {P} {e} r exit blames =
    let p = err_from_is_err_and r exit.1 in
    subst (λ x. IfErr x (λ f. f ≡ fault.Unknown → P)) (sym (p.1 ∙ ap Err p.2)) blames

-- ---- statements behind others

pub behind_then : (k : KnownCalls) (a b : Stmts) (m : Places) → steps_behind_all k (and_then a b) m ≡ option_and_then (steps_behind_all k b) (steps_behind_all k a m)
behind_then k done b m = refl
behind_then k (next s ss) b m = go (λ n. behind_then k ss b n) (steps_behind k s m)
  where
    go : ((n : Places) → steps_behind_all k (and_then ss b) n ≡ option_and_then (steps_behind_all k b) (steps_behind_all k ss n)) → (o : Option Places) → option_and_then (steps_behind_all k (and_then ss b)) o ≡ option_and_then (steps_behind_all k b) (option_and_then (steps_behind_all k ss) o)
    go more None = refl
    go more (Some n) = more n

-- a control in two parts, the second by the places behind the first
pub control_known : (k : Callees) (m n q : Places) (b : Body) → steps_behind_all (known_calls k) b.locals m ≡ Some n → steps_behind_all (known_calls k) b.body n ≡ Some q → has_control k m (whole b) ≡ true
control_known k m n q b first second = ap is_some (behind_then (known_calls k) b.locals b.body m ∙ ap (option_and_then (steps_behind_all (known_calls k) b.body)) first ∙ second)

pub control_unknown : (k : Callees) (m n : Places) (b : Body) → steps_behind_all (known_calls k) b.locals m ≡ Some n → steps_behind_all (known_calls k) b.body n ≡ None → has_control k m (whole b) ≡ false
control_unknown k m n b first second = ap is_some (behind_then (known_calls k) b.locals b.body m ∙ ap (option_and_then (steps_behind_all (known_calls k) b.body)) first ∙ second)

pub control_stops : (k : Callees) (m : Places) (b : Body) → steps_behind_all (known_calls k) b.locals m ≡ None → has_control k m (whole b) ≡ false
control_stops k m b first = ap is_some (behind_then (known_calls k) b.locals b.body m ∙ ap (option_and_then (steps_behind_all (known_calls k) b.body)) first)

-- ---- tests that are joined

pub and_no : (a b : Bool) → b ≡ false → (a && b) ≡ false
and_no true b e = e
and_no false b e = refl

pub no_and : (a b : Bool) → a ≡ false → (a && b) ≡ false
no_and true b e = absurd (cc e)
no_and false b e = refl

-- ---- all controls

module _ (p : Parts) (m : Places) where
  abbrev verify : Bool
  verify = has_control (bare_callees p p.registers) m p.verify

  abbrev ingress : Bool
  ingress = has_control (program_callees p) m (whole p.ingress)

  abbrev egress : Bool
  egress = has_control (program_callees p) m (whole p.egress)

  abbrev compute : Bool
  compute = has_control (bare_callees p []) m p.compute && is_silent p.compute

  pub controls_known : verify ≡ true → ingress ≡ true → egress ≡ true → compute ≡ true → has_controls p m ≡ true
  controls_known a b c d = and_from (verify && ingress) (egress && compute) (and_from verify ingress a b) (and_from egress compute c d)

  pub no_verify : verify ≡ false → has_controls p m ≡ false
  no_verify e = no_and (verify && ingress) (egress && compute) (no_and verify ingress e)

  pub no_ingress : ingress ≡ false → has_controls p m ≡ false
  no_ingress e = no_and (verify && ingress) (egress && compute) (and_no verify ingress e)

  pub no_egress : egress ≡ false → has_controls p m ≡ false
  no_egress e = and_no (verify && ingress) (egress && compute) (no_and egress compute e)

  pub no_compute : compute ≡ false → has_controls p m ≡ false
  no_compute e = and_no (verify && ingress) (egress && compute) (and_no egress compute e)

-- ---- programs

-- the places of a program are what its controls see
pub sight_is : (p : Parts) (room : ℕ) (m : Places) → ArePlaced p room m → m ≡ sight_of p room
sight_is p room m placed = λ i. record { rows = placed.rows i; headers = placed.headers i; next = placed.next i; size = placed.size i }

pub code_known : (p : Parts) (m : Places) → ArePlaced p (room_of p) m → has_code_at p m ≡ true → has_code p ≡ true
code_known p m placed at = and_from (can_place p (room_of p)) (has_code_at p (sight_of p (room_of p))) placed.can (ap (has_code_at p) (sym (sight_is p (room_of p) m placed)) ∙ at)

pub code_unknown : (p : Parts) (m : Places) → ArePlaced p (room_of p) m → has_code_at p m ≡ false → has_code p ≡ false
code_unknown p m placed at = and_no (can_place p (room_of p)) (has_code_at p (sight_of p (room_of p))) (ap (has_code_at p) (sym (sight_is p (room_of p) m placed)) ∙ at)

-- where a program has no places
pub parts_unknown : (p : Parts) (room : ℕ) (f : Fault) → room ≡ room_of p → f ≡ fault.Unknown → BlamesParts p room f → has_code p ≡ false
parts_unknown p room fault.NoMemory same e blames = absurd (cc e)
parts_unknown p room fault.Unknown same e blames = no_and (can_place p (room_of p)) (has_code_at p (sight_of p (room_of p))) (ap (can_place p) (sym same) ∙ blames)

-- a parser or controls
pub no_parser : (p : Parts) (m : Places) → is_known_parser m p.states ≡ false → has_code_at p m ≡ false
no_parser p m e = no_and (is_known_parser m p.states) (has_controls p m) e

pub no_controls : (p : Parts) (m : Places) → has_controls p m ≡ false → has_code_at p m ≡ false
no_controls p m e = and_no (is_known_parser m p.states) (has_controls p m) e

pub both_known : (p : Parts) (m : Places) → is_known_parser m p.states ≡ true → has_controls p m ≡ true → has_code_at p m ≡ true
both_known p m a b = and_from (is_known_parser m p.states) (has_controls p m) a b
