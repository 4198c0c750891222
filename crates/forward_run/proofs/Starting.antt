-- A net before the first event, and its events.
use Rattle.std.proofs.Common.{◌≡◌, ℕ, zero, suc, List, [], ◌∷◌, ◌++◌, length, map, get_or, Option, Some, None, Bor, All, refl, ap, sym, ◌∙◌, subst, arith, append_assoc}
use Rattle.std.specs.Prelude.{slice_get}
use Rattle.std.specs.Option.{IfSome, option_copied}
use Rattle.std.proofs.lemmas.List.{length-map, map-append}
use Rattle.std.proofs.lemmas.List.Elements.{All-head, All-tail}
use Rattle.p4_tree.specs.Tree.{Program}
use Rattle.p4_meaning.specs.Parts.{parts_of}
use Rattle.p4_meaning.specs.Pass.{Queued, kept_before}
use Rattle.p4_machine.specs.Buffers.{Buffer, IsMadeFor}
use Rattle.p4_tables.specs.Named.{tables_in}
use Rattle.p4_tables.specs.State.{Held}
use Rattle.indus_tree.specs.State.{Contents}
use Rattle.network_run.specs.Events.{Event, Enter, Leave, Set}
use Rattle.network_run.specs.World.{first_place}
use Rattle.switch_machines.specs.Programs.{no_controls}
use Rattle.control_maps.specs.Maps.{map_controls}
use Rattle.control_maps.specs.Numbers.{Numbered, named_in, IsMapOf, IsSettable}
use Rattle.path_runner.specs.Conditions.{AreFor, AreMapped, IsEvent}
use Rattle.path_runner.specs.Nets.{Switch, kept_of, State, lookups_of, controls_of, tables_of, AreSwitches, IsSame}
use Rattle.path_runner.specs.Starts.{state_before}
use Rattle.forward_run.specs.Job.{Job, IsEventAmong}
use Rattle.forward_run.specs.Run.{programs_of}
use Rattle.forward_run.specs.Switches.{HasNoMaps, no_maps, switch_before}

-- the state of a job before the first event
abbrev pub start_of : Job → State
start_of j = state_before j.network (record { hops = j.hops; link = 65535 }) (map (switch_before j.program) j.tables) (no_maps (length j.tables)) j.packets

-- ---- switches

before_at : (p : Program) (ts : List (List Held)) (i : ℕ) (x : Switch) → slice_get (map (switch_before p) ts) i ≡ Some x → switch_before p (get_or ts i []) ≡ x
before_at p [] i x e = absurd (cc)
before_at p (t ∷ ts) zero x e = let is : switch_before p t ≡ x = (cc) in is
before_at p (t ∷ ts) (suc i) x e = before_at p ts i x e

-- what they keep is what the world's switches keep at the start
pub before_are : (j : Job) → AreSwitches (programs_of j) (λ s. kept_before (parts_of j.program) (tables_in (parts_of j.program) (get_or j.tables s []))) (map (switch_before j.program) j.tables)
before_are j =
    record {
      programs = λ i x at. ap (λ (y : Switch). parts_of y.program) (before_at j.program j.tables i x at);
      kept = λ i x at. ap kept_of (before_at j.program j.tables i x at);
    }

-- a buffer for each
pub before_for : (p : Program) (ts : List (List Held)) (bs : List Buffer) → length bs ≡ length ts → All (λ b. IsMadeFor p b.needs) bs → AreFor (map (switch_before p) ts) bs
before_for p [] [] e h = tt
before_for p [] (b ∷ bs) e h = absurd (omega (arith, e))
before_for p (t ∷ ts) [] e h = absurd (omega (arith, e))
before_for p (t ∷ ts) (b ∷ bs) e h = (All-head (λ (b : Buffer). IsMadeFor p b.needs) b bs h, before_for p ts bs (omega (arith, e)) (All-tail (λ (b : Buffer). IsMadeFor p b.needs) b bs h))

-- ---- maps

none_at : (n k : ℕ) → get_or (no_maps n) k [] ≡ []
none_at zero k = refl
none_at (suc n) zero = refl
none_at (suc n) (suc k) = none_at n k

pub unmapped : (xs : List Switch) (n : ℕ) (maps : List (List Numbered)) → maps ≡ no_maps n → AreMapped xs maps
unmapped xs n maps is k x at = subst (IsMapOf (parts_of x.program) x.tables) (sym (ap (λ (ms : List (List Numbered)). get_or ms k []) is ∙ none_at n k)) tt

pub start_unmapped : (j : Job) (s : State) → s ≡ start_of j → HasNoMaps s
start_unmapped j s is k = ap (λ (x : State). get_or x.maps k []) is ∙ none_at (length j.tables) k

-- so a machine with these maps is one without
one_control : (o : Option Program) (ns : List Numbered) → ns ≡ [] → map_controls (lookups_of o ns) ≡ no_controls
one_control None ns e = refl
one_control (Some p) ns e = ap (λ (ns : List Numbered). map_controls (map (named_in (parts_of p)) ns)) e

pub controls_are : (s : State) → HasNoMaps s → controls_of s ≡ (λ k. no_controls)
controls_are s none = λ i k. one_control (slice_get (map (λ (x : Switch). x.program) s.switches) k) (get_or s.maps k []) (none k) i

-- ---- events

-- an event of so many packets and switches
event_fits : (s : State) (packets switches : ℕ) → length s.places ≡ packets → length s.switches ≡ switches → HasNoMaps s → (e : Event Contents) → IsEventAmong packets switches e → IsEvent s e
event_fits s packets switches p q none (Enter i) h = omega (arith, p, h)
event_fits s packets switches p q none (Leave i) h = omega (arith, p, h)
event_fits s packets switches p q none (Set k v c) h = (omega (arith, q, h), subst (λ (ns : List Numbered). IsSettable (get_or (tables_of s) k []) ns v c) (sym (none k)) tt)

-- those of a job are among those of the start
pub events_fit : (j : Job) (s : State) → s ≡ start_of j → length j.tables ≡ length j.network.names → All (IsEventAmong (length j.packets) (length j.network.names)) j.events → All (IsEventAmong (length s.places) (length s.switches)) j.events
events_fit j s is same h =
    subst (λ (n : ℕ). All (IsEventAmong n (length s.switches)) j.events) (sym places)
    (subst (λ (n : ℕ). All (IsEventAmong (length j.packets) n) j.events) (sym switches) h)
  where
    places : length s.places ≡ length j.packets
    places = ap (λ (x : State). length x.places) is ∙ length-map j.packets (λ a. first_place {Q = Queued} (Some a))

    switches : length s.switches ≡ length j.network.names
    switches = ap (λ (x : State). length x.switches) is ∙ length-map j.tables (switch_before j.program) ∙ same

-- an event of a state is one of a later state
pub event_stays : (s t : State) (e : Event Contents) → IsSame s t → HasNoMaps s → IsEventAmong (length s.places) (length s.switches) e → IsEvent t e
event_stays s t e same none h = event_fits t (length s.places) (length s.switches) same.packets switches (λ k. ap (λ (ms : List (List Numbered)). get_or ms k []) same.maps ∙ none k) e h
  where
    switches : length t.switches ≡ length s.switches
    switches =
        sym (length-map t.switches (λ (x : Switch). x.program)) ∙ (ap (λ (ps : List Program). length ps) same.kept.programs
        ∙ length-map s.switches (λ (x : Switch). x.program))

-- ---- switches that are made one by one

-- of items that all pass, the first one, where there is one
pub first_passes : {X : Type 0} (P : X → Type 0) (xs : List X) (first : Option (Bor X)) → option_copied first ≡ slice_get xs 0 → All P xs → IfSome first (λ x. P x.now)
first_passes P xs None is all = tt
first_passes P [] (Some x) is all = absurd (cc)
first_passes P (y ∷ ys) (Some x) is all = let same : x.now ≡ y = (cc) in subst P (sym same) (All-head P y ys all)

pub one_made :
    {X : Type 0} (view : X → Switch) (p : Program) (made now : List X) (x : X) (held : List Held) (left rest : List (List Held)) (all : List Switch) → left ≡ held ∷ rest → now ≡ made ++ x ∷ [] →
    view x ≡ switch_before p held → map view made ++ map (switch_before p) left ≡ all → map view now ++ map (switch_before p) rest ≡ all
one_made view p made now x held left rest all l n v h =
    let others = map (switch_before p) rest in
    ap (λ (xs : List _). map view xs ++ others) n
    ∙ ap (λ (xs : List Switch). xs ++ others) (map-append view made (x ∷ []))
    ∙ append_assoc (map view made) (view x ∷ []) others
    ∙ ap (λ (y : Switch). map view made ++ y ∷ others) v
    ∙ ap (λ (ts : List (List Held)). map view made ++ map (switch_before p) ts) (sym l)
    ∙ h
